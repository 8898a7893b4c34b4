use Rattle.std.proofs.Common.{◌≡◌, ℕ, suc, ◌+◌, ◌-◌, ◌*◌, ◌%◌, ◌^◌, ◌<◌, ◌≤◌, List, [], ◌∷◌, ◌++◌, length, take, get_or, min, bit_or, sym, ap, ap₂, ◌∙◌, add-one, arith}
use Rattle.std.proofs.lemmas.List.{length_push}
use Rattle.std.proofs.lemmas.Slice.Zip.{zip_turn, zip_end}
use Rattle.ct_words.specs.Constructions.Joined.{followed_by}
use Rattle.ct_words.specs.Constructions.Juxtaposed.{juxtaposed}
use Rattle.ct_words.proofs.Constructions.JoinedLemmas.{or-followed_by}
use Rattle.ct_words.proofs.Constructions.JuxtaposedCodes.{juxtaposed-more, juxtaposed-all}
use Rattle.ct_build.proofs.WordByWord.{first_from, second_from}
use Rattle.ct_build.proofs.juxtaposed.joined_words.Goals as goal

-- two words in a number of 32 bits
in_room : (m : ℕ) → m < 32 → 32 - m + m ≤ 32
in_room m short = omega arith

no_less : (k most : ℕ) → k ≡ most → most ≤ k
no_less k most same = omega arith

pub loop-x-preserved : goal.loop-x-preserved
loop-x-preserved c =
    let xs = c.args.first.now in
    let ys = c.args.second.now in
    let m = c.args.m in
    let k = length c.loop-x.yielded in
    let first = first_from _ _ _ _ c.into_iter-x-iterator.ensures.into_iter_gives c.zip-x-items.ensures.first c.iter.ensures.rest in
    let second = second_from _ _ _ c.into_iter-x-iterator.ensures.into_iter_gives c.zip-x-items.ensures.second.0 in
    let turn =
    zip_turn xs ys c.loop-x.yielded c.into_iter-x-iterator.result c.loop-x.x-iterator c.next.new.self c.next.result first second
    c.loop-x.yielded_by (c.in-Some.x, c.in-Some.y) c.in-Some.is c.next.ensures.steps in
    let pushed : bit_or (c.in-Some.x.now * 2 ^ m % 2 ^ 32) c.in-Some.y.now ≡ followed_by m (get_or xs k 0) (get_or ys k 0) =
    ap₂ (λ (a b : ℕ). bit_or (a * 2 ^ m % 2 ^ 32) b) (turn.2 0) (turn.3 0)
    ∙ or-followed_by (32 - m) m (get_or xs k 0) (get_or ys k 0) (c.requires.first k 0 turn.0) (c.requires.second k 0 turn.1)
    (in_room m c.requires.length) in
    let long : length (c.loop-x.yielded ++ (c.in-Some.x, c.in-Some.y) ∷ []) ≡ suc k =
    length_push c.loop-x.yielded (c.in-Some.x, c.in-Some.y) ∙ add-one k in
    c.in_ok-push.ensures.items
    ∙ ap₂ (λ (ws : List ℕ) (w : ℕ). ws ++ w ∷ []) c.loop-x.invariant pushed
    ∙ sym (juxtaposed-more m xs ys k turn.0 turn.1)
    ∙ ap (λ j. juxtaposed m (take j xs) (take j ys)) (sym long)

pub returns : goal.returns
returns c =
    let xs = c.args.first.now in
    let ys = c.args.second.now in
    let first = first_from _ _ _ _ c.into_iter-x-iterator.ensures.into_iter_gives c.zip-x-items.ensures.first c.iter.ensures.rest in
    let second = second_from _ _ _ c.into_iter-x-iterator.ensures.into_iter_gives c.zip-x-items.ensures.second.0 in
    let all =
    zip_end xs ys c.loop-x.yielded c.into_iter-x-iterator.result c.loop-x.x-iterator c.next.new.self c.next.result first second
    c.loop-x.yielded_by c.in-None.is c.next.ensures.steps in
    let whole : length c.loop-x.yielded ≡ min (length xs) (length ys) = all in
    c.loop-x.invariant ∙ juxtaposed-all c.args.m xs ys (length c.loop-x.yielded) (no_less _ _ whole)

pub overflow_shl-x : goal.overflow_shl-x
overflow_shl-x c = c.requires.length
