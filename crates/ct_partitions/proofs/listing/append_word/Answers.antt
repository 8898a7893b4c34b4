use Rattle.std.proofs.Common.{◌≡◌, ℕ, ◌-◌, ◌+◌, ◌*◌, ◌%◌, ◌^◌, ◌≤◌, List, [], ◌∷◌, ◌++◌, get_or, map, take, bit_or, sym, ap, ap₂, ◌∙◌, arith, append_assoc, append-nil}
use Rattle.std.proofs.lemmas.List.{map_more, take_all}
use Rattle.ct_words.specs.declared.limits.TheConstants.{MAX_N}
use Rattle.ct_words.specs.Constructions.Joined.{followed_by}
use Rattle.ct_words.proofs.Constructions.JoinedLemmas.{or-followed_by}
use Rattle.ct_partitions.proofs.listing.append_word.Goals as goal

pub loop-y-preserved : goal.loop-y-preserved
loop-y-preserved c =
    let m = c.args.m in
    let x = c.args.x in
    let ys = c.args.second.now in
    let i = c.loop-y.y-index in
    let y = get_or ys i 0 in
    let f : ℕ → ℕ = λ z. followed_by m x z in
    let room : MAX_N - m + m ≤ 32 = let few = c.requires.length in omega arith in
    let pushed : bit_or (x * 2 ^ m % 2 ^ 32) y ≡ f y =
    or-followed_by (MAX_N - m) m x y c.requires.word (c.requires.second i 0 c.loop-y-test.true) room in
    c.in_ok-push.ensures.items
    ∙ ap₂ (λ (ws : List ℕ) (w : ℕ). ws ++ w ∷ []) c.loop-y.invariant pushed
    ∙ append_assoc c.args.words.now.items (map f (take i ys)) (f y ∷ [])
    ∙ ap (λ ws. c.args.words.now.items ++ ws) (sym (map_more f ys i 0 c.loop-y-test.true))

pub loop-y-init : goal.loop-y-init
loop-y-init c = sym (append-nil c.args.words.now.items)

pub overflow_shl-x : goal.overflow_shl-x
overflow_shl-x c = let few = c.requires.length in omega (arith, few)

pub returns : goal.returns
returns c =
    let f : ℕ → ℕ = λ z. followed_by c.args.m c.args.x z in
    c.loop-y.invariant ∙ ap (λ ys. c.args.words.now.items ++ map f ys) (take_all c.loop-y.y-index c.args.second.now c.loop-y-test.false)
