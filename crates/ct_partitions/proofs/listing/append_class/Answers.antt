-- One more word of the first list.
use Rattle.std.proofs.Common.{ℕ, List, ◌++◌, map, take, get_or, ap, sym, ◌∙◌, append-nil}
use Rattle.std.specs.List.{flat_map}
use Rattle.std.proofs.lemmas.List.{take_more, take_all, flat_map_more}
use Rattle.ct_words.specs.Constructions.Joined.{followed_by}
use Rattle.ct_partitions.specs.Product.{all_followed}
use Rattle.ct_partitions.proofs.listing.append_class.Goals as goal

pub loop-x-init : goal.loop-x-init
loop-x-init c = sym (append-nil c.args.words.now.items)

pub loop-x-preserved : goal.loop-x-preserved
loop-x-preserved c =
    let words = c.args.words.now.items in
    let xs = c.args.first.now in
    let i = c.loop-x.x-index in
    let block : ℕ → List ℕ = λ x. map (λ y. followed_by c.args.m x y) c.args.second.now in
    c.in_ok-append_word.ensures
    ∙ ap (λ (ws : List ℕ). ws ++ block (get_or xs i 0)) c.loop-x.invariant
    ∙ flat_map_more block words (take i xs) (get_or xs i 0)
    ∙ ap (λ us. words ++ flat_map block us) (sym (take_more xs i 0 c.loop-x-test.true))

pub returns : goal.returns
returns c =
    let all = take_all c.loop-x.x-index c.args.first.now c.loop-x-test.false in
    c.loop-x.invariant ∙ ap (λ xs. c.args.words.now.items ++ all_followed c.args.m xs c.args.second.now) all
