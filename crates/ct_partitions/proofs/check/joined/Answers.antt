-- One more class.
use Rattle.std.proofs.Common.{ℕ, List, ◌++◌, Vec, Global, ap, ap₂, sym, ◌∙◌}
use Rattle.std.proofs.lemmas.List.{take_all}
use Rattle.ct_classes.specs.Partition.{word_lists, words_of_classes}
use Rattle.ct_partitions.proofs.ClassLemmas.{lists_more}
use Rattle.ct_partitions.proofs.check.joined.Goals as goal

pub loop-class-preserved : goal.loop-class-preserved
loop-class-preserved c =
    let classes = c.args.classes.now in
    let i = c.loop-class.class-index in
    let items_are = c.deref.ensures.value ∙ ap (λ (v : Vec ℕ Global). v.items) c.class-item.is in
    c.in_ok-extend_from_slice.ensures.items
    ∙ ap₂ (λ (ws xs : List ℕ). ws ++ xs) c.loop-class.invariant items_are
    ∙ sym (lists_more classes i c.class-item.result c.loop-class-test.true)

pub returns : goal.returns
returns c =
    c.loop-class.invariant ∙ ap (λ vs. words_of_classes (word_lists vs)) (take_all c.loop-class.class-index c.args.classes.now c.loop-class-test.false)
