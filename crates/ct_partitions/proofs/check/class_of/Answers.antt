-- A word is of the class at hand where fewer are before it than the class has, and else of a later one.
use Rattle.std.proofs.Common.{◌≡◌, ℕ, ◌+◌, ◌-◌, ◌<◌, ◌≤◌, suc, List, ◌∷◌, Vec, Global, length, drop, get_or, ap, sym, ◌∙◌, subst, arith}
use Rattle.std.specs.Prelude.{if◌then◌else◌}
use Rattle.std.proofs.lemmas.Bool.{lt-ltb, le-ltb}
use Rattle.std.proofs.lemmas.List.{drop_more, drop_all}
use Rattle.ct_classes.specs.Partition.{word_lists}
use Rattle.ct_partitions.specs.Check.{class_at}
use Rattle.ct_partitions.proofs.check.class_of.Goals as goal

-- the classes from this one on
from_here : (classes : List (Vec ℕ Global)) (k : ℕ) (v : Vec ℕ Global) → k < length classes → v ≡ get_or classes k v
    → drop k classes ≡ v ∷ drop (k + 1) classes
from_here classes k v within is = drop_more classes k v within ∙ ap (λ y. y ∷ drop (k + 1) classes) (sym is)

here : (classes : List (Vec ℕ Global)) (k rest : ℕ) (v : Vec ℕ Global) → k < length classes → v ≡ get_or classes k v → rest < length v.items
    → k + class_at (word_lists (drop k classes)) rest ≡ k
here classes k rest v within is few =
    ap (λ vs. k + class_at (word_lists vs) rest) (from_here classes k v within is)
    ∙ ap (λ b. k + (if b then 0 else suc (class_at (word_lists (drop (k + 1) classes)) (rest - length v.items)))) (lt-ltb rest (length v.items) few)
    ∙ omega arith

later : (classes : List (Vec ℕ Global)) (k rest : ℕ) (v : Vec ℕ Global) → k < length classes → v ≡ get_or classes k v → length v.items ≤ rest
    → k + class_at (word_lists (drop k classes)) rest ≡ k + 1 + class_at (word_lists (drop (k + 1) classes)) (rest - length v.items)
later classes k rest v within is many =
    ap (λ vs. k + class_at (word_lists vs) rest) (from_here classes k v within is)
    ∙ ap (λ b. k + (if b then 0 else suc (class_at (word_lists (drop (k + 1) classes)) (rest - length v.items)))) (le-ltb rest (length v.items) many)
    ∙ omega arith

pub returns-then-rest-len : goal.returns-then-rest-len
returns-then-rest-len c =
    let v = c.index-classes-number.result in
    let few = subst (λ m. c.loop-number.rest < m) (c.len.ensures ∙ v.ok.0) c.if-rest-len.true in
    sym (c.loop-number.invariant ∙ here c.args.classes.now c.loop-number.number c.loop-number.rest v c.loop-number-test.true c.index-classes-number.is few)

pub loop-number-preserved : goal.loop-number-preserved
loop-number-preserved c =
    let k = c.loop-number.number in
    let rest = c.loop-number.rest in
    let v = c.index-classes-number.result in
    let many = subst (λ m. m ≤ rest) (c.len.ensures ∙ v.ok.0) c.if-rest-len.false in
    c.loop-number.invariant ∙ later c.args.classes.now k rest v c.loop-number-test.true c.index-classes-number.is many
    ∙ ap (λ m. k + 1 + class_at (word_lists (drop (k + 1) c.args.classes.now)) (rest - m)) (sym (c.len-rest.ensures ∙ v.ok.0))

pub returns : goal.returns
returns c =
    let classes = c.args.classes.now in
    let k = c.loop-number.number in
    let over = c.loop-number-test.false in
    let within = c.loop-number.auto.number-end in
    let end : k + 0 ≡ length classes = omega (arith, over, within) in
    sym (c.loop-number.invariant ∙ ap (λ vs. k + class_at (word_lists vs) c.loop-number.rest) (drop_all k classes over) ∙ end)
