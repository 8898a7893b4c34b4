-- A step against which there is no reason is right, and the other way round.
use Rattle.std.proofs.Common.{◌≡◌, ℕ, ◌≤◌, Bool, true, false, nat_lt, if◌then◌else◌, List, [], ◌∷◌, length, Option, Some, None, refl, ap, subst, ◌∙◌, arith, ltb-true, ltb-false}
use Rattle.std.specs.Option.{option_map}
use Rattle.std.proofs.lemmas.Bool.{and_parts}
use Rattle.ct_words.specs.declared.entry.Entry.{Entry}
use Rattle.ct_words.specs.Code.{CodeValue}
use Rattle.ct_words.specs.Pairs.{first_of}
use Rattle.ct_words.proofs.CheckLemmas.{first_of-None}
use Rattle.ct_build.specs.declared.fault.BuildFault.TheVariants.{Short, Few}
use Rattle.ct_build.specs.declared.step.Step.{Step}
use Rattle.ct_build.specs.declared.step.Step.TheVariants.{Trim}
use Rattle.ct_build.specs.Build.{shape_of, is_right_length, is_right_weight, is_right_other, distance_of, size_of, other_of, step_distance, part_fault, other_fault, short_fault, above_limit, sizes_fault, few_fault, empty_fault, counted_fault, built, build_fault, IsRightBuild}
use Rattle.ct_build.proofs.StepLemmas.{then_true, else_false}
use Rattle.ct_build.proofs.BuildFaults.{none_above, few_from, some_words}

enough_from : (step : Step) (have : ℕ) → few_fault step have ≡ None → (count : ℕ) → step ≡ Trim count → count ≤ have
unfolding few_fault
enough_from step have none count is = go (subst (λ s. few_fault s have ≡ None) is none)
  where
    go : (if nat_lt have count then Some (Few have count) else None) ≡ None → count ≤ have
    go none' = ltb-false have count (else_false _ _ none')

none_few : (step : Step) (have : ℕ) → ((count : ℕ) → step ≡ Trim count → count ≤ have) → few_fault step have ≡ None
unfolding few_fault
none_few (Trim count) have enough = go (nat_lt have count) refl
  where
    go : (b : Bool) → nat_lt have count ≡ b → (if b then Some (Few have count) else None) ≡ None
    go true less = absurd (let more = enough count refl in let below = ltb-true have count less in omega arith)
    go false less = refl
none_few step have enough = refl

none_short : (have want : ℕ) → want ≤ have → short_fault have want ≡ None
none_short have want far = go (nat_lt have want) refl
  where
    go : (b : Bool) → nat_lt have want ≡ b → (if b then Some (Short have want) else None) ≡ None
    go true less = absurd (let below = ltb-true have want less in omega arith)
    go false less = refl

none_empty : (words : List ℕ) → 1 ≤ length words → empty_fault words ≡ None
none_empty [] some = absurd (omega arith)
none_empty (x ∷ xs) some = refl

-- the first of two, neither of which is there
neither : {X : Type 0} {a b : Option X} → a ≡ None → b ≡ None → first_of a b ≡ None
neither {b = b} first second = ap (λ z. first_of z b) first ∙ second

pub right_from : (step : Step) (e : Entry) (part : CodeValue) (other : Option CodeValue) → build_fault step e part other ≡ None → IsRightBuild step e part other
unfolding build_fault sizes_fault
right_from step e part other none =
    let beside = option_map shape_of other in
    let count = length (built step e part other) in
    let all = first_of-None (counted_fault step e (shape_of part) beside count) (empty_fault (built step e part other)) none in
    let one = first_of-None (part_fault step e (shape_of part)) _ all.0 in
    let two = first_of-None (other_fault step e (shape_of part) beside) _ one.1 in
    let three = first_of-None (short_fault (step_distance step part.d (distance_of beside)) e.d) _ two.1 in
    let four = first_of-None (sizes_fault step (shape_of part) beside count) (few_fault step (length part.words)) three.1 in
    let first = first_of-None (above_limit (length part.words)) _ four.0 in
    let second = first_of-None (above_limit (size_of (other_of step beside))) _ first.1 in
    let both = and_parts (is_right_length step e.n part.n) (is_right_weight step e.n e.w part.w) (then_true _ _ one.0) in
    record {
      part_length = both.0;
      part_weight = both.1;
      beside = then_true (is_right_other step e (shape_of part) beside) _ two.0;
      distance = ltb-false (step_distance step part.d (distance_of beside)) e.d (else_false _ _ three.0);
      part_size = few_from (length part.words) first.0;
      other_size = few_from (size_of (other_of step beside)) second.0;
      size = few_from count second.1;
      enough = enough_from step (length part.words) four.1;
      some = some_words (built step e part other) all.1;
    }

pub none_from : (step : Step) (e : Entry) (part : CodeValue) (other : Option CodeValue) → IsRightBuild step e part other → build_fault step e part other ≡ None
unfolding build_fault sizes_fault
none_from step e part other right =
    let beside = option_map shape_of other in
    let count = length (built step e part other) in
    let shape : part_fault step e (shape_of part) ≡ None = rw (right.part_length, right.part_weight) refl in
    let next : other_fault step e (shape_of part) beside ≡ None = rw right.beside refl in
    let sizes : sizes_fault step (shape_of part) beside count ≡ None =
    neither (none_above (length part.words) right.part_size) (neither (none_above (size_of (other_of step beside)) right.other_size) (none_above count right.size)) in
    neither
    (neither shape (neither next (neither (none_short (step_distance step part.d (distance_of beside)) e.d right.distance)
    (neither sizes (none_few step (length part.words) right.enough)))))
    (none_empty (built step e part other) right.some)
