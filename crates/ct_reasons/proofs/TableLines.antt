-- The lines of a table: no two have one claim, and those that one of them needs explain its claim.
use Rattle.std.proofs.Common.{◌≡◌, ℕ, ◌+◌, Bool, List, length, take, Some, sym, ap, subst, ◌∙◌, arith}
use Rattle.std.specs.Prelude.{◌≢◌, AllPairs, slice_get}
use Rattle.std.proofs.lemmas.List.{length-take-le}
use Rattle.std.proofs.lemmas.Option.{slice_get_within}
use Rattle.ct_words.specs.declared.claim.Claim.{Claim}
use Rattle.ct_words.specs.declared.claim.Side.{Side}
use Rattle.ct_words.specs.declared.claim.Side.TheVariants.{Lower, Upper}
use Rattle.ct_rule_parts.specs.Slot.{slot_of, IsBetter}
use Rattle.ct_rules.specs.Derivation.{LineValue}
use Rattle.ct_rules.proofs.Derivations.{derivation-take}
use Rattle.ct_kept.specs.Kept.{Rise}
use Rattle.ct_table.specs.Table.{TableValue, IsShownTable}
use Rattle.ct_derive.specs.Explanation.{IsExplanation}
use Rattle.ct_derive.specs.Pruning.{AreMarked, unmarked, pruned}
use Rattle.ct_derive.proofs.PrunedLines.{get_of_take, pairs_from_places, explanation_of_last}
use Rattle.ct_derive.proofs.MergedLines.{different-take}

not_better : (side : Side) (v : ℕ) → IsBetter side v v → ⊥
not_better Lower v h = omega arith
not_better Upper v h = omega arith

-- lines that rise have different claims
pub different_from_rise : (lines : List LineValue) → Rise lines → AllPairs (λ l m. l.claim ≢ m.claim) lines
different_from_rise lines rise =
    pairs_from_places (λ l m. l.claim ≢ m.claim) lines (λ i j l m lower at other. λ same.
    let better = rise i j l m lower at other (ap slot_of same) in
    not_better l.claim.side m.claim.value
    (subst (λ (c : Claim). IsBetter l.claim.side m.claim.value c.value) same better))

-- the marked lines up to the last one, by themselves
pub explained_in_table : (table : TableValue) → IsShownTable table → (last : ℕ) (l : LineValue) → slice_get table.lines last ≡ Some l
    → (marks : List Bool) → length marks ≡ last + 1 → AreMarked (take (last + 1) table.lines) marks
    → IsExplanation table.supports (slot_of l.claim) l.claim.value (pruned (unmarked marks) (take (length marks) table.lines))
explained_in_table table shown last l at marks size marked =
    let within = slice_get_within table.lines last l at in
    let count = length-take-le (last + 1) table.lines (omega arith) in
    subst (λ n. IsExplanation table.supports (slot_of l.claim) l.claim.value (pruned (unmarked marks) (take n table.lines))) (sym size)
    (explanation_of_last table.supports (take (last + 1) table.lines) marks last l
    (derivation-take table.supports (last + 1) table.lines shown.derivation)
    (different-take (last + 1) table.lines (different_from_rise table.lines shown.rise))
    marked (sym count) (get_of_take table.lines (last + 1) last (omega arith) ∙ at))
