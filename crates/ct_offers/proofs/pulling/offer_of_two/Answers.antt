-- The bounds of the entries are read one after the other, as far as these are in the table.
use Rattle.std.proofs.Common.{◌≡◌, ℕ, List, ◌∷◌, [], map, true, refl, ap₂, subst}
use Rattle.std.specs.Prelude.{false}
use Rattle.ct_words.specs.declared.claim.Side.{Side}
use Rattle.ct_rule_parts.specs.Parts.{are_entries, slots_on}
use Rattle.ct_slots.specs.Number.{bound_of}
use Rattle.ct_offers.proofs.PullingLemmas.{read_there, read_none, first_out, first_in, asked-applies, asked-none, asked-value}
use Rattle.ct_offers.proofs.pulling.offer_of_two.Goals as goal
use Rattle.ct_offers.proofs.pulling.offer_of_two.Goals.{In_ok-bound_in_table-2}

all_in : (c : In_ok-bound_in_table-2) → are_entries (c.args.first ∷ c.args.second ∷ []) ≡ true
all_in c =
    let f = bound_of c.args.bounds.now in
    let side = c.rule_side-side.result in
    let first = read_there f side c.args.first c.bound_in_table.result c.in_ok-bound_in_table.field-0 c.bound_in_table.ensures c.in_ok-bound_in_table.was in
    let second = read_there f side c.args.second c.bound_in_table-2.result c.in_ok-bound_in_table-2.field-0
    c.bound_in_table-2.ensures c.in_ok-bound_in_table-2.was in
    first_in c.args.first (c.args.second ∷ []) true first.0
    (first_in c.args.second [] true second.0 refl)

pub value_where_defined-requires : goal.value_where_defined-requires
value_where_defined-requires c =
    let f = bound_of c.args.bounds.now in
    asked-applies c.args.supports.now f c.args.rule c.args.entry (c.args.first ∷ c.args.second ∷ [])
    c.requires.entry c.requires.condition c.requires.rests_on true
    (all_in (goal.at.value_where_defined-requires c).In_ok-bound_in_table-2)

pub returns-clause-value : goal.returns-clause-value
returns-clause-value c =
    let f = bound_of c.args.bounds.now in
    let side = c.rule_side-side.result in
    let first = read_there f side c.args.first c.bound_in_table.result c.in_ok-bound_in_table.field-0 c.bound_in_table.ensures c.in_ok-bound_in_table.was in
    let second = read_there f side c.args.second c.bound_in_table-2.result c.in_ok-bound_in_table-2.field-0
    c.bound_in_table-2.ensures c.in_ok-bound_in_table-2.was in
    let values = (c.in_ok-bound_in_table.field-0 ∷ c.in_ok-bound_in_table-2.field-0 ∷ []) in
    asked-value c.args.supports.now f c.args.rule c.args.entry (c.args.first ∷ c.args.second ∷ []) c.requires.entry c.requires.condition c.requires.rests_on
    (all_in (goal.at.returns-clause-value c).In_ok-bound_in_table-2) values c.value_where_defined.result
    (subst (λ (s : Side). map f (slots_on s (c.args.first ∷ c.args.second ∷ [])) ≡ values) c.rule_side-side.ensures
    (ap₂ (λ (x : ℕ) (xs : List ℕ). x ∷ xs) first.1
    (ap₂ (λ (x : ℕ) (xs : List ℕ). x ∷ xs) second.1 refl)))
    c.value_where_defined.ensures.value

pub returns-clause-limit : goal.returns-clause-limit
returns-clause-limit c = c.value_where_defined.ensures.limit

pub returns-in_err-bound_in_table-clause-value : goal.returns-in_err-bound_in_table-clause-value
returns-in_err-bound_in_table-clause-value c =
    let f = bound_of c.args.bounds.now in
    let side = c.rule_side-side.result in
    let out = read_none f side c.args.first c.bound_in_table.result c.bound_in_table.ensures c.in_err-bound_in_table.was in
    asked-none c.args.supports.now f c.args.rule c.args.entry (c.args.first ∷ c.args.second ∷ []) c.requires.entry c.requires.condition c.requires.rests_on
    (first_out c.args.first (c.args.second ∷ []) out)
    c.from_residual.result c.from_residual.ensures

pub returns-in_err-bound_in_table-clause-limit : goal.returns-in_err-bound_in_table-clause-limit
returns-in_err-bound_in_table-clause-limit c = rw c.from_residual.ensures tt

pub returns-in_err-bound_in_table-2-clause-value : goal.returns-in_err-bound_in_table-2-clause-value
returns-in_err-bound_in_table-2-clause-value c =
    let f = bound_of c.args.bounds.now in
    let side = c.rule_side-side.result in
    let first = read_there f side c.args.first c.bound_in_table.result c.in_ok-bound_in_table.field-0 c.bound_in_table.ensures c.in_ok-bound_in_table.was in
    let out = read_none f side c.args.second c.bound_in_table-2.result c.bound_in_table-2.ensures c.in_err-bound_in_table-2.was in
    asked-none c.args.supports.now f c.args.rule c.args.entry (c.args.first ∷ c.args.second ∷ []) c.requires.entry c.requires.condition c.requires.rests_on
    (first_in c.args.first (c.args.second ∷ []) false first.0 (first_out c.args.second [] out))
    c.from_residual-in_err-bound_in_table-2.result c.from_residual-in_err-bound_in_table-2.ensures

pub returns-in_err-bound_in_table-2-clause-limit : goal.returns-in_err-bound_in_table-2-clause-limit
returns-in_err-bound_in_table-2-clause-limit c = rw c.from_residual-in_err-bound_in_table-2.ensures tt
