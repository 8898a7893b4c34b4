use Rattle.std.proofs.Common.{◌≡◌, ℕ, ◌∷◌, [], map, true, refl, ap, subst}
use Rattle.ct_words.specs.declared.claim.Side.{Side}
use Rattle.ct_rule_parts.specs.Parts.{slots_on}
use Rattle.ct_slots.specs.Number.{bound_of}
use Rattle.ct_offers.proofs.PullingLemmas.{read_there, read_none, first_out, first_in, asked-applies, asked-none, asked-value}
use Rattle.ct_offers.proofs.pulling.offer_of_one.Goals as goal

pub value_where_defined-requires : goal.value_where_defined-requires
value_where_defined-requires c =
    let f = bound_of c.args.bounds.now in
    let side = c.rule_side.result in
    let there = read_there f side c.args.first c.bound_in_table.result c.in_ok-bound_in_table.field-0 c.bound_in_table.ensures c.in_ok-bound_in_table.was in
    asked-applies c.args.supports.now f c.args.rule c.args.entry (c.args.first ∷ []) c.requires.entry c.requires.condition c.requires.rests_on true
    (first_in c.args.first [] true there.0 refl)

pub returns-clause-value : goal.returns-clause-value
returns-clause-value c =
    let f = bound_of c.args.bounds.now in
    let side = c.rule_side.result in
    let there = read_there f side c.args.first c.bound_in_table.result c.in_ok-bound_in_table.field-0 c.bound_in_table.ensures c.in_ok-bound_in_table.was in
    let values = (c.in_ok-bound_in_table.field-0 ∷ []) in
    asked-value c.args.supports.now f c.args.rule c.args.entry (c.args.first ∷ []) c.requires.entry c.requires.condition c.requires.rests_on
    (first_in c.args.first [] true there.0 refl) values c.value_where_defined.result
    (subst (λ (s : Side). map f (slots_on s (c.args.first ∷ [])) ≡ values) c.rule_side.ensures (ap (λ (x : ℕ). x ∷ []) there.1))
    c.value_where_defined.ensures.value

pub returns-clause-limit : goal.returns-clause-limit
returns-clause-limit c = c.value_where_defined.ensures.limit

pub returns-in_err-bound_in_table-clause-value : goal.returns-in_err-bound_in_table-clause-value
returns-in_err-bound_in_table-clause-value c =
    let f = bound_of c.args.bounds.now in
    let out = read_none f c.rule_side.result c.args.first c.bound_in_table.result c.bound_in_table.ensures c.in_err-bound_in_table.was in
    asked-none c.args.supports.now f c.args.rule c.args.entry (c.args.first ∷ []) c.requires.entry c.requires.condition c.requires.rests_on
    (first_out c.args.first [] out) c.from_residual.result c.from_residual.ensures

pub returns-in_err-bound_in_table-clause-limit : goal.returns-in_err-bound_in_table-clause-limit
returns-in_err-bound_in_table-clause-limit c = rw c.from_residual.ensures tt
