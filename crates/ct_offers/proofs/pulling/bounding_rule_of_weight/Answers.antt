-- Both rules bound from above.
use Rattle.std.proofs.Common.{◌≡◌, ℕ, Option, Some, refl, sym, subst}
use Rattle.std.proofs.lemmas.Option.{slice_get_read, slice_get_past}
use Rattle.ct_words.specs.declared.claim.Side.TheVariants.{Upper}
use Rattle.ct_duals.specs.Bound.{AcceptedValue}
use Rattle.ct_rule_parts.specs.declared.support.Support.{Support}
use Rattle.ct_rule_parts.specs.declared.support.Support.TheVariants.{Nothing, Size, Bound, Odd, Local}
use Rattle.ct_rules.specs.declared.rule.Rule.TheVariants.{V9, V10}
use Rattle.ct_rules.specs.Rule.{row_of, rule_side}
use Rattle.ct_offers.specs.Inside.Pulled.{bounding_rule_of_weight}
use Rattle.ct_offers.proofs.pulling.bounding_rule_of_weight.Goals as goal

by_own : (place : ℕ) → rule_side (V10 place) ≡ Upper
unfolding row_of
by_own place = refl

by_other : (place : ℕ) → rule_side (V9 place) ≡ Upper
unfolding row_of
by_other place = refl

-- so each support but one of the kind that has a rule of its own
rule_of_other : (x : Support) (place : ℕ) → ((a : AcceptedValue) → x ≡ Local a → ⊥) → V9 place ≡ bounding_rule_of_weight (Some x) place
rule_of_other Nothing place other = refl
rule_of_other (Size e k) place other = refl
rule_of_other (Bound a) place other = refl
rule_of_other (Odd a m) place other = refl
rule_of_other (Local a) place other = absurd (other a refl)

pub returns-in_default : goal.returns-in_default
returns-in_default c = record {
  rule =
      subst (λ (x : Option Support). V9 c.args.place ≡ bounding_rule_of_weight x c.args.place)
      (sym (slice_get_past c.args.supports.now c.args.place c.in_default.ensures.lookup.3)) refl;
  side = by_other c.args.place;
}

pub returns-in-Local : goal.returns-in-Local
returns-in-Local c =
    let supports = c.args.supports.now in
    let place = c.args.place in
    let found = c.in-Some.ensures.lookup in record {
      rule =
          subst (λ (x : Option Support). V10 place ≡ bounding_rule_of_weight x place)
          (sym (slice_get_read supports _ place c.in-Some.support.now refl found.3.0 found.1))
          (subst (λ (x : Support). V10 place ≡ bounding_rule_of_weight (Some x) place) (sym c.in-Local.is) refl);
      side = by_own place;
    }

pub returns-in_default-support : goal.returns-in_default-support
returns-in_default-support c =
    let supports = c.args.supports.now in
    let place = c.args.place in
    let found = c.in-Some.ensures.lookup in record {
      rule =
          subst (λ (x : Option Support). V9 place ≡ bounding_rule_of_weight x place)
          (sym (slice_get_read supports _ place c.in-Some.support.now refl found.3.0 found.1))
          (rule_of_other c.in-Some.support.now place c.in_default-support.not-Local);
      side = by_other place;
    }
