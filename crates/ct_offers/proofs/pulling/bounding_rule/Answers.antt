-- Both rules bound from above.
use Rattle.std.proofs.Common.{◌≡◌, ℕ, Option, Some, refl, sym, subst}
use Rattle.std.proofs.lemmas.Option.{slice_get_read, slice_get_past}
use Rattle.ct_words.specs.declared.claim.Side.TheVariants.{Upper}
use Rattle.ct_duals.specs.Bound.{AcceptedValue}
use Rattle.ct_rule_parts.specs.declared.support.Support.{Support}
use Rattle.ct_rule_parts.specs.declared.support.Support.TheVariants.{Nothing, Size, Bound, Odd, Local}
use Rattle.ct_rules.specs.declared.rule.Rule.TheVariants.{U11, U12}
use Rattle.ct_rules.specs.Rule.{row_of, rule_side}
use Rattle.ct_offers.specs.Inside.Pulled.{bounding_rule}
use Rattle.ct_offers.proofs.pulling.bounding_rule.Goals as goal

by_own : (place : ℕ) → rule_side (U12 place) ≡ Upper
unfolding row_of
by_own place = refl

by_other : (place : ℕ) → rule_side (U11 place) ≡ Upper
unfolding row_of
by_other place = refl

-- so each support but one of the kind that has a rule of its own
rule_of_other : (x : Support) (place : ℕ) → ((a : AcceptedValue) (m : ℕ) → x ≡ Odd a m → ⊥) → U11 place ≡ bounding_rule (Some x) place
rule_of_other Nothing place other = refl
rule_of_other (Size e k) place other = refl
rule_of_other (Bound a) place other = refl
rule_of_other (Odd a m) place other = absurd (other a m refl)
rule_of_other (Local a) place other = refl

pub returns-in_default : goal.returns-in_default
returns-in_default c = record {
  rule =
      subst (λ (x : Option Support). U11 c.args.place ≡ bounding_rule x c.args.place)
      (sym (slice_get_past c.args.supports.now c.args.place c.in_default.ensures.lookup.3)) refl;
  side = by_other c.args.place;
}

pub returns-in-Odd : goal.returns-in-Odd
returns-in-Odd c =
    let supports = c.args.supports.now in
    let place = c.args.place in
    let found = c.in-Some.ensures.lookup in record {
      rule =
          subst (λ (x : Option Support). U12 place ≡ bounding_rule x place)
          (sym (slice_get_read supports _ place c.in-Some.support.now refl found.3.0 found.1))
          (subst (λ (x : Support). U12 place ≡ bounding_rule (Some x) place) (sym c.in-Odd.is) refl);
      side = by_own place;
    }

pub returns-in_default-support : goal.returns-in_default-support
returns-in_default-support c =
    let supports = c.args.supports.now in
    let place = c.args.place in
    let found = c.in-Some.ensures.lookup in record {
      rule =
          subst (λ (x : Option Support). U11 place ≡ bounding_rule x place)
          (sym (slice_get_read supports _ place c.in-Some.support.now refl found.3.0 found.1))
          (rule_of_other c.in-Some.support.now place c.in_default-support.not-Odd);
      side = by_other place;
    }
