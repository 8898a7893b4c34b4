-- A support gives its size at its entry.
use Rattle.std.proofs.Common.{◌≡◌, ℕ, ◌≤◌, Bool, true, false, cond, List, [], Option, Some, None, is_some, refl, ap, ◌∙◌}
use Rattle.std.specs.Prelude.{slice_get}
use Rattle.std.proofs.lemmas.Bool.{le-leb}
use Rattle.std.proofs.lemmas.List.Elements.{All-nil}
use Rattle.ct_words.specs.declared.limits.TheConstants.{MAX_BOUND}
use Rattle.ct_words.specs.declared.entry.Entry.{Entry}
use Rattle.ct_words.specs.declared.claim.Side.TheVariants.{Lower}
use Rattle.ct_words.specs.Entry.{is_entry}
use Rattle.ct_words.proofs.EntryLemmas.{same_entry-self}
use Rattle.ct_rule_parts.specs.declared.support.Support.{Support}
use Rattle.ct_rule_parts.specs.declared.support.Support.TheVariants.{Size}
use Rattle.ct_rule_parts.specs.Parts.{is_defined, has_weight, within_limit}
use Rattle.ct_rule_parts.specs.Slot.{claim_at}
use Rattle.ct_rule_parts.specs.Support.{size_at}
use Rattle.ct_plain_rules.specs.GivenCode.{given_code}
use Rattle.ct_weight_rules.specs.GivenCode.{given_code_of_weight}
use Rattle.ct_rules.specs.declared.rule.Rule.TheVariants.{L10, M10}
use Rattle.ct_rules.specs.Derivation.{IsDerived}
use Rattle.ct_rules.specs.Rule.{row_of}
use Rattle.ct_rules.proofs.JoinedDerivations.{derived_by_rule}

-- what a support gives at its own entry
given-size : (c : Option Support) (e : Entry) (s : ℕ) → c ≡ Some (Size e s) → size_at c e ≡ Some s
given-size c e s is = ap (λ (o : Option Support). size_at o e) is ∙ ap (λ (b : Bool). cond b (Some s) None) (same_entry-self e)

-- the bound is within the limit
given-limit : (c : Option Support) (e : Entry) (s : ℕ) → c ≡ Some (Size e s) → s ≤ MAX_BOUND → within_limit Lower (size_at c e) ≡ Some s
given-limit c e s is small = ap (within_limit Lower) (given-size c e s is) ∙ ap (λ (b : Bool). cond b (Some s) None) (le-leb s MAX_BOUND small)

-- the rule of the support is defined at its entry
defined-plain : (c : Option Support) (e : Entry) (s : ℕ) → is_entry e ≡ true → e.w ≡ None → c ≡ Some (Size e s) → is_defined (given_code c) e ≡ true
defined-plain c e s entry plain is =
    let sized : is_some (size_at c e) ≡ true = ap is_some (given-size c e s is) in
    let light : has_weight e ≡ false = ap is_some plain in
    rw (entry, light, sized) refl

defined-weighted : (c : Option Support) (e : Entry) (s w : ℕ) → is_entry e ≡ true → e.w ≡ Some w → c ≡ Some (Size e s) → is_defined (given_code_of_weight c) e ≡ true
defined-weighted c e s w entry heavy is =
    let sized : is_some (size_at c e) ≡ true = ap is_some (given-size c e s is) in
    let weighted : has_weight e ≡ true = ap is_some heavy in
    rw (entry, weighted, sized) refl

-- a support gives its size at its entry
pub support-derived : (supports : List Support) (place : ℕ) (e : Entry) (s : ℕ) → is_entry e ≡ true → s ≤ MAX_BOUND → slice_get supports place ≡ Some (Size e s)
    → IsDerived supports (claim_at (Lower, e) s)
unfolding row_of
support-derived supports place e s entry small at = go e.w refl where
  c : Option Support
  c = slice_get supports place

  go : (w : Option ℕ) → e.w ≡ w → IsDerived supports (claim_at (Lower, e) s)
  go None plain =
      let defined = defined-plain c e s entry plain at in
      derived_by_rule supports (L10 place) e [] s (ap (λ (b : Bool). cond b (Some []) None) defined) (All-nil (IsDerived supports))
      (ap (λ (b : Bool). cond b (within_limit Lower (size_at c e)) None) defined ∙ given-limit c e s at small)
  go (Some w) heavy =
      let defined = defined-weighted c e s w entry heavy at in
      derived_by_rule supports (M10 place) e [] s (ap (λ (b : Bool). cond b (Some []) None) defined) (All-nil (IsDerived supports))
      (ap (λ (b : Bool). cond b (within_limit Lower (size_at c e)) None) defined ∙ given-limit c e s at small)
