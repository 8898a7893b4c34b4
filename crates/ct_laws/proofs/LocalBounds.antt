-- The local bound of evidence of kind jlocal: what V10 gives by it, that this is sound, and that the table's bound reaches it.
use Rattle.std.proofs.Common.{◌≡◌, ℕ, ◌≤◌, Bool, true, cond, List, map, All, Option, Some, None, is_some, sym, ap, subst, ◌∙◌, refl, arith, option_map}
use Rattle.std.specs.Prelude.{IsSome, min, slice_get}
use Rattle.std.proofs.lemmas.Option.{same_Some}
use Rattle.ct_words.specs.declared.limits.TheConstants.{MAX_BOUND}
use Rattle.ct_words.specs.declared.claim.Claim.{Claim}
use Rattle.ct_words.specs.declared.claim.Side.TheVariants.{Upper}
use Rattle.ct_words.specs.Code.{IsTrueUpper}
use Rattle.ct_words.specs.Numbers.{numbers_of}
use Rattle.ct_words.proofs.EntryLemmas.{same_entry-self}
use Rattle.ct_duals.specs.declared.dual.Dual.{Dual}
use Rattle.ct_duals.specs.declared.fault.DualFault.{DualFault}
use Rattle.ct_duals.specs.Bound.{AcceptedValue, IsAccepted, AreTrueUppers, dual_premises}
use Rattle.ct_duals.specs.Local.{local_bound}
use Rattle.ct_duals.specs.Check.{dual_fault}
use Rattle.ct_duals.proofs.Faults.{accepted-from_none}
use Rattle.ct_duals.proofs.Premises.{premises_are_entries}
use Rattle.ct_rule_parts.specs.declared.support.Support.{Support}
use Rattle.ct_rule_parts.specs.declared.support.Support.TheVariants.{Local}
use Rattle.ct_rule_parts.specs.Local.{local_value}
use Rattle.ct_rule_parts.specs.Parts.{are_entries, is_defined, has_weight, slots_on, within_limit}
use Rattle.ct_rule_parts.specs.Slot.{Slot, slot_of}
use Rattle.ct_rule_parts.specs.Support.{local_at}
use Rattle.ct_rule_parts.proofs.DualLemmas.{are_entries-from_All}
use Rattle.ct_rule_parts.proofs.PlainEntries.{a_weight}
use Rattle.ct_weight_rules.specs.Delsarte.{premises_of_dual}
use Rattle.ct_weight_rules.specs.LocalDuals.{local_above}
use Rattle.ct_weight_rules.proofs.LawfulLocalDuals.{checked_local-true}
use Rattle.ct_rules.specs.declared.rule.Rule.TheVariants.{V10}
use Rattle.ct_rules.specs.Derivation.{IsDerived, IsBest}
use Rattle.ct_rules.specs.Rule.{row_of, premises_of, value_of}
use Rattle.ct_rules.proofs.JoinedDerivations.{derived_by_rule}
use Rattle.ct_kind.specs.declared.evidence.Evidence.TheVariants as evidence
use Rattle.ct_files.specs.Evidence.{IsSound}
use Rattle.ct_kind.specs.Named.{NamedCode}
use Rattle.ct_kind.specs.declared.fault.SubmitFault.TheVariants as fault
use Rattle.ct_kind.proofs.Stating.{option_map-none}
use Rattle.ct_dual_files.specs.DualKind.{with_at_zero, local_support}
use Rattle.ct_piece.specs.Piece.{PieceValue}
use Rattle.ct_piece.specs.Standing.{AreStanding}
use Rattle.ct_piece.specs.Supports.{supports_of}
use Rattle.ct_laws.proofs.DualSupports.{placed_piece, gives_local}
use Rattle.ct_laws.specs.EvidenceSupport.{IsSupportOf}
use Rattle.ct_laws.proofs.DualReaching.{given_there}

-- what a support gives at the entry of its dual
given-local : (c : Option Support) (a : AcceptedValue) → c ≡ Some (Local a) → local_at c a.dual.entry ≡ Some a
given-local c a is =
    ap (λ (o : Option Support). local_at o a.dual.entry) is ∙ ap (λ (b : Bool). cond b (Some a) None) (same_entry-self a.dual.entry)

-- the local bound of a dual is within the limit
bound-limit : (a : AcceptedValue) (us : List ℕ) → within_limit Upper (Some (local_value a us)) ≡ Some (local_value a us)
unfolding local_bound
bound-limit a us =
    let same : min (local_value a us) MAX_BOUND ≡ local_value a us = omega arith in
    ap Some same

-- what V10 rests on and gives by the support at a place
pub record GivesLocal (supports : List Support) (place : ℕ) (a : AcceptedValue) : Type 0 where
  pub premises : premises_of supports (V10 place) a.dual.entry ≡ Some (slots_on Upper (dual_premises a.dual))
  pub value : (us : List ℕ) → value_of supports (V10 place) a.dual.entry us ≡ Some (local_value a us)

local-gives : (supports : List Support) (place : ℕ) (a : AcceptedValue) → IsAccepted a → IsSome a.dual.entry.w
    → slice_get supports place ≡ Some (Local a) → GivesLocal supports place a
unfolding row_of
local-gives supports place a h some at =
    let e = a.dual.entry in
    let c = slice_get supports place in
    let given = given-local c a at in
    let heavy : has_weight e ≡ true = some in
    let there : is_some (local_at c e) ≡ true = ap is_some given in
    let rests : are_entries (premises_of_dual (local_at c e)) ≡ true =
    ap (λ (o : Option AcceptedValue). are_entries (premises_of_dual o)) given
    ∙ are_entries-from_All (dual_premises a.dual) (premises_are_entries a.dual h.form) in
    let defined : is_defined (local_above c) e ≡ true = rw (h.form.entry, heavy, there, rests) refl in
    record {
      premises =
          ap (λ (b : Bool). cond b (Some (slots_on Upper (premises_of_dual (local_at c e)))) None) defined
          ∙ ap (λ (o : Option AcceptedValue). Some (slots_on Upper (premises_of_dual o))) given;
      value = λ us.
          ap (λ (b : Bool). cond b (within_limit Upper (option_map (λ (a : AcceptedValue). local_value a us) (local_at c e))) None) defined
          ∙ ap (λ (o : Option AcceptedValue). within_limit Upper (option_map (λ (a : AcceptedValue). local_value a us) o)) given ∙ bound-limit a us;
    }

-- what accepted evidence of kind jlocal gives
record IsGiven (supports : List Support) (place : ℕ) (d : Dual) : Type 0 where
  none : dual_fault (numbers_of d.entry) d ≡ None
  gives : GivesLocal supports place (with_at_zero d)

given : (known : List NamedCode) (supports : List Support) (place : ℕ) (d : Dual) → IsSupportOf known supports place (evidence.JohnsonLocal d)
    → IsGiven supports place d
given known supports place d h =
    let none = option_map-none fault.Dual (dual_fault (numbers_of d.entry) d) h.faultless in
    let at : slice_get supports place ≡ Some (Local (with_at_zero d)) =
    h.given ∙ ap (λ (reason : Option DualFault). Some (local_support reason d)) none in
    record { none = none; gives = local-gives supports place (with_at_zero d) (accepted-from_none d h.sound.0 none) h.sound.1 at }

pub local_premises : (known : List NamedCode) (supports : List Support) (place : ℕ) (d : Dual)
    → IsSupportOf known supports place (evidence.JohnsonLocal d) → premises_of supports (V10 place) d.entry ≡ Some (slots_on Upper (dual_premises d))
local_premises known supports place d h = (given known supports place d h).gives.premises

pub local_number : (known : List NamedCode) (supports : List Support) (place : ℕ) (d : Dual) (us : List ℕ)
    → IsSupportOf known supports place (evidence.JohnsonLocal d) → value_of supports (V10 place) d.entry us ≡ Some (local_value (with_at_zero d) us)
local_number known supports place d us h = (given known supports place d h).gives.value us

-- no code is larger
pub local_sound : (known : List NamedCode) (supports : List Support) (place : ℕ) (d : Dual) (us : List ℕ) (v : ℕ)
    → IsSupportOf known supports place (evidence.JohnsonLocal d) → AreTrueUppers (dual_premises d) us
    → value_of supports (V10 place) d.entry us ≡ Some v → IsTrueUpper d.entry v
local_sound known supports place d us v h uppers is =
    let weighted = a_weight d.entry h.sound.1 in
    let value = local_number known supports place d us h in
    let same : local_value (with_at_zero d) us ≡ v = same_Some (local_value (with_at_zero d) us) v (sym value ∙ is) in
    subst (IsTrueUpper d.entry) same
    (checked_local-true d weighted.0 us weighted.1 h.sound.0 (given known supports place d h).none uppers)

-- the best upper bound of the entry of a piece that stands is no greater than its local bound, from whatever upper bounds are derived of what its
-- dual rests on
pub local_reached : (ps : List PieceValue) (k : ℕ) (p : PieceValue) (d : Dual) (claims : List Claim) (v : ℕ) → AreStanding ps
    → slice_get ps k ≡ Some p → p.evidence ≡ evidence.JohnsonLocal d → map slot_of claims ≡ slots_on Upper (dual_premises d) → All (IsDerived (supports_of ps)) claims
    → IsBest (supports_of ps) (Upper, d.entry) v → v ≤ local_value (with_at_zero d) (map (λ c. c.value) claims)
unfolding row_of
local_reached ps k p d claims v h read is premises each best =
    let a = with_at_zero d in
    let us = map (λ (c : Claim). c.value) claims in
    let there = given_there ps k p (Local a) h read (gives_local ps k p d h read is) in
    let sound : IsSound (evidence.JohnsonLocal d) = subst IsSound is (placed_piece ps k p h read).right.sound in
    let gives = local-gives (supports_of ps) k a there.1 sound.1 there.0 in
    best.none_better (local_value a us)
    (derived_by_rule (supports_of ps) (V10 k) d.entry claims (local_value a us)
    (gives.premises ∙ ap (λ (ss : List Slot). Some ss) (sym premises)) each (gives.value us))
