-- Sizes that parity excludes by evidence of kind odd: what U12 gives by it, that this is sound, and that the table's bound reaches it.
use Rattle.std.proofs.Common.{◌≡◌, ℕ, ◌-◌, ◌%◌, ◌≤◌, ◌<◌, Bool, true, false, cond, List, map, All, Option, Some, None, is_some, option_map, refl, sym, ap, subst, ◌∙◌, arith, leb-true, le-leb, eq-eqb}
use Rattle.std.specs.Prelude.{ℤ, pos, ◌*ℤ◌, ◌<ℤ◌, int_lt, nat_le, ◌&&◌, ◌==◌, if◌then◌else◌, min, slice_get}
use Rattle.std.proofs.lemmas.Bool.{and_from}
use Rattle.std.proofs.lemmas.Int.{ints}
use Rattle.std.proofs.lemmas.Option.{cond_some}
use Rattle.ct_words.specs.declared.limits.TheConstants.{MAX_BOUND}
use Rattle.ct_words.specs.declared.claim.Claim.{Claim}
use Rattle.ct_words.specs.declared.claim.Side.TheVariants.{Upper}
use Rattle.ct_words.specs.declared.entry.Entry.{Entry}
use Rattle.ct_words.specs.Code.{IsTrueUpper}
use Rattle.ct_words.specs.Numbers.{numbers_of, combination}
use Rattle.ct_words.proofs.EntryLemmas.{same_entry-self}
use Rattle.ct_duals.specs.declared.dual.Dual.{Dual}
use Rattle.ct_duals.specs.declared.fault.DualFault.{DualFault}
use Rattle.ct_duals.specs.Bound.{AcceptedValue, IsAccepted, AreTrueUppers, dual_premises, dual_spread}
use Rattle.ct_duals.specs.Check.{dual_fault}
use Rattle.ct_duals.proofs.Faults.{accepted-from_none}
use Rattle.ct_duals.proofs.Premises.{premises_are_entries}
use Rattle.ct_parity.specs.OddSum.{odd_sum}
use Rattle.ct_parity.specs.declared.sums.TheConstants.{MAX_ODD}
use Rattle.ct_rule_parts.specs.declared.support.Support.{Support}
use Rattle.ct_rule_parts.specs.declared.support.Support.TheVariants.{Odd}
use Rattle.ct_rule_parts.specs.Parts.{are_entries, is_defined, has_weight, slots_on, within_limit}
use Rattle.ct_rule_parts.specs.Slot.{Slot, slot_of}
use Rattle.ct_rule_parts.specs.Support.{OddValue, odd_at}
use Rattle.ct_rule_parts.proofs.DualLemmas.{are_entries-from_All}
use Rattle.ct_weight_rules.specs.Delsarte.{premises_of_dual}
use Rattle.ct_weight_rules.specs.OddSizes.{is_odd_size, is_above_spread, size_below, odd_size_above}
use Rattle.ct_weight_rules.proofs.LawfulOddSizes.{checked-true}
use Rattle.ct_rules.specs.declared.rule.Rule.TheVariants.{U12}
use Rattle.ct_rules.specs.Derivation.{IsDerived, IsBest}
use Rattle.ct_rules.specs.Rule.{row_of, premises_of, value_of}
use Rattle.ct_rules.proofs.JoinedDerivations.{derived_by_rule}
use Rattle.ct_kind.specs.declared.evidence.Evidence.TheVariants as evidence
use Rattle.ct_files.specs.Evidence.{IsSound}
use Rattle.ct_kind.specs.Named.{NamedCode}
use Rattle.ct_kind.specs.declared.fault.SubmitFault.TheVariants as fault
use Rattle.ct_kind.proofs.Stating.{option_map-none}
use Rattle.ct_dual_files.specs.DualKind.{with_at_zero, odd_support}
use Rattle.ct_dual_files.specs.Fields.{IsOddSize}
use Rattle.ct_piece.specs.Piece.{PieceValue}
use Rattle.ct_piece.specs.Standing.{AreStanding}
use Rattle.ct_piece.specs.Supports.{supports_of}
use Rattle.ct_laws.proofs.DualSupports.{placed_piece, gives_odd}
use Rattle.ct_laws.specs.EvidenceSupport.{IsSupportOf}
use Rattle.ct_laws.proofs.DualReaching.{given_there}

-- what a support gives at the entry of its dual
given-odd : (c : Option Support) (a : AcceptedValue) (m : ℕ) → c ≡ Some (Odd a m) → odd_at c a.dual.entry ≡ Some (record { accepted = a; m = m })
given-odd c a m is =
    ap (λ (o : Option Support). odd_at o a.dual.entry) is
    ∙ ap (λ (b : Bool). cond b (Some (record { accepted = a; m = m })) None) (same_entry-self a.dual.entry)

-- a number that is excluded is within the limit of a bound
size-limit : (o : OddValue) (us : List ℕ) → o.m ≤ MAX_ODD → within_limit Upper (size_below (Some o) us) ≡ size_below (Some o) us
size-limit o us few = at (is_odd_size o.m && is_above_spread o.accepted o.m us)
  where
    at : (b : Bool) → within_limit Upper (cond b (Some (o.m - 1)) None) ≡ cond b (Some (o.m - 1)) None
    at false = refl
    at true =
        let limit = leb-true MAX_ODD MAX_BOUND refl in
        let same : min (o.m - 1) MAX_BOUND ≡ o.m - 1 = omega (arith, few, limit) in
        ap Some same

-- what U12 rests on and gives by the support at a place
pub record GivesSize (supports : List Support) (place : ℕ) (o : OddValue) : Type 0 where
  pub premises : premises_of supports (U12 place) o.accepted.dual.entry ≡ Some (slots_on Upper (dual_premises o.accepted.dual))
  pub value : (us : List ℕ) → value_of supports (U12 place) o.accepted.dual.entry us ≡ size_below (Some o) us

odd-gives : (supports : List Support) (place : ℕ) (a : AcceptedValue) (m : ℕ) → IsAccepted a → a.dual.entry.w ≡ None → m ≤ MAX_ODD
    → slice_get supports place ≡ Some (Odd a m) → GivesSize supports place (record { accepted = a; m = m })
unfolding row_of
odd-gives supports place a m h plain few at =
    let e = a.dual.entry in
    let c = slice_get supports place in
    let o : OddValue = record { accepted = a; m = m } in
    let given = given-odd c a m at in
    let light : has_weight e ≡ false = ap is_some plain in
    let there : is_some (odd_at c e) ≡ true = ap is_some given in
    let premises : Option OddValue → List Entry = λ (p : Option OddValue). premises_of_dual (option_map (λ (q : OddValue). q.accepted) p) in
    let rests : are_entries (premises (odd_at c e)) ≡ true =
    ap (λ (p : Option OddValue). are_entries (premises p)) given ∙ are_entries-from_All (dual_premises a.dual) (premises_are_entries a.dual h.form) in
    let defined : is_defined (odd_size_above c) e ≡ true = rw (h.form.entry, light, there, rests) refl in
    record {
      premises =
          ap (λ (b : Bool). cond b (Some (slots_on Upper (premises (odd_at c e)))) None) defined
          ∙ ap (λ (p : Option OddValue). Some (slots_on Upper (premises p))) given;
      value = λ us.
          ap (λ (b : Bool). cond b (within_limit Upper (size_below (odd_at c e) us)) None) defined
          ∙ ap (λ (p : Option OddValue). within_limit Upper (size_below p us)) given ∙ size-limit o us few;
    }

-- a number of words that a document states is one that parity may exclude
is_size : (m : ℕ) → IsOddSize m → is_odd_size m ≡ true
is_size m h =
    and_from (nat_le 3 m && nat_le m MAX_ODD) (m % 2 == 1) (and_from (nat_le 3 m) (nat_le m MAX_ODD) (le-leb 3 m h.0) (le-leb m MAX_ODD h.1))
    (eq-eqb (m % 2) 1 h.2)

-- what accepted evidence of kind odd gives
record IsGiven (supports : List Support) (place : ℕ) (d : Dual) (m : ℕ) : Type 0 where
  none : dual_fault (numbers_of d.entry) d ≡ None
  gives : GivesSize supports place (record { accepted = with_at_zero d; m = m })

given : (known : List NamedCode) (supports : List Support) (place : ℕ) (d : Dual) (m : ℕ) → IsSupportOf known supports place (evidence.Odd d m)
    → IsGiven supports place d m
given known supports place d m h =
    let none = option_map-none fault.Dual (dual_fault (numbers_of d.entry) d) h.faultless in
    let at : slice_get supports place ≡ Some (Odd (with_at_zero d) m) =
    h.given ∙ ap (λ (reason : Option DualFault). Some (odd_support m reason d)) none in
    record { none = none; gives = odd-gives supports place (with_at_zero d) m (accepted-from_none d h.sound.0 none) h.sound.1 h.sound.2.1 at }

pub odd_premises : (known : List NamedCode) (supports : List Support) (place : ℕ) (d : Dual) (m : ℕ) → IsSupportOf known supports place (evidence.Odd d m)
    → premises_of supports (U12 place) d.entry ≡ Some (slots_on Upper (dual_premises d))
odd_premises known supports place d m h = (given known supports place d m h).gives.premises

pub odd_value : (known : List NamedCode) (supports : List Support) (place : ℕ) (d : Dual) (m : ℕ) (us : List ℕ)
    → IsSupportOf known supports place (evidence.Odd d m) → value_of supports (U12 place) d.entry us
    ≡ (if int_lt (pos m *ℤ dual_spread d (combination (numbers_of d.entry) d.c 0) us) (odd_sum d.entry.n m d.c) then Some (m - 1) else None)
odd_value known supports place d m us h =
    (given known supports place d m h).gives.value us
    ∙ ap (λ (b : Bool). cond (b && is_above_spread (with_at_zero d) m us) (Some (m - 1)) None) (is_size m h.sound.2)

-- no code is larger
pub odd_sound : (known : List NamedCode) (supports : List Support) (place : ℕ) (d : Dual) (m : ℕ) (us : List ℕ) (v : ℕ)
    → IsSupportOf known supports place (evidence.Odd d m) → AreTrueUppers (dual_premises d) us → value_of supports (U12 place) d.entry us ≡ Some v → IsTrueUpper d.entry v
odd_sound known supports place d m us v h uppers is =
    let both = cond_some (is_above_spread (with_at_zero d) m us) (m - 1) v (sym (odd_value known supports place d m us h) ∙ is) in
    let above = less (pos m *ℤ dual_spread d (combination (numbers_of d.entry) d.c 0) us) (odd_sum d.entry.n m d.c) both.0 in
    subst (IsTrueUpper d.entry) both.1 (checked-true d m us h.sound.1 h.sound.0 (given known supports place d m h).none uppers h.sound.2.2 above)
  where
    less : (x y : ℤ) → int_lt x y ≡ true → x <ℤ y
    less x y h = grind (arith, ints)

-- where parity excludes m words by a piece that stands, from whatever upper bounds are derived of what its dual rests on, the best upper bound is
-- below m
pub odd_reached : (ps : List PieceValue) (k : ℕ) (p : PieceValue) (d : Dual) (m : ℕ) (claims : List Claim) (v : ℕ) → AreStanding ps
    → slice_get ps k ≡ Some p → p.evidence ≡ evidence.Odd d m → map slot_of claims ≡ slots_on Upper (dual_premises d) → All (IsDerived (supports_of ps)) claims
    → IsBest (supports_of ps) (Upper, d.entry) v
    → (pos m *ℤ dual_spread d (combination (numbers_of d.entry) d.c 0) (map (λ c. c.value) claims)) <ℤ odd_sum d.entry.n m d.c → v < m
unfolding row_of
odd_reached ps k p d m claims v h read is premises each best above =
    let a = with_at_zero d in
    let us = map (λ (c : Claim). c.value) claims in
    let there = given_there ps k p (Odd a m) h read (gives_odd ps k p d m h read is) in
    let sound : IsSound (evidence.Odd d m) = subst IsSound is (placed_piece ps k p h read).right.sound in
    let gives = odd-gives (supports_of ps) k a m there.1 sound.1 sound.2.1 there.0 in
    let test = greater (pos m *ℤ dual_spread d a.at_zero us) (odd_sum d.entry.n m d.c) above in
    let excluded = and_from (is_odd_size m) (is_above_spread a m us) (is_size m sound.2) test in
    let value : value_of (supports_of ps) (U12 k) d.entry us ≡ Some (m - 1) =
    gives.value us ∙ ap (λ (b : Bool). cond b (Some (m - 1)) None) excluded in
    let least = best.none_better (m - 1)
    (derived_by_rule (supports_of ps) (U12 k) d.entry claims (m - 1) (gives.premises ∙ ap (λ (ss : List Slot). Some ss) (sym premises)) each value) in
    let from = sound.2.0 in
    omega (arith, least, from)
  where
    greater : (x y : ℤ) → x <ℤ y → int_lt x y ≡ true
    greater x y h = grind (arith, ints)
