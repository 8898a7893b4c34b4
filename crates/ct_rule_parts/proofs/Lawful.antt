-- What has to hold of the parts of each rule, and the values of premises.
use Rattle.std.proofs.Common.{◌≡◌, ℕ, ◌≤◌, List, [], ◌∷◌, length, map, All, Contains, refl, subst, arith}
use Rattle.std.specs.Prelude.{◌&&◌, true, Option, Some, None}
use Rattle.std.specs.Option.{ForSome}
use Rattle.std.proofs.lemmas.Bool.{and_parts}
use Rattle.std.proofs.lemmas.List.Elements.{All-head, All-tail}
use Rattle.std.proofs.lemmas.Option.{same_Some, cond_some, none-some}
use Rattle.ct_words.specs.declared.limits.TheConstants.{MAX_N}
use Rattle.ct_words.specs.declared.claim.Side.{Side}
use Rattle.ct_words.specs.declared.claim.Side.TheVariants.{Lower}
use Rattle.ct_words.specs.declared.claim.Claim.{Claim}
use Rattle.ct_words.specs.declared.entry.Entry.{Entry}
use Rattle.ct_words.specs.Claim.{IsTrueClaim, IsTrueOn}
use Rattle.ct_words.specs.Entry.{IsEntry, is_entry, same_entry}
use Rattle.ct_words.proofs.EntryLemmas.{same_entry_is}
use Rattle.ct_words.proofs.BoundLemmas.{one_is_lower}
use Rattle.ct_rule_parts.specs.declared.support.Support.{Support}
use Rattle.ct_rule_parts.specs.declared.support.Support.TheVariants.{Nothing, Size, Bound, Odd, Local}
use Rattle.ct_rule_parts.specs.Parts.{RuleParts, first, second, are_entries, is_defined, slots_on}
use Rattle.ct_rule_parts.specs.Slot.{Slot, slot_of, claim_at, IsNoBetter, AreNoBetter}
use Rattle.ct_rule_parts.specs.Support.{Stands, size_at}
use Rattle.ct_rule_parts.proofs.SlotLemmas.{IsNoBetter-self}

-- as many values as slots, each a true bound of its slot
abbrev pub AreTrueAt : List Slot → List ℕ → Type 0
AreTrueAt [] [] = Unit {0}
AreTrueAt (s ∷ slots) (v ∷ vs) = IsTrueClaim (claim_at s v) × AreTrueAt slots vs
AreTrueAt slots vs = ⊥

-- the values of true claims
pub true_values : (claims : List Claim) → All IsTrueClaim claims
    → AreTrueAt (map slot_of claims) (map (λ c. c.value) claims)
true_values [] each = tt
true_values (c ∷ claims) each =
    (All-head IsTrueClaim c claims each, true_values claims (All-tail IsTrueClaim c claims each))

-- the only value
pub only_value : (s : Slot) (vs : List ℕ) → AreTrueAt (s ∷ []) vs → IsTrueClaim (claim_at s (first vs))
only_value s [] h = absurd h
only_value s (v ∷ vs) h = h.0

-- both values
pub both_values : (s t : Slot) (vs : List ℕ) → AreTrueAt (s ∷ t ∷ []) vs
    → IsTrueClaim (claim_at s (first vs)) × IsTrueClaim (claim_at t (second vs))
both_values s t [] h = absurd h
both_values s t (v ∷ []) h = absurd h.1
both_values s t (v ∷ w ∷ vs) h = (h.0, h.1.0)

-- a true number for the entry: at least 1, and a true bound of the side
pub record IsTrueNumber (side : Side) (e : Entry) (x : ℕ) : Type 0 where
  pub some : 1 ≤ x
  pub truth : IsTrueOn side e x

-- a true number under another name
pub same_number : (side : Side) (e : Entry) (y x : ℕ) → Some y ≡ Some x → IsTrueNumber side e y → IsTrueNumber side e x
same_number side e y x is number = subst (IsTrueNumber side e) (same_Some y x is) number

-- there is a number, and x is no better
abbrev pub NoWorse : Side → Option ℕ → ℕ → Type 0
NoWorse side o x = (y : ℕ) × (o ≡ Some y) × IsNoBetter side x y

-- the same number
pub no_worse-same : (side : Side) (o : Option ℕ) (x : ℕ) → o ≡ Some x → NoWorse side o x
no_worse-same side o x h = (x, h, IsNoBetter-self side x)

-- a number that is no better
pub no_worse-other : (side : Side) (x y z : ℕ) → IsNoBetter side x y → Some x ≡ Some z → NoWorse side (Some y) z
no_worse-other side x y z h same = (y, refl, subst (λ x. IsNoBetter side x y) (same_Some x z same) h)

-- the first of the values, and the second
pub first-no_better : (side : Side) (us vs : List ℕ) → AreNoBetter side us vs → IsNoBetter side (first us) (first vs)
first-no_better side [] [] h = IsNoBetter-self side 0
first-no_better side [] (v ∷ vs) h = absurd h
first-no_better side (u ∷ us) [] h = absurd h
first-no_better side (u ∷ us) (v ∷ vs) h = h.0

pub second-no_better : (side : Side) (us vs : List ℕ) → AreNoBetter side us vs → IsNoBetter side (second us) (second vs)
second-no_better side [] [] h = IsNoBetter-self side 0
second-no_better side [] (v ∷ vs) h = absurd h
second-no_better side (u ∷ us) [] h = absurd h
second-no_better side (u ∷ us) (v ∷ vs) h = first-no_better side us vs h.1

-- where a rule is defined, the entry is one of the table, its condition holds there, and what it rests on is in the table
pub defined_entry : (p : RuleParts) (e : Entry) → is_defined p e ≡ true → IsEntry e
defined_entry p e h =
    (and_parts (is_entry e) (p.condition e) (and_parts (is_entry e && p.condition e) (are_entries (p.rests_on e)) h).0).0

pub defined_condition : (p : RuleParts) (e : Entry) → is_defined p e ≡ true → p.condition e ≡ true
defined_condition p e h =
    (and_parts (is_entry e) (p.condition e) (and_parts (is_entry e && p.condition e) (are_entries (p.rests_on e)) h).0).1

pub defined_premises : (p : RuleParts) (e : Entry) → is_defined p e ≡ true → are_entries (p.rests_on e) ≡ true
defined_premises p e h = (and_parts (is_entry e && p.condition e) (are_entries (p.rests_on e)) h).1

-- one word is a code of each entry
pub one_number : (e : Entry) → IsEntry e → IsTrueNumber Lower e 1
one_number e entry = record { some = omega arith; truth = one_is_lower e entry }

-- the size of a support that stands
pub support_number : (c : Option Support) (e : Entry) (x : ℕ) → ForSome c Stands → size_at c e ≡ Some x
    → IsTrueNumber Lower e x
support_number None e x stand size = absurd (none-some x size)
support_number (Some Nothing) e x stand size = absurd (none-some x size)
support_number (Some (Bound a)) e x stand size = absurd (none-some x size)
support_number (Some (Odd a m)) e x stand size = absurd (none-some x size)
support_number (Some (Local a)) e x stand size = absurd (none-some x size)
support_number (Some (Size f s)) e x stand size =
    let both = cond_some (same_entry f e) s x size in
    let claim = stand (Size f s) refl in
    let same = same_entry_is f e both.0 in
    subst (λ y. IsTrueNumber Lower e y) both.1
    (subst (λ g. IsTrueNumber Lower g s) same (record { some = claim.range.0; truth = claim.truth }))

-- what has to hold of the parts of each rule, over the support that it names
pub record IsLawful (c : Option Support) (p : RuleParts) : Type 0 where
  -- from true premises it gives a true number, for every code of the definition, where the support that it names stands
  pub sound : (e : Entry) (vs : List ℕ) (x : ℕ) → ForSome c Stands → IsEntry e → p.condition e ≡ true
      → AreTrueAt (slots_on p.side (p.rests_on e)) vs → p.number e vs ≡ Some x → IsTrueNumber p.side e x
  -- better premises give a number, and none that is worse
  pub monotone : (e : Entry) (us vs : List ℕ) (x : ℕ) → AreNoBetter p.side us vs → p.number e us ≡ Some x
      → NoWorse p.side (p.number e vs) x
  -- it rests on few entries, where the support that it names stands
  pub few : (e : Entry) → ForSome c Stands → IsEntry e → length (p.rests_on e) ≤ MAX_N

-- an entry that rests on another is among those where such are looked for
abbrev pub LeadsBack : RuleParts → (Entry → List Entry) → Type 0
LeadsBack p back = (e f : Entry) → is_defined p e ≡ true → Contains (p.rests_on e) f → Contains (back f) e
