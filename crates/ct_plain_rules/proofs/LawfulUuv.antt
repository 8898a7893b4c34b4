-- u followed by u + v.
use Rattle.std.proofs.Common.{◌≡◌, ℕ, ◌-◌, ◌*◌, ◌/◌, ◌%◌, ◌^◌, ◌==◌, ◌≤◌, min, nat_lt, List, [], ◌∷◌, length, Contains, Bool, true, false, refl, inl, inr, arith, eqb-true, ltb-true, pow_pos, mul-pos}
use Rattle.std.specs.Prelude.{cond, not, Option}
use Rattle.std.proofs.Math.Nat.{mul-le-mul, mul-le-mul_left}
use Rattle.std.proofs.lemmas.Bool.{and_parts, cases_lt, cond_both}
use Rattle.ct_words.specs.declared.limits.TheConstants.{MAX_N}
use Rattle.ct_words.specs.declared.entry.Entry.{Entry}
use Rattle.ct_words.specs.declared.claim.Side.TheVariants.{Lower}
use Rattle.ct_words.specs.Entry.{IsEntry}
use Rattle.ct_words.proofs.EntryLemmas.{entry_limits}
use Rattle.ct_rule_parts.specs.declared.support.Support.{Support}
use Rattle.ct_rule_parts.specs.Slot.{AreNoBetter}
use Rattle.ct_rule_parts.specs.Parts.{has_weight, half_up, first, second, slots_on}
use Rattle.ct_rule_parts.proofs.Constructions.{HasCode, HasCode-nearer, HasCode-uuv, HasCode-even}
use Rattle.ct_rule_parts.proofs.Lawful.{AreTrueAt, IsLawful, LeadsBack, IsTrueNumber, only_value, both_values, same_number, no_worse-other, first-no_better, second-no_better, defined_condition}
use Rattle.ct_rule_parts.proofs.PlainEntries.{Weightless, no_weight, written, one_item, two_items, in_front, behind}
use Rattle.ct_rule_parts.proofs.PlainNumbers.{lower_number, of_length}
use Rattle.ct_plain_rules.specs.Inside.RestedOn.{by_uuv}
use Rattle.ct_plain_rules.specs.Uuv.{parts_of_uuv, count_of_uuv, uuv}
use Rattle.ct_plain_rules.specs.Neighbours.{half_as_long, twice_as_long}

-- the sums of a code of half the length and a distance d, and of one of the distance of the entry
sums_number : (e : Entry) (d u v : ℕ) → Weightless e → e.n % 2 ≡ 0 → e.d ≤ 2 * d → 1 ≤ u * v → HasCode (e.n / 2) d u
    → HasCode (e.n / 2) e.d v
    → IsTrueNumber Lower e (u * v)
sums_number e d u v none even near some first second =
    let twice : 2 * (e.n / 2) ≡ e.n = omega arith in
    lower_number e (u * v) none some
    (of_length (2 * (e.n / 2)) e.n e.d (u * v) twice
    (HasCode-nearer (2 * (e.n / 2)) (min (2 * d) e.d) e.d (u * v) (omega arith)
    (HasCode-uuv (e.n / 2) d e.d u v first second)))

-- at distances 3 and 4 the u are all words of even weight
uuv-sound : (e : Entry) (vs : List ℕ) → IsEntry e → Weightless e → e.n % 2 ≡ 0
    → AreTrueAt (slots_on Lower (parts_of_uuv e)) vs
    → IsTrueNumber Lower e (count_of_uuv e vs)
uuv-sound e vs entry none even known = go (nat_lt e.d 5) refl known
  where
    go : (b : Bool) → nat_lt e.d 5 ≡ b
        → AreTrueAt (slots_on Lower (cond b (half_as_long e e.d ∷ []) (half_as_long e (half_up e.d) ∷ half_as_long e e.d ∷ []))) vs
        → IsTrueNumber Lower e (cond b (2 ^ (e.n / 2 - 1) * first vs) (first vs * second vs))
    go true near known =
        let premise = only_value _ vs known in
        let limits = entry_limits e entry in
        let long = limits.length_from in
        let few = ltb-true e.d 5 near in
        sums_number e 2 (2 ^ (e.n / 2 - 1)) (first vs) none even (omega arith)
        (mul-pos (pow_pos (e.n / 2 - 1)) premise.range.0) (HasCode-even (e.n / 2) (omega arith)) premise.truth
    go false far known =
        let both = both_values _ _ vs known in
        sums_number e (half_up e.d) (first vs) (second vs) none even (omega arith)
        (mul-pos both.0.range.0 both.1.range.0) both.0.truth both.1.truth

uuv-monotone : (b : Bool) (k : ℕ) (us vs : List ℕ) → AreNoBetter Lower us vs
    → cond b (k * first us) (first us * second us) ≤ cond b (k * first vs) (first vs * second vs)
uuv-monotone true k us vs h = mul-le-mul_left k (first-no_better Lower us vs h)
uuv-monotone false k us vs h = mul-le-mul (first-no_better Lower us vs h) (second-no_better Lower us vs h)

-- an entry is among those of twice the length of an entry of half its own, at each of the three distances
at_same : (e g : Entry) → Weightless e → 2 * g.n ≡ e.n → g.d ≡ e.d → Contains (by_uuv g) e
at_same e g none long far =
    in_front (twice_as_long g g.d) e (twice_as_long g (2 * g.d - 1) ∷ twice_as_long g (2 * g.d) ∷ [])
    (written (2 * g.n) g.d e none long far)

at_odd : (e g : Entry) → Weightless e → 2 * g.n ≡ e.n → 2 * g.d - 1 ≡ e.d → Contains (by_uuv g) e
at_odd e g none long far =
    behind (twice_as_long g g.d) e (twice_as_long g (2 * g.d - 1) ∷ twice_as_long g (2 * g.d) ∷ [])
    (in_front (twice_as_long g (2 * g.d - 1)) e (twice_as_long g (2 * g.d) ∷ [])
    (written (2 * g.n) (2 * g.d - 1) e none long far))

at_even : (e g : Entry) → Weightless e → 2 * g.n ≡ e.n → 2 * g.d ≡ e.d → Contains (by_uuv g) e
at_even e g none long far =
    behind (twice_as_long g g.d) e (twice_as_long g (2 * g.d - 1) ∷ twice_as_long g (2 * g.d) ∷ [])
    (behind (twice_as_long g (2 * g.d - 1)) e (twice_as_long g (2 * g.d) ∷ [])
    (in_front (twice_as_long g (2 * g.d)) e [] (written (2 * g.n) (2 * g.d) e none long far)))

-- the entry is among those that rest on what it rests on
half_back : (e f : Entry) → Weightless e → e.n % 2 ≡ 0 → Contains (parts_of_uuv e) f → Contains (by_uuv f) e
half_back e f none even rests = go (nat_lt e.d 5) rests
  where
    of_same : Contains (by_uuv (half_as_long e e.d)) e
    of_same = at_same e (half_as_long e e.d) none (omega arith) refl

    of_half : Contains (by_uuv (half_as_long e (half_up e.d))) e
    of_half = elim (cases_lt (e.d % 2) 1) [
      | inl even_far ↦ at_even e (half_as_long e (half_up e.d)) none (omega arith) (omega arith)
      | inr odd_far ↦ at_odd e (half_as_long e (half_up e.d)) none (omega arith) (omega arith)
    ]

    go : (b : Bool) → Contains (cond b (half_as_long e e.d ∷ []) (half_as_long e (half_up e.d) ∷ half_as_long e e.d ∷ [])) f
        → Contains (by_uuv f) e
    go true rests = one_item (λ g. Contains (by_uuv g) e) (half_as_long e e.d) f of_same rests
    go false rests =
        two_items (λ g. Contains (by_uuv g) e) (half_as_long e (half_up e.d)) (half_as_long e e.d) f of_half of_same rests

pub uuv-lawful : (c : Option Support) → IsLawful c uuv
uuv-lawful c = record {
  sound = λ e vs x stand entry condition known is.
      let parts = and_parts (not (has_weight e)) (e.n % 2 == 0) condition in
      same_number Lower e _ x is
      (uuv-sound e vs entry (no_weight e parts.0) (eqb-true (e.n % 2) 0 parts.1) known);
  monotone = λ e us vs x h is.
      no_worse-other Lower _ _ x (uuv-monotone (nat_lt e.d 5) (2 ^ (e.n / 2 - 1)) us vs h) is;
  few = λ e stand entry.
      cond_both (nat_lt e.d 5) _ _ (λ (es : List Entry). length es ≤ MAX_N) (λ near. omega arith) (λ far. omega arith);
}

pub uuv-back : LeadsBack uuv by_uuv
uuv-back e f defined rests =
    let parts = and_parts (not (has_weight e)) (e.n % 2 == 0) (defined_condition uuv e defined) in
    half_back e f (no_weight e parts.0) (eqb-true (e.n % 2) 0 parts.1) rests
