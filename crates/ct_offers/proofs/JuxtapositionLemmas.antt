-- Words side by side over true bounds: their value, where they give one word at most, and where they rest on an entry.
use Rattle.std.proofs.Common.{◌≡◌, ℕ, ◌+◌, ◌-◌, ◌*◌, ◌/◌, ◌<◌, ◌≤◌, min, max, List, Contains, map, Some, None, true, refl, sym, ap, subst, ◌∙◌, arith, inl, inr, ◌⊎◌, le-leb, div-lt_iff_lt-mul}
use Rattle.std.specs.Prelude.{Bool, ◌&&◌, if◌then◌else◌, not, is_some, Option}
use Rattle.std.proofs.lemmas.Bool.{and_parts, and_from, cases_lt, cases_eq}
use Rattle.std.proofs.lemmas.Option.{same_Some}
use Rattle.ct_words.specs.declared.limits.TheConstants.{MAX_N, MAX_BOUND}
use Rattle.ct_words.specs.declared.entry.Entry.{Entry}
use Rattle.ct_words.specs.declared.claim.Side.TheVariants.{Lower}
use Rattle.ct_words.specs.Claim.{IsTrueClaim}
use Rattle.ct_words.specs.Entry.{IsEntry, is_entry, unrestricted}
use Rattle.ct_words.proofs.DigitCodes.{bound_from_spread}
use Rattle.ct_words.proofs.EntryLemmas.{entry_limits, entry_from_limits}
use Rattle.ct_elementary.proofs.Averages.{spread_plotkin}
use Rattle.ct_elementary.proofs.FarWords.{spread_far}
use Rattle.ct_rule_parts.specs.declared.support.Support.{Support}
use Rattle.ct_rule_parts.specs.Parts.{has_weight, within_limit}
use Rattle.ct_rule_parts.specs.Slot.{Slot, claim_at, lower_at}
use Rattle.ct_rule_parts.proofs.PlainEntries.{no_weight, two_items, written}
use Rattle.ct_plain_rules.specs.Juxtaposition.{juxtaposition}
use Rattle.ct_rules.specs.declared.rule.Rule.TheVariants.{L11}
use Rattle.ct_rules.specs.Closed.{AreTrue, IsSatisfied}
use Rattle.ct_rules.specs.Rule.{row_of, rule_side, applies, parts_over, premises_at}
use Rattle.ct_rules.proofs.Applied.{defined, value_where_applies}
use Rattle.ct_slots.specs.Number.{bound_of}
use Rattle.ct_slots.specs.Worklist.{WorkValue, IsMarked}
use Rattle.ct_offers.specs.Inside.Marking.{KeepsMarks, IsTestedAt, IsTestedAtSum, AreTestedAtLength, AreTestedJuxtaposition}
use Rattle.ct_offers.specs.Offers.{value_over, IsWithin}
use Rattle.ct_offers.proofs.PullingLemmas.{over-applies}
use Rattle.ct_offers.proofs.SatisfiedLemmas.{value_over-defined, satisfied_within}

-- an entry without weight within the limits
pub plain_entry : (n d : ℕ) → 1 ≤ n → n ≤ MAX_N → 3 ≤ d → d ≤ MAX_N → IsEntry (unrestricted n d)
plain_entry n d some short far near = entry_from_limits (unrestricted n d) some short far near tt

-- an entry without weight as it is written
pub plain_of : (e : Entry) → e.w ≡ None → IsEntry e → IsEntry (unrestricted e.n e.d)
plain_of e none entry = subst IsEntry (sym (written e.n e.d e none refl refl)) entry

-- the codes of words side by side are of entries of the table, and so are they
pub record IsSum (n d m c : ℕ) : Type 0 where
  pub entry : IsEntry (unrestricted n d)
  pub first : IsEntry (unrestricted m c)
  pub second : IsEntry (unrestricted (n - m) (d - c))

-- the limits of their lengths and distances
pub record AreSumLimits (n d m c : ℕ) : Type 0 where
  pub longest : n ≤ MAX_N
  pub farthest : d ≤ MAX_N
  pub some : 1 ≤ m
  pub longer : m < n
  pub far : 3 ≤ c
  pub farther : c + 3 ≤ d

pub sum_limits : (n d m c : ℕ) → IsSum n d m c → AreSumLimits n d m c
sum_limits n d m c is =
    let e = entry_limits (unrestricted n d) is.entry in
    let f = entry_limits (unrestricted m c) is.first in
    let g = entry_limits (unrestricted (n - m) (d - c)) is.second in
    record {
      longest = e.length_to;
      farthest = e.distance_to;
      some = f.length_from;
      longer = omega (arith, g.length_from);
      far = f.distance_from;
      farther = omega (arith, g.distance_from);
    }

pub sum_from_limits : (n d m c : ℕ) → AreSumLimits n d m c → IsSum n d m c
sum_from_limits n d m c is =
    let longest = is.longest in
    let farthest = is.farthest in
    let some = is.some in
    let longer = is.longer in
    let far = is.far in
    let farther = is.farther in
    record {
      entry = plain_entry n d (omega arith) (omega arith) (omega arith) (omega arith);
      first = plain_entry m c (omega arith) (omega arith) (omega arith) (omega arith);
      second = plain_entry (n - m) (d - c) (omega arith) (omega arith) (omega arith) (omega arith);
    }

-- where they are defined
pub sum_parts : (supports : List Support) (m c : ℕ) (e : Entry) → applies supports (L11 m c) e ≡ true
    → (e.w ≡ None) × IsSum e.n e.d m c
unfolding row_of
sum_parts supports m c e h =
    let is = defined (juxtaposition m c) e h in
    let none = no_weight e is.condition in
    let front = and_parts (is_entry (unrestricted m c)) (is_entry (unrestricted (e.n - m) (e.d - c)) && true) is.premises in
    let back = and_parts (is_entry (unrestricted (e.n - m) (e.d - c))) true front.1 in
    (none, record { entry = plain_of e none is.entry; first = front.0; second = back.0 })

plain_condition : (w : Option ℕ) → w ≡ None → not (is_some w) ≡ true
plain_condition None h = refl
plain_condition (Some w) h = absurd cc

pub sum_applies : (supports : List Support) (m c : ℕ) (e : Entry) → IsEntry e → e.w ≡ None → IsSum e.n e.d m c
    → applies supports (L11 m c) e ≡ true
unfolding row_of
sum_applies supports m c e entry none is =
    and_from (is_entry e && not (has_weight e))
    (is_entry (unrestricted m c) && (is_entry (unrestricted (e.n - m) (e.d - c)) && true))
    (and_from (is_entry e) (not (has_weight e)) entry (plain_condition e.w none))
    (and_from (is_entry (unrestricted m c)) (is_entry (unrestricted (e.n - m) (e.d - c)) && true) is.first
    (and_from (is_entry (unrestricted (e.n - m) (e.d - c))) true is.second refl))

-- the least of the bounds of both codes
abbrev pub least_of : (Slot → ℕ) → ℕ → ℕ → ℕ → ℕ → ℕ
least_of f n d m c = min (f (lower_at m c)) (f (lower_at (n - m) (d - c)))

-- a number within the limits of a lower bound
pub limited : (x : ℕ) → x ≤ MAX_BOUND → within_limit Lower (Some x) ≡ Some x
limited x few = ap (λ (b : Bool). if b then Some x else None) (le-leb x MAX_BOUND few)

-- it is what they give
pub sum_value : (supports : List Support) (f : Slot → ℕ) (m c : ℕ) (e : Entry) → AreTrue f
    → applies supports (L11 m c) e ≡ true → value_over supports f (L11 m c) e ≡ Some (least_of f e.n e.d m c)
unfolding row_of
sum_value supports f m c e truth h =
    let is = sum_parts supports m c e h in
    let few = (truth (lower_at m c) is.1.first).range.1 in
    value_over-defined supports f (L11 m c) e h
    ∙ value_where_applies supports (L11 m c) e (map f (premises_at supports (L11 m c) e)) h
    ∙ limited (least_of f e.n e.d m c) (omega arith)

-- so they give nothing better than what is no less
pub sum_within : (supports : List Support) (f : Slot → ℕ) (m c : ℕ) (e : Entry) (best : ℕ) → AreTrue f
    → (applies supports (L11 m c) e ≡ true → least_of f e.n e.d m c ≤ best) → IsWithin supports f (Lower, e) best (L11 m c)
sum_within supports f m c e best truth least v value =
    let there = over-applies supports f (L11 m c) e v value in
    let given = sum_value supports f m c e truth there in
    let same = same_Some (least_of f e.n e.d m c) v (sym given ∙ value) in
    subst (λ x. x ≤ best) same (least there)

-- a true lower bound where the distance is above the length
far_bound : (n d v : ℕ) → n < d → IsTrueClaim (claim_at (lower_at n d) v) → v ≤ 1
far_bound n d v far claim =
    let words = claim.truth in
    let few = bound_from_spread n d 1 (spread_far n d far) words.0 words.1 in
    omega (arith, few, words.2)

-- one where thrice the distance is above twice the length
near_bound : (n d v : ℕ) → 2 * n < 3 * d → IsTrueClaim (claim_at (lower_at n d) v) → v ≤ 2
near_bound n d v wide claim = elim (cases_lt n d) [
  | inl far ↦ let one = far_bound n d v far claim in omega arith
  | inr within ↦
      let words = claim.truth in
      let few = bound_from_spread n d (2 * (d / (2 * d - n))) (spread_plotkin n d within (omega arith)) words.0 words.1 in
      let quotient : d / (2 * d - n) < 2 = (div-lt_iff_lt-mul {k = 2 * d - n} {x = d} {y = 2} (omega arith)).1 (omega arith) in
      omega (arith, few, quotient, words.2)
]

-- where the distance of one code is above its length they are one word at most
pub sum_far : (f : Slot → ℕ) (n d m c : ℕ) → AreTrue f → IsSum n d m c → (m < c) ⊎ (n - m < d - c) → least_of f n d m c ≤ 1
sum_far f n d m c truth is (inl far) =
    let few = far_bound m c (f (lower_at m c)) far (truth (lower_at m c) is.first) in
    omega arith
sum_far f n d m c truth is (inr far) =
    let few = far_bound (n - m) (d - c) (f (lower_at (n - m) (d - c))) far (truth (lower_at (n - m) (d - c)) is.second) in
    omega arith

-- and two at most where thrice the distance of one is above twice its length
sum_near : (f : Slot → ℕ) (n d m c : ℕ) → AreTrue f → IsSum n d m c → (2 * m < 3 * c) ⊎ (2 * (n - m) < 3 * (d - c)) → least_of f n d m c ≤ 2
sum_near f n d m c truth is (inl near) =
    let few = near_bound m c (f (lower_at m c)) near (truth (lower_at m c) is.first) in
    omega arith
sum_near f n d m c truth is (inr near) =
    let few = near_bound (n - m) (d - c) (f (lower_at (n - m) (d - c))) near (truth (lower_at (n - m) (d - c)) is.second) in
    omega arith

-- which is no more than a bound that opposite words give
sum_few : (f : Slot → ℕ) (n d m c best : ℕ) → AreTrue f → IsSum n d m c → 1 ≤ best → (d ≤ n → 2 ≤ best)
    → (2 * m < 3 * c) ⊎ (2 * (n - m) < 3 * (d - c)) → least_of f n d m c ≤ best
sum_few f n d m c best truth is some two near = elim (cases_lt n d) [
  | inl beyond ↦ elim (cases_lt m c) [
    | inl first ↦ let few = sum_far f n d m c truth is (inl first) in omega arith
    | inr within ↦
        let limits = sum_limits n d m c is in
        let longer = limits.longer in
        let farther = limits.farther in
        let few = sum_far f n d m c truth is (inr (omega arith)) in
        omega arith
  ]
  | inr there ↦
      let few = sum_near f n d m c truth is near in
      let enough = two there in
      omega arith
]

-- the codes in the other order
turned_sum : (n d m c : ℕ) → IsSum n d m c → IsSum n d (n - m) (d - c)
turned_sum n d m c is =
    let limits = sum_limits n d m c is in
    let longest = limits.longest in
    let farthest = limits.farthest in
    let some = limits.some in
    let longer = limits.longer in
    let far = limits.far in
    let farther = limits.farther in
    sum_from_limits n d (n - m) (d - c) (record {
      longest = longest;
      farthest = farthest;
      some = omega arith;
      longer = omega arith;
      far = omega arith;
      farther = omega arith;
    })

turned_least : (f : Slot → ℕ) (n d m c : ℕ) → IsSum n d m c → least_of f n d m c ≤ least_of f n d (n - m) (d - c)
turned_least f n d m c is =
    let limits = sum_limits n d m c is in
    let longer = limits.longer in
    let farther = limits.farther in
    let length : n - (n - m) ≡ m = omega arith in
    let distance : d - (d - c) ≡ c = omega arith in
    let same : f (lower_at (n - (n - m)) (d - (d - c))) ≡ f (lower_at m c) = λ i. f (lower_at (length i) (distance i)) in
    omega arith

-- words side by side rest on an entry: it is that of one of the codes
pub record RestsBeside (f : Slot → ℕ) (n d m c : ℕ) (g : Entry) : Type 0 where
  pub sum : IsSum n d g.n g.d
  pub least : least_of f n d m c ≤ least_of f n d g.n g.d

pub rests_beside : (supports : List Support) (f : Slot → ℕ) (m c n d : ℕ) (g : Entry) → applies supports (L11 m c) (unrestricted n d) ≡ true
    → Contains ((parts_over supports (L11 m c)).rests_on (unrestricted n d)) g → RestsBeside f n d m c g
unfolding row_of
rests_beside supports f m c n d g h rests =
    let is = (sum_parts supports m c (unrestricted n d) h).1 in
    two_items (RestsBeside f n d m c) (unrestricted m c) (unrestricted (n - m) (d - c)) g
    (record { sum = is; least = omega arith })
    (record { sum = turned_sum n d m c is; least = turned_least f n d m c is })
    rests

-- they give nothing better where the code of the entry beside another gives nothing better
pub sum_satisfied : (supports : List Support) (f : Slot → ℕ) (m c n d : ℕ) (g : Entry) → AreTrue f
    → applies supports (L11 m c) (unrestricted n d) ≡ true
    → Contains ((parts_over supports (L11 m c)).rests_on (unrestricted n d)) g
    → (IsSum n d g.n g.d → least_of f n d g.n g.d ≤ f (lower_at n d))
    → IsSatisfied supports f (L11 m c) (unrestricted n d)
unfolding row_of
sum_satisfied supports f m c n d g truth h rests most =
    let beside = rests_beside supports f m c n d g h rests in
    let few = most beside.sum in
    let less = beside.least in
    satisfied_within supports f (L11 m c) (unrestricted n d)
    (sum_within supports f m c (unrestricted n d) (f (lower_at n d)) truth (λ there. omega arith))

-- nor where one of the codes has a distance above its length
pub sum_satisfied-far : (supports : List Support) (f : Slot → ℕ) (m c n d : ℕ) (g : Entry) → AreTrue f
    → applies supports (L11 m c) (unrestricted n d) ≡ true
    → Contains ((parts_over supports (L11 m c)).rests_on (unrestricted n d)) g
    → (AreSumLimits n d g.n g.d → (g.n < g.d) ⊎ (n - g.n < d - g.d))
    → IsSatisfied supports f (L11 m c) (unrestricted n d)
sum_satisfied-far supports f m c n d g truth h rests far =
    sum_satisfied supports f m c n d g truth h rests
    (λ is.
    let one = sum_far f n d g.n g.d truth is (far (sum_limits n d g.n g.d is)) in
    let own = (truth (lower_at n d) is.entry).range.0 in
    omega arith)

-- the first code of one length: the distances that are looked at are enough
pub first_enough : (supports : List Support) (f : Slot → ℕ) (m : ℕ) (e : Entry) (best from end : ℕ) → AreTrue f → 1 ≤ best
    → (e.d ≤ e.n → 2 ≤ best) → from ≤ max (e.d - 2 * (e.n - m) / 3) 3 → (2 * m / 3 + 1 ≤ end) ⊎ (e.d ≤ end + 2)
    → ((c : ℕ) → from ≤ c → c < end → least_of f e.n e.d m c ≤ best)
    → (c : ℕ) → IsWithin supports f (Lower, e) best (L11 m c)
first_enough supports f m e best from end truth some two from_is high least c =
    sum_within supports f m c e best truth
    (λ there.
    let is = (sum_parts supports m c e there).1 in
    let limits = sum_limits e.n e.d m c is in
    let far = limits.far in
    let farther = limits.farther in
    let longer = limits.longer in
    elim (cases_lt c from) [
      | inl below ↦ sum_few f e.n e.d m c best truth is some two (inr (omega (arith, below, from_is, far, farther, longer)))
      | inr from_on ↦ elim (cases_lt c end) [
        | inl within ↦ least c from_on within
        | inr above ↦ elim high [
          | inl first ↦ sum_few f e.n e.d m c best truth is some two (inl (omega (arith, first, above)))
          | inr second ↦ absurd (omega arith)
        ]
      ]
    ])

-- where so it is of the entry, so it is of one of the codes
pub wide_within : (supports : List Support) (f : Slot → ℕ) (e : Entry) (best : ℕ) → AreTrue f → 1 ≤ best → (e.d ≤ e.n → 2 ≤ best)
    → 2 * e.n < 3 * e.d → (m c : ℕ) → IsWithin supports f (Lower, e) best (L11 m c)
wide_within supports f e best truth some two wide m c =
    sum_within supports f m c e best truth
    (λ there.
    let is = (sum_parts supports m c e there).1 in
    let limits = sum_limits e.n e.d m c is in
    let longer = limits.longer in
    let farther = limits.farther in
    elim (cases_lt (2 * m) (3 * c)) [
      | inl first ↦ sum_few f e.n e.d m c best truth is some two (inl first)
      | inr short ↦ sum_few f e.n e.d m c best truth is some two (inr (omega (arith, short, wide, longer, farther)))
    ])

-- and the lengths that are looked at are enough
pub lengths_enough : (supports : List Support) (f : Slot → ℕ) (m c : ℕ) (e : Entry) (best : ℕ) → AreTrue f → 1 ≤ best
    → (m < 3) ⊎ (e.n ≤ m + 2) → IsWithin supports f (Lower, e) best (L11 m c)
lengths_enough supports f m c e best truth some out =
    sum_within supports f m c e best truth
    (λ there.
    let is = (sum_parts supports m c e there).1 in
    let limits = sum_limits e.n e.d m c is in
    let far = limits.far in
    let farther = limits.farther in
    let longer = limits.longer in
    elim out [
      | inl short ↦
          let few = sum_far f e.n e.d m c truth is (inl (omega arith)) in
          omega arith
      | inr long ↦
          let few = sum_far f e.n e.d m c truth is (inr (omega arith)) in
          omega arith
    ])

-- the codes in the other order give the same
pub turned_within : (supports : List Support) (f : Slot → ℕ) (m c : ℕ) (e : Entry) (best : ℕ) → AreTrue f → IsEntry e
    → IsWithin supports f (Lower, e) best (L11 (e.n - m) (e.d - c)) → IsWithin supports f (Lower, e) best (L11 m c)
turned_within supports f m c e best truth entry within =
    sum_within supports f m c e best truth
    (λ there.
    let parts = sum_parts supports m c e there in
    let turned = turned_sum e.n e.d m c parts.1 in
    let most : least_of f e.n e.d (e.n - m) (e.d - c) ≤ best =
    within (least_of f e.n e.d (e.n - m) (e.d - c))
    (sum_value supports f (e.n - m) (e.d - c) e truth (sum_applies supports (e.n - m) (e.d - c) e entry parts.0 turned)) in
    let less = turned_least f e.n e.d m c parts.1 in
    omega (arith, most, less))

-- so lengths of the first code up to half of the entry's are enough
pub halves_enough : (supports : List Support) (f : Slot → ℕ) (e : Entry) (best end : ℕ) → AreTrue f → IsEntry e → 1 ≤ best → e.n < end + end
    → ((m c : ℕ) → 3 ≤ m → m < end → IsWithin supports f (Lower, e) best (L11 m c))
    → (m c : ℕ) → IsWithin supports f (Lower, e) best (L11 m c)
halves_enough supports f e best end truth entry some half looked m c = elim (cases_lt m end) [
  | inl below ↦ up_to m c below
  | inr above ↦ turned_within supports f m c e best truth entry (up_to (e.n - m) (e.d - c) (omega arith))
]
  where
    up_to : (k b : ℕ) → k < end → IsWithin supports f (Lower, e) best (L11 k b)
    up_to k b below = elim (cases_lt k 3) [
      | inl short ↦ lengths_enough supports f k b e best truth some (inl short)
      | inr from ↦ looked k b from below
    ]

-- words side by side at an entry, within the limits
pub sum_here : (e : Entry) (m c : ℕ) → IsEntry e → 3 ≤ m → m + 3 ≤ e.n → 3 ≤ c → c + 3 ≤ e.d → IsSum e.n e.d m c
sum_here e m c entry some longer far farther =
    let limits = entry_limits e entry in
    sum_from_limits e.n e.d m c (record {
      longest = limits.length_to;
      farthest = limits.distance_to;
      some = omega arith;
      longer = omega arith;
      far = far;
      farther = farther;
    })

-- what they offer is what the rule gives
pub sum_offer : (supports : List Support) (f : Slot → ℕ) (e : Entry) (m c v : ℕ) → AreTrue f → IsEntry e → e.w ≡ None
    → IsSum e.n e.d m c → v ≡ least_of f e.n e.d m c → Some v ≡ value_over supports f (L11 m c) e
sum_offer supports f e m c v truth entry none is same =
    ap Some same ∙ sym (sum_value supports f m c e truth (sum_applies supports m c e entry none is))

-- the side of the rule
pub sum_side : (m c : ℕ) → rule_side (L11 m c) ≡ Lower
unfolding row_of
sum_side m c = refl

-- marked where they give something better, so tested
pub tested_marked : (bounds : List ℕ) (work : WorkValue) (g : Entry) (n d : ℕ) → IsMarked work (Lower, unrestricted n d)
    → IsTestedAtSum bounds work g n d
unfolding row_of
tested_marked bounds work g n d marked supports m c there rests entry unmarked = absurd (unmarked marked)

-- tested where they give nothing better
pub tested_no_better : (bounds : List ℕ) (work : WorkValue) (g : Entry) (n d : ℕ) → AreTrue (bound_of bounds)
    → least_of (bound_of bounds) n d g.n g.d ≤ bound_of bounds (lower_at n d) → IsTestedAtSum bounds work g n d
tested_no_better bounds work g n d truth worse supports m c there rests entry unmarked =
    sum_satisfied supports (bound_of bounds) m c n d g truth there rests (λ is. worse)

-- and where one of the codes has a distance above its length
pub tested_far : (bounds : List ℕ) (work : WorkValue) (g : Entry) (n d : ℕ) → AreTrue (bound_of bounds)
    → (AreSumLimits n d g.n g.d → (g.n < g.d) ⊎ (n - g.n < d - g.d)) → IsTestedAtSum bounds work g n d
tested_far bounds work g n d truth far supports m c there rests entry unmarked =
    sum_satisfied-far supports (bound_of bounds) m c n d g truth there rests far

-- what was tested still is when more is marked
pub tested_more : (bounds : List ℕ) (work new : WorkValue) (g : Entry) (n d : ℕ) → KeepsMarks work new
    → IsTestedAtSum bounds work g n d → IsTestedAtSum bounds new g n d
unfolding row_of
tested_more bounds work new g n d keeps tested supports m c there rests entry unmarked =
    tested supports m c there rests entry (λ marked. unmarked (keeps (Lower, unrestricted n d) entry marked))

-- at all entries, where at those of each length
pub tested_lengths : (bounds : List ℕ) (work : WorkValue) (g : Entry) → ((n : ℕ) → AreTestedAtLength bounds work g n)
    → AreTestedJuxtaposition bounds work g
tested_lengths bounds work g each supports m c e there rests =
    let none = (sum_parts supports m c e there).0 in
    let same = written e.n e.d e none refl refl in
    subst (IsTestedAt supports bounds work (L11 m c)) same
    (each e.n e.d supports m c (subst (λ h. applies supports (L11 m c) h ≡ true) (sym same) there)
    (subst (λ h. Contains ((parts_over supports (L11 m c)).rests_on h) g) (sym same) rests))

-- one distance more
pub tested_step : (bounds : List ℕ) (work new : WorkValue) (g : Entry) (n low d : ℕ) → KeepsMarks work new
    → ((k : ℕ) → low ≤ k → k < d → IsTestedAtSum bounds work g n k) → IsTestedAtSum bounds new g n d
    → (k : ℕ) → low ≤ k → k < d + 1 → IsTestedAtSum bounds new g n k
tested_step bounds work new g n low d keeps before here k from below = elim (cases_eq k d) [
  | inl same ↦ subst (IsTestedAtSum bounds new g n) (sym same) here
  | inr other ↦ tested_more bounds work new g n k keeps (before k from (omega arith))
]

-- the distances that are looked at are enough
pub tested_distances : (bounds : List ℕ) (work : WorkValue) (g : Entry) (n end : ℕ) → AreTrue (bound_of bounds)
    → (g.d + (n - g.n) < end) ⊎ (MAX_N < end)
    → ((d : ℕ) → g.d + 3 ≤ d → d < end → IsTestedAtSum bounds work g n d) → AreTestedAtLength bounds work g n
tested_distances bounds work g n end truth high tested d = elim (cases_lt d end) [
  | inl below ↦ elim (cases_lt d (g.d + 3)) [
    | inl near ↦
        tested_far bounds work g n d truth (λ limits. let farther = limits.farther in absurd (omega arith))
    | inr far ↦ tested d far below
  ]
  | inr above ↦ elim high [
    | inl beyond ↦ tested_far bounds work g n d truth (λ limits. let longer = limits.longer in inr (omega arith))
    | inr outside ↦
        tested_far bounds work g n d truth (λ limits. let farthest = limits.farthest in absurd (omega arith))
  ]
]

-- and the lengths
pub tested_short : (bounds : List ℕ) (work : WorkValue) (g : Entry) (n : ℕ) → AreTrue (bound_of bounds) → n < g.n + 3
    → AreTestedAtLength bounds work g n
tested_short bounds work g n truth short d =
    tested_far bounds work g n d truth (λ limits. let farther = limits.farther in let longer = limits.longer in let far = limits.far in inr (omega arith))

pub tested_long : (bounds : List ℕ) (work : WorkValue) (g : Entry) (n : ℕ) → AreTrue (bound_of bounds) → MAX_N < n
    → AreTestedAtLength bounds work g n
tested_long bounds work g n truth long d =
    tested_far bounds work g n d truth (λ limits. let longest = limits.longest in absurd (omega arith))

pub tested_none : (bounds : List ℕ) (work : WorkValue) (g : Entry) → AreTrue (bound_of bounds) → g.n < g.d
    → AreTestedJuxtaposition bounds work g
tested_none bounds work g truth far =
    tested_lengths bounds work g (λ n d. tested_far bounds work g n d truth (λ limits. inl far))

pub tested_more_length : (bounds : List ℕ) (work new : WorkValue) (g : Entry) (low n : ℕ) → KeepsMarks work new
    → ((k : ℕ) → low ≤ k → k < n → AreTestedAtLength bounds work g k) → AreTestedAtLength bounds new g n
    → (k : ℕ) → low ≤ k → k < n + 1 → AreTestedAtLength bounds new g k
tested_more_length bounds work new g low n keeps before here k from below d = elim (cases_eq k n) [
  | inl same ↦ subst (λ m. IsTestedAtSum bounds new g m d) (sym same) (here d)
  | inr other ↦ tested_more bounds work new g k d keeps (before k from (omega arith) d)
]

pub tested_all : (bounds : List ℕ) (work : WorkValue) (g : Entry) (end : ℕ) → AreTrue (bound_of bounds) → MAX_N < end
    → ((n : ℕ) → g.n + 3 ≤ n → n < end → AreTestedAtLength bounds work g n) → AreTestedJuxtaposition bounds work g
tested_all bounds work g end truth high tested =
    tested_lengths bounds work g
    (λ n. elim (cases_lt n end) [
      | inl below ↦ elim (cases_lt n (g.n + 3)) [
        | inl short ↦ tested_short bounds work g n truth short
        | inr long ↦ tested n long below
      ]
      | inr above ↦ tested_long bounds work g n truth (omega arith)
    ])

-- where the distances end
pub end_enough : (d rest least end k : ℕ) → least ≡ min (d + rest) MAX_N → end ≡ least + 1 → end ≤ k → (d + rest < k) ⊎ (MAX_N < k)
end_enough d rest least end k is one past = elim (cases_lt (d + rest) k) [
  | inl below ↦ inl below
  | inr above ↦ inr (omega arith)
]
