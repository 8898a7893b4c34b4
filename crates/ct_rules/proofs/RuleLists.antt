-- The list of the rules that can be defined at an entry has each that is defined there.
use Rattle.std.proofs.Common.{◌≡◌, ℕ, ◌+◌, ◌-◌, ◌<◌, ◌≤◌, true, false, ◌&&◌, List, [], ◌∷◌, ◌++◌, length, map, All, Contains, Option, Some, None, slice_get, refl, sym, subst, arith, inl, inr}
use Rattle.std.specs.Prelude.{Bool, is_some}
use Rattle.std.specs.List.{range_with_len}
use Rattle.std.proofs.lemmas.Bool.{and_parts, false≢true}
use Rattle.std.proofs.lemmas.List.Elements.{All-contains, Contains-append_left, Contains-append_right}
use Rattle.std.proofs.lemmas.Option.{none-some, slice_get_within}
use Rattle.ct_words.proofs.Counting.Words.{Contains-map}
use Rattle.ct_words.specs.declared.claim.Side.TheVariants.{Lower, Upper}
use Rattle.ct_words.specs.declared.entry.Entry.{Entry}
use Rattle.ct_words.specs.Entry.{IsEntry, is_entry, unrestricted, constant_weight}
use Rattle.ct_words.proofs.EntryLemmas.{entry_limits}
use Rattle.ct_rule_parts.specs.declared.support.Support.{Support}
use Rattle.ct_rule_parts.specs.Parts.{RuleParts}
use Rattle.ct_rule_parts.specs.Slot.{Slot}
use Rattle.ct_words.proofs.InLists.{Contains-range_with_len, Contains-flat_map}
use Rattle.ct_rule_parts.specs.Support.{size_at, dual_at, odd_at, local_at}
use Rattle.ct_weight_rules.specs.Neighbours.{of_weight, even_of_weight}
use Rattle.ct_weight_rules.proofs.LawfulGrahamSloane.{known_class}
use Rattle.ct_rules.specs.declared.rule.Rule.{Rule}
use Rattle.ct_rules.specs.declared.rule.Rule.TheVariants.{L9, L10, L11, M9, M10, U9, U10, U11, U12, V9, V10}
use Rattle.ct_rules.specs.Rule.{row_of, rule_side, named_place, is_alone, is_by_weight, parts_over, applies}
use Rattle.ct_rules.specs.Closed.{IsSatisfied, IsClosed}
use Rattle.ct_rules.specs.Listing.{rules_alone}
use Rattle.ct_rules.specs.Inside.AllRules.{juxtaposition_rules, sum_class_rules, rules_with_numbers, rules_by_weight, rules_of_supports, rules_at}
use Rattle.ct_rules.proofs.Applied.{IsDefined, defined, applies_from_premises}
use Rattle.ct_rules.proofs.LawfulRows.{alone_at, alone-parts, not_alone}

-- words side by side, within the limits
juxtaposition-complete : (e : Entry) (n d : ℕ) → 1 ≤ n → n < e.n → 3 ≤ d → d + 3 ≤ e.d
    → Contains (juxtaposition_rules e) (L11 n d)
juxtaposition-complete e n d n_from n_below d_from d_to =
    Contains-flat_map (λ m. map (λ c. L11 m c) (range_with_len 3 (e.d - 5))) (range_with_len 1 (e.n - 1)) n (L11 n d)
    (Contains-range_with_len 1 (e.n - 1) n n_from (omega arith))
    (Contains-map (λ c. L11 n c) (range_with_len 3 (e.d - 5)) d
    (Contains-range_with_len 3 (e.d - 5) d d_from (omega arith)))

-- the supports of a size have one at the place
support_there : (supports : List Support) (place : ℕ) (e : Entry) → is_some (size_at (slice_get supports place) e) ≡ true
    → place < length supports
support_there supports place e h = go (slice_get supports place) refl h
  where
    go : (c : Option Support) → slice_get supports place ≡ c → is_some (size_at c e) ≡ true → place < length supports
    go None at is = absurd (false≢true is)
    go (Some support) at is = slice_get_within supports place support at

-- so have those of a dual
dual_support_there : (supports : List Support) (place : ℕ) (e : Entry) → is_some (dual_at (slice_get supports place) e) ≡ true
    → place < length supports
dual_support_there supports place e h = go (slice_get supports place) refl h
  where
    go : (c : Option Support) → slice_get supports place ≡ c → is_some (dual_at c e) ≡ true → place < length supports
    go None at is = absurd (false≢true is)
    go (Some support) at is = slice_get_within supports place support at

-- and those of a number of words that may be excluded
odd_support_there : (supports : List Support) (place : ℕ) (e : Entry) → is_some (odd_at (slice_get supports place) e) ≡ true
    → place < length supports
odd_support_there supports place e h = go (slice_get supports place) refl h
  where
    go : (c : Option Support) → slice_get supports place ≡ c → is_some (odd_at c e) ≡ true → place < length supports
    go None at is = absurd (false≢true is)
    go (Some support) at is = slice_get_within supports place support at

-- and those of a dual that gives its local bound
local_support_there : (supports : List Support) (place : ℕ) (e : Entry) → is_some (local_at (slice_get supports place) e) ≡ true
    → place < length supports
local_support_there supports place e h = go (slice_get supports place) refl h
  where
    go : (c : Option Support) → slice_get supports place ≡ c → is_some (local_at c e) ≡ true → place < length supports
    go None at is = absurd (false≢true is)
    go (Some support) at is = slice_get_within supports place support at

-- a rule alone that is defined at an entry stands in the list of its slot
listed_alone : (supports : List Support) (r : Rule) (e : Entry) → is_alone r ≡ true → IsDefined (parts_over supports r) e
    → Contains (rules_at (length supports) (rule_side r, e)) r
unfolding rules_at
listed_alone supports r e alone is =
    Contains-append_left (rules_alone (rule_side r, e) ++ rules_with_numbers (rule_side r, e) ++ rules_by_weight (rule_side r, e))
    (rules_of_supports (length supports) (rule_side r, e)) r
    (Contains-append_left (rules_alone (rule_side r, e) ++ rules_with_numbers (rule_side r, e)) (rules_by_weight (rule_side r, e)) r
    (Contains-append_left (rules_alone (rule_side r, e)) (rules_with_numbers (rule_side r, e)) r
    (alone_at r e.n e.d e.w alone
    (subst (λ (p : RuleParts). p.condition e ≡ true) (alone-parts r supports alone) is.condition))))

-- words side by side that are defined at an entry
listed_sum : (supports : List Support) (m c n d : ℕ) (w : Option ℕ)
    → IsDefined (parts_over supports (L11 m c)) (record { n = n; d = d; w = w })
    → Contains (rules_at (length supports) (rule_side (L11 m c), record { n = n; d = d; w = w })) (L11 m c)
unfolding row_of rules_at
listed_sum supports m c n d (Some w) is = absurd (false≢true is.condition)
listed_sum supports m c n d None is =
    let front = and_parts (is_entry (unrestricted m c)) (is_entry (unrestricted (n - m) (d - c)) && true) is.premises in
    let back = and_parts (is_entry (unrestricted (n - m) (d - c))) true front.1 in
    let first = entry_limits (unrestricted m c) front.0 in
    let second = entry_limits (unrestricted (n - m) (d - c)) back.0 in
    let e : Entry = unrestricted n d in
    Contains-append_right (rules_alone (Lower, e))
    (juxtaposition_rules e ++ rules_by_weight (Lower, e) ++ rules_of_supports (length supports) (Lower, e)) (L11 m c)
    (Contains-append_left (juxtaposition_rules e ++ rules_by_weight (Lower, e)) (rules_of_supports (length supports) (Lower, e)) (L11 m c)
    (Contains-append_left (juxtaposition_rules e) (rules_by_weight (Lower, e)) (L11 m c)
    (juxtaposition-complete e m c first.length_from (omega (arith, second.length_from)) first.distance_from (omega (arith, second.distance_from)))))

-- a sum class that is defined at an entry
listed_class : (supports : List Support) (k n d : ℕ) (w : Option ℕ)
    → IsDefined (parts_over supports (M9 k)) (record { n = n; d = d; w = w })
    → Contains (rules_at (length supports) (rule_side (M9 k), record { n = n; d = d; w = w })) (M9 k)
unfolding row_of rules_at
listed_class supports k n d None is = absurd (false≢true is.condition)
listed_class supports k n d (Some w) is =
    let e : Entry = constant_weight n d w in
    let below = (known_class k e is.condition).residue in
    Contains-append_right (rules_alone (Lower, e)) (sum_class_rules e ++ [] ++ rules_of_supports (length supports) (Lower, e)) (M9 k)
    (Contains-append_left (sum_class_rules e ++ []) (rules_of_supports (length supports) (Lower, e)) (M9 k)
    (Contains-append_left (sum_class_rules e) [] (M9 k)
    (Contains-map (λ r. M9 r) (range_with_len 0 n) k (Contains-range_with_len 0 n k (omega arith) (omega arith)))))

-- a rule that leads from entries with weight to those without
listed_by_weight : (supports : List Support) (r : Rule) (n d : ℕ) (w : Option ℕ) → is_by_weight r ≡ true
    → IsDefined (parts_over supports r) (record { n = n; d = d; w = w })
    → Contains (rules_at (length supports) (rule_side r, record { n = n; d = d; w = w })) r
unfolding row_of rules_at
listed_by_weight supports (L9 v) n d None by is =
    let e : Entry = unrestricted n d in
    let within = (entry_limits (even_of_weight e v) (and_parts (is_entry (even_of_weight e v)) true is.premises).0).weight.2 in
    Contains-append_right (rules_alone (Lower, e))
    (juxtaposition_rules e ++ rules_by_weight (Lower, e) ++ rules_of_supports (length supports) (Lower, e)) (L9 v)
    (Contains-append_left (juxtaposition_rules e ++ rules_by_weight (Lower, e)) (rules_of_supports (length supports) (Lower, e)) (L9 v)
    (Contains-append_right (juxtaposition_rules e) (rules_by_weight (Lower, e)) (L9 v)
    (Contains-map (λ u. L9 u) (range_with_len 0 (n + 1)) v (Contains-range_with_len 0 (n + 1) v (omega arith) (omega arith)))))
listed_by_weight supports U9 n d None by is = (9, omega arith, refl)
listed_by_weight supports (U10 v) n d None by is =
    let e : Entry = unrestricted n d in
    let within = (entry_limits (of_weight e v) (and_parts (is_entry (of_weight e v)) true is.premises).0).weight.2 in
    Contains-append_right (rules_alone (Upper, e)) (rules_by_weight (Upper, e) ++ rules_of_supports (length supports) (Upper, e)) (U10 v)
    (Contains-append_left (rules_by_weight (Upper, e)) (rules_of_supports (length supports) (Upper, e)) (U10 v)
    (Contains-append_right (U9 ∷ []) (map (λ u. U10 u) (range_with_len 0 (n + 1))) (U10 v)
    (Contains-map (λ u. U10 u) (range_with_len 0 (n + 1)) v (Contains-range_with_len 0 (n + 1) v (omega arith) (omega arith)))))
listed_by_weight supports (L9 v) n d (Some w) by is = absurd (false≢true is.condition)
listed_by_weight supports U9 n d (Some w) by is = absurd (false≢true is.condition)
listed_by_weight supports (U10 v) n d (Some w) by is = absurd (false≢true is.condition)
listed_by_weight supports r n d w by is = absurd (false≢true by)

-- a rule that names a support and is defined at an entry
listed_given : (supports : List Support) (r : Rule) (place n d : ℕ) (w : Option ℕ) → named_place r ≡ Some place
    → IsDefined (parts_over supports r) (record { n = n; d = d; w = w })
    → Contains (rules_at (length supports) (rule_side r, record { n = n; d = d; w = w })) r
unfolding row_of rules_at
listed_given supports (L10 place) other n d None names is =
    let e : Entry = unrestricted n d in
    let there = support_there supports place e (and_parts true (is_some (size_at (slice_get supports place) e)) is.condition).1 in
    Contains-append_right (rules_alone (Lower, e))
    (juxtaposition_rules e ++ rules_by_weight (Lower, e) ++ rules_of_supports (length supports) (Lower, e)) (L10 place)
    (Contains-append_right (juxtaposition_rules e ++ rules_by_weight (Lower, e)) (rules_of_supports (length supports) (Lower, e)) (L10 place)
    (Contains-map (λ p. L10 p) (range_with_len 0 (length supports)) place
    (Contains-range_with_len 0 (length supports) place (omega arith) (omega arith))))
listed_given supports (M10 place) other n d (Some w) names is =
    let e : Entry = constant_weight n d w in
    let there = support_there supports place e (and_parts true (is_some (size_at (slice_get supports place) e)) is.condition).1 in
    Contains-append_right (rules_alone (Lower, e)) (sum_class_rules e ++ [] ++ rules_of_supports (length supports) (Lower, e)) (M10 place)
    (Contains-append_right (sum_class_rules e ++ []) (rules_of_supports (length supports) (Lower, e)) (M10 place)
    (Contains-map (λ p. M10 p) (range_with_len 0 (length supports)) place
    (Contains-range_with_len 0 (length supports) place (omega arith) (omega arith))))
listed_given supports (U11 place) other n d None names is =
    let e : Entry = unrestricted n d in
    let there = dual_support_there supports place e (and_parts true (is_some (dual_at (slice_get supports place) e)) is.condition).1 in
    Contains-append_right (rules_alone (Upper, e)) (rules_by_weight (Upper, e) ++ rules_of_supports (length supports) (Upper, e)) (U11 place)
    (Contains-append_right (rules_by_weight (Upper, e)) (rules_of_supports (length supports) (Upper, e)) (U11 place)
    (Contains-append_left (map (λ p. U11 p) (range_with_len 0 (length supports))) (map (λ p. U12 p) (range_with_len 0 (length supports))) (U11 place)
    (Contains-map (λ p. U11 p) (range_with_len 0 (length supports)) place
    (Contains-range_with_len 0 (length supports) place (omega arith) (omega arith)))))
listed_given supports (U12 place) other n d None names is =
    let e : Entry = unrestricted n d in
    let there = odd_support_there supports place e (and_parts true (is_some (odd_at (slice_get supports place) e)) is.condition).1 in
    Contains-append_right (rules_alone (Upper, e)) (rules_by_weight (Upper, e) ++ rules_of_supports (length supports) (Upper, e)) (U12 place)
    (Contains-append_right (rules_by_weight (Upper, e)) (rules_of_supports (length supports) (Upper, e)) (U12 place)
    (Contains-append_right (map (λ p. U11 p) (range_with_len 0 (length supports))) (map (λ p. U12 p) (range_with_len 0 (length supports))) (U12 place)
    (Contains-map (λ p. U12 p) (range_with_len 0 (length supports)) place
    (Contains-range_with_len 0 (length supports) place (omega arith) (omega arith)))))
listed_given supports (V9 place) other n d (Some w) names is =
    let e : Entry = constant_weight n d w in
    let there = dual_support_there supports place e (and_parts true (is_some (dual_at (slice_get supports place) e)) is.condition).1 in
    Contains-append_right (rules_alone (Upper, e)) (rules_of_supports (length supports) (Upper, e)) (V9 place)
    (Contains-append_left (map (λ p. V9 p) (range_with_len 0 (length supports))) (map (λ p. V10 p) (range_with_len 0 (length supports))) (V9 place)
    (Contains-map (λ p. V9 p) (range_with_len 0 (length supports)) place
    (Contains-range_with_len 0 (length supports) place (omega arith) (omega arith))))
listed_given supports (V10 place) other n d (Some w) names is =
    let e : Entry = constant_weight n d w in
    let there = local_support_there supports place e (and_parts true (is_some (local_at (slice_get supports place) e)) is.condition).1 in
    Contains-append_right (rules_alone (Upper, e)) (rules_of_supports (length supports) (Upper, e)) (V10 place)
    (Contains-append_right (map (λ p. V9 p) (range_with_len 0 (length supports))) (map (λ p. V10 p) (range_with_len 0 (length supports))) (V10 place)
    (Contains-map (λ p. V10 p) (range_with_len 0 (length supports)) place
    (Contains-range_with_len 0 (length supports) place (omega arith) (omega arith))))
listed_given supports (U11 place) other n d (Some w) names is = absurd (false≢true is.condition)
listed_given supports (U12 place) other n d (Some w) names is = absurd (false≢true is.condition)
listed_given supports (V9 place) other n d None names is = absurd (false≢true is.condition)
listed_given supports (V10 place) other n d None names is = absurd (false≢true is.condition)
listed_given supports (L10 place) other n d (Some w) names is = absurd (false≢true is.condition)
listed_given supports (M10 place) other n d None names is = absurd (false≢true is.condition)
listed_given supports r place n d w names is = absurd (none-some place names)

-- a rule that is defined at an entry stands in the list of its slot
pub rules_at-complete : (supports : List Support) (r : Rule) (e : Entry) → applies supports r e ≡ true
    → Contains (rules_at (length supports) (rule_side r, e)) r
rules_at-complete supports r e h = by_place (named_place r) refl
  where
    is : IsDefined (parts_over supports r) e
    is = defined (parts_over supports r) e h

    sum : (m c : ℕ) → r ≡ L11 m c → Contains (rules_at (length supports) (rule_side r, e)) r
    sum m c same =
        subst (λ (q : Rule). Contains (rules_at (length supports) (rule_side q, e)) q) (sym same)
        (listed_sum supports m c e.n e.d e.w (subst (λ (q : Rule). IsDefined (parts_over supports q) e) same is))

    sums : (k : ℕ) → r ≡ M9 k → Contains (rules_at (length supports) (rule_side r, e)) r
    sums k same =
        subst (λ (q : Rule). Contains (rules_at (length supports) (rule_side q, e)) q) (sym same)
        (listed_class supports k e.n e.d e.w (subst (λ (q : Rule). IsDefined (parts_over supports q) e) same is))

    by_numbers : named_place r ≡ None → (b : Bool) → is_alone r ≡ b → Contains (rules_at (length supports) (rule_side r, e)) r
    by_numbers none true alone = listed_alone supports r e alone is
    by_numbers none false alone = elim (not_alone r none alone) [
      | inl numbers ↦ sum numbers.0 numbers.1 numbers.2
      | inr (inl class) ↦ sums class.0 class.1
      | inr (inr by) ↦ listed_by_weight supports r e.n e.d e.w by is
    ]

    by_place : (place : Option ℕ) → named_place r ≡ place → Contains (rules_at (length supports) (rule_side r, e)) r
    by_place None none = by_numbers none (is_alone r) refl
    by_place (Some place) names = listed_given supports r place e.n e.d e.w names is

-- bounds are closed where no rule of the list of any slot of the table gives anything better
pub closed_from_lists : (supports : List Support) (bounds : Slot → ℕ)
    → ((s : Slot) → IsEntry s.1 → All (λ r. IsSatisfied supports bounds r s.1) (rules_at (length supports) s))
    → IsClosed supports bounds
closed_from_lists supports bounds satisfied r e slots v premises value =
    let there = applies_from_premises supports r e slots premises in
    All-contains (λ q. IsSatisfied supports bounds q e) (rules_at (length supports) (rule_side r, e)) r
    (satisfied (rule_side r, e) (defined (parts_over supports r) e there).entry)
    (rules_at-complete supports r e there) slots v premises value
