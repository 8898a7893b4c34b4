-- Pairs of choices that are close, and what it means that a coset code has no fault.
use Rattle.std.proofs.Common.{◌≡◌, ℕ, ◌+◌, ◌-◌, ◌*◌, ◌/◌, ◌%◌, ◌^◌, ◌<◌, ◌≤◌, ◌||◌, ◌==◌, nat_lt, Bool, false, bit_xor, List, [], ◌∷◌, length, drop, get_or, position, slice_index, Some, None, IfSome, IsFalse, All, AllPairs, IsPermutation, IsSorted, nat_cmp, subst, sym, ap, ap₂, ◌∙◌, inl, inr, arith, pow_pos, length-drop, ne_eqb}
use Rattle.std.specs.Int.Bits.{xor_assoc, xor_self, xor_zero_l, xor_zero_r}
use Rattle.std.proofs.Math.Nat.{mul-le-mul_left, mul-le-mul_right}
use Rattle.std.proofs.lemmas.Nat.{xor_lt, shr_split, mod_below, div_below}
use Rattle.std.proofs.lemmas.Bool.{cases_lt, cases_order, cases_eq, cases_Bool, or_from, or_parts, le-ltb, ltb-false, eqb-false}
use Rattle.std.proofs.lemmas.List.{get_or-drop, get_or_default}
use Rattle.std.specs.List.{Contains}
use Rattle.std.proofs.lemmas.List.Elements.{Contains-get_or}
use Rattle.ct_words.specs.declared.limits.TheConstants.{MAX_N}
use Rattle.ct_words.specs.Word.{distance, weight}
use Rattle.ct_words.proofs.WordLemmas.{IsSum-bit_xor, distance-is_weight, distance_same}
use Rattle.ct_words.specs.declared.entry.Entry.{Entry}
use Rattle.ct_words.specs.declared.fault.CodeFault.TheVariants.{Size, Work}
use Rattle.ct_words.specs.declared.fault.TheConstants.{MAX_REPRESENTATIVES, MAX_COSET_WORK}
use Rattle.ct_words.specs.Entry.{IsEntry}
use Rattle.ct_words.specs.Code.{IsCodeOf, IsSoundCode, IsTrueLower}
use Rattle.ct_words.specs.Check.{close_fault}
use Rattle.ct_words.specs.Coset.{span_word, choice_count, coset_list, coset_work, coset_size_fault, coset_work_fault, coset_fault, CosetValue, IsSoundCosetCode}
use Rattle.ct_words.proofs.PairLemmas.{position_cases}
use Rattle.ct_words.proofs.EntryLemmas.{entry_limits}
use Rattle.ct_words.proofs.CheckLemmas.{first_of-None, close-none, close_none_from, sound_from_code}
use Rattle.ct_codes.proofs.SpanLemmas.{xor_exchange, span_word-zero, span_word-sum, choice_word-at, length-coset_list, get_or-coset_list, coset_list-lt}

-- the distance of two words is told by their sum
pub distance_of_sum : (n x y v w : ℕ) → x < 2 ^ n → y < 2 ^ n → v < 2 ^ n → w < 2 ^ n → bit_xor x y ≡ bit_xor v w → distance n x y ≡ distance n v w
distance_of_sum n x y v w below_x below_y below_v below_w same =
    distance-is_weight n x y (bit_xor x y) (IsSum-bit_xor n x y below_x below_y) ∙ ap (weight n) same
    ∙ sym (distance-is_weight n v w (bit_xor v w) (IsSum-bit_xor n v w below_v below_w))

-- the sum of two choices is that of the first representative alone with the second one and both sums
sum_of_choices : (basis : List ℕ) (x y s t : ℕ)
    → bit_xor (bit_xor x (span_word basis s)) (bit_xor y (span_word basis t)) ≡ bit_xor (bit_xor x (span_word basis 0)) (bit_xor y (span_word basis (bit_xor s t)))
sum_of_choices basis x y s t =
    let both = span_word basis (bit_xor s t) in
    xor_exchange x (span_word basis s) y (span_word basis t)
    ∙ ap (bit_xor (bit_xor x y)) (sym (span_word-sum basis s t) ∙ sym (xor_zero_l both) ∙ ap (λ z. bit_xor z both) (sym (span_word-zero basis)))
    ∙ sym (xor_exchange x (span_word basis 0) y both)

-- a place of a table with rows
pub place_within : (a s r span : ℕ) → a < r → s < span → a * span + s < r * span
place_within a s r span row column = let more : (a + 1) * span ≤ r * span = mul-le-mul_right span (omega arith) in omega arith

-- the word of a choice, by the place of its representative and what it chooses of the basis
pub coset_list-at : (basis representatives : List ℕ) (a s : ℕ) → a < length representatives → s < 2 ^ length basis
    → get_or (coset_list basis representatives) (a * 2 ^ length basis + s) 0 ≡ bit_xor (get_or representatives a 0) (span_word basis s)
coset_list-at basis representatives a s row column =
    get_or-coset_list basis representatives (a * 2 ^ length basis + s) (place_within a s (length representatives) (2 ^ length basis) row column)
    ∙ choice_word-at basis representatives a s column

-- is a word of the list
coset_list-at-lt : (n : ℕ) (basis representatives : List ℕ) (a s : ℕ) → All (λ x. x < 2 ^ n) (coset_list basis representatives)
    → a < length representatives → s < 2 ^ length basis → get_or (coset_list basis representatives) (a * 2 ^ length basis + s) 0 < 2 ^ n
coset_list-at-lt n basis representatives a s below row column =
    below (a * 2 ^ length basis + s) 0
    (subst (λ m. a * 2 ^ length basis + s < m) (sym (length-coset_list basis representatives))
    (place_within a s (length representatives) (2 ^ length basis) row column))

-- two choices are as far apart as the first representative alone and the second one with both sums
pub distance-moved : (n : ℕ) (basis representatives : List ℕ) (a b s t : ℕ) → All (λ x. x < 2 ^ n) (coset_list basis representatives)
    → a < length representatives → b < length representatives → s < 2 ^ length basis → t < 2 ^ length basis
    → distance n (get_or (coset_list basis representatives) (a * 2 ^ length basis + s) 0) (get_or (coset_list basis representatives) (b * 2 ^ length basis + t) 0)
    ≡ distance n (get_or (coset_list basis representatives) (a * 2 ^ length basis) 0) (get_or (coset_list basis representatives) (b * 2 ^ length basis + bit_xor s t) 0)
distance-moved n basis representatives a b s t below row_a row_b column_s column_t =
    let words = coset_list basis representatives in
    let span = 2 ^ length basis in
    let none = pow_pos (length basis) in
    let both = xor_lt (length basis) s t column_s column_t in
    let first_is : a * span + 0 ≡ a * span = omega arith in
    let same =
    ap₂ bit_xor (coset_list-at basis representatives a s row_a column_s) (coset_list-at basis representatives b t row_b column_t)
    ∙ sum_of_choices basis (get_or representatives a 0) (get_or representatives b 0) s t
    ∙ sym (ap₂ bit_xor (coset_list-at basis representatives a 0 row_a none) (coset_list-at basis representatives b (bit_xor s t) row_b both)) in
    distance_of_sum n (get_or words (a * span + s) 0) (get_or words (b * span + t) 0) (get_or words (a * span + 0) 0) (get_or words (b * span + bit_xor s t) 0)
    (coset_list-at-lt n basis representatives a s below row_a column_s) (coset_list-at-lt n basis representatives b t below row_b column_t)
    (coset_list-at-lt n basis representatives a 0 below row_a none) (coset_list-at-lt n basis representatives b (bit_xor s t) below row_b both) same
    ∙ ap (λ p. distance n (get_or words p 0) (get_or words (b * span + bit_xor s t) 0)) first_is

-- sums that choose differently have a sum that chooses
xor-pos : (s t : ℕ) → (s ≡ t → ⊥) → 0 < bit_xor s t
xor-pos s t other = elim (cases_eq (bit_xor s t) 0) [
  | inl zero_is ↦ absurd (other (sym (xor_zero_r s) ∙ ap (bit_xor s) (sym zero_is) ∙ sym (xor_assoc s s t) ∙ ap (λ z. bit_xor z t) (xor_self s) ∙ xor_zero_l t))
  | inr more ↦ let positive : 0 < bit_xor s t = omega arith in positive
]

-- the second of two choices, with the sum of the first as well, comes after the first representative alone
moved_after : (a b s t k : ℕ) → s < 2 ^ k → t < 2 ^ k → a * 2 ^ k + s < b * 2 ^ k + t → a * 2 ^ k < b * 2 ^ k + bit_xor s t
moved_after a b s t k column_s column_t order = elim (cases_order a b) [
  | inl same ↦
      let start = ap (λ p. p * 2 ^ k) same in
      let positive = xor-pos s t (λ e. absurd (omega arith)) in
      omega arith
  | inr other ↦ elim other [
    | inl before ↦
        let more : (a + 1) * 2 ^ k ≤ b * 2 ^ k = mul-le-mul_right (2 ^ k) (omega arith) in
        let some = pow_pos k in
        omega arith
    | inr after ↦
        let more : (b + 1) * 2 ^ k ≤ a * 2 ^ k = mul-le-mul_right (2 ^ k) (omega arith) in
        absurd (omega arith)
  ]
]

-- no item before place i of the list passes with a later one
abbrev pub NoneBefore : (ℕ → ℕ → Bool) → List ℕ → ℕ → Type 0
NoneBefore test xs i = (k m : ℕ) → k < i → k < m → m < length xs → IsFalse (test (slice_index xs k) (slice_index xs m))

-- where an item passes with none after it, it passes with none after it by place
passes_with_none : (test : ℕ → ℕ → Bool) (xs : List ℕ) (i m : ℕ) → position (test (get_or xs i 0)) (drop (i + 1) xs) ≡ None → i < m → m < length xs
    → test (get_or xs i 0) (get_or xs m 0) ≡ false
passes_with_none test xs i m none order within = elim (position_cases (test (get_or xs i 0)) (drop (i + 1) xs)) [
  | inl found ↦ let place = found.1 in cc
  | inr each ↦
      let rest = length-drop (i + 1) xs in
      let place_is : i + 1 + (m - (i + 1)) ≡ m = omega arith in
      ap (test (get_or xs i 0)) (sym (get_or-drop (i + 1) xs (m - (i + 1)) 0 ∙ ap (λ p. get_or xs p 0) place_is))
      ∙ each.1 (m - (i + 1)) (omega arith)
]

-- where the first choice of a representative is close to none after it, neither is another choice of that representative
pub row-passed : (n d : ℕ) (basis representatives : List ℕ) (a s m : ℕ) → All (λ x. x < 2 ^ n) (coset_list basis representatives)
    → a < length representatives → s < 2 ^ length basis → a * 2 ^ length basis + s < m → m < length (coset_list basis representatives)
    → position (λ y. nat_lt (distance n (get_or (coset_list basis representatives) (a * 2 ^ length basis) 0) y) d)
    (drop (a * 2 ^ length basis + 1) (coset_list basis representatives)) ≡ None
    → nat_lt (distance n (get_or (coset_list basis representatives) (a * 2 ^ length basis + s) 0) (get_or (coset_list basis representatives) m 0)) d ≡ false
row-passed n d basis representatives a s m below row column order within none =
    let words = coset_list basis representatives in
    let k = length basis in
    let r = length representatives in
    let span = 2 ^ k in
    let some = pow_pos k in
    let size : length words ≡ r * span = length-coset_list basis representatives in
    let b = m / span in
    let t = m % span in
    let m_is : b * span + t ≡ m = shr_split m k in
    let column_t : t < span = mod_below m span some in
    let row_b : b < r = div_below m span r some (omega arith) in
    let moved = bit_xor s t in
    let after : a * span < b * span + moved = moved_after a b s t k column column_t (omega arith) in
    let moved_lt : moved < span = xor_lt k s t column column_t in
    let moved_within = place_within b moved r span row_b moved_lt in
    let far : nat_lt (distance n (get_or words (a * span) 0) (get_or words (b * span + moved) 0)) d ≡ false =
    passes_with_none (λ x y. nat_lt (distance n x y) d) words (a * span) (b * span + moved) none after (omega arith) in
    ap (λ p. nat_lt (distance n (get_or words (a * span + s) 0) (get_or words p 0)) d) (sym m_is)
    ∙ ap (λ e. nat_lt e d) (distance-moved n basis representatives a b s t below row row_b column column_t) ∙ far

-- a row of the words that is passed: where no item before it is close to a later one, and its first item is not, no item before the next row is
abbrev pub RowPasses : ℕ → ℕ → ℕ → ℕ → List ℕ → ℕ → Type 0
RowPasses n d r a words span =
    All (λ x. x < 2 ^ n) words → a < r → NoneBefore (λ x y. nat_lt (distance n x y) d) words (a * span)
    → position (λ y. nat_lt (distance n (get_or words (a * span) 0) y) d) (drop (a * span + 1) words) ≡ None
    → NoneBefore (λ x y. nat_lt (distance n x y) d) words ((a + 1) * span)

row-of_choices : (n d : ℕ) (basis representatives : List ℕ) (a : ℕ)
    → RowPasses n d (length representatives) a (coset_list basis representatives) (2 ^ length basis)
row-of_choices n d basis representatives a = λ below row before none k m sooner order within. elim (cases_lt k (a * 2 ^ length basis)) [
  | inl earlier ↦ before k m earlier order within
  | inr here ↦
      let words = coset_list basis representatives in
      let start = a * 2 ^ length basis in
      let s = k - start in
      let k_is : start + s ≡ k = omega arith in
      ap (λ p. nat_lt (distance n (get_or words p 0) (get_or words m 0)) d) (sym k_is)
      ∙ row-passed n d basis representatives a s m below row (omega arith) (omega arith) within none
]

-- each row begins within the words of all choices
pub row-within : (words basis representatives : List ℕ) (a span : ℕ) → words ≡ coset_list basis representatives → span ≡ 2 ^ length basis
    → a < length representatives → a * span < length words
row-within words basis representatives a span words_is span_is row =
    let size = ap length words_is ∙ length-coset_list basis representatives in
    let within = place_within a 0 (length representatives) (2 ^ length basis) row (pow_pos (length basis)) in
    let start = ap (λ q. a * q) span_is in
    omega arith

-- the rows of the words of all choices, one for each representative
pub rows-of_choices : (n d : ℕ) (words basis representatives : List ℕ) (a span : ℕ) → words ≡ coset_list basis representatives → span ≡ 2 ^ length basis
    → RowPasses n d (length representatives) a words span
rows-of_choices n d words basis representatives a span words_is span_is =
    subst (λ (q : ℕ). RowPasses n d (length representatives) a words q) (sym span_is)
    (subst (λ (ws : List ℕ). RowPasses n d (length representatives) a ws (2 ^ length basis)) (sym words_is) (row-of_choices n d basis representatives a))

-- the numbers of words are within the limits where they are no fault
size_fault-none : (basis representatives : List ℕ) → coset_size_fault basis representatives ≡ None
    → (length basis ≤ MAX_N) × (1 ≤ length representatives) × (length representatives ≤ MAX_REPRESENTATIVES)
size_fault-none basis representatives none = elim (cases_Bool (nat_lt MAX_N (length basis))) [
  | inl many ↦ let fault : coset_size_fault basis representatives ≡ Some (Size (length basis)) = rw many in cc
  | inr few ↦ elim (cases_Bool (length representatives == 0 || nat_lt MAX_REPRESENTATIVES (length representatives))) [
    | inl out ↦ let fault : coset_size_fault basis representatives ≡ Some (Size (length representatives)) = rw (few, out) in cc
    | inr within ↦
        let parts = or_parts (length representatives == 0) (nat_lt MAX_REPRESENTATIVES (length representatives)) within in
        let some = eqb-false (length representatives) 0 parts.0 in
        (ltb-false MAX_N (length basis) few, omega arith, ltb-false MAX_REPRESENTATIVES (length representatives) parts.1)
  ]
]

size_fault-none_from : (basis representatives : List ℕ) → length basis ≤ MAX_N → 1 ≤ length representatives → length representatives ≤ MAX_REPRESENTATIVES
    → coset_size_fault basis representatives ≡ None
size_fault-none_from basis representatives few some not_many = rw (
  le-ltb MAX_N (length basis) few,
  or_from (length representatives == 0) (nat_lt MAX_REPRESENTATIVES (length representatives))
      (ne_eqb (length representatives) 0 (omega arith)) (le-ltb MAX_REPRESENTATIVES (length representatives) not_many),
)

-- and so is the work
work_fault-none : (basis representatives : List ℕ) → coset_work_fault basis representatives ≡ None → coset_work basis representatives ≤ MAX_COSET_WORK
work_fault-none basis representatives none = elim (cases_Bool (nat_lt MAX_COSET_WORK (coset_work basis representatives))) [
  | inl much ↦ let fault : coset_work_fault basis representatives ≡ Some (Work (coset_work basis representatives)) = rw much in cc
  | inr little ↦ ltb-false MAX_COSET_WORK (coset_work basis representatives) little
]

work_fault-none_from : (basis representatives : List ℕ) → coset_work basis representatives ≤ MAX_COSET_WORK → coset_work_fault basis representatives ≡ None
work_fault-none_from basis representatives little = rw (le-ltb MAX_COSET_WORK (coset_work basis representatives) little)

-- words that are far apart are a code of an entry without weight
code_from_distances : (e : Entry) (words : List ℕ) → 1 ≤ e.d → e.w ≡ None → All (λ x. x < 2 ^ e.n) words
    → AllPairs (λ x y. e.d ≤ distance e.n x y) words → IsCodeOf e words
code_from_distances e words positive plain below far = record {
  lengths = below;
  different = λ i j z order within same.
      let apart = far i j z order within in
      let none : distance e.n (get_or words i z) (get_or words j z) ≡ 0 =
      ap (distance e.n (get_or words i z)) (sym same) ∙ distance_same e.n (get_or words i z) in
      absurd (omega arith);
  apart = far;
  weights = subst (λ w. IfSome w (λ k. All (λ x. weight e.n x ≡ k) words)) (sym plain) tt;
}

-- cosets without a fault are within the limits, and the words of their choices are a code of the entry
pub cosets_from_no_fault : (e : Entry) (basis representatives : List ℕ) → 1 ≤ e.d → e.w ≡ None
    → All (λ x. x < 2 ^ e.n) basis → All (λ x. x < 2 ^ e.n) representatives → coset_fault e basis representatives ≡ None
    → (length basis ≤ MAX_N) × (1 ≤ length representatives) × (length representatives ≤ MAX_REPRESENTATIVES)
    × (coset_work basis representatives ≤ MAX_COSET_WORK) × IsCodeOf e (coset_list basis representatives)
unfolding coset_fault
cosets_from_no_fault e basis representatives positive plain basis_below below no_fault =
    let first = first_of-None (coset_size_fault basis representatives) _ no_fault in
    let second = first_of-None (coset_work_fault basis representatives) (close_fault e.n e.d (coset_list basis representatives)) first.1 in
    let size = size_fault-none basis representatives first.0 in (
      size.0,
      size.1,
      size.2,
      work_fault-none basis representatives second.0,
      code_from_distances e (coset_list basis representatives) positive plain (coset_list-lt e.n basis representatives basis_below below)
          (close-none e.n e.d (coset_list basis representatives) second.1),
    )

-- and where they are, there is no fault
pub no_fault_of_cosets : (e : Entry) (basis representatives : List ℕ) → length basis ≤ MAX_N → 1 ≤ length representatives
    → length representatives ≤ MAX_REPRESENTATIVES → coset_work basis representatives ≤ MAX_COSET_WORK → IsCodeOf e (coset_list basis representatives)
    → coset_fault e basis representatives ≡ None
unfolding coset_fault
no_fault_of_cosets e basis representatives few some not_many little code = rw (
  size_fault-none_from basis representatives few some not_many,
  work_fault-none_from basis representatives little,
  close_none_from e.n e.d (coset_list basis representatives) code.apart,
)

-- cosets that were checked are a coset code
pub sound_cosets : (e : Entry) (basis representatives : List ℕ) → IsEntry e → e.w ≡ None
    → All (λ x. x < 2 ^ e.n) basis → All (λ x. x < 2 ^ e.n) representatives → coset_fault e basis representatives ≡ None
    → IsSoundCosetCode (record { entry = e; basis = basis; representatives = representatives })
sound_cosets e basis representatives entry plain basis_below below no_fault =
    let limits = entry_limits e entry in
    let far = limits.distance_from in
    let whole = cosets_from_no_fault e basis representatives (omega arith) plain basis_below below no_fault in
    record {
      entry = entry;
      unweighted = plain;
      basis_words = basis_below;
      representative_words = below;
      basis_size = whole.0;
      representative_size = (whole.1, whole.2);
      work = whole.3;
      code = whole.4;
    }

-- there are at most as many choices as the work is
pub choice_count-le : (basis representatives : List ℕ) → 1 ≤ length representatives → choice_count basis representatives ≤ coset_work basis representatives
choice_count-le basis representatives some =
    let r = length representatives in
    let squared : r * 1 ≤ r * r = mul-le-mul_left r some in
    let half : r ≤ r * (r + 1) / 2 = omega arith in
    mul-le-mul_right (2 ^ length basis) half

-- there is a choice
pub choice_count-pos : (basis representatives : List ℕ) → 1 ≤ length representatives → 1 ≤ choice_count basis representatives
choice_count-pos basis representatives some =
    let more : 1 * 2 ^ length basis ≤ length representatives * 2 ^ length basis = mul-le-mul_right (2 ^ length basis) some in
    let span = pow_pos (length basis) in
    omega arith

-- their number is a true lower bound of the entry
pub choice_count-lower : (c : CosetValue) → IsSoundCosetCode c → IsTrueLower c.entry (choice_count c.basis c.representatives)
choice_count-lower c sound = (coset_list c.basis c.representatives, sound.code, length-coset_list c.basis c.representatives)

-- the words of all choices in order are a code
pub sound_listed : (c : CosetValue) (words : List ℕ) → IsSoundCosetCode c → IsPermutation (coset_list c.basis c.representatives) words → IsSorted nat_cmp words
    → IsSoundCode (record { n = c.entry.n; d = c.entry.d; w = None; words = words })
sound_listed c words sound moved sorted =
    let size = length-coset_list c.basis c.representatives in
    let some = choice_count-pos c.basis c.representatives sound.representative_size.0 in
    subst (λ w. IsSoundCode (record { n = c.entry.n; d = c.entry.d; w = w; words = words })) sound.unweighted
    (sound_from_code c.entry (coset_list c.basis c.representatives) words sound.entry (omega arith) sound.code moved sorted)

-- the choices of the representative 0 alone are the sums of basis words
linear-at : (basis : List ℕ) (t : ℕ) → t < 2 ^ length basis → get_or (coset_list basis (0 ∷ [])) t 0 ≡ span_word basis t
linear-at basis t below =
    let t_is : 0 * 2 ^ length basis + t ≡ t = omega arith in
    ap (λ p. get_or (coset_list basis (0 ∷ [])) p 0) (sym t_is) ∙ coset_list-at basis (0 ∷ []) 0 t (omega arith) below ∙ xor_zero_l (span_word basis t)

-- they hold each such sum
linear-contains : (basis : List ℕ) (t : ℕ) → t < 2 ^ length basis → Contains (coset_list basis (0 ∷ [])) (span_word basis t)
linear-contains basis t below =
    let size = length-coset_list basis (0 ∷ []) in
    subst (Contains (coset_list basis (0 ∷ []))) (linear-at basis t below) (Contains-get_or (coset_list basis (0 ∷ [])) t 0 (omega arith))

-- the word 0 is a choice of the representative 0 alone
pub linear-zero : (basis : List ℕ) → Contains (coset_list basis (0 ∷ [])) 0
linear-zero basis = subst (Contains (coset_list basis (0 ∷ []))) (span_word-zero basis) (linear-contains basis 0 (pow_pos (length basis)))

-- and with two words their sum is one
pub linear-sum : (basis : List ℕ) (x y : ℕ) → Contains (coset_list basis (0 ∷ [])) x → Contains (coset_list basis (0 ∷ [])) y
    → Contains (coset_list basis (0 ∷ [])) (bit_xor x y)
linear-sum basis x y at_x at_y =
    let words = coset_list basis (0 ∷ []) in
    let size = length-coset_list basis (0 ∷ []) in
    let s = at_x.0 in
    let t = at_y.0 in
    let within_s = at_x.1 in
    let within_t = at_y.1 in
    let below_s : s < 2 ^ length basis = omega arith in
    let below_t : t < 2 ^ length basis = omega arith in
    let x_is = sym (linear-at basis s below_s) ∙ get_or_default words s 0 x within_s ∙ at_x.2 in
    let y_is = sym (linear-at basis t below_t) ∙ get_or_default words t 0 y within_t ∙ at_y.2 in
    subst (Contains words) (span_word-sum basis s t ∙ ap₂ bit_xor x_is y_is)
    (linear-contains basis (bit_xor s t) (xor_lt (length basis) s t below_s below_t))
