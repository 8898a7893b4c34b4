-- Sums of basis words in blocks of 64, and the choices of a coset code.
use Rattle.std.proofs.Common.{◌≡◌, ℕ, suc, ◌+◌, ◌-◌, ◌*◌, ◌/◌, ◌%◌, ◌^◌, ◌<◌, ◌≤◌, not, nat_lt, Bool, true, bit_xor, List, [], ◌∷◌, ◌++◌, length, take, drop, get_or, position, All, Option, Some, None, subst, sym, ap, ap₂, ◌∙◌, inl, inr, arith, pow-suc, pow_pos, length-drop, take-append-drop}
use Rattle.std.specs.List.{prefix_len}
use Rattle.std.specs.Int.Bits.{xor_assoc, xor_zero_l, xor_zero_r}
use Rattle.std.proofs.Math.Nat.{pow-le-pow_right}
use Rattle.std.proofs.lemmas.Bool.{cases_lt, not-true, not-false}
use Rattle.std.proofs.lemmas.Nat.{xor_comm, xor_lt, pow-add}
use Rattle.std.proofs.lemmas.List.{get_or-drop, length-take-le}
use Rattle.std.proofs.lemmas.List.Sums.{prefix_len-le-length, prefix_len_passes, prefix_len_stops}
use Rattle.ct_words.specs.declared.limits.TheConstants.{MAX_N}
use Rattle.ct_words.specs.Word.{distance}
use Rattle.ct_words.proofs.TextLemmas.{length-tabulate, get_or-tabulate}
use Rattle.ct_words.specs.Coset.{span_word, choice_count, coset_list}
use Rattle.ct_codes.specs.Inside.First.{NonePasses, IsFirst, IsFirstOrNone}
use Rattle.ct_codes.specs.Inside.Span.{AreParts, is_close_sum, is_close_choice}
use Rattle.ct_words.proofs.PairLemmas.{position_cases}
use Rattle.ct_codes.proofs.NearLemmas.{first_is, none_is}
use Rattle.ct_codes.proofs.SpanLemmas.{chosen, span_word-zero, span_word-lt}
use Rattle.ct_codes.proofs.CosetLemmas.{distance_of_sum, coset_list-at, place_within}

-- what a number chooses of two bases, one after the other
pub span_word-append : (low high : List ℕ) (h s : ℕ) → s < 2 ^ length low
    → span_word (low ++ high) (h * 2 ^ length low + s) ≡ bit_xor (span_word low s) (span_word high h)
span_word-append [] high h s below =
    let same : h * 1 + s ≡ h = omega arith in
    ap (span_word high) same ∙ sym (xor_zero_l (span_word high h))
span_word-append (b ∷ bs) high h s below =
    let more = pow-suc 2 (length bs) in
    let product = ap (λ q. h * q) more in
    let odd : (h * 2 ^ suc (length bs) + s) % 2 ≡ s % 2 = omega arith in
    let half : (h * 2 ^ suc (length bs) + s) / 2 ≡ h * 2 ^ length bs + s / 2 = omega arith in
    ap₂ bit_xor (ap (chosen b) odd) (ap (span_word (bs ++ high)) half ∙ span_word-append bs high h (s / 2) (omega arith))
    ∙ sym (xor_assoc (chosen b (s % 2)) (span_word bs (s / 2)) (span_word high h))

-- the sizes of the parts
pub block_long : (rows block steps basis : List ℕ) → AreParts rows block steps basis → length block ≡ 64
block_long rows block steps basis parts =
    let enough = parts.size.0 in
    ap length parts.block_is ∙ length-tabulate (λ s. bit_xor 0 (span_word (take 6 basis) s)) (2 ^ length (take 6 basis))
    ∙ ap (λ q. 2 ^ q) (length-take-le 6 basis enough)

pub steps_long : (rows block steps basis : List ℕ) → AreParts rows block steps basis → length steps * 64 ≡ 2 ^ length basis
steps_long rows block steps basis parts =
    let enough = parts.size.0 in
    let long = length-drop 6 basis in
    let whole : length (drop 6 basis) + 6 ≡ length basis = omega arith in
    ap (λ q. q * 64) (ap length parts.steps_are ∙ length-tabulate (λ s. bit_xor 0 (span_word (drop 6 basis) s)) (2 ^ length (drop 6 basis)))
    ∙ sym (pow-add 2 (length (drop 6 basis)) 6) ∙ ap (λ q. 2 ^ q) whole

-- a sum of basis words is one of a block, moved
pub sum_of_parts : (rows block steps basis : List ℕ) (h s : ℕ) → AreParts rows block steps basis → h < length steps → s < 64
    → span_word basis (64 * h + s) ≡ bit_xor (get_or block s 0) (get_or steps h 0)
sum_of_parts rows block steps basis h s parts step small =
    let low = take 6 basis in
    let high = drop 6 basis in
    let enough = parts.size.0 in
    let six = length-take-le 6 basis enough in
    let power = ap (λ q. 2 ^ q) six in
    let product = ap (λ q. h * q) power in
    let place : 64 * h + s ≡ h * 2 ^ length low + s = omega arith in
    let high_long = ap length parts.steps_are ∙ length-tabulate (λ i. bit_xor 0 (span_word high i)) (2 ^ length high) in
    let s_is = ap (λ xs. get_or xs s 0) parts.block_is ∙ get_or-tabulate (λ i. bit_xor 0 (span_word low i)) (2 ^ length low) s (omega arith)
    ∙ xor_zero_l (span_word low s) in
    let h_is = ap (λ xs. get_or xs h 0) parts.steps_are ∙ get_or-tabulate (λ i. bit_xor 0 (span_word high i)) (2 ^ length high) h (omega arith)
    ∙ xor_zero_l (span_word high h) in
    ap₂ span_word (sym (take-append-drop 6 basis)) place ∙ span_word-append low high h s (omega arith) ∙ ap₂ bit_xor (sym s_is) (sym h_is)

-- its distance from a word is that of the block's word from the word, moved
pub close_in_block : (d : ℕ) (rows block steps basis : List ℕ) (word h s : ℕ) → AreParts rows block steps basis → word < 2 ^ 32
    → All (λ x. x < 2 ^ 32) block → All (λ x. x < 2 ^ 32) steps → h < length steps → s < 64
    → nat_lt (distance 32 (bit_xor word (get_or steps h 0)) (get_or block s 0)) d ≡ is_close_sum d basis word (64 * h + s)
close_in_block d rows block steps basis word h s parts below block_below steps_below step small =
    let b = get_or block s 0 in
    let m = get_or steps h 0 in
    let long = block_long rows block steps basis parts in
    let b_below = block_below s 0 (omega arith) in
    let m_below = steps_below h 0 step in
    ap (λ e. nat_lt e d)
    (distance_of_sum 32 (bit_xor word m) b word (bit_xor b m) (xor_lt 32 word m below m_below) b_below below (xor_lt 32 b m b_below m_below)
    (xor_assoc word m b ∙ ap (bit_xor word) (xor_comm m b))
    ∙ ap (distance 32 word) (sym (sum_of_parts rows block steps basis h s parts step small)))

-- what the lanes say of a moved block
pub none_in_block : (d : ℕ) (rows block steps basis : List ℕ) (word h r : ℕ) → AreParts rows block steps basis → word < 2 ^ 32
    → All (λ x. x < 2 ^ 32) block → All (λ x. x < 2 ^ 32) steps → h < length steps
    → r ≡ prefix_len (λ x. not (nat_lt (distance 32 (bit_xor word (get_or steps h 0)) x) d)) block
    → NonePasses (is_close_sum d basis word) (64 * h) (64 * h + r)
none_in_block d rows block steps basis word h r parts below block_below steps_below step counted = λ k from before.
    let s = k - 64 * h in
    let long = block_long rows block steps basis parts in
    let few = prefix_len-le-length (λ x. not (nat_lt (distance 32 (bit_xor word (get_or steps h 0)) x) d)) block in
    let place : 64 * h + s ≡ k = omega arith in
    let far = prefix_len_passes (λ x. not (nat_lt (distance 32 (bit_xor word (get_or steps h 0)) x) d)) block s 0 (omega arith) in
    ap (is_close_sum d basis word) (sym place)
    ∙ sym (close_in_block d rows block steps basis word h s parts below block_below steps_below step (omega arith))
    ∙ not-true (nat_lt (distance 32 (bit_xor word (get_or steps h 0)) (get_or block s 0)) d) far

pub first_in_block : (d : ℕ) (rows block steps basis : List ℕ) (word h r : ℕ) → AreParts rows block steps basis → word < 2 ^ 32
    → All (λ x. x < 2 ^ 32) block → All (λ x. x < 2 ^ 32) steps → h < length steps
    → r ≡ prefix_len (λ x. not (nat_lt (distance 32 (bit_xor word (get_or steps h 0)) x) d)) block
    → r < 64 → is_close_sum d basis word (64 * h + r) ≡ true
first_in_block d rows block steps basis word h r parts below block_below steps_below step counted few =
    let p = λ (x : ℕ). not (nat_lt (distance 32 (bit_xor word (get_or steps h 0)) x) d) in
    let long = block_long rows block steps basis parts in
    let stops = prefix_len_stops p block 0 (omega arith) in
    sym (close_in_block d rows block steps basis word h r parts below block_below steps_below step few)
    ∙ not-false (nat_lt (distance 32 (bit_xor word (get_or steps h 0)) (get_or block r 0)) d) (ap (λ q. p (get_or block q 0)) counted ∙ stops)

-- one range after another
pub none_passes-join : (test : ℕ → Bool) (low mid high : ℕ) → NonePasses test low mid → NonePasses test mid high → NonePasses test low high
none_passes-join test low mid high before after = λ k from within. elim (cases_lt k mid) [
  | inl early ↦ before k from early
  | inr late ↦ after k (omega arith) within
]

pub first-join : (test : ℕ → Bool) (low mid high k : ℕ) → low ≤ mid → NonePasses test low mid → IsFirst test mid high k → IsFirst test low high k
first-join test low mid high k order before first =
    let from = first.from in
    record { from = omega arith; within = first.within; passes = first.passes; none_before = none_passes-join test low mid k before first.none_before }

pub first_or_none-join : (test : ℕ → Bool) (low mid high : ℕ) (found : Option ℕ) → low ≤ mid → NonePasses test low mid → IsFirstOrNone test mid high found
    → IsFirstOrNone test low high found
first_or_none-join test low mid high None order before after = none_passes-join test low mid high before after
first_or_none-join test low mid high (Some k) order before first = first-join test low mid high k order before first

-- the sums of the parts are few
pub span-small : (rows block steps basis : List ℕ) → AreParts rows block steps basis → length steps * 64 ≤ 2 ^ MAX_N
span-small rows block steps basis parts =
    let long = steps_long rows block steps basis parts in
    let short = parts.size.1 in
    let power : 2 ^ length basis ≤ 2 ^ MAX_N = pow-le-pow_right (omega arith) short in
    omega arith

-- the first sums are those of the block
block_sum : (rows block steps basis : List ℕ) (s : ℕ) → AreParts rows block steps basis → s < 64 → span_word basis s ≡ get_or block s 0
block_sum rows block steps basis s parts small =
    let long = steps_long rows block steps basis parts in
    let some = pow_pos (length basis) in
    let high = drop 6 basis in
    let none = ap (λ xs. get_or xs 0 0) parts.steps_are ∙ get_or-tabulate (λ i. bit_xor 0 (span_word high i)) (2 ^ length high) 0 (pow_pos (length high))
    ∙ xor_zero_l (span_word high 0) ∙ span_word-zero high in
    let place : s ≡ 64 * 0 + s = omega arith in
    ap (span_word basis) place ∙ sum_of_parts rows block steps basis 0 s parts (omega arith) small ∙ ap (bit_xor (get_or block s 0)) none ∙ xor_zero_r (get_or block s 0)

-- the sums after the first, in the block
light_sum : (d : ℕ) (rows block steps basis : List ℕ) (j : ℕ) → AreParts rows block steps basis → 1 + j < 64
    → nat_lt (distance 32 0 (get_or (drop 1 block) j 0)) d ≡ is_close_sum d basis 0 (1 + j)
light_sum d rows block steps basis j parts small =
    ap (λ z. nat_lt (distance 32 0 z) d) (get_or-drop 1 block j 0 ∙ sym (block_sum rows block steps basis (1 + j) parts small))

pub light-first : (d : ℕ) (rows block steps basis : List ℕ) (more : ℕ) → AreParts rows block steps basis
    → position (λ x. nat_lt (distance 32 0 x) d) (drop 1 block) ≡ Some more → IsFirst (is_close_sum d basis 0) 1 (2 ^ length basis) (1 + more)
light-first d rows block steps basis more parts found = elim (position_cases (λ x. nat_lt (distance 32 0 x) d) (drop 1 block)) [
  | inl first ↦
      let same : first.0 ≡ more = some_same first.0 more (sym first.1 ∙ found) in
      let long = block_long rows block steps basis parts in
      let rest = length-drop 1 block in
      let within = first.2.within in
      let all = steps_long rows block steps basis parts in
      let some = pow_pos (length basis) in
      subst (λ m. IsFirst (is_close_sum d basis 0) 1 (2 ^ length basis) (1 + m)) same (record {
        from = omega arith;
        within = omega arith;
        passes = sym (light_sum d rows block steps basis first.0 parts (omega arith)) ∙ first.2.passes;
        none_before = λ k from before.
            let place : 1 + (k - 1) ≡ k = omega arith in
            ap (is_close_sum d basis 0) (sym place) ∙ sym (light_sum d rows block steps basis (k - 1) parts (omega arith)) ∙ first.2.before (k - 1) (omega arith);
      })
  | inr none ↦ absurd (none_some more (sym none.0 ∙ found))
]
  where
    some_same : (a b : ℕ) → ◌≡◌ {A = Option ℕ} (Some a) (Some b) → a ≡ b
    some_same a b e = cc

    none_some : (b : ℕ) → ◌≡◌ {A = Option ℕ} None (Some b) → ⊥
    none_some b e = cc

pub light-none : (d : ℕ) (rows block steps basis : List ℕ) → AreParts rows block steps basis
    → position (λ x. nat_lt (distance 32 0 x) d) (drop 1 block) ≡ None → NonePasses (is_close_sum d basis 0) 1 64
light-none d rows block steps basis parts none = elim (position_cases (λ x. nat_lt (distance 32 0 x) d) (drop 1 block)) [
  | inl first ↦ absurd (none_some first.0 (sym none ∙ first.1))
  | inr each ↦ λ k from before.
      let long = block_long rows block steps basis parts in
      let rest = length-drop 1 block in
      let place : 1 + (k - 1) ≡ k = omega arith in
      ap (is_close_sum d basis 0) (sym place) ∙ sym (light_sum d rows block steps basis (k - 1) parts (omega arith)) ∙ each.1 (k - 1) (omega arith)
]
  where
    none_some : (b : ℕ) → ◌≡◌ {A = Option ℕ} None (Some b) → ⊥
    none_some b e = cc

-- a choice is as far from a representative alone as its sum is from the sum of the two representatives
choice_close : (d : ℕ) (basis representatives : List ℕ) (a b s : ℕ) → All (λ x. x < 2 ^ 32) basis → All (λ x. x < 2 ^ 32) representatives
    → a < length representatives → b < length representatives → s < 2 ^ length basis
    → is_close_choice d basis representatives a (b * 2 ^ length basis + s)
    ≡ is_close_sum d basis (bit_xor (get_or representatives a 0) (get_or representatives b 0)) s
choice_close d basis representatives a b s basis_below below row_a row_b column =
    let words = coset_list basis representatives in
    let span = 2 ^ length basis in
    let x = get_or representatives a 0 in
    let y = get_or representatives b 0 in
    let z = span_word basis s in
    let x_below = below a 0 row_a in
    let y_below = below b 0 row_b in
    let z_below = span_word-lt 32 basis s basis_below in
    let place : a * span + 0 ≡ a * span = omega arith in
    let first = ap (λ p. get_or words p 0) (sym place) ∙ coset_list-at basis representatives a 0 row_a (pow_pos (length basis))
    ∙ ap (bit_xor x) (span_word-zero basis) ∙ xor_zero_r x in
    let second = coset_list-at basis representatives b s row_b column in
    ap (λ e. nat_lt e d)
    (ap₂ (distance 32) first second
    ∙ distance_of_sum 32 x (bit_xor y z) (bit_xor x y) z x_below (xor_lt 32 y z y_below z_below) (xor_lt 32 x y x_below y_below) z_below (sym (xor_assoc x y z)))

-- the choices of one representative
pub none_of_row : (d : ℕ) (basis representatives : List ℕ) (a b low : ℕ) → All (λ x. x < 2 ^ 32) basis → All (λ x. x < 2 ^ 32) representatives
    → a < length representatives → b < length representatives
    → NonePasses (is_close_sum d basis (bit_xor (get_or representatives a 0) (get_or representatives b 0))) low (2 ^ length basis)
    → NonePasses (is_close_choice d basis representatives a) (b * 2 ^ length basis + low) ((b + 1) * 2 ^ length basis)
none_of_row d basis representatives a b low basis_below below row_a row_b none = λ t from within.
    let span = 2 ^ length basis in
    let s = t - b * span in
    let place : b * span + s ≡ t = omega arith in
    ap (is_close_choice d basis representatives a) (sym place)
    ∙ choice_close d basis representatives a b s basis_below below row_a row_b (omega arith) ∙ none s (omega arith) (omega arith)

pub first_of_row : (d : ℕ) (basis representatives : List ℕ) (a b low s : ℕ) → All (λ x. x < 2 ^ 32) basis → All (λ x. x < 2 ^ 32) representatives
    → a < length representatives → b < length representatives
    → IsFirst (is_close_sum d basis (bit_xor (get_or representatives a 0) (get_or representatives b 0))) low (2 ^ length basis) s
    → IsFirst (is_close_choice d basis representatives a) (b * 2 ^ length basis + low) (choice_count basis representatives) (b * 2 ^ length basis + s)
first_of_row d basis representatives a b low s basis_below below row_a row_b first =
    let span = 2 ^ length basis in
    let from = first.from in
    let column = first.within in
    let within = place_within b s (length representatives) span row_b column in
    record {
      from = omega arith;
      within = within;
      passes = choice_close d basis representatives a b s basis_below below row_a row_b column ∙ first.passes;
      none_before = λ t after before.
          let i = t - b * span in
          let place : b * span + i ≡ t = omega arith in
          ap (is_close_choice d basis representatives a) (sym place)
          ∙ choice_close d basis representatives a b i basis_below below row_a row_b (omega arith) ∙ first.none_before i (omega arith) (omega arith);
    }

-- the first item after place i that passes is the first of the rest
pub position-first : (test : ℕ → Bool) (xs : List ℕ) (i k : ℕ) → IsFirst (λ t. test (get_or xs t 0)) (i + 1) (length xs) k
    → position test (drop (i + 1) xs) ≡ Some (k - (i + 1))
position-first test xs i k first =
    let from = first.from in
    let within = first.within in
    let rest = length-drop (i + 1) xs in
    let place : i + 1 + (k - (i + 1)) ≡ k = omega arith in
    first_is test (drop (i + 1) xs) (k - (i + 1)) (omega arith)
    (λ m before. ap test (get_or-drop (i + 1) xs m 0) ∙ first.none_before (i + 1 + m) (omega arith) (omega arith))
    (ap test (get_or-drop (i + 1) xs (k - (i + 1)) 0 ∙ ap (λ p. get_or xs p 0) place) ∙ first.passes)

pub position-none : (test : ℕ → Bool) (xs : List ℕ) (i : ℕ) → NonePasses (λ t. test (get_or xs t 0)) (i + 1) (length xs)
    → position test (drop (i + 1) xs) ≡ None
position-none test xs i none =
    let rest = length-drop (i + 1) xs in
    none_is test (drop (i + 1) xs) (λ m within. ap test (get_or-drop (i + 1) xs m 0) ∙ none (i + 1 + m) (omega arith) (omega arith))
