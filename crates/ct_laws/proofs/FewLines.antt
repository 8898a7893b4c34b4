-- Lines whose claims are true and different are fewer than 2^63: a claim is one of so many.
use Rattle.std.proofs.Common.{◌≡◌, ◌≢◌, ℕ, zero, suc, ◌+◌, ◌*◌, ◌^◌, ◌<◌, ◌≤◌, false, List, [], ◌∷◌, map, length, Option, Some, None, refl, sym, ap, ap₂, ◌∙◌, arith, eqb, eqb-true, ne_eqb}
use Rattle.std.specs.Prelude.{All, AllPairs}
use Rattle.std.proofs.lemmas.List.{length-map}
use Rattle.std.proofs.lemmas.List.Elements.{All-head, All-tail, All-cons, All-nil, All-weaker, recursion_from_All}
use Rattle.std.specs.List.{IsDistinct}
use Rattle.std.proofs.lemmas.List.Folds.{Any-from_list_any}
use Rattle.std.proofs.lemmas.Map.Steps.{length-le_from_distinct_below}
use Rattle.ct_words.specs.declared.limits.TheConstants.{MAX_N, MAX_BOUND}
use Rattle.ct_words.specs.declared.claim.Side.{Side}
use Rattle.ct_words.specs.declared.claim.Side.TheVariants.{Lower, Upper}
use Rattle.ct_words.specs.declared.claim.Claim.{Claim}
use Rattle.ct_words.specs.Claim.{IsTrueClaim}
use Rattle.ct_rules.specs.Derivation.{LineValue}
use Rattle.ct_laws.proofs.SmallEntries.{HasSmallNumbers, small_numbers}

-- the parts of a claim as numbers, and back
abbrev side_number : Side → ℕ
side_number Lower = 0
side_number Upper = 1

abbrev side_from : ℕ → Side
side_from zero = Lower
side_from (suc n) = Upper

abbrev weight_number : Option ℕ → ℕ
weight_number None = 0
weight_number (Some w) = suc w

abbrev weight_from : ℕ → Option ℕ
weight_from zero = None
weight_from (suc w) = Some w

side_again : (s : Side) → side_from (side_number s) ≡ s
side_again Lower = refl
side_again Upper = refl

weight_again : (w : Option ℕ) → weight_from (weight_number w) ≡ w
weight_again None = refl
weight_again (Some w) = refl

side_number-le : (s : Side) → side_number s ≤ 1
side_number-le Lower = omega arith
side_number-le Upper = omega arith

weight_number-le : (w : Option ℕ) → ((v : ℕ) → w ≡ Some v → v ≤ MAX_N) → weight_number w ≤ suc MAX_N
weight_number-le None h = omega arith
weight_number-le (Some v) h = let few = h v refl in omega (arith, few)

-- the number of a claim, digit by digit
abbrev by_weight : ℕ → ℕ → ℕ → ℕ → ℕ
by_weight s n d w = ((s * suc MAX_N + n) * suc MAX_N + d) * suc (suc MAX_N) + w

abbrev number_from : ℕ → ℕ → ℕ → ℕ → ℕ → ℕ
number_from s n d w v = by_weight s n d w * suc MAX_BOUND + v

abbrev number_of_claim : Claim → ℕ
number_of_claim c = number_from (side_number c.side) c.entry.n c.entry.d (weight_number c.entry.w) c.value

-- equal numbers have equal digits
length_digits : (a b x y : ℕ) → x ≤ MAX_N → y ≤ MAX_N → a * suc MAX_N + x ≡ b * suc MAX_N + y → (a ≡ b) × (x ≡ y)
length_digits a b x y h k e = (omega (arith, h, k, e), omega (arith, h, k, e))

weight_digits : (a b x y : ℕ) → x ≤ suc MAX_N → y ≤ suc MAX_N → a * suc (suc MAX_N) + x ≡ b * suc (suc MAX_N) + y → (a ≡ b) × (x ≡ y)
weight_digits a b x y h k e = (omega (arith, h, k, e), omega (arith, h, k, e))

bound_digits : (a b x y : ℕ) → x ≤ MAX_BOUND → y ≤ MAX_BOUND → a * suc MAX_BOUND + x ≡ b * suc MAX_BOUND + y → (a ≡ b) × (x ≡ y)
bound_digits a b x y h k e = (omega (arith, h, k, e), omega (arith, h, k, e))

-- what is known of a claim that is true
record IsSmall (c : Claim) : Type 0 where
  entry : HasSmallNumbers c.entry
  value : c.value ≤ MAX_BOUND

small : (c : Claim) → IsTrueClaim c → IsSmall c
small c h = let few = h.range.1 in record { entry = small_numbers c.entry h.entry; value = omega (arith, few) }

claim_from : (c : Claim) → record { side = side_from (side_number c.side); entry = record { n = c.entry.n; d = c.entry.d; w = weight_from (weight_number c.entry.w) }; value = c.value } ≡ c
claim_from c =
    ap₂ (λ (s : Side) (w : Option ℕ). record { side = s; entry = record { n = c.entry.n; d = c.entry.d; w = w }; value = c.value }) (side_again c.side) (weight_again c.entry.w)

abbrev built : ℕ → ℕ → ℕ → ℕ → ℕ → Claim
built s n d w v = record { side = side_from s; entry = record { n = n; d = d; w = weight_from w }; value = v }

same_claim : (c e : Claim) → IsSmall c → IsSmall e → number_of_claim c ≡ number_of_claim e → c ≡ e
same_claim c e h k same =
    let weight_c = weight_number-le c.entry.w h.entry.weight_small in
    let weight_e = weight_number-le e.entry.w k.entry.weight_small in
    let values = bound_digits (by_weight (side_number c.side) c.entry.n c.entry.d (weight_number c.entry.w)) (by_weight (side_number e.side) e.entry.n e.entry.d (weight_number e.entry.w)) c.value e.value h.value k.value same in
    let weights = weight_digits ((side_number c.side * suc MAX_N + c.entry.n) * suc MAX_N + c.entry.d) ((side_number e.side * suc MAX_N + e.entry.n) * suc MAX_N + e.entry.d) (weight_number c.entry.w) (weight_number e.entry.w) weight_c weight_e values.0 in
    let distances = length_digits (side_number c.side * suc MAX_N + c.entry.n) (side_number e.side * suc MAX_N + e.entry.n) c.entry.d e.entry.d h.entry.distance_small k.entry.distance_small weights.0 in
    let lengths = length_digits (side_number c.side) (side_number e.side) c.entry.n e.entry.n h.entry.length_small k.entry.length_small distances.0 in
    sym (claim_from c)
    ∙ ap₂ (λ s n. built s n c.entry.d (weight_number c.entry.w) c.value) lengths.0 lengths.1
    ∙ ap₂ (λ d w. built (side_number e.side) e.entry.n d w c.value) distances.1 weights.1
    ∙ ap (λ v. built (side_number e.side) e.entry.n e.entry.d (weight_number e.entry.w) v) values.1
    ∙ claim_from e

-- the number of a true claim is below 2^63
number_below : (c : Claim) → IsSmall c → number_of_claim c < 2 ^ 63
number_below c h =
    let side = side_number-le c.side in
    let weight = weight_number-le c.entry.w h.entry.weight_small in
    let long = h.entry.length_small in
    let far = h.entry.distance_small in
    let value = h.value in
    omega (arith, side, weight, long, far, value)

abbrev numbers : List LineValue → List ℕ
numbers lines = map (λ l. number_of_claim l.claim) lines

unlike : (line : LineValue) (lines : List LineValue) → IsTrueClaim line.claim → All (λ l. IsTrueClaim l.claim) lines → All (λ (l : LineValue). line.claim ≢ l.claim) lines
    → All (λ n. number_of_claim line.claim ≢ n) (numbers lines)
unlike line [] h all different = All-nil (λ n. number_of_claim line.claim ≢ n)
unlike line (l ∷ lines) h all different =
    All-cons (λ n. number_of_claim line.claim ≢ n) (number_of_claim l.claim) (numbers lines)
    (λ same. All-head (λ (m : LineValue). line.claim ≢ m.claim) l lines different (same_claim line.claim l.claim (small line.claim h) (small l.claim (All-head (λ m. IsTrueClaim m.claim) l lines all)) same))
    (unlike line lines h (All-tail (λ m. IsTrueClaim m.claim) l lines all) (All-tail (λ (m : LineValue). line.claim ≢ m.claim) l lines different))

distinct : (lines : List LineValue) → All (λ l. IsTrueClaim l.claim) lines → AllPairs (λ l m. l.claim ≢ m.claim) lines → IsDistinct eqb (numbers lines)
unfolding IsDistinct
distinct [] all different = tt
distinct (l ∷ lines) all different = (
  recursion_from_All (λ m. eqb (number_of_claim l.claim) m ≡ false) (numbers lines)
      (All-weaker (λ n. number_of_claim l.claim ≢ n) (λ m. eqb (number_of_claim l.claim) m ≡ false) (λ m other. ne_eqb (number_of_claim l.claim) m other) (numbers lines)
      (unlike l lines (All-head (λ m. IsTrueClaim m.claim) l lines all) (All-tail (λ m. IsTrueClaim m.claim) l lines all) (λ i d within. different 0 (suc i) d (omega arith) (omega (arith, within))))),
  distinct lines (All-tail (λ m. IsTrueClaim m.claim) l lines all) (λ i j d before within. different (suc i) (suc j) d (omega (arith, before)) (omega (arith, within))),
)

below : (lines : List LineValue) → All (λ l. IsTrueClaim l.claim) lines → All (λ n. n < 2 ^ 63) (numbers lines)
below [] all = All-nil (λ n. n < 2 ^ 63)
below (l ∷ lines) all =
    All-cons (λ n. n < 2 ^ 63) (number_of_claim l.claim) (numbers lines) (number_below l.claim (small l.claim (All-head (λ m. IsTrueClaim m.claim) l lines all)))
    (below lines (All-tail (λ m. IsTrueClaim m.claim) l lines all))

-- so there are no more of them
pub few_lines : (lines : List LineValue) → All (λ l. IsTrueClaim l.claim) lines → AllPairs (λ l m. l.claim ≢ m.claim) lines → length lines ≤ 2 ^ 63
few_lines lines all different =
    let long = length-map lines (λ l. number_of_claim l.claim) in
    let few = length-le_from_distinct_below (numbers lines) (2 ^ 63) (distinct lines all different) (λ q found.
    let place = Any-from_list_any (eqb q) (numbers lines) found in
    let same = eqb-true q place.1 place.4 in
    let small = below lines all place.0 place.1 place.2 in
    let at = place.3 in
    omega (arith, same, small, at)) in
    omega (arith, long, few)
