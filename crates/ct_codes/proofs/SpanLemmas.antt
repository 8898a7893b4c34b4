-- Sums over a basis, and the words of choices.
use Rattle.std.proofs.Common.{◌≡◌, ℕ, zero, suc, ◌+◌, ◌*◌, ◌/◌, ◌%◌, ◌^◌, ◌<◌, ◌==◌, if◌then◌else◌, Bool, true, false, bit_xor, List, [], ◌∷◌, ◌++◌, length, map, get_or, All, subst, sym, refl, ap, ap₂, ◌∙◌, arith, add-one, pow-suc, pow_pos}
use Rattle.std.specs.Int.Bits.{xor_assoc, xor_self, xor_zero_l, xor_zero_r}
use Rattle.std.proofs.lemmas.Nat.{xor_comm, xor_lt, xor_mod, xor_shr, xor_block, div-mul-add, mod-mul-add, mod_below, div_below}
use Rattle.std.proofs.lemmas.List.Elements.{All-head, All-tail, All-from_get_or}
use Rattle.ct_words.specs.Text.{tabulate}
use Rattle.ct_words.proofs.TextLemmas.{tabulate_same, length-tabulate, get_or-tabulate}
use Rattle.ct_words.proofs.AllWords.{tabulate-add}
use Rattle.ct_words.specs.Coset.{span_word, choice_count, choice_word, coset_list}
use Rattle.ct_codes.specs.Inside.Translated.{translated}

-- a sum of two sums, regrouped
pub xor_exchange : (a b c d : ℕ) → bit_xor (bit_xor a b) (bit_xor c d) ≡ bit_xor (bit_xor a c) (bit_xor b d)
xor_exchange a b c d =
    xor_assoc a b (bit_xor c d)
    ∙ ap (bit_xor a) (sym (xor_assoc b c d) ∙ ap (λ z. bit_xor z d) (xor_comm b c) ∙ xor_assoc c b d)
    ∙ sym (xor_assoc a c (bit_xor b d))

-- a basis word, where its digit is 1
abbrev pub chosen : ℕ → ℕ → ℕ
chosen b r = if r == 1 then b else 0

chosen-sum : (b p q : ℕ) → p < 2 → q < 2 → chosen b (bit_xor p q) ≡ bit_xor (chosen b p) (chosen b q)
chosen-sum b zero zero h k = refl
chosen-sum b zero (suc zero) h k = sym (xor_zero_l b)
chosen-sum b (suc zero) zero h k = sym (xor_zero_r b)
chosen-sum b (suc zero) (suc zero) h k = sym (xor_self b)
chosen-sum b zero (suc (suc q)) h k = absurd (omega arith)
chosen-sum b (suc zero) (suc (suc q)) h k = absurd (omega arith)
chosen-sum b (suc (suc p)) q h k = absurd (omega arith)

pub chosen-lt : (n b : ℕ) (t : Bool) → b < 2 ^ n → (if t then b else 0) < 2 ^ n
chosen-lt n b true below = below
chosen-lt n b false below = pow_pos n

-- no basis word is chosen by 0
pub span_word-zero : (basis : List ℕ) → span_word basis 0 ≡ 0
span_word-zero [] = refl
span_word-zero (b ∷ bs) = ap (bit_xor 0) (span_word-zero bs)

-- the sum of two sums of basis words
pub span_word-sum : (basis : List ℕ) (s t : ℕ) → span_word basis (bit_xor s t) ≡ bit_xor (span_word basis s) (span_word basis t)
span_word-sum [] s t = refl
span_word-sum (b ∷ bs) s t =
    ap₂ bit_xor
    (ap (chosen b) (xor_mod s t 1) ∙ chosen-sum b (s % 2) (t % 2) (mod_below s 2 (omega arith)) (mod_below t 2 (omega arith)))
    (ap (span_word bs) (xor_shr s t 1) ∙ span_word-sum bs (s / 2) (t / 2))
    ∙ xor_exchange (chosen b (s % 2)) (chosen b (t % 2)) (span_word bs (s / 2)) (span_word bs (t / 2))

-- one basis word
pub span_word-one : (basis : List ℕ) (j : ℕ) → j < length basis → span_word basis (2 ^ j) ≡ get_or basis j 0
span_word-one [] j within = absurd (omega arith)
span_word-one (b ∷ bs) zero within = ap (bit_xor b) (span_word-zero bs) ∙ xor_zero_r b
span_word-one (b ∷ bs) (suc j) within =
    let double = pow-suc 2 j in
    let even : 2 ^ suc j % 2 ≡ 0 = omega arith in
    let half : 2 ^ suc j / 2 ≡ 2 ^ j = omega arith in
    ap₂ bit_xor (ap (chosen b) even) (ap (span_word bs) half ∙ span_word-one bs j (omega arith)) ∙ xor_zero_l (get_or bs j 0)

-- sums of words are words
pub span_word-lt : (n : ℕ) (basis : List ℕ) (s : ℕ) → All (λ x. x < 2 ^ n) basis → span_word basis s < 2 ^ n
span_word-lt n [] s below = pow_pos n
span_word-lt n (b ∷ bs) s below =
    xor_lt n (chosen b (s % 2)) (span_word bs (s / 2)) (chosen-lt n b (s % 2 == 1) (All-head (λ x. x < 2 ^ n) b bs below))
    (span_word-lt n bs (s / 2) (All-tail (λ x. x < 2 ^ n) b bs below))

-- 2^i and a number below it
pub pow_sum : (i s : ℕ) → s < 2 ^ i → bit_xor s (2 ^ i) ≡ 2 ^ i + s
pow_sum i s below =
    let s_is : s ≡ 0 * 2 ^ i + s = omega arith in
    let power_is : 2 ^ i ≡ 1 * 2 ^ i + 0 = omega arith in
    let sum : 1 * 2 ^ i + s ≡ 2 ^ i + s = omega arith in
    ap₂ bit_xor s_is power_is ∙ xor_block i 0 1 s 0 below (pow_pos i) ∙ ap (λ z. 1 * 2 ^ i + z) (xor_zero_r s) ∙ sum

-- one basis word more
pub span_word-next : (basis : List ℕ) (i s : ℕ) → i < length basis → s < 2 ^ i
    → span_word basis (2 ^ i + s) ≡ bit_xor (span_word basis s) (get_or basis i 0)
span_word-next basis i s within below =
    ap (span_word basis) (sym (pow_sum i s below)) ∙ span_word-sum basis s (2 ^ i) ∙ ap (bit_xor (span_word basis s)) (span_word-one basis i within)

-- the images of a table
map-tabulate : (g f : ℕ → ℕ) (n : ℕ) → map g (tabulate f n) ≡ tabulate (λ i. g (f i)) n
map-tabulate g f zero = refl
map-tabulate g f (suc n) = ap (λ ys. g (f 0) ∷ ys) (map-tabulate g (λ i. f (suc i)) n)

-- the sums of a word with the first basis words, and the same with one basis word more
pub translated-doubled : (basis : List ℕ) (x i : ℕ) → i < length basis
    → tabulate (λ s. bit_xor x (span_word basis s)) (2 ^ i) ++ map (λ y. bit_xor y (get_or basis i 0)) (tabulate (λ s. bit_xor x (span_word basis s)) (2 ^ i))
    ≡ tabulate (λ s. bit_xor x (span_word basis s)) (2 ^ (i + 1))
translated-doubled basis x i within =
    let more = get_or basis i 0 in
    let word = λ (s : ℕ). bit_xor x (span_word basis s) in
    let double = ap (λ j. 2 ^ j) (add-one i) ∙ pow-suc 2 i in
    let twice : 2 ^ i + 2 ^ i ≡ 2 ^ (i + 1) = omega arith in
    ap (λ ys. tabulate word (2 ^ i) ++ ys)
    (map-tabulate (λ y. bit_xor y more) word (2 ^ i)
    ∙ tabulate_same (λ s. bit_xor (word s) more) (λ s. word (2 ^ i + s)) (2 ^ i)
    (λ s below. xor_assoc x (span_word basis s) more ∙ ap (bit_xor x) (sym (span_word-next basis i s within below))))
    ∙ sym (tabulate-add word (2 ^ i) (2 ^ i)) ∙ ap (tabulate word) twice

-- the word of a choice, by the place of its representative and what it chooses of the basis
pub choice_word-at : (basis representatives : List ℕ) (a s : ℕ) → s < 2 ^ length basis
    → choice_word basis representatives (a * 2 ^ length basis + s) ≡ bit_xor (get_or representatives a 0) (span_word basis s)
choice_word-at basis representatives a s below =
    ap₂ (λ p q. bit_xor (get_or representatives p 0) (span_word basis q))
    (div-mul-add a (2 ^ length basis) s below) (mod-mul-add a (2 ^ length basis) s below)

-- the sum of a word with no basis word
pub translated-none : (basis : List ℕ) (x : ℕ) → x ≡ bit_xor x (span_word basis 0)
translated-none basis x = sym (xor_zero_r x) ∙ ap (bit_xor x) (sym (span_word-zero basis))

-- the choices of one representative more
pub choices-more : (basis representatives : List ℕ) (a : ℕ)
    → tabulate (choice_word basis representatives) (a * 2 ^ length basis) ++ translated basis (get_or representatives a 0)
    ≡ tabulate (choice_word basis representatives) ((a + 1) * 2 ^ length basis)
choices-more basis representatives a =
    let span = 2 ^ length basis in
    let word = choice_word basis representatives in
    let total : a * span + span ≡ (a + 1) * span = omega arith in
    ap (λ ys. tabulate word (a * span) ++ ys)
    (tabulate_same (λ s. bit_xor (get_or representatives a 0) (span_word basis s)) (λ s. word (a * span + s)) span
    (λ s below. sym (choice_word-at basis representatives a s below)))
    ∙ sym (tabulate-add word (a * span) span) ∙ ap (tabulate word) total

-- the choices of all representatives
pub choices-all : (basis representatives : List ℕ)
    → tabulate (choice_word basis representatives) (length representatives * 2 ^ length basis) ≡ coset_list basis representatives
unfolding coset_list
choices-all basis representatives = refl

-- there is a word for each choice
pub length-coset_list : (basis representatives : List ℕ) → length (coset_list basis representatives) ≡ choice_count basis representatives
unfolding coset_list
length-coset_list basis representatives = length-tabulate (choice_word basis representatives) (choice_count basis representatives)

-- at the place of its number
pub get_or-coset_list : (basis representatives : List ℕ) (t : ℕ) → t < choice_count basis representatives
    → get_or (coset_list basis representatives) t 0 ≡ choice_word basis representatives t
unfolding coset_list
get_or-coset_list basis representatives t within = get_or-tabulate (choice_word basis representatives) (choice_count basis representatives) t within

-- and of the length of the basis and the representatives
pub coset_list-lt : (n : ℕ) (basis representatives : List ℕ) → All (λ x. x < 2 ^ n) basis → All (λ x. x < 2 ^ n) representatives
    → All (λ x. x < 2 ^ n) (coset_list basis representatives)
coset_list-lt n basis representatives basis_below below =
    All-from_get_or (λ x. x < 2 ^ n) (coset_list basis representatives) 0 (λ t h.
    let within : t < choice_count basis representatives = subst (λ m. t < m) (length-coset_list basis representatives) h in
    let place = t / 2 ^ length basis in
    subst (λ z. z < 2 ^ n) (sym (get_or-coset_list basis representatives t within))
    (xor_lt n (get_or representatives place 0) (span_word basis (t % 2 ^ length basis))
    (below place 0 (div_below t (2 ^ length basis) (length representatives) (pow_pos (length basis)) within))
    (span_word-lt n basis (t % 2 ^ length basis) basis_below)))
