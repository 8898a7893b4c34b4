-- The text of a word, eight digits at a time.
use Rattle.std.proofs.Common.{◌≡◌, ℕ, zero, suc, ◌+◌, ◌-◌, ◌*◌, ◌/◌, ◌%◌, ◌^◌, ◌<◌, ◌≤◌, List, ◌∷◌, ◌++◌, length, take, drop, sym, refl, ap, ap₂, ◌∙◌, arith, length-take, pow-add, pow_pos}
use Rattle.std.proofs.Math.Seq.{drop-append_seam}
use Rattle.std.proofs.lemmas.List.{drop-drop}
use Rattle.std.proofs.lemmas.Nat.{mod-pow-add, mod_below, div_below, shr_split}
use Rattle.std.proofs.lemmas.Nat.Bits.{bit_at_cat_low, bit_at_cat_high}
use Rattle.std.proofs.Math.Nat.{div-div-eq-div-mul, div-one}
use Rattle.std.proofs.Math.ListN.{drop_of_length-le}
use borrow.Rule.Slice.PartMut.{put_mid}
use Rattle.ct_words.specs.Word.{digit}
use Rattle.ct_words.specs.Text.{tabulate, word_text}
use Rattle.ct_words.proofs.TextLemmas.{tabulate_same}

-- the first a values, and the others
tabulate-add : (f g : ℕ → ℕ) (a b : ℕ) → ((p : ℕ) → f (a + p) ≡ g p) → tabulate f (a + b) ≡ tabulate f a ++ tabulate g b
tabulate-add f g zero b same =
    let all : 0 + b ≡ b = omega arith in
    rw all (tabulate_same f g b (λ p h. let there : p ≡ 0 + p = omega arith in ap f there ∙ same p))
tabulate-add f g (suc a) b same =
    let all : suc a + b ≡ suc (a + b) = omega arith in
    rw all (ap (λ (xs : List ℕ). f 0 ∷ xs) (tabulate-add (λ p. f (suc p)) g a b (λ p. let there : suc (a + p) ≡ suc a + p = omega arith in ap f there ∙ same p)))

-- a word of two parts has the text of the one before that of the other
pub word_text-parts : (a b c v : ℕ) → v < 2 ^ b → word_text (a + b) (c * 2 ^ b + v) ≡ word_text a c ++ word_text b v
unfolding word_text
word_text-parts a b c v below =
    let x = c * 2 ^ b + v in
    tabulate-add (λ p. 48 + digit (a + b) x p) (λ p. 48 + digit (a + b) x (a + p)) a b (λ p. refl)
    ∙ ap₂ (λ (xs ys : List ℕ). xs ++ ys)
    (tabulate_same (λ p. 48 + digit (a + b) x p) (λ p. 48 + digit a c p) a (λ p h. ap (λ q. 48 + q) (high p h)))
    (tabulate_same (λ p. 48 + digit (a + b) x (a + p)) (λ p. 48 + digit b v p) b (λ p h. ap (λ q. 48 + q) (low p h)))
  where
    high : (p : ℕ) → p < a → digit (a + b) (c * 2 ^ b + v) p ≡ digit a c p
    high p h =
        let there : a + b - 1 - p - b ≡ a - 1 - p = omega arith in
        bit_at_cat_high c b v (a + b - 1 - p) below (omega arith) ∙ ap (λ k. c / 2 ^ k % 2) there

    low : (p : ℕ) → p < b → digit (a + b) (c * 2 ^ b + v) (a + p) ≡ digit b v p
    low p h =
        let there : a + b - 1 - (a + p) ≡ b - 1 - p = omega arith in
        ap (λ k. (c * 2 ^ b + v) / 2 ^ k % 2) there ∙ bit_at_cat_low c b v (b - 1 - p) (omega arith)

-- the last digits of a word, eight more of them
eight_last : (m word : ℕ) → word_text (8 + m) (word % 2 ^ (8 + m)) ≡ word_text 8 (word / 2 ^ m % 256) ++ word_text m (word % 2 ^ m)
eight_last m word =
    ap (word_text (8 + m)) (mod-pow-add word 8 m)
    ∙ word_text-parts 8 m (word / 2 ^ m % 256) (word % 2 ^ m) (mod_below word (2 ^ m) (pow_pos m))

-- eight digits were put before the last ones
pub eight_more : (left n k word : ℕ) (into eight : List ℕ) → 8 ≤ left → left ≤ n → k ≡ 8 → length into ≡ n → eight ≡ word_text 8 (word / 2 ^ (n - left) % 256)
    → drop left into ≡ word_text (n - left) (word % 2 ^ (n - left))
    → drop (left - 8) (put_mid (left - 8) k into eight) ≡ word_text (n - (left - 8)) (word % 2 ^ (n - (left - 8)))
eight_more left n k word into eight some within eight_is long put last =
    let a = left - 8 in
    let m = n - left in
    let all : n - a ≡ 8 + m = omega arith in
    let end : a + k ≡ left = omega arith in
    let front : length (take a into) ≡ a = length-take a into ∙ omega (arith, long) in
    ap (λ j. drop j (put_mid a k into eight)) (sym front)
    ∙ drop-append_seam (take a into) (eight ++ drop k (drop a into))
    ∙ ap₂ (λ (xs ys : List ℕ). xs ++ ys) put (drop-drop k a into ∙ ap (λ j. drop j into) end ∙ last)
    ∙ sym (eight_last m word)
    ∙ ap (λ j. word_text j (word % 2 ^ j)) (sym all)

-- the digits before the last ones were put
pub first_more : (left n word rest : ℕ) (into first : List ℕ) → left ≤ n → word < 2 ^ n → rest ≡ word / 2 ^ (n - left) → first ≡ word_text left rest
    → drop left into ≡ word_text (n - left) (word % 2 ^ (n - left)) → first ++ drop left into ≡ word_text n word
first_more left n word rest into first within below rest_is put last =
    let m = n - left in
    let all : left + m ≡ n = omega arith in
    ap₂ (λ (xs ys : List ℕ). xs ++ ys) (put ∙ ap (word_text left) rest_is) last
    ∙ sym (word_text-parts left m (word / 2 ^ m) (word % 2 ^ m) (mod_below word (2 ^ m) (pow_pos m)))
    ∙ ap₂ word_text all (shr_split word m)

-- what is left of a word has as many digits as are left
pub rest_below : (left n word rest : ℕ) → left ≤ n → word < 2 ^ n → rest ≡ word / 2 ^ (n - left) → rest < 2 ^ left
rest_below left n word rest within below rest_is =
    let all : left + (n - left) ≡ n = omega arith in
    rw rest_is (div_below word (2 ^ (n - left)) (2 ^ left) (pow_pos (n - left)) (rw (sym (pow-add 2 left (n - left)), all) below))

-- and less by eight digits
pub rest_more : (left n word rest : ℕ) → 8 ≤ left → left ≤ n → rest ≡ word / 2 ^ (n - left) → rest / 256 ≡ word / 2 ^ (n - (left - 8))
rest_more left n word rest some within rest_is =
    let m = n - left in
    let all : n - (left - 8) ≡ m + 8 = omega arith in
    ap (λ j. j / 256) rest_is ∙ div-div-eq-div-mul word (2 ^ m) 256 ∙ ap (λ j. word / j) (sym (pow-add 2 m 8)) ∙ ap (λ j. word / 2 ^ j) (sym all)

-- nothing of a word is left out
pub none_put : (n word : ℕ) (into : List ℕ) → length into ≡ n → (n ≤ n) × (word ≡ word / 2 ^ (n - n)) × (drop n into ≡ word_text (n - n) (word % 2 ^ (n - n)))
unfolding word_text
none_put n word into long =
    let none : n - n ≡ 0 = omega arith in
    (omega arith, rw none (sym (div-one word)), rw none (drop_of_length-le into (omega (arith, long))))
