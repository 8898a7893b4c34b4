-- Lists of words that are made one word after another.
use Rattle.std.proofs.Common.{◌≡◌, ℕ, Bool, true, false, ◌+◌, ◌-◌, ◌*◌, ◌^◌, ◌<◌, ◌≤◌, List, [], ◌∷◌, ◌++◌, map, take, filter, get_or, length, Iter, sym, ap, ◌∙◌, arith}
use Rattle.std.specs.Iterator.Adapters.{zip_first, zip_second}
use Rattle.std.specs.Slice.Iter.{iter_rest}
use Rattle.std.specs.declared.iter.Zip.{Zip}
use Rattle.std.proofs.Math.Nat.{pow-le-pow_right}
use Rattle.std.proofs.lemmas.List.{map_more, map-append, append-nil}
use Rattle.std.proofs.lemmas.List.Elements.{filter_more}
use Rattle.ct_words.specs.declared.limits.TheConstants.{MAX_N}
use Rattle.ct_words.specs.Code.{CodeValue, IsSoundCode}

-- one more of a list that is mapped
pub mapped_more : (f : ℕ → ℕ) (words before after : List ℕ) (i y : ℕ) → i < length words → before ≡ map f (take i words)
    → after ≡ before ++ y ∷ [] → y ≡ f (get_or words i 0) → after ≡ map f (take (i + 1) words)
mapped_more f words before after i y within was is value = rw (is, was, value) (sym (map_more f words i 0 within))

-- one more of a list of which those that pass a test are mapped: it passes
pub kept_more : (f : ℕ → ℕ) (p : ℕ → Bool) (words before after : List ℕ) (i y : ℕ) → i < length words → before ≡ map f (filter p (take i words))
    → after ≡ before ++ y ∷ [] → p (get_or words i 0) ≡ true → y ≡ f (get_or words i 0) → after ≡ map f (filter p (take (i + 1) words))
kept_more f p words before after i y within was is passes value = rw (is, was, value, filter_more p words i 0 within, passes)
    (sym (map-append f (filter p (take i words)) (get_or words i 0 ∷ [])))

-- and where it doesn't, they stay
pub left_out : (f : ℕ → ℕ) (p : ℕ → Bool) (words : List ℕ) (i : ℕ) → i < length words → p (get_or words i 0) ≡ false
    → map f (filter p (take (i + 1) words)) ≡ map f (filter p (take i words))
left_out f p words i within fails = rw (filter_more p words i 0 within, fails, append-nil (filter p (take i words)))

-- a word of a code with one more digit is a number of 32 bits
pub appended_fits : (code : CodeValue) (i a : ℕ) → IsSoundCode code → code.n < MAX_N → i < length code.words → a < 2 → get_or code.words i 0 * 2 + a < 2 ^ 32
appended_fits code i a sound short within digit =
    let few : code.n ≤ MAX_N = omega arith in
    let most : 2 ^ code.n ≤ 2 ^ MAX_N = pow-le-pow_right (omega arith) few in
    fits (get_or code.words i 0) a (2 ^ code.n) (sound.code.lengths i 0 within) most digit
  where
    fits : (x a p : ℕ) → x < p → p ≤ 2 ^ MAX_N → a < 2 → x * 2 + a < 2 ^ 32
    fits x a p below most digit = omega arith

-- two lists that are gone over together, from their first numbers on
pub first_from : (s t : Zip (Iter ℕ) (Iter ℕ)) (it : Iter ℕ) (xs : List ℕ) → s ≡ t → zip_first t ≡ it → iter_rest it ≡ xs → iter_rest (zip_first s) ≡ xs
first_from s t it xs same first is = ap (λ (z : Zip (Iter ℕ) (Iter ℕ)). iter_rest (zip_first z)) same ∙ ap (λ (i : Iter ℕ). iter_rest i) first ∙ is

pub second_from : (s t : Zip (Iter ℕ) (Iter ℕ)) (ys : List ℕ) → s ≡ t → iter_rest (zip_second t) ≡ ys → iter_rest (zip_second s) ≡ ys
second_from s t ys same is = ap (λ (z : Zip (Iter ℕ) (Iter ℕ)). iter_rest (zip_second z)) same ∙ is

-- a place of a word is below its length, which is some
pub length_from : (n p : ℕ) → p < n → 1 ≤ n
length_from n p within = omega arith

pub place_to : (n p : ℕ) → p < n → p ≤ n - 1
place_to n p within = omega arith
