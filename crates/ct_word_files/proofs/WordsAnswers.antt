-- Where each answer comes for the texts of words.
use Rattle.std.proofs.Common.{◌≡◌, ℕ, zero, suc, ◌^◌, ◌<◌, ◌≤◌, false, ◌&&◌, nat_le, true, List, length, Result, Ok, Err, ◌⊎◌, inl, inr, ◌↔◌, refl, sym, ap, ◌∙◌, subst, le-leb, leb-false, zero-add, arith}
use Rattle.std.proofs.lemmas.Bool.{and_parts, cases_Bool, leb-true, lt-leb, false≢true}
use Rattle.std.proofs.lemmas.List.Elements.{All-from_recursion, recursion_from_All}
use Rattle.ct_words.specs.declared.entry.Entry.{Entry}
use Rattle.ct_words.specs.declared.fault.TheConstants.{MAX_WORDS}
use Rattle.ct_fields.specs.Fields.{words_from}
use Rattle.ct_kind.specs.declared.evidence.Evidence.{Evidence}
use Rattle.ct_kind.specs.declared.evidence.Evidence.TheVariants.{Words}
use Rattle.ct_fields.specs.declared.fault.DocumentFault.{DocumentFault}
use Rattle.ct_fields.specs.declared.fault.DocumentFault.TheVariants.{Digits, Size}
use Rattle.ct_fields.proofs.StepLemmas.{bind-at, bind-at_err, bind-cases, check-ok, check-err}
use Rattle.ct_fields.proofs.WordsLemmas.{words_from-ok, words_from-from, words_from-err, words_from-wrong}
use Rattle.ct_word_files.specs.Words.{word_count, words_of_texts, AreTextsOf, IsWordsOf}

-- a count that is taken is in its range
pub count_within : (low high k : ℕ) → (nat_le low k && nat_le k high) ≡ true → (low ≤ k) × (k ≤ high)
count_within low high k e =
    let (some, few) = and_parts (nat_le low k) (nat_le k high) e in
    (leb-true low k some, leb-true k high few)

-- a count that isn't taken is 0 or too great
pub count_outside : (high k : ℕ) → (nat_le 1 k && nat_le k high) ≡ false → (k ≡ 0) ⊎ (high < k)
count_outside high zero e = inl refl
count_outside high (suc k) e =
    elim (cases_Bool (nat_le (suc k) high)) [
      | inl few ↦ absurd (false≢true (sym e ∙ rw (few, le-leb 1 (suc k) (omega arith)) refl))
      | inr many ↦ inr (leb-false (suc k) high many)
    ]

-- a count that is 0 or too great isn't taken
pub count_refused : (high k : ℕ) → (k ≡ 0) ⊎ (high < k) → (nat_le 1 k && nat_le k high) ≡ false
count_refused high k (inl none) = rw none refl
count_refused high k (inr many) = rw (le-leb 1 k (omega arith), lt-leb k high many) refl

-- texts that are read are those of the words, and such are read
pub texts-read : (n place : ℕ) (texts : List (List ℕ)) (words : List ℕ) → words_from n place texts ≡ Ok words → AreTextsOf n words texts
texts-read n place texts words read =
    let (same, short) = words_from-ok n place texts words read in
    record { same = same; lengths = All-from_recursion (λ x. x < 2 ^ n) words short }

pub texts-from : (n place : ℕ) (texts : List (List ℕ)) (words : List ℕ) → AreTextsOf n words texts → words_from n place texts ≡ Ok words
texts-from n place texts words are =
    ap (words_from n place) are.same ∙ words_from-from n place words (recursion_from_All (λ x. x < 2 ^ n) words are.lengths)

-- the answer comes where it is said to come
answer : (e : Entry) (texts : List (List ℕ)) → IsWordsOf e texts (words_of_texts e texts)
answer e texts =
    let P : Result Evidence DocumentFault → Type 0 = IsWordsOf e texts in
    bind-cases P (words_from e.n 0 texts) _ (λ words read.
    let are = texts-read e.n 0 texts words read in
    bind-cases P (word_count words) _ (λ counted taken.
    let (some, few) = count_within 1 MAX_WORDS (length words) (check-ok _ (Size (length words)) counted taken) in (refl, are, some, few))
    (λ fault refused.
    let (out, is) = check-err (nat_le 1 (length words) && nat_le (length words) MAX_WORDS) (Size (length words)) fault refused in
    subst (λ f. P (Err f)) is (words, are, refl, count_outside MAX_WORDS (length words) out)))
    (λ fault wrong.
    let (i, is, first) = words_from-err e.n 0 texts fault wrong in
    subst (λ f. P (Err f)) is (rw (zero-add i) first))

-- where an answer is said to come, it comes
answer-from : (e : Entry) (texts : List (List ℕ)) (said : Result Evidence DocumentFault) → IsWordsOf e texts said → words_of_texts e texts ≡ said
answer-from e texts (Ok (Words own words)) (is, are, some, few) =
    bind-at (words_from e.n 0 texts) _ words (texts-from e.n 0 texts words are)
    ∙ rw (le-leb 1 (length words) some, le-leb (length words) MAX_WORDS few) (ap (λ f. Ok (Words f words)) (sym is))
answer-from e texts (Ok other) never = absurd never
answer-from e texts (Err (Digits i)) first =
    bind-at_err (words_from e.n 0 texts) _ (Digits i) (words_from-wrong e.n 0 texts i first ∙ ap (λ k. Err (Digits k)) (zero-add i))
answer-from e texts (Err (Size c)) (words, are, same, out) =
    let refused = count_refused MAX_WORDS (length words) (subst (λ k. (k ≡ 0) ⊎ (MAX_WORDS < k)) same out) in
    bind-at (words_from e.n 0 texts) _ words (texts-from e.n 0 texts words are) ∙ rw refused (ap (λ k. Err (Size k)) (sym same))
answer-from e texts (Err fault) never = absurd never

-- each answer to the texts of words comes exactly where it is said to come
pub words_answers : (e : Entry) (texts : List (List ℕ)) (said : Result Evidence DocumentFault) → (words_of_texts e texts ≡ said) ↔ IsWordsOf e texts said
words_answers e texts said = (λ same. subst (IsWordsOf e texts) same (answer e texts), answer-from e texts said)
