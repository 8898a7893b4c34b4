-- Where each answer comes for the texts of a basis and of representatives.
use Rattle.std.proofs.Common.{◌≡◌, ℕ, ◌+◌, ◌<◌, ◌≤◌, nat_le, List, ◌++◌, length, Result, Ok, Err, ◌⊎◌, inl, inr, ◌↔◌, refl, sym, ap, ◌∙◌, subst, le-leb, leb-false, zero-add}
use Rattle.std.proofs.lemmas.Bool.{leb-true, lt-leb}
use Rattle.ct_words.specs.declared.limits.TheConstants.{MAX_N}
use Rattle.ct_words.specs.declared.entry.Entry.{Entry}
use Rattle.ct_words.specs.declared.fault.TheConstants.{MAX_REPRESENTATIVES}
use Rattle.ct_fields.specs.Steps.{◌>>=◌, check}
use Rattle.ct_fields.specs.Fields.{words_from}
use Rattle.ct_fields.specs.Tables.{IsFirstWrong}
use Rattle.ct_kind.specs.declared.evidence.Evidence.{Evidence}
use Rattle.ct_kind.specs.declared.evidence.Evidence.TheVariants.{Cosets}
use Rattle.ct_fields.specs.declared.fault.DocumentFault.{DocumentFault}
use Rattle.ct_fields.specs.declared.fault.DocumentFault.TheVariants.{Digits, Size}
use Rattle.ct_fields.proofs.StepLemmas.{bind-ok, bind-err, bind-at, bind-at_err, bind-cases, check-ok, check-err}
use Rattle.ct_fields.proofs.OneAnswer.{value_no_fault}
use Rattle.ct_fields.proofs.WordsLemmas.{words_from-err, words_from-wrong, words_from-append}
use Rattle.ct_word_files.specs.Words.{AreTextsOf}
use Rattle.ct_word_files.specs.Cosets.{coset_count, cosets_of_texts, IsWrongCount, IsCosetsOf}
use Rattle.ct_word_files.proofs.WordsAnswers.{count_within, count_outside, count_refused, texts-read, texts-from}

-- the counts that are taken
counts_taken : (basis words : List ℕ) (x : Unit {0}) → coset_count basis words ≡ Ok x
    → (length basis ≤ MAX_N) × (1 ≤ length words) × (length words ≤ MAX_REPRESENTATIVES)
counts_taken basis words x e =
    let (y, first, next) = bind-ok (check (nat_le (length basis) MAX_N) (Size (length basis))) _ x e in
    let within = count_within 1 MAX_REPRESENTATIVES (length words) (check-ok _ (Size (length words)) x next) in
    (leb-true (length basis) MAX_N (check-ok _ (Size (length basis)) y first), within.0, within.1)

-- the count that is refused
count_wrong : (basis words : List ℕ) (fault : DocumentFault) → coset_count basis words ≡ Err fault → (c : ℕ) × (Size c ≡ fault) × IsWrongCount basis words c
count_wrong basis words fault e =
    elim (bind-err (check (nat_le (length basis) MAX_N) (Size (length basis))) _ fault e) [
      | inl many ↦
          let (out, is) = check-err _ (Size (length basis)) fault many in
          (length basis, is, inl (refl, leb-false (length basis) MAX_N out))
      | inr (y, first, next) ↦
          let (out, is) = check-err _ (Size (length words)) fault next in
          (length words, is, inr (leb-true (length basis) MAX_N (check-ok _ (Size (length basis)) y first), refl, count_outside MAX_REPRESENTATIVES (length words) out))
    ]

wrong_count : (basis words : List ℕ) (c : ℕ) → IsWrongCount basis words c → coset_count basis words ≡ Err (Size c)
wrong_count basis words c (inl (same, many)) =
    rw (lt-leb (length basis) MAX_N (subst (λ k. MAX_N < k) same many)) (ap (λ k. Err (Size k)) (sym same))
wrong_count basis words c (inr (few, same, out)) =
    rw (le-leb (length basis) MAX_N few, count_refused MAX_REPRESENTATIVES (length words) (subst (λ k. (k ≡ 0) ⊎ (MAX_REPRESENTATIVES < k)) same out))
    (ap (λ k. Err (Size k)) (sym same))

-- a text of no word among the first texts, or among those after them, is one of all
wrong_before : (n : ℕ) (basis texts : List (List ℕ)) (fault : DocumentFault) → words_from n 0 basis ≡ Err fault → words_from n 0 (basis ++ texts) ≡ Err fault
wrong_before n basis texts fault e = words_from-append n 0 basis texts ∙ bind-at_err (words_from n 0 basis) _ fault e

wrong_after : (n : ℕ) (basis texts : List (List ℕ)) (words : List ℕ) (fault : DocumentFault) → words_from n 0 basis ≡ Ok words
    → words_from n (length basis) texts ≡ Err fault → words_from n 0 (basis ++ texts) ≡ Err fault
wrong_after n basis texts words fault first e =
    words_from-append n 0 basis texts
    ∙ bind-at (words_from n 0 basis) _ words first
    ∙ bind-at_err (words_from n (0 + length basis) texts) _ fault (ap (λ k. words_from n k texts) (zero-add (length basis)) ∙ e)

-- the fault of all texts is answered as it is said
first_wrong : (e : Entry) (basis texts : List (List ℕ)) (fault : DocumentFault) → words_from e.n 0 (basis ++ texts) ≡ Err fault
    → IsCosetsOf e basis texts (Err fault)
first_wrong e basis texts fault read =
    let (i, is, first) = words_from-err e.n 0 (basis ++ texts) fault read in
    subst (λ f. IsCosetsOf e basis texts (Err f)) is (rw (zero-add i) first)

-- the answer comes where it is said to come
answer : (e : Entry) (basis_texts texts : List (List ℕ)) → IsCosetsOf e basis_texts texts (cosets_of_texts e basis_texts texts)
answer e basis_texts texts =
    let P : Result Evidence DocumentFault → Type 0 = IsCosetsOf e basis_texts texts in
    bind-cases P (words_from e.n 0 basis_texts) _ (λ basis basis-read.
    let basis-are = texts-read e.n 0 basis_texts basis basis-read in
    bind-cases P (words_from e.n (length basis_texts) texts) _ (λ words read.
    let are = texts-read e.n (length basis_texts) texts words read in
    bind-cases P (coset_count basis words) _ (λ counted taken.
    let (few_basis, some, few) = counts_taken basis words counted taken in (refl, basis-are, are, few_basis, some, few))
    (λ fault refused.
    let (c, is, wrong) = count_wrong basis words fault refused in
    subst (λ f. P (Err f)) is (basis, words, basis-are, are, wrong)))
    (λ fault wrong. first_wrong e basis_texts texts fault (wrong_after e.n basis_texts texts basis fault basis-read wrong)))
    (λ fault wrong. first_wrong e basis_texts texts fault (wrong_before e.n basis_texts texts fault wrong))

-- the texts of both lists are those of words
reads : (e : Entry) (basis_texts texts : List (List ℕ)) (basis words : List ℕ) (said : Result Evidence DocumentFault) → AreTextsOf e.n basis basis_texts
    → AreTextsOf e.n words texts → (coset_count basis words >>= (λ _. Ok (Cosets e basis words))) ≡ said → cosets_of_texts e basis_texts texts ≡ said
reads e basis_texts texts basis words said basis-are are rest =
    bind-at (words_from e.n 0 basis_texts) _ basis (texts-from e.n 0 basis_texts basis basis-are)
    ∙ bind-at (words_from e.n (length basis_texts) texts) _ words (texts-from e.n (length basis_texts) texts words are)
    ∙ rest

-- a text is that of no word
with_wrong_text : (e : Entry) (basis texts : List (List ℕ)) (i : ℕ) → IsFirstWrong e.n (basis ++ texts) i → cosets_of_texts e basis texts ≡ Err (Digits i)
with_wrong_text e basis texts i first =
    let all : words_from e.n 0 (basis ++ texts) ≡ Err (Digits i) = words_from-wrong e.n 0 (basis ++ texts) i first ∙ ap (λ k. Err (Digits k)) (zero-add i) in
    elim (bind-err (words_from e.n 0 basis) _ (Digits i) (sym (words_from-append e.n 0 basis texts) ∙ all)) [
      | inl before ↦ bind-at_err (words_from e.n 0 basis) _ (Digits i) before
      | inr (words, words-are, next) ↦
          bind-at (words_from e.n 0 basis) _ words words-are
          ∙ elim (bind-err (words_from e.n (0 + length basis) texts) _ (Digits i) next) [
            | inl after ↦ bind-at_err (words_from e.n (length basis) texts) _ (Digits i) (ap (λ k. words_from e.n k texts) (sym (zero-add (length basis))) ∙ after)
            | inr (more, more-are, last) ↦ absurd (value_no_fault (words ++ more) (Digits i) last)
          ]
    ]

-- where an answer is said to come, it comes
answer-from : (e : Entry) (basis_texts texts : List (List ℕ)) (said : Result Evidence DocumentFault) → IsCosetsOf e basis_texts texts said
    → cosets_of_texts e basis_texts texts ≡ said
answer-from e basis_texts texts (Ok (Cosets own basis words)) (is, basis-are, are, few_basis, some, few) =
    reads e basis_texts texts basis words (Ok (Cosets own basis words)) basis-are are
    (rw (le-leb (length basis) MAX_N few_basis, le-leb 1 (length words) some, le-leb (length words) MAX_REPRESENTATIVES few)
    (ap (λ f. Ok (Cosets f basis words)) (sym is)))
answer-from e basis_texts texts (Ok other) never = absurd never
answer-from e basis_texts texts (Err (Digits i)) first = with_wrong_text e basis_texts texts i first
answer-from e basis_texts texts (Err (Size c)) (basis, words, basis-are, are, wrong) =
    reads e basis_texts texts basis words (Err (Size c)) basis-are are (bind-at_err (coset_count basis words) _ (Size c) (wrong_count basis words c wrong))
answer-from e basis_texts texts (Err fault) never = absurd never

-- each answer to the texts of a basis and of representatives comes exactly where it is said to come
pub cosets_answers : (e : Entry) (basis_texts texts : List (List ℕ)) (said : Result Evidence DocumentFault)
    → (cosets_of_texts e basis_texts texts ≡ said) ↔ IsCosetsOf e basis_texts texts said
cosets_answers e basis_texts texts said =
    (λ same. subst (IsCosetsOf e basis_texts texts) same (answer e basis_texts texts), answer-from e basis_texts texts said)
