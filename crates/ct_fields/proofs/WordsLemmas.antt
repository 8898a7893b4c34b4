-- The words of texts: what they are where they are read, and where the first text is that is none.
use Rattle.std.proofs.Common.{◌≡◌, ℕ, zero, suc, ◌+◌, ◌^◌, ◌<◌, List, [], ◌∷◌, ◌++◌, length, map, Option, Some, None, Result, Ok, Err, ok_or, inl, inr, refl, sym, ap, ◌∙◌, subst, arith}
use Rattle.std.specs.Prelude.{slice_get}
use Rattle.std.specs.List.{AllByRecursion}
use Rattle.ct_words.specs.Text.{word_of, word_text}
use Rattle.ct_words.proofs.TextLemmas.{word_of-word_text, word_from_text}
use Rattle.ct_fields.specs.Steps.{◌>>=◌}
use Rattle.ct_fields.specs.Fields.{words_from}
use Rattle.ct_fields.specs.Tables.{IsWordText, IsFirstWrong}
use Rattle.ct_fields.specs.declared.fault.DocumentFault.{DocumentFault}
use Rattle.ct_fields.specs.declared.fault.DocumentFault.TheVariants.{Digits}
use Rattle.ct_fields.proofs.StepLemmas.{bind-ok, bind-err, ok_or-ok, ok_or-err, no_fault}

-- the texts that are read are those of words of length n
pub words_from-ok : (n place : ℕ) (texts : List (List ℕ)) (words : List ℕ) → words_from n place texts ≡ Ok words → (texts ≡ map (word_text n) words) × AllByRecursion (λ x. x < 2 ^ n) words
words_from-ok n place [] words e = let same : [] ≡ words = cc in rw (← same) (refl, tt)
words_from-ok n place (text ∷ texts) words e =
    let (x, x-is, more) = bind-ok (ok_or (word_of n text) (Digits place)) _ words e in
    let (xs, xs-are, all) = bind-ok (words_from n (suc place) texts) _ words more in
    let same : x ∷ xs ≡ words = cc in
    let first = word_from_text n x text (ok_or-ok (word_of n text) (Digits place) x x-is) in
    let rest = words_from-ok n (suc place) texts xs xs-are in
    let P : List ℕ → Type 0 = λ ws. (text ∷ texts ≡ map (word_text n) ws) × AllByRecursion (λ y. y < 2 ^ n) ws in
    subst P same (λ i. first.1 i ∷ rest.0 i, (first.0, rest.1))

-- texts of words are read as these
pub words_from-from : (n place : ℕ) (words : List ℕ) → AllByRecursion (λ x. x < 2 ^ n) words → words_from n place (map (word_text n) words) ≡ Ok words
words_from-from n place [] short = refl
words_from-from n place (x ∷ xs) short =
    let first = word_of-word_text n x short.0 in
    let rest = words_from-from n (suc place) xs short.1 in
    rw (first, rest) refl

-- a text that is read as no word is the text of none
no_word_text : (n : ℕ) (text : List ℕ) → word_of n text ≡ None → ¬ (IsWordText n text)
no_word_text n text none (x, small, same) = let found = word_of-word_text n x small in absurd (cc (ap (word_of n) same))

-- a text of no word is read as none
no_word_of : (n : ℕ) (text : List ℕ) → ¬ (IsWordText n text) → word_of n text ≡ None
no_word_of n text wrong = none (word_of n text) refl where
  none : (read : Option ℕ) → word_of n text ≡ read → read ≡ None
  none None same = refl
  none (Some x) same = let (small, is) = word_from_text n x text same in absurd (wrong (x, small, is))

-- a wrong text after one that is a word
later_wrong : (n x : ℕ) (text : List ℕ) (texts : List (List ℕ)) (i : ℕ) → word_of n text ≡ Some x → IsFirstWrong n texts i → IsFirstWrong n (text ∷ texts) (suc i)
later_wrong n x text texts i x-is first = record { wrong = first.wrong; before = before } where
  before : (j : ℕ) (t : List ℕ) → j < suc i → slice_get (text ∷ texts) j ≡ Some t → IsWordText n t
  before zero t below e = let same : text ≡ t = cc in let (small, is) = word_from_text n x text x-is in subst (IsWordText n) same (x, small, is)
  before (suc j) t below e = first.before j t (omega arith) e

-- the fault of texts names the first one of no word
pub words_from-err : (n place : ℕ) (texts : List (List ℕ)) (fault : DocumentFault) → words_from n place texts ≡ Err fault → (i : ℕ) × (Digits (place + i) ≡ fault) × IsFirstWrong n texts i
words_from-err n place [] fault e = absurd cc
words_from-err n place (text ∷ texts) fault e =
    elim (bind-err (ok_or (word_of n text) (Digits place)) _ fault e) [
      | inl here ↦
          let (none, same) = ok_or-err (word_of n text) (Digits place) fault here in
          (0, ap Digits (omega arith) ∙ same, record { wrong = (text, refl, no_word_text n text none); before = λ j t below. absurd (omega arith) })
      | inr (x, x-is, more) ↦
          elim (bind-err (words_from n (suc place) texts) _ fault more) [
            | inl rest ↦
                let (i, same, first) = words_from-err n (suc place) texts fault rest in
                (suc i, ap Digits (omega arith) ∙ same, later_wrong n x text texts i (ok_or-ok (word_of n text) (Digits place) x x-is) first)
            | inr (words, words-are, read) ↦ absurd (no_fault _ _ fault refl read)
          ]
    ]

-- the first text of no word gives the fault
pub words_from-wrong : (n place : ℕ) (texts : List (List ℕ)) (i : ℕ) → IsFirstWrong n texts i → words_from n place texts ≡ Err (Digits (place + i))
words_from-wrong n place [] i first = let (text, here, _) = first.wrong in absurd cc
words_from-wrong n place (text ∷ texts) zero first =
    let (t, here, wrong) = first.wrong in
    let same : text ≡ t = cc in
    let none = no_word_of n text (rw same wrong) in
    rw none (ap (λ p. Err (Digits p)) (omega arith))
words_from-wrong n place (text ∷ texts) (suc i) first =
    let (x, small, is) = first.before 0 text (omega arith) refl in
    let found : word_of n text ≡ Some x = ap (word_of n) is ∙ word_of-word_text n x small in
    let rest = words_from-wrong n (suc place) texts i (record { wrong = first.wrong; before = λ j t below. first.before (suc j) t (omega arith) }) in
    rw (found, rest) (ap (λ p. Err (Digits p)) (omega arith))

-- the words of two lists of texts, one after the other
abbrev pub both_words : Result (List ℕ) DocumentFault → Result (List ℕ) DocumentFault → Result (List ℕ) DocumentFault
both_words first second = first >>= (λ xs. second >>= (λ ys. Ok (xs ++ ys)))

-- none before
none_before : (second : Result (List ℕ) DocumentFault) → both_words (Ok []) second ≡ second
none_before (Ok ys) = refl
none_before (Err fault) = refl

-- one word before
one_before : (x : ℕ) (first second : Result (List ℕ) DocumentFault)
    → (both_words first second >>= (λ ws. Ok (x ∷ ws))) ≡ both_words (first >>= (λ xs. Ok (x ∷ xs))) second
one_before x (Ok xs) (Ok ys) = refl
one_before x (Ok xs) (Err fault) = refl
one_before x (Err fault) second = refl

-- the text of a word, or of none, before those of two lists
one_more : (n place : ℕ) (read : Option ℕ) (texts more : List (List ℕ)) (after : Result (List ℕ) DocumentFault)
    → words_from n (suc place) (texts ++ more) ≡ both_words (words_from n (suc place) texts) after
    → (ok_or read (Digits place) >>= (λ x. words_from n (suc place) (texts ++ more) >>= (λ ws. Ok (x ∷ ws))))
    ≡ both_words (ok_or read (Digits place) >>= (λ x. words_from n (suc place) texts >>= (λ ws. Ok (x ∷ ws)))) after
one_more n place None texts more after rest = refl
one_more n place (Some x) texts more after rest =
    ap (λ r. r >>= (λ ws. Ok (x ∷ ws))) rest ∙ one_before x (words_from n (suc place) texts) after

-- the texts of two lists are read as those of one
pub words_from-append : (n place : ℕ) (texts more : List (List ℕ))
    → words_from n place (texts ++ more) ≡ both_words (words_from n place texts) (words_from n (place + length texts) more)
words_from-append n place [] more =
    ap (λ k. words_from n k more) (omega arith) ∙ sym (none_before (words_from n (place + 0) more))
words_from-append n place (text ∷ texts) more =
    let rest = words_from-append n (suc place) texts more
    ∙ ap (λ k. both_words (words_from n (suc place) texts) (words_from n k more)) (omega arith) in
    one_more n place (word_of n text) texts more (words_from n (place + length (text ∷ texts)) more) rest
