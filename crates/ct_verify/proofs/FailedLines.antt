-- Text lines that fail for their form.
use Rattle.std.proofs.Common.{◌≡◌, ℕ, ◌<◌, Bool, false, cond, List, [], ◌∷◌, length, map, take, refl, sym, ap, subst, ◌∙◌, arith}
use Rattle.std.specs.Prelude.{codes}
use Rattle.std.proofs.lemmas.List.{length-map}
use Rattle.ct_text.specs.Line.{words_of}
use Rattle.ct_verify.specs.Inside.Read.{ReadingValue, in_part}
use Rattle.ct_verify.specs.Inside.Reading.{is_only, read_body, read_in, read_next}
use Rattle.ct_verify.specs.declared.failure.Failure.{Failure}
use Rattle.ct_verify.specs.declared.verdict.Why.TheVariants as why
use Rattle.ct_verify.specs.declared.part.Part.{Part}
use Rattle.ct_verify.specs.declared.part.Part.TheVariants as part
use Rattle.ct_verify.specs.Inside.Step.{On, Failed}

-- the step of a failure
pub failed_so : (f g : Failure) → f ≡ g → Failed f.line f.why ≡ Failed g.line g.why
failed_so f g is = ap (λ (h : Failure). Failed h.line h.why) is

-- after `done`
pub failed_at_done : (r : ReadingValue) (k : ℕ) (text : List ℕ) → r.part ≡ part.Done → Failed k why.Form ≡ read_next r k text
unfolding read_next
failed_at_done r k text is = ap (λ (p : Part). read_in p r k text) (sym is)

-- a line is one word alone where its first two words are
pub only_of_two : (name : List ℕ) (words : List (List ℕ)) → is_only name (take 2 words) ≡ is_only name words
only_of_two name [] = refl
only_of_two name (word ∷ []) = refl
only_of_two name (word ∷ next ∷ words) = refl

-- on the first text line, where it is another one
pub failed_at_start : (r : ReadingValue) (k : ℕ) (text : List ℕ) → r.part ≡ part.Start → is_only (codes "derivation") (take 2 (words_of text)) ≡ false
    → Failed k why.Form ≡ read_next r k text
unfolding read_next
failed_at_start r k text is other =
    ap (λ (b : Bool). cond b (On (in_part part.Body r)) (Failed k why.Form)) (sym other ∙ only_of_two (codes "derivation") (words_of text))
    ∙ ap (λ (p : Part). read_in p r k text) (sym is)

no_words : (r : ReadingValue) (k : ℕ) (words : List (List ℕ)) → length words < 1 → Failed k why.Form ≡ read_body r k words
no_words r k [] few = refl
no_words r k (word ∷ words) few = absurd (omega (arith, few))

-- a text line without words
pub failed_without_words : {A : Type 0} (r : ReadingValue) (k : ℕ) (words : List A) (text : A → List ℕ) → length words < 1 → Failed k why.Form ≡ read_body r k (map text words)
failed_without_words {A} r k words text few = no_words r k (map text words) (subst (λ n. n < 1) (sym (length-map words text)) few)
