-- Where each answer comes at the end of a document of kind build.
use Rattle.std.proofs.Common.{◌≡◌, ◌↔◌, ℕ, ◌<◌, ◌^◌, List, length, All, Option, Some, None, option_map, Result, inl, inr, refl, sym, ap, ◌∙◌}
use Rattle.ct_words.specs.Text.{word_of, word_text}
use Rattle.ct_words.proofs.TextLemmas.{word_of-word_text, word_from_text}
use Rattle.ct_words.specs.declared.entry.Entry.{Entry}
use Rattle.ct_build.specs.declared.step.Step.{Step}
use Rattle.ct_kind.specs.declared.evidence.Evidence.{Evidence}
use Rattle.ct_fields.specs.declared.fault.DocumentFault.{DocumentFault}
use Rattle.ct_build_files.specs.BuildFields.{digits_of}
use Rattle.ct_build_files.specs.BuildSchema.{build_of}
use Rattle.ct_build_files.specs.BuildAnswer.{IsTextAnswer}
use Rattle.ct_build_files.specs.WrittenBuild.{digits_text}
use Rattle.ct_build_files.proofs.BuildFields.{digits_of-some, digits_of-text}

-- what is found in a text is right and is what the text writes, and what is right is found in its text
pub record Finds {A : Type 0} (written : A → List ℕ) (IsRight : A → Type 0) (find : List ℕ → Option A) : Type 0 where
  pub some : (text : List ℕ) (x : A) → find text ≡ Some x → IsRight x × (text ≡ written x)
  pub from : (x : A) → IsRight x → find (written x) ≡ Some x

-- so a step is made of it exactly if a text writes it
pub text_answers : {A : Type 0} (written : A → List ℕ) (IsRight : A → Type 0) (find : List ℕ → Option A) → Finds written IsRight find
    → (text : List ℕ) (make : A → Step) (e : Entry) (part : List ℕ) (other : Option (List ℕ)) (answer : Result Evidence DocumentFault)
    → (build_of e (option_map make (find text)) part other ≡ answer) ↔ IsTextAnswer written IsRight text make e part other answer
text_answers {A} written IsRight find finds text make e part other answer = (at (find text) refl, from)
  where
    at : (o : Option A) → find text ≡ o → build_of e (option_map make o) part other ≡ answer → IsTextAnswer written IsRight text make e part other answer
    at (Some x) found is = let (right, same) = finds.some text x found in inl (x, right, same, sym is)
    at None none is = inr (λ x right same. never x (sym (finds.from x right) ∙ ap find (sym same) ∙ none), sym is) where
      never : (x : A) → ◌≡◌ {A = Option A} (Some x) None → ⊥
      never x h = cc

    from : IsTextAnswer written IsRight text make e part other answer → build_of e (option_map make (find text)) part other ≡ answer
    from (inl (x, right, same, is)) =
        ap (λ (o : Option A). build_of e (option_map make o) part other) (ap find same ∙ finds.from x right) ∙ sym is
    from (inr (none, is)) = by (find text) refl where
      by : (o : Option A) → find text ≡ o → build_of e (option_map make o) part other ≡ answer
      by None h = sym is
      by (Some x) h = let (right, same) = finds.some text x h in absurd (none x right same)

-- digits are found in a text, and a word
pub digits-found : (count : ℕ) → Finds digits_text (λ ds. (length ds ≡ count) × All (λ a. a < 2) ds) (digits_of count)
digits-found count = record {
  some = λ text ds e. let (is, long, small) = digits_of-some count text ds e in ((long, small), is);
  from = λ ds (long, small). digits_of-text count ds long small;
}

pub word-found : (n : ℕ) → Finds (word_text n) (λ x. x < 2 ^ n) (word_of n)
word-found n = record { some = λ text x e. word_from_text n x text e; from = word_of-word_text n }
