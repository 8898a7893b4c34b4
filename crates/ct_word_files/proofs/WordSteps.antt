-- What is read of the texts of a basis and of representatives, step by step.
use Rattle.std.proofs.Common.{◌≡◌, ℕ, List, length, Ok, Err, ap, ◌∙◌}
use Rattle.std.specs.Borrow.{Bor}
use Rattle.std.proofs.lemmas.List.{length-map}
use Rattle.ct_words.specs.declared.entry.Entry.{Entry}
use Rattle.ct_fields.specs.Fields.{words_from}
use Rattle.ct_fields.specs.Reads.{texts_behind}
use Rattle.ct_fields.specs.declared.fault.DocumentFault.{DocumentFault}
use Rattle.ct_fields.proofs.StepLemmas.{bind-at, bind-at_err}
use Rattle.ct_kind.specs.declared.evidence.Evidence.TheVariants.{Cosets}
use Rattle.ct_word_files.specs.Cosets.{coset_count, cosets_of_texts}

module _ (e : Entry) (references : List (Bor (List ℕ))) (texts : List (List ℕ)) (basis : List ℕ)
    (first : words_from e.n 0 (texts_behind references) ≡ Ok basis) where
  counted : words_from e.n (length (texts_behind references)) texts ≡ words_from e.n (length references) texts
  counted = ap (λ n. words_from e.n n texts) (length-map references (λ (b : Bor (List ℕ)). b.now))

  -- a text of the representatives is no word
  pub cosets-no_word : (fault : DocumentFault) → words_from e.n (length references) texts ≡ Err fault
      → cosets_of_texts e (texts_behind references) texts ≡ Err fault
  cosets-no_word fault is =
      bind-at (words_from e.n 0 (texts_behind references)) _ basis first
      ∙ bind-at_err (words_from e.n (length (texts_behind references)) texts) _ fault (counted ∙ is)

  -- a count is wrong
  pub cosets-miscounted : (representatives : List ℕ) (fault : DocumentFault) → words_from e.n (length references) texts ≡ Ok representatives
      → coset_count basis representatives ≡ Err fault → cosets_of_texts e (texts_behind references) texts ≡ Err fault
  cosets-miscounted representatives fault second count =
      bind-at (words_from e.n 0 (texts_behind references)) _ basis first
      ∙ bind-at (words_from e.n (length (texts_behind references)) texts) _ representatives (counted ∙ second)
      ∙ bind-at_err (coset_count basis representatives) _ fault count

  -- the texts of both lists are words, and their counts are right
  pub cosets-read : (representatives : List ℕ) → words_from e.n (length references) texts ≡ Ok representatives → coset_count basis representatives ≡ Ok tt
      → cosets_of_texts e (texts_behind references) texts ≡ Ok (Cosets e basis representatives)
  cosets-read representatives second count =
      bind-at (words_from e.n 0 (texts_behind references)) _ basis first
      ∙ bind-at (words_from e.n (length (texts_behind references)) texts) _ representatives (counted ∙ second)
      ∙ bind-at (coset_count basis representatives) _ tt count
