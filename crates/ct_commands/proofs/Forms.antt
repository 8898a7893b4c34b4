-- The first words of a line tell what it asks for.
use Rattle.std.proofs.Common.{◌≡◌, ℕ, zero, suc, replicate, List, [], ◌∷◌, ◌++◌, None, length, take, refl, ap, ◌∙◌, arith}
use Rattle.std.specs.Option.{option_to_list}
use Rattle.ct_commands.specs.declared.form.TheConstants.{MOST_WORDS}
use Rattle.ct_text.specs.Line.{words_of}
use Rattle.ct_commands.specs.Form.{words_form, form_of}
use Rattle.ct_commands.specs.Command.{open_after, completed_by, opened, asked, completed, open_after_all}
use Rattle.ct_commands.specs.declared.form.Form.{Form}
use Rattle.ct_commands.specs.declared.form.Form.TheVariants.{Nothing}

-- more words than the first few change nothing: a line of so many is no form, or a submission without an id
pub first_words_tell : (words : List (List ℕ)) → words_form (take MOST_WORDS words) ≡ words_form words
first_words_tell [] = refl
first_words_tell (v ∷ []) = refl
first_words_tell (v ∷ w ∷ []) = refl
first_words_tell (v ∷ w ∷ x ∷ []) = refl
first_words_tell (v ∷ w ∷ x ∷ y ∷ []) = refl
first_words_tell (v ∷ w ∷ x ∷ y ∷ z ∷ []) = refl
first_words_tell (v ∷ w ∷ x ∷ y ∷ z ∷ u ∷ rest) = refl

-- an empty line asks for nothing
pub nothing_asked : form_of [] ≡ Nothing
unfolding form_of words_of
nothing_asked = refl

-- and opens no submission, where none is open
pub idle : (line : List ℕ) → length line ≡ 0 → (open_after None line ≡ None) × (completed_by None line ≡ None)
idle [] empty = (ap opened nothing_asked, ap asked nothing_asked)
idle (b ∷ line) empty = absurd (omega arith)

-- no more do several
pub completed-empty : (count : ℕ) → completed None (replicate count []) ≡ []
completed-empty zero = refl
completed-empty (suc count) =
    ap (λ (form : Form). option_to_list (asked form) ++ completed (opened form) (replicate count [])) nothing_asked ∙ completed-empty count

pub open_after-empty : (count : ℕ) → open_after_all None (replicate count []) ≡ None
open_after-empty zero = refl
open_after-empty (suc count) = ap (λ (form : Form). open_after_all (opened form) (replicate count [])) nothing_asked ∙ open_after-empty count
