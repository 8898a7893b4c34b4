-- A submission as text is one command.
use Rattle.std.proofs.Common.{◌≡◌, ℕ, zero, suc, ◌+◌, ◌^◌, ◌<◌, Bool, true, cond, List, [], ◌∷◌, ◌++◌, length, Option, Some, None, codes, refl, sym, ap, ◌∙◌, append_assoc, append-nil, arith}
use Rattle.std.specs.List.{join_with_byte, slice_split}
use Rattle.std.specs.Fmt.{decimal}
use Rattle.std.proofs.lemmas.List.Splits.{length-slice_split, join_with_byte-slice_split}
use Rattle.ct_text.specs.declared.document_lines.TheConstants.{LINE_FEED}
use Rattle.ct_io.specs.Lines.{lines_of}
use Rattle.ct_io.proofs.LinesLemmas.{is_feed, IsFilled, IsFilled-slice_split, lines_of-next}
use Rattle.ct_names.specs.Id.{is_id}
use Rattle.ct_text.specs.DocumentLines.{line_count}
use Rattle.ct_text.specs.Number.{number_of}
use Rattle.ct_text.specs.declared.gathering.Extent.TheVariants.{Lines}
use Rattle.ct_text.proofs.Decimals.{printed_is_read}
use Rattle.ct_commands.specs.Form.{form_of, words_form, lines_form}
use Rattle.ct_commands.specs.Command.{commands_of}
use Rattle.ct_commands.specs.Submission.{submission_text}
use Rattle.ct_commands.specs.declared.form.Form.TheVariants.{Submit}
use Rattle.ct_commands.specs.declared.command.Command.TheVariants as command
use Rattle.ct_commands.proofs.SpacedWords.{AreWords, spaced_words, known_word, decimal_word, id_is_word, IsLine-words, words_again}
use Rattle.ct_commands.proofs.DocumentLines.{lines_of-document, regrouped}
use Rattle.ct_commands.proofs.Submissions.{counted}

-- the parts of a submission, one after the other
pub parts_are : (id count document : List ℕ) → count ≡ decimal (line_count document)
    → codes "submit " ++ (id ++ (codes " lines " ++ (count ++ (10 ∷ (document ++ (10 ∷ [])))))) ≡ submission_text id document
parts_are id count document counts =
    ap (λ (t : List ℕ). codes "submit " ++ (id ++ (codes " lines " ++ (t ++ (10 ∷ (document ++ (10 ∷ []))))))) counts
    ∙ ap (λ (t : List ℕ). codes "submit " ++ t) (sym (spelled (decimal (line_count document))))
  where
    spelled : (digits : List ℕ) → ((((id ++ codes " lines ") ++ digits) ++ (10 ∷ [])) ++ document) ++ (10 ∷ []) ≡ id ++ (codes " lines " ++ (digits ++ (10 ∷ (document ++ (10 ∷ [])))))
    spelled digits =
        append_assoc (((id ++ codes " lines ") ++ digits) ++ (10 ∷ [])) document (10 ∷ [])
        ∙ append_assoc ((id ++ codes " lines ") ++ digits) (10 ∷ []) (document ++ (10 ∷ []))
        ∙ append_assoc (id ++ codes " lines ") digits (10 ∷ (document ++ (10 ∷ [])))
        ∙ append_assoc id (codes " lines ") (digits ++ (10 ∷ (document ++ (10 ∷ []))))

-- the heading, and the words after its first
abbrev heading : List ℕ → ℕ → List ℕ
heading id count = codes "submit " ++ id ++ codes " lines " ++ decimal count

abbrev heading_parts : List ℕ → ℕ → List (List ℕ)
heading_parts id count = id ∷ codes "lines" ∷ decimal count ∷ []

heading-words : (id : List ℕ) (count : ℕ) → heading id count ≡ codes "submit" ++ spaced_words (heading_parts id count)
heading-words id count =
    append_assoc (codes "submit " ++ id) (codes " lines ") (decimal count)
    ∙ append_assoc (codes "submit ") id (codes " lines " ++ decimal count)
    ∙ ap (λ (t : List ℕ). codes "submit " ++ (id ++ (codes " lines " ++ t))) (sym (append-nil (decimal count)))

heading_words-are : (id : List ℕ) (count : ℕ) → is_id id ≡ true → count < 2 ^ 64 → AreWords (heading_parts id count)
heading_words-are id count named small = (id_is_word id named, (known_word (codes "lines") refl, (decimal_word count small, tt)))

lines_form-some : (id : Option (List ℕ)) (count : ℕ) → 0 < count → lines_form id (Some count) ≡ Submit id (Lines count)
lines_form-some id zero some = absurd (omega arith)
lines_form-some id (suc more) some = refl

-- it asks for a submission of so many lines
form_of-heading : (id : List ℕ) (count : ℕ) → is_id id ≡ true → 0 < count → count < 2 ^ 64
    → form_of (codes "submit" ++ spaced_words (heading_parts id count)) ≡ Submit (Some id) (Lines count)
unfolding form_of
form_of-heading id count named some small =
    ap words_form (words_again (codes "submit") (heading_parts id count) (known_word (codes "submit") refl) (heading_words-are id count named small))
    ∙ ap (λ (b : Bool). lines_form (cond b (Some id) None) (number_of (decimal count))) named
    ∙ ap (lines_form (Some id)) (printed_is_read (decimal count) count small refl)
    ∙ lines_form-some (Some id) count some

-- a line that opens a submission of so many lines as follow, and these lines
whole : (line : List ℕ) (id : Option (List ℕ)) (document rest : List (List ℕ)) → IsFilled document → form_of line ≡ Submit id (Lines (length document))
    → commands_of (line ∷ document ++ rest) ≡ command.Submission id (join_with_byte LINE_FEED document) ∷ commands_of rest
whole line id [] rest filled begins = absurd (let e = filled.2 in cc)
whole line id (first ∷ document) rest filled begins =
    let count : length (first ∷ document) ≡ length document + 1 = omega arith in
    counted (command.CutOff ∷ []) line id first document rest (begins ∙ ap (λ (k : ℕ). Submit id (Lines k)) count)

-- the text of a submission is one command
pub written_is_read : (id document rest : List ℕ) → is_id id ≡ true → line_count document < 2 ^ 64
    → commands_of (lines_of (submission_text id document ++ rest)) ≡ command.Submission (Some id) document ∷ commands_of (lines_of rest)
written_is_read id document rest named small =
    let count = line_count document in
    let some : 0 < count = omega arith in
    let line : List ℕ = codes "submit" ++ spaced_words (heading_parts id count) in
    let parts = slice_split is_feed document in
    let after = (document ++ LINE_FEED ∷ []) ++ rest in
    let begins : form_of line ≡ Submit (Some id) (Lines (length parts)) =
    form_of-heading id count named some small ∙ ap (λ (k : ℕ). Submit (Some id) (Lines k)) (sym (length-slice_split is_feed document)) in
    ap (λ t. commands_of (lines_of t)) (regrouped (heading id count) document rest)
    ∙ ap (λ (t : List ℕ). commands_of (lines_of (t ++ LINE_FEED ∷ after))) (heading-words id count)
    ∙ ap commands_of (lines_of-next line after (IsLine-words (codes "submit") (heading_parts id count) (known_word (codes "submit") refl) (heading_words-are id count named small)))
    ∙ ap (λ ls. commands_of (line ∷ ls)) (lines_of-document document rest)
    ∙ whole line (Some id) parts (lines_of rest) (IsFilled-slice_split document) begins
    ∙ ap (λ d. command.Submission (Some id) d ∷ commands_of (lines_of rest)) (join_with_byte-slice_split LINE_FEED document)
