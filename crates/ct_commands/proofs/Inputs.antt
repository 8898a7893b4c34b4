-- Lines ask for one list of commands.
use Rattle.std.proofs.Common.{◌≡◌, ◌≤◌, ◌<◌, ◌⊎◌, ℕ, zero, suc, ◌+◌, ◌-◌, Bool, true, false, cond, List, [], ◌∷◌, ◌++◌, length, take, drop, Option, Some, None, refl, sym, ap, ◌∙◌, subst, append_assoc, length-append, slice_index, ◌==◌, inl, inr, arith}
use Rattle.std.proofs.lemmas.Bool.Decides.{leb_tells}
use Rattle.std.proofs.lemmas.List.{take-append-drop, length-take-le}
use Rattle.std.proofs.lemmas.List.Elements.{All-nil, All-cons}
use Rattle.std.specs.Prelude.{⊤, codes}
use Rattle.std.specs.List.{join_with_byte}
use Rattle.std.specs.Option.{unwrap_or}
use Rattle.std.specs.Str.{bytes_eq}
use Rattle.ct_text.specs.declared.document_lines.TheConstants.{LINE_FEED}
use Rattle.ct_text.specs.Gathering.{is_end, IsDocument, IsCutShort}
use Rattle.ct_text.specs.Line.{words_of}
use Rattle.ct_text.specs.Number.{number_of}
use Rattle.ct_text.specs.declared.gathering.Extent.{Extent}
use Rattle.ct_text.specs.declared.gathering.Extent.TheVariants.{ToEnd, Lines}
use Rattle.ct_commands.specs.Form.{form_of, words_form, submit_form, lines_form, id_of, command_of}
use Rattle.ct_commands.specs.Command.{asked_for}
use Rattle.ct_commands.specs.Input.{AskFor}
use Rattle.ct_commands.specs.Input.AskFor.{nothing, passed_over, one_line, submission, cut_short}
use Rattle.ct_commands.specs.declared.form.Form.{Form}
use Rattle.ct_commands.specs.declared.form.Form.TheVariants.{Nothing, Submit, Whole}
use Rattle.ct_commands.specs.declared.command.Command.{Command}
use Rattle.ct_commands.specs.declared.command.Command.TheVariants as command
use Rattle.ct_commands.proofs.Submissions.{to_end, without_end, counted, too_few, alone}

-- a form asks for some lines, where it says how many
abbrev AsksForSome : Form → Type 0
AsksForSome (Submit id (Lines count)) = 0 < count
AsksForSome f = ⊤

some-lines_form : (id : Option (List ℕ)) (count : Option ℕ) → AsksForSome (lines_form id count)
some-lines_form id None = tt
some-lines_form id (Some zero) = tt
some-lines_form id (Some (suc more)) = omega arith

some-submit_form : (words : List (List ℕ)) → AsksForSome (submit_form words)
some-submit_form [] = tt
some-submit_form (id ∷ []) = tt
some-submit_form (id ∷ word ∷ []) = tt
some-submit_form (id ∷ word ∷ count ∷ []) = by (bytes_eq word (codes "lines")) where
  by : (b : Bool) → AsksForSome (cond b (lines_form (id_of id) (number_of count)) (Submit None ToEnd))
  by true = some-lines_form (id_of id) (number_of count)
  by false = tt
some-submit_form (id ∷ word ∷ count ∷ more ∷ words) = tt

some-words_form : (words : List (List ℕ)) → AsksForSome (words_form words)
some-words_form [] = tt
some-words_form (name ∷ words) = by (bytes_eq name (codes "submit")) where
  by : (b : Bool) → AsksForSome (cond b (submit_form words) (Whole (unwrap_or (command_of name words) command.Unknown)))
  by true = some-submit_form words
  by false = tt

some-form_of : (line : List ℕ) → AsksForSome (form_of line)
unfolding form_of
some-form_of line = by (slice_index line 0 == 35) where
  by : (b : Bool) → AsksForSome (cond b Nothing (words_form (words_of line)))
  by true = tt
  by false = some-words_form (words_of line)

some_lines : (line : List ℕ) (id : Option (List ℕ)) (count : ℕ) → form_of line ≡ Submit id (Lines count) → 0 < count
some_lines line id count begins = subst AsksForSome begins (some-form_of line)

-- a submission with its document
taken : (last : List Command) (line : List ℕ) (id : Option (List ℕ)) (extent : Extent) (block : List (List ℕ)) (text : List ℕ) (rest : List (List ℕ)) → form_of line ≡ Submit id extent
    → IsDocument extent block text → asked_for last (line ∷ block ++ rest) ≡ command.Submission id text ∷ asked_for last rest
taken last line id ToEnd block text rest begins (document, end, is, none, ends, joined) =
    ap (λ (b : List (List ℕ)). asked_for last (line ∷ b)) (ap (λ (b : List (List ℕ)). b ++ rest) is ∙ append_assoc document (end ∷ []) rest)
    ∙ to_end last line id document end rest begins none ends ∙ ap (λ (t : List ℕ). command.Submission id t ∷ asked_for last rest) (sym joined)
taken last line id (Lines count) [] text rest begins (size, joined) = absurd (let some = some_lines line id count begins in omega (arith, size, some))
taken last line id (Lines count) (first ∷ document) text rest begins (size, joined) =
    let many : count ≡ length document + 1 = omega (arith, size) in
    counted last line id first document rest (begins ∙ ap (λ (k : ℕ). Submit id (Lines k)) many)
    ∙ ap (λ (t : List ℕ). command.Submission id t ∷ asked_for last rest) (sym joined)

-- a submission whose document is cut short
cut : (last : List Command) (line : List ℕ) (id : Option (List ℕ)) (extent : Extent) (block : List (List ℕ)) → form_of line ≡ Submit id extent → IsCutShort extent block
    → asked_for last (line ∷ block) ≡ last
cut last line id ToEnd block begins none = without_end last line id block begins none
cut last line id (Lines count) block begins short =
    let more = count - (length block + 1) in
    let many : count ≡ length block + 1 + more = omega (arith, short) in
    too_few last line id block more (begins ∙ ap (λ (k : ℕ). Submit id (Lines k)) many)

-- lines ask for no other commands than those that are found line by line
pub asked_once : (last : List Command) (lines : List (List ℕ)) (cs : List Command) → AskFor last lines cs → asked_for last lines ≡ cs
asked_once last lines cs nothing = refl
asked_once last lines cs (passed_over line rest ds begins h) = alone last Nothing line rest begins refl ∙ asked_once last rest ds h
asked_once last lines cs (one_line line c rest ds begins h) = alone last (Whole c) line rest begins refl ∙ ap (λ (es : List Command). c ∷ es) (asked_once last rest ds h)
asked_once last lines cs (submission line id extent block text rest ds begins document h) =
    taken last line id extent block text rest begins document ∙ ap (λ (es : List Command). command.Submission id text ∷ es) (asked_once last rest ds h)
asked_once last lines cs (cut_short line id extent block begins short) = cut last line id extent block begins short

-- a document stands at the front of lines
pub record Begins (extent : Extent) (lines : List (List ℕ)) : Type 0 where
  pub block : List (List ℕ)
  pub text : List ℕ
  pub rest : List (List ℕ)
  pub divided : lines ≡ block ++ rest
  pub document : IsDocument extent block text

-- it does, or they cut it short
pub begins_or_not : (extent : Extent) (lines : List (List ℕ)) → Begins extent lines ⊎ IsCutShort extent lines
begins_or_not ToEnd [] = inr (All-nil (λ line. is_end line ≡ false))
begins_or_not ToEnd (line ∷ lines) = by (is_end line) refl (begins_or_not ToEnd lines) where
  more : Begins ToEnd lines → is_end line ≡ false → Begins ToEnd (line ∷ lines)
  more h e =
      let (document, end, is, none, ends, joined) = h.document in
      record {
        block = line ∷ h.block;
        text = join_with_byte LINE_FEED (line ∷ document);
        rest = h.rest;
        divided = ap (λ (ls : List (List ℕ)). line ∷ ls) h.divided;
        document = (line ∷ document, end, ap (λ (ls : List (List ℕ)). line ∷ ls) is, All-cons (λ l. is_end l ≡ false) line document e none, ends, refl);
      }

  by : (b : Bool) → is_end line ≡ b → Begins ToEnd lines ⊎ IsCutShort ToEnd lines → Begins ToEnd (line ∷ lines) ⊎ IsCutShort ToEnd (line ∷ lines)
  by true e later =
      inl (record { block = line ∷ []; text = []; rest = lines; divided = refl; document = ([], line, refl, All-nil (λ l. is_end l ≡ false), e, refl) })
  by false e (inl h) = inl (more h e)
  by false e (inr none) = inr (All-cons (λ l. is_end l ≡ false) line lines e none)
begins_or_not (Lines count) lines = elim (leb_tells count (length lines)) [
  | inl t ↦ inl (record {
    block = take count lines;
    text = join_with_byte LINE_FEED (take count lines);
    rest = drop count lines;
    divided = sym (take-append-drop count lines);
    document = (length-take-le count lines t.1, refl);
  })
  | inr t ↦ inr t.1
]

asked_within : (last : List Command) (fuel : ℕ) (lines : List (List ℕ)) → length lines ≤ fuel → AskFor last lines (asked_for last lines)
asked_within last fuel [] few = nothing
asked_within last zero (line ∷ lines) few = absurd (omega (arith, few))
asked_within last (suc fuel) (line ∷ lines) few = by (asked_within last fuel) (form_of line) refl where
  by : ((ls : List (List ℕ)) → length ls ≤ fuel → AskFor last ls (asked_for last ls)) → (f : Form) → form_of line ≡ f → AskFor last (line ∷ lines) (asked_for last (line ∷ lines))
  by later Nothing e = subst (AskFor last (line ∷ lines)) (sym (alone last Nothing line lines e refl))
      (passed_over line lines (asked_for last lines) e (later lines (omega (arith, few))))
  by later (Whole c) e = subst (AskFor last (line ∷ lines)) (sym (alone last (Whole c) line lines e refl))
      (one_line line c lines (asked_for last lines) e (later lines (omega (arith, few))))
  by later (Submit id extent) e = elim (begins_or_not extent lines) [
    | inl h ↦
        let size = ap length h.divided ∙ length-append h.block h.rest in
        let small : length h.rest ≤ fuel = omega (arith, few, size) in
        subst (λ (ls : List (List ℕ)). AskFor last (line ∷ ls) (asked_for last (line ∷ ls))) (sym h.divided)
        (subst (AskFor last (line ∷ h.block ++ h.rest)) (sym (taken last line id extent h.block h.text h.rest e h.document))
        (submission line id extent h.block h.text h.rest (asked_for last h.rest) e h.document (later h.rest small)))
    | inr short ↦ subst (AskFor last (line ∷ lines)) (sym (cut last line id extent lines e short)) (cut_short line id extent lines e short)
  ]

-- and they ask for these
pub asked_so : (last : List Command) (lines : List (List ℕ)) → AskFor last lines (asked_for last lines)
asked_so last lines = asked_within last (length lines) lines (omega arith)
