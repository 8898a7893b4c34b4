use Rattle.std.proofs.Common.{◌≡◌, ℕ, List, [], length, ap, ◌∙◌}
use Rattle.ct_io.specs.Lines.{lines_of}
use Rattle.ct_io.proofs.LinesLemmas.{lines_of-next}
use Rattle.ct_session.specs.Truth.{IsOneLine}
use Rattle.ct_laws.proofs.runs.other_answers_are_one_line.Goals as goal

one : (text : List ℕ) → IsOneLine text → length (lines_of text) ≡ 1
one text (line, is, spelled) = ap (λ t. length (lines_of t)) spelled ∙ ap length (lines_of-next line [] is)

pub returns : goal.returns
returns c = record {
  submission = λ id document text h. one text h;
  cut_off = one;
  withdrawal = λ id text h. one text h;
  withdrawal_of_all = λ id text h. one text h;
  unknown = one;
}
