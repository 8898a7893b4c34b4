-- Submissions as text.
use Rattle.std.specs.Prelude.{ℕ, List, [], ◌∷◌, ◌++◌, codes}
use Rattle.std.specs.Fmt.{decimal}
use Rattle.ct_text.specs.declared.document_lines.TheConstants.{LINE_FEED}
use Rattle.ct_text.specs.DocumentLines.{line_count}

-- a submission: `submit ID lines K`, and the document's K lines
abbrev pub submission_text : List ℕ → List ℕ → List ℕ
submission_text id document = codes "submit " ++ id ++ codes " lines " ++ decimal (line_count document) ++ LINE_FEED ∷ [] ++ document ++ LINE_FEED ∷ []
