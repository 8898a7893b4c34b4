-- The lines of a document.
use Rattle.std.specs.Prelude.{ℕ, ◌+◌, ◌==◌, List, count_by}
use Rattle.ct_text.specs.declared.document_lines.TheConstants.{LINE_FEED}

-- how many lines a document has: one more than its line feeds
abbrev pub line_count : List ℕ → ℕ
line_count document = count_by (λ b. b == LINE_FEED) document + 1
