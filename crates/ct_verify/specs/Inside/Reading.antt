-- What one more text line of a derivation document makes of what was read.
use Rattle.std.specs.Prelude.{ℕ, suc, ◌==◌, ◌&&◌, not, Bool, false, if◌then◌else◌, List, [], ◌∷◌, ◌++◌, length, Option, Some, None, Result, Ok, Err, codes}
use Rattle.std.specs.Str.{bytes_eq}
use Rattle.ct_text.specs.Line.{words_of}
use Rattle.ct_text.specs.Gathering.{gathered}
use Rattle.ct_text.specs.declared.gathering.Gathered.{Gathered}
use Rattle.ct_text.specs.declared.gathering.Gathered.TheVariants.{More, Whole}
use Rattle.ct_rules.specs.declared.rule.Rule.{Rule}
use Rattle.ct_rules.specs.Derivation.{LineValue}
use Rattle.ct_piece.specs.Piece.{PieceValue}
use Rattle.ct_piece.specs.Submission.{submitted}
use Rattle.ct_piece.specs.Supports.{supports_of}
use Rattle.ct_kind.specs.declared.fault.SubmitFault.{SubmitFault}
use Rattle.ct_derive.specs.Check.{line_fault, line_by}
use Rattle.ct_derive.specs.declared.check.LineFault.{LineFault}
use Rattle.ct_verify.specs.Inside.Read.{ReadingValue, in_part}
use Rattle.ct_verify.specs.Document.{why_of}
use Rattle.ct_verify.specs.Heading.{heading_of}
use Rattle.ct_verify.specs.Stated.{resolved}
use Rattle.ct_verify.specs.Inside.StatedLine.{StatedLineValue, line_of}
use Rattle.ct_verify.specs.declared.heading.Heading.{Heading}
use Rattle.ct_verify.specs.declared.verdict.Why.TheVariants as why
use Rattle.ct_verify.specs.declared.part.Block.{Block}
use Rattle.ct_verify.specs.declared.part.Part.{Part}
use Rattle.ct_verify.specs.declared.part.Part.TheVariants as part
use Rattle.ct_verify.specs.Inside.Step.{AfterLine, On, Failed}

-- one more piece
abbrev pub and_piece : ReadingValue → PieceValue → ReadingValue
and_piece r piece = record { pieces = r.pieces ++ piece ∷ []; lines = r.lines; part = part.Body }

-- one more line
abbrev pub and_line : ReadingValue → LineValue → ReadingValue
and_line r line = record { pieces = r.pieces; lines = r.lines ++ line ∷ []; part = part.Body }

-- after a line with this fault, or with none
abbrev pub unless_wrong : ReadingValue → ℕ → LineValue → Option LineFault → AfterLine
unless_wrong r k line None = On (and_line r line)
unless_wrong r k line (Some fault) = Failed k (why_of fault)

-- after a line that states this, by this rule: it has to follow from the lines before it and the evidence
abbrev pub by_rule : ReadingValue → ℕ → StatedLineValue → Option Rule → AfterLine
by_rule r k l None = Failed k why.Rule
by_rule r k l (Some rule) = unless_wrong r k (line_by l.claim rule l.from) (line_fault (supports_of r.pieces) r.lines l.claim rule l.from)

-- after a text line that states a line: its number has to be the next
abbrev pub read_line : ReadingValue → ℕ → Option StatedLineValue → AfterLine
read_line r k None = Failed k why.Form
read_line r k (Some l) = if l.number == suc (length r.lines) then by_rule r k l (resolved r.pieces l.rule.rule l.rule.id) else Failed k why.Form

-- after a text line that heads a block of evidence: no line may stand before it
abbrev pub read_heading : ReadingValue → ℕ → Option Heading → AfterLine
read_heading r k None = Failed k why.Form
read_heading r k (Some h) =
    if length r.lines == 0 then On (in_part (part.Evidence (record { line = k; id = h.id; document = record { extent = h.extent; text = [] } })) r)
    else Failed k why.Form

-- whether the words are this one alone
abbrev pub is_only : List ℕ → List (List ℕ) → Bool
is_only name (word ∷ []) = bytes_eq word name
is_only name words = false

-- after the text line of these words, where blocks of evidence, lines, or the end may stand: `done` has to follow a line
abbrev pub read_body : ReadingValue → ℕ → List (List ℕ) → AfterLine
read_body r k [] = Failed k why.Form
read_body r k (word ∷ words) =
    if bytes_eq word (codes "line") then read_line r k (line_of words)
    else (if bytes_eq word (codes "evidence") then read_heading r k (heading_of words)
    else (if is_only (codes "done") (word ∷ words) && not (length r.lines == 0) then On (in_part part.Done r)
    else Failed k why.Form))

-- after a block of evidence that began on this text line, where its submission makes this
abbrev pub after_block : ReadingValue → ℕ → Result PieceValue SubmitFault → AfterLine
after_block r begun (Ok piece) = On (and_piece r piece)
after_block r begun (Err fault) = Failed begun (why.Evidence fault)

-- after one more text line of a block of evidence
abbrev pub read_block : ReadingValue → Block → Gathered → AfterLine
read_block r b (More document) = On (in_part (part.Evidence (record { line = b.line; id = b.id; document = document })) r)
read_block r b (Whole document) = after_block r b.line (submitted r.pieces b.id document)

-- after one more text line, the one with this number, by what may stand there
abbrev pub read_in : Part → ReadingValue → ℕ → List ℕ → AfterLine
read_in part.Start r k text = if is_only (codes "derivation") (words_of text) then On (in_part part.Body r) else Failed k why.Form
read_in part.Body r k text = read_body r k (words_of text)
read_in (part.Evidence b) r k text = read_block r b (gathered b.document text)
read_in part.Done r k text = Failed k why.Form

-- after one more text line
unfoldable pub read_next : ReadingValue → ℕ → List ℕ → AfterLine
read_next r k text = read_in r.part r k text
