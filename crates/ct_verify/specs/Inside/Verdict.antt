-- The verdict on a derivation document.
use Rattle.std.specs.Prelude.{◌≡◌, ℕ, ◌+◌, List, [], ◌∷◌}
use Rattle.ct_io.specs.Lines.{lines_of}
use Rattle.ct_verify.specs.Inside.Read.{ReadingValue, unread}
use Rattle.ct_verify.specs.Inside.Reading.{read_next}
use Rattle.ct_verify.specs.declared.verdict.Why.TheVariants.{Form}
use Rattle.ct_verify.specs.declared.verdict.Verdict.{Verdict}
use Rattle.ct_verify.specs.declared.verdict.Verdict.TheVariants.{Yes, No}
use Rattle.ct_verify.specs.declared.part.Part.{Part}
use Rattle.ct_verify.specs.declared.part.Part.TheVariants.{Start, Body, Evidence, Done}
use Rattle.ct_verify.specs.Inside.Step.{AfterLine, On, Failed}

-- the verdict where the text lines end at this part, and the next would have this number: a block that is not whole fails on the line on which it began
abbrev pub verdict_at_end : Part → ℕ → Verdict
verdict_at_end Start k = No k Form
verdict_at_end Body k = No k Form
verdict_at_end (Evidence b) k = No b.line Form
verdict_at_end Done k = Yes

-- the verdict after a step: where it failed, that; else the verdict on what follows
abbrev pub verdict_after : AfterLine → (ReadingValue → Verdict) → Verdict
verdict_after (On r) later = later r
verdict_after (Failed k why) later = No k why

-- the verdict on the text lines from this number on, after what was read: the first that fails decides
abbrev pub verdict_from : ReadingValue → ℕ → List (List ℕ) → Verdict
verdict_from r k [] = verdict_at_end r.part k
verdict_from r k (text ∷ texts) = verdict_after (read_next r k text) (λ next. verdict_from next (k + 1) texts)

-- the verdict on a document: its text lines are numbered from 1
abbrev pub verdict_of : List ℕ → Verdict
verdict_of document = verdict_from unread 1 (lines_of document)

-- the text lines, numbered from this one on, lead from what was read to this, with no failure
abbrev pub AreRead : ReadingValue → ℕ → List (List ℕ) → ReadingValue → Type 0
AreRead r k [] s = r ≡ s
AreRead r k (text ∷ texts) s = (next : ReadingValue) × (read_next r k text ≡ On next) × AreRead next (k + 1) texts s
