-- What is written of the verdict on a derivation document, and what that says of codes.
use Rattle.std.specs.Prelude.{◌≡◌, ℕ, Bool, true, false, List, [], ◌∷◌, ◌++◌, codes}
use Rattle.ct_text.specs.declared.document_lines.TheConstants.{LINE_FEED}
use Rattle.ct_verify.specs.Text.{verdict_text}
use Rattle.ct_verify.specs.Document.{IsVerified}
use Rattle.ct_verify.specs.declared.verdict.Verdict.{Verdict}
use Rattle.ct_verify.specs.declared.verdict.Verdict.TheVariants.{Yes, No}

-- whether a verdict is no
abbrev pub is_no : Verdict → Bool
is_no Yes = false
is_no (No line why) = true

-- a verdict as a line: its text, and a line feed
abbrev pub verdict_line : Verdict → List ℕ
verdict_line verdict = verdict_text verdict ++ LINE_FEED ∷ []

-- where the output is `yes`, the document is verified, and so each claim in it is true
abbrev pub IsTrueVerdict : List ℕ → List ℕ → Type 0
IsTrueVerdict document output = output ≡ codes "yes" ++ LINE_FEED ∷ [] → IsVerified document
