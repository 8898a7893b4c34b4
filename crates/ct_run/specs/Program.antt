-- What the program writes where the words of its command line are no command.
use Rattle.std.specs.Prelude.{ℕ, List, [], ◌∷◌, ◌++◌, Option, codes}
use Rattle.std.specs.Io.KnownBytes.{Appends}
use Rattle.ct_text.specs.declared.document_lines.TheConstants.{LINE_FEED}
use Rattle.ct_io.specs.Told.{AppendsProperPrefix}
use Rattle.ct_run.specs.declared.status.Status.{Status}
use Rattle.ct_run.specs.declared.status.Status.TheVariants.{Usage, WriteFault, Memory}

-- the line that is written where the words are no command
abbrev pub usage_line : List ℕ
usage_line = codes "usage: code_tables session | verify | find | sample --number N" ++ LINE_FEED ∷ []

-- how the program ends where the words are no command: with the usage line, or with a fault before all of it was written
abbrev pub WritesUsage : Status → Option (List ℕ) → Option (List ℕ) → Type 0
WritesUsage Usage old new = Appends old new usage_line
WritesUsage WriteFault old new = AppendsProperPrefix old new usage_line
WritesUsage Memory old new = AppendsProperPrefix old new usage_line
WritesUsage other old new = ⊥
