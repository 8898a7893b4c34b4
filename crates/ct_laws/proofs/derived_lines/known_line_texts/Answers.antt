use Rattle.std.proofs.Common.{refl}
use Rattle.std.specs.Fmt.{digits}
use Rattle.ct_rules.specs.Rule.{row_of}
use Rattle.ct_laws.proofs.derived_lines.known_line_texts.Goals as goal

pub returns : goal.returns
unfolding digits row_of
returns c = record { lines = refl; support = refl; numbers = refl; weight = refl; block = refl }
