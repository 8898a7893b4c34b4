use Rattle.std.proofs.Common.{◌∙◌, Err, ap, lit<, refl}
use Rattle.ct_fields.specs.declared.fault.DocumentFault.TheVariants.{Bytes}
use Rattle.ct_files.proofs.DocumentAnswers.{read_of-long}
use Rattle.ct_laws.proofs.OnLiterals.{evidence_on_literals}
use Rattle.ct_laws.proofs.worked.no_tables.Goals as goal

pub returns : goal.returns
unfolding evidence_on_literals
returns c = record {
  too_many = λ bytes long. read_of-long bytes (rw long (lit< tt)) ∙ ap (λ k. Err (Bytes k)) long;
  no_value = refl;
  repeated_key = refl;
  no_utf8 = refl;
  wide = refl;
}
