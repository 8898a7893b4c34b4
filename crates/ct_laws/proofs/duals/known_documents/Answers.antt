use Rattle.std.proofs.Common.{refl}
use Rattle.ct_fields.specs.LastFields.{last_fields}
use Rattle.ct_laws.proofs.duals.known_documents.Goals as goal

pub returns : goal.returns
unfolding last_fields
returns c = record {
  plain = refl;
  weighted = refl;
  even = refl;
  empty = refl;
  negative = refl;
  odd_index = refl;
  descending = refl;
  near = refl;
}
