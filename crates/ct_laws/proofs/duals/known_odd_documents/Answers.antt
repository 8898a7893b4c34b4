use Rattle.std.proofs.Common.{refl}
use Rattle.ct_fields.specs.LastFields.{last_fields}
use Rattle.ct_laws.proofs.duals.known_odd_documents.Goals as goal

pub returns : goal.returns
unfolding last_fields
returns c = record {
  read = refl;
  least = refl;
  greatest = refl;
  missing = refl;
  even_number = refl;
  one = refl;
  above = refl;
  negative = refl;
  text = refl;
  before_multipliers = refl;
  multipliers = refl;
  after_even = refl;
  of_kind_dual = refl;
  weight = refl;
}
