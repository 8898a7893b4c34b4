use Rattle.std.proofs.Common.{refl}
use Rattle.ct_laws.proofs.OnLiterals.{evidence_on_literals}
use Rattle.ct_laws.proofs.worked_builds.wrong_own_fields.Goals as goal

pub returns : goal.returns
unfolding evidence_on_literals
returns c = record {
  places_missing = refl;
  no_places = refl;
  descending = refl;
  repeated = refl;
  too_great = refl;
  negative = refl;
  too_long = refl;
  text_place = refl;
  digits = refl;
  by = refl;
  by_of_select = refl;
  no_words = refl;
  too_many_words = refl;
}
