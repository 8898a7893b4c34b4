use Rattle.ct_rules.proofs.WithoutLemmas.{slice_get-without, was_at, without-only, lowered_place-only}
use Rattle.ct_laws.proofs.removals.removal_of_places.Goals as goal

pub returns : goal.returns
returns c = record {
  stays = slice_get-without;
  was = λ gone xs q x at. let was = was_at gone xs q x at in (was.place, was.stays, was.there, was.lowered);
  one = without-only;
  one_place = lowered_place-only;
}
