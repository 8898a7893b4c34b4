use Rattle.ct_words.proofs.Constructions.JoinedLemmas.{digit-front, digit-back}
use Rattle.ct_words.proofs.Constructions.PlaceLemmas.{length-other_places}
use Rattle.ct_words.proofs.Constructions.ReadLemmas.{digit-read_at, read_at-lt, read_at-all}
use Rattle.ct_laws.proofs.math.constructions.digits_at_places.Goals as goal

pub returns : goal.returns
returns c = record {
  read = digit-read_at;
  word = read_at-lt;
  all = read_at-all;
  others = length-other_places;
  front = digit-front;
  back = digit-back;
}
