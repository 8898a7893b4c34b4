use Rattle.std.proofs.Common.{◌≡◌, take}
use Rattle.ct_words.specs.Constructions.Places.{other_places, read_at}
use Rattle.ct_build.proofs.places.without_places.Given as goal

abbrev pub invariant-loop-place : goal.invariant-loop-place
invariant-loop-place l = l.rest ≡ read_at l.n l.word (other_places l.n (take l.place-index l.places))
