-- The digits of words, counted by words and by places.
use Rattle.ct_johnson.proofs.DigitPlaces.{place_of_ones, IsCode-with_one}
use Rattle.ct_laws.proofs.math.johnson.some_place_holds_enough_ones.Goals as goal

pub returns-clause-place : goal.returns-clause-place
returns-clause-place c = place_of_ones

pub returns-clause-code : goal.returns-clause-code
returns-clause-code c = IsCode-with_one
