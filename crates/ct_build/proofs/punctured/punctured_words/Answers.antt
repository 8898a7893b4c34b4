-- One more word.
use Rattle.std.proofs.Common.{map, ap, ◌∙◌}
use Rattle.std.proofs.lemmas.List.{take_all}
use Rattle.ct_words.specs.Constructions.Places.{other_places, read_at}
use Rattle.ct_build.proofs.WordByWord.{mapped_more}
use Rattle.ct_build.proofs.punctured.punctured_words.Goals as goal

pub without_places-requires-clause-length : goal.without_places-requires-clause-length
without_places-requires-clause-length c = c.requires.length

pub without_places-requires-clause-places : goal.without_places-requires-clause-places
without_places-requires-clause-places c = c.requires.places

pub without_places-requires-clause-word : goal.without_places-requires-clause-word
without_places-requires-clause-word c = c.requires.words c.loop-word.word-index 0 c.loop-word-test.true

pub loop-word-preserved : goal.loop-word-preserved
loop-word-preserved c =
    mapped_more (λ x. read_at c.args.n x (other_places c.args.n c.args.places.now)) c.args.words.now c.loop-word.rest.items c.push.new.self.items
    c.loop-word.word-index c.without_places.result c.loop-word-test.true c.loop-word.invariant c.in_ok-push.ensures.items c.without_places.ensures

pub returns : goal.returns
returns c =
    let others = other_places c.args.n c.args.places.now in
    c.loop-word.invariant ∙ ap (map (λ x. read_at c.args.n x others)) (take_all c.loop-word.word-index c.args.words.now c.loop-word-test.false)
