use Rattle.std.proofs.Common.{List, ℕ, ◌-◌, take, get_or, sym, ap, ◌∙◌}
use Rattle.std.proofs.lemmas.List.{take_more, take_all}
use Rattle.ct_words.specs.Constructions.Places.{other_places, read_at}
use Rattle.ct_words.proofs.Constructions.PlaceLemmas.{other_places-none, places-below}
use Rattle.ct_words.proofs.Constructions.ReadLemmas.{without_digit, read_at-all, read_at-without}
use Rattle.ct_build.proofs.WordByWord.{length_from, place_to}
use Rattle.ct_build.proofs.places.without_places.Goals as goal

pub loop-place-init : goal.loop-place-init
loop-place-init c = sym (ap (read_at c.args.n c.args.word) (other_places-none c.args.n) ∙ read_at-all c.args.n c.args.word c.requires.word)

pub overflow_sub-n : goal.overflow_sub-n
overflow_sub-n c =
    length_from c.args.n (get_or c.args.places.now c.loop-place.place-index 0) (c.requires.places.within c.loop-place.place-index 0 c.loop-place-test.true)

pub overflow_sub-n-in-loop-place : goal.overflow_sub-n-in-loop-place
overflow_sub-n-in-loop-place c =
    place_to c.args.n (get_or c.args.places.now c.loop-place.place-index 0) (c.requires.places.within c.loop-place.place-index 0 c.loop-place-test.true)

pub loop-place-preserved : goal.loop-place-preserved
loop-place-preserved c =
    let n = c.args.n in
    let x = c.args.word in
    let places = c.args.places.now in
    let i = c.loop-place.place-index in
    let p = get_or places i 0 in
    let within = c.loop-place-test.true in
    c.without_digit-rest.ensures
    ∙ ap (without_digit (n - 1 - p)) c.loop-place.invariant
    ∙ sym (read_at-without n x p (take i places) (c.requires.places.within i 0 within) (places-below n places i c.requires.places within))
    ∙ ap (λ (qs : List ℕ). read_at n x (other_places n qs)) (sym (take_more places i 0 within))

pub returns : goal.returns
returns c =
    let all = take_all c.loop-place.place-index c.args.places.now c.loop-place-test.false in
    c.loop-place.invariant ∙ ap (λ (qs : List ℕ). read_at c.args.n c.args.word (other_places c.args.n qs)) all
