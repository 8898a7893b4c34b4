-- A word more where it has the digits, and else none.
use Rattle.std.proofs.Common.{ℕ, Bool, ap, sym, ◌∙◌}
use Rattle.std.proofs.lemmas.List.{take_all}
use Rattle.ct_words.specs.Constructions.Places.{other_places, read_at}
use Rattle.ct_words.specs.Constructions.Shortened.{has_digits, shortened}
use Rattle.ct_words.proofs.Constructions.ShortenedCodes.{shortened-some}
use Rattle.ct_build.proofs.WordByWord.{kept_more, left_out}
use Rattle.ct_build.proofs.shortened.shortened_words.Goals as goal
use Rattle.ct_build.proofs.shortened.shortened_words.Goals.{then-has_digits+in_ok-push, else-has_digits}

pub has_digits-requires-clause-places : goal.has_digits-requires-clause-places
has_digits-requires-clause-places c = c.requires.places

pub without_places-requires-clause-length : goal.without_places-requires-clause-length
without_places-requires-clause-length c = c.requires.length

pub without_places-requires-clause-places : goal.without_places-requires-clause-places
without_places-requires-clause-places c = c.requires.places

pub without_places-requires-clause-word : goal.without_places-requires-clause-word
without_places-requires-clause-word c = c.requires.words c.loop-word.word-index 0 c.loop-word-test.true

pub returns-in_err-push-clause-none : goal.returns-in_err-push-clause-none
returns-in_err-push-clause-none c = λ none.
    absurd (shortened-some c.args.n c.args.places.now c.args.digits.now c.args.words.now c.loop-word.word-index 0 c.loop-word-test.true
    (sym c.has_digits.ensures ∙ c.if-has_digits.true) none)

pub loop-word-preserved : goal.loop-word-preserved
loop-word-preserved c =
    let n = c.args.n in
    let f : ℕ → ℕ = λ x. read_at n x (other_places n c.args.places.now) in
    let has : ℕ → Bool = has_digits n c.args.places.now c.args.digits.now in
    let words = c.args.words.now in
    let i = c.loop-word.word-index in
    elim c.if-has_digits.branch [
      | then-has_digits+in_ok-push w ↦
          kept_more f has words c.loop-word.rest.items c.if-has_digits.rest.items i w.without_places.result c.loop-word-test.true c.loop-word.invariant
          (ap (λ v. v.items) w.rest-is ∙ w.in_ok-push.ensures.items) (sym c.has_digits.ensures ∙ w.if-has_digits.true) w.without_places.ensures
      | else-has_digits w ↦
          ap (λ v. v.items) w.rest-is ∙ c.loop-word.invariant
          ∙ sym (left_out f has words i c.loop-word-test.true (sym c.has_digits.ensures ∙ w.if-has_digits.false))
    ]

pub returns-clause-words : goal.returns-clause-words
returns-clause-words c =
    let all = take_all c.loop-word.word-index c.args.words.now c.loop-word-test.false in
    c.loop-word.invariant ∙ ap (shortened c.args.n c.args.places.now c.args.digits.now) all
