use Rattle.std.proofs.Common.{ℕ, nat_lt, get_or, sym, ◌∙◌}
use Rattle.ct_words.specs.Word.{distance}
use Rattle.ct_codes.proofs.WithinLemmas.{none_across-next, first_of_all, none_of_all}
use Rattle.ct_codes.proofs.across.across_plainly.Goals as goal

pub returns-in-Some : goal.returns-in-Some
returns-in-Some c =
    let close = λ (x y : ℕ). nat_lt (distance 32 x y) c.args.d in
    let word = get_or c.args.words.now c.loop-place.place 0 in
    let first = first_of_all (close word) c.args.later.now c.in-Some.other (sym c.in-Some.ensures) in
    record { places = (c.loop-place-test.true, first.within); passes = first.passes; none_before = c.loop-place.invariant; none_in_row = first.before }

pub loop-place-preserved : goal.loop-place-preserved
loop-place-preserved c =
    let close = λ (x y : ℕ). nat_lt (distance 32 x y) c.args.d in
    let word = get_or c.args.words.now c.loop-place.place 0 in
    none_across-next close c.args.words.now c.args.later.now c.loop-place.place c.loop-place.invariant
    (none_of_all (close word) c.args.later.now (sym c.first_close.ensures ∙ c.in_default.is))
