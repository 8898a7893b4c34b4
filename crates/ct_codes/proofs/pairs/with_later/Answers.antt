use Rattle.std.proofs.Common.{ℕ, ◌-◌, nat_lt, take, subst}
use lib.Lanes.{chunk}
use Rattle.ct_words.specs.Word.{distance}
use Rattle.ct_codes.specs.Inside.Across.{IsFirstAcrossOrNone}
use Rattle.ct_codes.proofs.WithinLemmas.{before_first, least-across, least-stays, least-begins}
use Rattle.ct_codes.proofs.pairs.with_later.Goals as goal

pub returns-in-Some : goal.returns-in-Some
returns-in-Some c =
    let close = λ (x y : ℕ). nat_lt (distance 32 x y) c.args.d in
    let before = before_first close c.args.words.now c.args.start c.first_place-first.result c.args.least c.requires.least c.first_place-first.ensures in
    least-across close c.args.words.now c.first_place-first.result c.args.start c.args.end c.in-Some.i c.in-Some.more c.requires.places.0 c.requires.places.1
    before.0 before.1 c.in-Some.ensures

pub returns-in-Some-least : goal.returns-in-Some-least
returns-in-Some-least c =
    let close = λ (x y : ℕ). nat_lt (distance 32 x y) c.args.d in
    let words = c.args.words.now in
    let first = c.first_place-first.result in
    let none = subst (IsFirstAcrossOrNone close (take first words) (chunk c.args.start (c.args.end - c.args.start) words)) c.in_default.is
    c.first_close_across.ensures in
    least-stays close words c.args.start c.args.end first c.args.least c.in-Some-least.field-0 c.requires.places.0 c.requires.places.1
    c.requires.least c.first_place-first.ensures none c.in-Some-least.is

pub returns-in-None : goal.returns-in-None
returns-in-None c =
    let close = λ (x y : ℕ). nat_lt (distance 32 x y) c.args.d in
    let words = c.args.words.now in
    let first = c.first_place-first.result in
    let none = subst (IsFirstAcrossOrNone close (take first words) (chunk c.args.start (c.args.end - c.args.start) words)) c.in_default.is
    c.first_close_across.ensures in
    least-begins close words c.args.start c.args.end first c.args.least c.close_pair_within.result c.requires.places.0 c.requires.places.1
    c.requires.least c.first_place-first.ensures none c.in-None.is c.close_pair_within.ensures
