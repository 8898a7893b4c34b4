use Rattle.std.proofs.Common.{ℕ, ◌≡◌, ◌+◌, ◌-◌, nat_lt, get_or, sym, ap, ◌∙◌, inl, inr, arith}
use Rattle.std.proofs.lemmas.Bool.{cases_lt}
use Rattle.ct_words.specs.Word.{distance}
use Rattle.ct_codes.proofs.WithinLemmas.{first_part, none_part}
use Rattle.ct_codes.proofs.pairs.close_pair_within.Goals as goal

pub returns-in-Some : goal.returns-in-Some
returns-in-Some c =
    let close = λ (x y : ℕ). nat_lt (distance 32 x y) c.args.d in
    let i = c.loop-i.i in
    let word = get_or c.args.words.now i 0 in
    let places = c.requires.places in
    let here = c.loop-i-test.true in
    let first = first_part (close word) c.args.words.now (i + 1) (c.args.end - (i + 1)) c.in-Some.more (omega arith) (sym c.in-Some.ensures) in
    let within = first.within in
    record {
      places = (c.loop-i.auto.i, omega arith, omega arith);
      passes = first.passes;
      none_before = c.loop-i.invariant;
      none_in_row = λ m after sooner. first.none_before m (omega arith) sooner;
    }

pub loop-i-preserved : goal.loop-i-preserved
loop-i-preserved c = λ k m from sooner order within.
    let close = λ (x y : ℕ). nat_lt (distance 32 x y) c.args.d in
    let i = c.loop-i.i in
    let word = get_or c.args.words.now i 0 in
    let places = c.requires.places in
    let here = c.loop-i-test.true in
    let none = none_part (close word) c.args.words.now (i + 1) (c.args.end - (i + 1)) (omega arith) (sym c.first_close.ensures ∙ c.in_default.is) in
    elim (cases_lt k i) [
      | inl early ↦ c.loop-i.invariant k m from early order within
      | inr late ↦
          let same : k ≡ i = omega arith in
          ap (λ (z : ℕ). close (get_or c.args.words.now z 0) (get_or c.args.words.now m 0)) same ∙ none m (omega arith) (omega arith)
    ]
