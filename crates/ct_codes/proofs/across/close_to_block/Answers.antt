use Rattle.std.proofs.Common.{ℕ, nat_lt, get_or, arith}
use Rattle.ct_words.specs.Word.{distance}
use Rattle.ct_codes.proofs.WithinLemmas.{none_across-next, fails_before, passes_after}
use Rattle.ct_codes.proofs.across.close_to_block.Goals as goal

pub returns-then-far-lt-BLOCK : goal.returns-then-far-lt-BLOCK
returns-then-far-lt-BLOCK c = λ block long are.
    let close = λ (x y : ℕ). nat_lt (distance 32 x y) c.args.d in
    let word = get_or c.args.words.now c.loop-place.place 0 in
    let r = c.far_in_rows-far.result in
    let counted = c.far_in_rows-far.ensures block long are in
    let few = c.if-far-lt-BLOCK.true in
    record {
      places = (c.loop-place-test.true, omega arith);
      passes = passes_after (close word) block r counted (omega arith);
      none_before = c.loop-place.invariant block long are;
      none_in_row = λ m sooner. fails_before (close word) block r m counted sooner;
    }

pub loop-place-preserved : goal.loop-place-preserved
loop-place-preserved c = λ block long are.
    let close = λ (x y : ℕ). nat_lt (distance 32 x y) c.args.d in
    let word = get_or c.args.words.now c.loop-place.place 0 in
    let r = c.far_in_rows-far.result in
    let many = c.if-far-lt-BLOCK.false in
    none_across-next close c.args.words.now block c.loop-place.place (c.loop-place.invariant block long are)
    (λ m within. fails_before (close word) block r m (c.far_in_rows-far.ensures block long are) (omega arith))
