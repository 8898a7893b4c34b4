use Rattle.std.proofs.Common.{◌≡◌, ◌≢◌, ℕ, ◌+◌, ◌-◌, ◌%◌, ◌<◌, length, get_or, arith, length-set, sym, ap₂, ◌∙◌}
use Rattle.ct_sum_classes.proofs.SizeLemmas.{set_more, set_other, sum_below, sum_from}
use Rattle.ct_sum_classes.proofs.class_sizes.add_with_element.Goals as goal

pub loop-sum-preserved : goal.loop-sum-preserved
loop-sum-preserved c =
    let n = c.args.n in
    let m = c.args.element in
    let s = c.loop-sum.sum in
    let old = c.args.row.now in
    let inv = c.loop-sum.invariant in
    let within : s < length c.loop-sum.row = let room = inv.room in omega arith in
    let at : (s + (n - m)) % n ≡ s + (n - m) = sum_below n m s (omega (arith, c.requires.element)) (omega arith) in
    record {
      room = length-set {A = ℕ} _ _ _ ∙ inv.room;
      sums = set_more (λ r v. v ≡ get_or old r 0 + get_or c.args.fewer.now ((r + (n - m)) % n) 0) c.loop-sum.row s _ 0 within inv.sums
          (ap₂ (λ v t. v + get_or c.args.fewer.now t 0) (inv.left s (omega arith)) (sym at));
      left = λ r from.
          let other : r ≢ s = omega arith in
          set_other (λ i v. v ≡ get_or old i 0) c.loop-sum.row s _ 0 r other (inv.left r (omega arith));
    }

pub loop-sum-2-preserved : goal.loop-sum-2-preserved
loop-sum-2-preserved c =
    let n = c.args.n in
    let m = c.args.element in
    let s = c.loop-sum-2.sum in
    let old = c.args.row.now in
    let inv = c.loop-sum-2.invariant in
    let within : s < length c.loop-sum-2.row = let room = inv.room in omega arith in
    let at : (s + (n - m)) % n ≡ s - m = sum_from n m s (omega (arith, c.requires.element)) (omega arith) (omega arith) in
    record {
      room = length-set {A = ℕ} _ _ _ ∙ inv.room;
      sums = set_more (λ r v. v ≡ get_or old r 0 + get_or c.args.fewer.now ((r + (n - m)) % n) 0) c.loop-sum-2.row s _ 0 within inv.sums
          (ap₂ (λ v t. v + get_or c.args.fewer.now t 0) (inv.left s (omega arith)) (sym at));
      left = λ r from.
          let other : r ≢ s = omega arith in
          set_other (λ i v. v ≡ get_or old i 0) c.loop-sum-2.row s _ 0 r other (inv.left r (omega arith));
    }
