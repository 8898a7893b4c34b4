use Rattle.std.proofs.Common.{ℕ, ◌+◌, ◌%◌, map, ap, ◌∙◌}
use Rattle.std.proofs.lemmas.Simd.{zip2_of_maps}
use Rattle.ct_codes.proofs.RowLemmas.{apart, eight_sums, sum_long}
use Rattle.ct_codes.proofs.rows.distances.Goals as goal

pub returns-clause-distances : goal.returns-clause-distances
returns-clause-distances c = λ block long are.
    let word = c.args.word in
    let f = λ (p x : ℕ). apart p word x in
    let two = zip2_of_maps (λ a b. (a + b) % 256) (f 0) (f 1) block (c.row.ensures.distances block long are) (c.row-2.ensures.distances block long are) in
    let three = zip2_of_maps (λ a b. (a + b) % 256) (λ x. (f 0 x + f 1 x) % 256) (f 2) block two (c.row-3.ensures.distances block long are) in
    let four = zip2_of_maps (λ a b. (a + b) % 256) (λ x. ((f 0 x + f 1 x) % 256 + f 2 x) % 256) (f 3) block three (c.row-4.ensures.distances block long are) in
    let five = zip2_of_maps (λ a b. (a + b) % 256) (λ x. (((f 0 x + f 1 x) % 256 + f 2 x) % 256 + f 3 x) % 256) (f 4) block four
    (c.row-5.ensures.distances block long are) in
    let six = zip2_of_maps (λ a b. (a + b) % 256) (λ x. ((((f 0 x + f 1 x) % 256 + f 2 x) % 256 + f 3 x) % 256 + f 4 x) % 256) (f 5) block five
    (c.row-6.ensures.distances block long are) in
    let seven = zip2_of_maps (λ a b. (a + b) % 256) (λ x. (((((f 0 x + f 1 x) % 256 + f 2 x) % 256 + f 3 x) % 256 + f 4 x) % 256 + f 5 x) % 256) (f 6) block six
    (c.row-7.ensures.distances block long are) in
    let eight = zip2_of_maps (λ a b. (a + b) % 256)
    (λ x. ((((((f 0 x + f 1 x) % 256 + f 2 x) % 256 + f 3 x) % 256 + f 4 x) % 256 + f 5 x) % 256 + f 6 x) % 256) (f 7) block seven
    (c.row-8.ensures.distances block long are) in
    eight ∙ ap (λ (g : ℕ → ℕ). map g block) (λ i x. eight_sums word x i)

pub returns-clause-size : goal.returns-clause-size
returns-clause-size c =
    let two = sum_long _ _ c.row.ensures.size c.row-2.ensures.size in
    let three = sum_long _ _ two c.row-3.ensures.size in
    let four = sum_long _ _ three c.row-4.ensures.size in
    let five = sum_long _ _ four c.row-5.ensures.size in
    let six = sum_long _ _ five c.row-6.ensures.size in
    let seven = sum_long _ _ six c.row-7.ensures.size in
    sum_long _ _ seven c.row-8.ensures.size
