-- The numbers of an entry of the table.
use Rattle.std.proofs.Common.{◌≡◌, ℕ, ◌≤◌, true, ◌&&◌, nat_le, Option, Some, subst, arith, leb-true}
use Rattle.std.specs.Prelude.{◌==◌, ◌%◌}
use Rattle.std.proofs.lemmas.Bool.{and_parts}
use Rattle.ct_words.specs.declared.limits.TheConstants.{MAX_N}
use Rattle.ct_words.specs.declared.entry.Entry.{Entry}
use Rattle.ct_words.specs.Entry.{is_entry, weight_fits}

-- they are at most MAX_N
pub record HasSmallNumbers (e : Entry) : Type 0 where
  pub length_small : e.n ≤ MAX_N
  pub distance_small : e.d ≤ MAX_N
  pub weight_small : (w : ℕ) → e.w ≡ Some w → w ≤ MAX_N

pub small_numbers : (e : Entry) → is_entry e ≡ true → HasSmallNumbers e
small_numbers e h =
    let all = and_parts (nat_le 1 e.n && nat_le e.n MAX_N && nat_le 3 e.d && nat_le e.d MAX_N) (weight_fits e e.w) h in
    let four = and_parts (nat_le 1 e.n && nat_le e.n MAX_N && nat_le 3 e.d) (nat_le e.d MAX_N) all.0 in
    let three = and_parts (nat_le 1 e.n && nat_le e.n MAX_N) (nat_le 3 e.d) four.0 in
    let two = and_parts (nat_le 1 e.n) (nat_le e.n MAX_N) three.0 in
    let long = leb-true e.n MAX_N two.1 in
    let far = leb-true e.d MAX_N four.1 in
    record {
      length_small = omega (arith, long);
      distance_small = omega (arith, far);
      weight_small = λ w is.
          let fits = subst (λ (o : Option ℕ). weight_fits e o ≡ true) is all.1 in
          let heavy = leb-true w e.n (and_parts (e.d % 2 == 0) (nat_le w e.n) fits).1 in
          omega (arith, heavy, long);
    }
