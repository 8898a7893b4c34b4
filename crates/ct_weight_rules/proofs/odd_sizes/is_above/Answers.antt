-- A product is below a number where one of its factors is at most the quotient of the number less one by the other.
use Rattle.std.proofs.Common.{◌≡◌, ℕ, ◌-◌, ◌*◌, ◌/◌, ◌≤◌, Bool, true, false, leb, refl, arith}
use Rattle.std.specs.Prelude.{ℤ, pos, negsuc, ◌*ℤ◌, ◌≤ℤ◌, int_lt}
use Rattle.std.proofs.lemmas.Int.{ints, to_z-of_z}
use Rattle.std.proofs.lemmas.Nat.{le-div, mul-le}
use Rattle.std.proofs.Math.Nat.{div-mul-le_self}
use lib.IntN.{nat_abs}
use lib.Signed.{le_z}
use mir.Syntax.{w128}
use Rattle.ct_weight_rules.proofs.odd_sizes.is_above.Goals as goal

compared : (m a b : ℕ) → 1 ≤ m → 1 ≤ a → leb b ((a - 1) / m) ≡ int_lt (pos m *ℤ pos b) (pos a)
compared m a b some least = go (leb b ((a - 1) / m)) refl (int_lt (pos m *ℤ pos b) (pos a)) refl
  where
    go : (p : Bool) → leb b ((a - 1) / m) ≡ p → (q : Bool) → int_lt (pos m *ℤ pos b) (pos a) ≡ q → p ≡ q
    go true is true less = refl
    go false is false less = refl
    go true is false less =
        let part = div-mul-le_self (a - 1) m in
        let many = mul-le b m ((a - 1) / m) m (grind arith) (omega arith) in
        absurd (grind (arith, ints))
    go false is true less =
        let enough : b * m ≤ a - 1 = grind (arith, ints) in
        let whole = le-div b (a - 1) m some enough in
        absurd (grind arith)

with_signs : (m : ℕ) (x y : ℤ) → 1 ≤ m → pos 1 ≤ℤ x → pos 1 ≤ℤ y → leb (nat_abs y) ((nat_abs x - 1) / m) ≡ int_lt (pos m *ℤ y) x
with_signs m (pos a) (pos b) some first second = compared m a b some (omega (arith, ints))
with_signs m (negsuc a) y some first second = absurd (omega (arith, ints))
with_signs m x (negsuc b) some first second = absurd (omega (arith, ints))

positive : (x : ℤ) → le_z x (pos 0) ≡ false → pos 1 ≤ℤ x
positive x h = grind (arith, ints)

pub returns : goal.returns
returns c =
    let least = to_z-of_z w128 c.args.least c.ranges.least in
    let most = to_z-of_z w128 c.args.most c.ranges.most in
    let same = c.from.ensures in
    let above = rw least at c.if-least-le0.false in
    rw (least, most, same) (with_signs c.args.m c.args.least c.args.most c.requires.some (positive c.args.least above) c.requires.most)
