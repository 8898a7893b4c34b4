-- The balls about the words of a code have no more words than there are, and a ball has its centre.
use Rattle.std.proofs.Common.{◌≡◌, ℕ, ◌-◌, ◌*◌, ◌/◌, ◌%◌, ◌^◌, ◌≤◌, ap, ◌∙◌, arith}
use Rattle.std.proofs.Math.Nat.{pow-le-pow_right, div-le_self}
use Rattle.std.proofs.lemmas.Nat.{le-div, one_shl}
use Rattle.ct_words.specs.Counting.Binomials.{volume}
use Rattle.ct_words.proofs.Counting.Binomials.{one-le-volume, volume-le}
use Rattle.ct_words.specs.declared.limits.TheConstants.{MAX_N, MAX_BOUND}
use Rattle.ct_elementary.specs.Bounds.{sphere_packing_value}
use Rattle.ct_elementary.proofs.Entries.{IsWithin-from_entry}
use Rattle.ct_words.proofs.DigitCodes.{bound_from_spread}
use Rattle.ct_words.proofs.Counting.Spheres.{spread_hamming}
use Rattle.ct_elementary.proofs.bounds.sphere_packing.Goals as goal

-- the quotient that the code computes is the bound
quotient_is : (n d b : ℕ) → n ≤ MAX_N → b ≡ volume n ((d - 1) / 2) → 1 * 2 ^ n % 2 ^ 64 / b ≡ sphere_packing_value n d
quotient_is n d b h e =
    let shifted = one_shl n 64 (omega arith) in
    ap (λ z. z / b) shifted ∙ ap (λ z. 2 ^ n / z) e

-- the bound is at least 1 and at most 2 ^ MAX_N
value_within : (n d : ℕ) → n ≤ MAX_N → (1 ≤ sphere_packing_value n d) × (sphere_packing_value n d ≤ MAX_BOUND)
value_within n d h =
    let e = (d - 1) / 2 in
    let centre = one-le-volume n e in
    let power : 2 ^ n ≤ 2 ^ MAX_N = pow-le-pow_right (omega arith) h in
    let least = le-div 1 (2 ^ n) (volume n e) centre (let part = volume-le n e in omega arith) in
    let most = div-le_self (2 ^ n) (volume n e) in
    (least, omega arith)

pub nonzero_div-result : goal.nonzero_div-result
nonzero_div-result c =
    let centre = one-le-volume c.args.n ((c.args.d - 1) / 2) in
    let size = c.ball.ensures in
    omega arith

pub returns-clause-range : goal.returns-clause-range
returns-clause-range c =
    let entry = IsWithin-from_entry c.args.n c.args.d c.requires in
    rw (quotient_is c.args.n c.args.d c.ball.result entry.short c.ball.ensures) (value_within c.args.n c.args.d entry.short)

pub returns-clause-sound : goal.returns-clause-sound
returns-clause-sound c =
    let entry = IsWithin-from_entry c.args.n c.args.d c.requires in
    let far = entry.far in
    rw (quotient_is c.args.n c.args.d c.ball.result entry.short c.ball.ensures)
    (bound_from_spread c.args.n c.args.d (sphere_packing_value c.args.n c.args.d) (spread_hamming c.args.n c.args.d (omega arith)))
