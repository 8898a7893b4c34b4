use Rattle.std.proofs.Common.{◌≡◌, ◌-◌, ◌*◌, ◌/◌, ◌%◌, ◌^◌, ◌≤◌, bit_and, ap, ◌∙◌, arith}
use Rattle.std.proofs.Math.Nat.{pow-le-pow_right, mod-eq_of_lt}
use Rattle.std.proofs.lemmas.Nat.{and_mask}
use Rattle.ct_codes.proofs.groups.group_digits.Goals as goal

pub returns : goal.returns
returns c =
    let width = c.args.width in
    let few : 2 ^ c.args.width ≤ 2 ^ 31 = (let within : c.args.width ≤ 31 = omega (arith, c.requires.width) in pow-le-pow_right (omega arith) within) in
    let one_is : 1 * 2 ^ c.args.width % 2 ^ 32 ≡ 2 ^ c.args.width = mod-eq_of_lt (omega arith) ∙ omega arith in
    ap (λ m. bit_and (c.args.word / 2 ^ c.args.shift) (m - 1)) one_is ∙ and_mask (c.args.word / 2 ^ c.args.shift) width
