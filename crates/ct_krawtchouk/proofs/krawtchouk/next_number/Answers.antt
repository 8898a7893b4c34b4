-- The numbers are small, and the recurrence says which quotient it is.
use Rattle.std.proofs.Common.{◌≡◌, suc, ◌+◌, ◌-◌, ap, ap₂, sym, ◌∙◌, arith}
use Rattle.std.specs.Prelude.{pos, ◌-ℤ◌, ◌*ℤ◌, unsigned_abs}
use Rattle.std.proofs.lemmas.Int.{ints, to_z-of_z, fits_signed_from_abs}
use mir.Val.{SFits}
use mir.Syntax.{w64}
use Rattle.ct_words.proofs.Counting.Alternating.{unsigned_abs-sub}
use Rattle.ct_words.specs.Numbers.{krawtchouk}
use Rattle.ct_krawtchouk.specs.Krawtchouk.{krawtchouk_before}
use Rattle.ct_krawtchouk.proofs.KrawtchoukSteps.{krawtchouk-step, krawtchouk-le, krawtchouk_before-le}
use Rattle.ct_krawtchouk.proofs.krawtchouk.next_number.Goals as goal

pub product-requires-clause-number : goal.product-requires-clause-number
product-requires-clause-number c =
    let f : SFits w64 c.args.number = c.ranges.number in
    let same = ap unsigned_abs (to_z-of_z w64 c.args.number f ∙ c.requires.number) in
    let most = krawtchouk-le c.args.n c.args.k c.args.i c.requires.index c.requires.length in
    omega arith

pub product-requires-2-clause-number : goal.product-requires-2-clause-number
product-requires-2-clause-number c =
    let f : SFits w64 c.args.before = c.ranges.before in
    let same = ap unsigned_abs (to_z-of_z w64 c.args.before f ∙ c.requires.before) in
    let most = krawtchouk_before-le c.args.n c.args.k c.args.i c.requires.index c.requires.length in
    omega arith

pub overflow_sub-whole : goal.overflow_sub-whole
overflow_sub-whole c =
    let p = c.product.result in
    let q = c.product-2.result in
    let f : SFits w64 p = record { sfits = c.product.type_inv } in
    let g : SFits w64 q = record { sfits = c.product-2.type_inv } in
    let first = c.product.ensures.small in
    let second = c.product-2.ensures.small in
    let sum = unsigned_abs-sub p q in
    simp to_z-of_z (fits_signed_from_abs w64 (p -ℤ q) (omega arith))

pub returns : goal.returns
returns c =
    let n = c.args.n in
    let k = c.args.k in
    let i = c.args.i in
    let index = c.requires.index in
    let length = c.requires.length in
    let p = c.product.result in
    let q = c.product-2.result in
    let f : SFits w64 p = record { sfits = c.product.type_inv } in
    let g : SFits w64 q = record { sfits = c.product-2.type_inv } in
    let first = c.product.ensures.small in
    let second = c.product-2.ensures.small in
    let sum = unsigned_abs-sub p q in
    let whole : SFits w64 (p -ℤ q) = fits_signed_from_abs w64 (p -ℤ q) (omega arith) in
    let fn : SFits w64 c.args.number = c.ranges.number in
    let fb : SFits w64 c.args.before = c.ranges.before in
    let fr : SFits w64 c.exact_quotient.result = record { sfits = c.exact_quotient.type_inv } in
    let fa : SFits w64 c.from.result = record { sfits = c.from.type_inv } in
    let fi : SFits w64 c.from-2.result = record { sfits = c.from-2.type_inv } in
    let fm : SFits w64 c.from-3.result = record { sfits = c.from-3.type_inv } in
    let a_is : c.from.result ≡ pos (n - i) = c.from.ensures in
    let i_is : c.from-2.result ≡ pos i = c.from-2.ensures in
    let m_is : c.from-3.result ≡ pos (n + 1 - k) = c.from-3.ensures in
    let slope : SFits w64 (c.from.result -ℤ c.from-2.result) = omega (arith, ints) in
    let p_is : p ≡ (pos (n - i) -ℤ pos i) *ℤ krawtchouk n k i =
    (simp to_z-of_z at c.product.ensures.value) ∙ ap₂ (λ a b. a *ℤ b) (ap₂ (λ a b. a -ℤ b) a_is i_is) c.requires.number in
    let q_is : q ≡ pos (n + 1 - k) *ℤ krawtchouk_before n k i =
    (simp to_z-of_z at c.product-2.ensures.value) ∙ ap₂ (λ a b. a *ℤ b) m_is c.requires.before in
    let place : k + 1 ≡ suc k = omega arith in
    let step = ap (λ m. pos m *ℤ krawtchouk n (suc k) i) place ∙ krawtchouk-step n k i index c.requires.row ∙ sym (ap₂ (λ a b. a -ℤ b) p_is q_is) in
    let exact = (simp to_z-of_z at c.exact_quotient.ensures) (krawtchouk n (suc k) i) step in
    to_z-of_z w64 c.exact_quotient.result fr ∙ exact
