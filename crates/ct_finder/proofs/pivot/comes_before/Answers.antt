-- The products that are compared are those of the definition.
use Rattle.std.proofs.Common.{rules, ◌≡◌, ap, ap₂, sym, ◌∙◌, ◌||◌, ◌&&◌, nat_lt}
use Rattle.std.specs.Prelude.{◌*ℤ◌, int_lt, int_le}
use Rattle.std.proofs.lemmas.Int.{to_z-of_z}
use mir.Val.{SFits, to_z, of_z}
use mir.Syntax.{w64, w128}
use Rattle.ct_finder.specs.Pivot.{at, constant_of}
use Rattle.ct_finder.proofs.pivot.comes_before.Goals as goal
use Rattle.ct_finder.proofs.pivot.comes_before.Goals.{After-product-right}

left : (c : After-product-right) → to_z w128 (of_z w128 c.product-left.result) ≡ constant_of c.args.row.now *ℤ at c.args.other.now c.args.e
left c =
    let all : SFits w128 c.product-left.result = record { sfits = c.product-left.type_inv } in
    let x = constant_of c.args.row.now in
    let y = at c.args.other.now c.args.e in
    let f : SFits w64 x = search rules in
    let g : SFits w64 y = search rules in
    to_z-of_z w128 c.product-left.result all ∙ c.product-left.ensures.value ∙ ap₂ (λ m n. m *ℤ n) (to_z-of_z w64 x f) (to_z-of_z w64 y g)

right : (c : After-product-right) → to_z w128 (of_z w128 c.product-right.result) ≡ constant_of c.args.other.now *ℤ at c.args.row.now c.args.e
right c =
    let all : SFits w128 c.product-right.result = record { sfits = c.product-right.type_inv } in
    let x = constant_of c.args.other.now in
    let y = at c.args.row.now c.args.e in
    let f : SFits w64 x = search rules in
    let g : SFits w64 y = search rules in
    to_z-of_z w128 c.product-right.result all ∙ c.product-right.ensures.value ∙ ap₂ (λ m n. m *ℤ n) (to_z-of_z w64 x f) (to_z-of_z w64 y g)

pub returns-then-left-right : goal.returns-then-left-right
returns-then-left-right c =
    let both = (goal.at.returns-then-left-right c).After-product-right in
    let less = sym (ap₂ int_lt (left both) (right both)) ∙ c.if-left-right.true in
    let row = c.args.row.now in
    let other = c.args.other.now in
    let e = c.args.e in
    let last = int_le (constant_of row *ℤ at other e) (constant_of other *ℤ at row e) && nat_lt c.args.basic c.args.other_basic in
    sym (ap (λ b. b || last) less)

pub returns-then-left-right-2 : goal.returns-then-left-right-2
returns-then-left-right-2 c =
    let both = (goal.at.returns-then-left-right-2 c).After-product-right in
    let less = sym (ap₂ int_lt (left both) (right both)) ∙ c.if-left-right.false in
    let most = sym (ap₂ int_le (left both) (right both)) ∙ c.if-left-right-2.true in
    sym (ap₂ (λ a b. a || (b && nat_lt c.args.basic c.args.other_basic)) less most)

pub returns-else-left-right-2 : goal.returns-else-left-right-2
returns-else-left-right-2 c =
    let both = (goal.at.returns-else-left-right-2 c).After-product-right in
    let less = sym (ap₂ int_lt (left both) (right both)) ∙ c.if-left-right.false in
    let most = sym (ap₂ int_le (left both) (right both)) ∙ c.if-left-right-2.false in
    c.if-left-right-2.false ∙ sym (ap₂ (λ a b. a || (b && nat_lt c.args.basic c.args.other_basic)) less most)
