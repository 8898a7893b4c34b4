-- One more index of the dual.
use Rattle.std.proofs.Common.{rules, ℕ, ◌≡◌, ◌<◌, ◌+◌, ◌++◌, List, [], ◌∷◌, map, drop, length, get_or, append_assoc, sym, ap, subst, ◌∙◌, Vec, Global}
use Rattle.std.specs.Prelude.{ℤ, pos, int_lt, true, false}
use Rattle.std.proofs.lemmas.Int.{to_z-of_z}
use Rattle.std.proofs.lemmas.List.{drop_more}
use mir.Val.{SFits, to_z, of_z}
use mir.Syntax.{w64}
use Rattle.ct_duals.specs.Bound.{positive}
use Rattle.ct_duals.proofs.Charges.{positive-yes, positive-no}
use Rattle.ct_rule_parts.specs.Local.{doubly_at}
use Rattle.ct_rule_parts.proofs.local_dual.doubly_uppers.Goals as goal
use Rattle.ct_rule_parts.proofs.local_dual.doubly_uppers.Goals.{then-number-gt0+in_ok-push, else-number-gt0}

-- what stands at the indices where more than 0 is allowed: an index where it is, and one where it is not
module _ (f : ℕ × ℤ → ℕ) (us : List ℕ) (y : List (ℕ × ℤ)) (i : ℕ) (here : i < length y) where
  more-yes : (vs all : List ℕ) → SFits w64 (get_or y i (0, pos 0)).1 → int_lt (pos 0) (to_z w64 (of_z w64 (get_or y i (0, pos 0)).1)) ≡ true
      → vs ≡ us ++ (f (get_or y i (0, pos 0)) ∷ []) → us ++ map f (positive (drop i y)) ≡ all → vs ++ map f (positive (drop (i + 1) y)) ≡ all
  more-yes vs all fits some is was =
      let p = get_or y i (0, pos 0) in
      let rest = drop (i + 1) y in
      let some = subst (λ (z : ℤ). int_lt (pos 0) z ≡ true) (to_z-of_z w64 p.1 fits) some in
      ap (λ (xs : List ℕ). xs ++ map f (positive rest)) is ∙ append_assoc us (f p ∷ []) (map f (positive rest))
      ∙ ap (λ (ps : List (ℕ × ℤ)). us ++ map f ps) (sym (positive-yes p rest some))
      ∙ ap (λ (ps : List (ℕ × ℤ)). us ++ map f (positive ps)) (sym (drop_more y i (0, pos 0) here)) ∙ was

  more-no : (vs all : List ℕ) → SFits w64 (get_or y i (0, pos 0)).1 → int_lt (pos 0) (to_z w64 (of_z w64 (get_or y i (0, pos 0)).1)) ≡ false
      → vs ≡ us → us ++ map f (positive (drop i y)) ≡ all → vs ++ map f (positive (drop (i + 1) y)) ≡ all
  more-no vs all fits none is was =
      let p = get_or y i (0, pos 0) in
      let rest = drop (i + 1) y in
      let none = subst (λ (z : ℤ). int_lt (pos 0) z ≡ false) (to_z-of_z w64 p.1 fits) none in
      ap (λ (xs : List ℕ). xs ++ map f (positive rest)) is
      ∙ ap (λ (ps : List (ℕ × ℤ)). us ++ map f ps) (sym (positive-no p rest none))
      ∙ ap (λ (ps : List (ℕ × ℤ)). us ++ map f (positive ps)) (sym (drop_more y i (0, pos 0) here)) ∙ was

pub doubly_at-requires-clause-index : goal.doubly_at-requires-clause-index
doubly_at-requires-clause-index c = c.requires.indices c.loop-i.i-index (0, pos 0) c.loop-i-test.true

pub loop-i-preserved : goal.loop-i-preserved
loop-i-preserved c =
    let y = c.args.y.now in
    let f = λ (q : ℕ × ℤ). doubly_at c.args.entry q.0 in
    let us = c.loop-i.uppers.items in
    let vs = c.if-number-gt0.uppers.items in
    let here = c.loop-i-test.true in
    let fits : SFits w64 (get_or y c.loop-i.i-index (0, pos 0)).1 = search rules in
    elim c.if-number-gt0.branch [
      | then-number-gt0+in_ok-push w ↦
          more-yes f us y c.loop-i.i-index here vs (map f (positive y)) fits w.if-number-gt0.true
          (ap (λ (v : Vec ℕ Global). v.items) w.uppers-is ∙ w.in_ok-push.ensures.items ∙ ap (λ (u : ℕ). us ++ (u ∷ [])) w.doubly_at.ensures)
          c.loop-i.invariant
      | else-number-gt0 w ↦
          more-no f us y c.loop-i.i-index here vs (map f (positive y)) fits w.if-number-gt0.false (ap (λ (v : Vec ℕ Global). v.items) w.uppers-is)
          c.loop-i.invariant
    ]
