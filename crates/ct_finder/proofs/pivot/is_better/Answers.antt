-- Whether a row is a candidate, and comes before the best.
use Rattle.std.proofs.Common.{rules, ℕ, List, ◌≡◌, ◌<◌, true, false, ◌&&◌, length, get_or, sym, ap, ap₂, ◌∙◌, arith, subst}
use Rattle.std.specs.Prelude.{ℤ, pos, int_lt, int_le, zip, IfSome, Some, None, Option}
use Rattle.std.proofs.lemmas.Int.{ints, to_z-of_z}
use mir.Val.{SFits}
use mir.Syntax.{w64}
use Rattle.ct_finder.specs.Pivot.{at, is_candidate, comes_before}
use Rattle.ct_finder.specs.Inside.Pivot.{line_at, is_better}
use Rattle.ct_finder.proofs.Best.{line-is}
use Rattle.ct_finder.proofs.pivot.is_better.Goals as goal

not_positive : (z : ℤ) → int_le z (pos 0) ≡ true → int_lt (pos 0) z ≡ false
not_positive z h = grind (arith, ints)

positive : (z : ℤ) → int_le z (pos 0) ≡ false → int_lt (pos 0) z ≡ true
positive z h = grind (arith, ints)

no_candidate : (e : ℕ) (lines : List (List ℤ × ℕ)) (best : Option ℕ) (i : ℕ) → is_candidate e (line_at lines i) ≡ false → is_better e lines best i ≡ false
no_candidate e lines None i h = h
no_candidate e lines (Some b) i h = ap (λ t. t && comes_before e (line_at lines i) (line_at lines b)) h

pub returns-then-row-e-le0 : goal.returns-then-row-e-le0
returns-then-row-e-le0 c =
    let rows = c.args.rows.now in
    let basics = c.args.basics.now in
    let row = c.as_slice-row.result.now in
    let f : SFits w64 (get_or row c.args.e (pos 0)) = search rules in
    let line = line-is rows basics c.args.i c.index-rows-i.result c.requires.place c.requires.count c.index-rows-i.is in
    let entry : at (line_at (zip rows basics) c.args.i).0 c.args.e ≡ get_or row c.args.e (pos 0) =
    ap (λ l. at l.0 c.args.e) line ∙ ap (λ r. at r c.args.e) (sym c.as_slice-row.ensures.value) in
    let test : is_candidate c.args.e (line_at (zip rows basics) c.args.i) ≡ false =
    ap (λ z. int_lt (pos 0) z) entry ∙ not_positive (get_or row c.args.e (pos 0)) (simp to_z-of_z at c.if-row-e-le0.true) in
    sym (no_candidate c.args.e (zip rows basics) c.args.best c.args.i test)

pub returns-in-None : goal.returns-in-None
returns-in-None c =
    let rows = c.args.rows.now in
    let basics = c.args.basics.now in
    let row = c.as_slice-row.result.now in
    let f : SFits w64 (get_or row c.args.e (pos 0)) = search rules in
    let line = line-is rows basics c.args.i c.index-rows-i.result c.requires.place c.requires.count c.index-rows-i.is in
    let entry : at (line_at (zip rows basics) c.args.i).0 c.args.e ≡ get_or row c.args.e (pos 0) =
    ap (λ l. at l.0 c.args.e) line ∙ ap (λ r. at r c.args.e) (sym c.as_slice-row.ensures.value) in
    let test : is_candidate c.args.e (line_at (zip rows basics) c.args.i) ≡ true =
    ap (λ z. int_lt (pos 0) z) entry ∙ positive (get_or row c.args.e (pos 0)) (simp to_z-of_z at c.if-row-e-le0.false) in
    sym (ap (λ o. is_better c.args.e (zip rows basics) o c.args.i) c.in-None.is ∙ test)

pub returns-in-Some : goal.returns-in-Some
returns-in-Some c =
    let rows = c.args.rows.now in
    let basics = c.args.basics.now in
    let b = c.in-Some.b in
    let row = c.as_slice-row.result.now in
    let f : SFits w64 (get_or row c.args.e (pos 0)) = search rules in
    let line = line-is rows basics c.args.i c.index-rows-i.result c.requires.place c.requires.count c.index-rows-i.is in
    let inside : b < length rows = subst (λ o. IfSome o (λ k. k < length rows)) c.in-Some.is c.requires.best in
    let other = line-is rows basics b c.index-rows-b.result inside c.requires.count c.index-rows-b.is in
    let entry : at (line_at (zip rows basics) c.args.i).0 c.args.e ≡ get_or row c.args.e (pos 0) =
    ap (λ l. at l.0 c.args.e) line ∙ ap (λ r. at r c.args.e) (sym c.as_slice-row.ensures.value) in
    let test : is_candidate c.args.e (line_at (zip rows basics) c.args.i) ≡ true =
    ap (λ z. int_lt (pos 0) z) entry ∙ positive (get_or row c.args.e (pos 0)) (simp to_z-of_z at c.if-row-e-le0.false) in
    let compared : c.comes_before.result ≡ comes_before c.args.e (line_at (zip rows basics) c.args.i) (line_at (zip rows basics) b) =
    c.comes_before.ensures
    ∙ ap₂ (λ r s. comes_before c.args.e (r, get_or basics c.args.i 0) (s, get_or basics b 0)) c.as_slice-row.ensures.value c.as_slice.ensures.value
    ∙ sym (ap₂ (λ l m. comes_before c.args.e l m) line other) in
    compared
    ∙ sym (ap (λ o. is_better c.args.e (zip rows basics) o c.args.i) c.in-Some.is
    ∙ ap (λ t. t && comes_before c.args.e (line_at (zip rows basics) c.args.i) (line_at (zip rows basics) b)) test)

pub comes_before-requires-clause-place : goal.comes_before-requires-clause-place
comes_before-requires-clause-place c =
    subst (λ (r : List ℤ). c.args.e < length r) (sym (c.as_slice-row.ensures.value ∙ c.index-rows-i.is))
    (c.requires.width c.args.i c.index-rows-i.result c.requires.place)

pub comes_before-requires-clause-other : goal.comes_before-requires-clause-other
comes_before-requires-clause-other c =
    let inside : c.in-Some.b < length c.args.rows.now = subst (λ o. IfSome o (λ k. k < length c.args.rows.now)) c.in-Some.is c.requires.best in
    subst (λ (r : List ℤ). c.args.e < length r) (sym (c.as_slice.ensures.value ∙ c.index-rows-b.is))
    (c.requires.width c.in-Some.b c.index-rows-b.result inside)

pub bounds-basics-b : goal.bounds-basics-b
bounds-basics-b c =
    let inside : c.in-Some.b < length c.args.rows.now = subst (λ o. IfSome o (λ k. k < length c.args.rows.now)) c.in-Some.is c.requires.best in
    subst (λ n. c.in-Some.b < n) (sym c.requires.count) inside

pub bounds-rows-b : goal.bounds-rows-b
bounds-rows-b c = subst (λ o. IfSome o (λ k. k < length c.args.rows.now)) c.in-Some.is c.requires.best
