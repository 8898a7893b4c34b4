use Rattle.std.proofs.Common.{◌≡◌, ℕ, ◌+◌, ◌<◌, List, [], ◌∷◌, ◌++◌, get_or, take, take_all, sym, ap, subst, ◌∙◌, arith}
use Rattle.std.proofs.Math.Facts.{Fits-lt-pow}
use Rattle.std.proofs.lemmas.List.{take_more}
use Rattle.ct_codes.specs.declared.light.Pivot.{Pivot}
use Rattle.ct_codes.specs.Inside.Light.{reduced, ArePivots}
use Rattle.ct_codes.proofs.LightLemmas.{pivot_of, pivots-next}
use Rattle.ct_codes.proofs.light.pivots_of.Goals as goal

pub loop-basis_word-preserved : goal.loop-basis_word-preserved
loop-basis_word-preserved c =
    let basis = c.args.basis.now in
    let i = c.loop-basis_word.basis_word-index in
    let b = get_or c.args.basis.now c.loop-basis_word.basis_word-index 0 in
    let left : reduced c.loop-basis_word.pivots.items (get_or c.args.basis.now c.loop-basis_word.basis_word-index 0) ≡ c.reduced-word.result =
    sym (c.reduced-word.ensures ∙ ap (λ (ps : List Pivot). reduced ps b) c.deref.ensures.value) in
    let some : 0 < c.reduced-word.result = omega (arith, c.if-word-eq0.false) in
    let more = pivots-next c.loop-basis_word.pivots.items (take i basis) b c.reduced-word.result c.loop-basis_word.invariant
    (Fits-lt-pow (c.type_inv.basis i)) left some in
    subst (λ (ps : List Pivot). ArePivots ps (take (c.loop-basis_word.basis_word-index + 1) c.args.basis.now)) (sym c.in_ok-push.ensures.items)
    (subst (λ (front : List ℕ). ArePivots (c.loop-basis_word.pivots.items ++ pivot_of c.reduced-word.result ∷ []) front)
    (sym (take_more basis i 0 c.loop-basis_word-test.true)) more)

pub returns : goal.returns
returns c =
    let i = c.loop-basis_word.basis_word-index in
    subst (λ (front : List ℕ). ArePivots c.loop-basis_word.pivots.items front) (take_all i c.args.basis.now c.loop-basis_word-test.false)
    c.loop-basis_word.invariant
