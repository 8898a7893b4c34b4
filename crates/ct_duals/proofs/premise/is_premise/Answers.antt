-- One more index.
use Rattle.std.proofs.Common.{rules, ◌≡◌, ◌≢◌, ◌+◌, ◌↔◌, Contains, drop, get_or, sym, ◌∙◌, subst, refl, arith}
use Rattle.std.specs.Prelude.{pos, int_lt, true, false}
use Rattle.std.proofs.lemmas.Bool.{false≢true}
use Rattle.std.proofs.lemmas.Int.{to_z-of_z}
use Rattle.std.proofs.lemmas.List.{drop_more}
use mir.Val.{SFits}
use mir.Syntax.{w64}
use Rattle.ct_words.specs.Entry.{same_entry, constant_weight}
use Rattle.ct_words.proofs.EntryLemmas.{same_entry_is, same_entry-self}
use Rattle.ct_words.specs.Constructions.Even.{even_from}
use Rattle.ct_duals.specs.Dual.{as_distance}
use Rattle.ct_duals.proofs.Premises.{premises, entry_test, among-first, among-others, among-none}
use Rattle.ct_duals.proofs.premise.is_premise.Goals as goal
use Rattle.ct_duals.proofs.premise.is_premise.Goals.{else-number-gt0-via-then-number-gt0+else-eq, else-number-gt0-via-else-number-gt0}

pub premise_at-requires-clause-index : goal.premise_at-requires-clause-index
premise_at-requires-clause-index c = c.requires.indices c.loop-i.i-index (0, pos 0) c.loop-i-test.true

pub returns-then-eq : goal.returns-then-eq
returns-then-eq c =
    let e = c.args.entry in
    let y = c.args.y.now in
    let p = get_or y c.loop-i.i-index (0, pos 0) in
    let rest = drop (c.loop-i.i-index + 1) y in
    let more = drop_more y c.loop-i.i-index (0, pos 0) c.loop-i-test.true in
    let f : SFits w64 p.1 = search rules in
    let some : int_lt (pos 0) p.1 ≡ true = grind (arith, to_z-of_z, c.if-number-gt0.true) in
    let is = sym c.premise_at.ensures ∙ same_entry_is c.premise_at.result c.args.other (sym (entry_test c.premise_at.result c.args.other) ∙ sym c.eq.ensures ∙ c.if-eq.true) in (
      λ yes. c.loop-i.invariant.1 (subst (λ ys. Contains (premises e ys) c.args.other) (sym more) (among-first e c.args.other p rest some is)),
      λ there. refl,
    )

pub loop-i-preserved : goal.loop-i-preserved
loop-i-preserved c =
    let e = c.args.entry in
    let y = c.args.y.now in
    let p = get_or y c.loop-i.i-index (0, pos 0) in
    let rest = drop (c.loop-i.i-index + 1) y in
    let more = drop_more y c.loop-i.i-index (0, pos 0) c.loop-i-test.true in
    let f : SFits w64 p.1 = search rules in
    let was = subst (λ ys. Contains (premises e y) c.args.other ↔ Contains (premises e ys) c.args.other) more c.loop-i.invariant in
    elim c.else-number-gt0.branch [
      | else-number-gt0-via-then-number-gt0+else-eq w ↦
          let some : int_lt (pos 0) p.1 ≡ true = grind (arith, to_z-of_z, w.if-number-gt0.true) in
          let differs : same_entry w.premise_at.result c.args.other ≡ false = sym (entry_test w.premise_at.result c.args.other) ∙ sym w.eq.ensures ∙ w.if-eq.false in
          let other : constant_weight e.n (even_from e.d) (as_distance e.w p.0) ≢ c.args.other =
          λ is. false≢true (sym (subst (λ g. same_entry w.premise_at.result g ≡ false) (sym (w.premise_at.ensures ∙ is)) differs) ∙ same_entry-self w.premise_at.result) in
          let step = among-others e c.args.other p rest some other in
          (λ there. step.0 (was.0 there), λ there. was.1 (step.1 there))
      | else-number-gt0-via-else-number-gt0 w ↦
          let none : int_lt (pos 0) p.1 ≡ false = grind (arith, to_z-of_z, w.if-number-gt0.false) in
          let step = among-none e c.args.other p rest none in
          (λ there. step.0 (was.0 there), λ there. was.1 (step.1 there))
    ]
