use Rattle.std.proofs.Common.{◌≡◌, ◌==◌, ℕ, ◌<◌, Bool, true, sym, ◌∙◌, arith}
use Rattle.std.proofs.lemmas.Bool.{eqb-true}
use Rattle.ct_io.proofs.FaultsLemmas.{Rose-counted}
use Rattle.ct_io.proofs.std_sink.StdSinkSink.write.Goals as goal
use Rattle.ct_io.proofs.std_sink.StdSinkSink.write.Goals.{then-count-gt0, else-count-gt0}

-- a piece that is not empty
not_empty : (n : ℕ) (empty value : Bool) → empty ≡ (n == 0) → value ≡ empty → value ≡ true → 0 < n → ⊥
not_empty n empty value empty-is value-is passed some = omega (arith, eqb-true n 0 (sym empty-is ∙ sym value-is ∙ passed), some)

pub returns-in-Ok-clause-some : goal.returns-in-Ok-clause-some
returns-in-Ok-clause-some g c = λ some. elim c.if-count-gt0.branch [
  | then-count-gt0 w ↦ w.if-count-gt0.true
  | else-count-gt0 w ↦ absurd (not_empty _ w.is_empty.result c.if-count-gt0.value w.is_empty.ensures w.value-is c.if-is_empty.true some)
]

pub returns-in_default-clause-failed : goal.returns-in_default-clause-failed
returns-in_default-clause-failed g c = Rose-counted c.args.self.now.faults c.saturating_add-self.result c.saturating_add-self.ensures
