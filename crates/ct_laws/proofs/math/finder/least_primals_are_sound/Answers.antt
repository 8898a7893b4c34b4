use Rattle.ct_finder.proofs.RunShown.{primal-form, solved-of, primal-sound, primal-value}
use Rattle.ct_laws.proofs.math.finder.least_primals_are_sound.Goals as goal

pub returns : goal.returns
returns c = record {
  form = primal-form;
  sound = λ number e even pivots last some ends. primal-sound number e even last (solved-of number e even pivots last some ends);
  value = λ number e even pivots last some one ends. primal-value number e even last one (solved-of number e even pivots last some ends);
}
