use Rattle.std.proofs.Common.{◌≡◌, ℕ, ◌+◌, ◌<◌, List, [], ◌∷◌, Option, Some, None, ap, refl, codes, arith}
use Rattle.std.proofs.lemmas.Fmt.{decimal_digit}
use Rattle.ct_words.specs.Entry.{constant_weight, unrestricted}
use Rattle.ct_build.specs.declared.step.Step.TheVariants.{Lengthen}
use Rattle.ct_kind.specs.declared.evidence.Evidence.{Evidence}
use Rattle.ct_kind.specs.declared.evidence.Evidence.TheVariants.{Cosets, Build}
use Rattle.ct_sample.specs.Drawn.{class_evidence, drawn_evidence, dual_of_ones}
use Rattle.ct_sample.specs.Command.{step_id}
use Rattle.ct_sample.specs.declared.command.Command.{Command}
use Rattle.ct_sample.specs.declared.command.Command.TheVariants.{Submit}
use Rattle.ct_sample.proofs.laws.known_commands.Goals as goal

-- the id of a step below 10: `s` and its digit
step_below_ten : (step : ℕ) (e : Evidence) → step < 10 → ◌≡◌ {A = Option Command} (Some (Submit (step_id step) e)) (Some (Submit (115 ∷ (48 + step) ∷ []) e))
step_below_ten step e below = ap (λ (t : List ℕ). Some (Submit (115 ∷ t) e)) (decimal_digit step below)

pub returns-clause-drawn : goal.returns-clause-drawn
returns-clause-drawn c = refl

pub returns-clause-sixty : goal.returns-clause-sixty
returns-clause-sixty c = refl

pub returns-clause-words : goal.returns-clause-words
unfolding drawn_evidence
returns-clause-words c = step_below_ten 1 (class_evidence 8 3 3) (omega arith)

pub returns-clause-classes : goal.returns-clause-classes
returns-clause-classes c = refl

pub returns-clause-cosets : goal.returns-clause-cosets
unfolding drawn_evidence
returns-clause-cosets c =
    step_below_ten 2 (Cosets (unrestricted 24 8) (0b101011100011000000000001 ∷ 0b010101110001100000000001 ∷ 0b001010111000110000000001 ∷ []) (0 ∷ [])) (omega arith)

pub returns-clause-dual : goal.returns-clause-dual
unfolding drawn_evidence
returns-clause-dual c = step_below_ten 1 (dual_of_ones 9 4) (omega arith)

pub returns-clause-build : goal.returns-clause-build
unfolding drawn_evidence
returns-clause-build c = step_below_ten 8 (Build (constant_weight 17 4 3) Lengthen (codes "s7") None) (omega arith)

pub returns-clause-withdrawal : goal.returns-clause-withdrawal
returns-clause-withdrawal c = refl

pub returns-clause-none : goal.returns-clause-none
returns-clause-none c = refl
