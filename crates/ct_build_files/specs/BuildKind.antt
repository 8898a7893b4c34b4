-- Evidence of kind build: the words that a step makes of the codes of pieces that stand, its parts.
use Rattle.std.specs.Prelude.{ℕ, zero, suc, true, List, ◌∷◌, length, Option, Some, None, option_map, codes}
use Rattle.std.specs.Option.{option_to_list, unwrap_or}
use Rattle.ct_words.specs.declared.entry.Entry.{Entry}
use Rattle.ct_words.specs.Code.{CodeValue}
use Rattle.ct_build.specs.declared.fault.BuildFault.{BuildFault}
use Rattle.ct_build.specs.declared.fault.BuildFault.TheVariants as build
use Rattle.ct_build.specs.declared.step.Step.{Step}
use Rattle.ct_build.specs.Build.{built, build_fault}
use Rattle.ct_kind.specs.Named.{code_named, other_named}
use Rattle.ct_kind.specs.KindParts.{KindParts, support_from}
use Rattle.ct_kind.specs.declared.fault.SubmitFault.{SubmitFault}
use Rattle.ct_kind.specs.declared.fault.SubmitFault.TheVariants as fault

-- why the step is refused over parts of these ids: a wrong part by its id, and every other reason as it is
abbrev pub build_refusal : List ℕ → Option (List ℕ) → BuildFault → SubmitFault
build_refusal part other (build.WrongPart zero) = fault.WrongPart part
build_refusal part other (build.WrongPart (suc i)) = fault.WrongPart (unwrap_or other part)
build_refusal part other reason = fault.Build reason

-- the first reason against the step over the codes of its parts; a part whose kind has no code is a wrong part
abbrev pub step_reason : Entry → Step → List ℕ → Option (List ℕ) → Option CodeValue → Option CodeValue → Option SubmitFault
step_reason e step part other None beside = Some (fault.WrongPart part)
step_reason e step part other (Some code) beside = option_map (build_refusal part other) (build_fault step e code beside)

-- the words that the step makes of the codes of its parts
abbrev pub built_over : Entry → Step → Option CodeValue → Option CodeValue → Option (List ℕ)
built_over e step first beside = option_map (λ code. built step e code beside) first

-- the code is what the step makes, whose words are stored
abbrev pub build_kind : Entry → Step → List ℕ → Option (List ℕ) → KindParts
build_kind e step part other = record {
  text = codes "build";
  entry = e;
  parts = part ∷ option_to_list other;
  reason = λ known. step_reason e step part other (code_named part known) (other_named other known);
  words = λ known. built_over e step (code_named part known) (other_named other known);
  size = λ known. option_map length (built_over e step (code_named part known) (other_named other known));
  has_code = true;
  partition = None;
  listed = 0;
  is_stored = true;
  gives = support_from e;
}
