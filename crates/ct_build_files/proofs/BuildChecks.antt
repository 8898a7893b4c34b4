-- The reasons against a build in their order, and its size, where the parameters of its parts tell them.
use Rattle.std.proofs.Common.{◌≡◌, ℕ, true, List, ◌∷◌, length, Option, Some, None, is_some, option_map, refl, ap, subst, sym, ◌∙◌}
use Rattle.std.specs.Prelude.{IfSome, OnSome}
use Rattle.std.specs.Option.{option_to_list}
use Rattle.std.proofs.lemmas.Option.{none-some, same_Some}
use Rattle.ct_words.specs.declared.entry.Entry.{Entry}
use Rattle.ct_words.specs.Code.{CodeValue}
use Rattle.ct_words.specs.Pairs.{first_of}
use Rattle.ct_build.specs.declared.fault.BuildFault.{BuildFault}
use Rattle.ct_build.specs.declared.shape.Shape.{Shape}
use Rattle.ct_build.specs.declared.step.Step.{Step}
use Rattle.ct_build.specs.Build.{shape_of, result_size, told_fault}
use Rattle.ct_build.proofs.BuildFaults.{result_size-is, fault_of_shapes, none_of_shapes}
use Rattle.ct_kind.specs.Named.{NamedCode, first_missing, code_named, other_named}
use Rattle.ct_kind.specs.KindParts.{kind_reason}
use Rattle.ct_kind.specs.declared.fault.SubmitFault.TheVariants as fault
use Rattle.ct_build_files.specs.BuildKind.{build_refusal, step_reason, built_over, build_kind}

-- what has a shape is a code
pub early-coded : (first : Option CodeValue) (shape : Shape) → option_map shape_of first ≡ Some shape → is_some first ≡ true
early-coded None shape is = absurd (none-some shape is)
early-coded (Some code) shape is = refl

-- a reason that the shapes tell is one against the step
pub early_reason : (e : Entry) (step : Step) (part : List ℕ) (other : Option (List ℕ)) (first beside : Option CodeValue) (shape : Shape) (reason : BuildFault)
    → option_map shape_of first ≡ Some shape → told_fault step e shape (option_map shape_of beside) ≡ Some reason
    → step_reason e step part other first beside ≡ Some (build_refusal part other reason)
early_reason e step part other None beside shape reason is told = absurd (none-some shape is)
early_reason e step part other (Some code) beside shape reason is told =
    let same = same_Some (shape_of code) shape is in
    let early = subst (λ (s : Shape). told_fault step e s (option_map shape_of beside) ≡ Some reason) (sym same) told in
    ap (option_map (build_refusal part other)) (fault_of_shapes step e code beside reason early)

-- where they tell how many words the step makes, so many it makes
pub early_words-is : (e : Entry) (step : Step) (first beside : Option CodeValue) (shape : Shape) (size : Option ℕ)
    → option_map shape_of first ≡ Some shape → size ≡ result_size step shape (option_map shape_of beside)
    → IfSome size (λ k. option_map length (built_over e step first beside) ≡ Some k)
early_words-is e step first beside shape None is told = tt
early_words-is e step None beside shape (Some k) is told = absurd (none-some shape is)
early_words-is e step (Some code) beside shape (Some k) is told =
    let same = same_Some (shape_of code) shape is in
    ap Some (result_size-is step e code beside k (subst (λ (s : Shape). result_size step s (option_map shape_of beside) ≡ Some k) (sym same) (sym told)))

-- and there they tell that there is no reason
pub early-accepted : (e : Entry) (step : Step) (part : List ℕ) (other : Option (List ℕ)) (first beside : Option CodeValue) (shape : Shape) (size : Option ℕ)
    → option_map shape_of first ≡ Some shape → size ≡ result_size step shape (option_map shape_of beside)
    → told_fault step e shape (option_map shape_of beside) ≡ None → OnSome size (step_reason e step part other first beside ≡ None)
early-accepted e step part other first beside shape None is told none = tt
early-accepted e step part other None beside shape (Some k) is told none = absurd (none-some shape is)
early-accepted e step part other (Some code) beside shape (Some k) is told none =
    let same = same_Some (shape_of code) shape is in
    let known = subst (λ (s : Shape). result_size step s (option_map shape_of beside) ≡ Some k) (sym same) (sym told) in
    let early = subst (λ (s : Shape). told_fault step e s (option_map shape_of beside) ≡ None) (sym same) none in
    ap (option_map (build_refusal part other)) (none_of_shapes step e code beside (λ unknown. none-some k (sym unknown ∙ known)) early)

-- where each part stands, the step alone tells the reason
pub late-reason : (known : List NamedCode) (e : Entry) (step : Step) (part : List ℕ) (other : Option (List ℕ)) → first_missing known (part ∷ option_to_list other) ≡ None
    → kind_reason (build_kind e step part other) known ≡ step_reason e step part other (code_named part known) (other_named other known)
late-reason known e step part other stand =
    ap (λ (missing : Option (List ℕ)). first_of (option_map fault.NoSuch missing) ((build_kind e step part other).reason known)) stand
