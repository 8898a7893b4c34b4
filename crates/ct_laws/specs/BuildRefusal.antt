-- Why a step makes no code of the codes of its parts: each reason by its plain condition, which holds where those of the reasons before it don't.
use Rattle.std.specs.Prelude.{◌≡◌, ◌⊎◌, ℕ, ◌<◌, ◌≤◌, List, [], length, Option, Some, None, option_map, IsTrue}
use Rattle.std.specs.Option.{unwrap_or}
use Rattle.ct_words.specs.declared.entry.Entry.{Entry}
use Rattle.ct_words.specs.Code.{CodeValue}
use Rattle.ct_build.specs.declared.building.TheConstants.{MAX_BUILT}
use Rattle.ct_build.specs.declared.fault.BuildFault.{BuildFault}
use Rattle.ct_build.specs.declared.fault.BuildFault.TheVariants as build
use Rattle.ct_build.specs.declared.step.Step.{Step}
use Rattle.ct_build.specs.declared.step.Step.TheVariants.{Trim}
use Rattle.ct_build.specs.Build.{shape_of, is_right_length, is_right_weight, is_right_other, distance_of, size_of, other_of, step_distance, built}
use Rattle.ct_kind.specs.declared.fault.SubmitFault.{SubmitFault}
use Rattle.ct_kind.specs.declared.fault.SubmitFault.TheVariants as fault

-- the part has the length and the weight that the step asks for
abbrev pub IsRightPart : Step → Entry → CodeValue → Type 0
IsRightPart step e part = IsTrue (is_right_length step e.n part.n) × IsTrue (is_right_weight step e.n e.w part.w)

-- the other code is such as the step asks for beside the part
abbrev pub IsRightBeside : Step → Entry → CodeValue → Option CodeValue → Type 0
IsRightBeside step e part other = IsTrue (is_right_other step e (shape_of part) (option_map shape_of other))

-- the distance that the step gives over these codes
abbrev pub distance_over : Step → CodeValue → Option CodeValue → ℕ
distance_over step part other = step_distance step part.d (distance_of (option_map shape_of other))

-- both codes are right, and the step gives the distance of the entry
abbrev pub IsWide : Step → Entry → CodeValue → Option CodeValue → Type 0
IsWide step e part other = IsRightPart step e part × IsRightBeside step e part other × (e.d ≤ distance_over step part other)

-- the number of words of the other code, where the step needs one
abbrev pub size_beside : Step → Option CodeValue → ℕ
size_beside step other = size_of (other_of step (option_map shape_of other))

-- a number above the limit, which is the first of these three
abbrev pub IsFirstAbove : ℕ → ℕ → ℕ → ℕ → Type 0
IsFirstAbove first second third count =
    (MAX_BUILT < count) × ((count ≡ first) ⊎ ((first ≤ MAX_BUILT) × ((count ≡ second) ⊎ ((second ≤ MAX_BUILT) × (count ≡ third)))))

-- the part, the other code where the step needs one, and what the step makes have no more words than the limit
abbrev pub AreFew : Step → Entry → CodeValue → Option CodeValue → Type 0
AreFew step e part other = (length part.words ≤ MAX_BUILT) × (size_beside step other ≤ MAX_BUILT) × (length (built step e part other) ≤ MAX_BUILT)

-- a trim finds enough words
abbrev pub HasEnough : Step → CodeValue → Type 0
HasEnough step part = (want : ℕ) → step ≡ Trim want → want ≤ length part.words

-- the step makes no code of these for this reason, where both are right: too small a distance; the first number of words above the limit, of the
-- part, the other code and the result; fewer words than a trim wants; no word that results
abbrev pub IsStepFault : Step → Entry → CodeValue → Option CodeValue → BuildFault → Type 0
IsStepFault step e part other (build.Short have want) =
    IsRightPart step e part × IsRightBeside step e part other × (have ≡ distance_over step part other) × (want ≡ e.d) × (have < want)
IsStepFault step e part other (build.Size count) =
    IsWide step e part other × IsFirstAbove (length part.words) (size_beside step other) (length (built step e part other)) count
IsStepFault step e part other (build.Few have want) =
    IsWide step e part other × AreFew step e part other × (step ≡ Trim want) × (have ≡ length part.words) × (have < want)
IsStepFault step e part other build.Empty = IsWide step e part other × AreFew step e part other × HasEnough step part × (built step e part other ≡ [])
IsStepFault step e part other (build.WrongPart place) = ⊥
IsStepFault step e part other build.Memory = ⊥

-- this id is that of a wrong part: of the first, whose length or weight is wrong, or else of the other
abbrev pub IsWrongPart : Step → Entry → List ℕ → Option (List ℕ) → CodeValue → Option CodeValue → List ℕ → Type 0
IsWrongPart step e part other code beside id =
    (¬ IsRightPart step e code × (id ≡ part))
    ⊎ (IsRightPart step e code × ¬ IsRightBeside step e code beside × (id ≡ unwrap_or other part))

-- evidence of kind build, with these ids and over these codes, is refused for this reason: a part whose kind has no code is a wrong part
abbrev pub IsBuildRefusal : Entry → Step → List ℕ → Option (List ℕ) → Option CodeValue → Option CodeValue → SubmitFault → Type 0
IsBuildRefusal e step part other None beside (fault.WrongPart id) = id ≡ part
IsBuildRefusal e step part other None beside reason = ⊥
IsBuildRefusal e step part other (Some code) beside (fault.WrongPart id) = IsWrongPart step e part other code beside id
IsBuildRefusal e step part other (Some code) beside (fault.Build reason) = IsStepFault step e code beside reason
IsBuildRefusal e step part other (Some code) beside reason = ⊥
