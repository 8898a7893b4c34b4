-- Why a step makes no code of the codes of its parts.
use Rattle.std.proofs.Common.{◌≡◌, ℕ, ◌<◌, ◌≤◌, ◌&&◌, List, [], ◌∷◌, length, Option, Some, None, option_map, refl, sym, ap, subst, ◌∙◌, inl, inr, ◌⊎◌, arith}
use Rattle.std.proofs.lemmas.Bool.{and_parts, and_from}
use Rattle.ct_words.specs.declared.entry.Entry.{Entry}
use Rattle.ct_words.specs.Code.{CodeValue}
use Rattle.ct_words.specs.Pairs.{first_of}
use Rattle.ct_build.specs.declared.building.TheConstants.{MAX_BUILT}
use Rattle.ct_build.specs.declared.fault.BuildFault.{BuildFault}
use Rattle.ct_build.specs.declared.fault.BuildFault.TheVariants as build
use Rattle.ct_build.specs.declared.step.Step.{Step}
use Rattle.ct_build.specs.declared.step.Step.TheVariants.{Trim}
use Rattle.ct_build.specs.Build.{shape_of, is_right_length, is_right_weight, is_right_other, part_fault, other_fault, short_fault, above_limit, sizes_fault, few_fault, empty_fault, counted_fault, built, build_fault}
use Rattle.ct_kind.specs.Named.{NamedCode, code_named, other_named}
use Rattle.ct_kind.specs.declared.fault.SubmitFault.{SubmitFault}
use Rattle.ct_kind.specs.declared.fault.SubmitFault.TheVariants as fault
use Rattle.ct_laws.proofs.Says.{Says, says-also, says-map, says-first, says-above, says-unless}
use Rattle.ct_build_files.specs.BuildKind.{build_refusal, step_reason, build_kind}
use Rattle.ct_laws.specs.BuildRefusal.{IsRightPart, IsRightBeside, distance_over, size_beside, IsFirstAbove, AreFew, HasEnough, IsBuildRefusal}

-- a trim that finds too few words
abbrev IsTooFew : Step → ℕ → BuildFault → Type 0
IsTooFew step count f = (want : ℕ) × ◌≡◌ {A = BuildFault} (build.Few count want) f × (step ≡ Trim want) × (count < want)

says-few : (step : Step) (count : ℕ) → Says (few_fault step count) ((want : ℕ) → step ≡ Trim want → want ≤ count) (IsTooFew step count)
unfolding few_fault
says-few step count = record { clear = clear step; clears = clears step; told = told step; tells = tells step }
  where
    clear : (step : Step) → few_fault step count ≡ None → (want : ℕ) → step ≡ Trim want → want ≤ count
    clear step none want is =
        (says-above want count (build.Few count want)).clear (ap (λ s. few_fault s count) (sym is) ∙ none)

    clears : (step : Step) → ((want : ℕ) → step ≡ Trim want → want ≤ count) → few_fault step count ≡ None
    clears (Trim size) enough = (says-above size count (build.Few count size)).clears (enough size refl)
    clears step enough = refl

    told : (step : Step) (f : BuildFault) → few_fault step count ≡ Some f → IsTooFew step count f
    told (Trim size) f some = let both = (says-above size count (build.Few count size)).told f some in (size, both.0, refl, both.1)
    told step f some = absurd cc

    tells : (step : Step) (f : BuildFault) → IsTooFew step count f → few_fault step count ≡ Some f
    tells step f h = ap (λ s. few_fault s count) h.2 ∙ (says-above h.0 count (build.Few count h.0)).tells f (h.1, h.3)

-- no word results
says-empty : (words : List ℕ) → Says (empty_fault words) (1 ≤ length words) (λ (f : BuildFault). (build.Empty ≡ f) × (words ≡ []))
says-empty [] = record {
  clear = λ none. absurd cc;
  clears = λ some. absurd (omega arith);
  told = λ f some. (cc, refl);
  tells = λ f h. ap Some h.0;
}
says-empty (x ∷ xs) = record {
  clear = λ none. omega arith;
  clears = λ some. refl;
  told = λ f some. absurd cc;
  tells = λ f h. absurd (let empty = h.1 in cc);
}

-- the first of three numbers that is above the limit
abbrev IsTooMany : ℕ → ℕ → ℕ → BuildFault → Type 0
IsTooMany first second third f = (count : ℕ) × ◌≡◌ {A = BuildFault} (build.Size count) f × IsFirstAbove first second third count

says-three : (first second third : ℕ) → Says (first_of (above_limit first) (first_of (above_limit second) (above_limit third)))
    ((first ≤ MAX_BUILT) × (second ≤ MAX_BUILT) × (third ≤ MAX_BUILT)) (IsTooMany first second third)
says-three first second third =
    says-also
    (says-first (above_limit first) (first_of (above_limit second) (above_limit third)) (says-above first MAX_BUILT (build.Size first))
    (says-first (above_limit second) (above_limit third) (says-above second MAX_BUILT (build.Size second)) (says-above third MAX_BUILT (build.Size third))))
    (λ h. (h.0, h.1.0, h.1.1)) (λ h. (h.0, (h.1, h.2)))
    (λ f h. elim h [
      | inl one ↦ (first, one.0, (one.1, inl refl))
      | inr after ↦ elim after.1 [
        | inl two ↦ (second, two.0, (two.1, inr (after.0, inl refl)))
        | inr last ↦ (third, last.1.0, (last.1.1, inr (after.0, inr (last.0, refl))))
      ]
    ])
    (λ f h. back f h.0 h.1 h.2.0 h.2.1)
  where
    back : (f : BuildFault) (count : ℕ) → ◌≡◌ {A = BuildFault} (build.Size count) f → MAX_BUILT < count
        → (count ≡ first) ⊎ ((first ≤ MAX_BUILT) × ((count ≡ second) ⊎ ((second ≤ MAX_BUILT) × (count ≡ third))))
        → (◌≡◌ {A = BuildFault} (build.Size first) f × (MAX_BUILT < first))
        ⊎ ((first ≤ MAX_BUILT) × ((◌≡◌ {A = BuildFault} (build.Size second) f × (MAX_BUILT < second))
        ⊎ ((second ≤ MAX_BUILT) × (◌≡◌ {A = BuildFault} (build.Size third) f × (MAX_BUILT < third)))))
    back f count is many (inl one) = inl (ap build.Size (sym one) ∙ is, subst (λ (k : ℕ). MAX_BUILT < k) one many)
    back f count is many (inr (few, inl two)) = inr (few, inl (ap build.Size (sym two) ∙ is, subst (λ (k : ℕ). MAX_BUILT < k) two many))
    back f count is many (inr (few, inr (fewer, three))) = inr (few, inr (fewer, (ap build.Size (sym three) ∙ is, subst (λ (k : ℕ). MAX_BUILT < k) three many)))

-- each reason by itself
abbrev IsAtPart : Step → Entry → CodeValue → BuildFault → Type 0
IsAtPart step e part f = ◌≡◌ {A = BuildFault} (build.WrongPart 0) f × ¬ IsRightPart step e part

abbrev IsAtOther : Step → Entry → CodeValue → Option CodeValue → BuildFault → Type 0
IsAtOther step e part other f = ◌≡◌ {A = BuildFault} (build.WrongPart 1) f × ¬ IsRightBeside step e part other

abbrev IsAtDistance : Step → Entry → CodeValue → Option CodeValue → BuildFault → Type 0
IsAtDistance step e part other f = ◌≡◌ {A = BuildFault} (build.Short (distance_over step part other) e.d) f × (distance_over step part other < e.d)

abbrev IsAtEnd : Step → Entry → CodeValue → Option CodeValue → BuildFault → Type 0
IsAtEnd step e part other f = ◌≡◌ {A = BuildFault} build.Empty f × (built step e part other ≡ [])

-- the reasons that are told before the last, in their order, and that none of them holds
abbrev IsCounted : Step → Entry → CodeValue → Option CodeValue → BuildFault → Type 0
IsCounted step e part other f =
    IsAtPart step e part f
    ⊎ (IsRightPart step e part × (IsAtOther step e part other f
    ⊎ (IsRightBeside step e part other × (IsAtDistance step e part other f
    ⊎ ((e.d ≤ distance_over step part other) × (IsTooMany (length part.words) (size_beside step other) (length (built step e part other)) f
    ⊎ (AreFew step e part other × IsTooFew step (length part.words) f)))))))

abbrev IsUncounted : Step → Entry → CodeValue → Option CodeValue → Type 0
IsUncounted step e part other =
    IsRightPart step e part × (IsRightBeside step e part other × ((e.d ≤ distance_over step part other) × (AreFew step e part other × HasEnough step part)))

says-counted : (step : Step) (e : Entry) (part : CodeValue) (other : Option CodeValue)
    → Says (counted_fault step e (shape_of part) (option_map shape_of other) (length (built step e part other))) (IsUncounted step e part other) (IsCounted step e part other)
unfolding sizes_fault
says-counted step e part other =
    let beside = option_map shape_of other in
    let count = length (built step e part other) in
    let sizes = sizes_fault step (shape_of part) beside count in
    let few = few_fault step (length part.words) in
    let short = short_fault (distance_over step part other) e.d in
    says-first (part_fault step e (shape_of part)) (first_of (other_fault step e (shape_of part) beside) (first_of short (first_of sizes few)))
    (says-unless (is_right_length step e.n part.n && is_right_weight step e.n e.w part.w) (build.WrongPart 0)
    (and_parts (is_right_length step e.n part.n) (is_right_weight step e.n e.w part.w))
    (λ right. and_from (is_right_length step e.n part.n) (is_right_weight step e.n e.w part.w) right.0 right.1))
    (says-first (other_fault step e (shape_of part) beside) (first_of short (first_of sizes few))
    (says-unless (is_right_other step e (shape_of part) beside) (build.WrongPart 1) (λ right. right) (λ right. right))
    (says-first short (first_of sizes few) (says-above e.d (distance_over step part other) (build.Short (distance_over step part other) e.d))
    (says-first sizes few (says-three (length part.words) (size_beside step other) count) (says-few step (length part.words)))))

-- a step over codes against which there is no reason
abbrev IsFaultless : Step → Entry → CodeValue → Option CodeValue → Type 0
IsFaultless step e part other = IsUncounted step e part other × (1 ≤ length (built step e part other))

says-step : (step : Step) (e : Entry) (part : CodeValue) (other : Option CodeValue)
    → Says (build_fault step e part other) (IsFaultless step e part other) (λ f. IsCounted step e part other f ⊎ (IsUncounted step e part other × IsAtEnd step e part other f))
unfolding build_fault
says-step step e part other =
    says-first (counted_fault step e (shape_of part) (option_map shape_of other) (length (built step e part other))) (empty_fault (built step e part other))
    (says-counted step e part other) (says-empty (built step e part other))

-- what each comes to for the ids
step-fault : (e : Entry) (step : Step) (part : List ℕ) (other : Option (List ℕ)) (code : CodeValue) (beside : Option CodeValue) (f : BuildFault)
    → IsCounted step e code beside f ⊎ (IsUncounted step e code beside × IsAtEnd step e code beside f) → IsBuildRefusal e step part other (Some code) beside (build_refusal part other f)
step-fault e step part other code beside f (inl counted) = elim counted [
  | inl first ↦ subst (λ g. IsBuildRefusal e step part other (Some code) beside (build_refusal part other g)) first.0 (inl (first.1, refl))
  | inr after ↦ elim after.1 [
    | inl second ↦ subst (λ g. IsBuildRefusal e step part other (Some code) beside (build_refusal part other g)) second.0 (inr (after.0, second.1, refl))
    | inr later ↦ elim later.1 [
      | inl short ↦ subst (λ g. IsBuildRefusal e step part other (Some code) beside (build_refusal part other g)) short.0 (after.0, later.0, refl, refl, short.1)
      | inr wide ↦ elim wide.1 [
        | inl many ↦ subst (λ g. IsBuildRefusal e step part other (Some code) beside (build_refusal part other g)) many.1 ((after.0, later.0, wide.0), many.2)
        | inr last ↦ subst (λ g. IsBuildRefusal e step part other (Some code) beside (build_refusal part other g)) last.1.1
            ((after.0, later.0, wide.0), last.0, last.1.2, refl, last.1.3)
      ]
    ]
  ]
]
step-fault e step part other code beside f (inr (right, end)) =
    subst (λ g. IsBuildRefusal e step part other (Some code) beside (build_refusal part other g)) end.0
    ((right.0, right.1.0, right.1.1.0), right.1.1.1.0, right.1.1.1.1, end.1)

-- and back
fault-step : (e : Entry) (step : Step) (part : List ℕ) (other : Option (List ℕ)) (code : CodeValue) (beside : Option CodeValue) (reason : SubmitFault)
    → IsBuildRefusal e step part other (Some code) beside reason
    → (f : BuildFault) × ◌≡◌ {A = SubmitFault} (build_refusal part other f) reason
    × (IsCounted step e code beside f ⊎ (IsUncounted step e code beside × IsAtEnd step e code beside f))
fault-step e step part other code beside (fault.WrongPart id) (inl (wrong, is)) = (build.WrongPart 0, ap fault.WrongPart (sym is), inl (inl (refl, wrong)))
fault-step e step part other code beside (fault.WrongPart id) (inr (right, wrong, is)) =
    (build.WrongPart 1, ap fault.WrongPart (sym is), inl (inr (right, inl (refl, wrong))))
fault-step e step part other code beside (fault.Build (build.Short have want)) h = (
  build.Short have want,
  refl,
  inl (inr (
    h.0,
    inr (
      h.1,
      inl (
        ap (λ (k : ℕ). build.Short k e.d) (sym h.2) ∙ ap (build.Short have) (sym h.3),
        subst (λ (k : ℕ). k < e.d) h.2 (subst (λ (k : ℕ). have < k) h.3 h.4),
      ),
    ),
  )),
)
fault-step e step part other code beside (fault.Build (build.Size count)) h =
    (build.Size count, refl, inl (inr (h.0.0, inr (h.0.1, inr (h.0.2, inl (count, refl, h.1))))))
fault-step e step part other code beside (fault.Build (build.Few have want)) h = (
  build.Few have want,
  refl,
  inl (inr (h.0.0, inr (h.0.1, inr (h.0.2, inr (h.1, (want, ap (λ (k : ℕ). build.Few k want) (sym h.3), h.2, subst (λ (k : ℕ). k < want) h.3 h.4)))))),
)
fault-step e step part other code beside (fault.Build build.Empty) h =
    (build.Empty, refl, inr ((h.0.0, (h.0.1, (h.0.2, (h.1, h.2)))), (refl, h.3)))
fault-step e step part other code beside (fault.Build (build.WrongPart place)) h = absurd h
fault-step e step part other code beside (fault.Build build.Memory) h = absurd h
fault-step e step part other code beside reason h = absurd h

-- what is asked of a build without the order of its reasons
abbrev IsRightOver : Entry → Step → Option CodeValue → Option CodeValue → Type 0
IsRightOver e step None beside = ⊥
IsRightOver e step (Some code) beside = IsFaultless step e code beside

says-over : (e : Entry) (step : Step) (part : List ℕ) (other : Option (List ℕ)) (first beside : Option CodeValue)
    → Says (step_reason e step part other first beside) (IsRightOver e step first beside) (IsBuildRefusal e step part other first beside)
says-over e step part other None beside = record {
  clear = λ none. absurd cc;
  clears = λ right. absurd right;
  told = λ reason some. let is : fault.WrongPart part ≡ reason = cc in subst (IsBuildRefusal e step part other None beside) is refl;
  tells = λ reason h. back reason h;
}
  where
    back : (reason : SubmitFault) → IsBuildRefusal e step part other None beside reason → Some (fault.WrongPart part) ≡ Some reason
    back (fault.WrongPart id) is = ap (λ (i : List ℕ). Some (fault.WrongPart i)) (sym is)
    back reason h = absurd h
says-over e step part other (Some code) beside =
    says-also (says-map (build_refusal part other) (build_fault step e code beside) (says-step step e code beside)) (λ right. right) (λ right. right)
    (λ reason h. subst (IsBuildRefusal e step part other (Some code) beside) h.1 (step-fault e step part other code beside h.0 h.2))
    (fault-step e step part other code beside)

-- evidence of kind build
pub build-reasons : (known : List NamedCode) (e : Entry) (step : Step) (part : List ℕ) (other : Option (List ℕ))
    → Says ((build_kind e step part other).reason known) (IsRightOver e step (code_named part known) (other_named other known))
    (IsBuildRefusal e step part other (code_named part known) (other_named other known))
build-reasons known e step part other = says-over e step part other (code_named part known) (other_named other known)
