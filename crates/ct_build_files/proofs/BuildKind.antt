-- Evidence of kind build.
use Rattle.std.proofs.Common.{◌≡◌, ℕ, ◌≤◌, true, List, [], ◌∷◌, length, Option, Some, None, is_some, option_map, refl, sym, ap, ap₂, subst}
use Rattle.std.specs.Prelude.{IfSome}
use Rattle.std.specs.List.{list_any}
use Rattle.std.specs.Option.{option_to_list, MatchOption}
use Rattle.std.specs.Str.{bytes_eq}
use Rattle.ct_words.specs.declared.entry.Entry.{Entry}
use Rattle.ct_words.specs.Entry.{IsEntry}
use Rattle.ct_words.specs.Code.{CodeValue, IsCode, IsCodeOf, IsSoundCode}
use Rattle.ct_build.specs.declared.step.Step.{Step}
use Rattle.ct_build.specs.Build.{FitsStated, build_fault, IsRightBuild}
use Rattle.ct_build.proofs.RightBuilds.{right_from, none_from}
use Rattle.ct_build.proofs.StepLemmas.{ready}
use Rattle.ct_build.proofs.BuiltCodes.{built_code}
use Rattle.ct_build.proofs.BuildFaults.{early_none, built-size}
use Rattle.ct_rule_parts.specs.Support.{Stands}
use Rattle.ct_kind.specs.Named.{NamedCode, code_named, other_named}
use Rattle.ct_kind.specs.KindParts.{support_from}
use Rattle.ct_build_files.specs.BuildKind.{build_refusal, step_reason, built_over, build_kind}
use Rattle.ct_kind.specs.Sound.{AreSound}
use Rattle.ct_kind.proofs.Stating.{option_map-none, StatesWell, SaysSame, IsAlike}
use Rattle.ct_kind.proofs.NamedLemmas.{or-later, bytes_eq-same, named-sound}
use Rattle.ct_kind.proofs.SizeLemmas.{size-stands}

-- a step against which there is no reason has the code of its part, and finds nothing against it
pub record IsRightStep (e : Entry) (step : Step) (first beside : Option CodeValue) : Type 0 where
  pub code : CodeValue
  pub is : first ≡ Some code
  pub faultless : build_fault step e code beside ≡ None

pub step_reason-none : (e : Entry) (step : Step) (part : List ℕ) (other : Option (List ℕ)) (first beside : Option CodeValue)
    → step_reason e step part other first beside ≡ None → IsRightStep e step first beside
step_reason-none e step part other None beside h = absurd cc
step_reason-none e step part other (Some code) beside h =
    record { code = code; is = refl; faultless = option_map-none (build_refusal part other) (build_fault step e code beside) h }

sound-code : (found : Option CodeValue) → IfSome found IsSoundCode → IfSome found (λ o. IsCode o.n o.d o.w o.words)
sound-code None h = tt
sound-code (Some c) h = h.code

other-sound : (other : Option (List ℕ)) (known : List NamedCode) → AreSound known → IfSome (other_named other known) (λ o. IsCode o.n o.d o.w o.words)
other-sound None known sound = tt
other-sound (Some id) known sound = sound-code (code_named id known) (named-sound id known sound)

-- what a right step makes of codes that are ones
states : (e : Entry) (step : Step) (first beside : Option CodeValue) (right : IsRightStep e step first beside) → FitsStated step e → IfSome first IsSoundCode
    → IfSome beside (λ o. IsCode o.n o.d o.w o.words) → IfSome (built_over e step first beside) (λ ws. (1 ≤ length ws) × IsCodeOf e ws)
states e step first beside right fits sound other =
    let part = subst (λ (o : Option CodeValue). IfSome o IsSoundCode) right.is sound in
    let early = early_none step e right.code beside right.faultless in
    let code = built_code step e right.code beside fits (ready step e right.code beside early.0) part.code other in
    let size = built-size step e right.code beside right.faultless in
    subst (λ (o : Option CodeValue). IfSome (built_over e step o beside) (λ ws. (1 ≤ length ws) × IsCodeOf e ws)) (sym right.is) (size.0, code)

built-some : (e : Entry) (step : Step) (first beside : Option CodeValue) → IsRightStep e step first beside → is_some (built_over e step first beside) ≡ true
built-some e step first beside right = ap (λ (o : Option CodeValue). is_some (built_over e step o beside)) right.is

size-gives : (e : Entry) (words : Option (List ℕ)) → IsEntry e → is_some words ≡ true → IfSome words (λ ws. (1 ≤ length ws) × IsCodeOf e ws)
    → Stands (support_from e (option_map length words))
size-gives e None entry some code = absurd cc
size-gives e (Some words) entry some code = size-stands e words entry code.0 code.1

-- the first part has a code, and the step is right over it and the other code
build-right : (e : Entry) (step : Step) (first beside : Option CodeValue) → IsRightStep e step first beside → MatchOption first ⊥ (λ code. IsRightBuild step e code beside)
build-right e step first beside right =
    subst (λ (o : Option CodeValue). MatchOption o ⊥ (λ code. IsRightBuild step e code beside)) (sym right.is) (right_from step e right.code beside right.faultless)

-- so a build against which there is no reason is what is asked
pub build_checked : (e : Entry) (step : Step) (part : List ℕ) (other : Option (List ℕ)) (first beside : Option CodeValue) → step_reason e step part other first beside ≡ None
    → MatchOption first ⊥ (λ code. IsRightBuild step e code beside)
build_checked e step part other first beside none = build-right e step first beside (step_reason-none e step part other first beside none)

-- a build against which there is no reason states a code
pub build_states : (known : List NamedCode) (e : Entry) (step : Step) (part : List ℕ) (other : Option (List ℕ)) → AreSound known → FitsStated step e
    → (build_kind e step part other).reason known ≡ None
    → StatesWell (build_kind e step part other) known (MatchOption (code_named part known) ⊥ (λ code. IsRightBuild step e code (other_named other known)))
build_states known e step part other sound fits own =
    let first = code_named part known in
    let beside = other_named other known in
    let right = step_reason-none e step part other first beside own in
    let code = states e step first beside right fits (named-sound part known sound) (other-sound other known sound) in
    let some = built-some e step first beside right in
    record {
      entry = fits.entry;
      checked = build-right e step first beside right;
      coded = some;
      code = code;
      size = λ yes. refl;
      partition = tt;
      stands = size-gives e (built_over e step first beside) fits.entry some code;
    }

-- a build whose step is right has no reason against it
pub build_accepted : (e : Entry) (step : Step) (part : List ℕ) (other : Option (List ℕ)) (first beside : Option CodeValue) → MatchOption first ⊥ (λ code. IsRightBuild step e code beside)
    → step_reason e step part other first beside ≡ None
build_accepted e step part other None beside h = absurd h
build_accepted e step part other (Some code) beside h = ap (option_map (build_refusal part other)) (none_from step e code beside h)

-- a build is the same over codes that are the same for its parts
pub build_same : (e : Entry) (step : Step) (part : List ℕ) (other : Option (List ℕ)) (left right : List NamedCode)
    → ((id : List ℕ) → list_any (λ p. bytes_eq p id) (part ∷ option_to_list other) ≡ true → IsAlike id left right)
    → SaysSame (build_kind e step part other) left right
build_same e step part other left right same =
    let first = (same part (at-first part (option_to_list other))).code in
    let second = others other (λ id is. (same id (later id is)).code) in
    record {
      reason = ap₂ (step_reason e step part other) first second;
      words = ap₂ (built_over e step) first second;
      size = ap₂ (λ (f s : Option CodeValue). option_map length (built_over e step f s)) first second;
    }
  where
    at-first : (id : List ℕ) (ids : List (List ℕ)) → list_any (λ p. bytes_eq p id) (id ∷ ids) ≡ true
    at-first id ids = rw (bytes_eq-same id) refl

    later : (id : List ℕ) → list_any (λ p. bytes_eq p id) (option_to_list other) ≡ true → list_any (λ p. bytes_eq p id) (part ∷ option_to_list other) ≡ true
    later id is = or-later (bytes_eq part id) (list_any (λ p. bytes_eq p id) (option_to_list other)) is

    others : (o : Option (List ℕ)) → ((id : List ℕ) → list_any (λ p. bytes_eq p id) (option_to_list o) ≡ true → code_named id left ≡ code_named id right)
        → other_named o left ≡ other_named o right
    others None h = refl
    others (Some id) h = h id (at-first id [])
