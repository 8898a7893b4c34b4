-- Builds over pieces that stand: what is known of them at their places, and what their steps make there.
use Rattle.std.proofs.Common.{◌≡◌, ℕ, ◌<◌, true, false, List, ◌∷◌, length, take, get_or, Option, Some, None, is_some, option_map, refl, sym, ap, ap₂, subst, ◌∙◌}
use Rattle.std.specs.Prelude.{IfSome}
use Rattle.std.specs.Option.{option_to_list}
use Rattle.std.proofs.lemmas.List.Sorted.{length_permutation}
use Rattle.ct_words.specs.declared.entry.Entry.{Entry}
use Rattle.ct_words.specs.Code.{CodeValue}
use Rattle.ct_build.specs.declared.step.Step.{Step}
use Rattle.ct_build.specs.Build.{FitsStated}
use Rattle.ct_build_files.specs.BuildKind.{step_reason, built_over}
use Rattle.ct_build_files.proofs.BuildKind.{step_reason-none}
use Rattle.ct_build_files.proofs.BuildChecks.{late-reason}
use Rattle.ct_kind.specs.Ascending.{code_at, ascending}
use Rattle.ct_kind.specs.declared.evidence.Evidence.TheVariants.{Build}
use Rattle.ct_kind.specs.Named.{NamedCode, first_missing, code_named, other_named}
use Rattle.ct_kind.proofs.AscendingLemmas.{ascending-moved}
use Rattle.ct_files.specs.ByKind.{own_reason, size_over}
use Rattle.ct_files.specs.ByKind.{evidence_reason}
use Rattle.ct_piece.specs.Piece.{PieceValue, place_of_id}
use Rattle.ct_files.specs.ByKind.{code_over}
use Rattle.ct_piece.specs.Codes.{codes_of}
use Rattle.ct_files.specs.ByKind.{is_kept, kept_over}
use Rattle.ct_piece.specs.Inside.Kept.{kept_codes, AreKept, code_there, code_found, other_place}
use Rattle.ct_piece.proofs.KeptLemmas.{kept_over-none, length-kept_codes, kept-length, kept-stays}
use Rattle.ct_files.proofs.StatedByKind.{IsRight, right-own}
use Rattle.ct_pieces.proofs.PartLemmas.{IsPlaced, kept-here, found-before, found-named, found-other}

-- a code may be kept for each piece
pub kept-within : (kept : List (Option CodeValue)) (ps : List PieceValue) (k : ℕ) → AreKept kept (kept_codes ps) → k < length ps → k < length kept
kept-within kept ps k h below = rw (kept-length kept (kept_codes ps) h, length-kept_codes ps) below

pub kept-long : (kept : List (Option CodeValue)) (ps : List PieceValue) → AreKept kept (kept_codes ps) → length kept ≡ length ps
kept-long kept ps h = kept-length kept (kept_codes ps) h ∙ length-kept_codes ps

-- its step fits its entry, and its part has a code
pub build-placed : (ps : List PieceValue) (k : ℕ) (p : PieceValue) (e : Entry) (step : Step) (part : List ℕ) (other : Option (List ℕ)) → IsPlaced ps k p
    → p.evidence ≡ Build e step part other → FitsStated step e × (is_some (code_named part (codes_of (take k ps))) ≡ true)
build-placed ps k p e step part other at is =
    let known = codes_of (take k ps) in
    let right = subst (IsRight known) is at.right in
    let own = step_reason-none e step part other (code_named part known) (other_named other known) (right-own known (Build e step part other) right) in
    (right.sound.0, ap is_some own.is)

-- what its step makes is what is to be kept at its place
pub build-there : (ps : List PieceValue) (k : ℕ) (p : PieceValue) (e : Entry) (step : Step) (part : List ℕ) (other : Option (List ℕ)) (code : CodeValue)
    → k < length ps → p ≡ get_or ps k p → p.evidence ≡ Build e step part other → code_over (codes_of (take k ps)) (Build e step part other) ≡ Some code
    → code_there (kept_codes ps) k ≡ Some code
build-there ps k p e step part other code below here is made =
    kept-here ps k p below here ∙ ap (kept_over (codes_of (take k ps))) is ∙ made

-- nothing is to be kept where there is none
pub none-there : (ps : List PieceValue) (k : ℕ) (p : PieceValue) → k < length ps → p ≡ get_or ps k p → is_kept p.evidence ≡ false
    → code_there (kept_codes ps) k ≡ None
none-there ps k p below here none = kept-here ps k p below here ∙ kept_over-none (codes_of (take k ps)) p.evidence none

-- a part that is found before a place is a piece
pub part-within : (id : List ℕ) (ps : List PieceValue) (k : ℕ) → IfSome (place_of_id id (take k ps)) (λ i. i < length ps)
part-within id ps k = at (place_of_id id (take k ps)) (λ i is. (found-before id ps k i is).1) where
  at : (o : Option ℕ) → ((i : ℕ) → o ≡ Some i → i < length ps) → IfSome o (λ i. i < length ps)
  at None h = tt
  at (Some i) h = h i refl

pub other-within : (other : Option (List ℕ)) (ps : List PieceValue) (k : ℕ) → IfSome (other_place other (take k ps)) (λ i. i < length ps)
other-within None ps k = tt
other-within (Some id) ps k = part-within id ps k

-- what the step makes of the codes that are found for its parts, and what is against it
pub found-code : (ps : List PieceValue) (k : ℕ) (e : Entry) (step : Step) (part : List ℕ) (other : Option (List ℕ)) (first beside : Option CodeValue)
    → first ≡ code_found ps (place_of_id part (take k ps)) → beside ≡ code_found ps (other_place other (take k ps))
    → (code_over (codes_of (take k ps)) (Build e step part other) ≡ option_map (code_at e) (built_over e step first beside))
    × (own_reason (codes_of (take k ps)) (Build e step part other) ≡ step_reason e step part other first beside)
found-code ps k e step part other first beside one two =
    let known = codes_of (take k ps) in
    let same : code_named part known ≡ first = found-named part ps k ∙ sym one in
    let also : other_named other known ≡ beside = found-other other ps k ∙ sym two in (
      ap₂ (λ (f o : Option CodeValue). option_map (code_at e) (built_over e step f o)) same also,
      ap₂ (step_reason e step part other) same also,
    )

-- a part that has a code is found, with its code
pub found-coded : (id : List ℕ) (ps : List PieceValue) (k : ℕ) → is_some (code_named id (codes_of (take k ps))) ≡ true
    → is_some (code_found ps (place_of_id id (take k ps))) ≡ true
found-coded id ps k some = ap is_some (sym (found-named id ps k)) ∙ some

-- the code that a build makes has the size that is said of it
sized : (e : Entry) (words : Option (List ℕ)) (code : CodeValue) → option_map (code_at e) words ≡ Some code → option_map length words ≡ Some (length code.words)
sized e None code is = absurd cc
sized e (Some words) code is =
    let same : code_at e words ≡ code = cc in
    let long : length (ascending words) ≡ length words = length_permutation words (ascending words) (ascending-moved words) in
    ap Some (sym long ∙ ap (λ (c : CodeValue). length c.words) same)

pub code-sized : (known : List NamedCode) (e : Entry) (step : Step) (part : List ℕ) (other : Option (List ℕ)) (code : CodeValue)
    → code_over known (Build e step part other) ≡ Some code → size_over known (Build e step part other) ≡ Some (length code.words)
code-sized known e step part other code is = sized e (built_over e step (code_named part known) (other_named other known)) code is

-- where its parts stand, what is against a build is what is against its step
pub reason-own : (known : List NamedCode) (e : Entry) (step : Step) (part : List ℕ) (other : Option (List ℕ)) → first_missing known (part ∷ option_to_list other) ≡ None
    → evidence_reason known (Build e step part other) ≡ own_reason known (Build e step part other)
reason-own known e step part other stand = late-reason known e step part other stand

-- where all that may be kept at a place that was found is, it stays so
pub stays-found : (found : Option ℕ) (kept more codes : List (Option CodeValue)) → AreKept kept more → AreKept more codes
    → IfSome found (λ i. code_there kept i ≡ code_there codes i) → IfSome found (λ i. code_there more i ≡ code_there codes i)
stays-found None kept more codes first second same = tt
stays-found (Some i) kept more codes first second same = kept-stays kept more codes i first second same
