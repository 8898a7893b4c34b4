-- The pieces that lines need can be listed, so each best bound can be shown.
use Rattle.std.proofs.Common.{◌≡◌, ℕ, zero, suc, ◌+◌, ◌<◌, ◌≤◌, Bool, true, false, List, [], ◌∷◌, ◌++◌, length, replicate, All, refl, sym, subst, arith}
use Rattle.ct_rule_parts.specs.declared.support.Support.{Support}
use Rattle.ct_rule_parts.specs.Slot.{Slot, claim_at}
use Rattle.ct_rules.specs.Derivation.{LineValue, IsDerived}
use Rattle.ct_derive.specs.Derivation.{DerivationValue}
use Rattle.ct_derive.specs.Explanation.{IsExplanation}
use Rattle.ct_derive.specs.Pieces.{cited_places, AreEarlier, AreNeeded}
use Rattle.ct_derive.specs.Pruning.{is_marked, with_marks, ArePlacesBelow}
use Rattle.ct_derive.specs.Inside.Needed.{AreMarkedPieces}
use Rattle.ct_derive.proofs.PrunedLines.{some_at}
use Rattle.ct_derive.proofs.PlacesBelow.{below-none, below-unmarked, below-marked, below-whole}
use Rattle.ct_derive.proofs.MergedLines.{explanation_exists}
use Rattle.ct_derive.proofs.NeededPieces.{cited_within, pieces_begin, pieces_unmarked, pieces_marked, needed_from_marks}

-- marks of the pieces that lines need
pieces_exist : (parts : List (List ℕ)) (lines : List LineValue) → AreEarlier parts
    → All (λ p. p < length parts) (cited_places lines) → (marks : List Bool) × AreMarkedPieces 0 parts lines marks
pieces_exist parts lines earlier within =
    down (length parts) (omega arith) (with_marks (cited_places lines) (replicate (length parts) false))
    (pieces_begin parts lines (replicate (length parts) false) refl within)
  where
    step : (place : ℕ) → place < length parts → (marks : List Bool) → AreMarkedPieces (suc place) parts lines marks → (b : Bool)
        → is_marked marks place ≡ b → (others : List Bool) × AreMarkedPieces place parts lines others
    step place inside marks h false is =
        (marks, pieces_unmarked place parts lines marks is (subst (λ n. AreMarkedPieces n parts lines marks) (omega arith) h))
    step place inside marks h true is =
        let found = some_at parts place inside in (
          with_marks found.0 marks,
          pieces_marked place found.0 parts lines marks is found.1 (earlier place found.0 found.1)
              (subst (λ n. AreMarkedPieces n parts lines marks) (omega arith) h),
        )

    down : (place : ℕ) → place ≤ length parts → (marks : List Bool) → AreMarkedPieces place parts lines marks
        → (others : List Bool) × AreMarkedPieces 0 parts lines others
    down zero inside marks h = (marks, h)
    down (suc place) inside marks h =
        let next = step place (omega arith) marks h (is_marked marks place) refl in
        down place (omega arith) next.0 next.1

-- the marked places below a place can be listed
places_below : (marks : List Bool) (n : ℕ) → (places : List ℕ) × ArePlacesBelow n marks places
places_below marks zero = ([], below-none marks)
places_below marks (suc n) = go (is_marked marks n) refl (places_below marks n)
  where
    on : n + 1 ≡ suc n
    on = omega arith

    go : (b : Bool) → is_marked marks n ≡ b → (places : List ℕ) × ArePlacesBelow n marks places
        → (places : List ℕ) × ArePlacesBelow (suc n) marks places
    go false is (places, below) = (places, subst (λ m. ArePlacesBelow m marks places) on (below-unmarked marks places n is below))
    go true is (places, below) =
        (places ++ n ∷ [], subst (λ m. ArePlacesBelow m marks (places ++ n ∷ [])) on (below-marked marks places n is below))

-- the pieces that lines need
pub needed_exist : (parts : List (List ℕ)) (lines : List LineValue) → AreEarlier parts
    → All (λ p. p < length parts) (cited_places lines) → (places : List ℕ) × AreNeeded parts lines places
needed_exist parts lines earlier within =
    let marks = pieces_exist parts lines earlier within in
    let listed = places_below marks.0 (length marks.0) in (
      listed.0,
      needed_from_marks parts lines marks.0 listed.0 marks.1 listed.1.ascending
          (below-whole marks.0 listed.0 (length marks.0) (omega arith) listed.1),
    )

-- what is derived can be shown, with the pieces that it needs
pub shown_exists : (supports : List Support) (parts : List (List ℕ)) (s : Slot) (v : ℕ) → length parts ≡ length supports
    → AreEarlier parts → IsDerived supports (claim_at s v)
    → (d : DerivationValue) × IsExplanation supports s v d.lines × AreNeeded parts d.lines d.pieces
shown_exists supports parts s v size earlier derived =
    let explained = explanation_exists supports s v derived in
    let within = subst (λ n. All (λ p. p < n) (cited_places explained.0)) (sym size)
    (cited_within supports explained.0 explained.1.derivation) in
    let needed = needed_exist parts explained.0 earlier within in
    (record { pieces = needed.0; lines = explained.0 }, explained.1, needed.1)
