-- The parts of a piece that stands are before it.
use Rattle.std.proofs.Common.{◌≡◌, ◌≢◌, ℕ, zero, suc, ◌<◌, Bool, true, false, ◌||◌, List, [], ◌∷◌, take, Some, All, refl, sym, ap, subst, ◌∙◌, arith}
use Rattle.std.specs.Prelude.{AllPairs, slice_get}
use Rattle.std.specs.List.{list_any}
use Rattle.std.specs.Str.{bytes_eq}
use Rattle.std.proofs.lemmas.List.Elements.{All-head, All-tail}
use Rattle.std.proofs.lemmas.Option.{none-some, same_Some, slice_get_within, get_or_from_slice_get}
use Rattle.std.proofs.lemmas.Slice.Eq.{bytes_eq-Decides}
use Rattle.ct_kind.specs.Named.{is_known}
use Rattle.ct_files.specs.ByKind.{ids_of_parts, names}
use Rattle.ct_piece.specs.Piece.{PieceValue, has_id}
use Rattle.ct_piece.specs.Codes.{codes_of}
use Rattle.ct_piece.specs.Standing.{AreStanding}
use Rattle.ct_piece.proofs.CodeLemmas.{known_where_taken}
use Rattle.ct_files.proofs.StatedByKind.{IsRight, right-parts}
use Rattle.ct_piece.proofs.MakingLemmas.{none_missing, right_at}

-- what holds of each id holds of one that is among them
named_part : (P : List ℕ → Type 0) (ids : List (List ℕ)) (id : List ℕ) → All P ids → list_any (λ (part : List ℕ). bytes_eq part id) ids ≡ true → P id
named_part P [] id h is = absurd cc
named_part P (part ∷ ids) id h is = at (bytes_eq part id) refl is (named_part P ids id (All-tail P part ids h)) where
  at : (b : Bool) → bytes_eq part id ≡ b → (b || list_any (λ (q : List ℕ). bytes_eq q id) ids) ≡ true
      → (list_any (λ (q : List ℕ). bytes_eq q id) ids ≡ true → P id) → P id
  at true same is later = subst P ((bytes_eq-Decides part id).0 same) (All-head P part ids h)
  at false unlike is later = later is

-- the ids of the pieces are different
abbrev pub AreDifferent : List PieceValue → Type 0
AreDifferent ps = AllPairs (λ (p q : PieceValue). p.id ≢ q.id) ps

different-tail : (p : PieceValue) (ps : List PieceValue) → AreDifferent (p ∷ ps) → AreDifferent ps
different-tail p ps h i j d before within = h (suc i) (suc j) d (omega (arith, before)) (omega (arith, within))

different-first : (p : PieceValue) (ps : List PieceValue) (i : ℕ) (q : PieceValue) → AreDifferent (p ∷ ps) → slice_get ps i ≡ Some q → p.id ≢ q.id
different-first p ps i q h is =
    let within = slice_get_within ps i q is in
    subst (λ (r : PieceValue). p.id ≢ r.id) (get_or_from_slice_get ps i q p is) (h 0 (suc i) p (omega arith) (omega (arith, within)))

-- a piece whose id one of the first k has is among these
among_first : (ps : List PieceValue) (k i : ℕ) (q : PieceValue) → AreDifferent ps → slice_get ps i ≡ Some q → has_id q.id (take k ps) ≡ true → i < k
among_first [] k i q h is taken = absurd cc
among_first (p ∷ ps) zero i q h is taken = absurd cc
among_first (p ∷ ps) (suc k) zero q h is taken = omega arith
among_first (p ∷ ps) (suc k) (suc i) q h is taken = at (bytes_eq p.id q.id) refl taken (among_first ps k i q (different-tail p ps h) is) where
  at : (b : Bool) → bytes_eq p.id q.id ≡ b → (b || has_id q.id (take k ps)) ≡ true → (has_id q.id (take k ps) ≡ true → i < k) → suc i < suc k
  at true same t later = absurd (different-first p ps i q h is ((bytes_eq-Decides p.id q.id).0 same))
  at false unlike t later = let before = later t in omega (arith, before)

-- the part that a piece names is one of those before it
pub part_before : (ps : List PieceValue) (k : ℕ) (p : PieceValue) (part : List ℕ) → AreStanding ps → slice_get ps k ≡ Some p
    → names p.evidence part ≡ true → has_id part (take k ps) ≡ true
part_before ps k p part h is named =
    let within = slice_get_within ps k p is in
    let right = subst (λ (r : PieceValue). IsRight (codes_of (take k ps)) r.evidence) (get_or_from_slice_get ps k p p is) (right_at ps k p h.made within) in
    let known = none_missing (codes_of (take k ps)) (ids_of_parts p.evidence) (right-parts (codes_of (take k ps)) p.evidence right) in
    let there = named_part (λ (id : List ℕ). is_known id (codes_of (take k ps)) ≡ true) (ids_of_parts p.evidence) part known named in
    sym (known_where_taken part [] (take k ps)) ∙ there

-- a piece that another one names is before it
pub part_earlier : (ps : List PieceValue) (k i : ℕ) (p q : PieceValue) → AreStanding ps → slice_get ps k ≡ Some p → slice_get ps i ≡ Some q
    → names p.evidence q.id ≡ true → i < k
part_earlier ps k i p q h is at named = among_first ps k i q h.different at (part_before ps k p q.id h is named)

-- pieces of one id are one
pub one_place : (ps : List PieceValue) (i j : ℕ) (p q : PieceValue) → AreDifferent ps → slice_get ps i ≡ Some p → slice_get ps j ≡ Some q
    → p.id ≡ q.id → i ≡ j
one_place [] i j p q h at there same = absurd (none-some p at)
one_place (r ∷ ps) zero zero p q h at there same = refl
one_place (r ∷ ps) zero (suc j) p q h at there same =
    absurd (different-first r ps j q h there (ap (λ (s : PieceValue). s.id) (same_Some r p at) ∙ same))
one_place (r ∷ ps) (suc i) zero p q h at there same =
    absurd (different-first r ps i p h at (ap (λ (s : PieceValue). s.id) (same_Some r q there) ∙ sym same))
one_place (r ∷ ps) (suc i) (suc j) p q h at there same = ap suc (one_place ps i j p q (different-tail r ps h) at there same)
