-- The parts of a piece that stands are pieces.
use Rattle.std.proofs.Common.{◌≡◌, ℕ, zero, suc, Bool, true, false, ◌||◌, List, [], ◌∷◌, take, Some, refl, sym, subst, ◌∙◌}
use Rattle.std.specs.Prelude.{All, slice_get}
use Rattle.std.specs.List.{list_any}
use Rattle.std.specs.Str.{bytes_eq}
use Rattle.std.proofs.lemmas.List.Elements.{All-head, All-tail}
use Rattle.std.proofs.lemmas.Option.{slice_get_within, get_or_from_slice_get}
use Rattle.std.proofs.lemmas.Slice.Eq.{bytes_eq-Decides}
use Rattle.ct_kind.specs.Named.{is_known}
use Rattle.ct_files.specs.ByKind.{ids_of_parts, names}
use Rattle.ct_piece.specs.Piece.{PieceValue, has_id}
use Rattle.ct_piece.specs.Codes.{codes_of}
use Rattle.ct_piece.specs.Standing.{AreStanding}
use Rattle.ct_piece.proofs.CodeLemmas.{known_where_taken}
use Rattle.ct_files.proofs.StatedByKind.{IsRight, right-parts}
use Rattle.ct_piece.proofs.MakingLemmas.{none_missing, right_at}

-- what holds of each id holds of one that is among them
named_part : (P : List ℕ → Type 0) (ids : List (List ℕ)) (id : List ℕ) → All P ids → list_any (λ (part : List ℕ). bytes_eq part id) ids ≡ true → P id
named_part P [] id h is = absurd cc
named_part P (part ∷ ids) id h is = at (bytes_eq part id) refl is (named_part P ids id (All-tail P part ids h)) where
  at : (b : Bool) → bytes_eq part id ≡ b → (b || list_any (λ (q : List ℕ). bytes_eq q id) ids) ≡ true
      → (list_any (λ (q : List ℕ). bytes_eq q id) ids ≡ true → P id) → P id
  at true same is later = subst P ((bytes_eq-Decides part id).0 same) (All-head P part ids h)
  at false unlike is later = later is

-- a piece of those before it has an id that is taken
found_before : (ps : List PieceValue) (k : ℕ) (id : List ℕ) → has_id id (take k ps) ≡ true → (i : ℕ) × (q : PieceValue) × (slice_get ps i ≡ Some q) × (q.id ≡ id)
found_before [] zero id taken = absurd cc
found_before [] (suc k) id taken = absurd cc
found_before (p ∷ ps) zero id taken = absurd cc
found_before (p ∷ ps) (suc k) id taken = at (bytes_eq p.id id) refl taken (found_before ps k id) where
  at : (b : Bool) → bytes_eq p.id id ≡ b → (b || has_id id (take k ps)) ≡ true
      → (has_id id (take k ps) ≡ true → (i : ℕ) × (q : PieceValue) × (slice_get ps i ≡ Some q) × (q.id ≡ id))
      → (i : ℕ) × (q : PieceValue) × (slice_get (p ∷ ps) i ≡ Some q) × (q.id ≡ id)
  at true same t later = (0, p, refl, (bytes_eq-Decides p.id id).0 same)
  at false unlike t later = let rest = later t in (suc rest.0, rest.1, rest.2, rest.3)

-- a part that a piece names is the id of one
pub part_before : (ps : List PieceValue) (k : ℕ) (p : PieceValue) (part : List ℕ) → AreStanding ps → slice_get ps k ≡ Some p → names p.evidence part ≡ true
    → (i : ℕ) × (q : PieceValue) × (slice_get ps i ≡ Some q) × (q.id ≡ part)
part_before ps k p part h is named =
    let within = slice_get_within ps k p is in
    let right = subst (λ (r : PieceValue). IsRight (codes_of (take k ps)) r.evidence) (get_or_from_slice_get ps k p p is) (right_at ps k p h.made within) in
    let known = none_missing (codes_of (take k ps)) (ids_of_parts p.evidence) (right-parts (codes_of (take k ps)) p.evidence right) in
    let there = named_part (λ (id : List ℕ). is_known id (codes_of (take k ps)) ≡ true) (ids_of_parts p.evidence) part known named in
    found_before ps k part (sym (known_where_taken part [] (take k ps)) ∙ there)
