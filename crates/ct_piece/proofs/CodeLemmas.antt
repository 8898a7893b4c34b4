-- The codes of pieces: those of a list with more pieces, the one at a place, the one of an id; and that each is a code.
use Rattle.std.proofs.Common.{◌≡◌, ℕ, zero, suc, ◌+◌, ◌<◌, ◌≤◌, Bool, true, false, ◌||◌, cond, not, List, [], ◌∷◌, ◌++◌, length, take, get_or, map, Option, Some, None, option_map, refl, sym, ap, subst, ◌∙◌, arith, append_assoc, append-nil, nat_lt}
use Rattle.std.specs.Prelude.{position, slice_get}
use Rattle.std.specs.List.{position_or_len}
use Rattle.std.specs.Option.{option_flatten}
use Rattle.std.specs.Str.{bytes_eq}
use Rattle.std.proofs.lemmas.Bool.{ltb-true, ltb-false}
use Rattle.ct_words.specs.Code.{CodeValue}
use Rattle.ct_piece.specs.Piece.{PieceValue, has_id}
use Rattle.ct_kind.specs.Named.{NamedCode, is_known, code_named}
use Rattle.ct_piece.specs.Codes.{named_code, codes_after, codes_of, code_of_place}
use Rattle.ct_piece.specs.Standing.{IsMade, AreMade}

-- the codes of more pieces
pub codes_after-append : (known : List NamedCode) (front back : List PieceValue) → codes_after known (front ++ back) ≡ codes_after known front ++ codes_after (known ++ codes_after known front) back
codes_after-append known [] back = ap (λ (k : List NamedCode). codes_after k back) (sym (append-nil known))
codes_after-append known (p ∷ front) back =
    let k = named_code known p in
    let next = known ++ k ∷ [] in
    ap (λ (rest : List NamedCode). k ∷ rest) (codes_after-append next front back)
    ∙ ap (λ (all : List NamedCode). k ∷ (codes_after next front ++ codes_after all back)) (append_assoc known (k ∷ []) (codes_after next front))

-- the codes of pieces with one more at the end
pub codes_of-push : (pieces : List PieceValue) (p : PieceValue) → codes_of (pieces ++ p ∷ []) ≡ codes_of pieces ++ named_code (codes_of pieces) p ∷ []
codes_of-push pieces p = codes_after-append [] pieces (p ∷ [])

-- pieces that are made after others that are
pub AreMade-append : (known : List NamedCode) (front back : List PieceValue) → AreMade known front → AreMade (known ++ codes_after known front) back → AreMade known (front ++ back)
AreMade-append known [] back h rest = subst (λ (k : List NamedCode). AreMade k back) (append-nil known) rest
AreMade-append known (p ∷ front) back h rest =
    let k = named_code known p in
    let next = known ++ k ∷ [] in
    (h.0, AreMade-append next front back h.1 (subst (λ (all : List NamedCode). AreMade all back) (sym (append_assoc known (k ∷ []) (codes_after next front))) rest))

-- the pieces before others that are made
pub AreMade-front : (known : List NamedCode) (front back : List PieceValue) → AreMade known (front ++ back) → AreMade known front
AreMade-front known [] back h = tt
AreMade-front known (p ∷ front) back h = (h.0, AreMade-front (known ++ named_code known p ∷ []) front back h.1)

-- the pieces after others that are made
pub AreMade-back : (known : List NamedCode) (front back : List PieceValue) → AreMade known (front ++ back) → AreMade (known ++ codes_after known front) back
AreMade-back known [] back h = subst (λ (k : List NamedCode). AreMade k back) (sym (append-nil known)) h
AreMade-back known (p ∷ front) back h =
    let k = named_code known p in
    let next = known ++ k ∷ [] in
    subst (λ (all : List NamedCode). AreMade all back) (append_assoc known (k ∷ []) (codes_after next front)) (AreMade-back next front back h.1)

-- the first pieces of some that are made
pub AreMade-take : (known : List NamedCode) (ps : List PieceValue) (k : ℕ) → AreMade known ps → AreMade known (take k ps)
AreMade-take known [] zero h = tt
AreMade-take known [] (suc k) h = tt
AreMade-take known (p ∷ ps) zero h = tt
AreMade-take known (p ∷ ps) (suc k) h = (h.0, AreMade-take (known ++ named_code known p ∷ []) ps k h.1)

-- the piece at a place is made over those before it
pub made_at : (known : List NamedCode) (ps : List PieceValue) (k : ℕ) (d : PieceValue) → AreMade known ps → k < length ps → IsMade (known ++ codes_after known (take k ps)) (get_or ps k d)
made_at known [] k d h below = absurd (omega arith)
made_at known (p ∷ ps) zero d h below = subst (λ (all : List NamedCode). IsMade all p) (sym (append-nil known)) h.0
made_at known (p ∷ ps) (suc k) d h below =
    let own = named_code known p in
    let next = known ++ own ∷ [] in
    subst (λ (all : List NamedCode). IsMade all (get_or ps k d)) (append_assoc known (own ∷ []) (codes_after next (take k ps))) (made_at next ps k d h.1 (omega arith))

-- its code is that over them
pub code_at_place : (known : List NamedCode) (ps : List PieceValue) (k : ℕ) (d : PieceValue) → k < length ps
    → slice_get (codes_after known ps) k ≡ Some (named_code (known ++ codes_after known (take k ps)) (get_or ps k d))
code_at_place known [] k d below = absurd (omega arith)
code_at_place known (p ∷ ps) zero d below = ap (λ (all : List NamedCode). Some (named_code all p)) (sym (append-nil known))
code_at_place known (p ∷ ps) (suc k) d below =
    let own = named_code known p in
    let next = known ++ own ∷ [] in
    code_at_place next ps k d (omega arith) ∙ ap (λ (all : List NamedCode). Some (named_code all (get_or ps k d))) (append_assoc known (own ∷ []) (codes_after next (take k ps)))

-- the test that finds a piece by its id
abbrev pub is_named : List ℕ → PieceValue → Bool
is_named id p = bytes_eq p.id id

-- the code of a piece that is found, where there is one
abbrev code_at_get : Option NamedCode → Option CodeValue
code_at_get found = option_flatten (option_map (λ (k : NamedCode). k.code) found)

-- where a piece has the id, the code of the id is that at the place of the first such piece
found_at : (id : List ℕ) (known : List NamedCode) (ps : List PieceValue) → position_or_len (is_named id) ps < length ps
    → code_named id (codes_after known ps) ≡ code_at_get (slice_get (codes_after known ps) (position_or_len (is_named id) ps))
found_at id known [] below = absurd (omega arith)
found_at id known (p ∷ ps) below = at (bytes_eq p.id id) (found_at id next ps) below where
  own : NamedCode
  own = named_code known p

  next : List NamedCode
  next = known ++ own ∷ []

  at : (b : Bool)
      → (position_or_len (is_named id) ps < length ps → code_named id (codes_after next ps) ≡ code_at_get (slice_get (codes_after next ps) (position_or_len (is_named id) ps)))
      → cond (not b) (1 + position_or_len (is_named id) ps) 0 < length (p ∷ ps)
      → cond b own.code (code_named id (codes_after next ps))
      ≡ code_at_get (slice_get (own ∷ codes_after next ps) (cond (not b) (1 + position_or_len (is_named id) ps) 0))
  at true rest within = refl
  at false rest within =
      let place = position_or_len (is_named id) ps in
      let step : suc place ≡ 1 + place = omega arith in
      rest (omega arith) ∙ ap (λ (i : ℕ). code_at_get (slice_get (own ∷ codes_after next ps) i)) step

-- where none has it, it has no code
not_found : (id : List ℕ) (known : List NamedCode) (ps : List PieceValue) → length ps ≤ position_or_len (is_named id) ps → code_named id (codes_after known ps) ≡ None
not_found id known [] past = refl
not_found id known (p ∷ ps) past = at (bytes_eq p.id id) (not_found id next ps) past where
  own : NamedCode
  own = named_code known p

  next : List NamedCode
  next = known ++ own ∷ []

  at : (b : Bool) → (length ps ≤ position_or_len (is_named id) ps → code_named id (codes_after next ps) ≡ None)
      → length (p ∷ ps) ≤ cond (not b) (1 + position_or_len (is_named id) ps) 0 → cond b own.code (code_named id (codes_after next ps)) ≡ None
  at true rest within = absurd (omega arith)
  at false rest within = rest (omega arith)

-- the code of an id is that at the place of the first piece with the id
pub position-some : (id : List ℕ) (ps : List PieceValue) (k : ℕ) → position (is_named id) ps ≡ Some k → (k < length ps) × (code_named id (codes_of ps) ≡ code_of_place ps k)
position-some id ps k h = at (nat_lt (position_or_len (is_named id) ps) (length ps)) refl h where
  at : (b : Bool) → nat_lt (position_or_len (is_named id) ps) (length ps) ≡ b → cond b (Some (position_or_len (is_named id) ps)) None ≡ Some k → (k < length ps) × (code_named id (codes_of ps) ≡ code_of_place ps k)
  at true e same =
      let within = ltb-true (position_or_len (is_named id) ps) (length ps) e in
      let place : position_or_len (is_named id) ps ≡ k = cc in
      (omega arith, found_at id [] ps within ∙ ap (code_of_place ps) place)
  at false e same = absurd cc

pub position-none : (id : List ℕ) (ps : List PieceValue) → position (is_named id) ps ≡ None → code_named id (codes_of ps) ≡ None
position-none id ps h = at (nat_lt (position_or_len (is_named id) ps) (length ps)) refl h where
  at : (b : Bool) → nat_lt (position_or_len (is_named id) ps) (length ps) ≡ b → cond b (Some (position_or_len (is_named id) ps)) None ≡ None → code_named id (codes_of ps) ≡ None
  at true e same = absurd cc
  at false e same = not_found id [] ps (ltb-false (position_or_len (is_named id) ps) (length ps) e)

-- an id is known exactly where a piece has it
pub known_where_taken : (id : List ℕ) (known : List NamedCode) (ps : List PieceValue) → is_known id (codes_after known ps) ≡ has_id id ps
known_where_taken id known [] = refl
known_where_taken id known (p ∷ ps) = ap (λ (b : Bool). bytes_eq p.id id || b) (known_where_taken id (known ++ named_code known p ∷ []) ps)

-- the codes have the ids of the pieces
pub ids_of_codes : (known : List NamedCode) (ps : List PieceValue) → map (λ (k : NamedCode). k.id) (codes_after known ps) ≡ map (λ (p : PieceValue). p.id) ps
ids_of_codes known [] = refl
ids_of_codes known (p ∷ ps) = ap (λ (ids : List (List ℕ)). p.id ∷ ids) (ids_of_codes (known ++ named_code known p ∷ []) ps)
