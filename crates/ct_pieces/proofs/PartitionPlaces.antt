-- The partition of an id is that of the first piece with the id.
use Rattle.std.proofs.Common.{◌≡◌, ℕ, suc, ◌+◌, ◌<◌, ◌≤◌, Bool, true, false, cond, not, nat_lt, List, [], ◌∷◌, ◌++◌, length, get_or, Option, Some, None, refl, ap, ◌∙◌, arith}
use Rattle.std.specs.List.{position_or_len}
use Rattle.std.specs.Str.{bytes_eq}
use Rattle.std.proofs.lemmas.Bool.{ltb-true, ltb-false}
use Rattle.ct_classes.specs.Partition.{PartitionValue}
use Rattle.ct_kind.specs.Named.{NamedCode, partition_named}
use Rattle.ct_files.specs.ByKind.{kind_of}
use Rattle.ct_piece.specs.Piece.{PieceValue, place_of_id}
use Rattle.ct_piece.specs.Codes.{named_code, codes_after, codes_of}
use Rattle.ct_piece.proofs.CodeLemmas.{is_named}

-- the partition that a piece states, where it states one
abbrev pub partition_in : PieceValue → Option PartitionValue
partition_in p = (kind_of p.evidence).partition

found_at : (id : List ℕ) (known : List NamedCode) (ps : List PieceValue) (d : PieceValue) → position_or_len (is_named id) ps < length ps
    → partition_named id (codes_after known ps) ≡ partition_in (get_or ps (position_or_len (is_named id) ps) d)
found_at id known [] d below = absurd (omega arith)
found_at id known (p ∷ ps) d below = at (bytes_eq p.id id) (found_at id next ps d) below where
  next : List NamedCode
  next = known ++ named_code known p ∷ []

  place : ℕ
  place = position_or_len (is_named id) ps

  at : (b : Bool) → (place < length ps → partition_named id (codes_after next ps) ≡ partition_in (get_or ps place d))
      → cond (not b) (1 + place) 0 < length (p ∷ ps)
      → cond b (partition_in p) (partition_named id (codes_after next ps)) ≡ partition_in (get_or (p ∷ ps) (cond (not b) (1 + place) 0) d)
  at true rest within = refl
  at false rest within =
      let step : suc place ≡ 1 + place = omega arith in
      rest (omega arith) ∙ ap (λ (i : ℕ). partition_in (get_or (p ∷ ps) i d)) step

not_found : (id : List ℕ) (known : List NamedCode) (ps : List PieceValue) → length ps ≤ position_or_len (is_named id) ps → partition_named id (codes_after known ps) ≡ None
not_found id known [] past = refl
not_found id known (p ∷ ps) past = at (bytes_eq p.id id) (not_found id next ps) past where
  next : List NamedCode
  next = known ++ named_code known p ∷ []

  at : (b : Bool) → (length ps ≤ position_or_len (is_named id) ps → partition_named id (codes_after next ps) ≡ None)
      → length (p ∷ ps) ≤ cond (not b) (1 + position_or_len (is_named id) ps) 0 → cond b (partition_in p) (partition_named id (codes_after next ps)) ≡ None
  at true rest within = absurd (omega arith)
  at false rest within = rest (omega arith)

-- where a piece has the id
pub partition-some : (id : List ℕ) (ps : List PieceValue) (k : ℕ) (d : PieceValue) → place_of_id id ps ≡ Some k → partition_named id (codes_of ps) ≡ partition_in (get_or ps k d)
partition-some id ps k d h = at (nat_lt (position_or_len (is_named id) ps) (length ps)) refl h where
  at : (b : Bool) → nat_lt (position_or_len (is_named id) ps) (length ps) ≡ b → cond b (Some (position_or_len (is_named id) ps)) None ≡ Some k
      → partition_named id (codes_of ps) ≡ partition_in (get_or ps k d)
  at true e same =
      let within = ltb-true (position_or_len (is_named id) ps) (length ps) e in
      let place : position_or_len (is_named id) ps ≡ k = cc in
      found_at id [] ps d within ∙ ap (λ (i : ℕ). partition_in (get_or ps i d)) place
  at false e same = absurd cc

-- and where none has
pub partition-none : (id : List ℕ) (ps : List PieceValue) → place_of_id id ps ≡ None → partition_named id (codes_of ps) ≡ None
partition-none id ps h = at (nat_lt (position_or_len (is_named id) ps) (length ps)) refl h where
  at : (b : Bool) → nat_lt (position_or_len (is_named id) ps) (length ps) ≡ b → cond b (Some (position_or_len (is_named id) ps)) None ≡ None
      → partition_named id (codes_of ps) ≡ None
  at true e same = absurd cc
  at false e same = not_found id [] ps (ltb-false (position_or_len (is_named id) ps) (length ps) e)
