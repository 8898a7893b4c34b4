-- What the pieces give that are left once those of some ids are out.
use Rattle.std.proofs.Common.{◌≡◌, ℕ, Bool, true, false, cond, not, List, [], ◌∷◌, map, refl, ap, ◌∙◌}
use Rattle.std.specs.Prelude.{filter}
use Rattle.ct_rule_parts.specs.declared.support.Support.{Support}
use Rattle.ct_rules.specs.Removal.{marked, without}
use Rattle.ct_rules.proofs.WithoutLemmas.{without-in, without-out}
use Rattle.ct_piece.specs.Piece.{PieceValue}
use Rattle.ct_piece.specs.Supports.{support_of, supports_of}
use Rattle.ct_piece.specs.Withdrawal.{is_id_among, taken_along, without_all, marks_along}

left_supports : (out : List ℕ → Bool) (ps : List PieceValue)
    → without (marked (map (λ (p : PieceValue). out p.id) ps)) (supports_of ps) ≡ supports_of (filter (λ (p : PieceValue). not (out p.id)) ps)
unfolding without
left_supports out [] = refl
left_supports out (p ∷ ps) = at (out p.id) (left_supports out ps) where
  marks : List Bool
  marks = map (λ (q : PieceValue). out q.id) ps

  rest : List PieceValue
  rest = filter (λ (q : PieceValue). not (out q.id)) ps

  at : (b : Bool) → without (marked marks) (supports_of ps) ≡ supports_of rest
      → without (marked (b ∷ marks)) (support_of p ∷ supports_of ps) ≡ supports_of (cond (not b) (p ∷ rest) rest)
  at true later = without-out (marked (true ∷ marks)) (support_of p) (supports_of ps) refl ∙ later
  at false later =
      without-in (marked (false ∷ marks)) (support_of p) (supports_of ps) refl
      ∙ ap (λ (these : List Support). support_of p ∷ these) later

-- without those that are taken along with a piece
pub supports-along : (pieces : List PieceValue) (id : List ℕ)
    → without (marked (marks_along pieces id)) (supports_of pieces) ≡ supports_of (without_all (taken_along pieces id) pieces)
supports-along pieces id = left_supports (is_id_among (taken_along pieces id)) pieces
