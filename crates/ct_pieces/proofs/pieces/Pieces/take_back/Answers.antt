use Rattle.std.proofs.Common.{rules, ◌≡◌, ℕ, ◌<◌, ◌+◌, ◌-◌, length, List, Option, sym, ap, ◌∙◌, subst, arith}
use Rattle.std.specs.Prelude.{remove}
use Rattle.ct_words.specs.Code.{CodeValue}
use Rattle.ct_piece.specs.Piece.{PieceValue, stored_words}
use Rattle.ct_piece.specs.Inside.Kept.{kept_codes, AreKept}
use Rattle.ct_pieces.proofs.BuildPlaces.{kept-long}
use Rattle.ct_piece.proofs.KeptLemmas.{kept-without}
use Rattle.ct_piece.proofs.SupportLemmas.{taken_back}
use Rattle.ct_pieces.proofs.pieces.Pieces.take_back.Goals as goal

pub take_at-requires-clause-place : goal.take_at-requires-clause-place
take_at-requires-clause-place c =
    let items = c.self.inside.pieces.items in
    let some = subst (λ (ps : List PieceValue). 0 < length ps) (sym c.self.view_is) c.requires in
    let size : c.len-last.result ≡ length items = search rules in
    omega arith

pub take_at-requires-clause-long : goal.take_at-requires-clause-long
take_at-requires-clause-long c = kept-long c.self.inside.kept.items c.self.inside.pieces.items c.self.invariant.2

pub overflow_sub-self : goal.overflow_sub-self
overflow_sub-self c = let sum = c.take_at.ensures.stored in let whole = c.self.invariant.1 in omega arith

pub invariant_of-self : goal.invariant_of-self
invariant_of-self c =
    let items = c.self.inside.pieces.items in
    let kept = c.self.inside.kept.items in
    let last = length items - 1 in
    let some = subst (λ (ps : List PieceValue). 0 < length ps) (sym c.self.view_is) c.requires in
    let back = taken_back items c.self.invariant.0 some in
    let size : c.len-last.result ≡ length items = search rules in
    let left : c.take_at.new.pieces.items ≡ remove items last = c.take_at.ensures.pieces ∙ ap (λ (n : ℕ). remove items (n - 1)) size in
    let codes : c.take_at.new.kept.items ≡ remove kept last = c.take_at.ensures.kept ∙ ap (λ (n : ℕ). remove kept (n - 1)) size in
    let sum = subst (λ (ps : List PieceValue). stored_words ps + c.take_at.result ≡ stored_words items) left c.take_at.ensures.stored in
    let whole = c.self.invariant.1 in
    let stored : c.self.inside.stored - c.take_at.result ≡ stored_words (remove items last) = omega (arith, sum, whole) in
    let rest = subst (AreKept (remove kept last)) (sym back.kept) (kept-without kept (kept_codes items) last c.self.invariant.2) in
    rw left (back.standing, stored, subst (λ (ks : List (Option CodeValue)). AreKept ks (kept_codes (remove items last))) (sym codes) rest)
