-- A piece that stands after others is accepted over these once more.
use Rattle.std.proofs.Common.{◌≡◌, ◌≢◌, ℕ, ◌≤◌, Bool, true, false, ◌||◌, List, [], ◌∷◌, length, Ok, refl, sym, ap, ◌∙◌, arith, ◌++◌, ◌<◌, length-append}
use Rattle.std.proofs.Math.ListN.{get_or-append}
use Rattle.std.proofs.Math.Seq.{get_or-append_seam}
use Rattle.std.proofs.lemmas.List.Sums.{sum_by-append, sum_by-cons}
use Rattle.std.specs.Prelude.{All}
use Rattle.std.specs.Str.{bytes_eq}
use Rattle.std.proofs.lemmas.List.Elements.{All-head, All-tail}
use Rattle.std.proofs.lemmas.Slice.Eq.{bytes_eq-Decides}
use Rattle.ct_fields.specs.declared.document.TheConstants.{MAX_DOCUMENT}
use Rattle.ct_files.specs.Document.{document_read_of}
use Rattle.ct_files.proofs.Documents.{document_read_of-short}
use Rattle.ct_kind.specs.Named.{NamedCode}
use Rattle.ct_piece.specs.Piece.{PieceValue, has_id, stored_by}
use Rattle.ct_piece.specs.Codes.{codes_of}
use Rattle.ct_piece.specs.Submission.{piece_from}
use Rattle.ct_piece.specs.Standing.{AreStanding, IsMade}
use Rattle.ct_piece.proofs.CodeLemmas.{AreMade-back}
use Rattle.ct_piece.proofs.StandingLemmas.{WasMade}

-- an id that no piece has is not taken
pub not_taken : (id : List ℕ) (pieces : List PieceValue) → All (λ (q : PieceValue). q.id ≢ id) pieces → has_id id pieces ≡ false
not_taken id [] h = refl
not_taken id (p ∷ pieces) h = at (bytes_eq p.id id) refl (not_taken id pieces (All-tail (λ (q : PieceValue). q.id ≢ id) p pieces h)) where
  at : (b : Bool) → bytes_eq p.id id ≡ b → has_id id pieces ≡ false → (b || has_id id pieces) ≡ false
  at true e rest = absurd (All-head (λ (q : PieceValue). q.id ≢ id) p pieces h ((bytes_eq-Decides p.id id).0 e))
  at false e rest = rest

-- a document within the limit makes what it makes without it
within-made : (known : List NamedCode) (p : PieceValue) → length p.document ≤ MAX_DOCUMENT → IsMade known p → piece_from known p.id p.document (document_read_of p.document) ≡ Ok p
within-made known p short made = ap (piece_from known p.id p.document) (document_read_of-short p.document short) ∙ made

-- a piece that stands after others is made over them
pub made_again : (front : List PieceValue) (p : PieceValue) (back : List PieceValue) → AreStanding (front ++ p ∷ back) → length p.document ≤ MAX_DOCUMENT → WasMade front p.id p.document p
made_again front p back h short =
    let all = length-append front (p ∷ back) in
    let stored = sum_by-append stored_by front (p ∷ back) in
    let stored_back = sum_by-cons stored_by p back in
    let within : length front < length (front ++ p ∷ back) = omega (arith, all) in
    record {
      free = not_taken p.id front
          (λ k d below same. h.different k (length front) d below within
          (ap (λ (q : PieceValue). q.id) (get_or-append front (p ∷ back) d k below) ∙ same ∙ ap (λ (q : PieceValue). q.id) (sym (get_or-append_seam front p back d))));
      room = omega (arith, all, h.few);
      made = let own = AreMade-back [] front (p ∷ back) h.made in within-made (codes_of front) p short own.0;
      small = omega (arith, stored, stored_back, h.small);
    }
