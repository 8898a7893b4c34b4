-- What `find` writes for entries of the table, as the input of a session.
use Rattle.std.specs.Prelude.{◌≡◌, ℕ, List, [], ◌∷◌, ◌++◌, codes, Some, None}
use Rattle.ct_text.specs.declared.document_lines.TheConstants.{LINE_FEED}
use Rattle.ct_words.specs.declared.entry.Entry.{Entry}
use Rattle.ct_duals.specs.declared.dual.Dual.{Dual}
use Rattle.ct_kind.specs.declared.evidence.Evidence.TheVariants.{Dual as PlainDual, JohnsonDual}
use Rattle.ct_finder.specs.Found.{bound_without_allowances}
use Rattle.ct_piece.specs.Piece.{PieceValue}
use Rattle.ct_find.specs.Proposal.{find_id, found_dual, stop_for, IsProposal}

-- the text proposes the dual that is found for the entry
pub record IsProposed (e : Entry) (text : List ℕ) : Type 0 where
  pub dual : Dual
  pub found : found_dual e ≡ Some dual
  pub proposal : IsProposal e dual (bound_without_allowances dual) (stop_for e) text

-- the text does so for each of the entries, one after another
abbrev pub AreProposed : List Entry → List ℕ → Type 0
AreProposed [] text = text ≡ []
AreProposed (e ∷ es) text = (own rest : List ℕ) × IsProposed e own × AreProposed es rest × (text ≡ own ++ rest)

-- the reply to the submission that is proposed for an entry, where it is accepted
abbrev pub taken_text : Entry → List ℕ
taken_text e = codes "accepted " ++ find_id e ++ LINE_FEED ∷ []

-- the piece that a document makes, submitted under the id of the entry, which reads as this dual
abbrev pub proposed_piece : Entry → Dual → List ℕ → PieceValue
proposed_piece e d document = record {
  id = find_id e;
  document = document;
  evidence = elim e.w [ None ↦ PlainDual d | Some w ↦ JohnsonDual d ];
  cites = [];
  entry = e;
  size = None;
}
