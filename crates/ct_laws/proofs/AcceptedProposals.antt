-- The document of a proposal is accepted.
use Rattle.ct_find.specs.Inside.Texts.{dual_evidence}
use Rattle.std.proofs.Common.{◌≡◌, ◌≢◌, ◌∙◌, ℕ, ◌<◌, ◌≤◌, List, [], length, Option, Some, None, option_map, Ok, refl, sym, ap, subst, arith, lit<}
use Rattle.std.specs.Prelude.{All}
use Rattle.std.proofs.lemmas.List.Elements.{All-nil}
use Rattle.ct_words.specs.declared.entry.Entry.{Entry}
use Rattle.ct_words.specs.Entry.{IsEntry}
use Rattle.ct_words.specs.Pairs.{first_of}
use Rattle.ct_duals.specs.declared.dual.Dual.{Dual}
use Rattle.ct_duals.specs.Check.{dual_fault}
use Rattle.ct_duals.specs.declared.fault.DualFault.{DualFault}
use Rattle.ct_words.specs.Numbers.{numbers_of}
use Rattle.ct_files.specs.Document.{without_cites, document_without_limit, document_read_of}
use Rattle.ct_files.proofs.Documents.{document_read_of-without_limit}
use Rattle.ct_kind.specs.Named.{NamedCode}
use Rattle.ct_piece.specs.Piece.{PieceValue, stored_by, stored_words}
use Rattle.ct_piece.specs.Codes.{codes_of}
use Rattle.ct_piece.specs.Submission.{piece_of, piece_from, submitted}
use Rattle.ct_piece.specs.Inside.Making.{made_of, made_unless}
use Rattle.ct_kind.specs.declared.fault.SubmitFault.TheVariants as fault
use Rattle.ct_piece.specs.declared.limits.TheConstants.{MAX_PIECES, MAX_STORED}
use Rattle.ct_piece.proofs.Accepting.{not_taken}
use Rattle.ct_piece.proofs.StandingLemmas.{submitted-from}
use Rattle.ct_find.specs.Proposal.{find_id, found_dual}
use Rattle.ct_laws.specs.Proposed.{proposed_piece}
use Rattle.ct_find.proofs.FoundDuals.{found}

-- an accepted dual makes its piece
made-dual : (known : List NamedCode) (id document : List ℕ) (w : Option ℕ) (d : Dual) → dual_fault (numbers_of d.entry) d ≡ None
    → made_of known id document (without_cites (dual_evidence w d)) ≡ Ok (record { id = id; document = document; evidence = dual_evidence w d; cites = []; entry = d.entry; size = None })
made-dual known id document None d none =
    ap (λ (o : Option DualFault). made_unless (first_of None (option_map fault.Dual o)) (piece_of known id document (without_cites (dual_evidence None d)))) none
made-dual known id document (Some w) d none =
    ap (λ (o : Option DualFault). made_unless (first_of None (option_map fault.Dual o)) (piece_of known id document (without_cites (dual_evidence (Some w) d)))) none

-- it stores no words
stored-at : (w : Option ℕ) (id document : List ℕ) (e : Entry) (d : Dual) → stored_by (record { id = id; document = document; evidence = dual_evidence w d; cites = []; entry = e; size = None }) ≡ 0
stored-at None id document e d = refl
stored-at (Some w) id document e d = refl

pub stored-none : (e : Entry) (d : Dual) (document : List ℕ) → stored_by (proposed_piece e d document) ≡ 0
stored-none e d document = stored-at e.w (find_id e) document e d

-- the document of a proposal makes the piece that is proposed
pub made-proposed : (known : List NamedCode) (e : Entry) (d : Dual) (document : List ℕ) → IsEntry e → found_dual e ≡ Some d
    → document_read_of document ≡ Ok (without_cites (dual_evidence d.entry.w d)) → piece_from known (find_id e) document (document_without_limit document) ≡ Ok (proposed_piece e d document)
made-proposed known e d document entry same is_read =
    let reads = document_read_of-without_limit document (without_cites (dual_evidence d.entry.w d)) is_read in
    let f = found e d entry same in
    let none = subst (λ (x : Entry). dual_fault (numbers_of x) d ≡ None) (sym f.entry) f.accepted in
    ap (piece_from known (find_id e) document) (reads ∙ ap (λ (x : Entry). Ok (without_cites (dual_evidence x.w d))) f.entry)
    ∙ made-dual known (find_id e) document e.w d none
    ∙ ap (λ (x : Entry). Ok (record { id = find_id e; document = document; evidence = dual_evidence e.w d; cites = []; entry = x; size = None })) f.entry

pub accepted-beside : (e : Entry) (d : Dual) (document : List ℕ) (pieces : List PieceValue) → IsEntry e → found_dual e ≡ Some d
    → document_read_of document ≡ Ok (without_cites (dual_evidence d.entry.w d)) → All (λ (q : PieceValue). q.id ≢ find_id e) pieces → length pieces < MAX_PIECES
    → stored_words pieces ≤ MAX_STORED → submitted pieces (find_id e) document ≡ Ok (proposed_piece e d document)
accepted-beside e d document pieces entry same reads free room small =
    let known = codes_of pieces in
    let same_read = reads ∙ sym (document_read_of-without_limit document (without_cites (dual_evidence d.entry.w d)) reads) in
    let made = ap (piece_from known (find_id e) document) same_read ∙ made-proposed known e d document entry same reads in
    let stored = stored-none e d document in
    submitted-from pieces (find_id e) document (proposed_piece e d document)
    (record { free = not_taken (find_id e) pieces free; room = room; made = made; small = omega (arith, stored, small) })

pub accepted-alone : (e : Entry) (d : Dual) (document : List ℕ) → IsEntry e → found_dual e ≡ Some d → document_read_of document ≡ Ok (without_cites (dual_evidence d.entry.w d))
    → submitted [] (find_id e) document ≡ Ok (proposed_piece e d document)
accepted-alone e d document entry same reads =
    accepted-beside e d document [] entry same reads (All-nil (λ (q : PieceValue). q.id ≢ find_id e)) (lit< tt) (omega arith)
