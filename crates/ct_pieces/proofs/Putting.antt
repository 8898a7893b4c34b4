-- One piece more, whose evidence was checked over those that stand, and beside whose words there is room.
use Rattle.std.proofs.Common.{◌≡◌, ℕ, ◌+◌, ◌≤◌, ◌<◌, false, List, [], ◌∷◌, ◌++◌, length, Option, Some, Ok, Err, refl, sym, ap, subst, ◌∙◌, arith}
use Rattle.std.specs.Prelude.{IsTrue}
use Rattle.std.proofs.lemmas.List.Sums.{sum_by_push}
use Rattle.ct_names.specs.Id.{is_id}
use Rattle.ct_words.specs.declared.entry.Entry.{Entry}
use Rattle.ct_words.specs.Code.{CodeValue}
use Rattle.ct_files.specs.Document.{DocumentValue, document_read_of}
use Rattle.ct_rule_parts.specs.declared.support.Support.{Support}
use Rattle.ct_kind.specs.KindParts.{stored_for}
use Rattle.ct_kind.specs.declared.evidence.Evidence.{Evidence}
use Rattle.ct_kind.specs.declared.fault.SubmitFault.{SubmitFault}
use Rattle.ct_kind.specs.Named.{NamedCode}
use Rattle.ct_files.specs.ByKind.{kind_of, stated_entry}
use Rattle.ct_piece.specs.Piece.{PieceValue, has_id, stored_by, stored_words}
use Rattle.ct_piece.specs.Codes.{codes_of}
use Rattle.ct_piece.specs.Standing.{AreStanding}
use Rattle.ct_piece.specs.Supports.{supports_of}
use Rattle.ct_files.specs.ByKind.{evidence_reason}
use Rattle.ct_piece.specs.Submission.{piece_of, submitted}
use Rattle.ct_piece.specs.Inside.Making.{made_unless, made_of, if_stored, stored_beside}
use Rattle.ct_files.specs.Checked.{IsCheck}
use Rattle.ct_pieces.specs.Inside.Checks.{IsRefused}
use Rattle.ct_files.specs.ByKind.{kept_over}
use Rattle.ct_piece.specs.Inside.Kept.{kept_codes, AreKept}
use Rattle.ct_files.specs.declared.checked.Checked.{Checked}
use Rattle.ct_piece.specs.declared.limits.TheConstants.{MAX_PIECES, MAX_STORED}
use Rattle.ct_piece.proofs.Admitting.{made_of-read}
use Rattle.ct_piece.proofs.KeptLemmas.{kept_codes-push, kept-push}
use Rattle.ct_piece.proofs.StandingLemmas.{WasMade, submitted-beside, submitted-from, AreStanding-made}
use Rattle.ct_piece.proofs.SupportLemmas.{supports-push}

-- evidence that its check refuses is refused, whatever is stored
pub refused-checked : (stored : ℕ) (known : List NamedCode) (evidence : Evidence) (reason : SubmitFault) → evidence_reason known evidence ≡ Some reason
    → IsRefused stored known evidence reason
refused-checked stored known evidence reason is = λ id document cites.
    ap (λ (o : Option SubmitFault). stored_beside stored (made_unless o (piece_of known id document (record { evidence = evidence; cites = cites })))) is

-- and so is evidence whose words are too many
pub refused-stored : (stored : ℕ) (known : List NamedCode) (evidence : Evidence) (checked : Checked) (reason : SubmitFault) → IsCheck known evidence (Ok checked)
    → ((p : PieceValue) → if_stored (stored + stored_for (kind_of evidence) checked.size) p ≡ Err reason) → IsRefused stored known evidence reason
refused-stored stored known evidence checked reason check many = λ id document cites.
    let p = piece_of known id document (record { evidence = evidence; cites = cites }) in
    ap (λ (o : Option SubmitFault). stored_beside stored (made_unless o p)) check.accepted
    ∙ ap (λ (size : Option ℕ). if_stored (stored + stored_for (kind_of evidence) size) p) (sym check.size) ∙ many p

-- what is asked of the piece
was-made : (items : List PieceValue) (id document : List ℕ) (stated : DocumentValue) (checked : Checked) (total : ℕ) → document_read_of document ≡ Ok stated
    → has_id id items ≡ false → length items < MAX_PIECES → IsCheck (codes_of items) stated.evidence (Ok checked)
    → total ≡ stored_words items + stored_for (kind_of stated.evidence) checked.size → total ≤ MAX_STORED → WasMade items id document (piece_of (codes_of items) id document stated)
was-made items id document stated checked total read free room check is few =
    let known = codes_of items in
    let p = piece_of known id document stated in
    let words : stored_for (kind_of stated.evidence) checked.size ≡ stored_by p = ap (stored_for (kind_of stated.evidence)) check.size in
    record {
      free = free;
      room = room;
      made = made_of-read known id document stated (Ok p) read (ap (λ (o : Option SubmitFault). made_unless o p) check.accepted);
      small = omega (arith, is, words, few);
    }

-- how many words are stored with it
stored-more : (items : List PieceValue) (id document : List ℕ) (stated : DocumentValue) (checked : Checked) (total : ℕ) → IsCheck (codes_of items) stated.evidence (Ok checked)
    → total ≡ stored_words items + stored_for (kind_of stated.evidence) checked.size → total ≡ stored_words (items ++ piece_of (codes_of items) id document stated ∷ [])
stored-more items id document stated checked total check is =
    is ∙ ap (λ (size : Option ℕ). stored_words items + stored_for (kind_of stated.evidence) size) check.size
    ∙ sym (sum_by_push stored_by items (piece_of (codes_of items) id document stated))

-- and what is kept
kept-more : (items : List PieceValue) (id document : List ℕ) (stated : DocumentValue) (checked : Checked) (codes : List (Option CodeValue)) → AreKept codes (kept_codes items)
    → IsCheck (codes_of items) stated.evidence (Ok checked) → AreKept (codes ++ checked.kept ∷ []) (kept_codes (items ++ piece_of (codes_of items) id document stated ∷ []))
kept-more items id document stated checked codes h check =
    subst (AreKept (codes ++ checked.kept ∷ [])) (sym (kept_codes-push items (piece_of (codes_of items) id document stated)))
    (kept-push codes (kept_codes items) checked.kept (kept_over (codes_of items) stated.evidence) h check.kept)

-- a document whose evidence is refused makes no piece
pub refused-submission : (items : List PieceValue) (id document : List ℕ) (stated : DocumentValue) (reason : SubmitFault) → document_read_of document ≡ Ok stated
    → has_id id items ≡ false → length items < MAX_PIECES → IsRefused (stored_words items) (codes_of items) stated.evidence reason → submitted items id document ≡ Err reason
refused-submission items id document stated reason read free room refused =
    let made = made_of (codes_of items) id document stated in
    submitted-beside items id document made free room (made_of-read (codes_of items) id document stated made read refl) ∙ refused id document stated.cites

abbrev piece_with : List ℕ → List ℕ → DocumentValue → Entry → Option ℕ → PieceValue
piece_with id document stated entry size = record { id = id; document = document; evidence = stated.evidence; cites = stated.cites; entry = entry; size = size }

-- the piece that is put is the one that the document makes
piece-checked : (known : List NamedCode) (id document : List ℕ) (stated : DocumentValue) (p : PieceValue) (entry : Entry) (checked : Checked)
    → p ≡ record { id = id; document = document; evidence = stated.evidence; cites = stated.cites; entry = entry; size = checked.size } → entry ≡ stated_entry stated.evidence
    → IsCheck known stated.evidence (Ok checked) → p ≡ piece_of known id document stated
piece-checked known id document stated p entry checked is at check =
    is ∙ ap (λ (e : Entry). piece_with id document stated e checked.size) at
    ∙ ap (λ (size : Option ℕ). piece_with id document stated (stated_entry stated.evidence) size) check.size

-- what holds of the pieces with the one that is put at their end, which is the one that its document makes, and of what it gives
pub record IsPut (items new : List PieceValue) (id document : List ℕ) (stated : DocumentValue) (checked : Checked) (total : ℕ) : Type 0 where
  pub made : submitted items id document ≡ Ok (piece_of (codes_of items) id document stated)
  pub pieces : new ≡ items ++ piece_of (codes_of items) id document stated ∷ []
  pub standing : AreStanding new
  pub stored : total ≡ stored_words new
  pub kept : (codes : List (Option CodeValue)) → AreKept codes (kept_codes items) → AreKept (codes ++ checked.kept ∷ []) (kept_codes new)
  pub supports : supports_of new ≡ supports_of items ++ checked.support ∷ []

-- so it is, where the pieces that the invariant speaks of are those that stand
pub is-put : (items now new : List PieceValue) (id document : List ℕ) (stated : DocumentValue) (checked : Checked) (stored total : ℕ) (p : PieceValue) (entry : Entry) → items ≡ now
    → AreStanding items → stored ≡ stored_words items → document_read_of document ≡ Ok stated → IsTrue (is_id id) → has_id id now ≡ false → length now < MAX_PIECES
    → IsCheck (codes_of items) stated.evidence (Ok checked) → total ≡ stored + stored_for (kind_of stated.evidence) checked.size → total ≤ MAX_STORED
    → p ≡ record { id = id; document = document; evidence = stated.evidence; cites = stated.cites; entry = entry; size = checked.size } → entry ≡ stated_entry stated.evidence
    → new ≡ items ++ p ∷ [] → IsPut items new id document stated checked total
is-put items now new id document stated checked stored total p entry same standing sum read named free room check is few put at pushed =
    let known = codes_of items in
    let made = piece_of known id document stated in
    let not_taken = subst (λ (ps : List PieceValue). has_id id ps ≡ false) (sym same) free in
    let some_room = subst (λ (ps : List PieceValue). length ps < MAX_PIECES) (sym same) room in
    let words = is ∙ ap (λ (s : ℕ). s + stored_for (kind_of stated.evidence) checked.size) sum in
    let was = was-made items id document stated checked total read not_taken some_room check words few in
    let more : new ≡ items ++ made ∷ [] = pushed ∙ ap (λ (q : PieceValue). items ++ q ∷ []) (piece-checked known id document stated p entry checked put at check) in
    let back = sym more in
    record {
      made = submitted-from items id document made was;
      pieces = more;
      standing = subst AreStanding back (AreStanding-made items id document made standing named was.made was.free was.room was.small);
      stored = stored-more items id document stated checked total check words ∙ ap stored_words back;
      kept = λ codes h. subst (λ (ps : List PieceValue). AreKept (codes ++ checked.kept ∷ []) (kept_codes ps)) back (kept-more items id document stated checked codes h check);
      supports =
          ap supports_of more ∙ supports-push items made
          ∙ ap (λ (s : Support). supports_of items ++ s ∷ []) (sym (check.support ∙ ap (λ (size : Option ℕ). (kind_of stated.evidence).gives size) check.size));
    }
