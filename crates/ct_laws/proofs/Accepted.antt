-- Which submissions are accepted.
use Rattle.std.proofs.Common.{◌≡◌, ℕ, ◌≤◌, Bool, true, false, ◌||◌, List, [], ◌∷◌, length, map, Option, Some, None, option_map, Ok, refl, sym, ap, ◌∙◌, subst, inl, inr, ◌↔◌, lit<, arith}
use Rattle.std.specs.Prelude.{All, Contains, IfSome, IsTrue}
use Rattle.std.specs.Str.{bytes_eq}
use Rattle.std.proofs.lemmas.List.Elements.{All-weaker, Contains-append_left, Contains-append_right, Contains-append_cases, All-contains, All-cons, All-nil}
use Rattle.std.proofs.lemmas.Slice.Eq.{bytes_eq-Decides}
use Rattle.ct_words.specs.declared.entry.Entry.{Entry}
use Rattle.ct_words.specs.Code.{IsCodeOf}
use Rattle.ct_words.specs.Pairs.{first_of}
use Rattle.ct_fields.specs.declared.document.TheConstants.{MAX_DOCUMENT}
use Rattle.ct_files.specs.Document.{document_read_of}
use Rattle.ct_files.proofs.Documents.{document_read_of-right}
use Rattle.ct_kind.specs.Named.{is_known, first_missing}
use Rattle.ct_files.specs.ByKind.{stated_entry, ids_of_parts, own_reason, words_over}
use Rattle.ct_piece.specs.Piece.{PieceValue, has_id}
use Rattle.ct_piece.specs.Codes.{codes_of}
use Rattle.ct_piece.specs.Submission.{piece_of, piece_from, submitted, IsAccepted}
use Rattle.ct_piece.specs.Inside.Making.{made_unless}
use Rattle.ct_piece.specs.Standing.{AreStanding}
use Rattle.ct_kind.specs.declared.fault.SubmitFault.{SubmitFault}
use Rattle.ct_kind.specs.declared.fault.SubmitFault.TheVariants as fault
use Rattle.ct_piece.proofs.Accepting.{not_taken}
use Rattle.ct_piece.proofs.CodeLemmas.{known_where_taken}
use Rattle.ct_kind.specs.Sound.{HasSoundCode}
use Rattle.ct_laws.proofs.OwnReasons.{no_own_reason}
use Rattle.ct_files.proofs.StatedByKind.{IsRight, right-parts, states_code}
use Rattle.ct_piece.proofs.MakingLemmas.{none_missing, none_missing-from, making, codes_after-sound}
use Rattle.ct_piece.proofs.StandingLemmas.{WasMade, submitted-ok, submitted-from, has_id-none, piece_from-within}

-- a list begins with its first item, and holds those of the rest
contains_first : (x : List ℕ) (xs : List (List ℕ)) → Contains (x ∷ xs) x
contains_first x xs = Contains-append_left (x ∷ []) xs x (0, lit< tt, refl)

only_one : (y x : List ℕ) → Contains (y ∷ []) x → y ≡ x
only_one y x there = All-contains (λ (z : List ℕ). y ≡ z) (y ∷ []) x (All-cons (λ (z : List ℕ). y ≡ z) y [] refl (All-nil (λ (z : List ℕ). y ≡ z))) there

pub taken : (id : List ℕ) (pieces : List PieceValue) → IsTrue (has_id id pieces) ↔ Contains (map (λ (p : PieceValue). p.id) pieces) id
taken id [] = (λ h. absurd cc, λ there. absurd (omega (arith, there.1)))
taken id (p ∷ pieces) = at (bytes_eq p.id id) refl (taken id pieces) where
  ids : List (List ℕ)
  ids = map (λ (q : PieceValue). q.id) pieces

  at : (b : Bool) → bytes_eq p.id id ≡ b → IsTrue (has_id id pieces) ↔ Contains ids id → IsTrue (b || has_id id pieces) ↔ Contains (p.id ∷ ids) id
  at true e rest = (λ h. subst (λ (x : List ℕ). Contains (x ∷ ids) id) (sym ((bytes_eq-Decides p.id id).0 e)) (contains_first id ids), λ there. refl)
  at false e rest = (
    λ h. Contains-append_right (p.id ∷ []) ids id (rest.0 h),
    λ there. elim (Contains-append_cases (p.id ∷ []) ids id there) [
      | inl one ↦ absurd (let yes = (bytes_eq-Decides p.id id).1 (only_one p.id id one) in cc)
      | inr later ↦ rest.1 later
    ],
  )

-- the ids that are known are those of pieces
known_where_taken-is : (id : List ℕ) (pieces : List PieceValue) → (is_known id (codes_of pieces) ≡ true) ↔ Contains (map (λ (p : PieceValue). p.id) pieces) id
known_where_taken-is id pieces =
    let same = known_where_taken id [] pieces in
    let held = taken id pieces in
    (λ h. held.0 (sym same ∙ h), λ there. same ∙ held.1 there)

pub known-stand : (pieces : List PieceValue) (ids : List (List ℕ)) → All (λ (id : List ℕ). is_known id (codes_of pieces) ≡ true) ids → All (Contains (map (λ (p : PieceValue). p.id) pieces)) ids
known-stand pieces ids known =
    All-weaker (λ (id : List ℕ). is_known id (codes_of pieces) ≡ true) (Contains (map (λ (p : PieceValue). p.id) pieces)) (λ id h. (known_where_taken-is id pieces).0 h) ids known

pub stand-known : (pieces : List PieceValue) (ids : List (List ℕ)) → All (Contains (map (λ (p : PieceValue). p.id) pieces)) ids → All (λ (id : List ℕ). is_known id (codes_of pieces) ≡ true) ids
stand-known pieces ids there =
    All-weaker (Contains (map (λ (p : PieceValue). p.id) pieces)) (λ (id : List ℕ). is_known id (codes_of pieces) ≡ true) (λ id h. (known_where_taken-is id pieces).1 h) ids there

pub parts_stand : (pieces : List PieceValue) (ids : List (List ℕ)) → first_missing (codes_of pieces) ids ≡ None → All (Contains (map (λ (p : PieceValue). p.id) pieces)) ids
parts_stand pieces ids none = known-stand pieces ids (none_missing (codes_of pieces) ids none)

pub parts_known : (pieces : List PieceValue) (ids : List (List ℕ)) → All (Contains (map (λ (p : PieceValue). p.id) pieces)) ids → first_missing (codes_of pieces) ids ≡ None
parts_known pieces ids there = none_missing-from (codes_of pieces) ids (stand-known pieces ids there)

-- the words of a code that has some are a code
only-code : (e : Entry) (words : Option (List ℕ)) → IfSome words (λ ws. (1 ≤ length ws) × IsCodeOf e ws) → IfSome words (IsCodeOf e)
only-code e None h = tt
only-code e (Some words) h = h.1

accepted_from : (pieces : List PieceValue) (id document : List ℕ) (p : PieceValue) → AreStanding pieces → WasMade pieces id document p → IsAccepted pieces id document p
accepted_from pieces id document p standing w =
    let known = codes_of pieces in
    let m = making known id document (document_read_of document) p w.made in
    let sound = codes_after-sound [] pieces (All-nil HasSoundCode) standing.made in
    let right : IsRight known m.stated.evidence = record { sound = (document_read_of-right document m.stated m.is).0; faultless = m.faultless } in
    let states = states_code known m.stated.evidence sound right in
    record {
      free = has_id-none id pieces w.free;
      room = w.room;
      stated = m.stated;
      read = m.is;
      parts = parts_stand pieces (ids_of_parts m.stated.evidence) (right-parts known m.stated.evidence right);
      checked = states.checked;
      code = only-code (stated_entry m.stated.evidence) (words_over known m.stated.evidence) states.code;
      small = w.small;
      piece = sym m.piece;
    }

made_from : (pieces : List PieceValue) (id document : List ℕ) (p : PieceValue) → IsAccepted pieces id document p → submitted pieces id document ≡ Ok p
made_from pieces id document p h =
    let known = codes_of pieces in
    let q = piece_of known id document h.stated in
    let own = no_own_reason known h.stated.evidence (document_read_of-right document h.stated h.read).0 h.checked in
    let none = ap (λ (o : Option (List ℕ)). first_of (option_map fault.NoSuch o) (own_reason known h.stated.evidence)) (parts_known pieces (ids_of_parts h.stated.evidence) h.parts) ∙ own in
    let made = ap (piece_from known id document) h.read ∙ ap (λ (reason : Option SubmitFault). made_unless reason q) none ∙ ap Ok (sym h.piece) in
    submitted-from pieces id document p (record { free = not_taken id pieces h.free; room = h.room; made = made; small = h.small })

pub accepted : (pieces : List PieceValue) (id document : List ℕ) (p : PieceValue) → AreStanding pieces → (submitted pieces id document ≡ Ok p) ↔ IsAccepted pieces id document p
accepted pieces id document p standing = (λ h. accepted_from pieces id document p standing (submitted-ok pieces id document p h), made_from pieces id document p)

-- a submission that is accepted has a document within the limit
pub accepted-within : (pieces : List PieceValue) (id document : List ℕ) (p : PieceValue) → submitted pieces id document ≡ Ok p → length document ≤ MAX_DOCUMENT
accepted-within pieces id document p h = let was = submitted-ok pieces id document p h in piece_from-within (codes_of pieces) id document p was.made
