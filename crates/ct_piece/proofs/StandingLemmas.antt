-- What holds of the pieces of a ledger is kept as pieces come and go.
use Rattle.std.proofs.Common.{◌≡◌, ◌≢◌, ℕ, ◌+◌, ◌≤◌, ◌<◌, Bool, true, false, ◌||◌, cond, List, [], ◌∷◌, ◌++◌, length, Option, Some, None, option_map, Result, Ok, Err, refl, sym, ap, subst, ◌∙◌, arith, nat_le, leb-true, length-append, get_or}
use Rattle.std.proofs.Math.ListN.{get_or-append}
use Rattle.std.proofs.lemmas.Bool.{lt-leb, le-leb, leb-false}
use Rattle.std.specs.Prelude.{All, filter, IfSome, IsTrue}
use Rattle.std.specs.Str.{bytes_eq}
use Rattle.std.proofs.lemmas.List.Elements.{All-push, All-nil, All-cons, All-get_or, All-filter}
use Rattle.std.proofs.lemmas.List.Kept.{AllPairs-filter}
use Rattle.std.proofs.lemmas.List.Quantifiers.{all_pairs_push}
use Rattle.std.proofs.lemmas.List.Sums.{sum_by_push, sum_by-cons}
use Rattle.std.proofs.lemmas.Slice.Eq.{bytes_eq-Decides}
use Rattle.ct_words.specs.declared.entry.Entry.{Entry}
use Rattle.ct_words.specs.Code.{IsCodeOf, IsTrueLower}
use Rattle.ct_names.specs.Id.{is_id}
use Rattle.ct_fields.specs.declared.document.TheConstants.{MAX_DOCUMENT}
use Rattle.ct_fields.specs.declared.fault.DocumentFault.{DocumentFault}
use Rattle.ct_files.specs.Document.{DocumentValue, document_without_limit, document_read_of}
use Rattle.ct_files.proofs.Documents.{document_without_limit-right, document_read_of-within, document_read_of-without_limit}
use Rattle.ct_kind.specs.Named.{NamedCode}
use Rattle.ct_files.specs.ByKind.{stated_entry, words_over}
use Rattle.ct_piece.specs.Piece.{PieceValue, has_id, stored_by, stored_words, first_user}
use Rattle.ct_piece.specs.Codes.{named_code, codes_of}
use Rattle.ct_piece.specs.Submission.{piece_from, submitted, with_piece}
use Rattle.ct_piece.specs.Inside.Making.{stored_beside, unless_full}
use Rattle.ct_piece.specs.Withdrawal.{without, withdrawn, unless_used, left_by}
use Rattle.ct_piece.specs.Standing.{AreStanding, IsMade, AreMade, HasTrueSize}
use Rattle.ct_piece.specs.declared.limits.TheConstants.{MAX_PIECES, MAX_STORED}
use Rattle.ct_kind.specs.declared.fault.SubmitFault.{SubmitFault}
use Rattle.ct_kind.specs.declared.fault.SubmitFault.TheVariants as fault
use Rattle.ct_piece.specs.declared.fault.WithdrawFault.{WithdrawFault}
use Rattle.ct_piece.specs.declared.fault.WithdrawFault.TheVariants as withdraw
use Rattle.ct_piece.proofs.CodeLemmas.{AreMade-append, AreMade-front}
use Rattle.ct_kind.specs.Sound.{AreSound, HasSoundCode}
use Rattle.ct_files.proofs.StatedByKind.{IsRight, states_code}
use Rattle.ct_piece.proofs.MakingLemmas.{making, making-of, IsMade-sound}
use Rattle.ct_piece.proofs.LeavingLemmas.{other_than, ArePassed, passing, AreMade-passing, ArePassed-others}

-- a piece that is made has the id and the document that it is made of
pub piece_from-names : (known : List NamedCode) (id document : List ℕ) (read : Result DocumentValue DocumentFault) (p : PieceValue) → piece_from known id document read ≡ Ok p
    → (p.id ≡ id) × (p.document ≡ document)
piece_from-names known id document read p h =
    let m = making known id document read p h in
    (ap (λ (q : PieceValue). q.id) (sym m.piece), ap (λ (q : PieceValue). q.document) (sym m.piece))

-- a document that makes a piece is within the limit
pub piece_from-within : (known : List NamedCode) (id document : List ℕ) (p : PieceValue) → piece_from known id document (document_read_of document) ≡ Ok p → length document ≤ MAX_DOCUMENT
piece_from-within known id document p h = let m = making known id document (document_read_of document) p h in document_read_of-within document m.stated m.is

-- a piece that a document makes is made by its own document
pub piece_from-made : (known : List NamedCode) (id document : List ℕ) (p : PieceValue) → piece_from known id document (document_read_of document) ≡ Ok p → IsMade known p
piece_from-made known id document p h =
    let m = making known id document (document_read_of document) p h in
    let names = piece_from-names known id document (document_read_of document) p h in
    let read = sym (document_read_of-without_limit document m.stated m.is) in
    let made = subst (λ (r : Result DocumentValue DocumentFault). piece_from known id document r ≡ Ok p) (m.is ∙ read) h in
    subst (λ (i : List ℕ). piece_from known i p.document (document_without_limit p.document) ≡ Ok p) (sym names.0)
    (subst (λ (d : List ℕ). piece_from known id d (document_without_limit d) ≡ Ok p) (sym names.1) made)

-- so many words as a code of the entry has are a true lower bound
true-size : (e : Entry) (words : Option (List ℕ)) → IfSome words (λ ws. (1 ≤ length ws) × IsCodeOf e ws) → IfSome (option_map length words) (IsTrueLower e)
true-size e None code = tt
true-size e (Some words) code = (words, code.1, refl)

-- the size of a piece that is made over codes is that of a code of its entry, where its kind has a code
pub IsMade-true : (known : List NamedCode) (p : PieceValue) → AreSound known → IsMade known p → HasTrueSize p
IsMade-true known p sound h =
    let m = making-of known p h in
    let right : IsRight known m.stated.evidence = record { sound = (document_without_limit-right p.document m.stated m.is).0; faultless = m.faultless } in
    let states = states_code known m.stated.evidence sound right in
    subst HasTrueSize m.piece
    (λ coded. subst (λ (size : Option ℕ). IfSome size (IsTrueLower (stated_entry m.stated.evidence))) (sym (states.size coded)) (true-size (stated_entry m.stated.evidence) (words_over known m.stated.evidence) states.code))

-- and so for pieces that are made
AreMade-true : (known : List NamedCode) (ps : List PieceValue) → AreSound known → AreMade known ps → All HasTrueSize ps
AreMade-true known [] sound h = All-nil HasTrueSize
AreMade-true known (p ∷ ps) sound h =
    let own = named_code known p in
    All-cons HasTrueSize p ps (IsMade-true known p sound h.0) (AreMade-true (known ++ own ∷ []) ps (All-push HasSoundCode known own sound (IsMade-sound known p sound h.0)) h.1)

-- no piece has an id that is not taken
pub has_id-none : (id : List ℕ) (pieces : List PieceValue) → has_id id pieces ≡ false → All (λ (q : PieceValue). q.id ≢ id) pieces
has_id-none id [] h = All-nil (λ (q : PieceValue). q.id ≢ id)
has_id-none id (p ∷ pieces) h = at (bytes_eq p.id id) refl h (has_id-none id pieces) where
  at : (b : Bool) → bytes_eq p.id id ≡ b → (b || has_id id pieces) ≡ false → (has_id id pieces ≡ false → All (λ (q : PieceValue). q.id ≢ id) pieces) → All (λ (q : PieceValue). q.id ≢ id) (p ∷ pieces)
  at true e h rest = absurd cc
  at false e h rest = All-cons (λ (q : PieceValue). q.id ≢ id) p pieces (λ same. let yes = (bytes_eq-Decides p.id id).1 same in absurd cc) (rest h)

-- one more piece stands with the others
pub AreStanding-push : (pieces : List PieceValue) (p : PieceValue) → AreStanding pieces → IsMade (codes_of pieces) p → IsTrue (is_id p.id) → has_id p.id pieces ≡ false → length pieces < MAX_PIECES
    → stored_words pieces + stored_by p ≤ MAX_STORED → AreStanding (pieces ++ p ∷ [])
AreStanding-push pieces p h made named free room small = record {
  named = All-push (λ (q : PieceValue). IsTrue (is_id q.id)) pieces p h.named named;
  made = AreMade-append [] pieces (p ∷ []) h.made (made, tt);
  different = all_pairs_push (λ (q r : PieceValue). q.id ≢ r.id) pieces p h.different (λ k d below. All-get_or (λ (q : PieceValue). q.id ≢ p.id) pieces k d below (has_id-none p.id pieces free));
  few = omega (arith, length-append pieces (p ∷ []), room);
  small = rw (sum_by_push stored_by pieces p) small;
}

-- the words of some of the pieces are no more than those of all
stored-filter : (test : PieceValue → Bool) (pieces : List PieceValue) → stored_words (filter test pieces) ≤ stored_words pieces
stored-filter test [] = omega arith
stored-filter test (p ∷ pieces) = at (test p) (stored-filter test pieces) where
  at : (b : Bool) → stored_words (filter test pieces) ≤ stored_words pieces → stored_words (cond b (p ∷ filter test pieces) (filter test pieces)) ≤ stored_words (p ∷ pieces)
  at true rest = omega (arith, sum_by-cons stored_by p (filter test pieces), sum_by-cons stored_by p pieces, rest)
  at false rest = omega (arith, sum_by-cons stored_by p pieces, rest)

length-filter : (test : PieceValue → Bool) (pieces : List PieceValue) → length (filter test pieces) ≤ length pieces
length-filter test [] = omega arith
length-filter test (p ∷ pieces) = at (test p) (length-filter test pieces) where
  at : (b : Bool) → length (filter test pieces) ≤ length pieces → length (cond b (p ∷ filter test pieces) (filter test pieces)) ≤ length (p ∷ pieces)
  at true rest = omega (arith, rest)
  at false rest = omega (arith, rest)

-- the pieces whose ids pass a test stand, where all do and the parts of each of them pass it
pub AreStanding-passing : (pieces : List PieceValue) (test : List ℕ → Bool) → AreStanding pieces → ArePassed test pieces → AreStanding (passing test pieces)
AreStanding-passing pieces test h all =
    let own : PieceValue → Bool = λ (q : PieceValue). test q.id in
    record {
      made = AreMade-passing test pieces h.made all;
      named = All-filter own (λ (q : PieceValue). IsTrue (is_id q.id)) pieces h.named;
      different = AllPairs-filter (λ (q r : PieceValue). q.id ≢ r.id) own pieces h.different;
      few = omega (arith, length-filter own pieces, h.few);
      small = omega (arith, stored-filter own pieces, h.small);
    }

-- the pieces but for one that none names stand, where all do
pub AreStanding-without : (pieces : List PieceValue) (id : List ℕ) → AreStanding pieces → first_user id pieces ≡ None → AreStanding (without id pieces)
AreStanding-without pieces id h none = AreStanding-passing pieces (other_than id) h (ArePassed-others id pieces none)

-- the pieces but for the last stand
pub AreStanding-front : (front : List PieceValue) (p : PieceValue) → AreStanding (front ++ p ∷ []) → AreStanding front
AreStanding-front front p h =
    let all = length-append front (p ∷ []) in
    let same : (i : ℕ) (d : PieceValue) → i < length front → get_or (front ++ p ∷ []) i d ≡ get_or front i d = λ i d within. get_or-append front (p ∷ []) d i within in
    record {
      made = AreMade-front [] front (p ∷ []) h.made;
      named = λ i d within. subst (λ (q : PieceValue). IsTrue (is_id q.id)) (same i d within) (h.named i d (omega arith));
      different = λ i j d below within equal.
          h.different i j d below (omega arith)
          (ap (λ (q : PieceValue). q.id) (same i d (omega arith)) ∙ equal ∙ ap (λ (q : PieceValue). q.id) (sym (same j d within)));
      few = omega (arith, all, h.few);
      small = omega (arith, sum_by_push stored_by front p, h.small);
    }

-- no pieces stand
pub AreStanding-none : AreStanding []
AreStanding-none = record {
  made = tt;
  named = All-nil (λ (q : PieceValue). IsTrue (is_id q.id));
  different = λ i j d below within. absurd (omega arith);
  few = omega arith;
  small = omega arith;
}

-- the sizes of pieces that stand are those of codes
pub AreStanding-true : (pieces : List PieceValue) → AreStanding pieces → All HasTrueSize pieces
AreStanding-true pieces h = AreMade-true [] pieces (All-nil HasSoundCode) h.made

-- where an id is free and there is room, a submission is what its document makes, where that may be stored
pub submitted-beside : (pieces : List PieceValue) (id document : List ℕ) (made : Result PieceValue SubmitFault) → has_id id pieces ≡ false → length pieces < MAX_PIECES
    → piece_from (codes_of pieces) id document (document_read_of document) ≡ made → submitted pieces id document ≡ stored_beside (stored_words pieces) made
unfolding submitted
submitted-beside pieces id document made free room is =
    let stored = stored_words pieces in
    let below : nat_le MAX_PIECES (length pieces) ≡ false = lt-leb MAX_PIECES (length pieces) room in
    ap (λ (taken : Bool). unless_full taken (length pieces) (stored_beside stored (piece_from (codes_of pieces) id document (document_read_of document)))) free
    ∙ ap (λ (full : Bool). cond full (Err (fault.FullPieces (length pieces))) (stored_beside stored (piece_from (codes_of pieces) id document (document_read_of document)))) below
    ∙ ap (stored_beside stored) is

-- one more piece stands with the others, which its document makes under an id that is not taken
pub AreStanding-made : (pieces : List PieceValue) (id document : List ℕ) (p : PieceValue) → AreStanding pieces → IsTrue (is_id id) → piece_from (codes_of pieces) id document (document_read_of document) ≡ Ok p → has_id id pieces ≡ false → length pieces < MAX_PIECES
    → stored_words pieces + stored_by p ≤ MAX_STORED → AreStanding (pieces ++ p ∷ [])
AreStanding-made pieces id document p h named made free room small =
    let names = piece_from-names (codes_of pieces) id document (document_read_of document) p made in
    AreStanding-push pieces p h (piece_from-made (codes_of pieces) id document p made) (subst (λ (i : List ℕ). IsTrue (is_id i)) (sym names.0) named) (ap (λ i. has_id i pieces) names.0 ∙ free) room small

-- what a submission that makes a piece was asked
pub record WasMade (pieces : List PieceValue) (id document : List ℕ) (p : PieceValue) : Type 0 where
  pub free : has_id id pieces ≡ false
  pub room : length pieces < MAX_PIECES
  pub made : piece_from (codes_of pieces) id document (document_read_of document) ≡ Ok p
  pub small : stored_words pieces + stored_by p ≤ MAX_STORED

if_stored-ok : (total : ℕ) (q p : PieceValue) (b : Bool) → nat_le total MAX_STORED ≡ b → cond b (Ok q) (Err (fault.FullWords total)) ≡ Ok p → (q ≡ p) × (total ≤ MAX_STORED)
if_stored-ok total q p true e h = (cc, leb-true total MAX_STORED e)
if_stored-ok total q p false e h = absurd cc

pub stored_beside-ok : (stored : ℕ) (made : Result PieceValue SubmitFault) (p : PieceValue) → stored_beside stored made ≡ Ok p → (made ≡ Ok p) × (stored + stored_by p ≤ MAX_STORED)
stored_beside-ok stored (Ok q) p h =
    let both = if_stored-ok (stored + stored_by q) q p (nat_le (stored + stored_by q) MAX_STORED) refl h in
    (ap Ok both.0, subst (λ (r : PieceValue). stored + stored_by r ≤ MAX_STORED) both.0 both.1)
stored_beside-ok stored (Err reason) p h = absurd cc

room-ok : (count : ℕ) (made : Result PieceValue SubmitFault) (p : PieceValue) (b : Bool) → nat_le MAX_PIECES count ≡ b → cond b (Err (fault.FullPieces count)) made ≡ Ok p → (count < MAX_PIECES) × (made ≡ Ok p)
room-ok count made p true e h = absurd cc
room-ok count made p false e h = (leb-false MAX_PIECES count e, h)

pub unless_full-ok : (taken : Bool) (count : ℕ) (made : Result PieceValue SubmitFault) (p : PieceValue) → unless_full taken count made ≡ Ok p → (taken ≡ false) × (count < MAX_PIECES) × (made ≡ Ok p)
unless_full-ok true count made p h = absurd cc
unless_full-ok false count made p h = let rest = room-ok count made p (nat_le MAX_PIECES count) refl h in (refl, rest.0, rest.1)

pub submitted-ok : (pieces : List PieceValue) (id document : List ℕ) (p : PieceValue) → submitted pieces id document ≡ Ok p → WasMade pieces id document p
unfolding submitted
submitted-ok pieces id document p h =
    let whole = unless_full-ok (has_id id pieces) (length pieces) (stored_beside (stored_words pieces) (piece_from (codes_of pieces) id document (document_read_of document))) p h in
    let made = stored_beside-ok (stored_words pieces) (piece_from (codes_of pieces) id document (document_read_of document)) p whole.2 in
    record { free = whole.0; room = whole.1; made = made.0; small = made.1 }

-- and it makes it again over any pieces that are asked the same
pub submitted-from : (pieces : List PieceValue) (id document : List ℕ) (p : PieceValue) → WasMade pieces id document p → submitted pieces id document ≡ Ok p
submitted-from pieces id document p h =
    submitted-beside pieces id document (Ok p) h.free h.room h.made
    ∙ ap (λ (fits : Bool). cond fits (Ok p) (Err (fault.FullWords (stored_words pieces + stored_by p)))) (le-leb (stored_words pieces + stored_by p) MAX_STORED h.small)

-- the pieces after a submission stand, where those before it do
pub AreStanding-submitted : (pieces : List PieceValue) (id document : List ℕ) (made : Result PieceValue SubmitFault) → IsTrue (is_id id) → submitted pieces id document ≡ made → AreStanding pieces → AreStanding (with_piece pieces made)
AreStanding-submitted pieces id document (Ok p) named is h = let was = submitted-ok pieces id document p is in AreStanding-made pieces id document p h named was.made was.free was.room was.small
AreStanding-submitted pieces id document (Err reason) named is h = h

unless_used-standing : (user : Option PieceValue) (id : List ℕ) (pieces : List PieceValue) → first_user id pieces ≡ user → AreStanding pieces → AreStanding (left_by pieces (unless_used user (without id pieces)))
unless_used-standing None id pieces none h = AreStanding-without pieces id h none
unless_used-standing (Some user) id pieces used h = h

withdrawn-standing : (b : Bool) (left : Result (List PieceValue) WithdrawFault) (reason : WithdrawFault) (pieces : List PieceValue) → AreStanding pieces → AreStanding (left_by pieces left) → AreStanding (left_by pieces (cond b left (Err reason)))
withdrawn-standing true left reason pieces h k = k
withdrawn-standing false left reason pieces h k = h

-- the pieces after a withdrawal stand, where those before it do
pub AreStanding-withdrawn : (pieces : List PieceValue) (id : List ℕ) → AreStanding pieces → AreStanding (left_by pieces (withdrawn pieces id))
unfolding withdrawn
AreStanding-withdrawn pieces id h =
    withdrawn-standing (has_id id pieces) (unless_used (first_user id pieces) (without id pieces)) withdraw.NoSuch pieces h (unless_used-standing (first_user id pieces) id pieces refl h)
