-- What pieces give to the table: it stands where they do, and comes and goes with them.
use Rattle.std.proofs.Common.{◌≡◌, ◌≢◌, ℕ, zero, suc, ◌+◌, ◌-◌, ◌≤◌, ◌<◌, Bool, true, false, ◌||◌, cond, not, nat_lt, List, [], ◌∷◌, ◌++◌, length, map, get_or, Option, Some, None, Ok, Err, option_map, refl, sym, ap, subst, ◌∙◌, arith, ltb-true, ltb-false, length-append}
use Rattle.std.specs.Prelude.{All, AllPairs, IfSome, remove}
use Rattle.ct_piece.specs.declared.limits.TheConstants.{MAX_PIECES}
use Rattle.std.specs.List.{position_or_len}
use Rattle.std.specs.Str.{bytes_eq}
use Rattle.std.proofs.lemmas.List.{map-append, length-map}
use Rattle.std.proofs.lemmas.List.Sums.{sum_by-remove}
use Rattle.std.proofs.lemmas.List.Elements.{All-push, All-nil, All-cons, All-head, All-tail}
use Rattle.std.proofs.lemmas.Slice.Eq.{bytes_eq-Decides}
use Rattle.ct_rule_parts.specs.Support.{Stands, AllStand}
use Rattle.ct_files.specs.Document.{document_read_of}
use Rattle.ct_files.proofs.Documents.{document_without_limit-right}
use Rattle.ct_kind.specs.Named.{NamedCode}
use Rattle.ct_piece.specs.Piece.{PieceValue, has_id, first_user, stored_by, stored_words}
use Rattle.ct_piece.specs.Codes.{named_code, codes_of}
use Rattle.ct_piece.specs.Submission.{piece_from}
use Rattle.ct_piece.specs.Standing.{AreStanding, IsMade, AreMade}
use Rattle.ct_piece.specs.Supports.{support_of, supports_of}
use Rattle.ct_piece.specs.Withdrawal.{without, withdrawn, unless_used}
use Rattle.ct_piece.specs.declared.fault.WithdrawFault.TheVariants as fault
use Rattle.ct_files.specs.ByKind.{kept_over}
use Rattle.ct_piece.specs.Inside.Kept.{kept_codes}
use Rattle.ct_piece.specs.Piece.{place_of_id}
use Rattle.ct_piece.proofs.CodeLemmas.{is_named, AreMade-front, AreMade-back}
use Rattle.ct_kind.specs.Sound.{AreSound, HasSoundCode}
use Rattle.ct_kind.proofs.Stating.{option_map-none}
use Rattle.ct_files.proofs.StatedByKind.{IsRight, states_code}
use Rattle.ct_piece.proofs.MakingLemmas.{making-of, IsMade-sound, codes_after-sound}
use Rattle.ct_piece.proofs.LeavingLemmas.{kept-remove}
use Rattle.ct_piece.proofs.StandingLemmas.{piece_from-made, AreStanding-without, AreStanding-front}
use Rattle.ct_piece.proofs.KeptLemmas.{length-kept_codes, kept_codes-push}

-- what a piece gives that is made over codes stands
pub IsMade-stands : (known : List NamedCode) (p : PieceValue) → AreSound known → IsMade known p → Stands (support_of p)
IsMade-stands known p sound h =
    let m = making-of known p h in
    let right : IsRight known m.stated.evidence = record { sound = (document_without_limit-right p.document m.stated m.is).0; faultless = m.faultless } in
    let states = states_code known m.stated.evidence sound right in
    subst (λ (q : PieceValue). Stands (support_of q)) m.piece states.stands

-- and so does what a piece gives that its document makes over pieces that stand
pub made_stands : (pieces : List PieceValue) (id document : List ℕ) (p : PieceValue) → AreStanding pieces → piece_from (codes_of pieces) id document (document_read_of document) ≡ Ok p → Stands (support_of p)
made_stands pieces id document p h made =
    IsMade-stands (codes_of pieces) p (codes_after-sound [] pieces (All-nil HasSoundCode) h.made) (piece_from-made (codes_of pieces) id document p made)

-- and so for pieces that are made
AreMade-stand : (known : List NamedCode) (ps : List PieceValue) → AreSound known → AreMade known ps → All Stands (supports_of ps)
AreMade-stand known [] sound h = All-nil Stands
AreMade-stand known (p ∷ ps) sound h =
    let own = named_code known p in
    All-cons Stands (support_of p) (supports_of ps) (IsMade-stands known p sound h.0)
    (AreMade-stand (known ++ own ∷ []) ps (All-push HasSoundCode known own sound (IsMade-sound known p sound h.0)) h.1)

-- what pieces give that stand, stands
pub supports_stand : (pieces : List PieceValue) → AreStanding pieces → AllStand (supports_of pieces)
supports_stand pieces h = AreMade-stand [] pieces (All-nil HasSoundCode) h.made

-- so does what the last of them gives
pub last_stands : (front : List PieceValue) (p : PieceValue) → AreStanding (front ++ p ∷ []) → Stands (support_of p)
last_stands front p h =
    let sound = codes_after-sound [] front (All-nil HasSoundCode) (AreMade-front [] front (p ∷ []) h.made) in
    IsMade-stands (codes_of front) p sound (AreMade-back [] front (p ∷ []) h.made).0

-- one more piece gives one more support, at the end
pub supports-push : (pieces : List PieceValue) (p : PieceValue) → supports_of (pieces ++ p ∷ []) ≡ supports_of pieces ++ support_of p ∷ []
supports-push pieces p = map-append support_of pieces (p ∷ [])

-- without the item at a place, the others are mapped as before
map-remove : {X Y : Type 0} (f : X → Y) (xs : List X) (k : ℕ) → map f (remove xs k) ≡ remove (map f xs) k
map-remove f [] zero = refl
map-remove f [] (suc k) = refl
map-remove f (x ∷ xs) zero = refl
map-remove f (x ∷ xs) (suc k) = ap (λ ys. f x ∷ ys) (map-remove f xs k)

-- without the piece at a place, the others give what they gave
pub supports-remove : (pieces : List PieceValue) (k : ℕ) → supports_of (remove pieces k) ≡ remove (supports_of pieces) k
supports-remove pieces k = map-remove support_of pieces k

-- different ids
abbrev pub AreDifferent : List PieceValue → Type 0
AreDifferent pieces = AllPairs (λ (p q : PieceValue). p.id ≢ q.id) pieces

different-head : (p : PieceValue) (ps : List PieceValue) → AreDifferent (p ∷ ps) → All (λ (q : PieceValue). p.id ≢ q.id) ps
different-head p ps h = λ i d within. h zero (suc i) d (omega arith) (omega arith)

different-tail : (p : PieceValue) (ps : List PieceValue) → AreDifferent (p ∷ ps) → AreDifferent ps
different-tail p ps h = λ i j d below within. h (suc i) (suc j) d (omega arith) (omega arith)

-- where no piece has an id, none is left out
without-none : (id : List ℕ) (ps : List PieceValue) → All (λ (q : PieceValue). id ≢ q.id) ps → without id ps ≡ ps
without-none id [] h = refl
without-none id (p ∷ ps) h = at (bytes_eq p.id id) refl (without-none id ps (All-tail (λ (q : PieceValue). id ≢ q.id) p ps h)) where
  at : (b : Bool) → bytes_eq p.id id ≡ b → without id ps ≡ ps → cond (not b) (p ∷ without id ps) (without id ps) ≡ p ∷ ps
  at true e rest = absurd (All-head (λ (q : PieceValue). id ≢ q.id) p ps h (sym ((bytes_eq-Decides p.id id).0 e)))
  at false e rest = ap (λ qs. p ∷ qs) rest

-- where ids are different, the pieces but for those with an id are those but for the first with it
without-first : (id : List ℕ) (ps : List PieceValue) → AreDifferent ps → position_or_len (is_named id) ps < length ps
    → without id ps ≡ remove ps (position_or_len (is_named id) ps)
without-first id [] h below = absurd (omega arith)
without-first id (p ∷ ps) h below = at (bytes_eq p.id id) refl below (without-first id ps (different-tail p ps h)) where
  place : ℕ
  place = position_or_len (is_named id) ps

  at : (b : Bool) → bytes_eq p.id id ≡ b → cond (not b) (1 + place) 0 < length (p ∷ ps) → (place < length ps → without id ps ≡ remove ps place)
      → cond (not b) (p ∷ without id ps) (without id ps) ≡ remove (p ∷ ps) (cond (not b) (1 + place) 0)
  at true e within rest =
      let same = (bytes_eq-Decides p.id id).0 e in
      without-none id ps (subst (λ (i : List ℕ). All (λ (q : PieceValue). i ≢ q.id) ps) same (different-head p ps h))
  at false e within rest =
      let step : suc place ≡ 1 + place = omega arith in
      ap (λ qs. p ∷ qs) (rest (omega arith)) ∙ ap (remove (p ∷ ps)) step

-- whether a piece has an id shows in its place
has_id-found : (id : List ℕ) (ps : List PieceValue) → position_or_len (is_named id) ps < length ps → has_id id ps ≡ true
has_id-found id [] below = absurd (omega arith)
has_id-found id (p ∷ ps) below = at (bytes_eq p.id id) below (has_id-found id ps) where
  at : (b : Bool) → cond (not b) (1 + position_or_len (is_named id) ps) 0 < length (p ∷ ps)
      → (position_or_len (is_named id) ps < length ps → has_id id ps ≡ true) → (b || has_id id ps) ≡ true
  at true within rest = refl
  at false within rest = rest (omega arith)

has_id-missing : (id : List ℕ) (ps : List PieceValue) → length ps ≤ position_or_len (is_named id) ps → has_id id ps ≡ false
has_id-missing id [] past = refl
has_id-missing id (p ∷ ps) past = at (bytes_eq p.id id) past (has_id-missing id ps) where
  at : (b : Bool) → length (p ∷ ps) ≤ cond (not b) (1 + position_or_len (is_named id) ps) 0
      → (length ps ≤ position_or_len (is_named id) ps → has_id id ps ≡ false) → (b || has_id id ps) ≡ false
  at true within rest = absurd (omega arith)
  at false within rest = rest (omega arith)

-- what is known of the place of a piece with the id
pub record IsPlaceOf (id : List ℕ) (ps : List PieceValue) (k : ℕ) : Type 0 where
  pub within : k < length ps
  pub at : position_or_len (is_named id) ps ≡ k
  pub named : has_id id ps ≡ true
  pub left : without id ps ≡ remove ps k

pub place_of_id-some : (id : List ℕ) (ps : List PieceValue) (k : ℕ) → AreDifferent ps → place_of_id id ps ≡ Some k → IsPlaceOf id ps k
place_of_id-some id ps k h is = at (nat_lt (position_or_len (is_named id) ps) (length ps)) refl is where
  at : (b : Bool) → nat_lt (position_or_len (is_named id) ps) (length ps) ≡ b → cond b (Some (position_or_len (is_named id) ps)) None ≡ Some k → IsPlaceOf id ps k
  at true e same =
      let within = ltb-true (position_or_len (is_named id) ps) (length ps) e in
      let place : position_or_len (is_named id) ps ≡ k = cc in
      record { within = omega arith; at = place; named = has_id-found id ps within; left = without-first id ps h within ∙ ap (remove ps) place }
  at false e same = absurd cc

-- whether a piece has an id shows in the place of the first with it
pub place_of_id-found : (id : List ℕ) (ps : List PieceValue) (k : ℕ) → place_of_id id ps ≡ Some k → has_id id ps ≡ true
place_of_id-found id ps k is = at (nat_lt (position_or_len (is_named id) ps) (length ps)) refl is where
  at : (b : Bool) → nat_lt (position_or_len (is_named id) ps) (length ps) ≡ b → cond b (Some (position_or_len (is_named id) ps)) None ≡ Some k → has_id id ps ≡ true
  at true e same = has_id-found id ps (ltb-true (position_or_len (is_named id) ps) (length ps) e)
  at false e same = absurd cc

pub place_of_id-none : (id : List ℕ) (ps : List PieceValue) → place_of_id id ps ≡ None → has_id id ps ≡ false
place_of_id-none id ps is = at (nat_lt (position_or_len (is_named id) ps) (length ps)) refl is where
  at : (b : Bool) → nat_lt (position_or_len (is_named id) ps) (length ps) ≡ b → cond b (Some (position_or_len (is_named id) ps)) None ≡ None → has_id id ps ≡ false
  at true e same = absurd cc
  at false e same = has_id-missing id ps (ltb-false (position_or_len (is_named id) ps) (length ps) e)

-- what a withdrawal comes to: no piece has the id, another names it, or the piece at its place goes
pub withdrawn-missing : (id : List ℕ) (ps : List PieceValue) → place_of_id id ps ≡ None → withdrawn ps id ≡ Err fault.NoSuch
unfolding withdrawn
withdrawn-missing id ps is = ap (λ (b : Bool). cond b (unless_used (first_user id ps) (without id ps)) (Err fault.NoSuch)) (place_of_id-none id ps is)

named-withdrawn : (id : List ℕ) (ps : List PieceValue) (k : ℕ) → AreDifferent ps → place_of_id id ps ≡ Some k → withdrawn ps id ≡ unless_used (first_user id ps) (remove ps k)
unfolding withdrawn
named-withdrawn id ps k h is =
    let place = place_of_id-some id ps k h is in
    ap (λ (b : Bool). cond b (unless_used (first_user id ps) (without id ps)) (Err fault.NoSuch)) place.named
    ∙ ap (unless_used (first_user id ps)) place.left

used-id : (o : Option PieceValue) (user : List ℕ) (rest : List PieceValue) → option_map (λ (p : PieceValue). p.id) o ≡ Some user → unless_used o rest ≡ Err (fault.InUse user)
used-id None user rest h = absurd cc
used-id (Some p) user rest h = let same : p.id ≡ user = cc in ap (λ (i : List ℕ). Err (fault.InUse i)) same

pub withdrawn-used : (id : List ℕ) (ps : List PieceValue) (k : ℕ) (user : List ℕ) → AreDifferent ps → place_of_id id ps ≡ Some k → option_map (λ (p : PieceValue). p.id) (first_user id ps) ≡ Some user
    → withdrawn ps id ≡ Err (fault.InUse user)
withdrawn-used id ps k user h is used = named-withdrawn id ps k h is ∙ used-id (first_user id ps) user (remove ps k) used

pub withdrawn-left : (id : List ℕ) (ps : List PieceValue) (k : ℕ) → AreDifferent ps → place_of_id id ps ≡ Some k → option_map (λ (p : PieceValue). p.id) (first_user id ps) ≡ None
    → withdrawn ps id ≡ Ok (remove ps k)
withdrawn-left id ps k h is free =
    named-withdrawn id ps k h is
    ∙ ap (λ (o : Option PieceValue). unless_used o (remove ps k)) (option_map-none (λ (p : PieceValue). p.id) (first_user id ps) free)

-- the pieces but for the one at the place of an id that none names stand, and give what the others gave
pub record IsLeft (id : List ℕ) (ps : List PieceValue) (k : ℕ) : Type 0 where
  pub within : k < length (supports_of ps)
  pub standing : AreStanding (remove ps k)
  pub supports : supports_of (remove ps k) ≡ remove (supports_of ps) k
  pub kept : kept_codes (remove ps k) ≡ remove (kept_codes ps) k
  pub stored : (d : PieceValue) → stored_words (remove ps k) + stored_by (get_or ps k d) ≡ stored_words ps

pub left_standing : (id : List ℕ) (ps : List PieceValue) (k : ℕ) → AreStanding ps → place_of_id id ps ≡ Some k → option_map (λ (p : PieceValue). p.id) (first_user id ps) ≡ None → IsLeft id ps k
left_standing id ps k h is free =
    let place = place_of_id-some id ps k h.different is in
    let none = option_map-none (λ (p : PieceValue). p.id) (first_user id ps) free in
    let long : length (supports_of ps) ≡ length ps = length-map ps support_of in
    let within = place.within in
    record {
      within = omega arith;
      standing = subst AreStanding place.left (AreStanding-without ps id h none);
      supports = supports-remove ps k;
      kept = subst (λ (i : ℕ). kept_codes (remove ps i) ≡ remove (kept_codes ps) i) place.at
          (kept-remove id [] ps h.different none (rw place.at place.within));
      stored = λ d. sum_by-remove stored_by ps k d place.within;
    }

-- a list without its last item
remove-last : {X : Type 0} (front : List X) (x : X) → remove (front ++ x ∷ []) (length front) ≡ front
remove-last [] x = refl
remove-last (y ∷ front) x = ap (λ ys. y ∷ ys) (remove-last front x)

pub remove_last : {X : Type 0} (xs front : List X) (x : X) → xs ≡ front ++ x ∷ [] → remove xs (length xs - 1) ≡ front
remove_last xs front x is =
    let long = length-append front (x ∷ []) in
    let size : length (front ++ x ∷ []) - 1 ≡ length front = omega (arith, long) in
    ap (λ ys. remove ys (length ys - 1)) is ∙ ap (remove (front ++ x ∷ [])) size ∙ remove-last front x

-- a list that is not empty has a last item
pub last_of : {X : Type 0} (xs : List X) → 0 < length xs → (front : List X) × (x : X) × (xs ≡ front ++ x ∷ [])
last_of [] some = absurd (omega arith)
last_of (x ∷ []) some = ([], x, refl)
last_of (x ∷ y ∷ xs) some = let rest = last_of (y ∷ xs) (omega arith) in (x ∷ rest.0, rest.1, ap (λ ys. x ∷ ys) rest.2)

-- the pieces but for the last, their codes, and their words
pub record IsTakenBack (ps : List PieceValue) : Type 0 where
  pub within : length ps - 1 < length (kept_codes ps)
  pub standing : AreStanding (remove ps (length ps - 1))
  pub kept : kept_codes (remove ps (length ps - 1)) ≡ remove (kept_codes ps) (length ps - 1)
  pub stored : (d : PieceValue) → stored_words (remove ps (length ps - 1)) + stored_by (get_or ps (length ps - 1) d) ≡ stored_words ps

pub taken_back : (ps : List PieceValue) → AreStanding ps → 0 < length ps → IsTakenBack ps
taken_back ps h some =
    let last = last_of ps some in
    let front = last.0 in
    let p = last.1 in
    let left = remove_last ps front p last.2 in
    let long = length-kept_codes ps in
    let codes = ap kept_codes last.2 ∙ kept_codes-push front p in
    let count : length ps ≡ length (kept_codes ps) = sym long in
    record {
      within = omega arith;
      standing = subst AreStanding (sym left) (AreStanding-front front p (subst AreStanding last.2 h));
      kept =
          ap kept_codes left
          ∙ sym (ap (λ (n : ℕ). remove (kept_codes ps) (n - 1)) count ∙ remove_last (kept_codes ps) (kept_codes front) (kept_over (codes_of front) p.evidence) codes);
      stored = λ d. sum_by-remove stored_by ps (length ps - 1) d (omega arith);
    }

-- there are not too many places
pub place_of_id-few : (id : List ℕ) (ps : List PieceValue) (o : Option ℕ) → AreStanding ps → place_of_id id ps ≡ o → IfSome o (λ k. k < MAX_PIECES)
place_of_id-few id ps None h is = tt
place_of_id-few id ps (Some k) h is =
    let place = place_of_id-some id ps k h.different is in
    omega (arith, place.within, h.few)
