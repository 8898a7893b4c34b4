-- What is taken along with a piece, and that the others stand.
use Rattle.std.proofs.Common.{◌≡◌, ℕ, suc, ◌<◌, ◌≤◌, Bool, true, false, ◌||◌, cond, not, List, [], ◌∷◌, ◌++◌, length, map, Some, Ok, Err, refl, sym, ap, subst, arith, inl, inr, ◌⊎◌}
use Rattle.std.specs.Prelude.{slice_get}
use Rattle.std.specs.Str.{bytes_eq}
use Rattle.std.proofs.lemmas.Slice.Eq.{bytes_eq-Decides}
use Rattle.ct_files.specs.ByKind.{names}
use Rattle.ct_piece.specs.Piece.{PieceValue, has_id}
use Rattle.ct_piece.specs.Standing.{AreStanding}
use Rattle.ct_piece.specs.Withdrawal.{names_any, ids_along, taken_along, is_id_among, without_all, withdrawn_all, marks_along}
use Rattle.ct_piece.specs.declared.fault.WithdrawFault.TheVariants as fault
use Rattle.ct_piece.specs.Inside.Kept.{kept_codes}
use Rattle.ct_piece.specs.Inside.Unmarked.{unmarked}
use Rattle.ct_piece.proofs.EarlierParts.{part_earlier}
use Rattle.ct_piece.proofs.LeavingLemmas.{ArePassed, passing, kept-passing}
use Rattle.ct_piece.proofs.StandingLemmas.{AreStanding-passing}

or-true : (a b : Bool) → b ≡ true → (a || b) ≡ true
or-true true b h = refl
or-true false b h = h

-- ids that are there stay there
among-left : (ids more : List (List ℕ)) (id : List ℕ) → is_id_among ids id ≡ true → is_id_among (ids ++ more) id ≡ true
among-left [] more id h = absurd cc
among-left (i ∷ ids) more id h = at (bytes_eq i id) h (among-left ids more id) where
  at : (b : Bool) → (b || is_id_among ids id) ≡ true → (is_id_among ids id ≡ true → is_id_among (ids ++ more) id ≡ true) → (b || is_id_among (ids ++ more) id) ≡ true
  at true h rest = refl
  at false h rest = rest h

among-last : (ids : List (List ℕ)) (id : List ℕ) → is_id_among (ids ++ id ∷ []) id ≡ true
among-last [] id = ap (λ (b : Bool). b || false) ((bytes_eq-Decides id id).1 refl)
among-last (i ∷ ids) id = or-true (bytes_eq i id) (is_id_among (ids ++ id ∷ []) id) (among-last ids id)

pub among-cases : (ids : List (List ℕ)) (last id : List ℕ) → is_id_among (ids ++ last ∷ []) id ≡ true → (is_id_among ids id ≡ true) ⊎ (last ≡ id)
among-cases [] last id h = at (bytes_eq last id) refl h where
  at : (b : Bool) → bytes_eq last id ≡ b → (b || false) ≡ true → (false ≡ true) ⊎ (last ≡ id)
  at true e h = inr ((bytes_eq-Decides last id).0 e)
  at false e h = absurd cc
among-cases (i ∷ ids) last id h = at (bytes_eq i id) h (among-cases ids last id) where
  at : (b : Bool) → (b || is_id_among (ids ++ last ∷ []) id) ≡ true → (is_id_among (ids ++ last ∷ []) id ≡ true → (is_id_among ids id ≡ true) ⊎ (last ≡ id))
      → ((b || is_id_among ids id) ≡ true) ⊎ (last ≡ id)
  at true h rest = inl refl
  at false h rest = rest h

pub along-keeps : (ps : List PieceValue) (ids : List (List ℕ)) (id : List ℕ) → is_id_among ids id ≡ true → is_id_among (ids_along ids ps) id ≡ true
along-keeps [] ids id h = h
along-keeps (p ∷ ps) ids id h =
    at (names_any ids p) (along-keeps ps (ids ++ p.id ∷ []) id (among-left ids (p.id ∷ []) id h)) (along-keeps ps ids id h)
  where
    at : (b : Bool) → is_id_among (ids_along (ids ++ p.id ∷ []) ps) id ≡ true → is_id_among (ids_along ids ps) id ≡ true
        → is_id_among (ids_along (cond b (ids ++ p.id ∷ []) ids) ps) id ≡ true
    at true more same = more
    at false more same = same

-- each is one of the first, or a piece's
along-from : (ps : List PieceValue) (ids : List (List ℕ)) (id : List ℕ) → is_id_among (ids_along ids ps) id ≡ true
    → (is_id_among ids id ≡ true) ⊎ (has_id id ps ≡ true)
along-from [] ids id h = inl h
along-from (p ∷ ps) ids id h = at (names_any ids p) h (along-from ps (ids ++ p.id ∷ []) id) (along-from ps ids id) where
  later : has_id id ps ≡ true → has_id id (p ∷ ps) ≡ true
  later there = or-true (bytes_eq p.id id) (has_id id ps) there

  of_last : (is_id_among ids id ≡ true) ⊎ (p.id ≡ id) → (is_id_among ids id ≡ true) ⊎ (has_id id (p ∷ ps) ≡ true)
  of_last (inl first) = inl first
  of_last (inr same) = inr (ap (λ (b : Bool). b || has_id id ps) ((bytes_eq-Decides p.id id).1 same))

  of_more : (is_id_among (ids ++ p.id ∷ []) id ≡ true) ⊎ (has_id id ps ≡ true) → (is_id_among ids id ≡ true) ⊎ (has_id id (p ∷ ps) ≡ true)
  of_more (inl there) = of_last (among-cases ids p.id id there)
  of_more (inr there) = inr (later there)

  of_same : (is_id_among ids id ≡ true) ⊎ (has_id id ps ≡ true) → (is_id_among ids id ≡ true) ⊎ (has_id id (p ∷ ps) ≡ true)
  of_same (inl first) = inl first
  of_same (inr there) = inr (later there)

  at : (b : Bool) → is_id_among (ids_along (cond b (ids ++ p.id ∷ []) ids) ps) id ≡ true
      → (is_id_among (ids_along (ids ++ p.id ∷ []) ps) id ≡ true → (is_id_among (ids ++ p.id ∷ []) id ≡ true) ⊎ (has_id id ps ≡ true))
      → (is_id_among (ids_along ids ps) id ≡ true → (is_id_among ids id ≡ true) ⊎ (has_id id ps ≡ true))
      → (is_id_among ids id ≡ true) ⊎ (has_id id (p ∷ ps) ≡ true)
  at true h more same = of_more (more h)
  at false h more same = of_same (same h)

-- a piece that names none of the ids does not name one of them
names-none : (ids : List (List ℕ)) (p : PieceValue) (part : List ℕ) → names_any ids p ≡ false → is_id_among ids part ≡ true → names p.evidence part ≡ true → ⊥
names-none [] p part none h named = absurd cc
names-none (i ∷ ids) p part none h named = at (bytes_eq i part) refl (names p.evidence i) refl none h (λ n k. names-none ids p part n k named) where
  at : (b : Bool) → bytes_eq i part ≡ b → (n : Bool) → names p.evidence i ≡ n → (n || names_any ids p) ≡ false → (b || is_id_among ids part) ≡ true
      → (names_any ids p ≡ false → is_id_among ids part ≡ true → ⊥) → ⊥
  at b same true named_is none h rest = absurd cc
  at true same false named_is none h rest = absurd (let e = ap (names p.evidence) ((bytes_eq-Decides i part).0 same) in cc)
  at false same false named_is none h rest = rest none h

-- a piece with the id is at a place
pub has_id-at : (id : List ℕ) (ps : List PieceValue) → has_id id ps ≡ true → (i : ℕ) × (q : PieceValue) × (slice_get ps i ≡ Some q) × (q.id ≡ id)
has_id-at id [] h = absurd cc
has_id-at id (p ∷ ps) h = at (bytes_eq p.id id) refl h (has_id-at id ps) where
  at : (b : Bool) → bytes_eq p.id id ≡ b → (b || has_id id ps) ≡ true
      → (has_id id ps ≡ true → (i : ℕ) × (q : PieceValue) × (slice_get ps i ≡ Some q) × (q.id ≡ id))
      → (i : ℕ) × (q : PieceValue) × (slice_get (p ∷ ps) i ≡ Some q) × (q.id ≡ id)
  at true is h rest = (0, p, refl, (bytes_eq-Decides p.id id).0 is)
  at false is h rest = let found = rest h in (suc found.0, found.1, found.2, found.3)

-- each of the pieces names none of those after it
abbrev pub NameNoLater : List PieceValue → Type 0
NameNoLater [] = Unit {0}
NameNoLater (p ∷ ps) = ((part : List ℕ) → names p.evidence part ≡ true → has_id part ps ≡ true → ⊥) × NameNoLater ps

abbrev NameEarlier : List PieceValue → Type 0
NameEarlier ps = (k i : ℕ) (p q : PieceValue) → slice_get ps k ≡ Some p → slice_get ps i ≡ Some q → names p.evidence q.id ≡ true → i < k

name_no_later : (ps : List PieceValue) → NameEarlier ps → NameNoLater ps
name_no_later [] h = tt
name_no_later (p ∷ ps) h = (
  λ part named there.
      let found = has_id-at part ps there in
      let named_one = subst (λ (id : List ℕ). names p.evidence id ≡ true) (sym found.3) named in
      let before = h 0 (suc found.0) p found.1 refl found.2 named_one in
      absurd (omega (arith, before)),
  name_no_later ps (λ k i q r at there named. let before = h (suc k) (suc i) q r at there named in omega (arith, before)),
)

-- what stays names nothing that goes
pub are_passed : (ids : List (List ℕ)) (ps : List PieceValue) → NameNoLater ps → ArePassed (λ i. not (is_id_among (ids_along ids ps) i)) ps
are_passed ids [] h = tt
are_passed ids (p ∷ ps) h =
    at (names_any ids p) refl (are_passed (ids ++ p.id ∷ []) ps h.1) (are_passed ids ps h.1)
  where
    stays : List (List ℕ) → List ℕ → Bool
    stays these i = not (is_id_among these i)

    goes : (b : Bool) → b ≡ true → not b ≡ true → ⊥
    goes true is h = absurd cc
    goes false is h = absurd cc

    part_stays : names_any ids p ≡ false → (part : List ℕ) → names p.evidence part ≡ true → (b : Bool) → is_id_among (ids_along ids ps) part ≡ b → not b ≡ true
    part_stays none part named false is = refl
    part_stays none part named true is = absurd (of (along-from ps ids part is)) where
      of : (is_id_among ids part ≡ true) ⊎ (has_id part ps ≡ true) → ⊥
      of (inl first) = names-none ids p part none first named
      of (inr later) = h.0 part named later

    at : (b : Bool) → names_any ids p ≡ b → ArePassed (stays (ids_along (ids ++ p.id ∷ []) ps)) ps → ArePassed (stays (ids_along ids ps)) ps
        → ArePassed (stays (ids_along (cond b (ids ++ p.id ∷ []) ids) ps)) (p ∷ ps)
    at true is more same = (
      λ stays_here. absurd (goes (is_id_among (ids_along (ids ++ p.id ∷ []) ps) p.id) (along-keeps ps (ids ++ p.id ∷ []) p.id (among-last ids p.id)) stays_here),
      more,
    )
    at false is more same = (
      λ stays_here. λ part named. part_stays is part named (is_id_among (ids_along ids ps) part) refl,
      same,
    )

pub along_passed : (pieces : List PieceValue) (id : List ℕ) → AreStanding pieces → ArePassed (λ i. not (is_id_among (taken_along pieces id) i)) pieces
along_passed pieces id h = are_passed (id ∷ []) pieces (name_no_later pieces (λ k i p q at there named. part_earlier pieces k i p q h at there named))

-- so the others stand
pub AreStanding-along : (pieces : List PieceValue) (id : List ℕ) → AreStanding pieces → AreStanding (without_all (taken_along pieces id) pieces)
AreStanding-along pieces id h = AreStanding-passing pieces (λ i. not (is_id_among (taken_along pieces id) i)) h (along_passed pieces id h)

-- with the codes that were kept beside them
pub kept-along : (pieces : List PieceValue) (id : List ℕ) → AreStanding pieces
    → kept_codes (without_all (taken_along pieces id) pieces) ≡ unmarked (marks_along pieces id) (kept_codes pieces)
kept-along pieces id h = kept-passing (is_id_among (taken_along pieces id)) [] pieces (along_passed pieces id h)

-- they are the pieces that are not marked
unmarked-passing : (out : List ℕ → Bool) (ps : List PieceValue) → unmarked (map (λ (p : PieceValue). out p.id) ps) ps ≡ passing (λ i. not (out i)) ps
unmarked-passing out [] = refl
unmarked-passing out (p ∷ ps) = at (out p.id) (unmarked-passing out ps) where
  at : (b : Bool) → unmarked (map (λ (q : PieceValue). out q.id) ps) ps ≡ passing (λ i. not (out i)) ps
      → unmarked (b ∷ map (λ (q : PieceValue). out q.id) ps) (p ∷ ps) ≡ cond (not b) (p ∷ passing (λ i. not (out i)) ps) (passing (λ i. not (out i)) ps)
  at true rest = rest
  at false rest = ap (λ qs. p ∷ qs) rest

pub unmarked-along : (pieces : List PieceValue) (id : List ℕ) → unmarked (marks_along pieces id) pieces ≡ without_all (taken_along pieces id) pieces
unmarked-along pieces id = unmarked-passing (is_id_among (taken_along pieces id)) pieces

pub length-unmarked : {X : Type 0} (marks : List Bool) (xs : List X) → length (unmarked marks xs) ≤ length xs
length-unmarked [] xs = omega arith
length-unmarked (mark ∷ marks) [] = omega arith
length-unmarked (true ∷ marks) (x ∷ xs) = let rest = length-unmarked marks xs in omega (arith, rest)
length-unmarked (false ∷ marks) (x ∷ xs) = let rest = length-unmarked marks xs in omega (arith, rest)

-- what a withdrawal with all comes to
pub withdrawn_all-left : (pieces : List PieceValue) (id : List ℕ) → has_id id pieces ≡ true
    → withdrawn_all pieces id ≡ Ok (without_all (taken_along pieces id) pieces)
unfolding withdrawn_all
withdrawn_all-left pieces id stands =
    ap (λ (b : Bool). cond b (Ok (without_all (taken_along pieces id) pieces)) (Err fault.NoSuch)) stands

pub withdrawn_all-missing : (pieces : List PieceValue) (id : List ℕ) → has_id id pieces ≡ false → withdrawn_all pieces id ≡ Err fault.NoSuch
unfolding withdrawn_all
withdrawn_all-missing pieces id free =
    ap (λ (b : Bool). cond b (Ok (without_all (taken_along pieces id) pieces)) (Err fault.NoSuch)) free
