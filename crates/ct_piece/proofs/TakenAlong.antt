-- The ids that are taken along with a piece are those of the least set of pieces that holds it and each piece that names one of the set.
use Rattle.std.proofs.Common.{◌≡◌, ◌≢◌, ℕ, zero, suc, ◌+◌, ◌||◌, Bool, true, false, cond, not, List, [], ◌∷◌, ◌++◌, take, Some, Ok, Err, All, refl, sym, ap, subst, ◌∙◌, arith, inl, inr, ◌⊎◌, ◌↔◌}
use Rattle.std.specs.Prelude.{slice_get, Result}
use Rattle.std.specs.Str.{bytes_eq}
use Rattle.std.proofs.lemmas.Option.{none-some, same_Some}
use Rattle.std.proofs.lemmas.Slice.Eq.{bytes_eq-Decides}
use Rattle.ct_files.specs.ByKind.{ids_of_parts, names}
use Rattle.ct_piece.specs.Piece.{PieceValue, has_id}
use Rattle.ct_piece.specs.Standing.{AreStanding}
use Rattle.ct_piece.specs.Withdrawal.{IsTakenAlong, names_any, ids_along, taken_along, is_id_among, without_all, withdrawn_all, left_by}
use Rattle.ct_piece.specs.Withdrawal.IsTakenAlong.{itself, by_part}
use Rattle.ct_piece.specs.declared.fault.WithdrawFault.{WithdrawFault}
use Rattle.ct_piece.specs.declared.fault.WithdrawFault.TheVariants as fault
use Rattle.ct_piece.proofs.EarlierParts.{part_before, one_place}
use Rattle.ct_piece.proofs.LeavingLemmas.{ArePassed, AllPassed}
use Rattle.ct_piece.proofs.Accepting.{not_taken}
use Rattle.ct_piece.proofs.StandingLemmas.{has_id-none}
use Rattle.ct_piece.proofs.AlongLemmas.{among-cases, along-keeps, along_passed, has_id-at, AreStanding-along, withdrawn_all-left, withdrawn_all-missing}

-- one of the ids that a piece names
names_any-at : (ids : List (List ℕ)) (p : PieceValue) → names_any ids p ≡ true
    → (part : List ℕ) × (is_id_among ids part ≡ true) × (names p.evidence part ≡ true)
names_any-at [] p h = absurd cc
names_any-at (i ∷ ids) p h = at (names p.evidence i) refl h (names_any-at ids p) where
  later : (b : Bool) (part : List ℕ) → is_id_among ids part ≡ true → (b || is_id_among ids part) ≡ true
  later true part there = refl
  later false part there = there

  at : (b : Bool) → names p.evidence i ≡ b → (b || names_any ids p) ≡ true
      → (names_any ids p ≡ true → (part : List ℕ) × (is_id_among ids part ≡ true) × (names p.evidence part ≡ true))
      → (part : List ℕ) × (is_id_among (i ∷ ids) part ≡ true) × (names p.evidence part ≡ true)
  at true named h rest = (i, ap (λ (b : Bool). b || is_id_among ids i) ((bytes_eq-Decides i i).1 refl), named)
  at false named h rest = let found = rest h in (found.0, later (bytes_eq i found.0) found.0 found.1, found.2)

pub has_id-take : (id : List ℕ) (ps : List PieceValue) (k : ℕ) → has_id id (take k ps) ≡ true → has_id id ps ≡ true
has_id-take id [] zero h = absurd cc
has_id-take id [] (suc k) h = absurd cc
has_id-take id (p ∷ ps) zero h = absurd cc
has_id-take id (p ∷ ps) (suc k) h = at (bytes_eq p.id id) h (has_id-take id ps k) where
  at : (b : Bool) → (b || has_id id (take k ps)) ≡ true → (has_id id (take k ps) ≡ true → has_id id ps ≡ true) → (b || has_id id ps) ≡ true
  at true h rest = refl
  at false h rest = rest h

ArePassed-at : (test : List ℕ → Bool) (ps : List PieceValue) (i : ℕ) (p : PieceValue) → ArePassed test ps → slice_get ps i ≡ Some p
    → test p.id ≡ true → AllPassed test (ids_of_parts p.evidence)
ArePassed-at test [] i p all at = absurd (none-some p at)
ArePassed-at test (q ∷ ps) zero p all at =
    subst (λ (r : PieceValue). test r.id ≡ true → AllPassed test (ids_of_parts r.evidence)) (same_Some q p at) all.0
ArePassed-at test (q ∷ ps) (suc i) p all at = ArePassed-at test ps i p all.1 at

module _ (pieces : List PieceValue) (id : List ℕ) (h : AreStanding pieces) where
  -- the pieces of these ids are taken along
  abbrev Go : List (List ℕ) → Type 0
  Go ids = (i : ℕ) (q : PieceValue) → slice_get pieces i ≡ Some q → is_id_among ids q.id ≡ true → IsTakenAlong pieces id i

  user_goes : (ids : List (List ℕ)) (p : PieceValue) (k : ℕ) → slice_get pieces k ≡ Some p → Go ids → names_any ids p ≡ true → IsTakenAlong pieces id k
  user_goes ids p k at go user =
      let part = names_any-at ids p user in
      let stands = has_id-take part.0 pieces k (part_before pieces k p part.0 h at part.2) in
      let found = has_id-at part.0 pieces stands in
      by_part k found.0 p found.1 at found.2 (subst (λ (i : List ℕ). names p.evidence i ≡ true) (sym found.3) part.2)
      (go found.0 found.1 found.2 (subst (λ (i : List ℕ). is_id_among ids i ≡ true) (sym found.3) part.1))

  one_more : (ids : List (List ℕ)) (p : PieceValue) (k : ℕ) → slice_get pieces k ≡ Some p → Go ids → names_any ids p ≡ true → Go (ids ++ p.id ∷ [])
  one_more ids p k at go user i q there among = of (among-cases ids p.id q.id among) where
    of : (is_id_among ids q.id ≡ true) ⊎ (p.id ≡ q.id) → IsTakenAlong pieces id i
    of (inl before) = go i q there before
    of (inr same) = subst (IsTakenAlong pieces id) (one_place pieces k i p q h.different at there same) (user_goes ids p k at go user)

  along_goes : (n : ℕ) (ids : List (List ℕ)) (ps : List PieceValue) → ((j : ℕ) → slice_get ps j ≡ slice_get pieces (n + j)) → Go ids → Go (ids_along ids ps)
  along_goes n ids [] same go = go
  along_goes n ids (p ∷ ps) same go =
      at (names_any ids p) refl (along_goes (n + 1) (ids ++ p.id ∷ []) ps next) (along_goes (n + 1) ids ps next)
    where
      here : slice_get pieces n ≡ Some p
      here = let first : n ≡ n + 0 = omega arith in ap (slice_get pieces) first ∙ sym (same 0)

      next : (j : ℕ) → slice_get ps j ≡ slice_get pieces (n + 1 + j)
      next j = let one : n + suc j ≡ n + 1 + j = omega arith in same (suc j) ∙ ap (slice_get pieces) one

      at : (b : Bool) → names_any ids p ≡ b → (Go (ids ++ p.id ∷ []) → Go (ids_along (ids ++ p.id ∷ []) ps)) → (Go ids → Go (ids_along ids ps))
          → Go (ids_along (cond b (ids ++ p.id ∷ []) ids) ps)
      at true user more same_ids = more (one_more ids p n here go user)
      at false none more same_ids = same_ids go

  first_goes : Go (id ∷ [])
  first_goes i q there among = at (bytes_eq id q.id) refl among where
    at : (b : Bool) → bytes_eq id q.id ≡ b → (b || false) ≡ true → IsTakenAlong pieces id i
    at true is among = itself i q there (sym ((bytes_eq-Decides id q.id).0 is))
    at false is among = absurd cc

  taken_goes : Go (taken_along pieces id)
  taken_goes =
      along_goes 0 (id ∷ []) pieces (λ j. let same : j ≡ 0 + j = omega arith in ap (slice_get pieces) same) first_goes

  -- and no others are
  goes_along : (i : ℕ) → IsTakenAlong pieces id i → (q : PieceValue) → slice_get pieces i ≡ Some q → is_id_among (taken_along pieces id) q.id ≡ true
  goes_along i (itself _ p there own) q at =
      let same : q.id ≡ id = ap (λ (r : PieceValue). r.id) (same_Some q p (sym at ∙ there)) ∙ own in
      along-keeps pieces (id ∷ []) q.id
      (ap (λ (j : List ℕ). is_id_among (id ∷ []) j) same ∙ ap (λ (b : Bool). b || false) ((bytes_eq-Decides id id).1 refl))
  goes_along i (by_part _ j p r there at_part named rest) q at =
      of (is_id_among (taken_along pieces id) q.id) refl (goes_along j rest r at_part)
    where
      same : p ≡ q
      same = same_Some p q (sym there ∙ at)

      of : (b : Bool) → is_id_among (taken_along pieces id) q.id ≡ b → is_id_among (taken_along pieces id) r.id ≡ true → b ≡ true
      of true is part = refl
      of false is part =
          let passed = ArePassed-at (λ i. not (is_id_among (taken_along pieces id) i)) pieces i q (along_passed pieces id h) at (ap not is) in
          let stays = passed r.id (subst (λ (s : PieceValue). names s.evidence r.id ≡ true) same named) in
          absurd (let both = sym stays ∙ ap not part in cc)

pub taken_are_along : (pieces : List PieceValue) (id : List ℕ) (i : ℕ) (p : PieceValue) → AreStanding pieces → slice_get pieces i ≡ Some p
    → (is_id_among (taken_along pieces id) p.id ≡ true) ↔ IsTakenAlong pieces id i
taken_are_along pieces id i p h at = (taken_goes pieces id h i p at, λ along. goes_along pieces id h i along p at)

-- it is the least such set
pub least_along : (pieces : List PieceValue) (id : List ℕ) (places : ℕ → Bool)
    → ((i : ℕ) (p : PieceValue) → slice_get pieces i ≡ Some p → p.id ≡ id → places i ≡ true)
    → ((i j : ℕ) (p q : PieceValue) → slice_get pieces i ≡ Some p → slice_get pieces j ≡ Some q → names p.evidence q.id ≡ true
    → places j ≡ true → places i ≡ true)
    → (i : ℕ) → IsTakenAlong pieces id i → places i ≡ true
least_along pieces id places own part i (itself _ p there is) = own i p there is
least_along pieces id places own part i (by_part _ j p q there at named rest) = part i j p q there at named (least_along pieces id places own part j rest)

-- a withdrawal is refused exactly where no piece has the id
pub refused_along : (pieces : List PieceValue) (id : List ℕ) (reason : WithdrawFault) → withdrawn_all pieces id ≡ Err reason
    → (reason ≡ fault.NoSuch) × All (λ (q : PieceValue). q.id ≢ id) pieces
refused_along pieces id reason is = at (has_id id pieces) refl where
  at : (b : Bool) → has_id id pieces ≡ b → (reason ≡ fault.NoSuch) × All (λ (q : PieceValue). q.id ≢ id) pieces
  at true stands = absurd (let both = sym (withdrawn_all-left pieces id stands) ∙ is in cc)
  at false missing =
      let same : reason ≡ fault.NoSuch = let both = sym (withdrawn_all-missing pieces id missing) ∙ is in cc in
      (same, has_id-none id pieces missing)

pub free_along : (pieces : List PieceValue) (id : List ℕ) (reason : WithdrawFault) → (reason ≡ fault.NoSuch) × All (λ (q : PieceValue). q.id ≢ id) pieces
    → withdrawn_all pieces id ≡ Err reason
free_along pieces id reason h = withdrawn_all-missing pieces id (not_taken id pieces h.1) ∙ ap Err (sym h.0)

-- the pieces that are left stand
pub withdrawn_all-stand : (pieces left : List PieceValue) (id : List ℕ) → AreStanding pieces → withdrawn_all pieces id ≡ Ok left → AreStanding left
withdrawn_all-stand pieces left id h is = at (has_id id pieces) refl where
  at : (b : Bool) → has_id id pieces ≡ b → AreStanding left
  at true stands =
      let same : without_all (taken_along pieces id) pieces ≡ left = let both = sym (withdrawn_all-left pieces id stands) ∙ is in cc in
      subst AreStanding same (AreStanding-along pieces id h)
  at false missing = absurd (let both = sym (withdrawn_all-missing pieces id missing) ∙ is in cc)

-- the pieces after a withdrawal with all stand, where those before it do
pub AreStanding-withdrawn_all : (pieces : List PieceValue) (id : List ℕ) → AreStanding pieces → AreStanding (left_by pieces (withdrawn_all pieces id))
AreStanding-withdrawn_all pieces id h = at (has_id id pieces) refl where
  at : (b : Bool) → has_id id pieces ≡ b → AreStanding (left_by pieces (withdrawn_all pieces id))
  at true stands =
      subst (λ (left : Result (List PieceValue) WithdrawFault). AreStanding (left_by pieces left)) (sym (withdrawn_all-left pieces id stands))
      (AreStanding-along pieces id h)
  at false missing =
      subst (λ (left : Result (List PieceValue) WithdrawFault). AreStanding (left_by pieces left)) (sym (withdrawn_all-missing pieces id missing)) h
