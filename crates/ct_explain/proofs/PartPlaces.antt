-- The places of items for which a test holds; and that the parts of pieces that stand are before them.
use Rattle.std.proofs.Common.{◌≡◌, ℕ, zero, suc, ◌+◌, ◌<◌, Bool, true, false, cond, List, [], ◌∷◌, ◌++◌, length, take, get_or, Option, Some, None, option_map, All, ◌↔◌, refl, sym, ap, subst, ◌∙◌, arith, append-nil}
use Rattle.std.specs.Prelude.{Contains, slice_get}
use Rattle.std.specs.List.{list_any}
use Rattle.std.specs.Str.{bytes_eq}
use Rattle.std.proofs.lemmas.List.Elements.{All-nil, All-cons, All-contains, Contains-append_right}
use Rattle.std.proofs.lemmas.List.{take_more, length-take-le}
use Rattle.std.proofs.lemmas.Option.{slice_get-map}
use Rattle.ct_derive.specs.Pieces.{AreEarlier}
use Rattle.ct_files.specs.ByKind.{ids_of_parts, names}
use Rattle.ct_piece.specs.Piece.{PieceValue}
use Rattle.ct_piece.specs.Standing.{AreStanding}
use Rattle.ct_piece.proofs.EarlierParts.{part_earlier}
use Rattle.ct_explain.specs.Parts.{places_where, part_places, parts_of_each}

-- the places with one more item at the end
pub places-push : {X : Type 0} (test : X → Bool) (k : ℕ) (xs : List X) (x : X)
    → places_where test k (xs ++ x ∷ []) ≡ places_where test k xs ++ cond (test x) ((k + length xs) ∷ []) []
places-push test k [] x = let here : k ≡ k + 0 = omega arith in ap (λ n. cond (test x) (n ∷ []) []) here
places-push {X} test k (y ∷ xs) x = at (test y) (places-push test (k + 1) xs x) where
  before : List ℕ
  before = places_where test (k + 1) xs

  last : k + 1 + length xs ≡ k + length (y ∷ xs)
  last = omega arith

  at : (b : Bool) → places_where test (k + 1) (xs ++ x ∷ []) ≡ before ++ cond (test x) ((k + 1 + length xs) ∷ []) []
      → cond b (k ∷ places_where test (k + 1) (xs ++ x ∷ [])) (places_where test (k + 1) (xs ++ x ∷ [])) ≡ cond b (k ∷ before) before ++ cond (test x) ((k + length (y ∷ xs)) ∷ []) []
  at true rest = ap (λ ps. k ∷ ps) (rest ∙ ap (λ n. before ++ cond (test x) (n ∷ []) []) last)
  at false rest = rest ∙ ap (λ n. before ++ cond (test x) (n ∷ []) []) last

-- the places among one item more: its own is one of them, or not
places-more : {X : Type 0} (test : X → Bool) (xs : List X) (i : ℕ) (x : X) → i < length xs → x ≡ get_or xs i x
    → places_where test 0 (take (i + 1) xs) ≡ places_where test 0 (take i xs) ++ cond (test x) (i ∷ []) []
places-more {X} test xs i x within is =
    let count : length (take i xs) ≡ i = length-take-le i xs (omega (arith, within)) in
    let here : 0 + length (take i xs) ≡ i = omega (arith, count) in
    ap (λ (ys : List X). places_where test 0 ys) (take_more xs i x within)
    ∙ ap (λ (y : X). places_where test 0 (take i xs ++ y ∷ [])) (sym is)
    ∙ places-push test 0 (take i xs) x
    ∙ ap (λ (n : ℕ). places_where test 0 (take i xs) ++ cond (test x) (n ∷ []) []) here

pub place_found : {X : Type 0} (test : X → Bool) (xs : List X) (i : ℕ) (x : X) → i < length xs → x ≡ get_or xs i x → test x ≡ true
    → places_where test 0 (take i xs) ++ i ∷ [] ≡ places_where test 0 (take (i + 1) xs)
place_found test xs i x within is holds =
    sym (places-more test xs i x within is ∙ ap (λ (b : Bool). places_where test 0 (take i xs) ++ cond b (i ∷ []) []) holds)

pub place_passed : {X : Type 0} (test : X → Bool) (xs : List X) (i : ℕ) (x : X) → i < length xs → x ≡ get_or xs i x → test x ≡ false
    → places_where test 0 (take i xs) ≡ places_where test 0 (take (i + 1) xs)
place_passed test xs i x within is fails =
    sym
    (places-more test xs i x within is ∙ ap (λ (b : Bool). places_where test 0 (take i xs) ++ cond b (i ∷ []) []) fails
    ∙ append-nil (places_where test 0 (take i xs)))

-- a piece without parts names none of the pieces
pub no_places : (p : PieceValue) (k : ℕ) (ps : List PieceValue) → ids_of_parts p.evidence ≡ [] → places_where (λ q. names p.evidence q.id) k ps ≡ []
no_places p k [] none = refl
no_places p k (q ∷ ps) none =
    let passed : names p.evidence q.id ≡ false = ap (list_any (λ part. bytes_eq part q.id)) none in
    let rest = places_where (λ (r : PieceValue). names p.evidence r.id) (k + 1) ps in
    ap (λ (b : Bool). cond b (k ∷ rest) rest) passed ∙ no_places p (k + 1) ps none

-- what holds of each place at which the test holds
pub All-places : {X : Type 0} (P : ℕ → Type 0) (test : X → Bool) (k : ℕ) (xs : List X)
    → ((i : ℕ) (x : X) → slice_get xs i ≡ Some x → test x ≡ true → P (k + i)) → All P (places_where test k xs)
All-places P test k [] h = All-nil P
All-places {X} P test k (x ∷ xs) h = at (test x) refl (All-places P test (k + 1) xs later) where
  later : (i : ℕ) (y : X) → slice_get xs i ≡ Some y → test y ≡ true → P (k + 1 + i)
  later i y is holds = let next : k + suc i ≡ k + 1 + i = omega arith in subst P next (h (suc i) y is holds)

  at : (b : Bool) → test x ≡ b → All P (places_where test (k + 1) xs) → All P (cond b (k ∷ places_where test (k + 1) xs) (places_where test (k + 1) xs))
  at true is rest = let here : k + 0 ≡ k = omega arith in All-cons P k (places_where test (k + 1) xs) (subst P here (h 0 x refl is)) rest
  at false is rest = rest

-- each place at which the test holds is there
pub Contains-places : {X : Type 0} (test : X → Bool) (k : ℕ) (xs : List X) (i : ℕ) (x : X) → slice_get xs i ≡ Some x → test x ≡ true
    → Contains (places_where test k xs) (k + i)
Contains-places test k [] i x is holds = absurd cc
Contains-places {X} test k (y ∷ xs) zero x is holds = at (test y) (ap test same ∙ holds) where
  same : y ≡ x
  same = cc

  at : (b : Bool) → b ≡ true → Contains (cond b (k ∷ places_where test (k + 1) xs) (places_where test (k + 1) xs)) (k + 0)
  at true is = let here : k ≡ k + 0 = omega arith in (0, omega arith, here)
  at false is = absurd cc
Contains-places {X} test k (y ∷ xs) (suc i) x is holds = at (test y) (Contains-places test (k + 1) xs i x is holds) where
  next : k + 1 + i ≡ k + suc i
  next = omega arith

  at : (b : Bool) → Contains (places_where test (k + 1) xs) (k + 1 + i) → Contains (cond b (k ∷ places_where test (k + 1) xs) (places_where test (k + 1) xs)) (k + suc i)
  at true rest = Contains-append_right (k ∷ []) (places_where test (k + 1) xs) (k + suc i) (subst (Contains (places_where test (k + 1) xs)) next rest)
  at false rest = subst (Contains (places_where test (k + 1) xs)) next rest

-- the parts of a piece are the pieces whose ids it names
pub parts_named : (ps : List PieceValue) (p : PieceValue) (i : ℕ)
    → Contains (part_places ps p) i ↔ ((q : PieceValue) × (slice_get ps i ≡ Some q) × (names p.evidence q.id ≡ true))
parts_named ps p i = (from, to) where
  test : PieceValue → Bool
  test q = names p.evidence q.id

  At : ℕ → Type 0
  At n = (q : PieceValue) × (slice_get ps n ≡ Some q) × (test q ≡ true)

  from : Contains (part_places ps p) i → At i
  from has =
      All-contains At (part_places ps p) i
      (All-places At test 0 ps (λ j q is named. let here : j ≡ 0 + j = omega arith in subst At here (q, is, named))) has

  to : At i → Contains (part_places ps p) i
  to at = let here : 0 + i ≡ i = omega arith in subst (Contains (part_places ps p)) here (Contains-places test 0 ps i at.0 at.1 at.2)

-- the parts of a piece that stands are before it
piece_earlier : (ps : List PieceValue) (k : ℕ) (p : PieceValue) → AreStanding ps → slice_get ps k ≡ Some p → All (λ i. i < k) (part_places ps p)
piece_earlier ps k p h is =
    All-places (λ i. i < k) (λ q. names p.evidence q.id) 0 ps
    (λ i q at named. let first = part_earlier ps k i p q h is at named in omega (arith, first))

pub parts_earlier : (ps : List PieceValue) → AreStanding ps → AreEarlier (parts_of_each ps)
parts_earlier ps h k places at = of_piece (slice_get ps k) refl (sym (slice_get-map (part_places ps) ps k) ∙ at) where
  of_piece : (found : Option PieceValue) → slice_get ps k ≡ found → option_map (part_places ps) found ≡ Some places → All (λ i. i < k) places
  of_piece None is none = absurd cc
  of_piece (Some p) is same =
      let listed : part_places ps p ≡ places = cc in
      subst (All (λ i. i < k)) listed (piece_earlier ps k p h is)
