-- The pieces that a derivation needs, in the order of the ledger: they are there, and stand without the others.
use Rattle.std.proofs.Common.{◌≡◌, ◌≢◌, ℕ, zero, suc, ◌+◌, ◌-◌, ◌<◌, ◌≤◌, Bool, true, false, cond, not, ◌||◌, nat_lt, List, [], ◌∷◌, ◌++◌, map, length, Option, Some, None, option_map, refl, sym, ap, ap₂, subst, ◌∙◌, arith}
use Rattle.std.specs.Prelude.{All, AllPairs, Contains, slice_get, slice_index, filter, ◌==◌}
use Rattle.std.specs.List.{cons_option, filter_map, flat_map, position_or_len, slice_index_or}
use Rattle.std.specs.List.Sorted.{IsStrictlyIncreasing}
use Rattle.std.specs.Str.{bytes_eq}
use Rattle.std.proofs.lemmas.Bool.{lt-ltb}
use Rattle.std.proofs.lemmas.Bool.Decides.{nat_tests}
use Rattle.std.proofs.lemmas.List.{length-map}
use Rattle.std.proofs.lemmas.List.Elements.{All-contains, All-nil, All-cons, Contains-append_right}
use Rattle.std.proofs.lemmas.Option.{slice_get-map, slice_get_within, get_or_from_slice_get, none-some}
use Rattle.std.proofs.lemmas.Slice.Eq.{bytes_eq-Decides}
use Rattle.ct_rule_parts.specs.declared.support.Support.{Support}
use Rattle.ct_rules.specs.Derivation.{LineValue, IsDerivation}
use Rattle.ct_files.specs.ByKind.{ids_of_parts, names}
use Rattle.ct_piece.specs.Piece.{PieceValue, place_of_id as piece_place}
use Rattle.ct_piece.specs.Standing.{AreStanding}
use Rattle.ct_piece.specs.Supports.{support_of, supports_of}
use Rattle.ct_piece.proofs.StandingLemmas.{AreStanding-passing}
use Rattle.ct_piece.proofs.LeavingLemmas.{AllPassed, ArePassed}
use Rattle.ct_derive.specs.Pieces.{cited_places, IsNeeded, AreNeeded}
use Rattle.ct_derive.specs.Pieces.IsNeeded.{by_line, by_piece}
use Rattle.ct_derive.specs.Text.{block_text, evidence_text}
use Rattle.ct_derive.proofs.NeededPieces.{cited_within}
use Rattle.ct_explain.specs.Parts.{part_places, parts_of_each}
use Rattle.ct_explain.proofs.PartPlaces.{parts_named}
use Rattle.ct_laws.proofs.PartsBefore.{part_before}
use Rattle.ct_laws.proofs.PrintedLines.{is_among, items_at, AreThere, among_from, among_to}

-- numbers from this one on that rise
abbrev Rises : ℕ → List ℕ → Type 0
Rises k [] = Unit {0}
Rises k (p ∷ places) = (k ≤ p) × Rises (p + 1) places

rises-weaker : (j k : ℕ) (places : List ℕ) → j ≤ k → Rises k places → Rises j places
rises-weaker j k [] less h = tt
rises-weaker j k (p ∷ places) less h = let own = h.0 in (omega (arith, own, less), h.1)

rises_after : (p : ℕ) (places : List ℕ) → IsStrictlyIncreasing (p ∷ places) → Rises (p + 1) places
rises_after p [] h = tt
rises_after p (q ∷ places) h =
    let first : p < q = h 0 (omega arith) in (
      omega (arith, first),
      rises_after q places (λ k within.
          let step : suc k + 1 ≡ suc (k + 1) = omega arith in
          subst (λ i. slice_index (p ∷ q ∷ places) (suc k) < slice_index (p ∷ q ∷ places) i) step (h (suc k) (omega (arith, within)))),
    )

rises_from : (places : List ℕ) → IsStrictlyIncreasing places → Rises 0 places
rises_from [] h = tt
rises_from (p ∷ places) h = (omega arith, rises_after p places h)

other_place : (p k : ℕ) → k + 1 ≤ p → (p == k) ≡ false
other_place p k h = grind (arith, nat_tests)

same_place : (p k : ℕ) → (p == k) ≡ true → p ≡ k
same_place p k h = grind (arith, nat_tests)

later_place : (p k : ℕ) → (p == k) ≡ false → k ≤ p → k + 1 ≤ p
later_place p k h from = grind (arith, nat_tests)

none_among : (k : ℕ) (places : List ℕ) → Rises (k + 1) places → is_among places k ≡ false
none_among k [] h = refl
none_among k (p ∷ places) h =
    let own = h.0 in
    ap (λ (b : Bool). b || is_among places k) (other_place p k own)
    ∙ none_among k places (rises-weaker (k + 1) (p + 1) places (omega (arith, own)) h.1)

-- the items at places that are counted from this number on
abbrev items_from : {X : Type 0} → List X → ℕ → List ℕ → List X
items_from xs k places = filter_map (λ p. slice_get xs (p - k)) places

items-shift : {X : Type 0} (x : X) (xs : List X) (k : ℕ) (places : List ℕ) → Rises (k + 1) places → items_from (x ∷ xs) k places ≡ items_from xs (k + 1) places
items-shift x xs k [] h = refl
items-shift {X} x xs k (p ∷ places) h =
    let own = h.0 in
    let place : p - k ≡ suc (p - (k + 1)) = omega (arith, own) in
    ap₂ (λ (o : Option X) (rest : List X). cons_option o rest) (ap (slice_get (x ∷ xs)) place)
    (items-shift x xs k places (rises-weaker (k + 1) (p + 1) places (omega (arith, own)) h.1))

items-none : {X : Type 0} (k : ℕ) (places : List ℕ) → items_from {X = X} [] k places ≡ []
items-none k [] = refl
items-none k (p ∷ places) = items-none k places

-- the test holds of the items at these places, and of no others
abbrev TestsFrom : {X : Type 0} → (X → Bool) → List X → ℕ → List ℕ → Type 0
TestsFrom {X} test xs k places = (i : ℕ) (x : X) → slice_get xs i ≡ Some x → test x ≡ is_among places (k + i)

chosen : {X : Type 0} (test : X → Bool) (xs : List X) (k : ℕ) (places : List ℕ) → Rises k places → TestsFrom test xs k places → items_from xs k places ≡ filter test xs
chosen test [] k places h tests = items-none k places
chosen {X} test (x ∷ xs) k [] h tests =
    chosen test xs (k + 1) [] tt (λ i y is. tests (suc i) y is)
    ∙ sym (ap (λ (b : Bool). cond b (x ∷ filter test xs) (filter test xs)) (tests 0 x refl))
chosen {X} test (x ∷ xs) k (p ∷ places) h tests = at (p == k) refl (chosen test xs (k + 1)) where
  here : k + 0 ≡ k
  here = omega arith

  next : (i : ℕ) → k + suc i ≡ k + 1 + i
  next i = omega arith

  first : test x ≡ is_among (p ∷ places) k
  first = tests 0 x refl ∙ ap (is_among (p ∷ places)) here

  later : (i : ℕ) → p ≡ k → (p == k + suc i) ≡ false
  later i same = grind (arith, nat_tests)

  at : (b : Bool) → (p == k) ≡ b → ((qs : List ℕ) → Rises (k + 1) qs → TestsFrom test xs (k + 1) qs → items_from xs (k + 1) qs ≡ filter test xs)
      → items_from (x ∷ xs) k (p ∷ places) ≡ filter test (x ∷ xs)
  at true is rest =
      let same = same_place p k is in
      let none : p - k ≡ 0 = omega (arith, same) in
      let rising : Rises (k + 1) places = subst (λ n. Rises (n + 1) places) same h.1 in
      ap (λ (n : ℕ). cons_option (slice_get (x ∷ xs) n) (items_from (x ∷ xs) k places)) none
      ∙ ap (λ (ys : List X). x ∷ ys) (items-shift x xs k places rising
      ∙ rest places rising (λ i y there.
      tests (suc i) y there ∙ ap (λ (b : Bool). b || is_among places (k + suc i)) (later i same) ∙ ap (is_among places) (next i)))
      ∙ sym (ap (λ (b : Bool). cond b (x ∷ filter test xs) (filter test xs)) (first ∙ ap (λ (b : Bool). b || is_among places k) is))
  at false is rest =
      let own = h.0 in
      let rising : Rises (k + 1) (p ∷ places) = (later_place p k is own, h.1) in
      items-shift x xs k (p ∷ places) rising
      ∙ rest (p ∷ places) rising (λ i y there. tests (suc i) y there ∙ ap (is_among (p ∷ places)) (next i))
      ∙ sym (ap (λ (b : Bool). cond b (x ∷ filter test xs) (filter test xs)) (first ∙ none_among k (p ∷ places) rising))

less_nothing : (p : ℕ) → p - 0 ≡ p
less_nothing p = omega arith

-- the items at places that rise are those for which a test of their places holds
pub items_chosen : {X : Type 0} (test : X → Bool) (xs : List X) (places : List ℕ) → IsStrictlyIncreasing places
    → ((i : ℕ) (x : X) → slice_get xs i ≡ Some x → test x ≡ is_among places i) → items_at xs places ≡ filter test xs
items_chosen {X} test xs places rising tests =
    ap (λ (f : ℕ → Option X). filter_map f places) (λ i p. slice_get xs (sym (less_nothing p) i))
    ∙ chosen test xs 0 places (rises_from places rising) (λ i x is. let own : i ≡ 0 + i = omega arith in tests i x is ∙ ap (is_among places) own)

-- what pieces at places give
pub supports-items : (pieces : List PieceValue) (places : List ℕ) → supports_of (items_at pieces places) ≡ items_at (supports_of pieces) places
supports-items pieces [] = refl
supports-items pieces (p ∷ places) =
    go (slice_get pieces p) ∙ ap₂ (λ (o : Option Support) (rest : List Support). cons_option o rest) (sym (slice_get-map support_of pieces p)) (supports-items pieces places)
  where
    go : (o : Option PieceValue) → map support_of (cons_option o (items_at pieces places)) ≡ cons_option (option_map support_of o) (supports_of (items_at pieces places))
    go None = refl
    go (Some q) = refl

-- their blocks
pub blocks-items : (pieces : List PieceValue) (places : List ℕ)
    → flat_map (λ p. block_text (λ (q : PieceValue). q.id) (λ (q : PieceValue). q.document) (slice_get pieces p)) places ≡ flat_map (λ (q : PieceValue). evidence_text q.id q.document) (items_at pieces places)
blocks-items pieces [] = refl
blocks-items pieces (p ∷ places) = go (slice_get pieces p) (blocks-items pieces places) where
  blocks : List ℕ
  blocks = flat_map (λ n. block_text (λ (q : PieceValue). q.id) (λ (q : PieceValue). q.document) (slice_get pieces n)) places

  go : (o : Option PieceValue) → blocks ≡ flat_map (λ (q : PieceValue). evidence_text q.id q.document) (items_at pieces places)
      → block_text (λ (q : PieceValue). q.id) (λ (q : PieceValue). q.document) o ++ blocks ≡ flat_map (λ (q : PieceValue). evidence_text q.id q.document) (cons_option o (items_at pieces places))
  go None rest = rest
  go (Some q) rest = ap (λ t. evidence_text q.id q.document ++ t) rest

-- the ids of the pieces are different
abbrev pub AreDifferent : List PieceValue → Type 0
AreDifferent ps = AllPairs (λ (p q : PieceValue). p.id ≢ q.id) ps

different-tail : (p : PieceValue) (ps : List PieceValue) → AreDifferent (p ∷ ps) → AreDifferent ps
different-tail p ps h i j d before within = h (suc i) (suc j) d (omega (arith, before)) (omega (arith, within))

different-first : (p : PieceValue) (ps : List PieceValue) (i : ℕ) (q : PieceValue) → AreDifferent (p ∷ ps) → slice_get ps i ≡ Some q → p.id ≢ q.id
different-first p ps i q h is =
    let within = slice_get_within ps i q is in
    subst (λ (r : PieceValue). p.id ≢ r.id) (get_or_from_slice_get ps i q p is) (h 0 (suc i) p (omega arith) (omega (arith, within)))

first_at : (ps : List PieceValue) (i : ℕ) (q : PieceValue) → AreDifferent ps → slice_get ps i ≡ Some q → position_or_len (λ (p : PieceValue). bytes_eq p.id q.id) ps ≡ i
first_at [] i q h is = absurd (none-some q is)
first_at (p ∷ ps) zero q h is =
    let same : p ≡ q = cc in
    ap (λ (b : Bool). cond (not b) (1 + position_or_len (λ (r : PieceValue). bytes_eq r.id q.id) ps) 0) ((bytes_eq-Decides p.id q.id).1 (ap (λ (r : PieceValue). r.id) same))
first_at (p ∷ ps) (suc i) q h is = at (bytes_eq p.id q.id) refl (first_at ps i q (different-tail p ps h) is) where
  place : ℕ
  place = position_or_len (λ (r : PieceValue). bytes_eq r.id q.id) ps

  at : (b : Bool) → bytes_eq p.id q.id ≡ b → place ≡ i → cond (not b) (1 + place) 0 ≡ suc i
  at true same rest = absurd (different-first p ps i q h is ((bytes_eq-Decides p.id q.id).0 same))
  at false unlike rest = omega (arith, rest)

-- where ids are different, a piece is the one with its id
pub own_place : (ps : List PieceValue) (i : ℕ) (q : PieceValue) → AreDifferent ps → slice_get ps i ≡ Some q → piece_place q.id ps ≡ Some i
own_place ps i q h is =
    let within = slice_get_within ps i q is in
    ap (λ (n : ℕ). cond (nat_lt n (length ps)) (Some n) None) (first_at ps i q h is)
    ∙ ap (λ (b : Bool). cond b (Some i) None) (lt-ltb i (length ps) within)

-- whether the place of an id is one of these
abbrev among_places : List ℕ → Option ℕ → Bool
among_places places None = false
among_places places (Some p) = is_among places p

abbrev needs : List PieceValue → List ℕ → List ℕ → Bool
needs pieces places id = among_places places (piece_place id pieces)

needs_own : (pieces : List PieceValue) (places : List ℕ) (i : ℕ) (q : PieceValue) → AreDifferent pieces → slice_get pieces i ≡ Some q → needs pieces places q.id ≡ is_among places i
needs_own pieces places i q h is = ap (among_places places) (own_place pieces i q h is)

pub there_below : {X : Type 0} (xs : List X) (p : ℕ) → p < length xs → (x : X) × (slice_get xs p ≡ Some x)
there_below [] p within = absurd (omega (arith, within))
there_below (x ∷ xs) zero within = (x, refl)
there_below (x ∷ xs) (suc p) within = there_below xs p (omega (arith, within))

-- the parts of a piece, among those of each
parts-own : (pieces : List PieceValue) (i : ℕ) (p : PieceValue) → slice_get pieces i ≡ Some p → slice_index_or (parts_of_each pieces) i [] ≡ part_places pieces p
parts-own pieces i p is =
    get_or_from_slice_get (parts_of_each pieces) i (part_places pieces p) [] (slice_get-map (part_places pieces) pieces i ∙ ap (option_map (part_places pieces)) is)

parts-none : (parts : List (List ℕ)) (i q : ℕ) → Contains (slice_index_or parts i []) q → i < length parts
parts-none [] i q has = absurd (let within = has.1 in omega (arith, within))
parts-none (own ∷ parts) zero q has = omega arith
parts-none (own ∷ parts) (suc i) q has = let rest = parts-none parts i q has in omega (arith, rest)

-- a piece that is needed is there
there_needed : (pieces : List PieceValue) (lines : List LineValue) (p : ℕ) → IsDerivation (supports_of pieces) lines → IsNeeded (parts_of_each pieces) lines p
    → (q : PieceValue) × (slice_get pieces p ≡ Some q)
there_needed pieces lines p derivation (by_line r has) =
    let within = All-contains (λ n. n < length (supports_of pieces)) (cited_places lines) p (cited_within (supports_of pieces) lines derivation) has in
    let long = length-map pieces support_of in
    there_below pieces p (omega (arith, within, long))
there_needed pieces lines p derivation (by_piece q r needed has) =
    let within = parts-none (parts_of_each pieces) q p has in
    let long = length-map pieces (part_places pieces) in
    let own = there_below pieces q (omega (arith, within, long)) in
    let named = (parts_named pieces own.0 p).0 (subst (λ (ps : List ℕ). Contains ps p) (parts-own pieces q own.0 own.1) has) in
    (named.0, named.1)

-- what holds of each that a list holds holds of all
pub All-each : (P : ℕ → Type 0) (xs : List ℕ) → ((x : ℕ) → Contains xs x → P x) → All P xs
All-each P [] each = All-nil P
All-each P (x ∷ xs) each = All-cons P x xs (each x (0, omega arith, refl)) (All-each P xs (λ y has. each y (Contains-append_right (x ∷ []) xs y has)))

pub all_there : (pieces : List PieceValue) (lines : List LineValue) (places : List ℕ) → IsDerivation (supports_of pieces) lines → AreNeeded (parts_of_each pieces) lines places
    → AreThere pieces places
all_there pieces lines places derivation needed =
    All-each (λ p. (q : PieceValue) × (slice_get pieces p ≡ Some q)) places (λ p has. there_needed pieces lines p derivation ((needed.needed p).0 has))

pub supports_there : (pieces : List PieceValue) (places : List ℕ) → AreThere pieces places → AreThere (supports_of pieces) places
supports_there pieces places there k d within =
    let own = there k d within in
    (support_of own.0, slice_get-map support_of pieces _ ∙ ap (option_map support_of) own.1)

-- a part of a needed piece is needed
passed_at : (pieces : List PieceValue) (lines : List LineValue) (places : List ℕ) → AreStanding pieces → AreNeeded (parts_of_each pieces) lines places
    → (i : ℕ) (p : PieceValue) → slice_get pieces i ≡ Some p → needs pieces places p.id ≡ true → AllPassed (needs pieces places) (ids_of_parts p.evidence)
passed_at pieces lines places h needed i p is wanted part named =
    let among = sym (needs_own pieces places i p h.different is) ∙ wanted in
    let own = (needed.needed i).0 (among_to places i among) in
    let found = part_before pieces i p part h is named in
    let q = found.1 in
    let names_it : names p.evidence q.id ≡ true = ap (names p.evidence) found.3 ∙ named in
    let has = subst (λ (ps : List ℕ). Contains ps found.0) (sym (parts-own pieces i p is)) ((parts_named pieces p found.0).1 (q, found.2, names_it)) in
    let there = among_from places found.0 ((needed.needed found.0).1 (by_piece i found.0 own has)) in
    subst (λ (id : List ℕ). needs pieces places id ≡ true) found.3 (needs_own pieces places found.0 q h.different found.2 ∙ there)

passed_from : (test : List ℕ → Bool) (ps : List PieceValue) → ((i : ℕ) (p : PieceValue) → slice_get ps i ≡ Some p → test p.id ≡ true → AllPassed test (ids_of_parts p.evidence))
    → ArePassed test ps
passed_from test [] h = tt
passed_from test (p ∷ ps) h = (h 0 p refl, passed_from test ps (λ i q is. h (suc i) q is))

-- the needed pieces stand
pub needed_stand : (pieces : List PieceValue) (lines : List LineValue) (places : List ℕ) → AreStanding pieces → AreNeeded (parts_of_each pieces) lines places
    → AreStanding (items_at pieces places)
needed_stand pieces lines places h needed =
    let test = needs pieces places in
    subst AreStanding (sym (items_chosen (λ (p : PieceValue). test p.id) pieces places needed.ascending (λ i q is. needs_own pieces places i q h.different is)))
    (AreStanding-passing pieces test h (passed_from test pieces (passed_at pieces lines places h needed)))

-- what holds of each piece holds of those at places
pub All-items : (P : PieceValue → Type 0) (pieces : List PieceValue) (places : List ℕ) → All P pieces → All P (items_at pieces places)
All-items P pieces [] h = All-nil P
All-items P pieces (p ∷ places) h = go (slice_get pieces p) refl (All-items P pieces places h) where
  go : (o : Option PieceValue) → slice_get pieces p ≡ o → All P (items_at pieces places) → All P (cons_option o (items_at pieces places))
  go None is rest = rest
  go (Some q) is rest =
      All-cons P q (items_at pieces places)
      (subst P (get_or_from_slice_get pieces p q q is) (h p q (slice_get_within pieces p q is))) rest
