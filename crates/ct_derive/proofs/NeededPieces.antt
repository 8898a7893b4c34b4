-- The pieces that lines need: marks of those that lines name, and of the parts of marked ones, from the last piece down.
use Rattle.std.proofs.Common.{◌≡◌, ℕ, zero, suc, ◌+◌, ◌<◌, ◌≤◌, Bool, true, false, List, [], ◌∷◌, length, replicate, All, Option, Some, None, ◌⊎◌, inl, inr, refl, sym, ap, subst, ◌∙◌, arith}
use Rattle.std.proofs.Common.{Result, Ok, Err, Vec, Global}
use Rattle.std.specs.Prelude.{◌↔◌, slice_get, Contains, IfOk}
use Rattle.std.specs.List.{cons_option, slice_index_or}
use Rattle.std.specs.List.Sorted.{IsStrictlyIncreasing}
use Rattle.std.specs.Option.{option_to_list}
use Rattle.std.proofs.lemmas.Bool.{cases_eq}
use Rattle.std.proofs.lemmas.Option.{slice_get_within, slice_get-get_or, same_Some, none-some}
use Rattle.std.proofs.lemmas.List.{length-replicate}
use Rattle.std.proofs.lemmas.List.Elements.{All-nil, All-cons, All-weaker, All-contains}
use Rattle.ct_rule_parts.specs.declared.support.Support.{Support}
use Rattle.ct_rules.specs.Rule.{named_place}
use Rattle.ct_rules.specs.Derivation.{LineValue, IsDerivation}
use Rattle.ct_rules.proofs.Applied.{applies_from_premises}
use Rattle.ct_rules.proofs.LoweredRules.{support_there}
use Rattle.ct_derive.specs.Pieces.{cited_places, IsNeeded, AreNeeded}
use Rattle.ct_derive.specs.Pieces.IsNeeded.{by_line, by_piece}
use Rattle.ct_derive.specs.Pruning.{is_marked, with_marks}
use Rattle.ct_derive.specs.Inside.Needed.{AreMarkedPieces}
use Rattle.ct_derive.proofs.MarkedLines.{length-with_marks, with_marks-kept, with_marks-there, with_marks-cases, none-marked}

-- what holds of each place that a line names holds of all
pub All-cited : (P : ℕ → Type 0) (lines : List LineValue)
    → ((i : ℕ) (l : LineValue) (p : ℕ) → slice_get lines i ≡ Some l → named_place l.rule ≡ Some p → P p) → All P (cited_places lines)
All-cited P [] each = All-nil P
All-cited P (l ∷ lines) each = go (named_place l.rule) refl (All-cited P lines (λ i m p at is. each (suc i) m p at is))
  where
    go : (o : Option ℕ) → named_place l.rule ≡ o → All P (cited_places lines) → All P (cons_option o (cited_places lines))
    go None is rest = rest
    go (Some p) is rest = All-cons P p (cited_places lines) (each 0 l p refl is) rest

-- the lines of a derivation name supports that are there
pub cited_within : (supports : List Support) (lines : List LineValue) → IsDerivation supports lines
    → All (λ p. p < length supports) (cited_places lines)
cited_within supports lines derivation =
    All-cited (λ p. p < length supports) lines (λ i l p at is.
    let follows = derivation i l at in
    let applied = applies_from_premises supports l.rule l.claim.entry _ follows.premises in
    let there = support_there supports l.rule p l.claim.entry applied is in
    slice_get_within supports p there.0 there.1)

-- the place that one of the lines names is among them
cited_at : (lines : List LineValue) (i : ℕ) (l : LineValue) (p : ℕ) → slice_get lines i ≡ Some l → named_place l.rule ≡ Some p
    → Contains (cited_places lines) p
cited_at [] i l p at is = absurd (none-some l at)
cited_at (m ∷ lines) zero l p at is = go (named_place m.rule) (ap (λ (x : LineValue). named_place x.rule) (same_Some m l at) ∙ is)
  where
    go : (o : Option ℕ) → o ≡ Some p → Contains (cons_option o (cited_places lines)) p
    go None h = absurd (none-some p h)
    go (Some q) h = (0, omega arith, same_Some q p h)
cited_at (m ∷ lines) (suc i) l p at is = go (named_place m.rule) (cited_at lines i l p at is)
  where
    go : (o : Option ℕ) → Contains (cited_places lines) p → Contains (cons_option o (cited_places lines)) p
    go None has = has
    go (Some q) has = (suc has.0, omega (arith, has.1), has.2)

pub cited_of_line : (P : ℕ → Type 0) (lines : List LineValue) (i : ℕ) (l : LineValue) → slice_get lines i ≡ Some l
    → All P (cited_places lines) → All P (option_to_list (named_place l.rule))
cited_of_line P lines i l at all = go (named_place l.rule) refl
  where
    go : (o : Option ℕ) → named_place l.rule ≡ o → All P (option_to_list o)
    go None is = All-nil P
    go (Some p) is = All-cons P p [] (All-contains P (cited_places lines) p all (cited_at lines i l p at is)) (All-nil P)

-- marks of the place that the first line names, and of those of the others
pub with_marks-cons : (o : Option ℕ) (places : List ℕ) (marks : List Bool)
    → with_marks (cons_option o places) marks ≡ with_marks places (with_marks (option_to_list o) marks)
with_marks-cons None places marks = refl
with_marks-cons (Some p) places marks = refl

-- those that the lines name
pub pieces_begin : (parts : List (List ℕ)) (lines : List LineValue) (marks : List Bool) → marks ≡ replicate (length parts) false
    → All (λ p. p < length parts) (cited_places lines)
    → AreMarkedPieces (length parts) parts lines (with_marks (cited_places lines) marks)
pieces_begin parts lines marks none within = record {
  size = length-with_marks (cited_places lines) marks ∙ size;
  sound = λ p h. sound p (with_marks-cases (cited_places lines) marks p h);
  cited = λ p has.
      All-contains (λ q. is_marked (with_marks (cited_places lines) marks) q ≡ true) (cited_places lines) p
      (with_marks-there (cited_places lines) marks
      (subst (λ n. All (λ q. q < n) (cited_places lines)) (sym size) within)) has;
  closed = λ k places from at h. let inside = slice_get_within parts k places at in absurd (omega arith);
}
  where
    size : length marks ≡ length parts
    size = ap (λ (ms : List Bool). length ms) none ∙ length-replicate (length parts) false

    sound : (p : ℕ) → (is_marked marks p ≡ true) ⊎ Contains (cited_places lines) p → IsNeeded parts lines p
    sound p (inl was) = absurd (none-marked (length parts) p (ap (λ (ms : List Bool). is_marked ms p) (sym none) ∙ was))
    sound p (inr has) = by_line p has

-- a piece that is not marked has no parts to mark
pub pieces_unmarked : (place : ℕ) (parts : List (List ℕ)) (lines : List LineValue) (marks : List Bool)
    → is_marked marks place ≡ false
    → AreMarkedPieces (place + 1) parts lines marks → AreMarkedPieces place parts lines marks
pieces_unmarked place parts lines marks not h = record {
  size = h.size;
  sound = h.sound;
  cited = h.cited;
  closed = λ k places from at marked. elim (cases_eq k place) [
    | inl same ↦ absurd (let here = ap (is_marked marks) same in cc)
    | inr other ↦ h.closed k places (omega arith) at marked
  ];
}

-- those of one that is marked
pub pieces_marked : (place : ℕ) (own : List ℕ) (parts : List (List ℕ)) (lines : List LineValue) (marks : List Bool)
    → is_marked marks place ≡ true → slice_get parts place ≡ Some own → All (λ p. p < place) own
    → AreMarkedPieces (place + 1) parts lines marks → AreMarkedPieces place parts lines (with_marks own marks)
pieces_marked place own parts lines marks here at below h = record {
  size = length-with_marks own marks ∙ h.size;
  sound = λ p marked. sound p (with_marks-cases own marks p marked);
  cited = λ p has. with_marks-kept own marks p (h.cited p has);
  closed = λ k places from there marked. closed k places from there (with_marks-cases own marks k marked) (cases_eq k place);
}
  where
    within : All (λ p. p < length marks) own
    within = λ k d lt.
        let lower = below k d lt in
        let inside = slice_get_within parts place own at in
        omega (arith, h.size)

    has_below : (k : ℕ) → Contains own k → k < place
    has_below k has = All-contains (λ p. p < place) own k below has

    is_own : slice_index_or parts place [] ≡ own
    is_own =
        same_Some (slice_index_or parts place []) own
        (sym (slice_get-get_or parts place [] (slice_get_within parts place own at)) ∙ at)

    sound : (p : ℕ) → (is_marked marks p ≡ true) ⊎ Contains own p → IsNeeded parts lines p
    sound p (inl was) = h.sound p was
    sound p (inr has) = by_piece place p (h.sound place here) (subst (λ (ps : List ℕ). Contains ps p) (sym is_own) has)

    closed : (k : ℕ) (places : List ℕ) → place ≤ k → slice_get parts k ≡ Some places
        → (is_marked marks k ≡ true) ⊎ Contains own k → (k ≡ place) ⊎ (k ≡ place → ⊥)
        → All (λ p. is_marked (with_marks own marks) p ≡ true) places
    closed k places from there marked (inl same) =
        let is : own ≡ places = same_Some own places (sym at ∙ ap (slice_get parts) (sym same) ∙ there) in
        subst (λ (ps : List ℕ). All (λ p. is_marked (with_marks own marks) p ≡ true) ps) is (with_marks-there own marks within)
    closed k places from there (inl was) (inr other) =
        All-weaker (λ p. is_marked marks p ≡ true) (λ p. is_marked (with_marks own marks) p ≡ true)
        (λ p h'. with_marks-kept own marks p h') places (h.closed k places (omega arith) there was)
    closed k places from there (inr has) (inr other) = absurd (let lower = has_below k has in omega arith)

-- at the end each needed piece is marked
pieces_complete : (parts : List (List ℕ)) (lines : List LineValue) (marks : List Bool) → AreMarkedPieces 0 parts lines marks
    → (p : ℕ) → IsNeeded parts lines p → is_marked marks p ≡ true
pieces_complete parts lines marks h p (by_line q has) = h.cited q has
pieces_complete parts lines marks h p (by_piece q r needed has) = part (pieces_complete parts lines marks h q needed)
  where
    some_parts : (ps : List (List ℕ)) (k : ℕ) → Contains (slice_index_or ps k []) r → slice_get ps k ≡ Some (slice_index_or ps k [])
    some_parts [] k none = absurd (let inside = none.1 in omega arith)
    some_parts (own ∷ ps) zero some = refl
    some_parts (own ∷ ps) (suc k) some = some_parts ps k some

    part : is_marked marks q ≡ true → is_marked marks r ≡ true
    part marked =
        All-contains (λ x. is_marked marks x ≡ true) (slice_index_or parts q []) r
        (h.closed q (slice_index_or parts q []) (omega arith) (some_parts parts q has) marked) has

-- so the marked places are those of the needed pieces
pub needed_from_marks : (parts : List (List ℕ)) (lines : List LineValue) (marks : List Bool) (places : List ℕ)
    → AreMarkedPieces 0 parts lines marks → IsStrictlyIncreasing places
    → ((p : ℕ) → Contains places p ↔ (is_marked marks p ≡ true)) → AreNeeded parts lines places
needed_from_marks parts lines marks places marked ascending same = record {
  ascending = ascending;
  needed = λ p. (
    λ has. marked.sound p ((same p).0 has),
    λ needed. (same p).1 (pieces_complete parts lines marks marked p needed),
  );
}

-- what follows from two facts of the value in an `Ok`
if_ok_both : {X Y : Type 0} (r : Result X Y) (P Q R : X → Type 0) → ((x : X) → P x → Q x → R x) → IfOk r P → IfOk r Q → IfOk r R
if_ok_both (Ok x) P Q R f p q = f x p q
if_ok_both (Err e) P Q R f p q = p

pub needed_from_places : {Y : Type 0} (parts : List (List ℕ)) (lines : List LineValue) (marks : List Bool) (r : Result (Vec ℕ Global) Y)
    → AreMarkedPieces 0 parts lines marks → IfOk r (λ places. IsStrictlyIncreasing places.items)
    → IfOk r (λ places. (p : ℕ) → Contains places.items p ↔ (is_marked marks p ≡ true))
    → IfOk r (λ places. AreNeeded parts lines places.items)
needed_from_places parts lines marks r marked ascending same =
    if_ok_both r (λ places. IsStrictlyIncreasing places.items) (λ places. (p : ℕ) → Contains places.items p ↔ (is_marked marks p ≡ true))
    (λ places. AreNeeded parts lines places.items)
    (λ places up is. needed_from_marks parts lines marks places.items marked up is) ascending same
