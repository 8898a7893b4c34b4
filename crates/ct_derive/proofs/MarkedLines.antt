-- Marks of the lines that the last one needs: they begin at the last line, and go down line by line.
use Rattle.std.proofs.Common.{◌≡◌, ℕ, zero, suc, ◌+◌, ◌<◌, ◌≤◌, Bool, true, false, List, [], ◌∷◌, length, replicate, take, All, Some, ◌⊎◌, inl, inr, refl, sym, ap, subst, ◌∙◌, arith}
use Rattle.std.specs.Prelude.{slice_get, slice_set, Contains}
use Rattle.std.proofs.lemmas.Bool.{cases_eq}
use Rattle.std.proofs.lemmas.Option.{slice_get_within, same_Some}
use Rattle.std.proofs.lemmas.List.{length-replicate, length-set, get_or-set_same, get_or-set_other, length-take-le}
use Rattle.std.proofs.lemmas.List.Elements.{All-nil, All-cons, All-head, All-tail, All-weaker}
use Rattle.ct_rule_parts.specs.declared.support.Support.{Support}
use Rattle.ct_rules.specs.Derivation.{LineValue, IsDerivation}
use Rattle.ct_derive.specs.Pruning.{is_marked, with_marks, IsNamedByMarked, AreMarkedFrom, AreMarked}
use Rattle.ct_derive.proofs.PrunedLines.{some_at}

-- a marked place is one of the list
pub marked-within : (marks : List Bool) (k : ℕ) → is_marked marks k ≡ true → k < length marks
marked-within [] k h = absurd cc
marked-within (m ∷ marks) zero h = omega arith
marked-within (m ∷ marks) (suc k) h = let rest = marked-within marks k h in omega arith

-- one more mark stands where it is put, and the others stay
set-there : (marks : List Bool) (p : ℕ) → p < length marks → is_marked (slice_set marks p true) p ≡ true
set-there marks p within = get_or-set_same marks p true false within

set-kept : (marks : List Bool) (p k : ℕ) → is_marked marks k ≡ true → is_marked (slice_set marks p true) k ≡ true
set-kept marks p k h = elim (cases_eq k p) [
  | inl same ↦ subst (λ (j : ℕ). is_marked (slice_set marks p true) j ≡ true) (sym same)
      (set-there marks p (subst (λ (j : ℕ). j < length marks) same (marked-within marks k h)))
  | inr other ↦ get_or-set_other marks p k true false other ∙ h
]

-- more marks leave their number, and the marks
pub length-with_marks : (places : List ℕ) (marks : List Bool) → length (with_marks places marks) ≡ length marks
length-with_marks [] marks = refl
length-with_marks (p ∷ places) marks = length-with_marks places (slice_set marks p true) ∙ length-set marks p true

pub with_marks-kept : (places : List ℕ) (marks : List Bool) (k : ℕ) → is_marked marks k ≡ true
    → is_marked (with_marks places marks) k ≡ true
with_marks-kept [] marks k h = h
with_marks-kept (p ∷ places) marks k h = with_marks-kept places (slice_set marks p true) k (set-kept marks p k h)

-- all of the places are marked
pub with_marks-there : (places : List ℕ) (marks : List Bool) → All (λ p. p < length marks) places
    → All (λ p. is_marked (with_marks places marks) p ≡ true) places
with_marks-there [] marks within = All-nil (λ p. is_marked marks p ≡ true)
with_marks-there (p ∷ places) marks within =
    All-cons (λ q. is_marked (with_marks places (slice_set marks p true)) q ≡ true) p places
    (with_marks-kept places (slice_set marks p true) p
    (set-there marks p (All-head (λ q. q < length marks) p places within)))
    (with_marks-there places (slice_set marks p true)
    (subst (λ n. All (λ q. q < n) places) (sym (length-set marks p true)) (All-tail (λ q. q < length marks) p places within)))

-- and no place is marked but those that were and these
pub with_marks-cases : (places : List ℕ) (marks : List Bool) (k : ℕ) → is_marked (with_marks places marks) k ≡ true
    → (is_marked marks k ≡ true) ⊎ Contains places k
with_marks-cases [] marks k h = inl h
with_marks-cases (p ∷ places) marks k h = go (with_marks-cases places (slice_set marks p true) k h) (cases_eq k p)
  where
    go : (is_marked (slice_set marks p true) k ≡ true) ⊎ Contains places k → (k ≡ p) ⊎ (k ≡ p → ⊥)
        → (is_marked marks k ≡ true) ⊎ Contains (p ∷ places) k
    go (inr has) same = inr (suc has.0, omega (arith, has.1), has.2)
    go (inl was) (inl same) = inr (0, omega arith, sym same)
    go (inl was) (inr other) = inl (sym (get_or-set_other marks p k true false other) ∙ was)

-- where none is marked but the last
pub none-marked : (n k : ℕ) → is_marked (replicate n false) k ≡ true → ⊥
none-marked zero k h = cc
none-marked (suc n) zero h = cc
none-marked (suc n) (suc k) h = none-marked n k h

-- the last line alone
pub AreMarked-begin : (lines : List LineValue) (last : ℕ) → last + 1 ≡ length lines
    → AreMarkedFrom (length lines) lines (slice_set (replicate (length lines) false) last true)
AreMarked-begin lines last ends = record {
  size = length-set (replicate (length lines) false) last true ∙ length-replicate (length lines) false;
  last = λ k is.
      let same : last ≡ k = omega arith in
      subst (λ (j : ℕ). is_marked (slice_set (replicate (length lines) false) last true) j ≡ true) same
      (set-there (replicate (length lines) false) last (omega (arith, length-replicate (length lines) false)));
  named = λ k h. inl (go k h (cases_eq k last));
  closed = λ k l from at h. let within = slice_get_within lines k l at in absurd (omega arith);
}
  where
    go : (k : ℕ) → is_marked (slice_set (replicate (length lines) false) last true) k ≡ true → (k ≡ last) ⊎ (k ≡ last → ⊥)
        → k + 1 ≡ length lines
    go k h (inl same) = omega (arith, same, ends)
    go k h (inr other) =
        absurd (none-marked (length lines) k
        (sym (get_or-set_other (replicate (length lines) false) last k true false other) ∙ h))

-- a line that is not marked needs none
pub AreMarked-unmarked : (place : ℕ) (lines : List LineValue) (marks : List Bool) → is_marked marks place ≡ false
    → AreMarkedFrom (place + 1) lines marks → AreMarkedFrom place lines marks
AreMarked-unmarked place lines marks not h = record {
  size = h.size;
  last = h.last;
  named = h.named;
  closed = λ k l from at marked. elim (cases_eq k place) [
    | inl same ↦ absurd (let here = ap (is_marked marks) same in cc)
    | inr other ↦ h.closed k l (omega arith) at marked
  ];
}

-- one that is marked needs those that it names
pub AreMarked-marked : (place : ℕ) (l : LineValue) (lines : List LineValue) (marks : List Bool) → is_marked marks place ≡ true
    → slice_get lines place ≡ Some l → All (λ p. p < place) l.from
    → AreMarkedFrom (place + 1) lines marks → AreMarkedFrom place lines (with_marks l.from marks)
AreMarked-marked place l lines marks here at below h = record {
  size = length-with_marks l.from marks ∙ h.size;
  last = λ k is. with_marks-kept l.from marks k (h.last k is);
  named = λ k marked. named k (with_marks-cases l.from marks k marked);
  closed = λ k m from there marked. closed k m from there (with_marks-cases l.from marks k marked) (cases_eq k place);
}
  where
    kept : (k : ℕ) → IsNamedByMarked lines marks k → IsNamedByMarked lines (with_marks l.from marks) k
    kept k by = (by.0, by.1, by.2, with_marks-kept l.from marks by.0 by.3, by.4)

    named : (k : ℕ) → (is_marked marks k ≡ true) ⊎ Contains l.from k
        → (k + 1 ≡ length lines) ⊎ IsNamedByMarked lines (with_marks l.from marks) k
    named k (inl was) = elim (h.named k was) [ inl end ↦ inl end | inr by ↦ inr (kept k by) ]
    named k (inr has) = inr (place, l, at, with_marks-kept l.from marks place here, has)

    within : All (λ p. p < length marks) l.from
    within = λ k d lt.
        let lower = below k d lt in
        let inside = slice_get_within lines place l at in
        omega (arith, h.size)

    has_below : (k : ℕ) → Contains l.from k → k < place
    has_below k has = subst (λ n. n < place) has.2 (below has.0 k has.1)

    closed : (k : ℕ) (m : LineValue) → place ≤ k → slice_get lines k ≡ Some m → (is_marked marks k ≡ true) ⊎ Contains l.from k
        → (k ≡ place) ⊎ (k ≡ place → ⊥) → All (λ p. is_marked (with_marks l.from marks) p ≡ true) m.from
    closed k m from there marked (inl same) =
        let is : l ≡ m = same_Some l m (sym at ∙ ap (slice_get lines) (sym same) ∙ there) in
        subst (λ (n : LineValue). All (λ p. is_marked (with_marks l.from marks) p ≡ true) n.from) is
        (with_marks-there l.from marks within)
    closed k m from there (inl was) (inr other) =
        All-weaker (λ p. is_marked marks p ≡ true) (λ p. is_marked (with_marks l.from marks) p ≡ true)
        (λ p h'. with_marks-kept l.from marks p h') m.from (h.closed k m (omega arith) there was)
    closed k m from there (inr has) (inr other) = absurd (let lower = has_below k has in omega arith)

-- so there are such marks of each derivation
pub marks_exist : (supports : List Support) (lines : List LineValue) (last : ℕ) → IsDerivation supports lines
    → last + 1 ≡ length lines → (marks : List Bool) × AreMarked lines marks
marks_exist supports lines last derivation ends =
    down (length lines) (omega arith) (slice_set (replicate (length lines) false) last true) (AreMarked-begin lines last ends)
  where
    step : (place : ℕ) → place < length lines → (marks : List Bool) → AreMarkedFrom (suc place) lines marks → (b : Bool)
        → is_marked marks place ≡ b → (others : List Bool) × AreMarkedFrom place lines others
    step place within marks h false is =
        (marks, AreMarked-unmarked place lines marks is (subst (λ n. AreMarkedFrom n lines marks) (omega arith) h))
    step place within marks h true is =
        let found = some_at lines place within in
        let earlier = (derivation place found.0 found.1).earlier in
        let size = length-take-le place lines (omega arith) in (
          with_marks found.0.from marks,
          AreMarked-marked place found.0 lines marks is found.1 (subst (λ n. All (λ p. p < n) found.0.from) size earlier)
              (subst (λ n. AreMarkedFrom n lines marks) (omega arith) h),
        )

    down : (place : ℕ) → place ≤ length lines → (marks : List Bool) → AreMarkedFrom place lines marks
        → (others : List Bool) × AreMarked lines others
    down zero within marks h = (marks, h)
    down (suc place) within marks h =
        let next = step place (omega arith) marks h (is_marked marks place) refl in
        down place (omega arith) next.0 next.1

-- the lines that a line of a derivation names are before it
pub named_below_line : (supports : List Support) (lines : List LineValue) (place : ℕ) (l : LineValue) → IsDerivation supports lines
    → slice_get lines place ≡ Some l → All (λ p. p < place) l.from
named_below_line supports lines place l derivation at =
    let within = slice_get_within lines place l at in
    let size = length-take-le place lines (omega arith) in
    subst (λ n. All (λ p. p < n) l.from) size (derivation place l at).earlier

-- where none of the first lines is marked but the last
pub begun : (all : List LineValue) (last : ℕ) (marks : List Bool) → marks ≡ replicate (last + 1) false → last < length all
    → AreMarkedFrom (last + 1) (take (last + 1) all) (slice_set marks last true)
begun all last marks none within =
    let size = length-take-le (last + 1) all (omega arith) in
    let first = AreMarked-begin (take (last + 1) all) last (sym size) in
    subst (λ (ms : List Bool). AreMarkedFrom (last + 1) (take (last + 1) all) (slice_set ms last true)) (sym none)
    (subst (λ n. AreMarkedFrom n (take (last + 1) all) (slice_set (replicate n false) last true)) size first)
