-- The first wrong id of a product, by its plain condition.
use Rattle.std.proofs.Common.{◌≡◌, ℕ, ◌+◌, ◌==◌, Bool, true, false, ◌&&◌, not, cond, List, [], ◌∷◌, ◌++◌, Option, Some, None, is_some, refl, sym, ap, ap₂, ◌∙◌, inl, inr, eq-eqb}
use Rattle.std.specs.Prelude.{All, IfSome, IsSome}
use Rattle.std.proofs.lemmas.Bool.{eqb-true, or_parts, or_from}
use Rattle.std.proofs.lemmas.List.Elements.{All-nil, All-cons, All-head, All-tail}
use Rattle.ct_words.specs.declared.entry.Entry.{Entry}
use Rattle.ct_words.specs.Pairs.{first_of}
use Rattle.ct_words.proofs.CheckLemmas.{first_of-None}
use Rattle.ct_build.specs.Build.{add_up}
use Rattle.ct_classes.specs.Partition.{PartitionValue}
use Rattle.ct_kind.specs.Named.{NamedCode, partition_named}
use Rattle.ct_laws.proofs.Says.{Says}
use Rattle.ct_partition_files.specs.ProductKind.{Ids, factor_named, first_length, is_wrong_first, is_wrong_second, wrong_of_pair, wrong_of_pairs, wrong_id}
use Rattle.ct_laws.specs.ProductRefusal.{IsRightFirst, IsRightSecond, IsRightPair, IsWrongOf, IsFirstWrongAt, IsFirstWrong, AreRightPairs}
use Rattle.ct_partition_files.proofs.ProductKind.{not-false, none-parts, added, added-from}

weighted : (w v : Option ℕ) → (is_some w && not (is_some v)) ≡ false → IfSome w (λ k. IsSome v)
weighted None v h = tt
weighted (Some k) None h = absurd cc
weighted (Some k) (Some j) h = refl

weighted-back : (w v : Option ℕ) → IfSome w (λ k. IsSome v) → (is_some w && not (is_some v)) ≡ false
weighted-back None v h = refl
weighted-back (Some k) None h = absurd cc
weighted-back (Some k) (Some j) h = refl

-- a test of an id says whether it is right
first-right : (w : Option ℕ) (long : ℕ) (o : Option PartitionValue) → is_wrong_first w long o ≡ false → IsRightFirst w long o
first-right w long None h = absurd cc
first-right w long (Some x) h =
    let parts = or_parts (not (x.entry.n == long)) (is_some w && not (is_some x.entry.w)) h in
    (eqb-true x.entry.n long (not-false (x.entry.n == long) parts.0), weighted w x.entry.w parts.1)

first-not_wrong : (w : Option ℕ) (long : ℕ) (o : Option PartitionValue) → IsRightFirst w long o → is_wrong_first w long o ≡ false
first-not_wrong w long None h = absurd h
first-not_wrong w long (Some x) h =
    or_from (not (x.entry.n == long)) (is_some w && not (is_some x.entry.w)) (ap not (eq-eqb x.entry.n long h.0)) (weighted-back w x.entry.w h.1)

second-right : (e : Entry) (x : PartitionValue) (o : Option PartitionValue) → is_wrong_second e x o ≡ false → IsRightSecond e x o
second-right e x None h = absurd cc
second-right e x (Some y) h =
    let parts = or_parts (not (x.entry.n + y.entry.n == e.n)) (not (add_up e.w x.entry.w y.entry.w)) h in
    (eqb-true (x.entry.n + y.entry.n) e.n (not-false (x.entry.n + y.entry.n == e.n) parts.0), added e.w x.entry.w y.entry.w (not-false (add_up e.w x.entry.w y.entry.w) parts.1))

second-not_wrong : (e : Entry) (x : PartitionValue) (o : Option PartitionValue) → IsRightSecond e x o → is_wrong_second e x o ≡ false
second-not_wrong e x None h = absurd h
second-not_wrong e x (Some y) h =
    or_from (not (x.entry.n + y.entry.n == e.n)) (not (add_up e.w x.entry.w y.entry.w)) (ap not (eq-eqb (x.entry.n + y.entry.n) e.n h.0))
    (ap not (added-from e.w x.entry.w y.entry.w h.1))

-- what two options hold, where they are the same
same-id : (i j : List ℕ) → ◌≡◌ {A = Option (List ℕ)} (Some i) (Some j) → i ≡ j
same-id i j is = cc

-- the id of a pair that is wrong
pair-wrong : (e : Entry) (long : ℕ) (known : List NamedCode) (p : Ids) (id : List ℕ) → wrong_of_pair e long known p ≡ Some id → IsWrongOf e long known p id
pair-wrong e long known p id h =
    at (is_wrong_first e.w long (partition_named p.0 known)) (is_wrong_second e (factor_named known p.0) (partition_named p.1 known)) refl refl h
  where
    at : (a b : Bool) → is_wrong_first e.w long (partition_named p.0 known) ≡ a → is_wrong_second e (factor_named known p.0) (partition_named p.1 known) ≡ b
        → cond a (Some p.0) (cond b (Some p.1) None) ≡ Some id → IsWrongOf e long known p id
    at true b first second h = inl (λ right. absurd (let not_wrong = first-not_wrong e.w long (partition_named p.0 known) right in cc), sym (same-id p.0 id h))
    at false true first second h =
        inr (
          first-right e.w long (partition_named p.0 known) first,
          λ right. absurd (let not_wrong = second-not_wrong e (factor_named known p.0) (partition_named p.1 known) right in cc),
          sym (same-id p.1 id h),
        )
    at false false first second h = absurd cc

pair-right : (e : Entry) (long : ℕ) (known : List NamedCode) (p : Ids) → wrong_of_pair e long known p ≡ None → IsRightPair e long known p
pair-right e long known p h =
    let parts = none-parts (is_wrong_first e.w long (partition_named p.0 known)) (is_wrong_second e (factor_named known p.0) (partition_named p.1 known)) p.0 p.1 h in
    (first-right e.w long (partition_named p.0 known) parts.0, second-right e (factor_named known p.0) (partition_named p.1 known) parts.1)

-- and back
wrong-pair : (e : Entry) (long : ℕ) (known : List NamedCode) (p : Ids) (id : List ℕ) → IsWrongOf e long known p id → wrong_of_pair e long known p ≡ Some id
wrong-pair e long known p id h =
    at (is_wrong_first e.w long (partition_named p.0 known)) (is_wrong_second e (factor_named known p.0) (partition_named p.1 known)) refl refl h
  where
    at : (a b : Bool) → is_wrong_first e.w long (partition_named p.0 known) ≡ a → is_wrong_second e (factor_named known p.0) (partition_named p.1 known) ≡ b
        → IsWrongOf e long known p id → cond a (Some p.0) (cond b (Some p.1) None) ≡ Some id
    at true b first second (inl (wrong, is)) = ap Some (sym is)
    at true b first second (inr (right, wrong, is)) = absurd (let not_wrong = first-not_wrong e.w long (partition_named p.0 known) right in cc)
    at false b first second (inl (wrong, is)) = absurd (wrong (first-right e.w long (partition_named p.0 known) first))
    at false true first second (inr (right, wrong, is)) = ap Some (sym is)
    at false false first second (inr (right, wrong, is)) = absurd (wrong (second-right e (factor_named known p.0) (partition_named p.1 known) second))

right-pair : (e : Entry) (long : ℕ) (known : List NamedCode) (p : Ids) → IsRightPair e long known p → wrong_of_pair e long known p ≡ None
right-pair e long known p h =
    ap₂ (λ (a b : Bool). cond a (Some p.0) (cond b (Some p.1) None)) (first-not_wrong e.w long (partition_named p.0 known) h.0)
    (second-not_wrong e (factor_named known p.0) (partition_named p.1 known) h.1)

-- the first wrong id of pairs
first-wrong : (e : Entry) (long : ℕ) (known : List NamedCode) (pairs : List Ids) (id : List ℕ) → wrong_of_pairs e long known pairs ≡ Some id
    → IsFirstWrongAt e long known pairs id
first-wrong e long known [] id h = absurd cc
first-wrong e long known (p ∷ ps) id h = at (wrong_of_pair e long known p) refl h (first-wrong e long known ps id) where
  at : (o : Option (List ℕ)) → wrong_of_pair e long known p ≡ o → first_of o (wrong_of_pairs e long known ps) ≡ Some id
      → (wrong_of_pairs e long known ps ≡ Some id → IsFirstWrongAt e long known ps id) → IsFirstWrongAt e long known (p ∷ ps) id
  at (Some i) is same later = record {
    before = [];
    pair = p;
    after = ps;
    split = refl;
    right = All-nil (IsRightPair e long known);
    wrong = pair-wrong e long known p id (is ∙ same);
  }
  at None is same later =
      let rest = later same in
      record {
        before = p ∷ rest.before;
        pair = rest.pair;
        after = rest.after;
        split = ap (λ (qs : List Ids). p ∷ qs) rest.split;
        right = All-cons (IsRightPair e long known) p rest.before (pair-right e long known p is) rest.right;
        wrong = rest.wrong;
      }

wrong-first : (e : Entry) (long : ℕ) (known : List NamedCode) (before : List Ids) (p : Ids) (after : List Ids) (id : List ℕ) → All (IsRightPair e long known) before
    → IsWrongOf e long known p id → wrong_of_pairs e long known (before ++ p ∷ after) ≡ Some id
wrong-first e long known [] p after id right wrong = ap (λ (o : Option (List ℕ)). first_of o (wrong_of_pairs e long known after)) (wrong-pair e long known p id wrong)
wrong-first e long known (q ∷ before) p after id right wrong =
    ap (λ (o : Option (List ℕ)). first_of o (wrong_of_pairs e long known (before ++ p ∷ after))) (right-pair e long known q (All-head (IsRightPair e long known) q before right))
    ∙ wrong-first e long known before p after id (All-tail (IsRightPair e long known) q before right) wrong

pub wrong_id-is : (e : Entry) (known : List NamedCode) (pairs : List Ids) (id : List ℕ) → wrong_id e known pairs ≡ Some id → IsFirstWrong e known pairs id
wrong_id-is e known pairs id h = first-wrong e (first_length known pairs) known pairs id h

pub wrong_id-from : (e : Entry) (known : List NamedCode) (pairs : List Ids) (id : List ℕ) → IsFirstWrong e known pairs id → wrong_id e known pairs ≡ Some id
wrong_id-from e known pairs id h =
    ap (wrong_of_pairs e (first_length known pairs) known) h.split ∙ wrong-first e (first_length known pairs) known h.before h.pair h.after id h.right h.wrong

-- where none is wrong, both ids of each pair are right, and back
pairs-right : (e : Entry) (long : ℕ) (known : List NamedCode) (pairs : List Ids) → wrong_of_pairs e long known pairs ≡ None → All (IsRightPair e long known) pairs
pairs-right e long known [] h = All-nil (IsRightPair e long known)
pairs-right e long known (p ∷ ps) h =
    let both = first_of-None (wrong_of_pair e long known p) (wrong_of_pairs e long known ps) h in
    All-cons (IsRightPair e long known) p ps (pair-right e long known p both.0) (pairs-right e long known ps both.1)

right-pairs : (e : Entry) (long : ℕ) (known : List NamedCode) (pairs : List Ids) → All (IsRightPair e long known) pairs → wrong_of_pairs e long known pairs ≡ None
right-pairs e long known [] h = refl
right-pairs e long known (p ∷ ps) h =
    ap (λ (o : Option (List ℕ)). first_of o (wrong_of_pairs e long known ps)) (right-pair e long known p (All-head (IsRightPair e long known) p ps h))
    ∙ right-pairs e long known ps (All-tail (IsRightPair e long known) p ps h)

-- what the search for a wrong id says
pub says-wrong : (e : Entry) (known : List NamedCode) (pairs : List Ids) → Says (wrong_id e known pairs) (AreRightPairs e known pairs) (IsFirstWrong e known pairs)
says-wrong e known pairs = record {
  clear = pairs-right e (first_length known pairs) known pairs;
  clears = right-pairs e (first_length known pairs) known pairs;
  told = wrong_id-is e known pairs;
  tells = wrong_id-from e known pairs;
}
