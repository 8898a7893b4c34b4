-- Evidence of kind product.
use Rattle.std.proofs.Common.{◌≡◌, ℕ, zero, suc, ◌+◌, ◌*◌, ◌≤◌, ◌<◌, ◌==◌, nat_lt, Bool, true, false, ◌||◌, ◌&&◌, not, cond, List, [], ◌∷◌, ◌++◌, length, map, take, drop, get_or, append_assoc, length-append, Option, Some, None, is_some, option_map, refl, sym, ap, ap₂, subst, ◌∙◌, arith, eq-eqb}
use Rattle.std.specs.Prelude.{All, IfSome, IsSome, slice_index_or}
use Rattle.std.proofs.Math.ListN.{get_or-append}
use Rattle.std.proofs.Math.Seq.{get_or-append_seam}
use Rattle.std.specs.List.{list_any}
use Rattle.std.specs.Option.{unwrap_or}
use Rattle.std.specs.Str.{bytes_eq}
use Rattle.std.proofs.lemmas.Bool.{eqb-true, ltb-false, le-ltb, or_parts, or_from}
use Rattle.std.proofs.lemmas.List.{length-map, map-append, take_more, drop_more}
use Rattle.std.proofs.lemmas.List.Elements.{All-nil, All-cons, All-head, All-tail, All-map, All-weaker, All-push}
use Rattle.ct_words.specs.declared.entry.Entry.{Entry}
use Rattle.ct_words.specs.Code.{IsCodeOf}
use Rattle.ct_words.specs.Entry.{IsEntry}
use Rattle.ct_words.specs.Pairs.{first_of}
use Rattle.ct_words.proofs.CheckLemmas.{first_of-None}
use Rattle.ct_words.proofs.EntryLemmas.{entry_limits}
use Rattle.ct_words.specs.Constructions.Juxtaposed.{added_weights}
use Rattle.ct_build.specs.Build.{add_up}
use Rattle.ct_build.specs.declared.fault.BuildFault.TheVariants as build
use Rattle.ct_classes.specs.Partition.{PartitionValue, IsSoundPartition}
use Rattle.ct_partitions.specs.Product.{Factors, product, product_size, product_distance, AreFactors, AreSound as AreSoundFactors, no_partition, pairs_at, ArePairsOfPlaces}
use Rattle.ct_partitions.proofs.ProductCodes.{IsCode-product, length-product}
use Rattle.ct_partitions.proofs.ProductLemmas.{some_of_product}
use Rattle.ct_rule_parts.specs.Support.{Stands}
use Rattle.ct_kind.specs.Named.{NamedCode, is_known, first_missing, partition_named}
use Rattle.ct_kind.specs.KindParts.{support_from}
use Rattle.ct_partition_files.specs.ProductKind.{Ids, ids_of, factor_named, factors_named, first_length, is_wrong_first, is_wrong_second, wrong_of_pair, wrong_of_pairs, wrong_id, short_of, product_reason, product_kind, IsProductChecked}
use Rattle.ct_kind.specs.declared.fault.SubmitFault.TheVariants as fault
use Rattle.ct_kind.specs.Sound.{AreSound}
use Rattle.ct_kind.proofs.Stating.{option_map-none, StatesWell, SaysSame, IsAlike}
use Rattle.ct_kind.proofs.NamedLemmas.{or-later, bytes_eq-same, partition-sound}
use Rattle.ct_kind.proofs.SizeLemmas.{size-stands}

-- two partitions whose lengths and weights are right, where both are there
pub record ArePaired (e : Entry) (long : ℕ) (a b : Option PartitionValue) : Type 0 where
  pub first : IsSome a
  pub second : IsSome b
  pub one_length : (unwrap_or a no_partition).entry.n ≡ long
  pub whole : (unwrap_or a no_partition).entry.n + (unwrap_or b no_partition).entry.n ≡ e.n
  pub weights : IfSome e.w (λ k. added_weights (unwrap_or a no_partition).entry.w (unwrap_or b no_partition).entry.w ≡ Some k)

pub not-false : (b : Bool) → not b ≡ false → b ≡ true
not-false true h = refl
not-false false h = absurd cc

pub none-parts : (a b : Bool) (i j : List ℕ) → cond a (Some i) (cond b (Some j) None) ≡ None → (a ≡ false) × (b ≡ false)
none-parts true b i j h = absurd cc
none-parts false true i j h = absurd cc
none-parts false false i j h = (refl, refl)

-- weights that add up
pub added : (w v u : Option ℕ) → add_up w v u ≡ true → IfSome w (λ k. added_weights v u ≡ Some k)
added None v u h = tt
added (Some w) None u h = absurd cc
added (Some w) (Some v) None h = absurd cc
added (Some w) (Some v) (Some u) h = ap Some (eqb-true (v + u) w h)

pub added-from : (w v u : Option ℕ) → IfSome w (λ k. added_weights v u ≡ Some k) → add_up w v u ≡ true
added-from None v u h = refl
added-from (Some w) None u h = absurd cc
added-from (Some w) (Some v) None h = absurd cc
added-from (Some w) (Some v) (Some u) h = let same : v + u ≡ w = cc in eq-eqb (v + u) w same

weighted-from : (w v u : Option ℕ) → IfSome w (λ k. added_weights v u ≡ Some k) → (is_some w && not (is_some v)) ≡ false
weighted-from None v u h = refl
weighted-from (Some w) None u h = absurd cc
weighted-from (Some w) (Some v) u h = refl

-- no id of a pair is wrong exactly where both are right
paired : (e : Entry) (long : ℕ) (i j : List ℕ) (a b : Option PartitionValue)
    → cond (is_wrong_first e.w long a) (Some i) (cond (is_wrong_second e (unwrap_or a no_partition) b) (Some j) None) ≡ None → ArePaired e long a b
paired e long i j None b h = absurd cc
paired e long i j (Some x) None h = let parts = none-parts (is_wrong_first e.w long (Some x)) true i j h in absurd cc
paired e long i j (Some x) (Some y) h =
    let parts = none-parts (is_wrong_first e.w long (Some x)) (is_wrong_second e x (Some y)) i j h in
    let first = or_parts (not (x.entry.n == long)) (is_some e.w && not (is_some x.entry.w)) parts.0 in
    let second = or_parts (not (x.entry.n + y.entry.n == e.n)) (not (add_up e.w x.entry.w y.entry.w)) parts.1 in
    record {
      first = refl;
      second = refl;
      one_length = eqb-true x.entry.n long (not-false (x.entry.n == long) first.0);
      whole = eqb-true (x.entry.n + y.entry.n) e.n (not-false (x.entry.n + y.entry.n == e.n) second.0);
      weights = added e.w x.entry.w y.entry.w (not-false (add_up e.w x.entry.w y.entry.w) second.1);
    }

paired-from : (e : Entry) (long : ℕ) (i j : List ℕ) (a b : Option PartitionValue) → ArePaired e long a b
    → cond (is_wrong_first e.w long a) (Some i) (cond (is_wrong_second e (unwrap_or a no_partition) b) (Some j) None) ≡ None
paired-from e long i j None b h = let some = h.first in absurd cc
paired-from e long i j (Some x) None h = let some = h.second in absurd cc
paired-from e long i j (Some x) (Some y) h =
    let first = or_from (not (x.entry.n == long)) (is_some e.w && not (is_some x.entry.w)) (ap not (eq-eqb x.entry.n long h.one_length))
    (weighted-from e.w x.entry.w y.entry.w h.weights) in
    let second = or_from (not (x.entry.n + y.entry.n == e.n)) (not (add_up e.w x.entry.w y.entry.w)) (ap not (eq-eqb (x.entry.n + y.entry.n) e.n h.whole))
    (ap not (added-from e.w x.entry.w y.entry.w h.weights)) in
    ap₂ (λ (f s : Bool). cond f (Some i) (cond s (Some j) None)) first second

-- a pair of ids whose partitions are right
abbrev pub IsPaired : Entry → ℕ → List NamedCode → Ids → Type 0
IsPaired e long known p = ArePaired e long (partition_named p.0 known) (partition_named p.1 known)

all-paired : (e : Entry) (long : ℕ) (known : List NamedCode) (pairs : List Ids) → wrong_of_pairs e long known pairs ≡ None → All (IsPaired e long known) pairs
all-paired e long known [] h = All-nil (IsPaired e long known)
all-paired e long known (p ∷ ps) h =
    let both = first_of-None (wrong_of_pair e long known p) (wrong_of_pairs e long known ps) h in
    All-cons (IsPaired e long known) p ps (paired e long p.0 p.1 (partition_named p.0 known) (partition_named p.1 known) both.0) (all-paired e long known ps both.1)

all-paired-from : (e : Entry) (long : ℕ) (known : List NamedCode) (pairs : List Ids) → All (IsPaired e long known) pairs → wrong_of_pairs e long known pairs ≡ None
all-paired-from e long known [] h = refl
all-paired-from e long known (p ∷ ps) h =
    ap₂ first_of (paired-from e long p.0 p.1 (partition_named p.0 known) (partition_named p.1 known) (All-head (IsPaired e long known) p ps h))
    (all-paired-from e long known ps (All-tail (IsPaired e long known) p ps h))

-- the partitions of a pair
abbrev factors_of : List NamedCode → Ids → Factors
factors_of known p = (factor_named known p.0, factor_named known p.1)

unmap : {X Y : Type 0} (P : Y → Type 0) (f : X → Y) (xs : List X) → All P (map f xs) → All (λ (x : X). P (f x)) xs
unmap {X} P f [] h = All-nil (λ (x : X). P (f x))
unmap {X} P f (x ∷ xs) h = All-cons (λ (y : X). P (f y)) x xs (All-head P (f x) (map f xs) h) (unmap P f xs (All-tail P (f x) (map f xs) h))

-- pairs that are right have a product
pub factors-right : (e : Entry) (long : ℕ) (known : List NamedCode) (pairs : List Ids) → 1 ≤ length pairs → (2 ≤ length pairs → IsSome e.w)
    → All (IsPaired e long known) pairs → AreFactors e.n e.w (factors_named known pairs)
factors-right e long known pairs some weighted h =
    let count = length-map pairs (factors_of known) in
    let lengths = All-map (λ (f : Factors). f.0.entry.n ≡ long) (factors_of known) pairs (λ k z within. (h k z within).one_length) in
    record {
      some = omega arith;
      one_length = λ i j d below within. lengths i d (omega arith) ∙ sym (lengths j d within);
      lengths = All-map (λ (f : Factors). f.0.entry.n + f.1.entry.n ≡ e.n) (factors_of known) pairs (λ k z within. (h k z within).whole);
      weights = weights e.w (λ k z within. (h k z within).weights);
      weighted = λ two. weighted (omega arith);
    }
  where
    weights : (w : Option ℕ) → All (λ (p : Ids). IfSome w (λ k. added_weights (factor_named known p.0).entry.w (factor_named known p.1).entry.w ≡ Some k)) pairs
        → IfSome w (λ k. All (λ (f : Factors). added_weights f.0.entry.w f.1.entry.w ≡ Some k) (factors_named known pairs))
    weights None each = tt
    weights (Some k) each = All-map (λ (f : Factors). added_weights f.0.entry.w f.1.entry.w ≡ Some k) (factors_of known) pairs each

-- and pairs that have one are right
paired-of_factors : (e : Entry) (known : List NamedCode) (pairs : List Ids) → IsProductChecked e known pairs → All (IsPaired e (first_length known pairs) known) pairs
paired-of_factors e known [] h = All-nil (IsPaired e 0 known)
paired-of_factors e known (p ∷ ps) h = λ k z within. record {
  first = (h.partitions k z within).0;
  second = (h.partitions k z within).1;
  one_length = lengths k z within;
  whole = unmap (λ (f : Factors). f.0.entry.n + f.1.entry.n ≡ e.n) (factors_of known) (p ∷ ps) h.factors.lengths k z within;
  weights = weights e.w h.factors.weights k z within;
} where
  long : ℕ
  long = (factor_named known p.0).entry.n

  lengths : All (λ (q : Ids). (factor_named known q.0).entry.n ≡ long) (p ∷ ps)
  lengths =
      All-cons (λ (q : Ids). (factor_named known q.0).entry.n ≡ long) p ps refl
      (unmap (λ (f : Factors). f.0.entry.n ≡ long) (factors_of known) ps
      (λ k z within. sym (h.factors.one_length zero (suc k) z (omega arith) (omega arith))))

  weights : (w : Option ℕ) → IfSome w (λ k. All (λ (f : Factors). added_weights f.0.entry.w f.1.entry.w ≡ Some k) (factors_named known (p ∷ ps)))
      → All (λ (q : Ids). IfSome w (λ k. added_weights (factor_named known q.0).entry.w (factor_named known q.1).entry.w ≡ Some k)) (p ∷ ps)
  weights None each = λ k z within. tt
  weights (Some k) each = unmap (λ (f : Factors). added_weights f.0.entry.w f.1.entry.w ≡ Some k) (factors_of known) (p ∷ ps) each

sound-there : (o : Option PartitionValue) → IfSome o IsSoundPartition → IsSome o → IsSoundPartition (unwrap_or o no_partition)
sound-there None h some = absurd cc
sound-there (Some x) h some = h

-- so those of the pairs are
pub factors-sound : (e : Entry) (long : ℕ) (known : List NamedCode) (pairs : List Ids) → AreSound known → All (IsPaired e long known) pairs
    → All AreSoundFactors (factors_named known pairs)
factors-sound e long known pairs sound h =
    All-map AreSoundFactors (factors_of known) pairs (λ k z within.
    let p = get_or pairs k z in (
      sound-there (partition_named p.0 known) (partition-sound p.0 known sound) (h k z within).first,
      sound-there (partition_named p.1 known) (partition-sound p.1 known sound) (h k z within).second,
    ))

-- a product against which there is no reason
pub record IsRightProduct (e : Entry) (known : List NamedCode) (pairs : List Ids) : Type 0 where
  pub pairs_right : All (IsPaired e (first_length known pairs) known) pairs
  pub checked : IsProductChecked e known pairs

not-short : (e : Entry) (have : ℕ) → short_of e have ≡ None → e.d ≤ have
not-short e have h = at (nat_lt have e.d) refl h where
  at : (b : Bool) → nat_lt have e.d ≡ b → cond b (Some (fault.Build (build.Short have e.d))) None ≡ None → e.d ≤ have
  at true is none = absurd cc
  at false is none = ltb-false have e.d is

weighted-pairs : (w : Option ℕ) (count : ℕ) → (w ≡ None → count ≡ 1) → 2 ≤ count → IsSome w
weighted-pairs None count plain two = let one = plain refl in absurd (omega arith)
weighted-pairs (Some w) count plain two = refl

pub right-product : (e : Entry) (known : List NamedCode) (pairs : List Ids) → 1 ≤ length pairs → (e.w ≡ None → length pairs ≡ 1) → product_reason e known pairs ≡ None
    → IsRightProduct e known pairs
right-product e known pairs some plain own =
    let both = first_of-None (option_map fault.WrongPart (wrong_id e known pairs)) (short_of e (product_distance (factors_named known pairs))) own in
    let right = all-paired e (first_length known pairs) known pairs (option_map-none fault.WrongPart (wrong_id e known pairs) both.0) in
    record {
      pairs_right = right;
      checked = record {
        partitions = λ k z within. ((right k z within).first, (right k z within).second);
        factors = factors-right e (first_length known pairs) known pairs some (weighted-pairs e.w (length pairs) plain) right;
        distance = not-short e (product_distance (factors_named known pairs)) both.1;
      };
    }

-- it is a code of its entry, with some word
pub product-code : (e : Entry) (known : List NamedCode) (pairs : List Ids) → IsEntry e → AreSound known → IsRightProduct e known pairs
    → (1 ≤ length (product (factors_named known pairs))) × IsCodeOf e (product (factors_named known pairs))
product-code e known pairs entry sound right =
    let factors = factors_named known pairs in
    let are = factors-sound e (first_length known pairs) known pairs sound right.pairs_right in
    let limits = entry_limits e entry in
    let far = limits.distance_from in (
      some_of_product factors right.checked.factors.some are,
      IsCode-product e.n e.d e.w factors right.checked.factors
          (λ k z within. record { first = (are k z within).0.partition; second = (are k z within).1.partition }) (omega arith) right.checked.distance,
    )

-- a product against which there is no reason states its code
pub product_states : (known : List NamedCode) (e : Entry) (pairs : List Ids) → AreSound known → IsEntry e → 1 ≤ length pairs → (e.w ≡ None → length pairs ≡ 1)
    → (product_kind e pairs).reason known ≡ None → StatesWell (product_kind e pairs) known (IsProductChecked e known pairs)
product_states known e pairs sound entry some plain own =
    let factors = factors_named known pairs in
    let right = right-product e known pairs some plain own in
    let code = product-code e known pairs entry sound right in
    record {
      entry = entry;
      checked = right.checked;
      coded = refl;
      code = code;
      size = λ yes. ap Some (sym (length-product factors));
      partition = tt;
      stands = subst (λ (size : ℕ). Stands (support_from e (Some size))) (length-product factors) (size-stands e (product factors) entry code.0 code.1);
    }

-- pairs that have a product of the stated distance have no reason against them
pub product_accepted : (known : List NamedCode) (e : Entry) (pairs : List Ids) → IsProductChecked e known pairs → (product_kind e pairs).reason known ≡ None
product_accepted known e pairs h =
    let have = product_distance (factors_named known pairs) in
    let wrong = all-paired-from e (first_length known pairs) known pairs (paired-of_factors e known pairs h) in
    ap (λ (o : Option (List ℕ)). first_of (option_map fault.WrongPart o) (short_of e have)) wrong
    ∙ ap (λ (b : Bool). cond b (Some (fault.Build (build.Short have e.d))) None) (le-ltb have e.d h.distance)

-- the ids of the pairs are those of the same partitions
abbrev AreSame : List Ids → List NamedCode → List NamedCode → Type 0
AreSame pairs left right = (id : List ℕ) → list_any (λ part. bytes_eq part id) (ids_of pairs) ≡ true → partition_named id left ≡ partition_named id right

same-first : (p : Ids) (ps : List Ids) (left right : List NamedCode) → AreSame (p ∷ ps) left right → partition_named p.0 left ≡ partition_named p.0 right
same-first p ps left right h =
    h p.0 (ap (λ (b : Bool). b || (bytes_eq p.1 p.0 || list_any (λ part. bytes_eq part p.0) (ids_of ps))) (bytes_eq-same p.0))

same-second : (p : Ids) (ps : List Ids) (left right : List NamedCode) → AreSame (p ∷ ps) left right → partition_named p.1 left ≡ partition_named p.1 right
same-second p ps left right h =
    let later = list_any (λ part. bytes_eq part p.1) (ids_of ps) in
    h p.1 (or-later (bytes_eq p.0 p.1) (bytes_eq p.1 p.1 || later) (ap (λ (b : Bool). b || later) (bytes_eq-same p.1)))

same-rest : (p : Ids) (ps : List Ids) (left right : List NamedCode) → AreSame (p ∷ ps) left right → AreSame ps left right
same-rest p ps left right h =
    λ id is. let later = list_any (λ part. bytes_eq part id) (ids_of ps) in
    h id (or-later (bytes_eq p.0 id) (bytes_eq p.1 id || later) (or-later (bytes_eq p.1 id) later is))

factors-same : (pairs : List Ids) (left right : List NamedCode) → AreSame pairs left right → factors_named left pairs ≡ factors_named right pairs
factors-same [] left right h = refl
factors-same (p ∷ ps) left right h =
    let first = same-first p ps left right h in
    let second = same-second p ps left right h in
    let rest = factors-same ps left right (same-rest p ps left right h) in
    λ i. (unwrap_or (first i) no_partition, unwrap_or (second i) no_partition) ∷ rest i

wrong-same : (e : Entry) (long : ℕ) (pairs : List Ids) (left right : List NamedCode) → AreSame pairs left right
    → wrong_of_pairs e long left pairs ≡ wrong_of_pairs e long right pairs
wrong-same e long [] left right h = refl
wrong-same e long (p ∷ ps) left right h =
    ap₂ first_of
    (ap₂ (λ (a b : Option PartitionValue). cond (is_wrong_first e.w long a) (Some p.0) (cond (is_wrong_second e (unwrap_or a no_partition) b) (Some p.1) None))
    (same-first p ps left right h) (same-second p ps left right h))
    (wrong-same e long ps left right (same-rest p ps left right h))

long-same : (pairs : List Ids) (left right : List NamedCode) → AreSame pairs left right → first_length left pairs ≡ first_length right pairs
long-same [] left right h = refl
long-same (p ∷ ps) left right h = ap (λ (o : Option PartitionValue). (unwrap_or o no_partition).entry.n) (same-first p ps left right h)

-- a product is the same over pieces that are the same partitions
pub product_same : (e : Entry) (pairs : List Ids) (left right : List NamedCode)
    → ((id : List ℕ) → list_any (λ part. bytes_eq part id) (ids_of pairs) ≡ true → IsAlike id left right) → SaysSame (product_kind e pairs) left right
product_same e pairs left right alike =
    let same : AreSame pairs left right = λ id is. (alike id is).partition in
    let factors = factors-same pairs left right same in
    let wrong = ap (λ (long : ℕ). wrong_of_pairs e long left pairs) (long-same pairs left right same) ∙ wrong-same e (first_length right pairs) pairs left right same in
    record {
      reason = ap₂ (λ (o : Option (List ℕ)) (fs : List Factors). first_of (option_map fault.WrongPart o) (short_of e (product_distance fs))) wrong factors;
      words = ap (λ (fs : List Factors). Some (product fs)) factors;
      size = ap (λ (fs : List Factors). Some (product_size fs)) factors;
    }

-- an id is one of the pairs'
pub ids_any : (id : List ℕ) (pairs : List Ids)
    → list_any (λ (p : Ids). list_any (λ part. bytes_eq part id) (p.0 ∷ p.1 ∷ [])) pairs ≡ list_any (λ part. bytes_eq part id) (ids_of pairs)
ids_any id [] = refl
ids_any id (p ∷ ps) = at (bytes_eq p.0 id) (bytes_eq p.1 id) (ids_any id ps) where
  rest : Bool
  rest = list_any (λ part. bytes_eq part id) (ids_of ps)

  at : (a b : Bool) → list_any (λ (q : Ids). list_any (λ part. bytes_eq part id) (q.0 ∷ q.1 ∷ [])) ps ≡ rest
      → ((a || (b || false)) || list_any (λ (q : Ids). list_any (λ part. bytes_eq part id) (q.0 ∷ q.1 ∷ [])) ps) ≡ (a || (b || rest))
  at true b h = refl
  at false true h = refl
  at false false h = h

-- the first missing id of some pairs is that of the first of them, or else that of the others
pub missing_step : (known : List NamedCode) (pairs : List Ids) (k : ℕ) (d : Ids) → k < length pairs
    → first_missing known (ids_of (drop k pairs))
    ≡ first_of (first_missing known ((get_or pairs k d).0 ∷ (get_or pairs k d).1 ∷ [])) (first_missing known (ids_of (drop (k + 1) pairs)))
missing_step known pairs k d within =
    let p = get_or pairs k d in
    ap (λ (ps : List Ids). first_missing known (ids_of ps)) (drop_more pairs k d within)
    ∙ at (is_known p.0 known) (is_known p.1 known)
  where
    at : (a b : Bool) → cond (not a) (Some (get_or pairs k d).0) (cond (not b) (Some (get_or pairs k d).1) (first_missing known (ids_of (drop (k + 1) pairs))))
        ≡ first_of (cond (not a) (Some (get_or pairs k d).0) (cond (not b) (Some (get_or pairs k d).1) None)) (first_missing known (ids_of (drop (k + 1) pairs)))
    at false b = refl
    at true false = refl
    at true true = refl

-- and so the first wrong one
pub wrong_step : (e : Entry) (long : ℕ) (known : List NamedCode) (pairs : List Ids) (k : ℕ) (d : Ids) → k < length pairs
    → wrong_of_pairs e long known (drop k pairs) ≡ first_of (wrong_of_pair e long known (get_or pairs k d)) (wrong_of_pairs e long known (drop (k + 1) pairs))
wrong_step e long known pairs k d within = ap (wrong_of_pairs e long known) (drop_more pairs k d within)

-- pairs of partitions at places, with two more partitions and their places
pub pairs-push : (parts : List PartitionValue) (places : List (ℕ × ℕ)) (x y : PartitionValue) → ArePairsOfPlaces (length parts) places
    → pairs_at ((parts ++ x ∷ []) ++ y ∷ []) (places ++ (length parts, length parts + 1) ∷ []) ≡ pairs_at parts places ++ (x, y) ∷ []
pairs-push parts [] x y within = λ i. (first i, second i) ∷ [] where
  first : slice_index_or ((parts ++ x ∷ []) ++ y ∷ []) (length parts) no_partition ≡ x
  first = ap (λ (ps : List PartitionValue). slice_index_or ps (length parts) no_partition) (append_assoc parts (x ∷ []) (y ∷ [])) ∙ get_or-append_seam parts x (y ∷ []) no_partition

  second : slice_index_or ((parts ++ x ∷ []) ++ y ∷ []) (length parts + 1) no_partition ≡ y
  second =
      let count = length-append parts (x ∷ []) in
      let place : length parts + 1 ≡ length (parts ++ x ∷ []) = omega arith in
      ap (λ (k : ℕ). slice_index_or ((parts ++ x ∷ []) ++ y ∷ []) k no_partition) place ∙ get_or-append_seam (parts ++ x ∷ []) y [] no_partition
pairs-push parts (p ∷ ps) x y within =
    let here = All-head (λ (q : ℕ × ℕ). (q.0 < length parts) × (q.1 < length parts)) p ps within in
    let rest = pairs-push parts ps x y (All-tail (λ (q : ℕ × ℕ). (q.0 < length parts) × (q.1 < length parts)) p ps within) in
    λ i. (kept p.0 here.0 i, kept p.1 here.1 i) ∷ rest i
  where
    kept : (k : ℕ) → k < length parts → slice_index_or ((parts ++ x ∷ []) ++ y ∷ []) k no_partition ≡ slice_index_or parts k no_partition
    kept k below =
        let count = length-append parts (x ∷ []) in
        get_or-append (parts ++ x ∷ []) (y ∷ []) no_partition k (omega arith) ∙ get_or-append parts (x ∷ []) no_partition k below

-- places of a list are places of a longer one
pub places-push : (count : ℕ) (places : List (ℕ × ℕ)) → ArePairsOfPlaces count places → ArePairsOfPlaces (count + 2) (places ++ (count, count + 1) ∷ [])
places-push count places within =
    All-push (λ (q : ℕ × ℕ). (q.0 < count + 2) × (q.1 < count + 2)) places (count, count + 1)
    (All-weaker (λ (q : ℕ × ℕ). (q.0 < count) × (q.1 < count)) (λ (q : ℕ × ℕ). (q.0 < count + 2) × (q.1 < count + 2))
    (λ q h. let first = h.0 in let second = h.1 in (omega arith, omega arith)) places within)
    (omega arith, omega arith)

-- the partitions of pairs, with one pair more
pub factors_more : (known : List NamedCode) (pairs : List Ids) (k : ℕ) (d : Ids) → k < length pairs
    → factors_named known (take (k + 1) pairs) ≡ factors_named known (take k pairs) ++ factors_of known (get_or pairs k d) ∷ []
factors_more known pairs k d within =
    ap (factors_named known) (take_more pairs k d within) ∙ map-append (factors_of known) (take k pairs) (get_or pairs k d ∷ [])

-- the first missing id of all pairs, at a pair where it is found, and past one where none is
pub missing_found : (known : List NamedCode) (pairs : List Ids) (k : ℕ) (p : Ids) (id : List ℕ)
    → first_missing known (ids_of pairs) ≡ first_missing known (ids_of (drop k pairs)) → k < length pairs → p ≡ get_or pairs k p
    → first_missing known (p.0 ∷ p.1 ∷ []) ≡ Some id → first_missing known (ids_of pairs) ≡ Some id
missing_found known pairs k p id before within at found =
    before ∙ missing_step known pairs k p within
    ∙ ap (λ (q : Ids). first_of (first_missing known (q.0 ∷ q.1 ∷ [])) (first_missing known (ids_of (drop (k + 1) pairs)))) (sym at)
    ∙ ap (λ (o : Option (List ℕ)). first_of o (first_missing known (ids_of (drop (k + 1) pairs)))) found

pub missing_next : (known : List NamedCode) (pairs : List Ids) (k : ℕ) (p : Ids)
    → first_missing known (ids_of pairs) ≡ first_missing known (ids_of (drop k pairs)) → k < length pairs → p ≡ get_or pairs k p
    → first_missing known (p.0 ∷ p.1 ∷ []) ≡ None → first_missing known (ids_of pairs) ≡ first_missing known (ids_of (drop (k + 1) pairs))
missing_next known pairs k p before within at found =
    before ∙ missing_step known pairs k p within
    ∙ ap (λ (q : Ids). first_of (first_missing known (q.0 ∷ q.1 ∷ [])) (first_missing known (ids_of (drop (k + 1) pairs)))) (sym at)
    ∙ ap (λ (o : Option (List ℕ)). first_of o (first_missing known (ids_of (drop (k + 1) pairs)))) found

-- and so the first wrong one
pub wrong_found : (e : Entry) (long : ℕ) (known : List NamedCode) (pairs : List Ids) (k : ℕ) (p : Ids) (id : List ℕ)
    → wrong_of_pairs e long known pairs ≡ wrong_of_pairs e long known (drop k pairs) → k < length pairs → p ≡ get_or pairs k p
    → wrong_of_pair e long known p ≡ Some id → wrong_of_pairs e long known pairs ≡ Some id
wrong_found e long known pairs k p id before within at found =
    before ∙ wrong_step e long known pairs k p within
    ∙ ap (λ (q : Ids). first_of (wrong_of_pair e long known q) (wrong_of_pairs e long known (drop (k + 1) pairs))) (sym at)
    ∙ ap (λ (o : Option (List ℕ)). first_of o (wrong_of_pairs e long known (drop (k + 1) pairs))) found

pub wrong_next : (e : Entry) (long : ℕ) (known : List NamedCode) (pairs : List Ids) (k : ℕ) (p : Ids)
    → wrong_of_pairs e long known pairs ≡ wrong_of_pairs e long known (drop k pairs) → k < length pairs → p ≡ get_or pairs k p
    → wrong_of_pair e long known p ≡ None → wrong_of_pairs e long known pairs ≡ wrong_of_pairs e long known (drop (k + 1) pairs)
wrong_next e long known pairs k p before within at found =
    before ∙ wrong_step e long known pairs k p within
    ∙ ap (λ (q : Ids). first_of (wrong_of_pair e long known q) (wrong_of_pairs e long known (drop (k + 1) pairs))) (sym at)
    ∙ ap (λ (o : Option (List ℕ)). first_of o (wrong_of_pairs e long known (drop (k + 1) pairs))) found

-- the ids of which none is wrong are those of partitions
pub named-there : (e : Entry) (known : List NamedCode) (pairs : List Ids) → wrong_id e known pairs ≡ None
    → All (λ (p : Ids). IsSome (partition_named p.0 known) × IsSome (partition_named p.1 known)) pairs
named-there e known pairs none =
    λ k z within. let right = all-paired e (first_length known pairs) known pairs none k z within in (right.first, right.second)

-- so many pairs of partitions are listed, each of the first pairs of ids
pub record AreListed (known : List NamedCode) (pairs : List Ids) (k : ℕ) (parts : List PartitionValue) (places : List (ℕ × ℕ)) : Type 0 where
  pub count : length parts ≡ 2 * k
  pub listed : length places ≡ k
  pub within : ArePairsOfPlaces (length parts) places
  pub factors : pairs_at parts places ≡ factors_named known (take k pairs)

-- one pair more
pub listed-step : (known : List NamedCode) (pairs : List Ids) (k : ℕ) (parts next : List PartitionValue) (places more : List (ℕ × ℕ)) (x y : PartitionValue) (p : Ids)
    → AreListed known pairs k parts places → k < length pairs → p ≡ get_or pairs k p → partition_named p.0 known ≡ Some x → partition_named p.1 known ≡ Some y
    → next ≡ (parts ++ x ∷ []) ++ y ∷ [] → more ≡ places ++ (length parts, length parts + 1) ∷ [] → AreListed known pairs (k + 1) next more
listed-step known pairs k parts next places more x y p h within at first second parts_are places_are =
    let one = length-append parts (x ∷ []) in
    let two = length-append (parts ++ x ∷ []) (y ∷ []) in
    let whole = ap length parts_are in
    let three = length-append places ((length parts, length parts + 1) ∷ []) in
    let all = ap length places_are in
    let count = h.count in
    let listed = h.listed in
    let long : length parts + 2 ≡ length next = omega arith in
    let pushed = places-push (length parts) places h.within in
    let here : (x, y) ≡ factors_of known p = λ i. (
      sym (ap (λ (o : Option PartitionValue). unwrap_or o no_partition) first) i,
      sym (ap
          (λ (o : Option PartitionValue). unwrap_or o no_partition) second) i,
    ) in
    record {
      count = omega arith;
      listed = omega arith;
      within = subst (λ (ls : List (ℕ × ℕ)). ArePairsOfPlaces (length next) ls) (sym places_are) (subst (λ (n : ℕ). ArePairsOfPlaces n (places ++ (length parts, length parts + 1) ∷ [])) long pushed);
      factors = ap₂ pairs_at parts_are places_are ∙ pairs-push parts places x y h.within ∙ ap (λ (fs : List Factors). fs ++ (x, y) ∷ []) h.factors
          ∙ ap (λ (f : Factors). factors_named known (take k pairs) ++ f ∷ []) (here ∙ ap (factors_of known) at) ∙ sym (factors_more known pairs k p within);
    }
