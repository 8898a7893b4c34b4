-- The lists of pairs of a list without repeats are all lists of k pairs of its elements with 2k different elements, each once.
use Rattle.std.proofs.Common.{◌≡◌, ◌≢◌, ℕ, zero, suc, List, [], ◌∷◌, ◌++◌, map, length, refl, sym, ap, ◌∙◌, subst, inl, inr, arith}
use Rattle.std.specs.Prelude.{◌⊎◌}
use Rattle.std.specs.List.{All, AllPairs, Contains, flat_map}
use Rattle.std.proofs.lemmas.List.Elements.{All-nil, All-cons, All-head, All-tail}
use Rattle.std.proofs.lemmas.List.Kept.{AllPairs-cons}
use Rattle.ct_words.specs.Counting.PairLists.{picks, pair_lists, ends, IsPairing}
use Rattle.ct_words.proofs.Counting.Pairs.{AllPairs-head, AllPairs-tail}

-- x is an element of the list, by recursion
abbrev In : {X : Type 0} → X → List X → Type 0
In x [] = ⊥
In x (y ∷ ys) = (y ≡ x) ⊎ In x ys

-- no two elements are equal
abbrev Distinct : {X : Type 0} → List X → Type 0
Distinct [] = Unit {0}
Distinct (x ∷ xs) = (In x xs → ⊥) × Distinct xs

-- the same as std's words say it
Contains-from_In : {X : Type 0} (x : X) (xs : List X) → In x xs → Contains xs x
Contains-from_In x [] h = absurd h
Contains-from_In x (y ∷ ys) (inl e) = (0, omega arith, e)
Contains-from_In x (y ∷ ys) (inr h) = let (k, l, at) = Contains-from_In x ys h in (suc k, omega arith, at)

In-from_Contains : {X : Type 0} (x : X) (xs : List X) → Contains xs x → In x xs
In-from_Contains x [] (k, l, at) = absurd (omega arith)
In-from_Contains x (y ∷ ys) (zero, l, at) = inl at
In-from_Contains x (y ∷ ys) (suc k, l, at) = inr (In-from_Contains x ys (k, omega arith, at))

-- what holds of each element, in either form
In-all : {X : Type 0} (P : X → Type 0) (xs : List X) → ((x : X) → In x xs → P x) → All P xs
In-all P [] h = All-nil P
In-all P (x ∷ xs) h = All-cons P x xs (h x (inl refl)) (In-all P xs (λ y i. h y (inr i)))

all_In : {X : Type 0} (P : X → Type 0) (xs : List X) → All P xs → (x : X) → In x xs → P x
all_In P [] h x i = absurd i
all_In P (y ∷ ys) h x (inl e) = subst P e (All-head P y ys h)
all_In P (y ∷ ys) h x (inr i) = all_In P ys (All-tail P y ys h) x i

-- no two elements equal, in either form
Distinct-from_pairs : {X : Type 0} (xs : List X) → AllPairs (λ x y. x ≢ y) xs → Distinct xs
Distinct-from_pairs [] h = tt
Distinct-from_pairs {X} (x ∷ xs) h =
    let R : X → X → Type 0 = λ a b. a ≢ b in
    (λ i. all_In (λ y. x ≢ y) xs (AllPairs-head R x xs h) x i refl, Distinct-from_pairs xs (AllPairs-tail R x xs h))

pairs_from_Distinct : {X : Type 0} (xs : List X) → Distinct xs → AllPairs (λ x y. x ≢ y) xs
pairs_from_Distinct [] h = λ i j d l m. absurd (omega arith)
pairs_from_Distinct {X} (x ∷ xs) h =
    let R : X → X → Type 0 = λ a b. a ≢ b in
    AllPairs-cons R x xs (In-all (λ y. x ≢ y) xs (λ y i e. h.0 (subst (λ (z : X). In z xs) (sym e) i))) (pairs_from_Distinct xs h.1)

-- elements of joined lists, of images, and of lists that are joined end to end
In-append_left : {X : Type 0} (x : X) (xs ys : List X) → In x xs → In x (xs ++ ys)
In-append_left x [] ys h = absurd h
In-append_left x (y ∷ xs) ys (inl e) = inl e
In-append_left x (y ∷ xs) ys (inr h) = inr (In-append_left x xs ys h)

In-append_right : {X : Type 0} (x : X) (xs ys : List X) → In x ys → In x (xs ++ ys)
In-append_right x [] ys h = h
In-append_right x (y ∷ xs) ys h = inr (In-append_right x xs ys h)

In-append_cases : {X : Type 0} (x : X) (xs ys : List X) → In x (xs ++ ys) → In x xs ⊎ In x ys
In-append_cases x [] ys h = inr h
In-append_cases x (y ∷ xs) ys (inl e) = inl (inl e)
In-append_cases x (y ∷ xs) ys (inr h) = elim (In-append_cases x xs ys h) [ inl l ↦ inl (inr l) | inr r ↦ inr r ]

In-map : {X Y : Type 0} (f : X → Y) (x : X) (xs : List X) → In x xs → In (f x) (map f xs)
In-map f x [] h = absurd h
In-map f x (y ∷ ys) (inl e) = inl (ap f e)
In-map f x (y ∷ ys) (inr h) = inr (In-map f x ys h)

In-map_cases : {X Y : Type 0} (f : X → Y) (y : Y) (xs : List X) → In y (map f xs) → (x : X) × In x xs × (f x ≡ y)
In-map_cases f y [] h = absurd h
In-map_cases f y (x ∷ xs) (inl e) = (x, inl refl, e)
In-map_cases f y (x ∷ xs) (inr h) = let (z, i, e) = In-map_cases f y xs h in (z, inr i, e)

In-flat_map : {X Y : Type 0} (g : X → List Y) (x : X) (y : Y) (xs : List X) → In x xs → In y (g x) → In y (flat_map g xs)
In-flat_map g x y [] h i = absurd h
In-flat_map {X} {Y} g x y (z ∷ xs) (inl e) i = In-append_left y (g z) (flat_map g xs) (subst (λ (t : X). In y (g t)) (sym e) i)
In-flat_map g x y (z ∷ xs) (inr h) i = In-append_right y (g z) (flat_map g xs) (In-flat_map g x y xs h i)

In-flat_map_cases : {X Y : Type 0} (g : X → List Y) (y : Y) (xs : List X) → In y (flat_map g xs) → (x : X) × In x xs × In y (g x)
In-flat_map_cases g y [] h = absurd h
In-flat_map_cases g y (x ∷ xs) h =
    elim (In-append_cases y (g x) (flat_map g xs) h) [
      | inl l ↦ (x, inl refl, l)
      | inr r ↦ let (z, i, e) = In-flat_map_cases g y xs r in (z, inr i, e)
    ]

-- lists without repeats, joined and as images
Distinct-append : {X : Type 0} (xs ys : List X) → Distinct xs → Distinct ys → ((x : X) → In x xs → In x ys → ⊥) → Distinct (xs ++ ys)
Distinct-append [] ys h i apart = i
Distinct-append (x ∷ xs) ys h i apart =
    (λ j. elim (In-append_cases x xs ys j) [ inl l ↦ h.0 l | inr r ↦ apart x (inl refl) r ], Distinct-append xs ys h.1 i (λ z l r. apart z (inr l) r))

Distinct-map : {X Y : Type 0} (f : X → Y) (xs : List X) → ((x z : X) → f x ≡ f z → x ≡ z) → Distinct xs → Distinct (map f xs)
Distinct-map f [] injective h = tt
Distinct-map {X} f (x ∷ xs) injective h =
    (λ i. let (z, j, e) = In-map_cases f (f x) xs i in h.0 (subst (λ (t : X). In t xs) (injective z x e) j), Distinct-map f xs injective h.1)

-- lists joined end to end, each element of which tells from which list it comes
Distinct-flat_map : {X Y K : Type 0} (g : X → List Y) (key : X → K) (of : Y → K) (xs : List X) → Distinct (map key xs)
    → ((x : X) → In x xs → Distinct (g x)) → ((x : X) (y : Y) → In y (g x) → of y ≡ key x) → Distinct (flat_map g xs)
Distinct-flat_map g key of [] h each tells = tt
Distinct-flat_map {X} {Y} {K} g key of (x ∷ xs) h each tells =
    Distinct-append (g x) (flat_map g xs) (each x (inl refl)) (Distinct-flat_map g key of xs h.1 (λ z i. each z (inr i)) tells)
    (λ y l r.
    let (z, i, j) = In-flat_map_cases g y xs r in
    let same : key z ≡ key x = sym (tells z y j) ∙ tells x y l in
    h.0 (subst (λ (t : K). In t (map key xs)) same (In-map key z xs i)))

-- what is taken out, in order, is the list
abbrev taken_out : {X : Type 0} → X × List X → X
taken_out p = p.0

abbrev kept_before : {X : Type 0} → X → X × List X → X × List X
kept_before x p = (p.0, x ∷ p.1)

taken-kept_before : {X : Type 0} (x : X) (ps : List (X × List X)) → map taken_out (map (kept_before x) ps) ≡ map taken_out ps
taken-kept_before x [] = refl
taken-kept_before x (p ∷ ps) = ap (λ ys. p.0 ∷ ys) (taken-kept_before x ps)

taken-picks : {X : Type 0} (xs : List X) → map taken_out (picks xs) ≡ xs
taken-picks [] = refl
taken-picks (x ∷ xs) = ap (λ ys. x ∷ ys) (taken-kept_before x (picks xs) ∙ taken-picks xs)

-- the others are without repeats, and are those elements that are not the one taken out
record AreOthers {X : Type 0} (xs : List X) (p : X × List X) : Type 0 where
  taken : In p.0 xs
  distinct : Distinct p.1
  among : (y : X) → In y p.1 → In y xs
  other : (y : X) → In y p.1 → y ≢ p.0

-- so it is with each way to take one out
picks-others : {X : Type 0} (xs : List X) → Distinct xs → (p : X × List X) → In p (picks xs) → AreOthers xs p
picks-others [] h p i = absurd i
picks-others {X} (x ∷ xs) h p (inl e) =
    subst (AreOthers (x ∷ xs)) e
    (record {
      taken = inl refl;
      distinct = h.1;
      among = λ y i. inr i;
      other = λ y i same. h.0 (subst (λ (t : X). In t xs) same i);
    })
picks-others {X} (x ∷ xs) h p (inr i) =
    let longer : X × List X → X × List X = λ q. (q.0, x ∷ q.1) in
    let (q, j, e) = In-map_cases longer p (picks xs) i in
    let o = picks-others xs h.1 q j in
    subst (AreOthers (x ∷ xs)) e
    (record {
      taken = inr o.taken;
      distinct = (λ k. h.0 (o.among x k), o.distinct);
      among = λ y k. elim k [ inl s ↦ inl s | inr r ↦ inr (o.among y r) ];
      other = λ y k same. elim k [
        | inl s ↦ h.0 (subst (λ (t : X). In t xs) (sym (s ∙ same)) o.taken)
        | inr r ↦ o.other y r same
      ];
    })

-- each element can be taken out, and all others are left
picks-complete : {X : Type 0} (a : X) (xs : List X) → In a xs → (rest : List X) × In (a, rest) (picks xs) × ((y : X) → In y xs → y ≢ a → In y rest)
picks-complete a [] h = absurd h
picks-complete {X} a (x ∷ xs) (inl e) =
    (xs, inl (ap (λ (t : X). (t, xs)) e), λ y i other. elim i [ inl s ↦ absurd (other (sym s ∙ e)) | inr r ↦ r ])
picks-complete {X} a (x ∷ xs) (inr h) =
    let (rest, i, others) = picks-complete a xs h in
    let longer : X × List X → X × List X = λ q. (q.0, x ∷ q.1) in
    (x ∷ rest, inr (In-map longer (a, rest) (picks xs) i), λ y j other. elim j [ inl s ↦ inl s | inr r ↦ inr (others y r other) ])

-- the elements of the lists of k + 1 pairs
pair_lists_cases : {X : Type 0} (k : ℕ) (xs : List X) (pairs : List (X × X)) → In pairs (pair_lists (suc k) xs)
    → (p : X × List X) × In p (picks xs) × ((q : X × List X) × In q (picks p.1) × ((rest : List (X × X)) × In rest (pair_lists k q.1) × ((p.0, q.0) ∷ rest ≡ pairs)))
pair_lists_cases k xs pairs h =
    let (p, i, h') = In-flat_map_cases (λ p. flat_map (λ q. map (λ rest. (p.0, q.0) ∷ rest) (pair_lists k q.1)) (picks p.1)) pairs (picks xs) h in
    let (q, j, h'') = In-flat_map_cases (λ q. map (λ rest. (p.0, q.0) ∷ rest) (pair_lists k q.1)) pairs (picks p.1) h' in
    (p, i, (q, j, In-map_cases (λ rest. (p.0, q.0) ∷ rest) pairs (pair_lists k q.1) h''))

-- k pairs of elements of xs, all 2k elements different, in words that go by recursion
record IsPaired {X : Type 0} (xs : List X) (k : ℕ) (pairs : List (X × X)) : Type 0 where
  count : length pairs ≡ k
  within : (y : X) → In y (ends pairs) → In y xs
  different : Distinct (ends pairs)

-- each list of pairs is one of different elements, where the list has no repeats
pair_lists-paired : {X : Type 0} (k : ℕ) (xs : List X) → Distinct xs → (pairs : List (X × X)) → In pairs (pair_lists k xs) → IsPaired xs k pairs
pair_lists-paired zero xs h pairs (inl e) = subst (IsPaired xs 0) e (record { count = refl; within = λ y i. absurd i; different = tt })
pair_lists-paired zero xs h pairs (inr i) = absurd i
pair_lists-paired {X} (suc k) xs h pairs i =
    let (p, j, (q, l, (rest, m, e))) = pair_lists_cases k xs pairs i in
    let first = picks-others xs h p j in
    let second = picks-others p.1 first.distinct q l in
    let ih = pair_lists-paired k q.1 second.distinct rest m in
    subst (IsPaired xs (suc k)) e
    (record {
      count = ap suc ih.count;
      within = λ y n. elim n [
        | inl s ↦ subst (λ (t : X). In t xs) s first.taken
        | inr r ↦ elim r [ inl s ↦ subst (λ (t : X). In t xs) s (first.among q.0 second.taken) | inr t ↦ first.among y (second.among y (ih.within y t)) ]
      ];
      different = (
        λ n. elim n [
          | inl s ↦ first.other q.0 second.taken s
          | inr r ↦ first.other p.0 (second.among p.0 (ih.within p.0 r)) refl
        ],
        (λ n. second.other q.0 (ih.within q.0 n) refl, ih.different),
      );
    })

-- and each list of pairs of different elements is there
pair_lists-complete : {X : Type 0} (k : ℕ) (xs : List X) (pairs : List (X × X)) → IsPaired xs k pairs → In pairs (pair_lists k xs)
pair_lists-complete zero xs [] h = inl refl
pair_lists-complete zero xs (t ∷ rest) h = let c = h.count in absurd (omega arith)
pair_lists-complete (suc k) xs [] h = let c = h.count in absurd (omega arith)
pair_lists-complete {X} (suc k) xs ((a, b) ∷ rest) h =
    let different = h.different in
    let (others, i, kept) = picks-complete a xs (h.within a (inl refl)) in
    let b_left : In b others = kept b (h.within b (inr (inl refl))) (λ e. different.0 (inl e)) in
    let (others', j, kept') = picks-complete b others b_left in
    let c = h.count in
    let paired : IsPaired others' k rest = record {
      count = omega arith;
      within = λ y n. kept' y (kept y (h.within y (inr (inr n))) (λ e. different.0 (inr (subst (λ (t : X). In t (ends rest)) e n)))) (λ e. different.1.0 (subst (λ (t : X). In t (ends rest)) e n));
      different = different.1.1;
    } in
    In-flat_map (λ p. flat_map (λ q. map (λ more. (p.0, q.0) ∷ more) (pair_lists k q.1)) (picks p.1)) (a, others) ((a, b) ∷ rest) (picks xs) i
    (In-flat_map (λ q. map (λ more. (a, q.0) ∷ more) (pair_lists k q.1)) (b, others') ((a, b) ∷ rest) (picks others) j
    (In-map (λ more. (a, b) ∷ more) rest (pair_lists k others') (pair_lists-complete k others' rest paired)))

-- a list of pairs tells what was taken out first, and second
first_of_pairs : {X : Type 0} → X → List (X × X) → X
first_of_pairs d [] = d
first_of_pairs d (p ∷ pairs) = p.0

second_of_pairs : {X : Type 0} → X → List (X × X) → X
second_of_pairs d [] = d
second_of_pairs d (p ∷ pairs) = p.1

-- they tell it
second_is : {X : Type 0} (d a b : X) (rest pairs : List (X × X)) → (a, b) ∷ rest ≡ pairs → second_of_pairs d pairs ≡ b
unfolding second_of_pairs
second_is d a b rest pairs e = ap (second_of_pairs d) (sym e)

first_is : {X : Type 0} (d a b : X) (rest pairs : List (X × X)) → (a, b) ∷ rest ≡ pairs → first_of_pairs d pairs ≡ a
unfolding first_of_pairs
first_is d a b rest pairs e = ap (first_of_pairs d) (sym e)

-- so no list is there twice
pair_lists-distinct : {X : Type 0} (d : X) (k : ℕ) (xs : List X) → Distinct xs → Distinct (pair_lists k xs)
pair_lists-distinct d zero xs h = (λ i. i, tt)
pair_lists-distinct {X} d (suc k) xs h =
    let ending : X → X × List X → List (List (X × X)) = λ a q. map (λ rest. (a, q.0) ∷ rest) (pair_lists k q.1) in
    let lists : X × List X → List (List (X × X)) = λ p. flat_map (ending p.0) (picks p.1) in
    let keys : (ys : List X) → Distinct ys → Distinct (map taken_out (picks ys)) = λ ys e. subst (λ (zs : List X). Distinct zs) (sym (taken-picks ys)) e in
    let tells_second : (a : X) (q : X × List X) (pairs : List (X × X)) → In pairs (ending a q) → second_of_pairs d pairs ≡ taken_out q =
    λ a q pairs i. let (rest, j, e) = In-map_cases (λ rest. (a, q.0) ∷ rest) pairs (pair_lists k q.1) i in second_is d a q.0 rest pairs e in
    let tells_first : (p : X × List X) (pairs : List (X × X)) → In pairs (lists p) → first_of_pairs d pairs ≡ taken_out p =
    λ p pairs i.
    let (q, j, i') = In-flat_map_cases (ending p.0) pairs (picks p.1) i in
    let (rest, l, e) = In-map_cases (λ rest. (p.0, q.0) ∷ rest) pairs (pair_lists k q.1) i' in
    first_is d p.0 q.0 rest pairs e in
    Distinct-flat_map lists taken_out (first_of_pairs d) (picks xs) (keys xs h)
    (λ p i.
    let others = picks-others xs h p i in
    Distinct-flat_map (ending p.0) taken_out (second_of_pairs d) (picks p.1) (keys p.1 others.distinct)
    (λ q j.
    let more = picks-others p.1 others.distinct q j in
    Distinct-map (λ rest. (p.0, q.0) ∷ rest) (pair_lists k q.1) (λ x z e. cc) (pair_lists-distinct d k q.1 more.distinct))
    (tells_second p.0))
    tells_first

-- the three facts in std's words
pub pair_lists-each : (k : ℕ) (xs : List ℕ) → AllPairs (λ x y. x ≢ y) xs → All (IsPairing xs k) (pair_lists k xs)
pair_lists-each k xs h =
    In-all (IsPairing xs k) (pair_lists k xs)
    (λ pairs i.
    let paired = pair_lists-paired k xs (Distinct-from_pairs xs h) pairs i in
    record {
      count = paired.count;
      within = In-all (Contains xs) (ends pairs) (λ y j. Contains-from_In y xs (paired.within y j));
      different = pairs_from_Distinct (ends pairs) paired.different;
    })

pub pair_lists-all : (k : ℕ) (xs : List ℕ) (pairs : List (ℕ × ℕ)) → IsPairing xs k pairs → Contains (pair_lists k xs) pairs
pair_lists-all k xs pairs h =
    Contains-from_In pairs (pair_lists k xs)
    (pair_lists-complete k xs pairs
    (record {
      count = h.count;
      within = λ y i. In-from_Contains y xs (all_In (Contains xs) (ends pairs) h.within y i);
      different = Distinct-from_pairs (ends pairs) h.different;
    }))

pub pair_lists-once : (k : ℕ) (xs : List ℕ) → AllPairs (λ x y. x ≢ y) xs → AllPairs (λ x y. x ≢ y) (pair_lists k xs)
pair_lists-once k xs h = pairs_from_Distinct (pair_lists k xs) (pair_lists-distinct 0 k xs (Distinct-from_pairs xs h))
