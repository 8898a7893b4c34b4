-- What a test says that finds a reason or none: when it finds none, and when it finds which.
use Rattle.std.proofs.Common.{◌≡◌, ℕ, ◌<◌, ◌≤◌, ◌==◌, ◌||◌, nat_lt, ltb-true, Bool, true, false, cond, not, List, length, position, slice_index, Option, Some, None, option_map, refl, sym, ap, subst, ◌∙◌, inl, inr, ◌⊎◌, eq-eqb, arith}
use Rattle.std.specs.Prelude.{All, IfSome}
use Rattle.std.proofs.lemmas.Bool.{eqb-true, eqb-false, ne_eqb, not-false, both_ways, or_parts, or_from, le-ltb, lt-ltb, ltb-false}
use Rattle.std.proofs.lemmas.List.Elements.{All-from_get_or}
use Rattle.ct_words.specs.Word.{weight}
use Rattle.ct_words.specs.declared.entry.Entry.{Entry}
use Rattle.ct_words.specs.Pairs.{first_of, least_pair, IsLeastPair, NoPair}
use Rattle.ct_words.proofs.PairLemmas.{IsFirst, position_cases, least_pair-at, IsLeastPair-from, least_pair-none, NoPair-from}
use Rattle.ct_laws.specs.Weights.{HaveWeight, IsFirstOfOtherWeight}

-- nothing is found exactly where the first condition holds, and each reason exactly where its own does
pub record Says {X : Type 0} (found : Option X) (right : Type 0) (wrong : X → Type 0) : Type 0 where
  pub clear : found ≡ None → right
  pub clears : right → found ≡ None
  pub told : (x : X) → found ≡ Some x → wrong x
  pub tells : (x : X) → wrong x → found ≡ Some x

-- the same under other conditions
pub says-also : {X : Type 0} {found : Option X} {right good : Type 0} {wrong bad : X → Type 0} → Says found right wrong → (right → good) → (good → right)
    → ((x : X) → wrong x → bad x) → ((x : X) → bad x → wrong x) → Says found good bad
says-also says good right bad wrong = record {
  clear = λ none. good (says.clear none);
  clears = λ is. says.clears (right is);
  told = λ x some. bad x (says.told x some);
  tells = λ x is. says.tells x (wrong x is);
}

-- a reason under another name
pub says-map : {X Y : Type 0} (name : X → Y) (found : Option X) {right : Type 0} {wrong : X → Type 0} → Says found right wrong
    → Says (option_map name found) right (λ (y : Y). (x : X) × (name x ≡ y) × wrong x)
says-map {X} {Y} name None {right} {wrong} says = record {
  clear = λ none. says.clear refl;
  clears = λ is. refl;
  told = λ y some. absurd cc;
  tells = λ y h. let some = says.tells h.0 h.2 in absurd cc;
}
says-map {X} {Y} name (Some found) {right} {wrong} says = record {
  clear = λ none. absurd cc;
  clears = λ is. let none = says.clears is in absurd cc;
  told = λ y some. (found, cc, says.told found refl);
  tells = λ y h. let same = says.tells h.0 h.2 in let is : found ≡ h.0 = cc in ap Some (ap name is ∙ h.1);
}

-- the reason of a first test, or else that of a second
pub says-first : {X : Type 0} (first second : Option X) {right good : Type 0} {wrong bad : X → Type 0} → Says first right wrong → Says second good bad
    → Says (first_of first second) (right × good) (λ (x : X). wrong x ⊎ (right × bad x))
says-first {X} None second one two = record {
  clear = λ none. (one.clear refl, two.clear none);
  clears = λ is. two.clears is.1;
  told = λ x some. inr (one.clear refl, two.told x some);
  tells = λ x h. elim h [ inl here ↦ absurd (let some = one.tells x here in cc) | inr later ↦ two.tells x later.1 ];
}
says-first {X} (Some found) second one two = record {
  clear = λ none. absurd cc;
  clears = λ is. absurd (let none = one.clears is.0 in cc);
  told = λ x some. inl (one.told x some);
  tells = λ x h. elim h [ inl here ↦ one.tells x here | inr later ↦ absurd (let none = one.clears later.0 in cc) ];
}

-- one reason, where a test passes
pub says-if : {X : Type 0} (b : Bool) (reason : X) {right wrong : Type 0} → (b ≡ false → right) → (right → b ≡ false) → (b ≡ true → wrong) → (wrong → b ≡ true)
    → Says (cond b (Some reason) None) right (λ (x : X). (reason ≡ x) × wrong)
says-if true reason good right bad wrong = record {
  clear = λ none. absurd cc;
  clears = λ is. absurd (let fails = right is in cc);
  told = λ x some. (cc, bad refl);
  tells = λ x h. ap Some h.0;
}
says-if false reason good right bad wrong = record {
  clear = λ none. good refl;
  clears = λ is. refl;
  told = λ x some. absurd cc;
  tells = λ x h. absurd (let passes = wrong h.1 in cc);
}

-- a number is 0 or above a limit, or it isn't
out-wrong : (count limit : ℕ) → (count == 0 || nat_lt limit count) ≡ true → (count ≡ 0) ⊎ (limit < count)
out-wrong count limit out = at (count == 0) refl out where
  at : (b : Bool) → (count == 0) ≡ b → (b || nat_lt limit count) ≡ true → (count ≡ 0) ⊎ (limit < count)
  at true is h = inl (eqb-true count 0 is)
  at false is h = inr (ltb-true limit count h)

wrong-out : (count limit : ℕ) → (count ≡ 0) ⊎ (limit < count) → (count == 0 || nat_lt limit count) ≡ true
wrong-out count limit (inl none) = ap (λ (b : Bool). b || nat_lt limit count) (eq-eqb count 0 none)
wrong-out count limit (inr many) = at (count == 0) where
  at : (b : Bool) → (b || nat_lt limit count) ≡ true
  at true = refl
  at false = lt-ltb limit count many

within-right : (count limit : ℕ) → (count == 0 || nat_lt limit count) ≡ false → (1 ≤ count) × (count ≤ limit)
within-right count limit within =
    let parts = or_parts (count == 0) (nat_lt limit count) within in
    let some = eqb-false count 0 parts.0 in
    (grind (arith, some), ltb-false limit count parts.1)

right-within : (count limit : ℕ) → (1 ≤ count) × (count ≤ limit) → (count == 0 || nat_lt limit count) ≡ false
right-within count limit right =
    let some = right.0 in
    or_from (count == 0) (nat_lt limit count) (ne_eqb count 0 (λ none. omega arith)) (le-ltb limit count right.1)

-- a number of 0 or above a limit is a reason
pub says-count : {X : Type 0} (count limit : ℕ) (reason : X)
    → Says (cond (count == 0 || nat_lt limit count) (Some reason) None) ((1 ≤ count) × (count ≤ limit)) (λ (x : X). (reason ≡ x) × ((count ≡ 0) ⊎ (limit < count)))
says-count count limit reason =
    says-if (count == 0 || nat_lt limit count) reason (within-right count limit) (right-within count limit) (out-wrong count limit) (wrong-out count limit)

-- a number above a limit is one
pub says-above : {X : Type 0} (count limit : ℕ) (reason : X) → Says (cond (nat_lt limit count) (Some reason) None) (count ≤ limit) (λ (x : X). (reason ≡ x) × (limit < count))
says-above count limit reason = says-if (nat_lt limit count) reason (ltb-false limit count) (le-ltb limit count) (ltb-true limit count) (lt-ltb limit count)

-- one reason, where a test fails
pub says-unless : {X : Type 0} (b : Bool) (reason : X) {right : Type 0} → (b ≡ true → right) → (right → b ≡ true)
    → Says (cond b None (Some reason)) right (λ (x : X). (reason ≡ x) × ¬ right)
says-unless true reason good right = record {
  clear = λ none. good refl;
  clears = λ is. refl;
  told = λ x some. absurd cc;
  tells = λ x h. absurd (h.1 (good refl));
}
says-unless false reason good right = record {
  clear = λ none. absurd cc;
  clears = λ is. absurd (let passes = right is in cc);
  told = λ x some. (cc, λ is. absurd (let passes = right is in cc));
  tells = λ x h. ap Some h.0;
}

-- the least pair
pub says-pair : (test : ℕ → ℕ → Bool) (xs : List ℕ) → Says (least_pair test xs) (NoPair test xs) (λ (p : ℕ × ℕ). IsLeastPair test xs p.0 p.1)
says-pair test xs = record {
  clear = NoPair-from test xs;
  clears = least_pair-none test xs;
  told = λ p some. IsLeastPair-from test xs p.0 p.1 some;
  tells = λ p least. least_pair-at test xs p.0 p.1 least;
}

-- the first place that passes
first-unique : (test : ℕ → Bool) (xs : List ℕ) (i j : ℕ) → IsFirst test xs i → IsFirst test xs j → (i < j) → ⊥
first-unique test xs i j here there below = both_ways (test (slice_index xs i)) (there.before i below) here.passes

same-first : (test : ℕ → Bool) (xs : List ℕ) (i j : ℕ) → IsFirst test xs i → IsFirst test xs j → i ≡ j
same-first test xs i j here there =
    let low = first-unique test xs i j here there in
    let high = first-unique test xs j i there here in
    grind (arith, low, high)

says-position : (test : ℕ → Bool) (xs : List ℕ) → Says (position test xs) ((k : ℕ) → k < length xs → test (slice_index xs k) ≡ false) (IsFirst test xs)
says-position test xs = elim (position_cases test xs) [
  | inl found ↦ record {
    clear = λ none. absurd (let some = found.1 in cc);
    clears = λ each. absurd (both_ways (test (slice_index xs found.0)) (each found.0 found.2.within) found.2.passes);
    told = λ i some. let place = found.1 in let is : found.0 ≡ i = cc in subst (IsFirst test xs) is found.2;
    tells = λ i first. found.1 ∙ ap Some (same-first test xs found.0 i found.2 first);
  }
  | inr none ↦ record {
    clear = λ _. none.1;
    clears = λ _. none.0;
    told = λ i some. absurd (let nothing = none.0 in cc);
    tells = λ i first. absurd (both_ways (test (slice_index xs i)) (none.1 i first.within) first.passes);
  }
]

-- the first word without a weight that is stated
says-other : (n w : ℕ) (words : List ℕ) → Says (position (λ x. not (weight n x == w)) words) (All (λ x. weight n x ≡ w) words) (IsFirst (λ x. not (weight n x == w)) words)
says-other n w words =
    says-also (says-position (λ x. not (weight n x == w)) words)
    (λ each. All-from_get_or (λ x. weight n x ≡ w) words 0 (λ k below. eqb-true (weight n (slice_index words k)) w (not-false (weight n (slice_index words k) == w) (each k below))))
    (λ each k below. ap not (eq-eqb (weight n (slice_index words k)) w (each k 0 below)))
    (λ i first. first) (λ i first. first)

-- a fault of a word without the weight of an entry, by its name
pub says-weight : {X : Type 0} (e : Entry) (words : List ℕ) (name : ℕ → X) (found : Option ℕ → Option X) → found None ≡ None
    → ((w : ℕ) → found (Some w) ≡ option_map name (position (λ x. not (weight e.n x == w)) words))
    → Says (found e.w) (HaveWeight e words) (λ (x : X). (i : ℕ) × (name i ≡ x) × IsFirstOfOtherWeight e words i)
says-weight {X} e words name found plain stated = at e.w refl where
  at : (w : Option ℕ) → e.w ≡ w → Says (found w) (IfSome w (λ k. All (λ x. weight e.n x ≡ k) words)) (λ (x : X). (i : ℕ) × (name i ≡ x) × IsFirstOfOtherWeight e words i)
  at None is = record {
    clear = λ none. tt;
    clears = λ each. plain;
    told = λ x some. absurd (let none = plain in cc);
    tells = λ x h. absurd (let weighted = h.2.stated in cc);
  }
  at (Some w) is =
      subst (λ (o : Option X). Says o (All (λ x. weight e.n x ≡ w) words) (λ (x : X). (i : ℕ) × (name i ≡ x) × IsFirstOfOtherWeight e words i)) (sym (stated w))
      (says-also (says-map name (position (λ x. not (weight e.n x == w)) words) (says-other e.n w words)) (λ each. each) (λ each. each)
      (λ x h. (h.0, h.1, first-is h.0 h.2)) (λ x h. (h.0, h.1, is-first h.0 h.2)))
    where
      first-is : (i : ℕ) → IsFirst (λ x. not (weight e.n x == w)) words i → IsFirstOfOtherWeight e words i
      first-is i first = record {
        w = w;
        stated = is;
        within = first.within;
        other = λ same. both_ways (not (weight e.n (slice_index words i) == w)) (ap not (eq-eqb (weight e.n (slice_index words i)) w same)) first.passes;
        before = λ k below. eqb-true (weight e.n (slice_index words k)) w (not-false (weight e.n (slice_index words k) == w) (first.before k below));
      }

      is-first : (i : ℕ) → IsFirstOfOtherWeight e words i → IsFirst (λ x. not (weight e.n x == w)) words i
      is-first i first =
          let weighted = first.stated in
          let same : first.w ≡ w = cc in
          record {
            within = first.within;
            passes = ap not (ne_eqb (weight e.n (slice_index words i)) w (λ equal. first.other (equal ∙ sym same)));
            before = λ k below. ap not (eq-eqb (weight e.n (slice_index words k)) w (first.before k below ∙ same));
          }
