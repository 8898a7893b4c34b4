-- Lists without the items at some places: where the others are, and where they were.
use Rattle.std.proofs.Common.{◌≡◌, ℕ, zero, suc, ◌+◌, ◌-◌, ◌≤◌, Bool, true, false, List, [], ◌∷◌, length, All, Some, refl, sym, ap, subst, ◌∙◌, arith}
use Rattle.std.specs.Prelude.{nat_lt, if◌then◌else◌, remove, slice_get}
use Rattle.std.proofs.lemmas.Bool.Decides.{nat_tests}
use Rattle.std.proofs.lemmas.List.Elements.{All-cons, All-head, All-tail}
use Rattle.std.proofs.lemmas.Option.{none-some}
use Rattle.ct_rules.specs.Removal.{Places, without, only, count_below, lowered_place}

-- the places of the tail
abbrev pub past : Places → Places
past gone p = gone (suc p)

-- the first place counted apart
count_below-step : (gone : Places) (p : ℕ)
    → count_below gone (suc p) ≡ (if gone 0 then 1 else 0) + count_below (past gone) p
unfolding count_below
count_below-step gone zero = omega arith
count_below-step gone (suc p) = let ih = count_below-step gone p in omega arith

one_or_none : (b : Bool) → (if b then 1 else 0) ≤ 1
one_or_none true = omega arith
one_or_none false = omega arith

count_below-le : (gone : Places) (p : ℕ) → count_below gone p ≤ p
unfolding count_below
count_below-le gone zero = omega arith
count_below-le gone (suc p) = let ih = count_below-le gone p in let one = one_or_none (gone p) in omega arith

-- a place of the tail moves down by one more where the first is out
lowered-out : (gone : Places) (p : ℕ) → gone 0 ≡ true → lowered_place gone (suc p) ≡ lowered_place (past gone) p
lowered-out gone p out =
    let step : count_below gone (suc p) ≡ 1 + count_below (past gone) p =
    count_below-step gone p ∙ ap (λ (b : Bool). (if b then 1 else 0) + count_below (past gone) p) out in
    omega arith

lowered-in : (gone : Places) (p : ℕ) → gone 0 ≡ false → lowered_place gone (suc p) ≡ suc (lowered_place (past gone) p)
lowered-in gone p stays =
    let step : count_below gone (suc p) ≡ 0 + count_below (past gone) p =
    count_below-step gone p ∙ ap (λ (b : Bool). (if b then 1 else 0) + count_below (past gone) p) stays in
    let few = count_below-le (past gone) p in
    omega arith

-- the first item is out, or stays
pub without-out : {X : Type 0} (gone : Places) (x : X) (xs : List X) → gone 0 ≡ true
    → without gone (x ∷ xs) ≡ without (past gone) xs
unfolding without
without-out gone x xs out =
    ap (λ (b : Bool). if b then without (past gone) xs else x ∷ without (past gone) xs) out

pub without-in : {X : Type 0} (gone : Places) (x : X) (xs : List X) → gone 0 ≡ false
    → without gone (x ∷ xs) ≡ x ∷ without (past gone) xs
unfolding without
without-in gone x xs stays =
    ap (λ (b : Bool). if b then without (past gone) xs else x ∷ without (past gone) xs) stays

-- an item that stays is at its lowered place
pub slice_get-without : {X : Type 0} (gone : Places) (xs : List X) (p : ℕ) (x : X) → gone p ≡ false
    → slice_get xs p ≡ Some x → slice_get (without gone xs) (lowered_place gone p) ≡ Some x
unfolding without count_below
slice_get-without gone [] p x stays at = absurd (none-some x at)
slice_get-without gone (y ∷ ys) zero x stays at = ap (λ zs. slice_get zs 0) (without-in gone y ys stays) ∙ at
slice_get-without gone (y ∷ ys) (suc p) x stays at =
    go (slice_get-without (past gone) ys p x stays at) (gone 0) refl
  where
    go : slice_get (without (past gone) ys) (lowered_place (past gone) p) ≡ Some x → (b : Bool) → gone 0 ≡ b
        → slice_get (without gone (y ∷ ys)) (lowered_place gone (suc p)) ≡ Some x
    go there true out =
        ap (slice_get (without gone (y ∷ ys))) (lowered-out gone p out)
        ∙ ap (λ zs. slice_get zs (lowered_place (past gone) p)) (without-out gone y ys out) ∙ there
    go there false here =
        ap (slice_get (without gone (y ∷ ys))) (lowered-in gone p here)
        ∙ ap (λ zs. slice_get zs (suc (lowered_place (past gone) p))) (without-in gone y ys here) ∙ there

-- an item that is left was at a place that is not in the set
pub record WasAt {X : Type 0} (gone : Places) (xs : List X) (q : ℕ) (x : X) : Type 0 where
  pub place : ℕ
  pub stays : gone place ≡ false
  pub there : slice_get xs place ≡ Some x
  pub lowered : lowered_place gone place ≡ q

-- so it was in the tail
was_in_tail : {X : Type 0} (gone : Places) (y : X) (ys : List X) (r : ℕ) (x : X) (b : Bool) → gone 0 ≡ b
    → WasAt (past gone) ys r x → WasAt gone (y ∷ ys) (if b then r else suc r) x
was_in_tail gone y ys r x true is before = record {
  place = suc before.place;
  stays = before.stays;
  there = before.there;
  lowered = lowered-out gone before.place is ∙ before.lowered;
}
was_in_tail gone y ys r x false is before = record {
  place = suc before.place;
  stays = before.stays;
  there = before.there;
  lowered = lowered-in gone before.place is ∙ ap suc before.lowered;
}

pub was_at : {X : Type 0} (gone : Places) (xs : List X) (q : ℕ) (x : X) → slice_get (without gone xs) q ≡ Some x
    → WasAt gone xs q x
unfolding without count_below
was_at gone [] q x at = absurd (none-some x at)
was_at gone (y ∷ ys) q x at = go (gone 0) refl q at (λ r found. was_at (past gone) ys r x found)
  where
    go : (b : Bool) → gone 0 ≡ b → (q : ℕ) → slice_get (without gone (y ∷ ys)) q ≡ Some x
        → ((r : ℕ) → slice_get (without (past gone) ys) r ≡ Some x → WasAt (past gone) ys r x) → WasAt gone (y ∷ ys) q x
    go true out q at rest =
        was_in_tail gone y ys q x true out (rest q (sym (ap (λ zs. slice_get zs q) (without-out gone y ys out)) ∙ at))
    go false here zero at rest = record {
      place = 0;
      stays = here;
      there = sym (ap (λ zs. slice_get zs 0) (without-in gone y ys here)) ∙ at;
      lowered = refl;
    }
    go false here (suc r) at rest =
        was_in_tail gone y ys r x false here
        (rest r (sym (ap (λ zs. slice_get zs (suc r)) (without-in gone y ys here)) ∙ at))

-- what holds of all items holds of those that are left, and these are no more
pub All-without : {X : Type 0} (P : X → Type 0) (gone : Places) (xs : List X) → All P xs → All P (without gone xs)
unfolding without
All-without P gone [] all = all
All-without P gone (x ∷ xs) all = go (All-without P (past gone) xs (All-tail P x xs all)) (gone 0) refl
  where
    go : All P (without (past gone) xs) → (b : Bool) → gone 0 ≡ b → All P (without gone (x ∷ xs))
    go rest true out = subst (All P) (sym (without-out gone x xs out)) rest
    go rest false here =
        subst (All P) (sym (without-in gone x xs here)) (All-cons P x (without (past gone) xs) (All-head P x xs all) rest)

pub length-without : {X : Type 0} (gone : Places) (xs : List X) → length (without gone xs) ≤ length xs
unfolding without
length-without gone [] = omega arith
length-without gone (x ∷ xs) = go (length-without (past gone) xs) (gone 0) refl
  where
    go : length (without (past gone) xs) ≤ length xs → (b : Bool) → gone 0 ≡ b
        → length (without gone (x ∷ xs)) ≤ length (x ∷ xs)
    go rest true out = let same = ap length (without-out gone x xs out) in omega arith
    go rest false here = let same = ap length (without-in gone x xs here) in omega arith

-- two sets of the same places
without-same : {X : Type 0} (gone other : Places) (xs : List X) → ((p : ℕ) → gone p ≡ other p)
    → without gone xs ≡ without other xs
unfolding without
without-same gone other [] same = refl
without-same gone other (x ∷ xs) same =
    let rest = without-same (past gone) (past other) xs (λ p. same (suc p)) in
    ap (λ (b : Bool). if b then without (past gone) xs else x ∷ without (past gone) xs) (same 0)
    ∙ ap (λ ys. if other 0 then ys else x ∷ ys) rest

-- no item is out
without_none : {X : Type 0} (gone : Places) (xs : List X) → ((p : ℕ) → gone p ≡ false) → without gone xs ≡ xs
unfolding without
without_none gone [] none = refl
without_none gone (x ∷ xs) none =
    without-in gone x xs (none 0) ∙ ap (λ ys. x ∷ ys) (without_none (past gone) xs (λ p. none (suc p)))

pub without-only : {X : Type 0} (place : ℕ) (xs : List X) → without (only place) xs ≡ remove xs place
unfolding without
without-only zero [] = refl
without-only (suc place) [] = refl
without-only zero (x ∷ xs) = without_none (past (only 0)) xs (λ p. grind (arith, nat_tests))
without-only (suc place) (x ∷ xs) =
    without-in (only (suc place)) x xs (grind (arith, nat_tests))
    ∙ ap (λ ys. x ∷ ys) (without-same (past (only (suc place))) (only place) xs (λ p. grind (arith, nat_tests))
    ∙ without-only place xs)

count_below-only : (place p : ℕ) → count_below (only place) p ≡ (if nat_lt place p then 1 else 0)
unfolding count_below
count_below-only place zero = grind (arith, nat_tests)
count_below-only place (suc p) = let ih = count_below-only place p in grind (arith, nat_tests)

pub lowered_place-only : (place p : ℕ) → lowered_place (only place) p ≡ (if nat_lt place p then p - 1 else p)
lowered_place-only place p = let count = count_below-only place p in grind (arith, nat_tests)
