-- Supports that give way to others at some places, and back again.
use Rattle.std.proofs.Common.{◌≡◌, ℕ, zero, suc, ◌+◌, ◌<◌, ◌≤◌, Bool, true, false, List, [], ◌∷◌, ◌++◌, length, replicate, take, drop, Option, Some, None, option_map, slice_get, slice_set, refl, sym, ap, ap₂, subst, ◌∙◌, arith}
use Rattle.std.specs.Prelude.{if◌then◌else◌}
use Rattle.std.proofs.lemmas.Bool.Decides.{nat_tests}
use Rattle.std.proofs.lemmas.List.{take_at}
use Rattle.std.proofs.lemmas.Option.{none-some, same_Some}
use Rattle.ct_words.specs.declared.entry.Entry.{Entry}
use Rattle.ct_words.specs.Entry.{IsEntry}
use Rattle.ct_rule_parts.specs.declared.support.Support.{Support}
use Rattle.ct_rule_parts.specs.declared.support.Support.TheVariants.{Nothing}
use Rattle.ct_rules.specs.Removal.{Places, marked, only, without, voided, voided_by}
use Rattle.ct_rules.proofs.VoidedSupports.{slice_get-voided, length-voided}
use Rattle.ct_rules.proofs.WithoutLemmas.{past, without-in, without-out}
use Rattle.ct_slots.specs.Places.{GivesTo, AreSupportPlaces}
use Rattle.ct_table.specs.Inside.Exchanged.{exchanged}
use Rattle.ct_table.proofs.PlacedSupports.{nothing_given}

-- marks none of which is set
none_marked : (count p : ℕ) → marked (replicate count false) p ≡ false
none_marked zero p = refl
none_marked (suc count) zero = refl
none_marked (suc count) (suc p) = none_marked count p

one_marked : (count place p : ℕ) → place < count → marked (slice_set (replicate count false) place true) p ≡ only place p
one_marked zero place p within = absurd (omega arith)
one_marked (suc count) zero zero within = refl
one_marked (suc count) zero (suc p) within = none_marked count p ∙ grind (arith, nat_tests)
one_marked (suc count) (suc place) zero within = grind (arith, nat_tests)
one_marked (suc count) (suc place) (suc p) within = one_marked count place p (omega arith) ∙ grind (arith, nat_tests)

-- one mark that is set is the set of its place
pub marked-only : (count place : ℕ) → place < count → marked (slice_set (replicate count false) place true) ≡ only place
marked-only count place within = λ i p. one_marked count place p within i

-- as many items as before
pub length-exchanged : {X : Type 0} (gone : Places) (xs ys : List X) → length (exchanged gone xs ys) ≡ length xs
unfolding exchanged
length-exchanged gone [] ys = refl
length-exchanged gone (x ∷ xs) [] = refl
length-exchanged gone (x ∷ xs) (y ∷ ys) = ap suc (length-exchanged (past gone) xs ys)

same_twice : {X : Type 0} (b : Bool) (x : X) → x ≡ (if b then x else x)
same_twice true x = refl
same_twice false x = refl

some_of_two : {X : Type 0} (b : Bool) (x y : X) → Some (if b then y else x) ≡ (if b then Some y else Some x)
some_of_two true x y = refl
some_of_two false x y = refl

-- an item of the exchanged list
slice_get-exchanged : {X : Type 0} (gone : Places) (xs ys : List X) (k : ℕ) → length xs ≡ length ys
    → slice_get (exchanged gone xs ys) k ≡ (if gone k then slice_get ys k else slice_get xs k)
unfolding exchanged
slice_get-exchanged gone [] [] k same = same_twice (gone k) None
slice_get-exchanged gone [] (y ∷ ys) k same = absurd (omega (arith, same))
slice_get-exchanged gone (x ∷ xs) [] k same = absurd (omega (arith, same))
slice_get-exchanged gone (x ∷ xs) (y ∷ ys) zero same = some_of_two (gone 0) x y
slice_get-exchanged gone (x ∷ xs) (y ∷ ys) (suc k) same = slice_get-exchanged (past gone) xs ys k (omega (arith, same))

-- so many of the first items of a list, and the others of another one
abbrev pub over : {X : Type 0} → ℕ → List X → List X → List X
over k new old = take k new ++ drop k old

over_more : {X : Type 0} (new old : List X) (k : ℕ) (x : X) → length new ≡ length old → slice_get new k ≡ Some x
    → slice_set (over k new old) k x ≡ over (suc k) new old
over_more [] old k x same at = absurd (none-some x at)
over_more (n ∷ new) [] k x same at = absurd (omega (arith, same))
over_more (n ∷ new) (o ∷ old) zero x same at = ap (λ y. y ∷ old) (sym (same_Some n x at))
over_more (n ∷ new) (o ∷ old) (suc k) x same at = ap (λ ys. n ∷ ys) (over_more new old k x (omega (arith, same)) at)

over_same : {X : Type 0} (new old : List X) (k : ℕ) → k < length old → length new ≡ length old → slice_get new k ≡ slice_get old k
    → over k new old ≡ over (suc k) new old
over_same new [] k within same at = absurd (omega arith)
over_same [] (o ∷ old) k within same at = absurd (omega (arith, same))
over_same (n ∷ new) (o ∷ old) zero within same at = ap (λ y. y ∷ old) (same_Some o n (sym at))
over_same (n ∷ new) (o ∷ old) (suc k) within same at =
    ap (λ ys. n ∷ ys) (over_same new old k (omega (arith, within)) (omega (arith, same)) at)

at_seam : {X : Type 0} (new old : List X) (k : ℕ) → length new ≡ length old → slice_get (over k new old) k ≡ slice_get old k
at_seam [] [] zero same = refl
at_seam [] [] (suc k) same = refl
at_seam [] (o ∷ old) k same = absurd (omega (arith, same))
at_seam (n ∷ new) [] k same = absurd (omega (arith, same))
at_seam (n ∷ new) (o ∷ old) zero same = refl
at_seam (n ∷ new) (o ∷ old) (suc k) same = at_seam new old k (omega (arith, same))

-- where all are the first ones
pub over_end : {X : Type 0} (new old : List X) (k : ℕ) → length new ≡ length old → length old ≤ k → over k new old ≡ new
over_end [] [] zero same past = refl
over_end [] [] (suc k) same past = refl
over_end [] (o ∷ old) k same past = absurd (omega (arith, same))
over_end (n ∷ new) [] k same past = absurd (omega (arith, same))
over_end (n ∷ new) (o ∷ old) zero same past = absurd (omega (arith, past))
over_end (n ∷ new) (o ∷ old) (suc k) same past =
    ap (λ ys. n ∷ ys) (over_end new old k (omega (arith, same)) (omega (arith, past)))

-- one more place whose items are exchanged
pub exchanged_more : {X : Type 0} (gone : Places) (xs ys now others : List X) (k : ℕ) (y : X) → length xs ≡ length ys
    → now ≡ over k (exchanged gone xs ys) xs → others ≡ over k (exchanged gone ys xs) ys → gone k ≡ true → slice_get others k ≡ Some y
    → slice_set now k y ≡ over (k + 1) (exchanged gone xs ys) xs
exchanged_more gone xs ys now others k y same is other_is out there =
    let long = length-exchanged gone xs ys in
    let other_long = length-exchanged gone ys xs in
    let next : suc k ≡ k + 1 = omega arith in
    let item : slice_get (exchanged gone xs ys) k ≡ Some y =
    slice_get-exchanged gone xs ys k same ∙ ap (λ (b : Bool). if b then slice_get ys k else slice_get xs k) out
    ∙ sym (at_seam (exchanged gone ys xs) ys k other_long) ∙ ap (λ zs. slice_get zs k) (sym other_is) ∙ there in
    ap (λ zs. slice_set zs k y) is ∙ over_more (exchanged gone xs ys) xs k y long item
    ∙ ap (λ n. over n (exchanged gone xs ys) xs) next

-- or stay
pub exchanged_same : {X : Type 0} (gone : Places) (xs ys now : List X) (k : ℕ) → k < length xs → length xs ≡ length ys
    → now ≡ over k (exchanged gone xs ys) xs → gone k ≡ false → now ≡ over (k + 1) (exchanged gone xs ys) xs
exchanged_same gone xs ys now k within same is stays =
    let long = length-exchanged gone xs ys in
    let next : suc k ≡ k + 1 = omega arith in
    is
    ∙ over_same (exchanged gone xs ys) xs k within long
    (slice_get-exchanged gone xs ys k same ∙ ap (λ (b : Bool). if b then slice_get ys k else slice_get xs k) stays)
    ∙ ap (λ n. over n (exchanged gone xs ys) xs) next

-- for others that give nothing
pub exchanged-nothing : (gone : Places) (supports : List Support)
    → exchanged gone supports (replicate (length supports) Nothing) ≡ voided gone supports
unfolding exchanged voided
exchanged-nothing gone [] = refl
exchanged-nothing gone (support ∷ supports) =
    ap (λ (these : List Support). voided_by (gone 0) support ∷ these) (exchanged-nothing (past gone) supports)

twice : {X : Type 0} (b : Bool) (x y : X) → (if b then (if b then x else y) else (if b then y else x)) ≡ x
twice true x y = refl
twice false x y = refl

-- and back again
pub exchanged-back : {X : Type 0} (gone : Places) (xs ys : List X) → length xs ≡ length ys
    → exchanged gone (exchanged gone xs ys) (exchanged gone ys xs) ≡ xs
unfolding exchanged
exchanged-back gone [] ys same = refl
exchanged-back gone (x ∷ xs) [] same = absurd (omega (arith, same))
exchanged-back gone (x ∷ xs) (y ∷ ys) same =
    ap₂ (λ z zs. z ∷ zs) (twice (gone 0) x y) (exchanged-back (past gone) xs ys (omega (arith, same)))

-- a list that was written through a slice of its length
written : {X : Type 0} (n : ℕ) (xs new : List X) → length new ≡ n → take n (new ++ drop (length new) xs) ≡ new
written n xs new long = take_at new (drop (length new) xs) n long

-- supports are exchanged for such as give nothing
pub voids : (gone : Places) (supports taken now : List Support) (n : ℕ) → length supports ≡ n → taken ≡ replicate n Nothing
    → now ≡ exchanged gone supports taken → take n (now ++ drop (length now) supports) ≡ voided gone supports
voids gone supports taken now n long nothing is =
    let same : taken ≡ replicate (length supports) Nothing = nothing ∙ ap (λ k. replicate k Nothing) (sym long) in
    written n supports now (ap (λ xs. length xs) is ∙ length-exchanged gone supports taken ∙ long)
    ∙ is ∙ ap (exchanged gone supports) same ∙ exchanged-nothing gone supports

pub length-replicate : {X : Type 0} (n : ℕ) (x : X) → length (replicate n x) ≡ n
length-replicate zero x = refl
length-replicate (suc n) x = ap suc (length-replicate n x)

-- and back again
pub put_back : (gone : Places) (supports taken now others back : List Support) (n m : ℕ) → length supports ≡ n → taken ≡ replicate n Nothing
    → length taken ≡ m → now ≡ exchanged gone supports taken → others ≡ exchanged gone taken supports
    → back ≡ exchanged gone (take n (now ++ drop (length now) supports)) (take m (others ++ drop (length others) taken))
    → take n (back ++ drop (length back) (take n (now ++ drop (length now) supports))) ≡ supports
put_back gone supports taken now others back n m long nothing count is other_is back_is =
    let same : length supports ≡ length taken = long ∙ sym (ap (λ xs. length xs) nothing ∙ length-replicate n Nothing) in
    let first : take n (now ++ drop (length now) supports) ≡ exchanged gone supports taken =
    written n supports now (ap (λ xs. length xs) is ∙ length-exchanged gone supports taken ∙ long) ∙ is in
    let second : take m (others ++ drop (length others) taken) ≡ exchanged gone taken supports =
    written m taken others (ap (λ xs. length xs) other_is ∙ length-exchanged gone taken supports ∙ count) ∙ other_is in
    let whole : back ≡ supports =
    back_is ∙ ap₂ (exchanged gone) first second ∙ exchanged-back gone supports taken same in
    written n (take n (now ++ drop (length now) supports)) back (ap (λ xs. length xs) whole ∙ long) ∙ whole

-- where those of a set give nothing, the others are left without them
pub without-voided : (gone : Places) (supports : List Support) → without gone (voided gone supports) ≡ without gone supports
unfolding voided without
without-voided gone [] = refl
without-voided gone (support ∷ supports) = go (gone 0) refl (without-voided (past gone) supports)
  where
    go : (b : Bool) → gone 0 ≡ b → without (past gone) (voided (past gone) supports) ≡ without (past gone) supports
        → without gone (voided_by (gone 0) support ∷ voided (past gone) supports) ≡ without gone (support ∷ supports)
    go true out rest =
        without-out gone (voided_by (gone 0) support) (voided (past gone) supports) out ∙ rest
        ∙ sym (without-out gone support supports out)
    go false stays rest =
        without-in gone (voided_by (gone 0) support) (voided (past gone) supports) stays
        ∙ ap₂ (λ (x : Support) (xs : List Support). x ∷ xs) (ap (λ (b : Bool). voided_by b support) stays) rest
        ∙ sym (without-in gone support supports stays)

-- supports of which those of a set give nothing have the same places
pub AreSupportPlaces-voided : (gone : Places) (supports : List Support) (places : List (Option Entry)) → AreSupportPlaces supports places
    → AreSupportPlaces (voided gone supports) places
AreSupportPlaces-voided gone supports places are = record {
  count = are.count ∙ sym (length-voided gone supports);
  given = λ place support e entry there gives.
      go place support e entry gives (gone place) (slice_get supports place) refl (sym (slice_get-voided gone supports place) ∙ there);
}
  where
    go : (place : ℕ) (support : Support) (e : Entry) → IsEntry e → GivesTo support e → (b : Bool) (found : Option Support)
        → slice_get supports place ≡ found → option_map (voided_by b) found ≡ Some support → slice_get places place ≡ Some (Some e)
    go place support e entry gives b None at is = absurd (none-some support is)
    go place support e entry gives true (Some s) at is =
        absurd (nothing_given e (subst (λ (y : Support). GivesTo y e) (sym (same_Some Nothing support is)) gives))
    go place support e entry gives false (Some s) at is =
        are.given place s e entry at (subst (λ (y : Support). GivesTo y e) (sym (same_Some s support is)) gives)
