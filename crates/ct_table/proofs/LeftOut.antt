-- Items that are left out of a list at the places of a set: one walk, in which the others move down.
use Rattle.std.proofs.Common.{◌≡◌, ℕ, zero, suc, ◌+◌, ◌<◌, ◌≤◌, Bool, true, false, cond, List, [], ◌∷◌, ◌++◌, length, take, drop, get_or, refl, sym, ap, ◌∙◌, append-nil, arith}
use Rattle.std.specs.List.{SwappedAt}
use Rattle.std.proofs.lemmas.List.{take_more, take-set-le, drop_more, drop-set-lt, length-set, take_all}
use Rattle.ct_rules.specs.Removal.{Places, without}
use Rattle.ct_rules.proofs.WithoutLemmas.{past}

-- one item more is looked at
without_next : {X : Type 0} (gone : Places) (xs : List X) (i : ℕ) (x : X) → i < length xs
    → without gone (take (suc i) xs) ≡ without gone (take i xs) ++ cond (gone i) [] (get_or xs i x ∷ [])
unfolding without
without_next gone [] i x within = absurd (omega (arith, within))
without_next gone (y ∷ xs) zero x within = refl
without_next gone (y ∷ xs) (suc i) x within = at (gone 0) (without_next (past gone) xs i x (omega (arith, within))) where
  at : (b : Bool) → without (past gone) (take (suc i) xs) ≡ without (past gone) (take i xs) ++ cond (gone (suc i)) [] (get_or xs i x ∷ [])
      → cond b (without (past gone) (take (suc i) xs)) (y ∷ without (past gone) (take (suc i) xs))
      ≡ cond b (without (past gone) (take i xs)) (y ∷ without (past gone) (take i xs)) ++ cond (gone (suc i)) [] (get_or xs i x ∷ [])
  at true more = more
  at false more = ap (λ ys. y ∷ ys) more

without_more : {X : Type 0} (gone : Places) (xs : List X) (i : ℕ) (x : X) → i < length xs
    → without gone (take (i + 1) xs) ≡ without gone (take i xs) ++ cond (gone i) [] (get_or xs i x ∷ [])
without_more gone xs i x within =
    let next : i + 1 ≡ suc i = omega arith in ap (λ (n : ℕ). without gone (take n xs)) next ∙ without_next gone xs i x within

-- ys began as xs. What is not of the set of the first i of xs stands in the first k places of ys, and from i on ys is as it was
pub record LeavesOut {X : Type 0} (gone : Places) (xs ys : List X) (k i : ℕ) : Type 0 where
  pub front : take k ys ≡ without gone (take i xs)
  pub rest : drop i ys ≡ drop i xs
  pub behind : k ≤ i
  pub within : i ≤ length xs
  pub long : length ys ≡ length xs

-- where nothing has been looked at
pub LeavesOut-none : {X : Type 0} (gone : Places) (xs : List X) → LeavesOut gone xs xs 0 0
unfolding without
LeavesOut-none gone xs = record { front = refl; rest = refl; behind = omega arith; within = omega arith; long = refl }

-- an item of a list that is not empty
first_item : {X : Type 0} (xs : List X) (i : ℕ) → i < length xs → X
first_item [] i within = absurd (omega (arith, within))
first_item (x ∷ xs) i within = x

module _ {X : Type 0} {gone : Places} {xs ys : List X} {k i : ℕ} where
  pub LeavesOut-all : LeavesOut gone xs ys k i → length xs ≤ i → take k ys ≡ without gone xs
  LeavesOut-all h past = h.front ∙ ap (without gone) (take_all i xs past)

  both : (x : X) → LeavesOut gone xs ys k i → i < length xs → get_or ys i x ∷ drop (i + 1) ys ≡ get_or xs i x ∷ drop (i + 1) xs
  both x h within = sym (drop_more ys i x (omega (arith, within, h.long))) ∙ h.rest ∙ drop_more xs i x within

  -- an item of the set stays behind
  pub LeavesOut-out : LeavesOut gone xs ys k i → i < length xs → gone i ≡ true → LeavesOut gone xs ys k (i + 1)
  LeavesOut-out h within out = let x = first_item xs i within in record {
    front = h.front ∙ sym (without_more gone xs i x within
        ∙ ap (λ (b : Bool). without gone (take i xs) ++ cond b [] (get_or xs i x ∷ [])) out ∙ append-nil (without gone (take i xs)));
    rest = ap (drop 1) (both x h within);
    behind = let b = h.behind in omega (arith, b);
    within = omega (arith, within);
    long = h.long;
  }

  -- another one is exchanged for the first that stayed behind
  pub LeavesOut-in : (zs : List X) → LeavesOut gone xs ys k i → i < length xs → gone i ≡ false → SwappedAt ys zs k i → LeavesOut gone xs zs (k + 1) (i + 1)
  LeavesOut-in zs h within stays s =
      let x = first_item xs i within in
      let b = h.behind in let l = h.long in
      let sets = s.3 x in
      let read : get_or ys i x ≡ get_or xs i x = ap (λ zs. get_or zs 0 x) (both x h within) in
      let long : length zs ≡ length ys = ap (λ zs. length zs) sets ∙ length-set _ i _ ∙ length-set ys k _ in
      let first : take k zs ≡ take k ys = ap (take k) sets ∙ take-set-le k _ i _ b ∙ take-set-le k ys k _ (omega arith) in
      let last : drop (i + 1) zs ≡ drop (i + 1) ys = ap (drop (i + 1)) sets ∙ drop-set-lt (i + 1) _ i _ (omega arith) ∙ drop-set-lt (i + 1) ys k _ (omega (arith, b)) in
      record {
        front = take_more zs k x (omega (arith, within, b, l, long)) ∙ (λ j. (first ∙ h.front) j ++ (s.0 x ∙ read) j ∷ [])
            ∙ sym (without_more gone xs i x within ∙ ap (λ (c : Bool). without gone (take i xs) ++ cond c [] (get_or xs i x ∷ [])) stays);
        rest = last ∙ ap (drop 1) (both x h within);
        behind = omega (arith, b);
        within = omega (arith, within);
        long = long ∙ l;
      }
