-- Items that are left out of a list where they are marked: one walk, in which the others move down.
use Rattle.std.proofs.Common.{◌≡◌, ℕ, zero, suc, ◌+◌, ◌<◌, ◌≤◌, Bool, true, false, cond, List, [], ◌∷◌, ◌++◌, length, take, drop, get_or, refl, sym, ap, ◌∙◌, append-nil, arith}
use Rattle.std.specs.List.{SwappedAt}
use Rattle.std.proofs.lemmas.List.{take_more, take-set-le, drop_more, drop-set-lt, length-set, take_all}
use Rattle.ct_piece.specs.Inside.Unmarked.{unmarked}

unmarked-none : {X : Type 0} (marks : List Bool) → unmarked {X = X} marks [] ≡ []
unmarked-none [] = refl
unmarked-none (mark ∷ marks) = refl

-- one item more is looked at
unmarked_next : {X : Type 0} (marks : List Bool) (xs : List X) (i : ℕ) (x : X) → i < length xs → i < length marks
    → unmarked marks (take (suc i) xs) ≡ unmarked marks (take i xs) ++ cond (get_or marks i false) [] (get_or xs i x ∷ [])
unmarked_next marks [] i x within some = absurd (omega (arith, within))
unmarked_next [] (y ∷ xs) i x within some = absurd (omega (arith, some))
unmarked_next (true ∷ marks) (y ∷ xs) zero x within some = unmarked-none marks
unmarked_next (false ∷ marks) (y ∷ xs) zero x within some = ap (λ ys. y ∷ ys) (unmarked-none marks)
unmarked_next (true ∷ marks) (y ∷ xs) (suc i) x within some = unmarked_next marks xs i x (omega (arith, within)) (omega (arith, some))
unmarked_next (false ∷ marks) (y ∷ xs) (suc i) x within some =
    ap (λ ys. y ∷ ys) (unmarked_next marks xs i x (omega (arith, within)) (omega (arith, some)))

unmarked_more : {X : Type 0} (marks : List Bool) (xs : List X) (i : ℕ) (x : X) → i < length xs → i < length marks
    → unmarked marks (take (i + 1) xs) ≡ unmarked marks (take i xs) ++ cond (get_or marks i false) [] (get_or xs i x ∷ [])
unmarked_more marks xs i x within some =
    let next : i + 1 ≡ suc i = omega arith in ap (λ (n : ℕ). unmarked marks (take n xs)) next ∙ unmarked_next marks xs i x within some

-- ys began as xs. What is not marked of the first i of xs stands in the first k places of ys, and from i on ys is as it was
pub record LeavesOut {X : Type 0} (marks : List Bool) (xs ys : List X) (k i : ℕ) : Type 0 where
  pub front : take k ys ≡ unmarked marks (take i xs)
  pub rest : drop i ys ≡ drop i xs
  pub behind : k ≤ i
  pub within : i ≤ length xs
  pub long : length ys ≡ length xs

-- where nothing has been looked at
pub LeavesOut-none : {X : Type 0} (marks : List Bool) (xs : List X) → LeavesOut marks xs xs 0 0
LeavesOut-none marks xs = record { front = sym (unmarked-none marks); rest = refl; behind = omega arith; within = omega arith; long = refl }

-- an item of a list that is not empty
first_item : {X : Type 0} (xs : List X) (i : ℕ) → i < length xs → X
first_item [] i within = absurd (omega (arith, within))
first_item (x ∷ xs) i within = x

module _ {X : Type 0} {marks : List Bool} {xs ys : List X} {k i : ℕ} where
  pub LeavesOut-all : LeavesOut marks xs ys k i → length xs ≤ i → take k ys ≡ unmarked marks xs
  LeavesOut-all h past = h.front ∙ ap (unmarked marks) (take_all i xs past)

  both : (x : X) → LeavesOut marks xs ys k i → i < length xs → get_or ys i x ∷ drop (i + 1) ys ≡ get_or xs i x ∷ drop (i + 1) xs
  both x h within = sym (drop_more ys i x (omega (arith, within, h.long))) ∙ h.rest ∙ drop_more xs i x within

  -- an item that is marked stays behind
  pub LeavesOut-out : LeavesOut marks xs ys k i → i < length xs → i < length marks → get_or marks i false ≡ true → LeavesOut marks xs ys k (i + 1)
  LeavesOut-out h within some out = let x = first_item xs i within in record {
    front = h.front ∙ sym (unmarked_more marks xs i x within some
        ∙ ap (λ (b : Bool). unmarked marks (take i xs) ++ cond b [] (get_or xs i x ∷ [])) out ∙ append-nil (unmarked marks (take i xs)));
    rest = ap (drop 1) (both x h within);
    behind = let b = h.behind in omega (arith, b);
    within = omega (arith, within);
    long = h.long;
  }

  -- another one is exchanged for the first that stayed behind
  pub LeavesOut-in : (zs : List X) → LeavesOut marks xs ys k i → i < length xs → i < length marks → get_or marks i false ≡ false
      → SwappedAt ys zs k i → LeavesOut marks xs zs (k + 1) (i + 1)
  LeavesOut-in zs h within some stays s =
      let x = first_item xs i within in
      let b = h.behind in let l = h.long in
      let sets = s.3 x in
      let read : get_or ys i x ≡ get_or xs i x = ap (λ zs. get_or zs 0 x) (both x h within) in
      let long : length zs ≡ length ys = ap (λ zs. length zs) sets ∙ length-set _ i _ ∙ length-set ys k _ in
      let first : take k zs ≡ take k ys = ap (take k) sets ∙ take-set-le k _ i _ b ∙ take-set-le k ys k _ (omega arith) in
      let last : drop (i + 1) zs ≡ drop (i + 1) ys = ap (drop (i + 1)) sets ∙ drop-set-lt (i + 1) _ i _ (omega arith) ∙ drop-set-lt (i + 1) ys k _ (omega (arith, b)) in
      record {
        front = take_more zs k x (omega (arith, within, b, l, long)) ∙ (λ j. (first ∙ h.front) j ++ (s.0 x ∙ read) j ∷ [])
            ∙ sym (unmarked_more marks xs i x within some ∙ ap (λ (c : Bool). unmarked marks (take i xs) ++ cond c [] (get_or xs i x ∷ [])) stays);
        rest = last ∙ ap (drop 1) (both x h within);
        behind = omega (arith, b);
        within = omega (arith, within);
        long = long ∙ l;
      }
