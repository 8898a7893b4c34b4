-- The distance of two words is a metric on the words of one length.
use Rattle.std.proofs.Common.{◌≡◌, ℕ, ◌+◌, ◌≤◌, List, [], ◌∷◌, length, refl, ap, arith}
use Rattle.std.specs.Prelude.{Bool, true, false, cond}
use Rattle.ct_words.specs.Counting.Words.{apart, differ}

-- a count of one thing is at most one
indicator-le-one : (b : Bool) → cond {A = ℕ} b 1 0 ≤ 1
indicator-le-one false = omega arith
indicator-le-one true = omega arith

-- a word differs from itself nowhere
pub apart-self : (x : List Bool) → apart x x ≡ 0
apart-self [] = refl
apart-self (false ∷ x) = let ih = apart-self x in omega arith
apart-self (true ∷ x) = let ih = apart-self x in omega arith

-- two digits differ in either order
pub differ_symmetric : (a b : Bool) → differ a b ≡ differ b a
differ_symmetric false false = refl
differ_symmetric false true = refl
differ_symmetric true false = refl
differ_symmetric true true = refl

-- two words differ as often in either order
pub apart_symmetric : (x y : List Bool) → apart x y ≡ apart y x
apart_symmetric [] [] = refl
apart_symmetric [] (b ∷ y) = refl
apart_symmetric (a ∷ x) [] = refl
apart_symmetric (a ∷ x) (b ∷ y) =
    let ih = apart_symmetric x y in
    let heads = ap (λ t. cond {A = ℕ} t 1 0) (differ_symmetric a b) in
    omega arith

-- two words differ at no more places than the first has
pub apart-le-length : (x y : List Bool) → apart x y ≤ length x
apart-le-length [] y = omega arith
apart-le-length (a ∷ x) [] = omega arith
apart-le-length (a ∷ x) (b ∷ y) =
    let ih = apart-le-length x y in
    let head = indicator-le-one (differ a b) in
    omega arith

-- two digits that differ differ from a third one at least once
differ_triangle : (a b c : Bool) → cond {A = ℕ} (differ a c) 1 0 ≤ cond {A = ℕ} (differ a b) 1 0 + cond {A = ℕ} (differ b c) 1 0
differ_triangle false false c = omega arith
differ_triangle true true c = omega arith
differ_triangle false true c = let bound = indicator-le-one c in omega arith
differ_triangle true false false = omega arith
differ_triangle true false true = omega arith

-- the triangle inequality, at words of one length
pub apart_triangle : (x y z : List Bool) → length x ≡ length y → length y ≡ length z → apart x z ≤ apart x y + apart y z
apart_triangle [] y z e f = omega arith
apart_triangle (a ∷ x) [] z e f = absurd (omega arith)
apart_triangle (a ∷ x) (b ∷ y) [] e f = absurd (omega arith)
apart_triangle (a ∷ x) (b ∷ y) (c ∷ z) e f =
    let ih = apart_triangle x y z (omega arith) (omega arith) in
    let heads = differ_triangle a b c in
    omega arith

-- words of one length that differ nowhere are equal
pub same_from_apart : (x y : List Bool) → length x ≡ length y → apart x y ≡ 0 → x ≡ y
same_from_apart [] [] e h = refl
same_from_apart [] (b ∷ y) e h = absurd (omega arith)
same_from_apart (a ∷ x) [] e h = absurd (omega arith)
same_from_apart (false ∷ x) (false ∷ y) e h = ap (λ z. false ∷ z) (same_from_apart x y (omega arith) (omega arith))
same_from_apart (false ∷ x) (true ∷ y) e h = absurd (omega arith)
same_from_apart (true ∷ x) (false ∷ y) e h = absurd (omega arith)
same_from_apart (true ∷ x) (true ∷ y) e h = ap (λ z. true ∷ z) (same_from_apart x y (omega arith) (omega arith))
