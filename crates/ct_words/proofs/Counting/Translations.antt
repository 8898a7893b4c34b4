-- A code translated by a word: the sum place by place, modulo 2, keeps all distances.
use Rattle.std.proofs.Common.{◌≡◌, ℕ, ◌≤◌, List, [], ◌∷◌, map, length, ◌∙◌, arith}
use Rattle.std.specs.Prelude.{Bool, true, false, ◌==◌, filter, count_by}
use Rattle.std.proofs.lemmas.Bool.{eqb-true}
use Rattle.std.proofs.lemmas.List.{length-map}
use Rattle.std.proofs.lemmas.List.Elements.{All-map, All-filter, filter_passes}
use Rattle.std.proofs.lemmas.List.Kept.{AllPairs-filter}
use Rattle.std.proofs.lemmas.List.Sums.{length-filter}
use Rattle.ct_words.specs.Counting.Words.{apart, differ, ones}
use Rattle.ct_words.proofs.Counting.Pairs.{AllPairs-map, AllPairs-within}
use Rattle.ct_words.proofs.Counting.Spread.{IsSpread, IsSpreadOfWeight}

-- the sum of two words, place by place, modulo 2
abbrev pub plus : List Bool → List Bool → List Bool
plus [] y = []
plus (a ∷ x) [] = []
plus (a ∷ x) (b ∷ y) = differ a b ∷ plus x y

-- it has the length of the words
pub length-plus : (x y : List Bool) → length x ≡ length y → length (plus x y) ≡ length y
length-plus [] y h = h
length-plus (a ∷ x) [] h = absurd (omega arith)
length-plus (a ∷ x) (b ∷ y) h = let ih = length-plus x y (omega arith) in omega arith

-- and a one where the words differ
pub ones-plus : (x y : List Bool) → length x ≡ length y → ones (plus x y) ≡ apart x y
ones-plus [] y h = omega arith
ones-plus (a ∷ x) [] h = absurd (omega arith)
ones-plus (a ∷ x) (b ∷ y) h = let ih = ones-plus x y (omega arith) in omega arith

-- two words translated by a third differ where they did
pub apart-plus : (z x y : List Bool) → length z ≡ length x → length z ≡ length y → apart (plus z x) (plus z y) ≡ apart x y
apart-plus [] [] y h k = omega arith
apart-plus [] (a ∷ x) y h k = absurd (omega arith)
apart-plus (c ∷ z) [] y h k = absurd (omega arith)
apart-plus (c ∷ z) (a ∷ x) [] h k = absurd (omega arith)
apart-plus (false ∷ z) (a ∷ x) (b ∷ y) h k = let ih = apart-plus z x y (omega arith) (omega arith) in omega arith
apart-plus (true ∷ z) (false ∷ x) (false ∷ y) h k = let ih = apart-plus z x y (omega arith) (omega arith) in omega arith
apart-plus (true ∷ z) (false ∷ x) (true ∷ y) h k = let ih = apart-plus z x y (omega arith) (omega arith) in omega arith
apart-plus (true ∷ z) (true ∷ x) (false ∷ y) h k = let ih = apart-plus z x y (omega arith) (omega arith) in omega arith
apart-plus (true ∷ z) (true ∷ x) (true ∷ y) h k = let ih = apart-plus z x y (omega arith) (omega arith) in omega arith

-- the words at distance w from v, translated by v
abbrev pub around : List Bool → ℕ → List (List Bool) → List (List Bool)
around v w cs = map (plus v) (filter (λ x. apart v x == w) cs)

-- there are as many as lie at that distance
pub length-around : (v : List Bool) (w : ℕ) (cs : List (List Bool)) → length (around v w cs) ≡ count_by (λ x. apart v x == w) cs
length-around v w cs = length-map (filter (λ x. apart v x == w) cs) (plus v) ∙ length-filter (λ x. apart v x == w) cs

-- they are a code of weight w
pub spread-around : (n d w : ℕ) (v : List Bool) (cs : List (List Bool)) → length v ≡ n → IsSpread n d cs → IsSpreadOfWeight n d w (around v w cs)
spread-around n d w v cs long spread =
    let near : List Bool → Bool = λ x. apart v x == w in
    let lengths = All-filter near (λ x. length x ≡ n) cs spread.lengths in
    let distances = AllPairs-filter (λ x y. d ≤ apart x y) near cs spread.distances in
    let passes = filter_passes near cs in
    record {
      spread =
          record {
            lengths = All-map (λ x. length x ≡ n) (plus v) (filter near cs) (λ k e l. let same = lengths k e l in length-plus v _ (omega arith) ∙ same);
            distances =
                AllPairs-map (λ x y. d ≤ apart x y) (plus v) (filter near cs)
                (AllPairs-within (λ x. length x ≡ n) (λ x y. d ≤ apart x y) (λ x y. d ≤ apart (plus v x) (plus v y)) (filter near cs)
                (λ x y p q far. let same = apart-plus v x y (omega arith) (omega arith) in omega arith) lengths distances);
          };
      weights =
          All-map (λ x. ones x ≡ w) (plus v) (filter near cs)
          (λ k e l. let same = lengths k e l in ones-plus v _ (omega arith) ∙ eqb-true (apart v _) w (passes k e l));
    }
