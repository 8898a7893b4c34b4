-- A punctured code is a code.
use Rattle.std.proofs.Common.{◌≡◌, ℕ, ◌-◌, ◌+◌, ◌^◌, ◌<◌, List, length, get_or, All, subst, arith}
use Rattle.std.specs.Prelude.{not, ◌==◌, cond, count_by, Option, None}
use Rattle.std.proofs.lemmas.List.{length-map}
use Rattle.std.proofs.lemmas.List.Elements.{All-map}
use Rattle.std.proofs.lemmas.List.Sums.{count_by-le-length}
use Rattle.ct_words.proofs.Counting.Pairs.{AllPairs-map, AllPairs-weaker}
use Rattle.ct_words.specs.Word.{digit, distance}
use Rattle.ct_words.specs.Code.{IsCode}
use Rattle.ct_words.specs.Constructions.Places.{ArePlaces, other_places, read_at}
use Rattle.ct_words.specs.Constructions.Punctured.{punctured}
use Rattle.ct_words.proofs.Constructions.PlaceLemmas.{sum_by-other_places, length-other_places}
use Rattle.ct_words.proofs.Constructions.ReadLemmas.{distance-all, read_at-lt, distance-read_at}
use Rattle.ct_words.proofs.Constructions.FarWords.{AreFar, far_from_code, code_from_far}

-- there are as many words
pub length-punctured : (n : ℕ) (places words : List ℕ) → length (punctured n places words) ≡ length words
length-punctured n places words = length-map words (λ x. read_at n x (other_places n places))

-- at how many of these places two words of length n differ
abbrev pub differing : ℕ → ℕ → ℕ → List ℕ → ℕ
differing n x y ps = count_by (λ p. not (digit n x p == digit n y p)) ps

-- there are n - p other places
pub other_places-size : (n : ℕ) (places : List ℕ) → ArePlaces n places → length (other_places n places) ≡ n - length places
other_places-size n places are = let split = length-other_places n places are in omega arith

-- the words without the places have their length
pub punctured-lengths : (n : ℕ) (places words : List ℕ) → ArePlaces n places → All (λ x. x < 2 ^ (n - length places)) (punctured n places words)
punctured-lengths n places words are =
    let ps = other_places n places in
    All-map (λ z. z < 2 ^ (n - length places)) (λ x. read_at n x ps) words
    (λ k d l. subst (λ m. read_at n (get_or words k d) ps < 2 ^ m) (other_places-size n places are) (read_at-lt n (get_or words k d) ps))

-- their distance and the differences at the places are the distance of the words
pub distance-without : (n x y : ℕ) (places : List ℕ) → ArePlaces n places
    → distance (n - length places) (read_at n x (other_places n places)) (read_at n y (other_places n places)) + differing n x y places
    ≡ distance n x y
distance-without n x y places are =
    let ps = other_places n places in
    let split = sum_by-other_places (λ p. cond {A = ℕ} (not (digit n x p == digit n y p)) 1 0) n places are in
    let others : distance (n - length places) (read_at n x ps) (read_at n y ps) ≡ differing n x y ps =
    subst (λ m. distance m (read_at n x ps) (read_at n y ps) ≡ differing n x y ps) (other_places-size n places are)
    (distance-read_at n x y ps) in
    let all = distance-all n x y in
    omega arith

-- each place costs at most 1 of the distance
far_punctured : (n d x y : ℕ) (places : List ℕ) → ArePlaces n places → length places < d → AreFar n d x y
    → AreFar (n - length places) (d - length places) (read_at n x (other_places n places)) (read_at n y (other_places n places))
far_punctured n d x y places are few far =
    let split = distance-without n x y places are in
    let lost = count_by-le-length (λ p. not (digit n x p == digit n y p)) places in
    let apart = far.1 in
    (omega arith, omega arith)

-- fewer places than the distance leave all words different, and each costs at most 1 of the distance
pub IsCode-punctured : (n d : ℕ) (w : Option ℕ) (words places : List ℕ) → ArePlaces n places → length places < d → IsCode n d w words
    → IsCode (n - length places) (d - length places) None (punctured n places words)
IsCode-punctured n d w words places are few code =
    let ps = other_places n places in
    let R = AreFar (n - length places) (d - length places) in
    code_from_far (n - length places) (d - length places) None (punctured n places words)
    (punctured-lengths n places words are)
    (AllPairs-map R (λ x. read_at n x ps) words
    (AllPairs-weaker (AreFar n d) (λ x y. R (read_at n x ps) (read_at n y ps)) words
    (λ x y far. far_punctured n d x y places are few far) (far_from_code n d w words code)))
    tt
