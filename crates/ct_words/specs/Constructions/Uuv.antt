-- The (u | u + v) construction (MacWilliams and Sloane, chapter 2, section 9).
use Rattle.std.specs.Prelude.{ℕ, List, map, bit_xor}
use Rattle.std.specs.List.{flat_map}
use Rattle.ct_words.specs.Constructions.Joined.{followed_by}

-- u followed by u + v, for each word u of the first list and each word v of the second, all of length n
abbrev pub uuv_words : ℕ → List ℕ → List ℕ → List ℕ
uuv_words n us vs = flat_map (λ u. map (λ v. followed_by n u (bit_xor u v)) vs) us
