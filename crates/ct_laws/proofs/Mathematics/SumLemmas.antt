-- The sums without carry that constructions make are sums digit by digit.
use Rattle.std.proofs.Common.{◌≡◌, ℕ, ◌+◌, ◌*◌, ◌^◌, ◌<◌, List, length, get_or, map, min, take, bit_xor, All, sym, ap, subst, ◌∙◌, arith, length-take}
use Rattle.std.proofs.Math.Nat.{min-eq_left}
use Rattle.std.proofs.lemmas.List.{length-map, get_or-map}
use Rattle.std.proofs.lemmas.List.Concat.{get_or-flat_map}
use Rattle.ct_words.specs.Word.{IsSum}
use Rattle.ct_words.proofs.WordLemmas.{IsSum-bit_xor}
use Rattle.ct_words.specs.Constructions.Joined.{followed_by}
use Rattle.ct_words.specs.Constructions.Translation.{translated}
use Rattle.ct_words.specs.Constructions.Uuv.{uuv_words}
use Rattle.ct_words.proofs.Constructions.UuvCodes.{length-uuv_words}

pub IsSum-translated : (n by : ℕ) (words : List ℕ) (k : ℕ) → by < 2 ^ n → All (λ x. x < 2 ^ n) words → k < length words
    → IsSum n (get_or words k 0) by (get_or (translated by words) k 0)
IsSum-translated n by words k below each within =
    subst (IsSum n (get_or words k 0) by) (sym (get_or-map (λ x. bit_xor x by) words k 0 0 within))
    (IsSum-bit_xor n (get_or words k 0) by (each k 0 within) below)

pub IsSum-uuv : (n : ℕ) (us vs : List ℕ) (i j : ℕ) → All (λ u. u < 2 ^ n) us → All (λ v. v < 2 ^ n) vs → i < length us → j < length vs
    → (z : ℕ) × IsSum n (get_or us i 0) (get_or vs j 0) z
    × (get_or (uuv_words n us vs) (i * length vs + j) 0 ≡ followed_by n (get_or us i 0) z)
IsSum-uuv n us vs i j first second here there =
    let block : ℕ → List ℕ = λ u. map (λ v. followed_by n u (bit_xor u v)) vs in
    let u = get_or us i 0 in
    let before : length (uuv_words n (take i us) vs) ≡ i * length vs =
    length-uuv_words n (take i us) vs ∙ ap (λ m. m * length vs) (length-take i us ∙ few) in
    let long = length-map vs (λ v. followed_by n u (bit_xor u v)) in (
      bit_xor u (get_or vs j 0),
      IsSum-bit_xor n u (get_or vs j 0) (first i 0 here) (second j 0 there),
      ap (λ m. get_or (uuv_words n us vs) (m + j) 0) (sym before)
          ∙ get_or-flat_map block us i j 0 0 here (omega arith)
          ∙ get_or-map (λ v. followed_by n u (bit_xor u v)) vs j 0 0 there,
    )
  where
    few : min i (length us) ≡ i
    few = min-eq_left (omega arith)
