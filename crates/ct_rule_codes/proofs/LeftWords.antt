-- The words that are left at a place: that there are enough, and that their number fits.
use Rattle.std.proofs.Common.{◌≡◌, ℕ, ◌*◌, ◌^◌, ◌<◌, ◌≤◌, List, [], ◌∷◌, length, All, Some, IfSome, subst, arith, pow_mono}
use Rattle.std.specs.Int.{div_ceil}
use Rattle.std.proofs.Math.Nat.{mul-le-mul}
use Rattle.std.proofs.lemmas.Grind.{div_ceil_times}
use Rattle.ct_words.specs.declared.limits.TheConstants.{MAX_N}
use Rattle.ct_words.specs.Word.{weight}
use Rattle.ct_words.specs.Code.{CodeValue, IsSoundCode}
use Rattle.ct_words.proofs.CheckLemmas.{code_size-le}
use Rattle.ct_words.specs.Constructions.Shortened.{shortened}
use Rattle.ct_words.proofs.Constructions.ShortenedCodes.{halves-shortened}

-- a number up to the length times the number of words fits 64 bits
pub few_digits : (c : CodeValue) (k : ℕ) → IsSoundCode c → k ≤ c.n → k * length c.words < 2 ^ 64
few_digits c k sound few =
    let long = sound.length_in_range.1 in
    let size = code_size-le c.n c.d c.w c.words sound.code in
    let all = pow_mono {i = c.n} {j = MAX_N} (omega arith) in
    let small : k ≤ MAX_N = omega arith in
    let fewer : length c.words ≤ 2 ^ MAX_N = omega arith in
    let product = mul-le-mul small fewer in
    omega arith

-- the words of a code of one weight have it
pub each_weight : (c : CodeValue) (w : ℕ) → IsSoundCode c → c.w ≡ Some w → All (λ x. weight c.n x ≡ w) c.words
each_weight c w sound is =
    subst (λ o. IfSome o (λ k. All (λ x. weight c.n x ≡ k) c.words)) is sound.code.weights

-- where fewer than half of the words, rounded up, have a zero at the first place, so many have a one there
pub other_half : (n : ℕ) (words : List ℕ) → length (shortened n (0 ∷ []) (0 ∷ []) words) < div_ceil (length words) 2
    → div_ceil (length words) 2 ≤ length (shortened n (0 ∷ []) (1 ∷ []) words)
other_half n words fewer =
    let halves = halves-shortened n 0 words in
    let twice = div_ceil_times (length words) 2 (omega arith) in
    let most = twice.1 in
    omega arith
