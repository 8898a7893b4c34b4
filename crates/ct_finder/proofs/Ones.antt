-- The Krawtchouk numbers of an index add up to 2^n at 0 and to 0 elsewhere: they are the coefficients of (1 - z)^i (1 + z)^(n - i), which is 2^n or 0 at z = 1.
use Rattle.std.proofs.Common.{◌≡◌, ℕ, zero, suc, ◌+◌, ◌-◌, ◌%◌, ◌^◌, ◌<◌, ◌≤◌, Bool, replicate, refl, ap, ◌∙◌, arith, leb-true}
use Rattle.std.specs.Prelude.{ℤ, pos, ◌*ℤ◌, ◌≤ℤ◌, ◌<ℤ◌, unsigned_abs, None, not, ◌==◌, ◌&&◌, ◌||◌, nat_le}
use Rattle.std.proofs.lemmas.Int.{ints}
use Rattle.std.proofs.lemmas.Bool.{and_parts}
use Rattle.std.proofs.lemmas.List.{length-replicate, get_or-replicate}
use Rattle.std.proofs.lemmas.List.Elements.{All-replicate}
use Rattle.ct_words.specs.Counting.Sums.{sum_below}
use Rattle.ct_words.specs.Counting.Alternating.{total_below}
use Rattle.ct_words.specs.Counting.Binomials.{choose}
use Rattle.ct_words.proofs.Counting.Binomials.{choose_past, row_total}
use Rattle.ct_words.proofs.Counting.Convolutions.{total_below-congruence}
use Rattle.ct_words.proofs.Counting.SignedBinomials.{signed_binomial, signed_binomial-first, signed_binomial-none, signed_binomial-plus, signed_binomial-minus, signed_binomial-le}
use Rattle.ct_words.specs.Entry.{unrestricted}
use Rattle.ct_words.proofs.EntryLemmas.{entry_limits}
use Rattle.ct_words.specs.Numbers.{krawtchouk, multiplier, combination}
use Rattle.ct_duals.specs.Dual.{IsDual}
use Rattle.ct_duals.specs.Check.{dual_fault}
use Rattle.ct_finder.specs.Run.{ones_dual, IsAsked}
use Rattle.ct_finder.proofs.RunDuals.{accepted-from}

-- the coefficients of (1 - z)^(i + 1) (1 + z)^m before the k-th add up to that of (1 - z)^i (1 + z)^m before it
pub total-minus : (i m k : ℕ) → total_below (signed_binomial (suc i) m) (suc k) ≡ signed_binomial i m k
total-minus i m zero =
    let first = signed_binomial-first (suc i) m in
    let same = signed_binomial-first i m in
    omega (arith, ints)
total-minus i m (suc k) =
    let rest = total-minus i m k in
    let last = signed_binomial-minus i m k in
    omega (arith, ints)

-- past the degree there are none
pub signed_binomial-past : (i m k : ℕ) → i + m < k → signed_binomial i m k ≡ pos 0
signed_binomial-past i m k past =
    let bound = signed_binomial-le i m k in
    let none = choose_past (i + m) k past in
    let zero_of : unsigned_abs (signed_binomial i m k) ≡ 0 = omega arith in
    omega (arith, ints)

-- without a factor 1 - z they are binomial coefficients
pub signed_binomial-plain : (m k : ℕ) → signed_binomial 0 m k ≡ pos (choose m k)
signed_binomial-plain m zero = signed_binomial-first 0 m
signed_binomial-plain zero (suc k) = signed_binomial-none k
signed_binomial-plain (suc m) (suc k) =
    let whole = signed_binomial-plus 0 m k in
    let first = signed_binomial-plain m k in
    let second = signed_binomial-plain m (suc k) in
    omega (arith, ints)

total-plain : (m k : ℕ) → total_below (signed_binomial 0 m) k ≡ pos (sum_below (choose m) k)
total-plain m zero = refl
total-plain m (suc k) =
    let rest = total-plain m k in
    let last = signed_binomial-plain m k in
    omega (arith, ints)

krawtchouk-signed : (n k i : ℕ) → krawtchouk n k i ≡ signed_binomial i (n - i) k
unfolding krawtchouk signed_binomial
krawtchouk-signed n k i = refl

-- the sum of the Krawtchouk numbers of an index
pub total-krawtchouk_zero : (n : ℕ) → total_below (λ k. krawtchouk n k 0) (suc n) ≡ pos (2 ^ n)
total-krawtchouk_zero n =
    total_below-congruence (λ k. krawtchouk n k 0) (signed_binomial 0 n) (suc n) (λ k l. krawtchouk-signed n k 0 ∙ ap (λ m. signed_binomial 0 m k) (whole n))
    ∙ total-plain n (suc n) ∙ ap pos (row_total n)
  where
    whole : (m : ℕ) → m - 0 ≡ m
    whole m = omega arith

pub total-krawtchouk : (n i : ℕ) → 1 ≤ i → i ≤ n → total_below (λ k. krawtchouk n k i) (suc n) ≡ pos 0
total-krawtchouk n zero low high = absurd (omega arith)
total-krawtchouk n (suc i) low high =
    total_below-congruence (λ k. krawtchouk n k (suc i)) (signed_binomial (suc i) (n - suc i)) (suc n) (λ k l. krawtchouk-signed n k (suc i))
    ∙ total-minus i (n - suc i) n
    ∙ signed_binomial-past i (n - suc i) n (omega arith)

-- f of n + 1 ones
pub combination-ones : (number : ℕ → ℕ → ℤ) (n i : ℕ) → combination number (replicate (suc n) (pos 1)) i ≡ total_below (λ k. number k i) (suc n)
combination-ones number n i =
    let ones = replicate (suc n) (pos 1) in
    let f : ℕ → ℤ = λ (k : ℕ). multiplier ones k *ℤ number k i in
    ap (total_below f) (length-replicate (suc n) (pos 1))
    ∙ total_below-congruence f (λ k. number k i) (suc n)
    (λ k l. let one = ap (λ z. z *ℤ number k i) (get_or-replicate (suc n) k (pos 1) (pos 0) l) in omega (arith, ints))

pub ones-form : (n d : ℕ) (even : Bool) → IsAsked (unrestricted n d) even → IsDual (ones_dual (unrestricted n d) even)
ones-form n d even asked =
    let count = length-replicate (suc n) (pos 1) in
    record {
      entry = asked.entry;
      even_distance = asked.even_distance;
      weighted = asked.weighted;
      some = omega arith;
      few = omega arith;
      multipliers = All-replicate (λ z. pos 0 ≤ℤ z) (suc n) (pos 1) (omega (arith, ints));
      ascending = λ i j d l m. absurd (omega arith);
      allowances = λ k d l. absurd (omega arith);
      signed = (All-replicate (λ z. z <ℤ pos (2 ^ 63)) (suc n) (pos 1) (omega (arith, ints)), (λ k d l. absurd (omega arith)));
    }

pub ones-accepted : (n d : ℕ) (even : Bool) → IsAsked (unrestricted n d) even → dual_fault (krawtchouk n) (ones_dual (unrestricted n d) even) ≡ None
ones-accepted n d even asked =
    let limits = entry_limits (unrestricted n d) asked.entry in
    let far = limits.distance_from in
    accepted-from (krawtchouk n) (ones_dual (unrestricted n d) even) refl (omega (arith, ints))
    (λ i passes.
    let parts = and_parts (nat_le d i && nat_le i n) (not even || i % 2 == 0) passes in
    let ends = and_parts (nat_le d i) (nat_le i n) parts.0 in
    let low = leb-true d i ends.0 in
    let value = combination-ones (krawtchouk n) n i ∙ total-krawtchouk n i (omega arith) (leb-true i n ends.1) in
    omega (arith, ints))
