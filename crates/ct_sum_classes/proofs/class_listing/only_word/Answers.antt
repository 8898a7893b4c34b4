use Rattle.std.proofs.Common.{◌≡◌, ◌≢◌, ℕ, zero, suc, ◌+◌, ◌-◌, ◌*◌, ◌%◌, ◌^◌, ◌<◌, ◌≤◌, [], ◌∷◌, refl, ap, ap₂, sym, ◌∙◌, arith, pow-suc, pow_pos}
use Rattle.std.proofs.Math.Nat.{pow-le-pow_right, mod-eq_of_lt}
use Rattle.ct_words.specs.Counting.Binomials.{choose}
use Rattle.ct_words.specs.declared.limits.TheConstants.{MAX_N}
use Rattle.ct_sum_classes.specs.Inside.Listing.{words_of_sum}
use Rattle.ct_sum_classes.proofs.ListingLemmas.{words_of_sum-zero, words_of_sum-one}
use Rattle.ct_sum_classes.proofs.class_listing.only_word.Goals as goal

pub returns-then-k-eq0-clause-only : goal.returns-then-k-eq0-clause-only
returns-then-k-eq0-clause-only c = λ n some few.
    let nothing : c.args.excess ≡ 0 = let most = c.requires.excess in let none = ap (λ k. k * (c.args.m - k)) c.if-k-eq0.true in omega arith in
    ap₂ (λ k e. words_of_sum n c.args.m k (choose k 2 + e)) c.if-k-eq0.true nothing ∙ words_of_sum-zero n c.args.m some

-- the excess is a place
place : (m k e : ℕ) → k ≢ 0 → k ≤ 1 → k ≤ m → e ≤ k * (m - k) → (k ≡ 1) × (e < m)
place m zero e some few within most = absurd (some refl)
place m (suc zero) e some few within most = (refl, omega arith)
place m (suc (suc k)) e some few within most = absurd (omega arith)

-- and the word has its one there, within its length and within those of the machine
one_at : (m e : ℕ) → m ≤ MAX_N → e < m → (1 * 2 ^ (m - 1 - e) % 2 ^ 32 ≡ 2 ^ (m - 1 - e)) × (2 ^ (m - 1 - e) < 2 ^ m)
one_at m e few within =
    let longest : 2 ^ m ≤ 2 ^ MAX_N = pow-le-pow_right (omega arith) few in
    let more : 2 ^ suc (m - 1 - e) ≤ 2 ^ m = pow-le-pow_right (omega arith) (omega arith) in
    let twice = pow-suc 2 (m - 1 - e) in
    let some = pow_pos (m - 1 - e) in
    (mod-eq_of_lt (omega arith) ∙ omega arith, omega arith)

pub returns-else-k-eq0-clause-length : goal.returns-else-k-eq0-clause-length
returns-else-k-eq0-clause-length c =
    let at = place c.args.m c.args.k c.args.excess c.if-k-eq0.false c.requires.weight.0 c.requires.weight.1 c.requires.excess in
    let one = one_at c.args.m c.args.excess c.requires.length at.1 in
    let same = one.0 in
    let below = one.1 in
    omega arith

pub returns-else-k-eq0-clause-only : goal.returns-else-k-eq0-clause-only
returns-else-k-eq0-clause-only c = λ n some few.
    let at = place c.args.m c.args.k c.args.excess c.if-k-eq0.false c.requires.weight.0 c.requires.weight.1 c.requires.excess in
    let one = one_at c.args.m c.args.excess c.requires.length at.1 in
    let least : choose 1 2 + c.args.excess ≡ c.args.excess = omega arith in
    ap (λ k. words_of_sum n c.args.m k (choose k 2 + c.args.excess)) at.0 ∙ ap (words_of_sum n c.args.m 1) least
    ∙ words_of_sum-one n c.args.m c.args.excess few at.1 ∙ ap (λ x. x ∷ []) (sym one.0)
