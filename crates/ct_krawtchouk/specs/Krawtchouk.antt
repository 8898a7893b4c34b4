-- The recurrence of the Krawtchouk numbers (MacWilliams and Sloane, chapter 5, section 7).
use Rattle.std.specs.Prelude.{ℕ, zero, suc, ℤ, pos}
use Rattle.ct_words.specs.Numbers.{krawtchouk}

-- the Krawtchouk number before that of k, K_(k-1)(i), and 0 at k = 0
abbrev pub krawtchouk_before : ℕ → ℕ → ℕ → ℤ
krawtchouk_before n zero i = pos 0
krawtchouk_before n (suc k) i = krawtchouk n k i
