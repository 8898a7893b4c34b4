-- The numbers of the Hamming scheme, by Krawtchouk, and of the Johnson scheme: the first eigenmatrices of Delsarte 1973.
use Rattle.std.specs.Prelude.{ℕ, suc, ◌-◌, ◌*◌, ℤ, pos, ◌*ℤ◌, List, length, get_or, Option, Some, None}
use Rattle.ct_words.specs.Counting.Alternating.{total_below, sign}
use Rattle.ct_words.specs.Counting.Binomials.{choose, factorial}
use Rattle.ct_words.specs.declared.entry.Entry.{Entry}

-- the Krawtchouk number K_k(i) at length n: the sum over j = 0, .., k of (-1)^j C(i,j) C(n - i,k - j) (Krawtchouk 1929; MacWilliams and Sloane, chapter 5, section 2)
unfoldable pub krawtchouk : ℕ → ℕ → ℕ → ℤ
krawtchouk n k i = total_below (λ j. sign j *ℤ pos (choose i j * choose (n - i) (k - j))) (suc k)

-- the Johnson number J_k(i) at length n and weight w, in this project's own normalisation: the sum over j = 0, .., k of (-1)^j C(i,j)^2 j! C(w - i,k - j) C(n - w - i,k - j) (k - j)!
unfoldable pub johnson : ℕ → ℕ → ℕ → ℕ → ℤ
johnson n w k i =
    total_below (λ j. sign j *ℤ pos (choose i j * choose i j * factorial j * choose (w - i) (k - j) * choose (n - w - i) (k - j) * factorial (k - j))) (suc k)

-- the number at k and i of the scheme of words of length n, and of weight w where one is given: the Krawtchouk number, and with a weight the Johnson number
abbrev pub number_at : ℕ → Option ℕ → ℕ → ℕ → ℤ
number_at n None k i = krawtchouk n k i
number_at n (Some w) k i = johnson n w k i

-- the numbers of the scheme of an entry
abbrev pub numbers_of : Entry → ℕ → ℕ → ℤ
numbers_of e = number_at e.n e.w

-- the number at place k, 0 past the end
abbrev pub multiplier : List ℤ → ℕ → ℤ
multiplier c k = get_or c k (pos 0)

-- f(i): the sum of c_k times the number of the scheme at k and i
abbrev pub combination : (ℕ → ℕ → ℤ) → List ℤ → ℕ → ℤ
combination number c i = total_below (λ k. multiplier c k *ℤ number k i) (length c)
