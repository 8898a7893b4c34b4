-- The entries of the table: A(n,d), and A(n,d,w) for constant weight (MacWilliams and Sloane; Brouwer, Shearer, Sloane and Smith 1990).
use Rattle.std.specs.Prelude.{ℕ, ◌%◌, Bool, true, false, nat_le, ◌==◌, ◌&&◌, Option, Some, None, IsTrue}
use Rattle.ct_words.specs.declared.limits.TheConstants.{MAX_N}
use Rattle.ct_words.specs.declared.entry.Entry.{Entry}

-- a weight is in the table if it is at most n and d is even: two words of one weight have even distance
abbrev pub weight_fits : Entry → Option ℕ → Bool
weight_fits e None = true
weight_fits e (Some w) = e.d % 2 == 0 && nat_le w e.n

-- whether the entry is in the table
abbrev pub is_entry : Entry → Bool
is_entry e = nat_le 1 e.n && nat_le e.n MAX_N && nat_le 3 e.d && nat_le e.d MAX_N && weight_fits e e.w

-- the entry is in the table
abbrev pub IsEntry : Entry → Type 0
IsEntry e = IsTrue (is_entry e)

-- the entry A(n,d), without weight
abbrev pub unrestricted : ℕ → ℕ → Entry
unrestricted n d = record { n = n; d = d; w = None }

-- the entry A(n,d,w), of constant weight w
abbrev pub constant_weight : ℕ → ℕ → ℕ → Entry
constant_weight n d w = record { n = n; d = d; w = Some w }

-- the same weight, or none
abbrev pub same_weight : Option ℕ → Option ℕ → Bool
same_weight None None = true
same_weight (Some v) (Some w) = v == w
same_weight v w = false

-- the same entry
abbrev pub same_entry : Entry → Entry → Bool
same_entry e f = e.n == f.n && e.d == f.d && same_weight e.w f.w
