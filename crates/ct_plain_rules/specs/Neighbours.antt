-- Entries without weight beside an entry.
use Rattle.std.specs.Prelude.{ℕ, ◌+◌, ◌-◌, ◌*◌, ◌/◌}
use Rattle.ct_words.specs.declared.entry.Entry.{Entry}
use Rattle.ct_words.specs.Entry.{unrestricted}

-- words with a digit less
abbrev pub shorter : Entry → Entry
shorter e = unrestricted (e.n - 1) e.d

-- words with a digit more
abbrev pub longer : Entry → Entry
longer e = unrestricted (e.n + 1) e.d

-- words one place nearer
abbrev pub nearer : Entry → Entry
nearer e = unrestricted e.n (e.d - 1)

-- words one place farther
abbrev pub farther : Entry → Entry
farther e = unrestricted e.n (e.d + 1)

-- words with a digit less, one place nearer
abbrev pub shorter_and_nearer : Entry → Entry
shorter_and_nearer e = unrestricted (e.n - 1) (e.d - 1)

-- words with a digit more, one place farther
abbrev pub longer_and_farther : Entry → Entry
longer_and_farther e = unrestricted (e.n + 1) (e.d + 1)

-- words of half the length, of a distance
abbrev pub half_as_long : Entry → ℕ → Entry
half_as_long e d = unrestricted (e.n / 2) d

-- words of twice the length, of a distance
abbrev pub twice_as_long : Entry → ℕ → Entry
twice_as_long e d = unrestricted (2 * e.n) d
