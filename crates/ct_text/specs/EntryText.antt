-- The text of an entry, in a reply and as commands name it.
use Rattle.std.specs.Prelude.{ℕ, List, [], ◌++◌, Option, Some, None, codes}
use Rattle.std.specs.Fmt.{decimal}
use Rattle.ct_words.specs.declared.entry.Entry.{Entry}
use Rattle.ct_text.specs.Number.{spaced}

-- a comma and the weight, where there is one
abbrev pub weight_text : Option ℕ → List ℕ
weight_text None = []
weight_text (Some w) = codes "," ++ decimal w

-- an entry: A(N,D) or A(N,D,W)
abbrev pub entry_text : Entry → List ℕ
entry_text e = codes "A(" ++ decimal e.n ++ codes "," ++ decimal e.d ++ weight_text e.w ++ codes ")"

-- a space and the weight, where there is one
abbrev pub weight_word : Option ℕ → List ℕ
weight_word None = []
weight_word (Some w) = spaced w

-- an entry as commands name it: N D, or N D W
abbrev pub entry_words : Entry → List ℕ
entry_words e = decimal e.n ++ spaced e.d ++ weight_word e.w
