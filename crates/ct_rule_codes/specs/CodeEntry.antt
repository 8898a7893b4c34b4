-- The entry of a code.
use Rattle.ct_words.specs.declared.entry.Entry.{Entry}
use Rattle.ct_words.specs.Code.{CodeValue}

-- its length, its distance, and its weight where it has one
abbrev pub entry_of_code : CodeValue → Entry
entry_of_code c = record { n = c.n; d = c.d; w = c.w }
