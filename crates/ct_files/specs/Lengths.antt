-- How many bytes the document of an evidence has at most, by its kind.
use Rattle.std.specs.Prelude.{ℕ, ◌+◌, ◌*◌, length}
use Rattle.ct_classes.specs.Partition.{words_of_classes}
use Rattle.ct_kind.specs.declared.evidence.Evidence.{Evidence}
use Rattle.ct_kind.specs.declared.evidence.Evidence.TheVariants.{Words, Cosets, Partition, Build, Product, Dual, JohnsonDual, Odd, JohnsonLocal}
use Rattle.ct_fields.specs.Written.{cites_bytes}
use Rattle.ct_files.specs.Document.{DocumentValue}

-- so many bytes at most are written for an evidence that can be read: a word of length n takes n + 4 of them, an id at most 36, a number at
-- most 22
abbrev pub most_bytes : Evidence → ℕ
most_bytes (Words e words) = 128 + (e.n + 4) * length words
most_bytes (Cosets e basis representatives) = 128 + (e.n + 4) * (length basis + length representatives)
most_bytes (Partition e between classes) = 160 + 4 * length classes + (e.n + 4) * length (words_of_classes classes)
most_bytes (Build e step part other) = 1024
most_bytes (Product e pairs) = 128 + 76 * length pairs
most_bytes (Dual d) = 128 + 22 * length d.c + 48 * length d.y
most_bytes (JohnsonDual d) = 128 + 22 * length d.c
most_bytes (Odd d m) = 128 + 22 * length d.c + 48 * length d.y
most_bytes (JohnsonLocal d) = 128 + 22 * length d.c + 48 * length d.y

-- so many for a document: those of its evidence, and what its cites add
abbrev pub most_document_bytes : DocumentValue → ℕ
most_document_bytes d = most_bytes d.evidence + cites_bytes d.cites
