-- The keys of the fields of evidence documents.
use Rattle.std.specs.Prelude.{ℕ, List, codes}
use Rattle.ct_fields.specs.declared.field.FieldName.{FieldName}
use Rattle.ct_fields.specs.declared.field.FieldName.TheVariants.{Format, N, D, W, Words, Basis, Representatives, D1, Classes, Op, Places, Digits, By, Size, Part, Other, Pairs, Even, M, C, Y, Cites}

-- the key of a field
abbrev pub field_text : FieldName → List ℕ
field_text Format = codes "format"
field_text N = codes "n"
field_text D = codes "d"
field_text W = codes "w"
field_text Words = codes "words"
field_text Basis = codes "basis"
field_text Representatives = codes "representatives"
field_text D1 = codes "d1"
field_text Classes = codes "classes"
field_text Op = codes "op"
field_text Places = codes "places"
field_text Digits = codes "digits"
field_text By = codes "by"
field_text Size = codes "size"
field_text Part = codes "part"
field_text Other = codes "other"
field_text Pairs = codes "pairs"
field_text Even = codes "even"
field_text M = codes "m"
field_text C = codes "c"
field_text Y = codes "y"
field_text Cites = codes "cites"
