-- How many bytes the text of a table has at most, whose values are simple.
use Rattle.std.specs.Prelude.{ℕ, ◌+◌, ◌<◌, pos, List, length, IsTrue, ⊤}
use Rattle.std.specs.List.{list_all}
use Rattle.toml_parser.specs.Lexical.{is_bare}
use Rattle.toml.specs.Data.{Data, string, integer, boolean, array, Items, no_items, item, Members, no_members, member}

-- a text that a document writes as it is: letters, digits, dashes and underscores
abbrev pub IsBare : List ℕ → Type 0
IsBare text = IsTrue (list_all is_bare text)

-- a value is simple: a bare text, a whole number that is not negative, a truth value, or a list of such
abbrev mutual
  pub IsSimple : Data → Type 0
  IsSimple (string s) = IsBare s
  IsSimple (integer (pos k)) = ⊤
  IsSimple (boolean b) = ⊤
  IsSimple (array ds) = AreSimple ds
  IsSimple _ = ⊥

  pub AreSimple : Items → Type 0
  AreSimple no_items = ⊤
  AreSimple (item d ds) = IsSimple d × AreSimple ds

-- so are the values of a table, and its keys are bare
abbrev pub IsSimpleTable : Members → Type 0
IsSimpleTable no_members = ⊤
IsSimpleTable (member k d ms) = (0 < length k) × IsBare k × IsSimple d × IsSimpleTable ms

-- the bytes of a simple value, at most: a whole number has 20
abbrev mutual
  pub room : Data → ℕ
  room (string s) = 2 + length s
  room (integer z) = 20
  room (boolean b) = 5
  room (array ds) = 2 + items_room ds
  room _ = 0

  pub items_room : Items → ℕ
  items_room no_items = 0
  items_room (item d ds) = 2 + room d + items_room ds

-- those of a table: a line for each key
abbrev pub table_room : Members → ℕ
table_room no_members = 0
table_room (member k d ms) = length k + 4 + room d + table_room ms
