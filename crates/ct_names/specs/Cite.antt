-- The texts by which documents say where their evidence comes from.
use Rattle.std.specs.Prelude.{ℕ, Bool, nat_le, ◌&&◌, if◌then◌else◌, List, length, Option, Some, None}
use Rattle.std.specs.List.{list_all}
use Rattle.ct_names.specs.declared.cite.TheConstants.{MAX_CITE}

-- what may stand in a cite: a space or another printable character of ASCII
abbrev pub is_cite_byte : ℕ → Bool
is_cite_byte b = nat_le 32 b && nat_le b 126

-- a cite: 1 to 200 bytes, each of which may stand in one
abbrev pub is_cite : List ℕ → Bool
is_cite text = nat_le 1 (length text) && nat_le (length text) MAX_CITE && list_all is_cite_byte text

-- the cite that the text is, where it is one
abbrev pub cite_of : List ℕ → Option (List ℕ)
cite_of text = if is_cite text then Some text else None
