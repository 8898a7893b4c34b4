-- The table that an evidence document is.
use Rattle.std.specs.Prelude.{ℕ, if◌then◌else◌, List, Option, None, option_map, Result, ok_or}
use Rattle.std.specs.Str.{is_utf8}
use Rattle.toml.specs.Data.{Data, table}
use Rattle.toml.specs.Parse.{parse_document}
use Rattle.ct_fields.specs.declared.fault.DocumentFault.{DocumentFault}
use Rattle.ct_fields.specs.declared.fault.DocumentFault.TheVariants.{NotToml}

-- the table that bytes in UTF-8 write by the grammar of TOML 1.1
unfoldable pub table_of : List ℕ → Option Data
table_of bytes = if is_utf8 bytes then option_map table (parse_document bytes) else None

-- the table of a document; the fault of bytes that write none
abbrev pub read_table : List ℕ → Result Data DocumentFault
read_table bytes = ok_or (table_of bytes) NotToml
