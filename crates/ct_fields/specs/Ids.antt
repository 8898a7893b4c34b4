-- The ids that values of a document are.
use Rattle.std.specs.Prelude.{ℕ, if◌then◌else◌, List, Option, Some, None}
use Rattle.std.specs.Option.{option_and_then}
use Rattle.toml.specs.Data.{Data, as_str}
use Rattle.ct_names.specs.Id.{is_id}

-- the id whose text the value is
abbrev pub id_in : Data → Option (List ℕ)
id_in d = option_and_then (λ text. if is_id text then Some text else None) (as_str d)
