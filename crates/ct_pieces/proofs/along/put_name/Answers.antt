use Rattle.std.proofs.Common.{◌∙◌, ℕ, List, true, cond, ap}
use Rattle.std.specs.Str.{bytes_eq}
use Rattle.ct_files.specs.PartNames.{has_name}
use Rattle.ct_pieces.proofs.along.put_name.Goals as goal

pub returns : goal.returns
returns c = λ id.
    c.in_ok-insert.ensures.updates.0 (record c.name.result { now = id })
    ∙ ap (λ (name : List ℕ). cond (bytes_eq name id) true (has_name c.args.names.now id)) c.name.ensures
