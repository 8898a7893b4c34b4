use Rattle.std.proofs.Common.{◌≡◌, ℕ, Vec, String, Global, ap, ◌∙◌}
use Rattle.std.specs.String.{string_vec}
use Rattle.std.proofs.lemmas.Result.{IfOk-at_ok}
use Rattle.std.proofs.lemmas.Str.{IsUtf8-from_ascii}
use Rattle.toml.specs.Data.{string}
use Rattle.toml.proofs.Views.{view-String}
use Rattle.ct_build_files.proofs.written_build.text_value.Goals as goal

pub unwrap-requires : goal.unwrap-requires
unwrap-requires c = c.from_utf8.ensures.succeeds (IsUtf8-from_ascii _ c.requires)

pub returns : goal.returns
returns c =
    view-String c.unwrap.result
    ∙ ap (λ (v : Vec ℕ Global). string v.items)
    (IfOk-at_ok (λ (t : String Global). string_vec t ≡ c.args.text) c.unwrap.ensures c.from_utf8.ensures.ok)
