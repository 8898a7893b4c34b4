use Rattle.std.proofs.Common.{sym, subst, ◌∙◌}
use Rattle.std.specs.Str.{IsAscii}
use Rattle.std.proofs.lemmas.Str.{IsUtf8-from_ascii}
use Rattle.ct_fields.proofs.CiteTexts.{IsAscii-cite}
use Rattle.ct_fields.proofs.TextValues.{text_value}
use Rattle.ct_fields.proofs.cites.cite_value.Goals as goal

pub unwrap-requires : goal.unwrap-requires
unwrap-requires c =
    let ascii = IsAscii-cite c.args.cite.now c.text.ensures.cite in
    c.from_utf8.ensures.succeeds (IsUtf8-from_ascii _ (subst IsAscii (sym (c.in_ok-text.ensures.items ∙ c.text.ensures.text)) ascii))

pub returns-clause-value : goal.returns-clause-value
returns-clause-value c =
    text_value c.from_utf8.result c.unwrap.result c.in_ok-text.text c.args.cite.now c.from_utf8.ensures.ok c.unwrap.ensures
    (c.in_ok-text.ensures.items ∙ c.text.ensures.text)
