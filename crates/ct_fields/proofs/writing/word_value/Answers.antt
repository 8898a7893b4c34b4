use Rattle.std.proofs.Common.{sym, subst}
use Rattle.std.specs.Prelude.{IsUtf8}
use Rattle.std.proofs.lemmas.Str.{IsUtf8-from_ascii}
use Rattle.ct_words.specs.Text.{word_text}
use Rattle.ct_fields.proofs.WordTexts.{IsAscii-word_text}
use Rattle.ct_fields.proofs.TextValues.{text_value}
use Rattle.ct_fields.proofs.writing.word_value.Goals as goal

pub unwrap-requires : goal.unwrap-requires
unwrap-requires c =
    c.from_utf8.ensures.succeeds (subst IsUtf8 (sym c.in_ok-text.ensures) (IsUtf8-from_ascii _ (IsAscii-word_text c.args.n c.args.word)))

pub returns : goal.returns
returns c =
    text_value c.from_utf8.result c.unwrap.result c.in_ok-text.text (word_text c.args.n c.args.word) c.from_utf8.ensures.ok c.unwrap.ensures
    c.in_ok-text.ensures
