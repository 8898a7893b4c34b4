use Rattle.std.proofs.Common.{ap, ◌∙◌}
use Rattle.std.proofs.lemmas.Result.{on_ok_weaker}
use Rattle.toml.specs.Data.{Data}
use Rattle.toml.specs.View.{table_view}
use Rattle.ct_fields.specs.Written.{put}
use Rattle.ct_fields.proofs.writing.put_words.Goals as goal

pub word_values-requires-clause-words : goal.word_values-requires-clause-words
word_values-requires-clause-words c = c.requires.words

pub returns : goal.returns
returns c =
    on_ok_weaker c.put.result (λ done. done ∙ ap (λ (d : Data). put c.args.name d (table_view c.args.table.now)) c.in_ok-value.ensures) c.put.ensures
