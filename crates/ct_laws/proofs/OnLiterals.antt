-- What an answer unfolds to compute what the bytes of a literal read as.
use Rattle.std.specs.Prelude.{⊤}
use Rattle.std.specs.Str.{chars, is_utf8}
use Rattle.toml.proofs.OnLiterals.{toml_on_literals}
use Rattle.ct_words.specs.Text.{word_of}
use Rattle.ct_fields.specs.Document.{table_of}
use Rattle.ct_fields.specs.LastFields.{last_fields}
use Rattle.ct_build_files.specs.Operation.{operation_named}
use Rattle.ct_build_files.specs.BuildFields.{digits_of}
use Rattle.ct_files.specs.Evidence.{evidence_of, read_without_limit, read_of}
use Rattle.ct_files.specs.Document.{document_of, document_without_limit, document_read_of}

unfoldable pub evidence_on_literals : ⊤
unfolding toml_on_literals chars is_utf8 word_of table_of last_fields operation_named digits_of evidence_of read_without_limit read_of document_of document_without_limit document_read_of
evidence_on_literals = tt
