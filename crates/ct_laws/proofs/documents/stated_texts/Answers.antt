use Rattle.ct_words.specs.Text.{word_of, word_text}
use Rattle.ct_build_files.specs.BuildFields.{digits_of}
use Rattle.ct_build_files.specs.WrittenBuild.{digits_text}
use Rattle.ct_word_files.proofs.WordsAnswers.{words_answers}
use Rattle.ct_word_files.proofs.CosetsAnswers.{cosets_answers}
use Rattle.ct_partition_files.proofs.PartitionAnswers.{partition_answers}
use Rattle.ct_build_files.proofs.BuildAnswers.{text_answers, digits-found, word-found}
use Rattle.ct_laws.proofs.documents.stated_texts.Goals as goal

pub returns : goal.returns
returns c = record {
  words = words_answers;
  cosets = cosets_answers;
  partition = partition_answers;
  word = λ e make text part other answer. text_answers (word_text e.n) _ (word_of e.n) (word-found e.n) text make e part other answer;
  digits = λ e count make text part other answer. text_answers digits_text _ (digits_of count) (digits-found count) text make e part other answer;
}
