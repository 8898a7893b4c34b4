use Rattle.std.proofs.Common.{refl}
use Rattle.std.specs.Fmt.{digits}
use Rattle.ct_replies.specs.Text.{reply_text}
use Rattle.ct_laws.proofs.laws.known_texts.Goals as goal

pub returns-clause-bounds : goal.returns-clause-bounds
unfolding reply_text digits
returns-clause-bounds c = refl

pub returns-clause-value : goal.returns-clause-value
unfolding reply_text digits
returns-clause-value c = refl

pub returns-clause-table : goal.returns-clause-table
unfolding reply_text digits
returns-clause-table c = refl

pub returns-clause-withdrawn : goal.returns-clause-withdrawn
unfolding reply_text digits
returns-clause-withdrawn c = refl

pub returns-clause-withdrawn_all : goal.returns-clause-withdrawn_all
unfolding reply_text digits
returns-clause-withdrawn_all c = refl

pub returns-clause-cites : goal.returns-clause-cites
unfolding digits
returns-clause-cites c = refl

pub returns-clause-no_cites : goal.returns-clause-no_cites
returns-clause-no_cites c = refl

pub returns-clause-cut : goal.returns-clause-cut
unfolding reply_text digits
returns-clause-cut c = refl

pub returns-clause-command : goal.returns-clause-command
unfolding reply_text digits
returns-clause-command c = refl

pub returns-clause-entry : goal.returns-clause-entry
unfolding reply_text digits
returns-clause-entry c = refl

pub returns-clause-taken : goal.returns-clause-taken
unfolding reply_text digits
returns-clause-taken c = refl

pub returns-clause-full_pieces : goal.returns-clause-full_pieces
unfolding reply_text digits
returns-clause-full_pieces c = refl

pub returns-clause-full_words : goal.returns-clause-full_words
unfolding reply_text digits
returns-clause-full_words c = refl

pub returns-clause-bytes : goal.returns-clause-bytes
unfolding reply_text digits
returns-clause-bytes c = refl

pub returns-clause-toml : goal.returns-clause-toml
unfolding reply_text digits
returns-clause-toml c = refl

pub returns-clause-kind : goal.returns-clause-kind
unfolding reply_text digits
returns-clause-kind c = refl

pub returns-clause-unknown : goal.returns-clause-unknown
unfolding reply_text digits
returns-clause-unknown c = refl

pub returns-clause-digits : goal.returns-clause-digits
unfolding reply_text digits
returns-clause-digits c = refl

pub returns-clause-size : goal.returns-clause-size
unfolding reply_text digits
returns-clause-size c = refl

pub returns-clause-weight : goal.returns-clause-weight
unfolding reply_text digits
returns-clause-weight c = refl

pub returns-clause-repeated : goal.returns-clause-repeated
unfolding reply_text digits
returns-clause-repeated c = refl

pub returns-clause-close : goal.returns-clause-close
unfolding reply_text digits
returns-clause-close c = refl

pub returns-clause-nosuch : goal.returns-clause-nosuch
unfolding reply_text digits
returns-clause-nosuch c = refl

pub returns-clause-inuse : goal.returns-clause-inuse
unfolding reply_text digits
returns-clause-inuse c = refl

pub returns-clause-work : goal.returns-clause-work
unfolding reply_text digits
returns-clause-work c = refl

pub returns-clause-field : goal.returns-clause-field
unfolding reply_text digits
returns-clause-field c = refl

pub returns-clause-longest_field : goal.returns-clause-longest_field
unfolding reply_text digits
returns-clause-longest_field c = refl

pub returns-clause-no_part : goal.returns-clause-no_part
unfolding reply_text digits
returns-clause-no_part c = refl

pub returns-clause-wrong_part : goal.returns-clause-wrong_part
unfolding reply_text digits
returns-clause-wrong_part c = refl

pub returns-clause-short : goal.returns-clause-short
unfolding reply_text digits
returns-clause-short c = refl

pub returns-clause-built_size : goal.returns-clause-built_size
unfolding reply_text digits
returns-clause-built_size c = refl

pub returns-clause-few : goal.returns-clause-few
unfolding reply_text digits
returns-clause-few c = refl

pub returns-clause-empty : goal.returns-clause-empty
unfolding reply_text digits
returns-clause-empty c = refl

pub returns-clause-code_size : goal.returns-clause-code_size
unfolding reply_text digits
returns-clause-code_size c = refl

pub returns-clause-partition_size : goal.returns-clause-partition_size
unfolding reply_text digits
returns-clause-partition_size c = refl

pub returns-clause-partition_weight : goal.returns-clause-partition_weight
unfolding reply_text digits
returns-clause-partition_weight c = refl

pub returns-clause-partition_repeated : goal.returns-clause-partition_repeated
unfolding reply_text digits
returns-clause-partition_repeated c = refl

pub returns-clause-partition_close : goal.returns-clause-partition_close
unfolding reply_text digits
returns-clause-partition_close c = refl

pub returns-clause-lead : goal.returns-clause-lead
unfolding reply_text digits
returns-clause-lead c = refl

pub returns-clause-above : goal.returns-clause-above
unfolding reply_text digits
returns-clause-above c = refl
