use Rattle.std.proofs.Common.{refl}
use Rattle.ct_text.specs.Line.{words_of}
use Rattle.ct_text.specs.Number.{number_of}
use Rattle.ct_commands.specs.Form.{form_of}
use Rattle.ct_laws.proofs.commands.known_forms.Goals as goal

pub returns-clause-nothing : goal.returns-clause-nothing
unfolding form_of words_of number_of
returns-clause-nothing c = refl

pub returns-clause-submit : goal.returns-clause-submit
unfolding form_of words_of number_of
returns-clause-submit c = refl

pub returns-clause-submit_lines : goal.returns-clause-submit_lines
unfolding form_of words_of number_of
returns-clause-submit_lines c = refl

pub returns-clause-no_submit : goal.returns-clause-no_submit
unfolding form_of words_of number_of
returns-clause-no_submit c = refl

pub returns-clause-withdraw : goal.returns-clause-withdraw
unfolding form_of words_of number_of
returns-clause-withdraw c = refl

pub returns-clause-withdraw_all : goal.returns-clause-withdraw_all
unfolding form_of words_of number_of
returns-clause-withdraw_all c = refl

pub returns-clause-named_all : goal.returns-clause-named_all
unfolding form_of words_of number_of
returns-clause-named_all c = refl

pub returns-clause-all_of_all : goal.returns-clause-all_of_all
unfolding form_of words_of number_of
returns-clause-all_of_all c = refl

pub returns-clause-no_withdraw_all : goal.returns-clause-no_withdraw_all
unfolding form_of words_of number_of
returns-clause-no_withdraw_all c = refl

pub returns-clause-show : goal.returns-clause-show
unfolding form_of words_of number_of
returns-clause-show c = refl

pub returns-clause-show_weight : goal.returns-clause-show_weight
unfolding form_of words_of number_of
returns-clause-show_weight c = refl

pub returns-clause-table : goal.returns-clause-table
unfolding form_of words_of number_of
returns-clause-table c = refl

pub returns-clause-table_weight : goal.returns-clause-table_weight
unfolding form_of words_of number_of
returns-clause-table_weight c = refl

pub returns-clause-explain_lower : goal.returns-clause-explain_lower
unfolding form_of words_of number_of
returns-clause-explain_lower c = refl

pub returns-clause-explain_upper : goal.returns-clause-explain_upper
unfolding form_of words_of number_of
returns-clause-explain_upper c = refl

pub returns-clause-no_side : goal.returns-clause-no_side
unfolding form_of words_of number_of
returns-clause-no_side c = refl

pub returns-clause-list : goal.returns-clause-list
unfolding form_of words_of number_of
returns-clause-list c = refl

pub returns-clause-list_weight : goal.returns-clause-list_weight
unfolding form_of words_of number_of
returns-clause-list_weight c = refl

pub returns-clause-ledger : goal.returns-clause-ledger
unfolding form_of words_of number_of
returns-clause-ledger c = refl

pub returns-clause-dump : goal.returns-clause-dump
unfolding form_of words_of number_of
returns-clause-dump c = refl

pub returns-clause-too_few : goal.returns-clause-too_few
unfolding form_of words_of number_of
returns-clause-too_few c = refl

pub returns-clause-too_many : goal.returns-clause-too_many
unfolding form_of words_of number_of
returns-clause-too_many c = refl

pub returns-clause-no_name : goal.returns-clause-no_name
unfolding form_of words_of number_of
returns-clause-no_name c = refl
