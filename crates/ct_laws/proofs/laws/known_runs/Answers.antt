use Rattle.std.proofs.Common.{◌<◌, refl, [], ◌∷◌, codes}
use Rattle.std.proofs.lemmas.List.Elements.{All-nil}
use Rattle.std.specs.Fmt.{digits}
use Rattle.ct_words.specs.Text.{word_text}
use Rattle.ct_text.specs.Line.{words_of}
use Rattle.ct_text.specs.Number.{number_of}
use Rattle.ct_words.specs.declared.claim.Side.TheVariants.{Lower, Upper}
use Rattle.ct_words.specs.Entry.{unrestricted, constant_weight}
use Rattle.ct_words.proofs.Counting.Binomials.{choose_all}
use Rattle.ct_commands.specs.Form.{form_of}
use Rattle.ct_piece.specs.Dump.{dump_text}
use Rattle.ct_piece.specs.Withdrawal.{withdrawn, withdrawn_all}
use Rattle.ct_piece.specs.declared.fault.WithdrawFault.TheVariants as withdraw
use Rattle.ct_rules.specs.declared.rule.Rule.TheVariants.{M1, V0, V1}
use Rattle.ct_rules.specs.Rule.{row_of}
use Rattle.ct_explain.specs.Explained.{explanation_text}
use Rattle.ct_words.specs.TableEntries.{column}
use Rattle.ct_replies.specs.Text.{reply_text, ledger_text, listed_text}
use Rattle.ct_replies.specs.declared.reply.Reply.TheVariants.{Shown, Table, Lines, Refused}
use Rattle.ct_replies.specs.declared.reply.Refusal.TheVariants as refusal
use Rattle.ct_replies.specs.declared.reply.Bounds.{Bounds}
use Rattle.ct_laws.proofs.EqualBounds.{four_at_five, one_word_alone}
use Rattle.ct_laws.proofs.WordAlone.{word_alone, word_alone_listed}
use Rattle.ct_laws.proofs.OneLine.{lone, lone_explains}
use Rattle.ct_session.proofs.Asked.{answers_all}
use Rattle.ct_laws.proofs.laws.known_runs.Goals as goal

pub returns-clause-empty : goal.returns-clause-empty
returns-clause-empty c = answers_all _ _ _ _ (record { replies = []; are = tt; texts = refl; mark = refl })

pub returns-clause-shown : goal.returns-clause-shown
unfolding form_of words_of number_of reply_text digits
returns-clause-shown c =
    let four : Bounds = record { entry = unrestricted 5 3; lower = 4; upper = 4 } in
    answers_all _ _ _ _ (record { replies = Shown four ∷ []; are = (record { bounds = four; of_entry = four_at_five; shown = refl }, tt); texts = refl; mark = refl })

pub returns-clause-shown_weight : goal.returns-clause-shown_weight
unfolding form_of words_of number_of reply_text digits
returns-clause-shown_weight c =
    let one : Bounds = record { entry = constant_weight 4 4 0; lower = 1; upper = 1 } in
    answers_all _ _ _ _ (record { replies = Shown one ∷ []; are = (record { bounds = one; of_entry = one_word_alone 4 4 0 refl refl; shown = refl }, tt); texts = refl; mark = refl })

pub returns-clause-shown_column : goal.returns-clause-shown_column
unfolding form_of words_of number_of reply_text digits column
returns-clause-shown_column c =
    let one : Bounds = record { entry = constant_weight 30 4 30; lower = 1; upper = 1 } in
    answers_all _ _ _ _ (record {
      replies = Table (one ∷ []) ∷ [];
      are = (record { bounds = one ∷ []; of_entries = (one_word_alone 30 4 30 refl (choose_all 30), tt); shown = refl }, tt);
      texts = refl;
      mark = refl;
    })

pub returns-clause-explained : goal.returns-clause-explained
unfolding form_of words_of number_of reply_text digits row_of
returns-clause-explained c =
    let e = constant_weight 4 4 0 in
    let why = lone_explains Lower e 1 M1 refl (one_word_alone 4 4 0 refl refl).lower.best
    (record { earlier = All-nil (λ q. q < 0); side = refl; premises = refl; value = refl }) in
    answers_all _ _ _ _ (record { replies = Lines (explanation_text [] (lone Lower e 1 M1)) ∷ []; are = (record { derivation = lone Lower e 1 M1; explains = why; shown = refl }, tt); texts = refl; mark = refl })

pub returns-clause-explained_so : goal.returns-clause-explained_so
unfolding form_of words_of number_of reply_text digits row_of
returns-clause-explained_so c =
    let e = constant_weight 4 4 0 in
    let why = lone_explains Upper e 1 V0 refl (one_word_alone 4 4 0 refl refl).upper.best
    (record { earlier = All-nil (λ q. q < 0); side = refl; premises = refl; value = refl }) in
    answers_all _ _ _ _ (record { replies = Lines (explanation_text [] (lone Upper e 1 V0)) ∷ []; are = (record { derivation = lone Upper e 1 V0; explains = why; shown = refl }, tt); texts = refl; mark = refl })

pub returns-clause-explained_otherwise : goal.returns-clause-explained_otherwise
unfolding form_of words_of number_of reply_text digits row_of
returns-clause-explained_otherwise c =
    let e = constant_weight 4 4 0 in
    let why = lone_explains Upper e 1 V1 refl (one_word_alone 4 4 0 refl refl).upper.best
    (record { earlier = All-nil (λ q. q < 0); side = refl; premises = refl; value = refl }) in
    answers_all _ _ _ _ (record { replies = Lines (explanation_text [] (lone Upper e 1 V1)) ∷ []; are = (record { derivation = lone Upper e 1 V1; explains = why; shown = refl }, tt); texts = refl; mark = refl })

pub returns-clause-listed : goal.returns-clause-listed
unfolding form_of words_of number_of reply_text digits word_text
returns-clause-listed c =
    let listed = word_alone_listed in
    answers_all _ _ _ _ (record { replies = Lines (listed_text word_alone) ∷ []; are = (record { code = word_alone; listed = listed; shown = refl }, tt); texts = refl; mark = refl })

pub returns-clause-not_listed : goal.returns-clause-not_listed
unfolding form_of words_of number_of reply_text digits withdrawn
returns-clause-not_listed c = answers_all _ _ _ _ (record { replies = Refused refusal.NoEntry ∷ []; are = (refl, tt); texts = refl; mark = refl })

pub returns-clause-no_listing : goal.returns-clause-no_listing
unfolding form_of words_of number_of reply_text digits withdrawn
returns-clause-no_listing c = answers_all _ _ _ _ (record { replies = Refused refusal.NoCommand ∷ []; are = (refl, tt); texts = refl; mark = refl })

pub returns-clause-not_explained : goal.returns-clause-not_explained
unfolding form_of words_of number_of reply_text digits withdrawn
returns-clause-not_explained c = answers_all _ _ _ _ (record { replies = Refused refusal.NoEntry ∷ []; are = (refl, tt); texts = refl; mark = refl })

pub returns-clause-no_side : goal.returns-clause-no_side
unfolding form_of words_of number_of reply_text digits withdrawn
returns-clause-no_side c = answers_all _ _ _ _ (record { replies = Refused refusal.NoCommand ∷ []; are = (refl, tt); texts = refl; mark = refl })

pub returns-clause-outside : goal.returns-clause-outside
unfolding form_of words_of number_of reply_text digits withdrawn
returns-clause-outside c = answers_all _ _ _ _ (record { replies = Refused refusal.NoEntry ∷ []; are = (refl, tt); texts = refl; mark = refl })

pub returns-clause-odd : goal.returns-clause-odd
unfolding form_of words_of number_of reply_text digits withdrawn
returns-clause-odd c = answers_all _ _ _ _ (record { replies = Refused refusal.NoEntry ∷ []; are = (refl, tt); texts = refl; mark = refl })

pub returns-clause-heavy : goal.returns-clause-heavy
unfolding form_of words_of number_of reply_text digits withdrawn
returns-clause-heavy c = answers_all _ _ _ _ (record { replies = Refused refusal.NoEntry ∷ []; are = (refl, tt); texts = refl; mark = refl })

pub returns-clause-no_table : goal.returns-clause-no_table
unfolding form_of words_of number_of reply_text digits withdrawn column
returns-clause-no_table c = answers_all _ _ _ _ (record { replies = Refused refusal.NoEntry ∷ []; are = (refl, tt); texts = refl; mark = refl })

pub returns-clause-odd_table : goal.returns-clause-odd_table
unfolding form_of words_of number_of reply_text digits withdrawn column
returns-clause-odd_table c = answers_all _ _ _ _ (record { replies = Refused refusal.NoEntry ∷ []; are = (refl, tt); texts = refl; mark = refl })

pub returns-clause-heavy_table : goal.returns-clause-heavy_table
unfolding form_of words_of number_of reply_text digits withdrawn column
returns-clause-heavy_table c = answers_all _ _ _ _ (record { replies = Refused refusal.NoEntry ∷ []; are = (refl, tt); texts = refl; mark = refl })

pub returns-clause-no_number : goal.returns-clause-no_number
unfolding form_of words_of number_of reply_text digits withdrawn
returns-clause-no_number c = answers_all _ _ _ _ (record { replies = Refused refusal.NoCommand ∷ []; are = (refl, tt); texts = refl; mark = refl })

pub returns-clause-cut : goal.returns-clause-cut
unfolding form_of words_of number_of reply_text digits withdrawn
returns-clause-cut c = answers_all _ _ _ _ (record { replies = Refused refusal.CutOff ∷ []; are = (refl, tt); texts = refl; mark = refl })

pub returns-clause-ledger : goal.returns-clause-ledger
unfolding form_of words_of number_of reply_text digits withdrawn
returns-clause-ledger c = answers_all _ _ _ _ (record { replies = Lines (ledger_text []) ∷ []; are = (refl, tt); texts = refl; mark = refl })

pub returns-clause-dump : goal.returns-clause-dump
unfolding form_of words_of number_of reply_text digits withdrawn
returns-clause-dump c = answers_all _ _ _ _ (record { replies = Lines (dump_text []) ∷ []; are = (refl, tt); texts = refl; mark = refl })

pub returns-clause-withdraw_all : goal.returns-clause-withdraw_all
unfolding form_of words_of number_of reply_text digits withdrawn_all
returns-clause-withdraw_all c = answers_all _ _ _ _ (record { replies = Refused (refusal.Withdrawal (codes "hexa") withdraw.NoSuch) ∷ []; are = (refl, tt); texts = refl; mark = refl })

pub returns-clause-withdraw : goal.returns-clause-withdraw
unfolding form_of words_of number_of reply_text digits withdrawn
returns-clause-withdraw c = answers_all _ _ _ _ (record { replies = Refused (refusal.Withdrawal (codes "hexa") withdraw.NoSuch) ∷ []; are = (refl, tt); texts = refl; mark = refl })
