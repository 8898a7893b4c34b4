use Rattle.std.proofs.Common.{ℕ, ◌<◌, ◌^◌, List, refl, None, Some, [], ◌∷◌, codes, lit<, lit≤}
use Rattle.std.proofs.lemmas.List.Elements.{All-from_recursion, All-cons, All-nil}
use Rattle.ct_words.specs.Code.{IsTrueLower}
use Rattle.ct_words.proofs.CheckLemmas.{code_from_no_fault}
use Rattle.std.specs.Fmt.{digits}
use Rattle.ct_text.specs.Line.{words_of}
use Rattle.ct_text.specs.Number.{number_of}
use Rattle.ct_words.specs.Word.{weight, distance}
use Rattle.ct_words.specs.Coset.{coset_fault, coset_list}
use Rattle.ct_codes.proofs.CosetLemmas.{cosets_from_no_fault}
use Rattle.ct_words.specs.Check.{code_fault}
use Rattle.ct_words.specs.declared.fault.CodeFault.TheVariants as fault
use Rattle.ct_words.specs.declared.entry.Entry.{Entry}
use Rattle.ct_laws.proofs.OnLiterals.{evidence_on_literals}
use Rattle.ct_kind.specs.declared.evidence.Evidence.TheVariants.{Words, Cosets}
use Rattle.ct_fields.specs.declared.fault.DocumentFault.TheVariants as file
use Rattle.ct_commands.specs.Form.{form_of}
use Rattle.ct_piece.specs.Piece.{PieceValue}
use Rattle.ct_piece.specs.Submission.{submitted}
use Rattle.ct_kind.specs.declared.fault.SubmitFault.TheVariants as submit
use Rattle.ct_replies.specs.Text.{reply_text, ledger_text}
use Rattle.ct_piece.specs.Withdrawal.{withdrawn_all}
use Rattle.ct_kind.specs.Ascending.{ascending}
use Rattle.ct_build.specs.Build.{build_fault, early_fault, few_fault, sizes_fault, result_size, built, step_distance, other_of, is_right_other, is_right_weight, gives_weight, is_right_length}
use Rattle.ct_replies.specs.declared.reply.Reply.TheVariants.{Accepted, WithdrawnAll, Shown, Lines, Refused}
use Rattle.ct_replies.specs.declared.reply.Refusal.TheVariants as refusal
use Rattle.ct_rules.specs.declared.rule.Rule.TheVariants.{L10, U2}
use Rattle.ct_rule_parts.specs.declared.support.Support.{Support}
use Rattle.ct_rule_parts.specs.declared.support.Support.TheVariants.{Size}
use Rattle.ct_rules.specs.Derivation.{IsDerived}
use Rattle.ct_rules.specs.Rule.{row_of}
use Rattle.ct_rule_parts.specs.Support.{Stands}
use Rattle.ct_rules.proofs.JoinedDerivations.{derived_by_rule}
use Rattle.ct_session.specs.Reply.{AreBoundsOf}
use Rattle.ct_laws.specs.Examples.{six_words_document, linear_code_document}
use Rattle.ct_laws.proofs.EqualBounds.{equal_bounds}
use Rattle.ct_session.proofs.Asked.{answers_all}
use Rattle.ct_laws.proofs.laws.known_submissions.Goals as goal

pub returns-clause-close : goal.returns-clause-close
unfolding form_of words_of number_of reply_text digits submitted code_fault distance evidence_on_literals
returns-clause-close c = answers_all _ _ _ _ (record { replies = Refused (refusal.Submission (submit.Code (fault.Close 0 1 5))) ∷ []; are = (refl, tt); texts = refl; mark = refl })

pub returns-clause-repeated : goal.returns-clause-repeated
unfolding form_of words_of number_of reply_text digits submitted code_fault distance evidence_on_literals
returns-clause-repeated c = answers_all _ _ _ _ (record { replies = Refused (refusal.Submission (submit.Code (fault.Repeated 0 1))) ∷ []; are = (refl, tt); texts = refl; mark = refl })

pub returns-clause-empty : goal.returns-clause-empty
unfolding form_of words_of number_of reply_text digits submitted code_fault distance evidence_on_literals
returns-clause-empty c = answers_all _ _ _ _ (record { replies = Refused (refusal.Submission (submit.File (file.Size 0))) ∷ []; are = (refl, tt); texts = refl; mark = refl })

abbrev entry : Entry
entry = record { n = 10; d = 6; w = None }

abbrev six : List ℕ
six = 0b1111111111 ∷ 0b1111000000 ∷ 0b1000111000 ∷ 0b0100100110 ∷ 0b0010010101 ∷ 0b0001001011 ∷ []

abbrev hexa : PieceValue
hexa = record { id = codes "hexa"; document = six_words_document; evidence = Words entry six; cites = []; entry = entry; size = Some 6 }

-- the six words are a code
six_code : IsTrueLower entry 6
unfolding code_fault distance
six_code = (six, (code_from_no_fault entry six (All-from_recursion (λ x. x < 2 ^ 10) six (lit< tt, (lit< tt, (lit< tt, (lit< tt, (lit< tt, (lit< tt, tt))))))) refl).2, refl)

-- so A(10,6) is 6: by Plotkin it is no more
six_at_ten : AreBoundsOf (hexa ∷ []) entry (record { entry = entry; lower = 6; upper = 6 })
unfolding row_of
six_at_ten =
    let supports : List Support = Size entry 6 ∷ [] in
    equal_bounds (hexa ∷ []) entry 6 (All-cons Stands (Size entry 6) [] (record { entry = refl; range = (lit≤ tt, lit≤ tt); truth = six_code }) (All-nil Stands))
    (derived_by_rule supports (L10 0) entry [] 6 refl (All-nil (IsDerived supports)) refl)
    (derived_by_rule supports U2 entry [] 6 refl (All-nil (IsDerived supports)) refl)

pub returns-clause-accepted : goal.returns-clause-accepted
unfolding form_of words_of number_of reply_text digits submitted code_fault distance evidence_on_literals
returns-clause-accepted c = answers_all _ _ _ _ (record {
  replies = Accepted (codes "hexa") (Some 6) ∷ Shown (record { entry = entry; lower = 6; upper = 6 }) ∷ [];
  are = (refl, (record { bounds = record { entry = entry; lower = 6; upper = 6 }; of_entry = six_at_ten; shown = refl }, tt));
  texts = refl;
  mark = refl;
})

pub returns-clause-choices : goal.returns-clause-choices
unfolding form_of words_of number_of reply_text digits submitted coset_fault coset_list distance evidence_on_literals
returns-clause-choices c = answers_all _ _ _ _ (record { replies = Refused (refusal.Submission (submit.Code (fault.Close 0 3 2))) ∷ []; are = (refl, tt); texts = refl; mark = refl })

pub returns-clause-weight : goal.returns-clause-weight
unfolding form_of words_of number_of reply_text digits submitted code_fault weight distance evidence_on_literals
returns-clause-weight c = answers_all _ _ _ _ (record { replies = Refused (refusal.Submission (submit.Code (fault.Weight 2))) ∷ []; are = (refl, tt); texts = refl; mark = refl })

abbrev short_entry : Entry
short_entry = record { n = 6; d = 3; w = None }

abbrev basis : List ℕ
basis = 0b100011 ∷ 0b010101 ∷ 0b001110 ∷ []

abbrev linear_piece : PieceValue
linear_piece = record { id = codes "linear"; document = linear_code_document; evidence = Cosets short_entry basis (0 ∷ []); cites = []; entry = short_entry; size = Some 8 }

-- the eight sums of basis words are a code
linear_is_code : IsTrueLower short_entry 8
unfolding coset_fault coset_list distance
linear_is_code = (
  coset_list basis (0 ∷ []),
  (cosets_from_no_fault short_entry basis (0 ∷ []) (lit≤ tt) refl (All-from_recursion (λ x. x < 2 ^ 6) basis (lit< tt, (lit< tt, (lit< tt, tt))))
      (All-from_recursion (λ x. x < 2 ^ 6) (0 ∷ []) (lit< tt, tt)) refl).4,
  refl,
)

-- so A(6,3) is 8: by Plotkin it is no more
eight_at_six : AreBoundsOf (linear_piece ∷ []) short_entry (record { entry = short_entry; lower = 8; upper = 8 })
unfolding row_of
eight_at_six =
    let supports : List Support = Size short_entry 8 ∷ [] in
    equal_bounds (linear_piece ∷ []) short_entry 8
    (All-cons Stands (Size short_entry 8) [] (record { entry = refl; range = (lit≤ tt, lit≤ tt); truth = linear_is_code }) (All-nil Stands))
    (derived_by_rule supports (L10 0) short_entry [] 8 refl (All-nil (IsDerived supports)) refl)
    (derived_by_rule supports U2 short_entry [] 8 refl (All-nil (IsDerived supports)) refl)

pub returns-clause-linear : goal.returns-clause-linear
unfolding form_of words_of number_of reply_text digits submitted coset_fault coset_list distance evidence_on_literals
returns-clause-linear c = answers_all _ _ _ _ (record {
  replies = Accepted (codes "linear") (Some 8) ∷ Shown (record { entry = short_entry; lower = 8; upper = 8 }) ∷ [];
  are = (refl, (record { bounds = record { entry = short_entry; lower = 8; upper = 8 }; of_entry = eight_at_six; shown = refl }, tt));
  texts = refl;
  mark = refl;
})

pub returns-clause-with_all : goal.returns-clause-with_all
unfolding form_of words_of number_of reply_text digits submitted code_fault distance evidence_on_literals withdrawn_all build_fault early_fault few_fault sizes_fault result_size built step_distance other_of is_right_other is_right_weight gives_weight is_right_length ascending
returns-clause-with_all c = answers_all _ _ _ _ (record {
  replies = Accepted (codes "a") (Some 2) ∷ Accepted (codes "b") (Some 2) ∷ WithdrawnAll (codes "a") 2 ∷ Lines (ledger_text []) ∷ [];
  are = (refl, (refl, (refl, (refl, tt))));
  texts = refl;
  mark = refl;
})
