use Rattle.std.proofs.Common.{◌≡◌, Some, map, ap, ◌∙◌}
use Rattle.ct_text.specs.Number.{number_of}
use Rattle.ct_text.specs.TableNumbers.{table_numbers_of, table_numbers_from}
use Rattle.ct_text.proofs.NamedNumbers.{table-one, table-two}
use Rattle.ct_text.proofs.table_numbers.parse_table_numbers.Goals as goal
use Rattle.ct_text.proofs.table_numbers.parse_table_numbers.Goals.{in-len1, in-len2+in_ok-parse_number-in-len2}

pub returns : goal.returns
returns c =
    let named : table_numbers_from (number_of c.if-words-lt2.w.0.now.now) (Some c.if-words-lt2.w.1)
    ≡ table_numbers_of (map (λ word. word.now) c.args.words.now) = elim c.if-words-lt2.branch [
      | in-len1 w ↦
          table-one c.args.words.now _ _ _ w.in-len1.len_at_least w.in-len1.len_below (ap (λ t. t.0.now.now) w.w-is) (ap (λ t. t.1) w.w-is)
      | in-len2+in_ok-parse_number-in-len2 w ↦
          table-two c.args.words.now _ _ _ _ w.in_ok-parse_number-in-len2.field-0 w.in-len2.len_at_least w.in-len2.len_below
          (ap (λ t. t.0.now.now) w.w-is) (ap (λ t. t.1) w.w-is) w.in_ok-parse_number-in-len2.ensures
    ] in
    ap (λ d. table_numbers_from d (Some c.if-words-lt2.w.1)) c.in_ok-parse_number.ensures ∙ named

pub returns-in_err-parse_number : goal.returns-in_err-parse_number
returns-in_err-parse_number c =
    let named : table_numbers_from (number_of c.if-words-lt2.w.0.now.now) (Some c.if-words-lt2.w.1)
    ≡ table_numbers_of (map (λ word. word.now) c.args.words.now) = elim c.if-words-lt2.branch [
      | in-len1 w ↦
          table-one c.args.words.now _ _ _ w.in-len1.len_at_least w.in-len1.len_below (ap (λ t. t.0.now.now) w.w-is) (ap (λ t. t.1) w.w-is)
      | in-len2+in_ok-parse_number-in-len2 w ↦
          table-two c.args.words.now _ _ _ _ w.in_ok-parse_number-in-len2.field-0 w.in-len2.len_at_least w.in-len2.len_below
          (ap (λ t. t.0.now.now) w.w-is) (ap (λ t. t.1) w.w-is) w.in_ok-parse_number-in-len2.ensures
    ] in
    c.from_residual-in_err-parse_number.ensures ∙ ap (λ d. table_numbers_from d (Some c.if-words-lt2.w.1)) c.in_err-parse_number.ensures ∙ named
