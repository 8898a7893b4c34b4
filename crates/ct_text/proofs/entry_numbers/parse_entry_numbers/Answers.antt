use Rattle.std.proofs.Common.{◌≡◌, Some, map, ap, ap₂, ◌∙◌}
use Rattle.ct_text.specs.Number.{number_of}
use Rattle.ct_text.specs.EntryNumbers.{entry_numbers_of, numbers_from}
use Rattle.ct_text.proofs.NamedNumbers.{entry-two, entry-three}
use Rattle.ct_text.proofs.entry_numbers.parse_entry_numbers.Goals as goal
use Rattle.ct_text.proofs.entry_numbers.parse_entry_numbers.Goals.{in-len2, in-len3+in_ok-parse_number-in-len3}

pub returns : goal.returns
returns c =
    let named : numbers_from (number_of c.if-words-lt3.w.0.now.now) (number_of c.if-words-lt3.w.1.now.now) (Some c.if-words-lt3.w.2)
    ≡ entry_numbers_of (map (λ word. word.now) c.args.words.now) = elim c.if-words-lt3.branch [
      | in-len2 w ↦
          entry-two c.args.words.now _ _ _ _ _ w.in-len2.len_at_least w.in-len2.len_below (ap (λ t. t.0.now.now) w.w-is) (ap (λ t. t.1.now.now) w.w-is)
          (ap (λ t. t.2) w.w-is)
      | in-len3+in_ok-parse_number-in-len3 w ↦
          entry-three c.args.words.now _ _ _ _ _ _ w.in_ok-parse_number-in-len3.field-0 w.in-len3.len_at_least w.in-len3.len_below
          (ap (λ t. t.0.now.now) w.w-is) (ap (λ t. t.1.now.now) w.w-is) (ap (λ t. t.2) w.w-is) w.in_ok-parse_number-in-len3.ensures
    ] in
    ap₂ (λ n d. numbers_from n d (Some c.if-words-lt3.w.2)) c.in_ok-parse_number.ensures c.in_ok-parse_number-2.ensures ∙ named

pub returns-in_err-parse_number : goal.returns-in_err-parse_number
returns-in_err-parse_number c =
    let named : numbers_from (number_of c.if-words-lt3.w.0.now.now) (number_of c.if-words-lt3.w.1.now.now) (Some c.if-words-lt3.w.2)
    ≡ entry_numbers_of (map (λ word. word.now) c.args.words.now) = elim c.if-words-lt3.branch [
      | in-len2 w ↦
          entry-two c.args.words.now _ _ _ _ _ w.in-len2.len_at_least w.in-len2.len_below (ap (λ t. t.0.now.now) w.w-is) (ap (λ t. t.1.now.now) w.w-is)
          (ap (λ t. t.2) w.w-is)
      | in-len3+in_ok-parse_number-in-len3 w ↦
          entry-three c.args.words.now _ _ _ _ _ _ w.in_ok-parse_number-in-len3.field-0 w.in-len3.len_at_least w.in-len3.len_below
          (ap (λ t. t.0.now.now) w.w-is) (ap (λ t. t.1.now.now) w.w-is) (ap (λ t. t.2) w.w-is) w.in_ok-parse_number-in-len3.ensures
    ] in
    c.from_residual-in_err-parse_number.ensures
    ∙ ap (λ n. numbers_from n (number_of c.if-words-lt3.w.1.now.now) (Some c.if-words-lt3.w.2)) c.in_err-parse_number.ensures ∙ named

pub returns-in_err-parse_number-2 : goal.returns-in_err-parse_number-2
returns-in_err-parse_number-2 c =
    let named : numbers_from (number_of c.if-words-lt3.w.0.now.now) (number_of c.if-words-lt3.w.1.now.now) (Some c.if-words-lt3.w.2)
    ≡ entry_numbers_of (map (λ word. word.now) c.args.words.now) = elim c.if-words-lt3.branch [
      | in-len2 w ↦
          entry-two c.args.words.now _ _ _ _ _ w.in-len2.len_at_least w.in-len2.len_below (ap (λ t. t.0.now.now) w.w-is) (ap (λ t. t.1.now.now) w.w-is)
          (ap (λ t. t.2) w.w-is)
      | in-len3+in_ok-parse_number-in-len3 w ↦
          entry-three c.args.words.now _ _ _ _ _ _ w.in_ok-parse_number-in-len3.field-0 w.in-len3.len_at_least w.in-len3.len_below
          (ap (λ t. t.0.now.now) w.w-is) (ap (λ t. t.1.now.now) w.w-is) (ap (λ t. t.2) w.w-is) w.in_ok-parse_number-in-len3.ensures
    ] in
    c.from_residual-in_err-parse_number-2.ensures
    ∙ ap₂ (λ n d. numbers_from n d (Some c.if-words-lt3.w.2)) c.in_ok-parse_number.ensures c.in_err-parse_number-2.ensures ∙ named
