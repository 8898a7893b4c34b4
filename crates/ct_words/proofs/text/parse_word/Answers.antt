use Rattle.std.proofs.Common.{◌≡◌, not, ◌<◌, ◌^◌, ℕ, true, get_or, sym, ap, ◌∙◌, below_more, arith, take_all, Some, Result, Ok, Err}
use Rattle.std.proofs.lemmas.Option.{none-some, same_Some}
use Rattle.ct_words.specs.declared.word.WordFault.{WordFault}
use Rattle.ct_words.specs.declared.word.WordFault.TheVariants.{BadDigit}
use Rattle.std.proofs.lemmas.List.Folds.{list_all_at}
use Rattle.ct_words.specs.Text.{is_binary_digit, binary_value}
use Rattle.ct_words.proofs.TextLemmas.{word_of-other_length, word_of-other_character, word_of-digits, value_more, digits_from_places, position-at, position-none, text_of_digits, binary_value-lt, digit-from_0, digit-from_1, other-from, small_more}
use Rattle.ct_words.proofs.text.parse_word.Goals as goal
use Rattle.ct_words.proofs.text.parse_word.Goals.{else-byte-ne48-via-then-byte-ne48+else-byte-ne49, else-byte-ne48-via-else-byte-ne48}

-- a word is no fault
no_fault : (x : ℕ) (fault : WordFault) → ◌≡◌ {A = Result ℕ WordFault} (Ok x) (Err fault) → ⊥
no_fault x fault e = cc

-- a bad digit tells its place
bad_digit-place : (i j : ℕ) → ◌≡◌ {A = Result ℕ WordFault} (Err (BadDigit i)) (Err (BadDigit j)) → i ≡ j
bad_digit-place i j e = cc

pub returns-then-text-n-clause-word : goal.returns-then-text-n-clause-word
returns-then-text-n-clause-word c = sym (word_of-other_length c.args.n c.args.text.now c.if-text-n.true)

pub returns-then-byte-ne49-clause-word : goal.returns-then-byte-ne49-clause-word
returns-then-byte-ne49-clause-word c =
    let here = other-from (get_or c.args.text.now c.loop-place.place 0) c.if-byte-ne48.true c.if-byte-ne49.true in
    sym (word_of-other_character c.args.n c.args.text.now (list_all_at is_binary_digit c.args.text.now c.loop-place.place 0 c.loop-place-test.true here))

pub returns-then-byte-ne49-clause-bad_digit : goal.returns-then-byte-ne49-clause-bad_digit
returns-then-byte-ne49-clause-bad_digit c =
    let here = other-from (get_or c.args.text.now c.loop-place.place 0) c.if-byte-ne48.true c.if-byte-ne49.true in
    let first = position-at c.args.text.now c.loop-place.place c.loop-place-test.true c.loop-place.invariant.digits (ap not here) in
    λ p. ((λ e. (c.if-text-n.false, first ∙ ap Some (bad_digit-place _ p e))), (λ h. ap (λ q. Err (BadDigit q)) (same_Some _ p (sym first ∙ h.1))))

pub loop-place-preserved : goal.loop-place-preserved
loop-place-preserved c =
    let b : ℕ = get_or c.args.text.now c.loop-place.place 0 in
    let here : is_binary_digit b ≡ true = elim c.else-byte-ne48.branch [
      | else-byte-ne48-via-then-byte-ne48+else-byte-ne49 w ↦ digit-from_1 b w.if-byte-ne49.false
      | else-byte-ne48-via-else-byte-ne48 w ↦ digit-from_0 b w.if-byte-ne48.false
    ] in
    record {
      value = value_more c.args.text.now c.loop-place.place c.loop-place.word c.loop-place-test.true c.loop-place.invariant.value;
      small = small_more c.loop-place.place c.loop-place.word b here c.loop-place.invariant.small;
      digits = below_more _ _ c.loop-place.invariant.digits (ap not here);
    }

pub returns-clause-word : goal.returns-clause-word
returns-clause-word c =
    let digits = digits_from_places c.args.text.now (λ k h. c.loop-place.invariant.digits k (omega arith)) in
    let whole = take_all c.loop-place.place c.args.text.now c.loop-place-test.false in
    sym (word_of-digits c.args.n c.args.text.now c.if-text-n.false digits ∙ ap Some (sym (c.loop-place.invariant.value ∙ ap binary_value whole)))

pub returns-clause-text : goal.returns-clause-text
returns-clause-text c =
    let digits = digits_from_places c.args.text.now (λ k h. c.loop-place.invariant.digits k (omega arith)) in
    let whole = take_all c.loop-place.place c.args.text.now c.loop-place-test.false in
    let value : c.loop-place.word ≡ binary_value c.args.text.now = c.loop-place.invariant.value ∙ ap binary_value whole in
    let below = binary_value-lt c.args.text.now digits in
    let below_n : binary_value c.args.text.now < 2 ^ c.args.n = rw c.if-text-n.false at below in
    ((omega arith), text_of_digits c.args.n c.loop-place.word c.args.text.now c.if-text-n.false digits value)

pub returns-clause-bad_digit : goal.returns-clause-bad_digit
returns-clause-bad_digit c = λ p. (
  (λ e. absurd (no_fault _ (BadDigit p) e)),
  (λ h. absurd (none-some p (sym (position-none c.args.text.now (λ k within. c.loop-place.invariant.digits k (omega arith))) ∙ h.1))),
)
