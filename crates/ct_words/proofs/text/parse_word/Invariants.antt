use Rattle.std.proofs.Common.{◌≡◌, ℕ, ◌^◌, ◌<◌, take, false, get_or, not}
use Rattle.ct_words.specs.Text.{is_binary_digit, binary_value}
use Rattle.ct_words.proofs.text.parse_word.Given as goal

abbrev pub invariant-loop-place : goal.invariant-loop-place
invariant-loop-place l = record {
  value : l.word ≡ binary_value (take l.place l.text);
  small : l.word < 2 ^ l.place;
  digits : (k : ℕ) → k < l.place → not (is_binary_digit (get_or l.text k 0)) ≡ false;
}
