use Rattle.std.proofs.Common.{◌≡◌, ℕ, ◌-◌, ◌++◌, map, drop}
use Rattle.std.specs.List.{list_all}
use Rattle.ct_words.specs.Text.{is_binary_digit}
use Rattle.ct_build_files.proofs.build_fields.digits_of.Given as goal

abbrev pub invariant-loop-byte : goal.invariant-loop-byte
invariant-loop-byte l = record {
  digits : list_all is_binary_digit (drop l.byte-index l.text) ≡ list_all is_binary_digit l.text;
  so_far : l.digits.items ++ map (λ (b : ℕ). b - 48) (drop l.byte-index l.text) ≡ map (λ (b : ℕ). b - 48) l.text;
}
