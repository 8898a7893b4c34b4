-- A sum class (Graham and Sloane 1980, Lower bounds for constant weight codes): of the words of one weight those whose ones stand at places that
-- add up to r modulo the length are at distance 4.
use Rattle.std.specs.Prelude.{ℕ, ◌==◌, ◌&&◌, nat_lt, if◌then◌else◌, [], length, is_some, Option, Some, None}
use Rattle.ct_words.specs.declared.claim.Side.TheVariants.{Lower}
use Rattle.ct_words.specs.declared.entry.Entry.{Entry}
use Rattle.ct_sum_classes.specs.SumClass.{sum_class}
use Rattle.ct_rule_parts.specs.Parts.{RuleParts, has_weight, weight_of}

-- how many words the sum class r of the length and the weight of an entry of distance 4 has, where there is such a class and it has a word
abbrev pub sum_class_size : ℕ → Entry → Option ℕ
sum_class_size r e =
    if has_weight e && e.d == 4 && nat_lt r e.n && nat_lt 0 (length (sum_class e.n (weight_of e) r)) then
    Some (length (sum_class e.n (weight_of e) r))
    else None

-- with the residue r: A(n,4,w) is at least the number of words of the sum class r
abbrev pub graham_sloane : ℕ → RuleParts
graham_sloane r = record {
  side = Lower;
  condition = λ e. is_some (sum_class_size r e);
  rests_on = λ e. [];
  number = λ e vs. sum_class_size r e;
}
