-- Evidence of kind dual, jdual, jlocal or odd: a dual of Delsarte's linear program, which is judged by its own numbers.
use Rattle.std.specs.Prelude.{◌≤ℤ◌, ℕ, pos, false, List, [], Option, Some, None, option_map}
use Rattle.ct_duals.specs.declared.dual.Dual.{Dual}
use Rattle.ct_duals.specs.declared.fault.DualFault.{DualFault}
use Rattle.ct_duals.specs.Bound.{AcceptedValue}
use Rattle.ct_duals.specs.Check.{dual_fault, IsBelow}
use Rattle.ct_words.specs.Numbers.{numbers_of, multiplier, combination}
use Rattle.ct_rule_parts.specs.declared.support.Support.{Support}
use Rattle.ct_rule_parts.specs.declared.support.Support.TheVariants.{Nothing, Bound, Odd, Local}
use Rattle.ct_kind.specs.KindParts.{KindParts}
use Rattle.ct_kind.specs.declared.fault.SubmitFault.TheVariants as fault

-- a dual with its f(0)
abbrev pub with_at_zero : Dual → AcceptedValue
with_at_zero d = record { dual = d; at_zero = combination (numbers_of d.entry) d.c 0 }

-- what a dual gives to the table where there is this reason against it: nothing; and where there is none, what is given by it with its f(0)
abbrev pub support_by : (AcceptedValue → Support) → Option DualFault → Dual → Support
support_by given None d = given (with_at_zero d)
support_by given (Some reason) d = Nothing

-- what a dual comes to as evidence, with the word of its kind and with what it gives to the table where it is accepted: it has no code and no size,
-- names no part and stores no words, and its check is that of the numbers of its entry's scheme
abbrev pub dual_kind : (AcceptedValue → Support) → List ℕ → Dual → KindParts
dual_kind given text d = record {
  text = text;
  entry = d.entry;
  parts = [];
  reason = λ known. option_map fault.Dual (dual_fault (numbers_of d.entry) d);
  words = λ known. None;
  size = λ known. None;
  has_code = false;
  partition = None;
  listed = 0;
  is_stored = false;
  gives = λ size. support_by given (dual_fault (numbers_of d.entry) d) d;
}

-- what a dual of kind dual or jdual gives: its bound
abbrev pub dual_support : Option DualFault → Dual → Support
dual_support = support_by Bound

-- what a dual of kind odd gives with its number of words: that parity may exclude so many
abbrev pub odd_support : ℕ → Option DualFault → Dual → Support
odd_support m = support_by (λ accepted. Odd accepted m)

-- what a dual of kind jlocal gives: its local bound
abbrev pub local_support : Option DualFault → Dual → Support
local_support = support_by Local

-- c_0 is at least 1, and f(i) is at most what is allowed at each index that two words of a code of the entry may have
abbrev pub IsDualChecked : Dual → Type 0
IsDualChecked d = (pos 1 ≤ℤ multiplier d.c 0) × IsBelow (numbers_of d.entry) d
