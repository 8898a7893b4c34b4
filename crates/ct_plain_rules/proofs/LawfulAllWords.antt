-- All words.
use Rattle.std.proofs.Common.{◌^◌, arith, pow_pos}
use Rattle.std.specs.Prelude.{Option, Some}
use Rattle.ct_words.specs.declared.claim.Side.TheVariants.{Upper}
use Rattle.ct_words.proofs.CheckLemmas.{code_size-le}
use Rattle.ct_rule_parts.specs.declared.support.Support.{Support}
use Rattle.ct_rule_parts.proofs.Lawful.{IsLawful, same_number, no_worse-same}
use Rattle.ct_plain_rules.specs.AllWords.{all_words}

pub all_words-lawful : (c : Option Support) → IsLawful c all_words
all_words-lawful c = record {
  sound = λ e vs x stand entry plain known is.
      same_number Upper e (2 ^ e.n) x is
      (record { some = pow_pos e.n; truth = λ words code. code_size-le e.n e.d e.w words code });
  monotone = λ e us vs x h is. no_worse-same Upper (Some (2 ^ e.n)) x is;
  few = λ e stand entry. omega arith;
}
