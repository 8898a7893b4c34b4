-- The words 0..0 and 1..1.
use Rattle.std.proofs.Common.{nat_le, leb-true, arith}
use Rattle.std.specs.Prelude.{not, Option, Some}
use Rattle.std.proofs.lemmas.Bool.{and_parts}
use Rattle.ct_words.specs.declared.claim.Side.TheVariants.{Lower}
use Rattle.ct_words.proofs.EntryLemmas.{entry_limits}
use Rattle.ct_rule_parts.specs.declared.support.Support.{Support}
use Rattle.ct_rule_parts.specs.Parts.{has_weight}
use Rattle.ct_rule_parts.proofs.Constructions.{HasCode-two}
use Rattle.ct_rule_parts.proofs.Lawful.{IsLawful, same_number, no_worse-same}
use Rattle.ct_rule_parts.proofs.PlainEntries.{no_weight}
use Rattle.ct_rule_parts.proofs.PlainNumbers.{lower_number}
use Rattle.ct_plain_rules.specs.OppositeWords.{opposite_words}

pub opposite_words-lawful : (c : Option Support) → IsLawful c opposite_words
opposite_words-lawful c = record {
  sound = λ e vs x stand entry condition known is.
      let limits = entry_limits e entry in
      let parts = and_parts (not (has_weight e)) (nat_le e.d e.n) condition in
      same_number Lower e 2 x is
      (lower_number e 2 (no_weight e parts.0) (omega arith)
      (HasCode-two e.n e.d limits.length_from (leb-true e.d e.n parts.1)));
  monotone = λ e us vs x h is. no_worse-same Lower (Some 2) x is;
  few = λ e stand entry. omega arith;
}
