-- Far words.
use Rattle.std.proofs.Common.{nat_lt, ltb-true, subst, arith}
use Rattle.std.specs.Prelude.{not, Option}
use Rattle.std.proofs.lemmas.Bool.{and_parts}
use Rattle.std.proofs.lemmas.Option.{cond_some}
use Rattle.ct_words.specs.declared.claim.Side.TheVariants.{Upper}
use Rattle.ct_words.proofs.DigitCodes.{bound_from_spread}
use Rattle.ct_elementary.proofs.FarWords.{spread_far}
use Rattle.ct_rule_parts.specs.declared.support.Support.{Support}
use Rattle.ct_rule_parts.specs.Parts.{has_weight}
use Rattle.ct_rule_parts.proofs.Lawful.{IsTrueNumber, IsLawful, no_worse-same}
use Rattle.ct_rule_parts.proofs.PlainEntries.{no_weight}
use Rattle.ct_rule_parts.proofs.PlainNumbers.{upper_number}
use Rattle.ct_plain_rules.specs.FarWords.{far_words}

pub far_words-lawful : (c : Option Support) → IsLawful c far_words
far_words-lawful c = record {
  sound = λ e vs x stand entry condition known is.
      let parts = and_parts (not (has_weight e)) (nat_lt e.n e.d) condition in
      let both = cond_some (nat_lt e.n e.d) 1 x is in
      subst (IsTrueNumber Upper e) both.1
      (upper_number e 1 (no_weight e parts.0) (omega arith)
      (bound_from_spread e.n e.d 1 (spread_far e.n e.d (ltb-true e.n e.d parts.1))));
  monotone = λ e us vs x h is. no_worse-same Upper _ x is;
  few = λ e stand entry. omega arith;
}
