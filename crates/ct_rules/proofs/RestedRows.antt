-- The rows of the rules: an entry that rests on another is among those where the closing of a table looks for such.
use Rattle.std.proofs.Common.{[], Contains}
use Rattle.std.specs.Prelude.{Option}
use Rattle.ct_rule_parts.specs.declared.support.Support.{Support}
use Rattle.ct_rule_parts.proofs.Lawful.{LeadsBack}
use Rattle.ct_rule_parts.proofs.PlainEntries.{no_item}
use Rattle.ct_plain_rules.proofs.LawfulLengthened.{lengthened_below-back, lengthened_above-back}
use Rattle.ct_plain_rules.proofs.LawfulNearer.{nearer_below-back, nearer_above-back}
use Rattle.ct_plain_rules.proofs.LawfulWithParity.{parity_below-back, parity_above-back}
use Rattle.ct_plain_rules.proofs.LawfulPunctured.{punctured_below-back, punctured_above-back}
use Rattle.ct_plain_rules.proofs.LawfulShortened.{shortened_below-back, shortened_above-back}
use Rattle.ct_plain_rules.proofs.LawfulUuv.{uuv-back}
use Rattle.ct_plain_rules.proofs.LawfulJuxtaposition.{juxtaposition-back}
use Rattle.ct_weight_rules.proofs.LawfulLengthened.{lengthened_by_zero-back, lengthened_by_one-back}
use Rattle.ct_weight_rules.proofs.LawfulJohnsonOne.{johnson_one_below-back, johnson_one_above-back}
use Rattle.ct_weight_rules.proofs.LawfulJohnsonZero.{johnson_zero_below-back, johnson_zero_above-back}
use Rattle.ct_weight_rules.proofs.LawfulComplemented.{complemented_below-back, complemented_above-back}
use Rattle.ct_weight_rules.proofs.LawfulNearer.{nearer_below_of_weight-back, nearer_above_of_weight-back}
use Rattle.ct_weight_rules.proofs.LawfulSplit.{split-back}
use Rattle.ct_weight_rules.proofs.LawfulWithoutWeight.{without_weight-back}
use Rattle.ct_weight_rules.proofs.LawfulJohnson.{johnson_above-back}
use Rattle.ct_weight_rules.proofs.LawfulEliasBassalygo.{elias_bassalygo-back}
use Rattle.ct_weight_rules.proofs.LawfulDelsarte.{dual_above-back}
use Rattle.ct_weight_rules.proofs.LawfulOddSizes.{odd_size_above-back}
use Rattle.ct_weight_rules.proofs.LawfulLocalDuals.{local_above-back}
use Rattle.ct_rules.specs.declared.rule.Rule.{Rule}
use Rattle.ct_rules.specs.declared.rule.Rule.TheVariants.{L3, L4, L5, L6, L7, L8, L9, L11, M3, M4, M5, M6, M7, M8, U4, U5, U6, U7, U8, U9, U10, U11, U12, V3, V4, V5, V6, V7, V10}
use Rattle.ct_rules.specs.Rule.{row_of, parts_of}
use Rattle.ct_rules.specs.Inside.RestedOn.{rested_on_by}

pub leads_back : (r : Rule) (c : Option Support) → LeadsBack (parts_of r c) (rested_on_by r)
unfolding row_of rested_on_by
leads_back L3 c = lengthened_below-back
leads_back L4 c = nearer_below-back
leads_back L5 c = parity_below-back
leads_back L6 c = punctured_below-back
leads_back L7 c = shortened_below-back
leads_back L8 c = uuv-back
leads_back (L9 w) c = without_weight-back w
leads_back (L11 n d) c = juxtaposition-back n d
leads_back M3 c = lengthened_by_zero-back
leads_back M4 c = lengthened_by_one-back
leads_back M5 c = johnson_one_below-back
leads_back M6 c = johnson_zero_below-back
leads_back M7 c = complemented_below-back
leads_back M8 c = nearer_below_of_weight-back
leads_back U4 c = parity_above-back
leads_back U5 c = punctured_above-back
leads_back U6 c = shortened_above-back
leads_back U7 c = nearer_above-back
leads_back U8 c = lengthened_above-back
leads_back U9 c = johnson_above-back
leads_back (U10 w) c = elias_bassalygo-back w
leads_back (U11 place) c = dual_above-back c
leads_back (U12 place) c = odd_size_above-back c
leads_back V3 c = complemented_above-back
leads_back V4 c = johnson_one_above-back
leads_back V5 c = johnson_zero_above-back
leads_back V6 c = split-back
leads_back V7 c = nearer_above_of_weight-back
leads_back (V10 place) c = local_above-back c
leads_back r c = λ e f defined rests. no_item (Contains [] e) f rests
