use Rattle.std.proofs.Common.{refl}
use Rattle.ct_words.specs.Word.{distance}
use Rattle.ct_words.specs.Numbers.{krawtchouk}
use Rattle.ct_parity.proofs.OddLists.{krawtchouk-odd}
use Rattle.ct_laws.proofs.math.parity.odd_lists_have_odd_sums.Goals as goal

pub returns-clause-odd : goal.returns-clause-odd
returns-clause-odd c = krawtchouk-odd

pub returns-clause-even : goal.returns-clause-even
unfolding krawtchouk distance
returns-clause-even c = refl
