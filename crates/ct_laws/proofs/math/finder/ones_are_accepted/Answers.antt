use Rattle.std.proofs.Common.{◌∙◌}
use Rattle.ct_words.specs.Numbers.{krawtchouk}
use Rattle.ct_finder.proofs.Ones.{combination-ones, total-krawtchouk_zero, total-krawtchouk, ones-form, ones-accepted}
use Rattle.ct_laws.proofs.math.finder.ones_are_accepted.Goals as goal

pub returns-clause-form : goal.returns-clause-form
returns-clause-form c = ones-form

pub returns-clause-accepted : goal.returns-clause-accepted
returns-clause-accepted c = ones-accepted

pub returns-clause-at_zero : goal.returns-clause-at_zero
returns-clause-at_zero c = λ n d even. combination-ones (krawtchouk n) n 0 ∙ total-krawtchouk_zero n

pub returns-clause-elsewhere : goal.returns-clause-elsewhere
returns-clause-elsewhere c = λ n d i even low high. combination-ones (krawtchouk n) n i ∙ total-krawtchouk n i low high
