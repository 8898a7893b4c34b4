use Rattle.std.proofs.Common.{Some}
use Rattle.ct_io.proofs.ToldLemmas.{AppendsPrefix-all, AppendsPrefix-nothing, AppendsPrefix-from_proper, not_all_written}
use Rattle.ct_io.proofs.laws.prefixes_law.Goals as goal

pub returns-clause-all : goal.returns-clause-all
returns-clause-all c = AppendsPrefix-all

pub returns-clause-nothing : goal.returns-clause-nothing
returns-clause-nothing c = AppendsPrefix-nothing

pub returns-clause-proper : goal.returns-clause-proper
returns-clause-proper c = λ old new text h. (AppendsPrefix-from_proper (Some old) (Some new) text h, not_all_written old new text h)
