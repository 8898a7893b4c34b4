use Rattle.std.proofs.Common.{rules}
use Rattle.ct_text.proofs.WrittenDigits.{one_more, the_first}
use Rattle.ct_text.proofs.digits.write_digits.Goals as goal

pub loop-rest-preserved : goal.loop-rest-preserved
loop-rest-preserved c =
    let now = c.loop-rest.invariant in
    one_more c.loop-rest.rest c.loop-rest.at c.args.number c.loop-rest.digits now.0 now.1 now.2 (search rules) (search rules) now.3

pub returns-clause-digits : goal.returns-clause-digits
returns-clause-digits c =
    let now = c.loop-rest.invariant in
    the_first c.loop-rest.rest c.loop-rest.at c.args.number c.loop-rest.digits now.0 now.1 (search rules) now.3
