use Rattle.ct_derive.proofs.CheckedLines.{follows_without_fault, no_fault}
use Rattle.ct_laws.proofs.derived_lines.lines_without_fault_follow.Goals as goal

pub returns-clause-follows : goal.returns-clause-follows
returns-clause-follows c = λ supports before claim r numbers side none.
    let by = follows_without_fault supports before claim r numbers side none in (by.places, by.numbered, by.follows)

pub returns-clause-no_fault : goal.returns-clause-no_fault
returns-clause-no_fault c = no_fault
