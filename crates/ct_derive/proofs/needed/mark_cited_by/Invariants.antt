use Rattle.std.proofs.Common.{◌≡◌, drop}
use Rattle.ct_derive.specs.Pieces.{cited_places}
use Rattle.ct_derive.specs.Pruning.{with_marks}
use Rattle.ct_derive.proofs.needed.mark_cited_by.Given as goal

-- with the marks of the lines that are left, these are all
abbrev pub invariant-loop-line : goal.invariant-loop-line
invariant-loop-line l = with_marks (cited_places l.lines) l.initial.marks ≡ with_marks (cited_places (drop l.line-index l.lines)) l.marks
