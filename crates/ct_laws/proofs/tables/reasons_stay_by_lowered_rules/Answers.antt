use Rattle.std.proofs.Common.{[], ◌∷◌, refl}
use Rattle.ct_rules.specs.declared.rule.Rule.TheVariants.{L2, L6, L10, M10}
use Rattle.ct_rules.specs.Rule.{row_of}
use Rattle.ct_rules.specs.Removal.{only, count_below}
use Rattle.ct_table.specs.Table.{reason_at}
use Rattle.ct_laws.proofs.ReasonLemmas.{rests_on_nothing, rests_on_no_line, reason_stays, lone_reason_stays}
use Rattle.ct_laws.proofs.tables.reasons_stay_by_lowered_rules.Goals as goal

pub returns-clause-later : goal.returns-clause-later
unfolding row_of count_below
returns-clause-later c = λ old new s claim entry keeps had. lone_reason_stays (only 0) old new s claim (L10 1) entry keeps had refl

pub returns-clause-later_of_weight : goal.returns-clause-later_of_weight
unfolding row_of count_below
returns-clause-later_of_weight c = λ old new s claim entry keeps had. lone_reason_stays (only 1) old new s claim (M10 3) entry keeps had refl

pub returns-clause-earlier : goal.returns-clause-earlier
unfolding row_of count_below
returns-clause-earlier c = λ old new s claim entry keeps had. lone_reason_stays (only 1) old new s claim (L10 0) entry keeps had refl

pub returns-clause-no_place : goal.returns-clause-no_place
unfolding row_of count_below
returns-clause-no_place c = λ old new s claim entry keeps had. lone_reason_stays (only 0) old new s claim L2 entry keeps had refl

pub returns-clause-through : goal.returns-clause-through
unfolding row_of count_below
returns-clause-through c = λ old new s claim other i entry keeps had below.
    reason_stays (only 0) old new s claim L6 (i ∷ []) entry keeps had
    (rests_on_no_line old.lines (only 0) (reason_at old s) i claim L6 had refl
    (rests_on_nothing old.lines (only 0) i other (L10 1) below refl))
