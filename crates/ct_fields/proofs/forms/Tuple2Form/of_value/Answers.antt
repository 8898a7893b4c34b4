use Rattle.std.proofs.Common.{◌∙◌}
use Rattle.toml.specs.View.{view}
use Rattle.ct_fields.proofs.FormLemmas.{pair_in-both, pair_in-no_first, pair_in-no_second, pair_in-other}
use Rattle.ct_fields.proofs.forms.Tuple2Form.of_value.Goals as goal

pub returns : goal.returns
returns g c =
    pair_in-both g.A.Form.form g.B.Form.form (view c.args.value.now) (view c.in_ok-first.first.now, view c.in_ok-first.second.now)
    c.in_ok-first-2.first c.in_ok-second.second c.in_ok-first.ensures c.in_ok-first-2.ensures c.in_ok-second.ensures

pub returns-in_err-first-2 : goal.returns-in_err-first-2
returns-in_err-first-2 g c =
    c.from_residual-in_err-first-2.ensures
    ∙ pair_in-no_first g.A.Form.form g.B.Form.form (view c.args.value.now) (view c.in_ok-first.first.now, view c.in_ok-first.second.now)
    c.in_ok-first.ensures c.in_err-first-2.ensures

pub returns-in_err-second : goal.returns-in_err-second
returns-in_err-second g c =
    c.from_residual-in_err-second.ensures
    ∙ pair_in-no_second g.A.Form.form g.B.Form.form (view c.args.value.now) (view c.in_ok-first.first.now, view c.in_ok-first.second.now)
    c.in_ok-first-2.first c.in_ok-first.ensures c.in_ok-first-2.ensures c.in_err-second.ensures

pub returns-in_err-first : goal.returns-in_err-first
returns-in_err-first g c =
    c.from_residual.ensures ∙ pair_in-other g.A.Form.form g.B.Form.form (view c.args.value.now) c.in_err-first.ensures
