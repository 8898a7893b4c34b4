use Rattle.std.proofs.Common.{◌≡◌, ◌<◌, ◌≤◌, length, slice_get, Some, true, false, sym, ap, ◌∙◌, arith}
use Rattle.std.proofs.lemmas.Option.{slice_get-get_or}
use Rattle.ct_rules.specs.Removal.{marked}
use Rattle.ct_table.specs.Inside.Exchanged.{exchanged}
use Rattle.ct_table.proofs.ExchangeLemmas.{length-exchanged, over_end, exchanged_more, exchanged_same}
use Rattle.ct_table.proofs.exchanging.exchange.Goals as goal
use Rattle.ct_table.proofs.exchanging.exchange.Goals.{then-is_gone, else-is_gone}

pub loop-place-preserved : goal.loop-place-preserved
loop-place-preserved c =
    let gone = marked c.args.gone.now in
    let s = c.args.supports.now in
    let o = c.args.others.now in
    let k = c.loop-place.place in
    let are = c.loop-place.invariant in
    let within = c.loop-place-test.true in
    let back = sym c.requires in
    let other_within : c.loop-place.place < length c.args.others.now = let r = c.requires in omega (arith, within, r) in
    elim c.if-is_gone.branch [
      | then-is_gone w ↦
          let out : marked c.args.gone.now c.loop-place.place ≡ true = sym c.is_gone.ensures ∙ w.if-is_gone.true in
          let long = c.loop-place.auto.supports in
          let other_long = c.loop-place.auto.others in
          let there : slice_get c.loop-place.others c.loop-place.place ≡ Some w.swap.new.x =
          slice_get-get_or c.loop-place.others c.loop-place.place w.index-others-place.result (omega (arith, other_within, other_long))
          ∙ ap Some (sym w.swap.ensures.x_after) in
          let here : slice_get c.loop-place.supports c.loop-place.place ≡ Some w.swap.new.y =
          slice_get-get_or c.loop-place.supports c.loop-place.place w.index-supports-place.result (omega (arith, within, long))
          ∙ ap Some (sym w.swap.ensures.y_after) in (
            w.supports-is ∙ exchanged_more gone s o c.loop-place.supports c.loop-place.others k w.swap.new.x c.requires are.0 are.1 out there,
            w.others-is ∙ exchanged_more gone o s c.loop-place.others c.loop-place.supports k w.swap.new.y back are.1 are.0 out here,
          )
      | else-is_gone w ↦
          let stays : marked c.args.gone.now c.loop-place.place ≡ false = sym c.is_gone.ensures ∙ w.if-is_gone.false in (
            w.supports-is ∙ exchanged_same gone s o c.loop-place.supports k within c.requires are.0 stays,
            w.others-is ∙ exchanged_same gone o s c.loop-place.others k other_within back are.1 stays,
          )
    ]

pub returns-clause-supports : goal.returns-clause-supports
returns-clause-supports c =
    let gone = marked c.args.gone.now in
    let s = c.args.supports.now in
    let o = c.args.others.now in
    c.loop-place.invariant.0 ∙ over_end (exchanged gone s o) s c.loop-place.place (length-exchanged gone s o) c.loop-place-test.false

pub returns-clause-others : goal.returns-clause-others
returns-clause-others c =
    let gone = marked c.args.gone.now in
    let s = c.args.supports.now in
    let o = c.args.others.now in
    let past : length c.args.others.now ≤ c.loop-place.place = let t = c.loop-place-test.false in let r = c.requires in omega (arith, t, r) in
    c.loop-place.invariant.1 ∙ over_end (exchanged gone o s) o c.loop-place.place (length-exchanged gone o s) past
