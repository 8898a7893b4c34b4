use Rattle.std.proofs.Common.{length, ◌∷◌, [], sym, ap, ◌∙◌}
use Rattle.std.proofs.lemmas.List.{map-append}
use Rattle.toml.specs.Data.{as_str}
use Rattle.toml.specs.View.{items_view}
use Rattle.ct_fields.specs.Reads.{texts_behind}
use Rattle.ct_fields.proofs.Reserved.{room_left, room_stays}
use Rattle.ct_fields.proofs.ReadLists.{all_of-begin, all_of-more, all_of-none, all_of-end, texts_of-all}
use Rattle.ct_fields.proofs.fields.texts_of.Goals as goal

pub loop-value-init : goal.loop-value-init
loop-value-init c = (
  all_of-begin as_str c.args.values.now (texts_behind c.in_ok-texts.texts.items) (ap texts_behind c.in_ok-texts.ensures.items),
  (c.in_ok-texts.ensures.len, c.in_ok-texts.ensures.capacity),
)

pub push_reserved-requires : goal.push_reserved-requires
push_reserved-requires c =
    room_left c.loop-value.texts c.loop-value.value-index (length c.args.values.now) c.loop-value.invariant.1 c.loop-value-test.true

pub loop-value-preserved : goal.loop-value-preserved
loop-value-preserved c =
    let text = c.in-Some.text in
    let texts = c.loop-value.texts.items in
    let new-is = ap texts_behind c.push_reserved.ensures.items ∙ map-append (λ r. r.now) texts (text ∷ []) in (
      all_of-more as_str c.args.values.now c.loop-value.value-index (texts_behind texts) _ c.loop-value.invariant.0
          c.value-item.result text.now (texts_behind c.push_reserved.new.self.items) c.loop-value-test.true c.value-item.is (sym c.in-Some.ensures) new-is,
      room_stays c.loop-value.texts c.push_reserved.new.self c.loop-value.value-index (length c.args.values.now) c.loop-value.invariant.1
          c.push_reserved.ensures.len c.push_reserved.ensures.capacity,
    )

pub returns-in_default : goal.returns-in_default
returns-in_default c =
    all_of-none as_str c.args.values.now c.loop-value.value-index (texts_behind c.loop-value.texts.items) _ c.loop-value.invariant.0
    c.value-item.result c.loop-value-test.true c.value-item.is (sym c.in_default.ensures)
    ∙ texts_of-all (items_view c.args.values.now)

pub returns : goal.returns
returns c =
    all_of-end as_str c.args.values.now c.loop-value.value-index (texts_behind c.loop-value.texts.items) _ c.loop-value.invariant.0 c.loop-value-test.false
    ∙ texts_of-all (items_view c.args.values.now)
