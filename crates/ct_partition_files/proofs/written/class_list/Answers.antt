use Rattle.std.proofs.Common.{ℕ, ◌^◌, ◌<◌, List, length, sym, ap, subst, ◌∙◌}
use Rattle.std.specs.Prelude.{All}
use Rattle.toml.specs.Data.{Data, array}
use Rattle.toml.specs.View.{view, items_of}
use Rattle.toml.proofs.Views.{view-Array}
use Rattle.ct_fields.specs.Written.{word_texts}
use Rattle.ct_fields.proofs.PushedValues.{none_pushed, pushed, all_pushed}
use Rattle.ct_fields.proofs.Reserved.{room_left, room_stays}
use Rattle.ct_partition_files.proofs.WrittenLists.{short_class, texts_of_class, texts_of_classes}
use Rattle.ct_partition_files.proofs.written.class_list.Goals as goal

pub loop-class-init : goal.loop-class-init
loop-class-init c = (
  none_pushed view (texts_of_class c.args.n) c.in_ok-values.values.items c.args.classes.now c.in_ok-values.ensures.items,
  (c.in_ok-values.ensures.len, c.in_ok-values.ensures.capacity),
)

pub word_values-requires-clause-words : goal.word_values-requires-clause-words
word_values-requires-clause-words c =
    subst (λ (words : List ℕ). All (λ x. x < 2 ^ c.args.n) words) (sym c.deref.ensures.value)
    (short_class c.args.n c.args.classes.now c.loop-class.class-index c.class-item.result c.loop-class-test.true c.class-item.is c.requires.words)

pub push_reserved-requires : goal.push_reserved-requires
push_reserved-requires c =
    room_left c.loop-class.values c.loop-class.class-index (length c.args.classes.now) c.loop-class.invariant.1 c.loop-class-test.true

pub loop-class-preserved : goal.loop-class-preserved
loop-class-preserved c = (
  pushed view (texts_of_class c.args.n) c.loop-class.values.items c.push_reserved.new.self.items c.in_ok-word_values.field-0 c.args.classes.now
      c.loop-class.class-index c.class-item.result c.loop-class-test.true c.class-item.is
      (c.in_ok-word_values.ensures ∙ ap (word_texts c.args.n) c.deref.ensures.value) c.push_reserved.ensures.items c.loop-class.invariant.0,
  room_stays c.loop-class.values c.push_reserved.new.self c.loop-class.class-index (length c.args.classes.now) c.loop-class.invariant.1
      c.push_reserved.ensures.len c.push_reserved.ensures.capacity,
)

pub returns : goal.returns
returns c =
    view-Array c.loop-class.values
    ∙ ap (λ (ds : List Data). array (items_of ds))
    (all_pushed view (texts_of_class c.args.n) c.loop-class.values.items c.args.classes.now c.loop-class.class-index c.loop-class-test.false
    c.loop-class.invariant.0
    ∙ texts_of_classes c.args.n c.args.classes.now)

pub word_values-requires-clause-room : goal.word_values-requires-clause-room
word_values-requires-clause-room c = c.requires.room

pub bounds-classes-class-index : goal.bounds-classes-class-index
bounds-classes-class-index c = c.loop-class-test.true
