use Rattle.std.proofs.Common.{ℕ, List, length, get_or, ap, ◌∙◌}
use Rattle.std.proofs.lemmas.List.{get_or_default}
use Rattle.toml.specs.Data.{Data, string, array}
use Rattle.toml.specs.View.{view, items_of}
use Rattle.toml.proofs.Views.{view-Array}
use Rattle.ct_words.specs.Text.{word_text}
use Rattle.ct_fields.proofs.PushedValues.{none_pushed, pushed, all_pushed}
use Rattle.ct_fields.proofs.Reserved.{room_left, room_stays}
use Rattle.ct_fields.proofs.writing.word_values.Goals as goal

pub loop-word-init : goal.loop-word-init
loop-word-init c = (
  none_pushed view (λ (x : ℕ). string (word_text c.args.n x)) c.in_ok-values.values.items c.args.words.now c.in_ok-values.ensures.items,
  (c.in_ok-values.ensures.len, c.in_ok-values.ensures.capacity),
)

pub push_reserved-requires : goal.push_reserved-requires
push_reserved-requires c =
    room_left c.loop-word.values c.loop-word.word-index (length c.args.words.now) c.loop-word.invariant.1 c.loop-word-test.true

pub loop-word-preserved : goal.loop-word-preserved
loop-word-preserved c =
    let words = c.args.words.now in
    let i = c.loop-word.word-index in (
      pushed view (λ (x : ℕ). string (word_text c.args.n x)) c.loop-word.values.items c.push_reserved.new.self.items c.in_ok-word_value.field-0 words i
          (get_or words i 0) c.loop-word-test.true (get_or_default words i 0 _ c.loop-word-test.true) c.in_ok-word_value.ensures
          c.push_reserved.ensures.items c.loop-word.invariant.0,
      room_stays c.loop-word.values c.push_reserved.new.self i (length words) c.loop-word.invariant.1 c.push_reserved.ensures.len
          c.push_reserved.ensures.capacity,
    )

pub returns : goal.returns
returns c =
    view-Array c.loop-word.values
    ∙ ap (λ (ds : List Data). array (items_of ds))
    (all_pushed view (λ (x : ℕ). string (word_text c.args.n x)) c.loop-word.values.items c.args.words.now c.loop-word.word-index c.loop-word-test.false
    c.loop-word.invariant.0)

pub word_value-requires-clause-room : goal.word_value-requires-clause-room
word_value-requires-clause-room c = c.requires.room

pub word_value-requires-clause-word : goal.word_value-requires-clause-word
word_value-requires-clause-word c = c.requires.words c.loop-word.word-index 0 c.loop-word-test.true

pub bounds-words-word-index : goal.bounds-words-word-index
bounds-words-word-index c = c.loop-word-test.true
