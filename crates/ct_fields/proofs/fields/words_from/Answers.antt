use Rattle.std.proofs.Common.{length}
use Rattle.ct_fields.proofs.Reserved.{room_left, room_stays}
use Rattle.ct_fields.proofs.ReadLists.{words_from-begin, words_from-more, words_from-none, words_from-end}
use Rattle.ct_fields.proofs.fields.words_from.Goals as goal

pub loop-place-init : goal.loop-place-init
loop-place-init c = (
  words_from-begin c.args.n c.args.first c.args.texts.now c.in_ok-words.words.items c.in_ok-words.ensures.items,
  (c.in_ok-words.ensures.len, c.in_ok-words.ensures.capacity),
)

pub push_reserved-requires : goal.push_reserved-requires
push_reserved-requires c =
    room_left c.loop-place.words c.loop-place.place (length c.args.texts.now) c.loop-place.invariant.1 c.loop-place-test.true

pub loop-place-preserved : goal.loop-place-preserved
loop-place-preserved c = (
  words_from-more c.args.n c.args.first c.args.texts.now c.loop-place.place c.loop-place.words.items _ c.loop-place.invariant.0 _
      c.as_bytes.result.now c.loop-place-test.true c.as_bytes.ensures.value c.in-Ok.word c.push_reserved.new.self.items c.in-Ok.ensures.word
      c.push_reserved.ensures.items,
  room_stays c.loop-place.words c.push_reserved.new.self c.loop-place.place (length c.args.texts.now) c.loop-place.invariant.1
      c.push_reserved.ensures.len c.push_reserved.ensures.capacity,
)

pub returns-in_default : goal.returns-in_default
returns-in_default c = λ own.
    words_from-none c.args.n c.args.first c.args.texts.now c.loop-place.place c.loop-place.words.items _ c.loop-place.invariant.0 _
    c.as_bytes.result.now c.loop-place-test.true c.as_bytes.ensures.value c.in_default.ensures.word

pub returns : goal.returns
returns c = words_from-end c.args.n c.args.first c.args.texts.now c.loop-place.place c.loop-place.words.items _ c.loop-place.invariant.0 c.loop-place-test.false

pub parse_word-requires-clause-some : goal.parse_word-requires-clause-some
parse_word-requires-clause-some c = c.requires.some

pub parse_word-requires-clause-room : goal.parse_word-requires-clause-room
parse_word-requires-clause-room c = c.requires.room
