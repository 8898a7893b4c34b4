use Rattle.std.proofs.Common.{ℕ, ◌+◌, ◌^◌, ◌<◌, List, length, Global, refl, sym, ap, subst, ◌∙◌}
use Rattle.std.specs.Prelude.{Vec}
use Rattle.std.specs.Borrow.{Bor}
use Rattle.std.proofs.lemmas.List.{length-map}
use Rattle.std.proofs.lemmas.Result.{err_from_is_err_and}
use Rattle.ct_classes.specs.Partition.{word_lists}
use Rattle.ct_fields.specs.Reads.{texts_behind}
use Rattle.ct_fields.specs.Fields.{words_from}
use Rattle.ct_fields.proofs.Reserved.{room_left, room_stays}
use Rattle.ct_fields.proofs.OneAnswer.{handed_on}
use Rattle.ct_partition_files.specs.Lists.{lists_behind, classes_from}
use Rattle.ct_partition_files.proofs.ReadClasses.{classes_on-none, classes_from-more, classes_from-fault, classes_from-end}
use Rattle.ct_partition_files.proofs.lists.classes_from.Goals as goal

pub loop-texts-init : goal.loop-texts-init
loop-texts-init c = (
  classes_on-none c.in_ok-classes.classes.items (classes_from c.args.n 0 (lists_behind c.args.lists.now)) c.in_ok-classes.ensures.items,
  (c.in_ok-classes.ensures.len, c.in_ok-classes.ensures.capacity),
)

pub push_reserved-requires : goal.push_reserved-requires
push_reserved-requires c =
    room_left c.loop-texts.classes c.loop-texts.texts-index (length c.args.lists.now) c.loop-texts.invariant.1 c.loop-texts-test.true

pub loop-texts-preserved : goal.loop-texts-preserved
loop-texts-preserved c =
    let texts = c.texts-item.result in
    let long = length-map texts.items (λ (r : Bor (List ℕ)). r.now) in
    let after = c.in-Some.ensures.1 ∙ ap (λ (count : ℕ). c.loop-texts.first + count) (c.len.ensures ∙ texts.ok.0 ∙ sym long) in (
      classes_from-more c.args.n c.loop-texts.first c.args.lists.now c.loop-texts.texts-index c.loop-texts.classes.items _ c.loop-texts.invariant.0
          texts c.loop-texts-test.true c.texts-item.is c.in_ok-words_from.field-0 c.push_reserved.new.self.items c.in-Some.after
          (ap (λ (ts : List (Bor (List ℕ))). words_from c.args.n c.loop-texts.first (texts_behind ts)) (sym c.deref.ensures.value)
          ∙ c.in_ok-words_from.ensures) c.push_reserved.ensures.items after,
      room_stays c.loop-texts.classes c.push_reserved.new.self c.loop-texts.texts-index (length c.args.lists.now) c.loop-texts.invariant.1
          c.push_reserved.ensures.len c.push_reserved.ensures.capacity,
    )

pub returns : goal.returns
returns c =
    classes_from-end c.args.n c.loop-texts.first c.args.lists.now c.loop-texts.texts-index c.loop-texts.classes.items _ c.loop-texts.invariant.0
    c.loop-texts-test.false

pub words_from-requires-clause-some : goal.words_from-requires-clause-some
words_from-requires-clause-some c = c.requires.some

pub words_from-requires-clause-room : goal.words_from-requires-clause-room
words_from-requires-clause-room c = c.requires.room

pub words_from-requires-clause-places : goal.words_from-requires-clause-places
words_from-requires-clause-places c =
    subst (λ (count : ℕ). c.loop-texts.first + count < 2 ^ 64) (c.len.ensures ∙ sym c.deref.ensures.len) c.in-Some.ensures.0

pub returns-in_err-words_from : goal.returns-in_err-words_from
returns-in_err-words_from c =
    let texts = c.texts-item.result in
    let fault = c.in_err-words_from.field-0.0 in
    let p = err_from_is_err_and c.from_residual-in_err-words_from.result c.from_residual-in_err-words_from.ensures.1 in
    handed_on (λ (classes : Vec (Vec ℕ Global) Global). word_lists classes.items) c.from_residual-in_err-words_from.result
    (classes_from c.args.n 0 (lists_behind c.args.lists.now)) p.0 fault p.1 p.2 (λ other.
    classes_from-fault c.args.n c.loop-texts.first c.args.lists.now c.loop-texts.texts-index c.loop-texts.classes.items
    (classes_from c.args.n 0 (lists_behind c.args.lists.now)) c.loop-texts.invariant.0 texts c.loop-texts-test.true c.texts-item.is fault
    (ap (λ (ts : List (Bor (List ℕ))). words_from c.args.n c.loop-texts.first (texts_behind ts)) (sym c.deref.ensures.value)
    ∙ c.in_err-words_from.ensures other))

pub returns-in_default : goal.returns-in_default
returns-in_default c = λ other. absurd (other refl)

pub bounds-lists-texts-index : goal.bounds-lists-texts-index
bounds-lists-texts-index c = c.loop-texts-test.true
