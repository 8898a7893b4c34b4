use Rattle.std.proofs.Common.{◌≡◌, ◌+◌, ◌++◌, ◌∷◌, [], List, ℕ, All, take, take_all, sym, ap, subst, ◌∙◌}
use Rattle.std.proofs.lemmas.List.{take_more}
use Rattle.std.proofs.lemmas.List.Elements.{All-nil, All-cons, All-head, All-tail, All-append}
use Rattle.ct_rules.specs.Derivation.{LineValue}
use Rattle.ct_rule_parts.specs.Slot.{Slot}
use Rattle.ct_slots.specs.Worklist.{WorkValue, IsMarked}
use Rattle.ct_table.specs.Inside.Removing.{IsMarkedIfLost}
use Rattle.ct_table.proofs.left.mark_lost.Goals as goal

-- marks that are there stay
still_marked : (bounds : List ℕ) (old new : WorkValue) (lines : List LineValue) → ((t : Slot) → IsMarked old t → IsMarked new t)
    → All (IsMarkedIfLost bounds old) lines → All (IsMarkedIfLost bounds new) lines
still_marked bounds old new [] more all = All-nil (IsMarkedIfLost bounds new)
still_marked bounds old new (l ∷ lines) more all =
    let here : IsMarkedIfLost bounds new l = λ better. more _ (All-head (IsMarkedIfLost bounds old) l lines all better) in
    All-cons (IsMarkedIfLost bounds new) l lines here
    (still_marked bounds old new lines more (All-tail (IsMarkedIfLost bounds old) l lines all))

pub loop-line-preserved : goal.loop-line-preserved
loop-line-preserved c =
    let lines = c.args.later.now in
    let i = c.loop-line.line-index in
    let l = c.line-item.result in
    let bounds = c.args.kept.now.bounds in
    let new = c.mark_if_lost.new.work in
    let one : take c.loop-line.line-index c.args.later.now ++ c.line-item.result ∷ []
    ≡ take (c.loop-line.line-index + 1) c.args.later.now =
    ap (λ (k : LineValue). take c.loop-line.line-index c.args.later.now ++ k ∷ []) c.line-item.is
    ∙ sym (take_more lines i l c.loop-line-test.true) in
    subst (All (IsMarkedIfLost bounds new)) one
    (All-append (IsMarkedIfLost bounds new) (take i lines) (l ∷ [])
    (still_marked bounds c.loop-line.work new (take i lines) c.mark_if_lost.ensures.kept c.loop-line.invariant)
    (All-cons (IsMarkedIfLost bounds new) l [] c.in_ok-mark_if_lost.ensures.lost (All-nil (IsMarkedIfLost bounds new))))

pub returns : goal.returns
returns c =
    subst (All (IsMarkedIfLost c.args.kept.now.bounds c.loop-line.work))
    (take_all c.loop-line.line-index c.args.later.now c.loop-line-test.false) c.loop-line.invariant
