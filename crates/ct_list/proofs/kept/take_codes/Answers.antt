use Rattle.std.proofs.Common.{◌+◌, ◌<◌, ◌++◌, ◌||◌, length, take, drop, get_or, List, [], refl, sym, ap, subst, ◌∙◌, arith, take_all}
use Rattle.ct_words.specs.Constructions.Places.{is_among}
use Rattle.ct_words.specs.Code.{CodeValue}
use Rattle.ct_list.specs.Inside.Kept.{AreCodesFor, AreKept, named_by, is_named}
use Rattle.ct_list.proofs.KeptCodes.{next_code, taken, as_many_kept, drop_past, rest_is}
use Rattle.ct_list.proofs.kept.take_codes.Goals as goal

pub take_code-requires : goal.take_code-requires
take_code-requires c =
    let from = c.args.from.now in
    let k = c.loop-k.k in
    let within : k < length from = c.loop-k-test.true in
    let known = c.loop-k.invariant.1 c.requires.kept.0 c.requires.kept.1 in
    let size = c.loop-k.invariant.0 in
    let below = c.requires.built k 0 within in
    let here = next_code c.requires.kept.0 c.loop-k.kept.items from (named_by c.args.rest.now) k within (omega arith) known.0 in
    (here.1, here.3)

pub loop-k-preserved : goal.loop-k-preserved
loop-k-preserved c =
    let from = c.args.from.now in
    let rest = c.args.rest.now in
    let k = c.loop-k.k in
    let p = get_or from k 0 in
    let kept = c.loop-k.kept.items in
    let new = c.take_code.new.kept.items in
    let needed = c.is_pending-is_needed.result in
    let within : k < length from = c.loop-k-test.true in
    let size = c.loop-k.invariant.0 in
    let below = c.requires.built k 0 within in
    let built : p < length kept = omega arith in
    let is = ap (λ places. is_among places p || is_named rest p) (sym (rest_is from (k + 1))) ∙ sym c.is_pending-is_needed.ensures in
    let new_is = c.in_ok-code.ensures.kept in (
      ap length new_is ∙ as_many_kept kept p needed ∙ size,
      λ lines start.
          let before = c.loop-k.invariant.1 lines start in
          subst (λ (codes : List CodeValue). AreKept lines new (drop (k + 1) from ++ named_by rest) × AreCodesFor lines (take (k + 1) from) codes)
          (sym c.in_ok-push.ensures.items)
          (taken lines kept new from rest k c.loop-k.codes.items c.in_ok-code.code needed within built is new_is c.in_ok-code.ensures.code before.0 before.1),
    )

pub returns-clause-kept : goal.returns-clause-kept
returns-clause-kept c = λ lines start.
    let from = c.args.from.now in
    let known = (c.loop-k.invariant.1 lines start).0 in
    subst (λ ps. AreKept lines c.loop-k.kept.items (ps ++ named_by c.args.rest.now)) (drop_past from c.loop-k.k (omega (arith, c.loop-k-test.false))) known

pub returns-clause-codes : goal.returns-clause-codes
returns-clause-codes c = λ lines start.
    subst (λ ps. AreCodesFor lines ps c.loop-k.codes.items) (take_all c.loop-k.k c.args.from.now (omega (arith, c.loop-k-test.false)))
    (c.loop-k.invariant.1 lines start).1

pub loop-k-init : goal.loop-k-init
loop-k-init c = (
  refl,
  λ lines start. (start, subst (λ (codes : List CodeValue). AreCodesFor lines [] codes) (sym c.in_ok-codes.ensures.items) tt),
)

pub returns-clause-size : goal.returns-clause-size
returns-clause-size c = c.loop-k.invariant.0
