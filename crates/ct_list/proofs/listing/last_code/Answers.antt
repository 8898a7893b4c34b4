use Rattle.std.proofs.Common.{◌≡◌, ℕ, ◌-◌, List, length, drop, Option, refl, sym, ap, subst, ◌∙◌, arith}
use Rattle.ct_words.specs.declared.claim.Side.TheVariants.{Lower}
use Rattle.ct_words.specs.declared.entry.Entry.{Entry}
use Rattle.ct_words.specs.Code.{CodeValue}
use Rattle.ct_ledger.specs.Ledger.{LedgerValue}
use Rattle.ct_derive.specs.Explanation.{IsExplanation}
use Rattle.ct_list.specs.Inside.Kept.{AreKept, named_by}
use Rattle.ct_list.proofs.KeptCodes.{kept-none}
use Rattle.ct_derive.proofs.PrunedLines.{some_at}
use Rattle.ct_piece.specs.Supports.{supports_of}
use Rattle.ct_list.proofs.Walk.{some_lines, one_kept, last_code_here}
use Rattle.ct_list.proofs.listing.last_code.Goals as goal

pub loop-place-preserved : goal.loop-place-preserved
loop-place-preserved c =
    let lines = c.args.lines.now in
    let place = c.loop-place.place in
    let line = some_at lines place (let before = c.loop-place-test.true in omega arith) in
    let kept = one_kept lines c.next_code.new.kept.items c.push.new.self.items place line.0 c.in_ok-code.code c.in_ok-push.ensures.items
    c.in_ok-code.ensures.size line.1 (c.in_ok-code.ensures.code line.0 line.1) c.in_ok-code.ensures.kept in
    (kept.0, kept.1, c.next_code.ensures.unchanged ∙ c.loop-place.invariant.2)

pub next_code-requires-2-clause-place : goal.next_code-requires-2-clause-place
next_code-requires-2-clause-place c =
    let why = c.requires in
    let some = some_lines (supports_of c.args.ledger.now.pieces) why.0 why.1 c.args.lines.now why.2 in
    omega (arith, some)

pub loop-place-init : goal.loop-place-init
loop-place-init c =
    let lines = c.args.lines.now in
    let none = c.in_ok-kept.ensures.items in (
      ap length none,
      subst (λ (kept : List (Option CodeValue)). AreKept lines kept (named_by lines)) (sym none) (kept-none lines (named_by lines)),
      refl,
    )

pub next_code-requires-clause-explained : goal.next_code-requires-clause-explained
next_code-requires-clause-explained c =
    let lines = c.args.lines.now in
    subst (λ (l : LedgerValue). (e : Entry) × (v : ℕ) × IsExplanation (supports_of l.pieces) (Lower, e) v lines) (sym c.loop-place.invariant.2)
    c.requires

pub next_code-requires-2-clause-explained : goal.next_code-requires-2-clause-explained
next_code-requires-2-clause-explained c =
    let lines = c.args.lines.now in
    subst (λ (l : LedgerValue). (e : Entry) × (v : ℕ) × IsExplanation (supports_of l.pieces) (Lower, e) v lines) (sym c.loop-place.invariant.2)
    c.requires

pub next_code-requires-2-clause-kept : goal.next_code-requires-2-clause-kept
next_code-requires-2-clause-kept c =
    let lines = c.args.lines.now in
    let last : c.loop-place.place ≡ length lines - 1 = omega (arith, c.loop-place-test.false, c.loop-place.auto.place-end) in
    subst (λ (place : ℕ). AreKept lines c.loop-place.kept.items (named_by (drop place lines))) last c.loop-place.invariant.1

pub returns-clause-code : goal.returns-clause-code
returns-clause-code c = λ e v explained.
    last_code_here (supports_of c.args.ledger.now.pieces) e v c.args.lines.now c.next_code-2.result explained c.next_code-2.ensures.code

pub returns-clause-unchanged : goal.returns-clause-unchanged
returns-clause-unchanged c = c.next_code-2.ensures.unchanged ∙ c.loop-place.invariant.2
