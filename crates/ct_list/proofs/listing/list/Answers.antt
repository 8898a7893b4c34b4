use Rattle.std.proofs.Common.{ap, ◌∙◌}
use Rattle.ct_words.specs.declared.entry.Entry.{Entry}
use Rattle.ct_piece.specs.Supports.{supports_of}
use Rattle.ct_list.proofs.Walk.{explained_by, listed}
use Rattle.ct_list.proofs.listing.list.Goals as goal

pub returns-clause-code : goal.returns-clause-code
returns-clause-code c =
    let table = c.table-table.result.now in
    let supports = supports_of c.args.ledger.now.pieces in
    let same = c.table-table.ensures.supports in
    let why = c.reason.ensures.claim in
    let explained =
    explained_by table supports c.in_ok-lines.lines.items c.deref.result.now c.args.entry c.reason.result why.0 why.2 c.in_ok-lines.ensures
    same c.deref.ensures.value in
    listed table.supports supports c.args.entry why.0 c.in_ok-code.code why.1 same (c.in_ok-code.ensures.code c.args.entry why.0 explained)
    c.n-n.ensures.sound

pub last_code-requires : goal.last_code-requires
last_code-requires c =
    let table = c.table-table.result.now in
    let supports = supports_of c.args.ledger.now.pieces in
    let why = c.reason.ensures.claim in (
      c.args.entry,
      why.0,
      explained_by table supports c.in_ok-lines.lines.items c.deref.result.now c.args.entry c.reason.result why.0 why.2 c.in_ok-lines.ensures
          c.table-table.ensures.supports c.deref.ensures.value,
    )

pub prove-unreachable-requires-2 : goal.prove-unreachable-requires-2
prove-unreachable-requires-2 c =
    let table = c.table-table.result.now in
    let supports = supports_of c.args.ledger.now.pieces in
    let why = c.reason.ensures.claim in
    let explained =
    explained_by table supports c.in_ok-lines.lines.items c.deref.result.now c.args.entry c.reason.result why.0 why.2 c.in_ok-lines.ensures
    c.table-table.ensures.supports c.deref.ensures.value in
    let known = c.in_ok-code.ensures.code c.args.entry why.0 explained in
    c.if-prove-2.true (c.n-n.ensures.value ∙ ap (λ (f : Entry). f.n) known.entry)
