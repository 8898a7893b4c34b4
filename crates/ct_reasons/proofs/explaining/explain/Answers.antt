use Rattle.std.proofs.Common.{◌<◌, List, All, length, sym, subst}
use Rattle.ct_words.specs.declared.claim.Claim.{Claim}
use Rattle.ct_rule_parts.specs.Slot.{slot_of, claim_at}
use Rattle.ct_rules.specs.Derivation.{LineValue}
use Rattle.ct_derive.specs.Explanation.{IsExplanation}
use Rattle.ct_derive.specs.Pieces.{cited_places, AreNeeded}
use Rattle.ct_derive.proofs.NeededPieces.{cited_within}
use Rattle.ct_derive.proofs.ClaimedLines.{line_with_claim}
use Rattle.ct_derive.proofs.MarkedLines.{named_below_line}
use Rattle.ct_reasons.proofs.explaining.explain.Goals as goal

pub needed_pieces-requires-clause-cited : goal.needed_pieces-requires-clause-cited
needed_pieces-requires-clause-cited g c =
    let reason = c.reason.ensures.claim in
    let line = line_with_claim c.args.table.now.lines c.reason.result (claim_at (c.args.side, c.args.entry) reason.0) reason.2 in
    let explained = c.in_ok-lines.ensures line.0 line.1 in
    let within = cited_within c.args.table.now.supports c.in_ok-lines.lines.items explained.derivation in
    subst (λ n. All (λ p. p < n) (cited_places c.deref.result.now)) (sym c.requires.pieces)
    (subst (λ (lines : List LineValue). All (λ p. p < length c.args.table.now.supports) (cited_places lines)) (sym c.deref.ensures.value) within)

pub returns : goal.returns
returns g c =
    let reason = c.reason.ensures.claim in
    let line = line_with_claim c.args.table.now.lines c.reason.result (claim_at (c.args.side, c.args.entry) reason.0) reason.2 in
    let explained = c.in_ok-lines.ensures line.0 line.1 in
    record {
      lines = (
        reason.0,
        reason.1,
        subst (λ (x : Claim). IsExplanation c.args.table.now.supports (slot_of x) x.value c.in_ok-lines.lines.items) line.2 explained,
      );
      pieces =
          subst (λ (lines : List LineValue). AreNeeded (g.P.PieceParts.parts_of c.args.pieces.now) lines c.in_ok-pieces.pieces.items) c.deref.ensures.value
          c.in_ok-pieces.ensures;
      ordered = λ i l at.
          named_below_line c.args.table.now.supports c.in_ok-lines.lines.items i l explained.derivation at;
    }
