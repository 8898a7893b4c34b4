use Rattle.std.proofs.Common.{Option, Err, Ok, sym, subst}
use Rattle.ct_io.specs.declared.line_fault.LineFault.{LineFault}
use Rattle.ct_io.specs.Inside.Settled.{IsSettled}
use Rattle.ct_io.proofs.NextLineLemmas.{GivesNext-again, GivesNext-on, settled-at_fault}
use Rattle.ct_io.proofs.line_reader.LineReader.give_next.Goals as goal

pub returns-in-Some : goal.returns-in-Some
returns-in-Some g c = GivesNext-again _ _ c.self.inside.intake c.self.inside.fault _ _ c.in-Some.fault c.self.view_is c.in-Some.is c.self.invariant

pub returns-in-Ok : goal.returns-in-Ok
returns-in-Ok g c =
    GivesNext-on _ _ c.self.inside.intake c.next_line.new.self c.self.inside.fault c.self.inside.fault _ _ _ (Ok c.in-Ok.line) c.self.view_is c.in_default.is c.in_default.is c.in-Ok.ensures

pub returns-in-Err : goal.returns-in-Err
returns-in-Err g c =
    GivesNext-on _ _ c.self.inside.intake c.next_line.new.self c.self.inside.fault c.fault_to_keep-self-inside.result _ _ _ (Err c.in-Err.fault) c.self.view_is c.in_default.is c.fault_to_keep-self-inside.ensures c.in-Err.ensures

pub invariant_of-self : goal.invariant_of-self
invariant_of-self g c =
    let intake = c.next_line.new.self in (
      subst (λ (fault : Option LineFault). IsSettled intake.held.bytes intake.ended intake.taken fault) (sym c.in_default.is) c.in-Ok.ensures.within,
      c.in-Ok.ensures.all_kept,
    )

pub invariant_of-self-in-Err : goal.invariant_of-self-in-Err
invariant_of-self-in-Err g c =
    let intake = c.next_line.new.self in (
      subst (λ (fault : Option LineFault). IsSettled intake.held.bytes intake.ended intake.taken fault) (sym c.fault_to_keep-self-inside.ensures)
          (settled-at_fault intake.held.bytes intake.ended intake.taken _ _ c.in-Err.fault c.in-Err.ensures.fault),
      c.in-Err.ensures.all_kept,
    )
