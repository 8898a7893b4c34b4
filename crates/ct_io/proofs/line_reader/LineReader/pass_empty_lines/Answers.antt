use Rattle.std.proofs.Common.{◌≡◌, ℕ, ◌++◌, Bool, false, List, Option, Some, None, is_some, replicate, refl, sym, subst}
use Rattle.std.proofs.lemmas.Bool.{false≢true}
use Rattle.ct_text.specs.declared.document_lines.TheConstants.{LINE_FEED}
use Rattle.ct_io.specs.declared.line_fault.LineFault.{LineFault}
use Rattle.ct_io.specs.Inside.Settled.{IsSettled}
use Rattle.ct_io.specs.Reader.{Reader, PassesEmptyLines}
use Rattle.ct_io.proofs.line_reader.LineReader.pass_empty_lines.Goals as goal

-- line feeds at the front are dropped, and all else stays
passed : (old held : List ℕ) (kept now taken : ℕ) (ended : Bool) (fault : Option LineFault) → ((count : ℕ) × (old ≡ replicate count LINE_FEED ++ held))
    → now ≡ kept
    → PassesEmptyLines (record { held = old; kept = kept; taken = taken; ended = ended; fault = fault })
    (record { held = held; kept = now; taken = taken; ended = ended; fault = fault })
passed old held kept now taken ended fault (count, is) same =
    (count, is, λ i. record { held = held; kept = same i; taken = taken; ended = ended; fault = fault })

pub returns-then-is_none-clause-passed : goal.returns-then-is_none-clause-passed
returns-then-is_none-clause-passed c =
    let intake = c.self.inside.intake in
    let held = c.pass_feeds.new.self in
    let now : Reader = record { held = held.bytes; kept = held.kept; taken = intake.taken; ended = intake.ended; fault = c.self.inside.fault } in
    subst (λ (r : Reader). PassesEmptyLines r now) c.self.view_is
    (passed intake.held.bytes held.bytes intake.held.kept held.kept intake.taken intake.ended c.self.inside.fault c.pass_feeds.ensures.passed
    c.pass_feeds.ensures.kept)

pub returns-else-is_none-clause-passed : goal.returns-else-is_none-clause-passed
returns-else-is_none-clause-passed c = (0, refl, refl)

-- a reader without a fault means the same, whatever it holds
healthy : (held now : List ℕ) (ended : Bool) (taken : ℕ) (fault : Option LineFault) → is_some fault ≡ false → IsSettled held ended taken fault
    → IsSettled now ended taken fault
healthy held now ended taken None none settled = settled
healthy held now ended taken (Some fault) none settled = absurd (false≢true (sym none))

pub invariant_of-self : goal.invariant_of-self
invariant_of-self c =
    let intake = c.self.inside.intake in (
      healthy intake.held.bytes c.pass_feeds.new.self.bytes intake.ended intake.taken c.self.inside.fault c.if-is_none.ensures c.self.invariant.0,
      c.pass_feeds.ensures.all_kept,
    )
