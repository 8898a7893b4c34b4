use Rattle.std.proofs.Common.{ℕ, List, Bool, subst}
use Rattle.std.proofs.KnownBytes.{Consumes-whole}
use Rattle.ct_io.specs.Lines.{lines_of}
use Rattle.ct_io.specs.Told.{AppendsProperPrefix}
use Rattle.ct_find.specs.Reply.{AreFoundReplies, IsFound}
use Rattle.ct_find.proofs.source.find_source.Goals as goal

pub returns-in_err-write_text-clause-written_in_part : goal.returns-in_err-write_text-clause-written_in_part
returns-in_err-write_text-clause-written_in_part g c = λ is.
    let old = g.K.Sink.holds c.args.sink.now in
    let new = g.K.Sink.holds c.write_text.new.sink in
    let replies = c.in_ok-replies.replies in
    let found = subst (λ (input : List ℕ). AreFoundReplies (lines_of input) replies.text.items replies.refused) c.deref.ensures.value c.in_ok-replies.ensures in
    let part = subst (AppendsProperPrefix old new) c.deref-2.ensures.value c.in_err-write_text.ensures.unwritten in
    Consumes-whole (g.S.Source.left c.args.source.now) (g.S.Source.left c.read_input.new.source) c.in_ok-input.input.items
    (λ (input : List ℕ). (output : List ℕ) × (refused : Bool) × IsFound input output refused × AppendsProperPrefix old new output)
    c.in_ok-input.ensures.input c.in_ok-input.ensures.to_end
    (replies.text.items, replies.refused, found, part)
