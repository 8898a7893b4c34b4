use Rattle.std.proofs.Common.{◌<◌, Err, ap, inr, subst}
use Rattle.std.proofs.lemmas.Result.{err_from_is_err_and}
use Rattle.ct_io.specs.Reader.{Reader}
use Rattle.ct_session.specs.Inside.Serving.{unserved}
use Rattle.ct_session.proofs.Serving.{advances, after_writing, at_end, puts_later, serves_on, serves_to_end, took_more, within_limit}
use Rattle.ct_session.proofs.FewLeft.{few_past_line, still_few}
use Rattle.ct_session.proofs.PassingOver.{passed_over, sooner}
use Rattle.ct_session.proofs.Endings.{Faulted, readied, risen, err_is, ends_unwritten, ends_fault}
use Rattle.ct_session.proofs.LineEndings.{ends_at_line}
use Rattle.ct_session.proofs.serve.serve_line.Goals as goal

pub returns-in_err-make_ready : goal.returns-in_err-make_ready
returns-in_err-make_ready g c = λ begin h.
    let past = (passed_over _ c.pass_over.new.reader _ _ _ h c.pass_over.ensures).0 in
    let p = err_from_is_err_and c.from_residual.result c.from_residual.ensures.1 in
    let ends = ends_unwritten _ _ _ _ _ p.0 past c.in_err-make_ready.ensures.put in
    rw p.1 (ends p.2)

pub returns-in-Err : goal.returns-in-Err
returns-in-Err g c = λ begin begun.
    let m = c.in_ok-make_ready.ensures in
    let past = passed_over _ c.pass_over.new.reader _ _ _ begun c.pass_over.ensures in
    let h = readied _ c.make_ready.new.reader _ _ _ _ past.0 m.same m.put in
    let e = c.in-Err.ensures in
    let faulted : Faulted c.make_ready.new.reader c.next_line.new.self _ _ c.in-Err.fault = record {
      rose = λ is. risen _ _ _ h.healthy (e.read_fault (ap Err is));
      line = λ is. e.no_line_held (ap Err is);
      long = λ t is. e.too_long t (ap Err is);
      part = λ t is. e.last_read t (ap Err is);
      above = λ many. err_is _ _ (e.above_limit many);
      few = e.one_read_past;
      looks = λ is. e.few_at_memory (ap Err is);
      unread = λ need. (e.unread need).0;
      lasts = e.ended;
      going = e.unended;
    } in
    let written = rw c.from.ensures at c.break_off.ensures in
    ends_fault _ _ _ _ _ _ _ _ c.in-Err.fault _ h m.ready e.taken faulted written

pub returns-in_err-answer_line-in-Ok-Some : goal.returns-in_err-answer_line-in-Ok-Some
returns-in_err-answer_line-in-Ok-Some g c = λ begin begun.
    let m = c.in_ok-make_ready.ensures in
    let past = passed_over _ c.pass_over.new.reader _ _ _ begun c.pass_over.ensures in
    let h = readied _ c.make_ready.new.reader _ _ _ _ past.0 m.same m.put in
    let e = c.in-Ok-Some.ensures in
    let takes = rw c.in-Ok-Some.field-0-is at e.taken in
    let loses = rw c.in-Ok-Some.field-0-is at e.lines in
    let little = rw c.in-Ok-Some.field-0-is at e.little in
    let few = still_few _ _ h.few little in
    let within = within_limit _ _ e.above_limit in
    let took = took_more _ _ _ _ _ e.taken.0 h.took e.taken.1 e.taken.2 in
    let done = at_end g.S.Source.left _ _ c.make_ready.new.reader.ended _ h.ended e.end (λ ended. (e.unread (inr ended)).1) in
    let p = err_from_is_err_and c.from_residual-in_err-answer_line-in-Ok-Some.result c.from_residual-in_err-answer_line-in-Ok-Some.ensures.1 in
    rw (p.1, p.2)
    (ends_at_line _ c.next_line.new.self _ _ _ _ _ _ _ _ _ _ h took within (few_past_line c.make_ready.new.reader c.next_line.new.self _ _ _ few loses)
    (λ text taken. serves_on _ _ _ _ _ _ _ _ c.in-Ok-Some.line text h loses takes within e.ended done e.remembered e.counted few taken)
    c.in_err-answer_line-in-Ok-Some.ensures.broken_off)

pub returns-in_ok-answer_line-in-Ok-Some : goal.returns-in_ok-answer_line-in-Ok-Some
returns-in_ok-answer_line-in-Ok-Some g c = λ begin begun.
    let m = c.in_ok-make_ready.ensures in
    let past = passed_over _ c.pass_over.new.reader _ _ _ begun c.pass_over.ensures in
    let h = readied _ c.make_ready.new.reader _ _ _ _ past.0 m.same m.put in
    let e = c.in-Ok-Some.ensures in
    let takes = rw c.in-Ok-Some.field-0-is at e.taken in
    let loses = rw c.in-Ok-Some.field-0-is at e.lines in
    let little = rw c.in-Ok-Some.field-0-is at e.little in
    let few = still_few _ _ h.few little in
    let within = within_limit _ _ e.above_limit in
    let q = c.next_line.new.self in
    let done = at_end g.S.Source.left _ _ c.make_ready.new.reader.ended _ h.ended e.end (λ ended. (e.unread (inr ended)).1) in
    let a = c.in_ok-answer_line-in-Ok-Some.ensures in (
      after_writing _ _ _ _ _
          (serves_on _ _ _ _ _ _ _ _ c.in-Ok-Some.line a.line.0 h loses takes within e.ended done e.remembered e.counted few a.line.1)
          (puts_later _ _ _ a.line.2),
      sooner (unserved q) _ _ (subst (λ (r : Reader). unserved q < unserved r) m.same (advances c.make_ready.new.reader q _ _ _ _ c.in-Ok-Some.line h takes within)) past.1,
    )

pub returns-in-Ok-None : goal.returns-in-Ok-None
returns-in-Ok-None g c = λ begin begun.
    let m = c.in_ok-make_ready.ensures in
    let past = passed_over _ c.pass_over.new.reader _ _ _ begun c.pass_over.ensures in
    let h = readied _ c.make_ready.new.reader _ _ _ _ past.0 m.same m.put in
    let e = c.in-Ok-None.ensures in
    let none = rw c.in-Ok-None.field-0-is at e.none in
    let all = rw c.in-Ok-None.field-0-is at e.read_to_end in
    let takes = rw c.in-Ok-None.field-0-is at e.taken in
    let done = at_end g.S.Source.left _ _ c.make_ready.new.reader.ended _ h.ended e.end (λ ended. (e.unread (inr ended)).1) all.1 in
    (serves_to_end _ c.next_line.new.self _ _ _ _ _ h none.0 takes (within_limit _ _ e.above_limit) all.0 all.1 done e.remembered e.counted, all.0, all.1)
