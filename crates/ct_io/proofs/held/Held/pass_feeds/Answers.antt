use Rattle.std.proofs.Common.{◌≢◌, ◌+◌, ◌≤◌, Some, length, drop, sym, subst, ap, ◌∙◌}
use Rattle.std.specs.List.{slice_get}
use Rattle.ct_text.specs.declared.document_lines.TheConstants.{LINE_FEED}
use Rattle.ct_io.specs.Inside.Buffer.{Buffer}
use Rattle.ct_io.proofs.HeldLemmas.{left-within, feeds-passed, no_more_feeds, passed-searched, searched-first}
use Rattle.ct_io.proofs.held.Held.pass_feeds.Goals as goal

pub returns-then-self-eq0-clause-passed : goal.returns-then-self-eq0-clause-passed
returns-then-self-eq0-clause-passed c = (
  c.feeds_first.result,
  sym (ap (λ (b : Buffer). b.bytes) c.self.view_is)
      ∙ feeds-passed c.self.inside.bytes.items c.deref.result.now c.self.inside.start c.feeds_first.result c.deref.ensures.value c.feeds_first.ensures.feeds,
)

pub returns-then-self-eq0-clause-all : goal.returns-then-self-eq0-clause-all
returns-then-self-eq0-clause-all c =
    no_more_feeds c.self.inside.bytes.items c.deref.result.now c.self.inside.start c.feeds_first.result c.deref.ensures.value c.feeds_first.ensures.all

pub returns-then-self-eq0-clause-all_kept : goal.returns-then-self-eq0-clause-all_kept
returns-then-self-eq0-clause-all_kept c =
    let bytes = c.self.inside.bytes in
    left-within (c.self.inside.start + c.feeds_first.result) bytes.len bytes.items bytes.ok.0

pub returns-else-self-eq0-clause-all : goal.returns-else-self-eq0-clause-all
returns-else-self-eq0-clause-all c =
    let inside = c.self.inside in
    subst (λ (b : Buffer). slice_get b.bytes 0 ≢ Some LINE_FEED) c.self.view_is
    (searched-first (drop inside.start inside.bytes.items) inside.searched c.if-self-eq0.false c.self.invariant.1)

pub returns-else-self-eq0-clause-all_kept : goal.returns-else-self-eq0-clause-all_kept
returns-else-self-eq0-clause-all_kept c =
    let bytes = c.self.inside.bytes in
    subst (λ (b : Buffer). length b.bytes ≤ b.kept) c.self.view_is (left-within c.self.inside.start bytes.len bytes.items bytes.ok.0)

pub invariant_of-self : goal.invariant_of-self
invariant_of-self c =
    let inside = c.self.inside in
    passed-searched inside.start c.feeds_first.result inside.searched inside.bytes.len inside.bytes.items c.deref.result.now inside.bytes.ok.0
    c.self.invariant.0 c.deref.ensures.value c.feeds_first.ensures.within c.if-self-eq0.true
