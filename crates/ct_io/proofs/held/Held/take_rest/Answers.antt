use Rattle.std.proofs.Common.{◌≤◌, length, sym, subst, ap, ◌∙◌}
use Rattle.ct_io.specs.Inside.Buffer.{Buffer}
use Rattle.ct_io.proofs.HeldLemmas.{left-within, none-left, all-left, some-left}
use Rattle.ct_io.proofs.held.Held.take_rest.Goals as goal

pub returns-clause-all : goal.returns-clause-all
returns-clause-all c =
    let inside = c.self.inside in
    let bytes = inside.bytes.items in
    let rest = c.in_ok-rest.rest.items in
    let is = all-left bytes c.deref.result.now rest inside.start c.deref.ensures.value c.in_ok-rest.ensures.items in (
      sym (is ∙ ap (λ (b : Buffer). b.bytes) c.self.view_is),
      some-left bytes rest inside.start inside.searched inside.bytes.len c.self.invariant.0 (λ e. c.if-self-len.false (e ∙ sym c.len.ensures))
          inside.bytes.ok.0 is,
    )

pub returns-clause-all_kept : goal.returns-clause-all_kept
returns-clause-all_kept c = left-within c.len-self-inside.result c.self.inside.bytes.len c.self.inside.bytes.items c.self.inside.bytes.ok.0

pub returns-in_err-rest-clause-all_kept : goal.returns-in_err-rest-clause-all_kept
returns-in_err-rest-clause-all_kept c =
    let bytes = c.self.inside.bytes in
    subst (λ (b : Buffer). length b.bytes ≤ b.kept) c.self.view_is (left-within c.self.inside.start bytes.len bytes.items bytes.ok.0)

pub returns-clause-none_left : goal.returns-clause-none_left
returns-clause-none_left c =
    none-left c.len-self-inside.result c.self.inside.bytes.len c.self.inside.bytes.items c.len-self-inside.ensures c.self.inside.bytes.ok.0

pub returns-clause-kept : goal.returns-clause-kept
returns-clause-kept c = ap (λ (b : Buffer). b.kept) c.self.view_is

pub returns-then-self-len-clause-all_kept : goal.returns-then-self-len-clause-all_kept
returns-then-self-len-clause-all_kept c =
    let bytes = c.self.inside.bytes in
    subst (λ (b : Buffer). length b.bytes ≤ b.kept) c.self.view_is (left-within c.self.inside.start bytes.len bytes.items bytes.ok.0)
