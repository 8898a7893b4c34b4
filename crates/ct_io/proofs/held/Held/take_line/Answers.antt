use Rattle.std.proofs.Common.{◌≡◌, ℕ, ◌+◌, ◌-◌, ◌∷◌, ◌++◌, ◌≤◌, List, Some, length, drop, take, sym, subst, ap, ◌∙◌, arith}
use Rattle.std.specs.List.{slice_get}
use Rattle.ct_io.specs.Inside.Buffer.{Buffer}
use Rattle.ct_text.specs.declared.document_lines.TheConstants.{LINE_FEED}
use Rattle.ct_io.proofs.FeedLemmas.{drop-around}
use Rattle.ct_io.proofs.HeldLemmas.{left-within, fed-within, no_bytes-line}
use Rattle.ct_io.proofs.held.Held.take_line.Goals as goal

pub returns-clause-rest : goal.returns-clause-rest
returns-clause-rest c =
    let bytes = c.self.inside.bytes.items in
    let start = c.self.inside.start in
    let feed : slice_get (drop start bytes) c.args.count ≡ Some LINE_FEED = ap (λ (b : Buffer). slice_get b.bytes c.args.count) c.self.view_is ∙ c.requires in
    let line : take c.args.count (drop start bytes) ≡ c.in_ok-line.line.items =
    sym
    (c.in_ok-line.ensures ∙ ap (λ (l : List ℕ). take (start + c.args.count - start) (drop start l)) c.deref.ensures.value
    ∙ ap (λ k. take k (drop start bytes)) (omega arith)) in
    sym (ap (λ (b : Buffer). b.bytes) c.self.view_is) ∙ drop-around bytes start c.args.count LINE_FEED feed ∙ ap (λ (l : List ℕ). l ++ LINE_FEED ∷ drop (start + c.args.count + 1) bytes) line

pub overflow_add-end : goal.overflow_add-end
overflow_add-end c =
    let bytes = c.self.inside.bytes in
    let start = c.self.inside.start in
    let feed = ap (λ (b : Buffer). slice_get b.bytes c.args.count) c.self.view_is ∙ c.requires in
    let within : start + c.args.count + 1 ≤ bytes.len = fed-within bytes.items start c.args.count bytes.len bytes.ok.0 feed in
    omega arith

pub invariant_of-self : goal.invariant_of-self
invariant_of-self c =
    let bytes = c.self.inside.bytes in
    let start = c.self.inside.start in
    let feed = ap (λ (b : Buffer). slice_get b.bytes c.args.count) c.self.view_is ∙ c.requires in
    let within : start + c.args.count + 1 ≤ bytes.len = fed-within bytes.items start c.args.count bytes.len bytes.ok.0 feed in
    (omega arith, no_bytes-line)

pub returns-clause-all_kept : goal.returns-clause-all_kept
returns-clause-all_kept c =
    let bytes = c.self.inside.bytes in
    left-within (c.self.inside.start + c.args.count + 1) bytes.len bytes.items bytes.ok.0

pub returns-in_err-line-clause-all_kept : goal.returns-in_err-line-clause-all_kept
returns-in_err-line-clause-all_kept c =
    let bytes = c.self.inside.bytes in
    subst (λ (b : Buffer). length b.bytes ≤ b.kept) c.self.view_is (left-within c.self.inside.start bytes.len bytes.items bytes.ok.0)

pub returns-clause-kept : goal.returns-clause-kept
returns-clause-kept c = ap (λ (b : Buffer). b.kept) c.self.view_is

pub overflow_add-self : goal.overflow_add-self
overflow_add-self c =
    let bytes = c.self.inside.bytes in
    let start = c.self.inside.start in
    let feed = ap (λ (b : Buffer). slice_get b.bytes c.args.count) c.self.view_is ∙ c.requires in
    let within : start + c.args.count + 1 ≤ bytes.len = fed-within bytes.items start c.args.count bytes.len bytes.ok.0 feed in
    omega arith
