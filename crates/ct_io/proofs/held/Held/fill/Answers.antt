use Rattle.std.proofs.Common.{◌≡◌, ◌<◌, ◌≤◌, ◌+◌, ◌++◌, List, ℕ, Result, is_ok, if◌then◌else◌, length, take, drop, sym, subst, ap, ◌∙◌}
use Rattle.std.specs.declared.alloc.AllocError.{AllocError}
use Rattle.std.specs.Io.KnownBytes.{Consumes}
use Rattle.ct_io.specs.Inside.Buffer.{Buffer}
use Rattle.ct_io.proofs.HeldLemmas.{still-searched, same-searched, start-within, room-left}
use Rattle.ct_io.proofs.FillLemmas.{piece-read, front-long, fills-read, fills-failed}
use Rattle.ct_io.proofs.held.Held.fill.Goals as goal

pub invariant_of-self-2 : goal.invariant_of-self-2
invariant_of-self-2 g c =
    let inside = c.self.inside in
    let start = inside.start in
    let searched = inside.searched in
    let new = c.extend_from_slice.new.self in
    let old = c.reserve.new.self.items in
    let more = take c.in-Ok.count c.deref.result.now in
    let grown = subst (λ (r : Result (Unit {0}) AllocError). new.items ≡ (if is_ok r then old ++ more else old)) c.unwrap.ensures
    c.extend_from_slice.ensures.items in
    let same = ap (λ (l : List ℕ). l ++ more) c.in_ok-reserve.ensures.items in
    let within = subst (λ (n : ℕ). start + searched ≤ n) inside.bytes.ok.0 c.self.invariant.0 in
    still-searched start searched new.len inside.bytes.items more new.items within c.self.invariant.1 (grown ∙ same) new.ok.0

pub slice_bounds-extend_from_slice-end : goal.slice_bounds-extend_from_slice-end
slice_bounds-extend_from_slice-end g c =
    let long = c.read.auto.into ∙ c.deref_mut.ensures.len ∙ sym c.deref.ensures.len in
    sym (front-long c.deref.result.now c.in-Ok.count (subst (λ (n : ℕ). c.in-Ok.count ≤ n) long c.in-Ok.ensures.within))

pub returns-clause-fills : goal.returns-clause-fills
returns-clause-fills g c =
    let inside = c.self.inside in
    let left = g.S.Source.left in
    let count = c.in-Ok.count in
    let into = c.read.new.into in
    let piece = c.args.piece.now in
    let new = c.extend_from_slice.new.self in
    let old = c.reserve.new.self.items in
    let more = take count c.deref.result.now in
    let long : length into ≡ piece.len = c.read.auto.into ∙ c.deref_mut.ensures.len in
    let read = piece-read into (drop (length into) piece.items) c.deref.result.now piece.len (sym long) c.deref.ensures.value in
    let grown = subst (λ (r : Result (Unit {0}) AllocError). new.items ≡ (if is_ok r then old ++ more else old)) c.unwrap.ensures
    c.extend_from_slice.ensures.items in
    let within : count ≤ piece.len = subst (λ (n : ℕ). count ≤ n) long c.in-Ok.ensures.within in
    let some : 0 < length into = subst (λ (n : ℕ). 0 < n) (sym long) c.requires in
    fills-read c.args.self.now inside.bytes.items new.items inside.start new.len piece.len (left c.args.source.now) (left c.read.new.self)
    (g.S.Source.faults c.args.source.now) (g.S.Source.faults c.read.new.self)
    (start-within inside.start inside.searched inside.bytes.len inside.bytes.items c.self.invariant.0 inside.bytes.ok.0)
    (ap (λ (b : Buffer). b.bytes) c.self.view_is ∙ c.drop_given_out.ensures.same)
    (sym inside.bytes.ok.0 ∙ ap (λ (b : Buffer). b.kept) c.self.view_is ∙ c.drop_given_out.ensures.kept) new.ok.0 c.in-Ok.ensures.counted more count
    (grown ∙ ap (λ (l : List ℕ). l ++ more) c.in_ok-reserve.ensures.items)
    (subst (λ (l : List ℕ). Consumes (left c.args.source.now) (left c.read.new.self) (take count l)) (sym read) c.in-Ok.ensures.bytes.0)
    (front-long c.deref.result.now count (subst (λ (n : ℕ). count ≤ n) (sym c.deref.ensures.len) within)) within
    (λ none. c.in-Ok.ensures.bytes.1 none some)

pub returns-in_default-clause-fills : goal.returns-in_default-clause-fills
returns-in_default-clause-fills g c =
    let inside = c.self.inside in
    let left = g.S.Source.left in
    let new = c.reserve.new.self in
    fills-failed c.args.self.now inside.bytes.items new.items inside.start new.len c.args.piece.now.len (left c.args.source.now) (left c.read.new.self)
    (g.S.Source.faults c.args.source.now) (g.S.Source.faults c.read.new.self)
    (start-within inside.start inside.searched inside.bytes.len inside.bytes.items c.self.invariant.0 inside.bytes.ok.0)
    (ap (λ (b : Buffer). b.bytes) c.self.view_is ∙ c.drop_given_out.ensures.same)
    (sym inside.bytes.ok.0 ∙ ap (λ (b : Buffer). b.kept) c.self.view_is ∙ c.drop_given_out.ensures.kept) new.ok.0 c.in_default.ensures.counted
    c.in_ok-reserve.ensures.items c.in_default.ensures.bytes c.in_default.ensures.failed

pub invariant_of-self : goal.invariant_of-self
invariant_of-self g c =
    let inside = c.self.inside in
    let new = c.reserve.new.self in
    same-searched inside.start inside.searched inside.bytes.len new.len inside.bytes.items new.items c.self.invariant.0 inside.bytes.ok.0
    c.self.invariant.1 c.in_err-reserve.ensures.items new.ok.0

pub invariant_of-self-in_default : goal.invariant_of-self-in_default
invariant_of-self-in_default g c =
    let inside = c.self.inside in
    let new = c.reserve.new.self in
    same-searched inside.start inside.searched inside.bytes.len new.len inside.bytes.items new.items c.self.invariant.0 inside.bytes.ok.0
    c.self.invariant.1 c.in_ok-reserve.ensures.items new.ok.0

pub unwrap-requires : goal.unwrap-requires
unwrap-requires g c =
    let long = c.read.auto.into ∙ c.deref_mut.ensures.len in
    let within = subst (λ (n : ℕ). c.in-Ok.count ≤ n) long c.in-Ok.ensures.within in
    c.extend_from_slice.ensures.succeeds
    (room-left c.reserve.new.self.len _ c.len.result c.args.piece.now.len c.in-Ok.count c.deref.result.now c.in_ok-reserve.ensures.ok c.len.ensures within)
