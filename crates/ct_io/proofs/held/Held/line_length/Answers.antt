use Rattle.std.proofs.Common.{◌≡◌, ℕ, ◌+◌, ◌-◌, ◌<◌, List, None, Some, length, take, drop, sym, subst, ap, ◌∙◌, arith, length-drop}
use Rattle.std.specs.List.{position, slice_get}
use Rattle.std.proofs.lemmas.List.{take_all, drop-drop}
use Rattle.std.proofs.lemmas.List.Elements.{All-take}
use Rattle.ct_io.specs.Inside.Buffer.{Buffer}
use Rattle.ct_io.specs.Lines.{IsLine}
use Rattle.ct_io.proofs.LinesLemmas.{is_feed}
use Rattle.ct_io.proofs.FeedLemmas.{IsNoFeed, EndsAt, EndsAt-searched, IsLine-searched}
use Rattle.ct_io.proofs.HeldLemmas.{left-within}
use Rattle.ct_io.proofs.held.Held.line_length.Goals as goal

-- the slice that is searched
unsearched : (bytes : List ℕ) (start searched : ℕ) → take (length bytes - (start + searched)) (drop (start + searched) bytes) ≡ drop searched (drop start bytes)
unsearched bytes start searched =
    take_all (length bytes - (start + searched)) (drop (start + searched) bytes) (omega (arith, length-drop (start + searched) bytes)) ∙ sym (drop-drop searched start bytes)

found : (bytes : List ℕ) (start searched more : ℕ) → IsLine (take searched (drop start bytes))
    → Some more ≡ position is_feed (take (length bytes - (start + searched)) (drop (start + searched) bytes)) → EndsAt (drop start bytes) (searched + more)
found bytes start searched more front e =
    EndsAt-searched (drop start bytes) searched more front (ap (position is_feed) (sym (unsearched bytes start searched)) ∙ sym e)

absent : (bytes : List ℕ) (start searched : ℕ) → IsLine (take searched (drop start bytes))
    → None ≡ position is_feed (take (length bytes - (start + searched)) (drop (start + searched) bytes)) → IsLine (drop start bytes)
absent bytes start searched front e = IsLine-searched (drop start bytes) searched front (ap (position is_feed) (sym (unsearched bytes start searched)) ∙ sym e)

ends : (c : goal.After-self-1) → EndsAt (drop c.self.inside.start c.self.inside.bytes.items) (c.self.inside.searched + c.in-Some.more)
ends c = found c.self.inside.bytes.items c.self.inside.start c.self.inside.searched c.in-Some.more c.self.invariant.1 (rw c.deref.ensures.value at c.in-Some.ensures)

pub returns-in-Some-clause-line : goal.returns-in-Some-clause-line
returns-in-Some-clause-line c = subst (λ (b : Buffer). IsLine (take (c.self.inside.searched + c.in-Some.more) b.bytes)) c.self.view_is (ends c).line

pub returns-in-Some-clause-feed : goal.returns-in-Some-clause-feed
returns-in-Some-clause-feed c = ap (λ (b : Buffer). slice_get b.bytes (c.self.inside.searched + c.in-Some.more)) (sym c.self.view_is) ∙ (ends c).feed

pub invariant_of-self : goal.invariant_of-self
invariant_of-self c =
    let inside : c.self.inside.searched + c.in-Some.more < length (drop c.self.inside.start c.self.inside.bytes.items) = (ends c).inside in
    (omega (arith, length-drop c.self.inside.start c.self.inside.bytes.items, inside), (ends c).line)

none : (c : goal.After-self-in-None-1) → IsLine (drop c.self.inside.start c.self.inside.bytes.items)
none c = absent c.self.inside.bytes.items c.self.inside.start c.self.inside.searched c.self.invariant.1 (rw c.deref.ensures.value at c.in-None.ensures)

pub invariant_of-self-in-None : goal.invariant_of-self-in-None
invariant_of-self-in-None c =
    let rest = c.len.result - c.self.inside.start in
    (omega arith, All-take IsNoFeed rest (drop c.self.inside.start c.self.inside.bytes.items) (none c))

pub returns-in-None-clause-none : goal.returns-in-None-clause-none
returns-in-None-clause-none c = subst (λ (b : Buffer). IsLine b.bytes) c.self.view_is (none c)

pub returns-in-Some-clause-all_kept : goal.returns-in-Some-clause-all_kept
returns-in-Some-clause-all_kept c =
    let bytes = c.self.inside.bytes in
    left-within c.self.inside.start bytes.len bytes.items bytes.ok.0

pub returns-in-None-clause-all_kept : goal.returns-in-None-clause-all_kept
returns-in-None-clause-all_kept c =
    let bytes = c.self.inside.bytes in
    left-within c.self.inside.start bytes.len bytes.items bytes.ok.0
