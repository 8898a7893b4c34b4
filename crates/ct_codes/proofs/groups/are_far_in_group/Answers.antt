use Rattle.std.proofs.Common.{◌≡◌, ℕ, ◌<◌, ◌≤◌, List, length, get_or, below_more, arith}
use Rattle.ct_words.specs.Word.{distance}
use Rattle.ct_codes.specs.Inside.Groups.{group_digits}
use Rattle.ct_words.proofs.CheckLemmas.{AllPairs-from_get_or}
use Rattle.ct_codes.proofs.groups.are_far_in_group.Goals as goal

-- the word at the place is far from the later ones with its digits
abbrev IsFar : ℕ → ℕ → ℕ → List ℕ → ℕ → Type 0
IsFar shift width d words k = (m : ℕ) → k < m → m < length words
    → group_digits shift width (get_or words k 0) ≡ group_digits shift width (get_or words m 0) → d ≤ distance 32 (get_or words k 0) (get_or words m 0)

pub loop-place-preserved : goal.loop-place-preserved
loop-place-preserved c = λ ordered k m before.
    below_more (IsFar c.args.shift c.args.width c.args.d c.args.words.now) c.loop-place.place (λ i h j. c.loop-place.invariant ordered i j h)
    (c.is_far_in_group.ensures c.if-not-is_far_in_group.false ordered) k before m

pub returns : goal.returns
returns c = λ far ordered.
    AllPairs-from_get_or (λ x y. group_digits c.args.shift c.args.width x ≡ group_digits c.args.shift c.args.width y → c.args.d ≤ distance 32 x y)
    c.args.words.now (λ i j order within. c.loop-place.invariant ordered i j (omega arith) order within)
