use Rattle.std.proofs.Common.{◌≡◌, ◌≢◌, ℕ, ◌+◌, ◌-◌, ◌<◌, ◌≤◌, List, length, get_or, min, sym, ap, subst, ◌∙◌, arith}
use Rattle.std.proofs.lemmas.List.{length_push}
use Rattle.std.proofs.lemmas.Slice.Zip.{zip_turn, zip_end}
use borrow.Author.Count.{below_more}
use Rattle.ct_words.specs.declared.limits.TheConstants.{MAX_N}
use Rattle.ct_words.specs.Word.{digit}
use Rattle.ct_words.proofs.Constructions.ShortenedCodes.{has_digits-all, has_digits-not}
use Rattle.ct_build.proofs.WordByWord.{length_from, place_to, first_from, second_from}
use Rattle.ct_build.proofs.places.has_digits.Goals as goal
use Rattle.ct_build.proofs.places.has_digits.Goals.{In-Some}

-- where a place and its digit stand
record StandAt (places digits : List ℕ) (k p a : ℕ) : Type 0 where
  place_within : k < length places
  digit_within : k < length digits
  place : p ≡ get_or places k 0
  given : a ≡ get_or digits k 0

turn : (c : In-Some) → StandAt c.args.places.now c.args.digits.now (length c.loop-place.yielded) c.in-Some.place.now c.in-Some.digit.now
turn c =
    let first = first_from _ _ _ _ c.into_iter-place-iterator.ensures.into_iter_gives c.zip-place-items.ensures.first c.iter.ensures.rest in
    let second = second_from _ _ _ c.into_iter-place-iterator.ensures.into_iter_gives c.zip-place-items.ensures.second.0 in
    let at =
    zip_turn c.args.places.now c.args.digits.now c.loop-place.yielded c.into_iter-place-iterator.result c.loop-place.place-iterator c.next.new.self
    c.next.result first second c.loop-place.yielded_by (c.in-Some.place, c.in-Some.digit) c.in-Some.is c.next.ensures.steps in
    record { place_within = at.0; digit_within = at.1; place = at.2 0; given = at.3 0 }

below : (c : In-Some) → c.in-Some.place.now < c.args.n
below c =
    let at = turn c in
    subst (λ p. p < c.args.n) (sym at.place) (c.requires.places.within (length c.loop-place.yielded) 0 at.place_within)

-- few places come after a place
few_after : (n p : ℕ) → n ≤ MAX_N → n - 1 - p < 32
few_after n p short = omega arith

-- one place more
one_more : (n x : ℕ) (places digits : List ℕ) (m j : ℕ) → j ≡ m + 1 → ((k : ℕ) → k < m → digit n x (get_or places k 0) ≡ get_or digits k 0)
    → digit n x (get_or places m 0) ≡ get_or digits m 0 → (k : ℕ) → k < j → digit n x (get_or places k 0) ≡ get_or digits k 0
one_more n x places digits m j is before here k within =
    below_more (λ (i : ℕ). digit n x (get_or places i 0) ≡ get_or digits i 0) m before here k (subst (λ (l : ℕ). k < l) is within)

pub overflow_sub-n : goal.overflow_sub-n
overflow_sub-n c = length_from c.args.n c.in-Some.place.now (below c)

pub overflow_sub-n-in-loop-place : goal.overflow_sub-n-in-loop-place
overflow_sub-n-in-loop-place c = place_to c.args.n c.in-Some.place.now (below ((goal.at.overflow_sub-n-in-loop-place c).In-Some))

pub overflow_shr-word : goal.overflow_shr-word
overflow_shr-word c = few_after c.args.n c.in-Some.place.now c.requires.length

pub returns-then-word-n : goal.returns-then-word-n
returns-then-word-n c =
    let places = c.args.places.now in
    let digits = c.args.digits.now in
    let k = length c.loop-place.yielded in
    let at = turn ((goal.at.returns-then-word-n c).In-Some) in
    let other : digit c.args.n c.args.word (get_or places k 0) ≢ get_or digits k 0 =
    λ same. c.if-word-n.true (ap (digit c.args.n c.args.word) at.place ∙ same ∙ sym at.given) in
    sym (has_digits-not c.args.n c.args.word places digits k at.place_within at.digit_within other)

pub loop-place-preserved : goal.loop-place-preserved
loop-place-preserved c =
    let at = turn ((goal.at.loop-place-preserved c).In-Some) in
    one_more c.args.n c.args.word c.args.places.now c.args.digits.now (length c.loop-place.yielded) _
    (length_push c.loop-place.yielded (c.in-Some.place, c.in-Some.digit)) c.loop-place.invariant
    (ap (digit c.args.n c.args.word) (sym at.place) ∙ c.if-word-n.false ∙ at.given)

pub returns : goal.returns
returns c =
    let places = c.args.places.now in
    let digits = c.args.digits.now in
    let first = first_from _ _ _ _ c.into_iter-place-iterator.ensures.into_iter_gives c.zip-place-items.ensures.first c.iter.ensures.rest in
    let second = second_from _ _ _ c.into_iter-place-iterator.ensures.into_iter_gives c.zip-place-items.ensures.second.0 in
    let all : length c.loop-place.yielded ≡ min (length places) (length digits) =
    zip_end places digits c.loop-place.yielded c.into_iter-place-iterator.result c.loop-place.place-iterator c.next.new.self c.next.result
    first second c.loop-place.yielded_by c.in-None.is c.next.ensures.steps in
    sym (has_digits-all c.args.n c.args.word places digits (length c.loop-place.yielded) all c.loop-place.invariant)
