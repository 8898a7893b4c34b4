use Rattle.std.proofs.Common.{◌≡◌, ℕ, List, ◌*◌, ◌/◌, ◌<◌, ◌≤◌, ◌++◌, IsPermutation, length, take, drop, below_none, subst, sym, ap, ◌∙◌, arith}
use Rattle.std.proofs.Math.Facts.{Fits-lt-pow}
use Rattle.std.proofs.Math.Nat.{mul-div-le, mul-le-mul_left}
use Rattle.std.proofs.Math.Seq.{take-append_seam}
use Rattle.std.proofs.lemmas.List.Sorted.{IsPermutation-refl, IsPermutation-trans, length_permutation}
use Rattle.ct_words.specs.Word.{distance}
use Rattle.ct_codes.specs.Inside.Groups.{AreFarWhereSame}
use Rattle.ct_words.proofs.CheckLemmas.{AllPairs-from_get_or}
use Rattle.ct_codes.proofs.GroupLemmas.{all_far_by_groups, groups-next}
use Rattle.ct_codes.proofs.groups.are_far_by_groups.Goals as goal

-- the groups lie within the places of a word
group-within : (n d group : ℕ) → n < 32 → group < d → group * (n / d) < 32
group-within n d group short before =
    let room : d * (n / d) ≤ n = mul-div-le n d in
    let part : n / d * group ≤ n / d * d = (let within : group ≤ d = omega arith in mul-le-mul_left (n / d) within) in
    omega arith

pub overflow_mul-group : goal.overflow_mul-group
overflow_mul-group c =
    let within = group-within c.args.n c.args.d c.loop-group.group c.requires.length c.loop-group-test.true in
    omega arith

pub sort_by_group-requires-clause-shift : goal.sort_by_group-requires-clause-shift
sort_by_group-requires-clause-shift c = group-within c.args.n c.args.d c.loop-group.group c.requires.length c.loop-group-test.true

pub loop-group-init : goal.loop-group-init
loop-group-init c = record {
  moved = subst (λ (xs : List ℕ). IsPermutation c.args.words.now xs) (sym c.in-Ok.ensures.items) (IsPermutation-refl c.args.words.now);
  far = below_none (λ g. AreFarWhereSame (g * (c.args.n / c.args.d)) (c.args.n / c.args.d) c.args.d c.args.words.now);
}

pub loop-group-preserved : goal.loop-group-preserved
loop-group-preserved c =
    let words = c.args.words.now in
    let old = c.loop-group.sorted.items in
    let new = c.sort_by_group.new.words in
    let sorted = subst (λ (xs : List ℕ). IsPermutation xs c.sort_by_group.new.words) c.deref_mut.ensures.value c.sort_by_group.ensures.permutation in
    let size : c.loop-group.sorted.len ≡ length c.sort_by_group.new.words =
    sym (length_permutation c.deref_mut.result.now new c.sort_by_group.ensures.permutation ∙ c.deref_mut.ensures.len) in
    let back : take c.loop-group.sorted.len (c.sort_by_group.new.words ++ drop (length c.sort_by_group.new.words) c.loop-group.sorted.items) ≡ c.sort_by_group.new.words =
    ap (λ k. take k (new ++ drop (length new) old)) size ∙ take-append_seam new (drop (length new) old) in
    record {
      moved = subst (λ (xs : List ℕ). IsPermutation c.args.words.now xs) (sym back) (IsPermutation-trans words old new c.loop-group.invariant.moved sorted);
      far =
          groups-next (c.args.n / c.args.d) c.args.d words old new c.loop-group.group c.loop-group.invariant.moved sorted
          (c.sort_by_group.ensures.far c.if-not-sort_by_group.false) c.loop-group.invariant.far;
    }

pub returns : goal.returns
returns c = λ all.
    let words = c.args.words.now in
    let room : c.args.d * (c.args.n / c.args.d) ≤ c.args.n = mul-div-le c.args.n c.args.d in
    let end = c.loop-group-test.false in
    AllPairs-from_get_or (λ x y. c.args.d ≤ distance 32 x y) words
    (all_far_by_groups (c.args.n / c.args.d) c.args.d words (omega (arith, room, c.requires.length)) (λ k within. Fits-lt-pow (c.type_inv.words k))
    (λ g few. c.loop-group.invariant.far g (omega (arith, end))))
