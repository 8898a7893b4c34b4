use Rattle.std.proofs.Common.{◌≡◌, ℕ, ◌+◌, List, [], ◌++◌, map, take, get_or, bit_xor, sym, ap, subst, ◌∙◌, IsPermutation}
use Rattle.std.specs.List.{flat_map}
use Rattle.std.proofs.lemmas.List.{take_more, take_all, flat_map_more}
use Rattle.std.proofs.lemmas.List.Sorted.{IsPermutation-refl, IsPermutation-append}
use Rattle.ct_words.specs.Constructions.Joined.{followed_by}
use Rattle.ct_words.specs.Constructions.Uuv.{uuv_words}
use Rattle.ct_build.proofs.parts_and_sums.words_and_sums.Goals as goal

pub loop-u-init : goal.loop-u-init
loop-u-init c = subst (λ (ws : List ℕ). IsPermutation [] ws) (sym c.new-words.ensures.items) (IsPermutation-refl [])

pub loop-u-preserved : goal.loop-u-preserved
loop-u-preserved c =
    let n = c.args.n in
    let us = c.args.us.now in
    let vs = c.args.vs.now in
    let i = c.loop-u.u-index in
    let block : ℕ → List ℕ = λ u. map (λ v. followed_by n u (bit_xor u v)) vs in
    let more : uuv_words n (take i us) vs ++ block (get_or us i 0) ≡ uuv_words n (take (i + 1) us) vs =
    flat_map_more block [] (take i us) (get_or us i 0) ∙ ap (λ xs. flat_map block xs) (sym (take_more us i 0 c.loop-u-test.true)) in
    subst (λ ws. IsPermutation ws c.extend_from_slice.new.self.items) more
    (subst (λ zs. IsPermutation (uuv_words n (take i us) vs ++ block (get_or us i 0)) zs) (ap (λ zs. c.loop-u.words.items ++ zs) (sym c.deref.ensures.value) ∙ sym c.in_ok-extend_from_slice.ensures.items)
    (IsPermutation-append (uuv_words n (take i us) vs) c.loop-u.words.items (block (get_or us i 0)) c.in_ok-block.block.items c.loop-u.invariant c.in_ok-block.ensures.permutation))

pub returns : goal.returns
returns c =
    subst (λ (us : List ℕ). IsPermutation (uuv_words c.args.n us c.args.vs.now) c.loop-u.words.items)
    (take_all c.loop-u.u-index c.args.us.now c.loop-u-test.false) c.loop-u.invariant

pub sums_after-requires-clause-first : goal.sums_after-requires-clause-first
sums_after-requires-clause-first c = c.requires.first c.loop-u.u-index 0 c.loop-u-test.true

pub sums_after-requires-clause-second : goal.sums_after-requires-clause-second
sums_after-requires-clause-second c = c.requires.second
