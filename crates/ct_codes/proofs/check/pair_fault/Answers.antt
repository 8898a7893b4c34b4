use Rattle.std.proofs.Common.{◌≡◌, ◌∙◌, sym, ap, ℕ, ◌<◌, ◌^◌, ◌≤◌, List, Some, All, drop, nat_lt, lt_trans, arith}
use Rattle.std.proofs.Math.Facts.{Fits-lt-pow}
use Rattle.std.proofs.lemmas.Bool.{ltb-true, lt-ltb}
use Rattle.std.proofs.lemmas.List.Elements.{All-from_get_or}
use Rattle.ct_words.specs.Word.{distance}
use Rattle.ct_words.specs.declared.fault.CodeFault.TheVariants.{Close}
use Rattle.ct_words.specs.Pairs.{least_pair}
use Rattle.ct_codes.specs.Inside.Shifted.{shifted}
use Rattle.ct_words.proofs.PairLemmas.{close_any_length}
use Rattle.ct_codes.proofs.ShiftedPairs.{shifted-stricter}
use Rattle.ct_words.proofs.CheckLemmas.{no_pair_fault, repeated_pair_fault, close_pair_fault}
use Rattle.ct_codes.proofs.check.pair_fault.Goals as goal

-- the least equal pair is searched from the least close pair on
equal_pair : (n d : ℕ) (words : List ℕ) (i j : ℕ) → 1 ≤ d → All (λ x. x < 2 ^ 32) words → All (λ x. x < 2 ^ n) words
    → least_pair (λ x y. nat_lt (distance 32 x y) d) words ≡ Some (i, j)
    → shifted i (least_pair (λ x y. nat_lt (distance 32 x y) 1) (drop i words)) ≡ least_pair (λ x y. nat_lt (distance n x y) 1) words
equal_pair n d words i j positive fits below found =
    shifted-stricter (λ x y. nat_lt (distance 32 x y) 1) (λ x y. nat_lt (distance 32 x y) d) words i j
    (λ x y passes. let same = ltb-true (distance 32 x y) 1 passes in lt-ltb (distance 32 x y) d (omega arith)) found
    ∙ close_any_length 32 n 1 words fits below

pub returns-in_err-i : goal.returns-in_err-i
returns-in_err-i c = λ n below. c.from_residual.ensures ∙ sym (no_pair_fault n c.args.d c.args.words.now c.requires.distance (sym (c.in_err-i.ensures.least n below)))

pub returns-in-Some : goal.returns-in-Some
returns-in-Some c = λ n below.
    let fits = All-from_get_or (λ x. x < 2 ^ 32) c.args.words.now 0 (λ k h. Fits-lt-pow (c.type_inv.words k)) in
    let equal = equal_pair n c.args.d c.args.words.now c.in_ok-i.i c.in_ok-i.j c.requires.distance fits below (sym (c.in_ok-i.ensures.least 32 fits)) in
    sym (repeated_pair_fault n c.args.d c.args.words.now c.in-Some.first c.in-Some.again below (sym equal ∙ sym c.in-Some.ensures.least))

pub returns-in-None : goal.returns-in-None
returns-in-None c = λ n below.
    let fits = All-from_get_or (λ x. x < 2 ^ 32) c.args.words.now 0 (λ k h. Fits-lt-pow (c.type_inv.words k)) in
    let equal = equal_pair n c.args.d c.args.words.now c.in_ok-i.i c.in_ok-i.j c.requires.distance fits below (sym (c.in_ok-i.ensures.least 32 fits)) in
    let places = c.in_ok-i.ensures.places in
    let far = c.distance.ensures n (below c.in_ok-i.i 0 (lt_trans places.0 places.1)) (below c.in_ok-i.j 0 places.1) in
    ap (λ t. Some (Close c.in_ok-i.i c.in_ok-i.j t)) far
    ∙ sym (close_pair_fault n c.args.d c.args.words.now c.in_ok-i.i c.in_ok-i.j below (sym equal ∙ sym c.in-None.ensures.least) (sym (c.in_ok-i.ensures.least n below)))
