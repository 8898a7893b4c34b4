-- One more number, which is small, so that it can be negated.
use Rattle.std.proofs.Common.{◌≡◌, ℕ, ◌<◌, List, [], ◌∷◌, ◌+◌, ◌++◌, length, map, take, get_or, ap, ap₂, sym, subst, ◌∙◌, append_assoc, append-nil, arith}
use Rattle.std.specs.Prelude.{ℤ, pos, neg_ℤ, ◌-ℤ◌}
use Rattle.std.proofs.lemmas.Int.{ints, to_z-of_z, fits_signed_from_abs}
use Rattle.std.proofs.lemmas.List.{map_more, take_all}
use mir.Val.{SFits, to_z, of_z}
use mir.Syntax.{w64}
use Rattle.ct_words.proofs.Counting.Alternating.{unsigned_abs-sub}
use Rattle.ct_words.specs.Scheme.{IsSmall}
use Rattle.ct_finder.proofs.opening.push_numbers.Goals as goal

negative_fits : (r : ℤ) → IsSmall r → SFits w64 (pos 0 -ℤ r)
negative_fits r small = let most = unsigned_abs-sub (pos 0) r in fits_signed_from_abs w64 (pos 0 -ℤ r) (omega (arith, most, small))

as_read : (r : ℤ) → SFits w64 r → pos 0 -ℤ to_z w64 (of_z w64 r) ≡ pos 0 -ℤ r
as_read r f = ap (λ z. pos 0 -ℤ z) (to_z-of_z w64 r f)

negated : (r : ℤ) → SFits w64 r → IsSmall r → to_z w64 (of_z w64 (pos 0 -ℤ to_z w64 (of_z w64 r))) ≡ neg_ℤ r
negated r f small = ap (λ z. to_z w64 (of_z w64 z)) (as_read r f) ∙ to_z-of_z w64 (pos 0 -ℤ r) (negative_fits r small) ∙ omega (arith, ints)

-- one more of a list that is mapped after others
one_more : (f : ℕ → ℤ) (range : List ℕ) (old before after : List ℤ) (i : ℕ) (e : ℤ) → i < length range → before ≡ old ++ map f (take i range)
    → after ≡ before ++ e ∷ [] → e ≡ f (get_or range i 0) → after ≡ old ++ map f (take (i + 1) range)
one_more f range old before after i e within was is value =
    is ∙ ap₂ (λ (es : List ℤ) (e : ℤ). es ++ e ∷ []) was value
    ∙ append_assoc old (map f (take i range)) (f (get_or range i 0) ∷ []) ∙ ap (λ es. old ++ es) (sym (map_more f range i 0 within))

pub loop-i-init : goal.loop-i-init
loop-i-init g c = sym (append-nil c.args.entries.now.items)

pub overflow_sub-number : goal.overflow_sub-number
overflow_sub-number g c =
    let f : SFits w64 c.number.result = record { sfits = c.number.type_inv } in
    subst (λ z. SFits w64 z) (sym (as_read c.number.result f)) (negative_fits c.number.result c.number.ensures.small)

pub loop-i-preserved : goal.loop-i-preserved
loop-i-preserved g c =
    let f : ℕ → ℤ = λ j. neg_ℤ (g.S.Scheme.number c.args.scheme.now c.args.k j) in
    let fits : SFits w64 c.number.result = record { sfits = c.number.type_inv } in
    one_more f c.args.range.now c.args.entries.now.items c.loop-i.entries.items c.push.new.self.items c.loop-i.i-index _ c.loop-i-test.true
    c.loop-i.invariant c.in_ok-push.ensures.items (negated c.number.result fits c.number.ensures.small ∙ ap neg_ℤ c.number.ensures.value)

pub returns : goal.returns
returns g c =
    let f : ℕ → ℤ = λ j. neg_ℤ (g.S.Scheme.number c.args.scheme.now c.args.k j) in
    c.loop-i.invariant ∙ ap (λ js. c.args.entries.now.items ++ map f js) (take_all c.loop-i.i-index c.args.range.now c.loop-i-test.false)
