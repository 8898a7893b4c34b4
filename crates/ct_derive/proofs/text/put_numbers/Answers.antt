use Rattle.std.proofs.Common.{◌≡◌, ◌++◌, ℕ, suc, ◌+◌, ◌<◌, List, length, get_or, drop, refl, add-one, append_assoc, append-nil, ap, sym, ◌∙◌}
use Rattle.std.specs.List.{flat_map}
use Rattle.std.proofs.lemmas.List.{at_drop_more, at_drop_all}
use Rattle.ct_text.specs.Number.{spaced}
use Rattle.ct_derive.specs.Check.{numbers_at}
use Rattle.ct_derive.proofs.text.put_numbers.Goals as goal

-- one more number is put
one_more : (from : List ℕ) (i : ℕ) (whole text new : List ℕ) → i < length from → whole ≡ text ++ flat_map spaced (numbers_at (drop i from))
    → new ≡ text ++ spaced (get_or from i 0 + 1) → whole ≡ new ++ flat_map spaced (numbers_at (drop (i + 1) from))
one_more from i whole text new within so_far more =
    let p = get_or from i 0 in
    let rest = flat_map spaced (numbers_at (drop (i + 1) from)) in
    so_far
    ∙ at_drop_more (λ (ps : List ℕ). text ++ flat_map spaced (numbers_at ps)) from i 0 within
    ∙ sym (append_assoc text (spaced (suc p)) rest)
    ∙ ap (λ n. (text ++ spaced n) ++ rest) (sym (add-one p))
    ∙ ap (λ t. t ++ rest) (sym more)

pub loop-place-init : goal.loop-place-init
loop-place-init c = refl

pub loop-place-preserved : goal.loop-place-preserved
loop-place-preserved c =
    one_more c.args.from.now c.loop-place.place-index (c.args.text.now.items ++ flat_map spaced (numbers_at c.args.from.now)) c.loop-place.text.items
    c.put_spaced.new.text.items c.loop-place-test.true c.loop-place.invariant c.in_ok-put_spaced.ensures.ok

pub returns : goal.returns
returns c =
    let text = c.loop-place.text.items in
    sym (c.loop-place.invariant
    ∙ at_drop_all (λ (ps : List ℕ). text ++ flat_map spaced (numbers_at ps)) c.args.from.now c.loop-place.place-index c.loop-place-test.false
    ∙ append-nil text)
