-- Values of entries in a row, one entry after the other.
use Rattle.std.proofs.Common.{◌≡◌, ℕ, ◌+◌, ◌<◌, List, [], ◌∷◌, ◌++◌, length, take, map, Some, slice_get, sym, ap, ◌∙◌}
use Rattle.std.specs.Prelude.{slice_set}
use Rattle.std.proofs.lemmas.List.{map-append, take_more, take_more_set}
use Rattle.std.proofs.lemmas.Option.{slice_get_within, get_or_from_slice_get}
use Rattle.ct_words.specs.declared.claim.Side.{Side}
use Rattle.ct_words.specs.declared.entry.Entry.{Entry}
use Rattle.ct_rule_parts.specs.Parts.{slots_on}
use Rattle.ct_rule_parts.specs.Slot.{Slot}

-- one more entry
pub slots_more : (f : Slot → ℕ) (side : Side) (es : List Entry) (k : ℕ) (e : Entry) → slice_get es k ≡ Some e
    → map f (slots_on side (take (k + 1) es)) ≡ map f (slots_on side (take k es)) ++ f (side, e) ∷ []
slots_more f side es k e at =
    let on : Entry → Slot = λ g. (side, g) in
    ap (λ ys. map f (slots_on side ys))
    (take_more es k e (slice_get_within es k e at) ∙ ap (λ g. take k es ++ g ∷ []) (get_or_from_slice_get es k e e at))
    ∙ ap (map f) (map-append on (take k es) (e ∷ [])) ∙ map-append f (slots_on side (take k es)) ((side, e) ∷ [])

-- its value at the end
pub pushed_more : (f : Slot → ℕ) (side : Side) (es : List Entry) (k : ℕ) (e : Entry) (v : ℕ) (xs : List ℕ) → slice_get es k ≡ Some e
    → v ≡ f (side, e) → xs ≡ map f (slots_on side (take k es)) → xs ++ v ∷ [] ≡ map f (slots_on side (take (k + 1) es))
pushed_more f side es k e v xs at is was =
    ap (λ ys. ys ++ v ∷ []) was ∙ ap (λ w. map f (slots_on side (take k es)) ++ w ∷ []) is ∙ sym (slots_more f side es k e at)

-- its value put at its place
pub put_more : (f : Slot → ℕ) (side : Side) (es : List Entry) (row : List ℕ) (k : ℕ) (e : Entry) (v : ℕ) → slice_get es k ≡ Some e
    → v ≡ f (side, e) → k < length row → take k row ≡ map f (slots_on side (take k es))
    → take (k + 1) (slice_set row k v) ≡ map f (slots_on side (take (k + 1) es))
put_more f side es row k e v at is within was =
    take_more_set row k v within ∙ pushed_more f side es k e v (take k row) at is was
