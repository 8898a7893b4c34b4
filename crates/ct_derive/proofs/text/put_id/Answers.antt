use Rattle.std.proofs.Common.{◌≡◌, ◌++◌, ℕ, ◌<◌, List, [], ◌∷◌, length, get_or, Result, Ok, Err, append_assoc, append-nil, refl, ap, ap₂, sym, ◌∙◌}
use Rattle.std.specs.Prelude.{OnOk, slice_get, if◌then◌else◌}
use Rattle.std.specs.Result.{is_ok}
use Rattle.std.proofs.lemmas.Option.{slice_get_read, slice_get_past}
use Rattle.ct_derive.specs.Text.{id_word}
use Rattle.ct_derive.proofs.text.put_id.Goals as goal

-- the word of an id that is there
there : {T E : Type 0} (ids : List (List ℕ)) (i : ℕ) (x n : List ℕ) (r : Result T E) (old spaced new other : List ℕ) → i < length ids
    → x ≡ get_or ids i x → n ≡ x → spaced ≡ old ++ 32 ∷ [] → new ≡ (if is_ok r then spaced ++ n else other)
    → OnOk r (new ≡ old ++ id_word (slice_get ids i))
there ids i x n (Ok y) old spaced new other within at n-is spaced-is new-is =
    new-is
    ∙ ap₂ (λ k l. k ++ l) spaced-is n-is
    ∙ append_assoc old (32 ∷ []) x
    ∙ ap (λ o. old ++ id_word o) (sym (slice_get_read ids (length ids) i x refl within at))
there ids i x n (Err e) old spaced new other within at n-is spaced-is new-is = tt

pub returns-in-None : goal.returns-in-None
returns-in-None c =
    let text = c.args.text.now.items in
    sym (ap (λ o. text ++ id_word o) (slice_get_past c.args.ids.now c.args.place c.in-None.ensures.lookup.3) ∙ append-nil text)

pub returns-in_ok-push-in-Some : goal.returns-in_ok-push-in-Some
returns-in_ok-push-in-Some c =
    let found = c.in-Some.ensures.lookup in
    there c.args.ids.now c.args.place c.in-Some.id.now c.text.result.now c.extend_from_slice.result c.args.text.now.items c.push.new.self.items
    c.extend_from_slice.new.self.items _ found.3.0 found.1 c.text.ensures.text c.in_ok-push-in-Some.ensures.items c.extend_from_slice.ensures.items
