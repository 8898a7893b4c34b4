use Rattle.std.proofs.Common.{◌≡◌, ◌∙◌, sym, ap, ap₂, ℕ, ◌+◌, ◌-◌, ◌<◌, ◌≤◌, bit_xor, List, [], ◌∷◌, ◌++◌, length, map, take, drop, get_or, take_all, length-append, length-drop, append_assoc, arith}
use Rattle.std.proofs.Math.ListN.{get_or-append}
use Rattle.std.proofs.lemmas.List.{get_or-drop, get_or_default, take_more, map-append}
use Rattle.ct_codes.proofs.choices.append_sums.Goals as goal

-- the image of one item more
image_more : (old : List ℕ) (f : ℕ → ℕ) (start place : ℕ) → start ≤ place → place < length old
    → (old ++ map f (take (place - start) (drop start old))) ++ f (get_or (old ++ map f (take (place - start) (drop start old))) place 0) ∷ []
    ≡ old ++ map f (take (place + 1 - start) (drop start old))
image_more old f start place from within =
    let m = place - start in
    let rest = drop start old in
    let size = length-drop start old in
    let next : place + 1 - start ≡ m + 1 = omega arith in
    let place_is : place ≡ start + m = omega arith in
    let more = take_more rest m 0 (omega arith) in
    let here =
    get_or-append old (map f (take m rest)) 0 place within ∙ ap (λ p. get_or old p 0) place_is ∙ sym (get_or-drop start old m 0) in
    append_assoc old (map f (take m rest)) (f (get_or (old ++ map f (take m rest)) place 0) ∷ [])
    ∙ ap (λ ys. old ++ ys)
    (ap (λ z. map f (take m rest) ++ f z ∷ []) here ∙ sym (map-append f (take m rest) (get_or rest m 0 ∷ [])) ∙ ap (map f) (sym more)
    ∙ ap (λ j. map f (take j rest)) (sym next))

-- the images of all items
image_all : (old : List ℕ) (f : ℕ → ℕ) (start place : ℕ) → length old ≤ place → old ++ map f (take (place - start) (drop start old)) ≡ old ++ map f (drop start old)
image_all old f start place all =
    let size = length-drop start old in
    ap (λ ys. old ++ map f ys) (take_all (place - start) (drop start old) (omega arith))

-- a place of the words as they were is one of those that grew
within-grown : (old more new : List ℕ) (place end size : ℕ) → place < end → end ≡ length old → new ≡ old ++ more → size ≡ length new → place < size
within-grown old more new place end size before end-is new-is size-is = let grown = ap length new-is ∙ length-append old more in omega arith

pub index-requires : goal.index-requires
index-requires c =
    within-grown c.args.words.now.items _ c.loop-place.words.items c.loop-place.place c.len-place-end.result c.loop-place.words.len c.loop-place-test.true
    (c.len-place-end.ensures ∙ c.args.words.now.ok.0) c.loop-place.invariant c.loop-place.words.ok.0

pub loop-place-preserved : goal.loop-place-preserved
loop-place-preserved c =
    let old = c.args.words.now.items in
    let f = λ (x : ℕ). bit_xor x c.args.word in
    let start = c.args.start in
    let place = c.loop-place.place in
    let from : start ≤ place = omega arith in
    let within : place < length old = omega arith in
    let grown = ap length c.loop-place.invariant ∙ length-append old (map f (take (place - start) (drop start old))) in
    let in_words : place < length c.loop-place.words.items = omega arith in
    let read = c.index.ensures ∙ get_or_default c.loop-place.words.items place c.index.result.now 0 in_words
    ∙ ap (λ xs. get_or xs place 0) c.loop-place.invariant in
    c.in_ok-push.ensures.items ∙ ap₂ (λ xs y. xs ++ f y ∷ []) c.loop-place.invariant read ∙ image_more old f start place from within

pub returns : goal.returns
returns c =
    let past : length c.args.words.now.items ≤ c.loop-place.place = omega arith in
    c.loop-place.invariant ∙ image_all c.args.words.now.items (λ x. bit_xor x c.args.word) c.args.start c.loop-place.place past
