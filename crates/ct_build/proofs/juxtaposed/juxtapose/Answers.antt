use Rattle.std.proofs.Common.{◌≡◌, ℕ, ◌+◌, ◌-◌, ◌^◌, ◌<◌, List, All, sym, ap, ap₂, subst, ◌∙◌, arith}
use Rattle.ct_words.specs.Code.{CodeValue, IsSoundCode}
use Rattle.ct_words.specs.Constructions.Juxtaposed.{juxtaposed, added_weights}
use Rattle.ct_words.proofs.Constructions.JoinedLemmas.{words_wider}
use Rattle.ct_words.proofs.Constructions.JuxtaposedCodes.{IsSoundCode-juxtaposed}
use Rattle.ct_build.proofs.Sound.{weight_limit, words_within}
use Rattle.ct_build.proofs.juxtaposed.juxtapose.Goals as goal
use Rattle.ct_build.proofs.juxtaposed.juxtapose.Goals.{After-added_weight-w}

pub joined_words-requires-clause-first : goal.joined_words-requires-clause-first
joined_words-requires-clause-first c =
    let room = c.requires.lengths in
    let length_is = c.n.ensures.value in
    subst (λ (xs : List ℕ). All (λ x. x < 2 ^ (32 - c.n.result)) xs) (sym c.words.ensures.value)
    (words_wider c.args.part.now.n (32 - c.n.result) c.args.part.now.words (omega arith) c.words.ensures.sound.code.lengths)

pub added_weight-w-requires-clause-v : goal.added_weight-w-requires-clause-v
added_weight-w-requires-clause-v c = λ k is. weight_limit c.args.part.now c.words.ensures.sound k (sym c.w.ensures.value ∙ is)

pub added_weight-w-requires-clause-w : goal.added_weight-w-requires-clause-w
added_weight-w-requires-clause-w c = λ k is. weight_limit c.args.other.now c.n.ensures.sound k (sym c.w-2.ensures.value ∙ is)

pub joined_words-requires-clause-second : goal.joined_words-requires-clause-second
joined_words-requires-clause-second c =
    words_within c.args.other.now c.n.result c.words-2.result.now c.n.ensures.sound c.n.ensures.value c.words-2.ensures.value

sound : (c : After-added_weight-w)
    → IsSoundCode (record { n = c.n-2.result + c.n-3.result; d = c.d.result + c.d-2.result; w = c.added_weight-w.result; words = c.in_ok-words.words.items })
sound c =
    let a = c.args.part.now in
    let b = c.args.other.now in
    let n_is : a.n + b.n ≡ c.n-2.result + c.n-3.result = ap₂ (λ i j. i + j) (sym c.n-2.ensures.value) (sym c.n-3.ensures.value) in
    let d_is : a.d + b.d ≡ c.d.result + c.d-2.result = ap₂ (λ i j. i + j) (sym c.d.ensures.value) (sym c.d-2.ensures.value) in
    let w_is : added_weights a.w b.w ≡ c.added_weight-w.result =
    ap₂ added_weights (sym c.w.ensures.value) (sym c.w-2.ensures.value) ∙ sym c.added_weight-w.ensures in
    let words_are : juxtaposed b.n a.words b.words ≡ c.in_ok-words.words.items =
    (λ i. juxtaposed (sym c.n.ensures.value i) (sym c.words.ensures.value i) (sym c.words-2.ensures.value i)) ∙ sym c.in_ok-words.ensures in
    subst IsSoundCode (λ i. record { n = n_is i; d = d_is i; w = w_is i; words = words_are i })
    (IsSoundCode-juxtaposed a b c.words.ensures.sound c.n.ensures.sound c.requires.lengths c.requires.distances)

pub from_sorted-requires : goal.from_sorted-requires
from_sorted-requires c = record { code = sound ((goal.at.from_sorted-requires c).After-added_weight-w) }

pub returns-clause-n : goal.returns-clause-n
returns-clause-n c = ap (λ (v : CodeValue). v.n) c.from_sorted.ensures.value ∙ ap₂ (λ i j. i + j) c.n-2.ensures.value c.n-3.ensures.value

pub returns-clause-d : goal.returns-clause-d
returns-clause-d c = ap (λ (v : CodeValue). v.d) c.from_sorted.ensures.value ∙ ap₂ (λ i j. i + j) c.d.ensures.value c.d-2.ensures.value

pub returns-clause-sound : goal.returns-clause-sound
returns-clause-sound c = subst IsSoundCode (sym c.from_sorted.ensures.value) (sound ((goal.at.returns-clause-sound c).After-added_weight-w))

pub returns-clause-w : goal.returns-clause-w
returns-clause-w c =
    ap (λ (v : CodeValue). v.w) c.from_sorted.ensures.value ∙ c.added_weight-w.ensures ∙ ap₂ added_weights c.w.ensures.value c.w-2.ensures.value

pub returns-clause-words : goal.returns-clause-words
returns-clause-words c =
    ap (λ (v : CodeValue). v.words) c.from_sorted.ensures.value ∙ c.in_ok-words.ensures
    ∙ (λ i. juxtaposed (c.n.ensures.value i) (c.words.ensures.value i) (c.words-2.ensures.value i))
