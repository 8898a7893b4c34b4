use Rattle.std.proofs.Common.{◌≡◌, ◌-◌, ◌≤◌, List, ℕ, length, sym, ap, subst, ◌∙◌, IsPermutation}
use Rattle.std.specs.Prelude.{None}
use Rattle.ct_words.specs.Code.{IsCode, CodeValue}
use Rattle.ct_words.specs.Constructions.Places.{ArePlaces}
use Rattle.ct_words.specs.Constructions.Punctured.{punctured}
use Rattle.ct_words.proofs.Constructions.PuncturedCodes.{IsCode-punctured, length-punctured}
use Rattle.ct_build.proofs.Sound.{words_within}
use Rattle.ct_build.proofs.punctured.puncture.Goals as goal

pub code_of-requires-clause-code : goal.code_of-requires-clause-code
code_of-requires-clause-code c =
    let a = c.args.part.now in
    let places = c.args.places.now in
    let words_are : punctured a.n places a.words ≡ c.in_ok-words.words.items =
    (λ i. punctured (sym c.n.ensures.value i) places (sym c.words.ensures.value i)) ∙ sym c.in_ok-words.ensures in
    let Q : CodeValue → Type 0 = λ v. IsCode v.n v.d v.w v.words in
    subst Q (λ i. record { n = sym c.n-2.ensures.value i - length places; d = sym c.d.ensures.value i - length places; w = None; words = words_are i })
    (IsCode-punctured a.n a.d a.w a.words places c.requires.places c.requires.few c.n.ensures.sound.code)

pub code_of-requires-clause-some : goal.code_of-requires-clause-some
code_of-requires-clause-some c =
    let count = length-punctured c.n.result c.args.places.now c.words.result.now in
    subst (λ m. 1 ≤ m) (sym (ap length c.in_ok-words.ensures ∙ count ∙ ap length c.words.ensures.value)) c.n.ensures.sound.some

pub returns-clause-words : goal.returns-clause-words
returns-clause-words c =
    let places = c.args.places.now in
    subst (λ (ws : List ℕ). IsPermutation ws c.code_of.result.words)
    (c.in_ok-words.ensures ∙ (λ i. punctured (c.n.ensures.value i) places (c.words.ensures.value i))) c.code_of.ensures.words

pub punctured_words-requires-clause-places : goal.punctured_words-requires-clause-places
punctured_words-requires-clause-places c = subst (λ m. ArePlaces m c.args.places.now) (sym c.n.ensures.value) c.requires.places

pub punctured_words-requires-clause-words : goal.punctured_words-requires-clause-words
punctured_words-requires-clause-words c =
    words_within c.args.part.now c.n.result c.words.result.now c.n.ensures.sound c.n.ensures.value c.words.ensures.value
