use Rattle.std.proofs.Common.{ℕ, List, take, sym, ap, subst, ◌∙◌, option_copied, IsPermutation}
use Rattle.std.specs.Prelude.{IfOk, OnErr, ◌≢◌, []}
use Rattle.ct_words.specs.Constructions.Places.{ArePlaces}
use Rattle.ct_words.specs.Constructions.Punctured.{punctured}
use Rattle.ct_words.specs.Constructions.Shortened.{shortened}
use Rattle.ct_words.specs.Constructions.Translation.{translated, all_ones}
use Rattle.ct_words.proofs.Constructions.AppendLemmas.{length-lengthened, length-one_appended, length-with_parity}
use Rattle.ct_words.proofs.Constructions.TranslationLemmas.{length-translated, length-complemented}
use Rattle.ct_words.proofs.Constructions.PuncturedCodes.{length-punctured}
use Rattle.ct_build.specs.declared.step.Step.{Step}
use Rattle.ct_build.specs.declared.step.Step.TheVariants.{Lengthen, AppendOne, Parity, Puncture, Shorten, Translate, Complement, Select, Uuv, Juxtapose}
use Rattle.ct_build.specs.Build.{built}
use Rattle.ct_build.proofs.StepLemmas.{ready_at, fits_at, room_lengthen, room_append_one, room_parity, places_puncture, places_shorten, below_select, room_uuv, same_uuv, room_juxtapose}
use Rattle.ct_build.proofs.BuildFaults.{IfErr-anyway, as_made, none_made, each_some, trim_some}
use Rattle.ct_build.proofs.Sound.{words_within}
use Rattle.ct_build.proofs.built_words.built_words.Goals as goal

pub followed_by_digit-requires-clause-short : goal.followed_by_digit-requires-clause-short
followed_by_digit-requires-clause-short c =
    let other = option_copied c.args.other in
    room_lengthen c.args.stated c.args.part.now other c.requires.fits.entry
    (ready_at c.args.step.now Lengthen c.args.stated c.args.part.now other c.in-Lengthen.is c.requires.faultless)

pub followed_by_digit-requires-in-AppendOne-clause-short : goal.followed_by_digit-requires-in-AppendOne-clause-short
followed_by_digit-requires-in-AppendOne-clause-short c =
    let other = option_copied c.args.other in
    room_append_one c.args.stated c.args.part.now other c.requires.fits.entry
    (ready_at c.args.step.now AppendOne c.args.stated c.args.part.now other c.in-AppendOne.is c.requires.faultless)

pub followed_by_parity-requires : goal.followed_by_parity-requires
followed_by_parity-requires c =
    let other = option_copied c.args.other in
    room_parity c.args.stated c.args.part.now other c.requires.fits.entry
    (ready_at c.args.step.now Parity c.args.stated c.args.part.now other c.in-Parity.is c.requires.faultless)

pub punctured_words-requires-clause-places : goal.punctured_words-requires-clause-places
punctured_words-requires-clause-places c =
    let other = option_copied c.args.other in
    let e = c.args.stated in
    let part = c.args.part.now in
    let places = c.in-Puncture.places in
    let kind = Puncture places in
    subst (λ m. ArePlaces m c.as_slice.result.now) (sym c.n-n.ensures.value)
    (subst (λ (ps : List ℕ). ArePlaces part.n ps) (sym c.as_slice.ensures)
    (places_puncture places e part other (fits_at c.args.step.now kind e c.in-Puncture.is c.requires.fits)
    (ready_at c.args.step.now kind e part other c.in-Puncture.is c.requires.faultless)))

pub shortened_words-requires-clause-places : goal.shortened_words-requires-clause-places
shortened_words-requires-clause-places c =
    let other = option_copied c.args.other in
    let e = c.args.stated in
    let part = c.args.part.now in
    let places = c.in-Shorten.places in
    let kind = Shorten places c.in-Shorten.digits in
    subst (λ m. ArePlaces m c.as_slice-in-Shorten.result.now) (sym c.n-n.ensures.value)
    (subst (λ (ps : List ℕ). ArePlaces part.n ps) (sym c.as_slice-in-Shorten.ensures)
    (places_shorten places c.in-Shorten.digits e part other (fits_at c.args.step.now kind e c.in-Shorten.is c.requires.fits)
    (ready_at c.args.step.now kind e part other c.in-Shorten.is c.requires.faultless)))

pub selected_words-requires : goal.selected_words-requires
selected_words-requires c =
    let other = option_copied c.args.other in
    let e = c.args.stated in
    let part = c.args.part.now in
    let kind = Select c.in-Select.by in
    below_select c.in-Select.by e part other (fits_at c.args.step.now kind e c.in-Select.is c.requires.fits)
    (ready_at c.args.step.now kind e part other c.in-Select.is c.requires.faultless)

pub words_with_sums-requires-clause-room : goal.words_with_sums-requires-clause-room
words_with_sums-requires-clause-room c =
    let other = option_copied c.args.other in
    room_uuv c.args.stated c.args.part.now other c.requires.fits.entry
    (ready_at c.args.step.now Uuv c.args.stated c.args.part.now other c.in-Uuv.is c.requires.faultless)

pub words_with_sums-requires-clause-lengths : goal.words_with_sums-requires-clause-lengths
words_with_sums-requires-clause-lengths c =
    let other = option_copied c.args.other in
    same_uuv c.args.stated c.args.part.now other
    (ready_at c.args.step.now Uuv c.args.stated c.args.part.now other c.in-Uuv.is c.requires.faultless)

pub words_side_by_side-requires : goal.words_side_by_side-requires
words_side_by_side-requires c =
    let other = option_copied c.args.other in
    room_juxtapose c.args.stated c.args.part.now other c.requires.fits.entry
    (ready_at c.args.step.now Juxtapose c.args.stated c.args.part.now other c.in-Juxtapose.is c.requires.faultless)

pub returns-in-Uuv-clause-words : goal.returns-in-Uuv-clause-words
returns-in-Uuv-clause-words c =
    subst (λ (s : Step). IfOk c.words_with_sums.result (λ v. IsPermutation (built s c.args.stated c.args.part.now (option_copied c.args.other)) v.items))
    (sym c.in-Uuv.is) (c.words_with_sums.ensures.words c.args.stated)

pub returns-in-Juxtapose-clause-words : goal.returns-in-Juxtapose-clause-words
returns-in-Juxtapose-clause-words c =
    subst (λ (s : Step). IfOk c.words_side_by_side.result (λ v. IsPermutation (built s c.args.stated c.args.part.now (option_copied c.args.other)) v.items))
    (sym c.in-Juxtapose.is) (c.words_side_by_side.ensures.words c.args.stated)

pub returns-in-Uuv-clause-some : goal.returns-in-Uuv-clause-some
returns-in-Uuv-clause-some c =
    subst (λ (s : Step). OnErr c.words_with_sums.result (built s c.args.stated c.args.part.now (option_copied c.args.other) ≢ []))
    (sym c.in-Uuv.is) (c.words_with_sums.ensures.some c.args.stated)

pub returns-in-Juxtapose-clause-some : goal.returns-in-Juxtapose-clause-some
returns-in-Juxtapose-clause-some c =
    subst (λ (s : Step). OnErr c.words_side_by_side.result (built s c.args.stated c.args.part.now (option_copied c.args.other) ≢ []))
    (sym c.in-Juxtapose.is) (c.words_side_by_side.ensures.some c.args.stated)

pub returns-in-Trim-clause-some : goal.returns-in-Trim-clause-some
returns-in-Trim-clause-some c =
    let other = option_copied c.args.other in
    IfErr-anyway c.first_words.result (λ _. built c.args.step.now c.args.stated c.args.part.now other ≢ [])
    (λ _. trim_some c.args.step.now c.in-Trim.size c.args.stated c.args.part.now other c.in-Trim.is c.requires.fits c.n-n.ensures.sound.some)

pub returns-in-Lengthen-clause-some : goal.returns-in-Lengthen-clause-some
unfolding built
returns-in-Lengthen-clause-some c =
    let other = option_copied c.args.other in
    IfErr-anyway c.followed_by_digit.result (λ _. built c.args.step.now c.args.stated c.args.part.now other ≢ [])
    (λ _. each_some c.args.step.now Lengthen c.args.stated c.args.part.now other c.in-Lengthen.is
    (length-lengthened c.args.part.now.words) c.n-n.ensures.sound.some)

pub returns-in-AppendOne-clause-some : goal.returns-in-AppendOne-clause-some
unfolding built
returns-in-AppendOne-clause-some c =
    let other = option_copied c.args.other in
    IfErr-anyway c.followed_by_digit-in-AppendOne.result (λ _. built c.args.step.now c.args.stated c.args.part.now other ≢ [])
    (λ _. each_some c.args.step.now AppendOne c.args.stated c.args.part.now other c.in-AppendOne.is
    (length-one_appended c.args.part.now.words) c.n-n.ensures.sound.some)

pub returns-in-Parity-clause-some : goal.returns-in-Parity-clause-some
unfolding built
returns-in-Parity-clause-some c =
    let other = option_copied c.args.other in
    IfErr-anyway c.followed_by_parity.result (λ _. built c.args.step.now c.args.stated c.args.part.now other ≢ [])
    (λ _. each_some c.args.step.now Parity c.args.stated c.args.part.now other c.in-Parity.is
    (length-with_parity c.args.part.now.n c.args.part.now.words) c.n-n.ensures.sound.some)

pub returns-in-Puncture-clause-some : goal.returns-in-Puncture-clause-some
unfolding built
returns-in-Puncture-clause-some c =
    let other = option_copied c.args.other in
    IfErr-anyway c.punctured_words.result (λ _. built c.args.step.now c.args.stated c.args.part.now other ≢ [])
    (λ _. each_some c.args.step.now (Puncture c.in-Puncture.places) c.args.stated c.args.part.now other c.in-Puncture.is
    (length-punctured c.args.part.now.n c.in-Puncture.places c.args.part.now.words) c.n-n.ensures.sound.some)

pub returns-in-Translate-clause-some : goal.returns-in-Translate-clause-some
unfolding built
returns-in-Translate-clause-some c =
    let other = option_copied c.args.other in
    IfErr-anyway c.sorted_sums.result (λ _. built c.args.step.now c.args.stated c.args.part.now other ≢ [])
    (λ _. each_some c.args.step.now (Translate c.in-Translate.by) c.args.stated c.args.part.now other c.in-Translate.is
    (length-translated c.in-Translate.by c.args.part.now.words) c.n-n.ensures.sound.some)

pub returns-in-Complement-clause-some : goal.returns-in-Complement-clause-some
unfolding built
returns-in-Complement-clause-some c =
    let other = option_copied c.args.other in
    IfErr-anyway c.sorted_sums-in-Complement.result (λ _. built c.args.step.now c.args.stated c.args.part.now other ≢ [])
    (λ _. each_some c.args.step.now Complement c.args.stated c.args.part.now other c.in-Complement.is
    (length-complemented c.args.part.now.n c.args.part.now.words) c.n-n.ensures.sound.some)

pub returns-in-Lengthen-clause-words : goal.returns-in-Lengthen-clause-words
unfolding built
returns-in-Lengthen-clause-words c =
    let made = λ (s : Step). built s c.args.stated c.args.part.now (option_copied c.args.other) in
    as_made c.followed_by_digit.result _ (made c.args.step.now) (ap made (sym c.in-Lengthen.is)) c.followed_by_digit.ensures

pub returns-in-AppendOne-clause-words : goal.returns-in-AppendOne-clause-words
unfolding built
returns-in-AppendOne-clause-words c =
    let made = λ (s : Step). built s c.args.stated c.args.part.now (option_copied c.args.other) in
    as_made c.followed_by_digit-in-AppendOne.result _ (made c.args.step.now) (ap made (sym c.in-AppendOne.is)) c.followed_by_digit-in-AppendOne.ensures

pub returns-in-Parity-clause-words : goal.returns-in-Parity-clause-words
unfolding built
returns-in-Parity-clause-words c =
    let made = λ (s : Step). built s c.args.stated c.args.part.now (option_copied c.args.other) in
    as_made c.followed_by_parity.result _ (made c.args.step.now) (ap made (sym c.in-Parity.is)) c.followed_by_parity.ensures

pub returns-in-Puncture-clause-words : goal.returns-in-Puncture-clause-words
unfolding built
returns-in-Puncture-clause-words c =
    let made = λ (s : Step). built s c.args.stated c.args.part.now (option_copied c.args.other) in
    as_made c.punctured_words.result _ (made c.args.step.now)
    ((λ i. punctured (c.n-n.ensures.value i) (c.as_slice.ensures i) (c.words-words.ensures.value i)) ∙ ap made (sym c.in-Puncture.is)) c.punctured_words.ensures

pub returns-in-Shorten-clause-words : goal.returns-in-Shorten-clause-words
unfolding built
returns-in-Shorten-clause-words c =
    let made = λ (s : Step). built s c.args.stated c.args.part.now (option_copied c.args.other) in
    as_made c.shortened_words.result _ (made c.args.step.now)
    ((λ i. shortened (c.n-n.ensures.value i) (c.as_slice-in-Shorten.ensures i) (c.as_slice-in-Shorten-2.ensures i) (c.words-words.ensures.value i))
    ∙ ap made (sym c.in-Shorten.is)) c.shortened_words.ensures.words

pub returns-in-Select-clause-words : goal.returns-in-Select-clause-words
unfolding built
returns-in-Select-clause-words c =
    let made = λ (s : Step). built s c.args.stated c.args.part.now (option_copied c.args.other) in
    as_made c.selected_words.result _ (made c.args.step.now) (ap made (sym c.in-Select.is)) c.selected_words.ensures.words

pub returns-in-Trim-clause-words : goal.returns-in-Trim-clause-words
unfolding built
returns-in-Trim-clause-words c =
    let made = λ (s : Step). built s c.args.stated c.args.part.now (option_copied c.args.other) in
    as_made c.first_words.result _ (made c.args.step.now)
    ((λ i. take c.in-Trim.size (c.words-words.ensures.value i)) ∙ ap made (sym c.in-Trim.is)) c.first_words.ensures

pub returns-in-Translate-clause-words : goal.returns-in-Translate-clause-words
unfolding built
returns-in-Translate-clause-words c =
    let made = λ (s : Step). built s c.args.stated c.args.part.now (option_copied c.args.other) in
    subst (λ (ws : List ℕ). IfOk c.sorted_sums.result (λ v. IsPermutation ws v.items))
    ((λ i. translated c.in-Translate.by (c.words-words.ensures.value i)) ∙ ap made (sym c.in-Translate.is)) c.sorted_sums.ensures.permutation

pub returns-in-Complement-clause-words : goal.returns-in-Complement-clause-words
unfolding built
returns-in-Complement-clause-words c =
    let made = λ (s : Step). built s c.args.stated c.args.part.now (option_copied c.args.other) in
    subst (λ (ws : List ℕ). IfOk c.sorted_sums-in-Complement.result (λ v. IsPermutation ws v.items))
    ((λ i. translated ((c.all_ones.ensures ∙ ap all_ones c.n-n.ensures.value) i) (c.words-words.ensures.value i)) ∙ ap made (sym c.in-Complement.is))
    c.sorted_sums-in-Complement.ensures.permutation

pub returns-in-Select-clause-some : goal.returns-in-Select-clause-some
unfolding built
returns-in-Select-clause-some c =
    subst (λ (s : Step). OnErr c.selected_words.result (built s c.args.stated c.args.part.now (option_copied c.args.other) ≢ []))
    (sym c.in-Select.is) c.selected_words.ensures.some

pub returns-in-Shorten-clause-some : goal.returns-in-Shorten-clause-some
unfolding built
returns-in-Shorten-clause-some c =
    let made = λ (s : Step). built s c.args.stated c.args.part.now (option_copied c.args.other) in
    none_made c.shortened_words.result _ (made c.args.step.now)
    (ap made c.in-Shorten.is
    ∙ (λ i.
    shortened (sym c.n-n.ensures.value i) (sym c.as_slice-in-Shorten.ensures i) (sym c.as_slice-in-Shorten-2.ensures i) (sym c.words-words.ensures.value i)))
    c.shortened_words.ensures.none

pub punctured_words-requires-clause-words : goal.punctured_words-requires-clause-words
punctured_words-requires-clause-words c =
    words_within c.args.part.now c.n-n.result c.words-words.result.now c.n-n.ensures.sound c.n-n.ensures.value c.words-words.ensures.value

pub shortened_words-requires-clause-words : goal.shortened_words-requires-clause-words
shortened_words-requires-clause-words c =
    words_within c.args.part.now c.n-n.result c.words-words.result.now c.n-n.ensures.sound c.n-n.ensures.value c.words-words.ensures.value
