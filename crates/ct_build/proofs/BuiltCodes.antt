-- The words that a step makes are a code of the stated entry.
use Rattle.std.proofs.Common.{◌≡◌, ◌≢◌, ℕ, ◌+◌, ◌*◌, ◌-◌, ◌^◌, ◌<◌, ◌≤◌, List, length, min, Option, Some, None, IfSome, refl, sym, subst, arith, eqb-true}
use Rattle.std.specs.Option.{option_map, ForSome}
use Rattle.ct_words.specs.declared.entry.Entry.{Entry}
use Rattle.ct_words.specs.Code.{CodeValue, IsCode, IsCodeOf, IsSoundCode}
use Rattle.ct_words.proofs.EntryLemmas.{entry_limits}
use Rattle.ct_words.specs.Constructions.Even.{even_from}
use Rattle.ct_words.specs.Constructions.Juxtaposed.{added_weights}
use Rattle.ct_words.specs.Constructions.Shortened.{shortened_weight}
use Rattle.ct_words.specs.Constructions.Places.{ArePlaces}
use Rattle.ct_words.specs.Constructions.Translation.{selected}
use Rattle.ct_words.proofs.Constructions.FrontLemmas.{IsCode-take, IsCode-nearer, IsCode-unweighted}
use Rattle.ct_words.proofs.Constructions.AppendLemmas.{IsCode-lengthened, IsCode-one_appended, IsCode-with_parity}
use Rattle.ct_words.proofs.Constructions.TranslationLemmas.{IsCode-translated, IsCode-complemented, IsCode-selected}
use Rattle.ct_words.proofs.Constructions.PuncturedCodes.{IsCode-punctured}
use Rattle.ct_words.proofs.Constructions.ShortenedCodes.{IsCode-shortened}
use Rattle.ct_words.proofs.Constructions.UuvCodes.{IsCode-uuv}
use Rattle.ct_words.proofs.Constructions.JuxtaposedCodes.{IsCode-juxtaposed}
use Rattle.ct_build.specs.declared.step.Step.{Step}
use Rattle.ct_build.specs.declared.step.Step.TheVariants.{Lengthen, AppendOne, Parity, Puncture, Shorten, Translate, Complement, Select, Uuv, Juxtapose, Trim}
use Rattle.ct_build.specs.Build.{FieldsFit, FitsStated, is_right_length, is_right_other, step_distance, selected_of, built}
use Rattle.ct_build.proofs.StepLemmas.{IsReady, no_weight, weight_lengthen, weight_append_one, weight_parity, weight_shorten, weight_complement, weight_trim, weight_juxtapose, long_puncture, long_shorten, long_select, long_translate, long_complement, long_trim, long_uuv, beside_uuv, beside_juxtapose}

-- a code read at a smaller distance, and without its weight where none is stated
pub reread : (e : Entry) (n d : ℕ) (v : Option ℕ) (words : List ℕ) → n ≡ e.n → e.d ≤ d → IfSome e.w (λ k. v ≡ Some k) → IsCode n d v words → IsCodeOf e words
reread e n d v words same near heavy code = go e.w heavy
  where
    nearer : IsCode e.n e.d v words
    nearer = subst (λ m. IsCode m e.d v words) same (IsCode-nearer n d e.d v words near code)

    go : (w : Option ℕ) → IfSome w (λ k. v ≡ Some k) → IsCode e.n e.d w words
    go None h = IsCode-unweighted e.n e.d v words nearer
    go (Some k) h = subst (λ u. IsCode e.n e.d u words) h nearer

-- the words of a part of another length than it seems
code_at : (n m d : ℕ) (w : Option ℕ) (words : List ℕ) → n ≡ m → IsCode n d w words → IsCode m d w words
code_at n m d w words same code = subst (λ k. IsCode k d w words) same code

lengthen_code : (e : Entry) (part : CodeValue) (other : Option CodeValue) → IsReady Lengthen e part other → IsCode part.n part.d part.w part.words
    → IsCodeOf e (built Lengthen e part other)
unfolding is_right_length step_distance built
lengthen_code e part other ready code =
    reread e (part.n + 1) part.d part.w _ (eqb-true (part.n + 1) e.n ready.long) ready.far (weight_lengthen e.n e.w part.w ready.heavy)
    (IsCode-lengthened part.n part.d part.w part.words code)

append_one_code : (e : Entry) (part : CodeValue) (other : Option CodeValue) → IsReady AppendOne e part other → IsCode part.n part.d part.w part.words
    → IsCodeOf e (built AppendOne e part other)
unfolding is_right_length step_distance built
append_one_code e part other ready code =
    reread e (part.n + 1) part.d (option_map (λ k. k + 1) part.w) _ (eqb-true (part.n + 1) e.n ready.long) ready.far
    (weight_append_one e.n e.w part.w ready.heavy)
    (IsCode-one_appended part.n part.d part.w part.words code)

parity_code : (e : Entry) (part : CodeValue) (other : Option CodeValue) → IsReady Parity e part other → IsCode part.n part.d part.w part.words
    → IsCodeOf e (built Parity e part other)
unfolding is_right_length step_distance built
parity_code e part other ready code =
    reread e (part.n + 1) (even_from part.d) (option_map even_from part.w) _ (eqb-true (part.n + 1) e.n ready.long) ready.far
    (weight_parity e.n e.w part.w ready.heavy)
    (IsCode-with_parity part.n part.d part.w part.words code)

puncture_code : (places : List ℕ) (e : Entry) (part : CodeValue) (other : Option CodeValue) → FitsStated (Puncture places) e → IsReady (Puncture places) e part other
    → IsCode part.n part.d part.w part.words → IsCodeOf e (built (Puncture places) e part other)
unfolding FieldsFit step_distance built
puncture_code places e part other fits ready code =
    let fields = fits.fields in
    let long = long_puncture places e part other ready in
    let far = ready.far in
    let table = entry_limits e fits.entry in
    let least = table.distance_from in
    let same : part.n - length places ≡ e.n = omega arith in
    let few : length places < part.d = omega arith in
    reread e (part.n - length places) (part.d - length places) None _ same far (no_weight e.w None fields.0)
    (IsCode-punctured part.n part.d part.w part.words places (subst (λ m. ArePlaces m places) (sym long) fields.2) few code)

shorten_code : (places digits : List ℕ) (e : Entry) (part : CodeValue) (other : Option CodeValue) → FitsStated (Shorten places digits) e
    → IsReady (Shorten places digits) e part other
    → IsCode part.n part.d part.w part.words → IsCodeOf e (built (Shorten places digits) e part other)
unfolding FieldsFit step_distance built
shorten_code places digits e part other fits ready code =
    let fields = fits.fields in
    let long = long_shorten places digits e part other ready in
    let same : part.n - length places ≡ e.n = omega arith in
    reread e (part.n - length places) part.d (shortened_weight digits part.w) _ same ready.far (weight_shorten e.n places digits e.w part.w ready.heavy)
    (IsCode-shortened part.n part.d part.w part.words places digits (subst (λ m. ArePlaces m places) (sym long) fields.1) fields.3 code)

translate_code : (by : ℕ) (e : Entry) (part : CodeValue) (other : Option CodeValue) → FitsStated (Translate by) e → IsReady (Translate by) e part other
    → IsCode part.n part.d part.w part.words → IsCodeOf e (built (Translate by) e part other)
unfolding FieldsFit step_distance built
translate_code by e part other fits ready code =
    let long = long_translate by e part other ready in
    reread e part.n part.d None _ long ready.far (no_weight e.w None fits.fields.0)
    (IsCode-translated part.n part.d by part.w part.words (subst (λ m. by < 2 ^ m) (sym long) fits.fields.1) code)

complement_code : (e : Entry) (part : CodeValue) (other : Option CodeValue) → IsReady Complement e part other → IsCode part.n part.d part.w part.words
    → IsCodeOf e (built Complement e part other)
unfolding step_distance built
complement_code e part other ready code =
    let long = long_complement e part other ready in
    reread e part.n part.d (option_map (λ k. part.n - k) part.w) _ long ready.far (weight_complement e.n part.n e.w part.w long ready.heavy)
    (IsCode-complemented part.n part.d part.w part.words code)

selected_code : (e : Entry) (w v : Option ℕ) (n d by : ℕ) (words : List ℕ) → w ≢ None → n ≡ e.n → by < 2 ^ n → e.d ≤ even_from d → IsCode n d v words
    → IsCode e.n e.d w (selected_of w n by words)
selected_code e None v n d by words some same below far code = absurd (some refl)
selected_code e (Some w) v n d by words some same below far code =
    subst (λ m. IsCode m e.d (Some w) (selected n by w words)) same
    (IsCode-nearer n (even_from d) e.d (Some w) (selected n by w words) far (IsCode-selected n d by w v words below code))

select_code : (by : ℕ) (e : Entry) (part : CodeValue) (other : Option CodeValue) → FitsStated (Select by) e → IsReady (Select by) e part other
    → IsCode part.n part.d part.w part.words → IsCodeOf e (built (Select by) e part other)
unfolding FieldsFit step_distance built
select_code by e part other fits ready code =
    let long = long_select by e part other ready in
    selected_code e e.w part.w part.n part.d by part.words fits.fields.0 long (subst (λ m. by < 2 ^ m) (sym long) fits.fields.1) ready.far code

trim_code : (size : ℕ) (e : Entry) (part : CodeValue) (other : Option CodeValue) → IsReady (Trim size) e part other → IsCode part.n part.d part.w part.words
    → IsCodeOf e (built (Trim size) e part other)
unfolding step_distance built
trim_code size e part other ready code =
    reread e part.n part.d part.w _ (long_trim size e part other ready) ready.far (weight_trim e.n size e.w part.w ready.heavy)
    (IsCode-take part.n part.d part.w size part.words code)

uuv_code : (e : Entry) (part : CodeValue) (other : Option CodeValue) → FitsStated Uuv e → IsReady Uuv e part other → IsCode part.n part.d part.w part.words
    → IfSome other (λ o. IsCode o.n o.d o.w o.words) → IsCodeOf e (built Uuv e part other)
unfolding FieldsFit is_right_other step_distance built
uuv_code e part None fits ready code second = absurd (let h = ready.beside in cc)
uuv_code e part (Some o) fits ready code second =
    let first_long = long_uuv e part (Some o) ready in
    let second_long = beside_uuv e part o ready in
    let same : o.n ≡ part.n = omega arith in
    reread e (2 * part.n) (min (2 * part.d) o.d) None _ first_long ready.far (no_weight e.w None fits.fields.0)
    (IsCode-uuv part.n part.d part.w part.words o.d o.w o.words code (code_at o.n part.n o.d o.w o.words same second))

juxtapose_code : (e : Entry) (part : CodeValue) (other : Option CodeValue) → IsReady Juxtapose e part other → IsCode part.n part.d part.w part.words
    → IfSome other (λ o. IsCode o.n o.d o.w o.words) → IsCodeOf e (built Juxtapose e part other)
unfolding is_right_other step_distance built
juxtapose_code e part None ready code second = absurd (let h = ready.beside in cc)
juxtapose_code e part (Some o) ready code second =
    let both = beside_juxtapose e part o ready in
    reread e (part.n + o.n) (part.d + o.d) (added_weights part.w o.w) _ both.0 ready.far (weight_juxtapose e.w part.w o.w both.1)
    (IsCode-juxtaposed part.n part.d part.w part.words o.n o.d o.w o.words code second)

-- whatever the step, where it fits the stated entry and the parts are such as it asks for
pub built_code : (step : Step) (e : Entry) (part : CodeValue) (other : Option CodeValue) → FitsStated step e → IsReady step e part other
    → IsCode part.n part.d part.w part.words → IfSome other (λ o. IsCode o.n o.d o.w o.words) → IsCodeOf e (built step e part other)
built_code Lengthen e part other fits ready code second = lengthen_code e part other ready code
built_code AppendOne e part other fits ready code second = append_one_code e part other ready code
built_code Parity e part other fits ready code second = parity_code e part other ready code
built_code (Puncture places) e part other fits ready code second = puncture_code places e part other fits ready code
built_code (Shorten places digits) e part other fits ready code second = shorten_code places digits e part other fits ready code
built_code (Translate by) e part other fits ready code second = translate_code by e part other fits ready code
built_code Complement e part other fits ready code second = complement_code e part other ready code
built_code (Select by) e part other fits ready code second = select_code by e part other fits ready code
built_code Uuv e part other fits ready code second = uuv_code e part other fits ready code second
built_code Juxtapose e part other fits ready code second = juxtapose_code e part other ready code second
built_code (Trim size) e part other fits ready code second = trim_code size e part other ready code

-- a sound code that is handed in is a code
pub codes_of_sound : (other : Option CodeValue) → ForSome other IsSoundCode → IfSome other (λ o. IsCode o.n o.d o.w o.words)
codes_of_sound None sound = tt
codes_of_sound (Some o) sound = let s = sound o refl in s.code
