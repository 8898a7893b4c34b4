-- Lists of texts, and the classes of words that they write, where they are read.
use Rattle.std.proofs.Common.{◌≡◌, ℕ, ◌+◌, ◌^◌, ◌<◌, true, List, [], ◌∷◌, ◌++◌, length, map, Some, Result, Ok, Err, refl, sym, ap, ◌∙◌, subst}
use Rattle.std.specs.List.{AllByRecursion}
use Rattle.std.proofs.lemmas.Option.{option_and_then_some}
use Rattle.toml.specs.Data.{Data, string, integer, float, boolean, datetime, array, table, Items, no_items, item}
use Rattle.toml.specs.View.{items_of}
use Rattle.ct_words.specs.Text.{word_text}
use Rattle.ct_classes.specs.Partition.{words_of_classes}
use Rattle.ct_fields.specs.Steps.{◌>>=◌}
use Rattle.ct_fields.specs.Fields.{texts_in, words_from}
use Rattle.ct_fields.specs.Tables.{IsFirstWrong}
use Rattle.ct_fields.specs.declared.field.FieldName.{FieldName}
use Rattle.ct_fields.specs.declared.fault.DocumentFault.{DocumentFault}
use Rattle.ct_fields.specs.declared.fault.DocumentFault.TheVariants.{Digits}
use Rattle.ct_fields.proofs.StepLemmas.{bind-ok, bind-at_err}
use Rattle.ct_fields.proofs.FieldLemmas.{texts_in-some, texts_of-items_of}
use Rattle.ct_fields.proofs.WordsLemmas.{words_from-ok, words_from-from, words_from-err, words_from-wrong, both_words, words_from-append}
use Rattle.ct_fields.proofs.LastLemmas.{is_of_a_kind}
use Rattle.ct_fields.proofs.SchemaLemmas.{IsForm}
use Rattle.ct_partition_files.specs.Lists.{text_lists_of, text_lists_in, text_lists_form, all_texts, class_texts, classes_from}

-- lists of texts that are read are the items, and they are read from them
text_lists_of-some : (ds : Items) (lists : List (List (List ℕ))) → text_lists_of ds ≡ Some lists
    → ds ≡ items_of (map (λ texts. array (items_of (map string texts))) lists)
text_lists_of-some no_items lists e = let same : [] ≡ lists = cc in rw (← same) refl
text_lists_of-some (item d ds) lists e =
    option_and_then_some _ (texts_in d) lists e (λ texts texts-are next.
    option_and_then_some _ (text_lists_of ds) lists next (λ more more-are last.
    let same : texts ∷ more ≡ lists = cc in
    let d-is = texts_in-some d texts texts-are in
    rw (← same) (λ i. item (d-is i) (text_lists_of-some ds more more-are i))))

text_lists_of-items : (lists : List (List (List ℕ))) → text_lists_of (items_of (map (λ texts. array (items_of (map string texts))) lists)) ≡ Some lists
text_lists_of-items [] = refl
text_lists_of-items (texts ∷ lists) = rw (texts_of-items_of texts, text_lists_of-items lists) refl

text_lists_in-some : (d : Data) (lists : List (List (List ℕ))) → text_lists_in d ≡ Some lists
    → d ≡ array (items_of (map (λ texts. array (items_of (map string texts))) lists))
text_lists_in-some (array ds) lists e = ap array (text_lists_of-some ds lists e)
text_lists_in-some (string s) lists e = absurd cc
text_lists_in-some (integer z) lists e = absurd cc
text_lists_in-some (float x) lists e = absurd cc
text_lists_in-some (boolean b) lists e = absurd cc
text_lists_in-some (datetime t) lists e = absurd cc
text_lists_in-some (table ms) lists e = absurd cc

-- so a list of lists of texts is a form
pub text_lists-form : (name : FieldName) → is_of_a_kind name ≡ true → IsForm (text_lists_form name)
text_lists-form name own = record {
  own = own;
  reads = record { some = λ d lists e. (text_lists_in-some d lists e, refl); from = λ lists right. text_lists_of-items lists };
}

-- what holds of two lists holds of both, one after the other, and the other way round
on_both : (P : ℕ → Type 0) (xs ys : List ℕ) → AllByRecursion P xs → AllByRecursion P ys → AllByRecursion P (xs ++ ys)
on_both P [] ys none each = each
on_both P (x ∷ xs) ys (first, rest) each = (first, on_both P xs ys rest each)

on_first : (P : ℕ → Type 0) (xs ys : List ℕ) → AllByRecursion P (xs ++ ys) → AllByRecursion P xs
on_first P [] ys each = tt
on_first P (x ∷ xs) ys (first, rest) = (first, on_first P xs ys rest)

on_second : (P : ℕ → Type 0) (xs ys : List ℕ) → AllByRecursion P (xs ++ ys) → AllByRecursion P ys
on_second P [] ys each = each
on_second P (x ∷ xs) ys (first, rest) = on_second P xs ys rest

-- what is read is one
ok-same : {X : Type 0} (x y : X) → ◌≡◌ {A = Result X DocumentFault} (Ok x) (Ok y) → x ≡ y
ok-same x y same = cc

-- the texts that are read are those of the words of the classes
pub classes_from-ok : (n place : ℕ) (lists : List (List (List ℕ))) (classes : List (List ℕ)) → classes_from n place lists ≡ Ok classes
    → (lists ≡ class_texts n classes) × AllByRecursion (λ x. x < 2 ^ n) (words_of_classes classes)
classes_from-ok n place [] classes e = let same : [] ≡ classes = cc in rw (← same) (refl, tt)
classes_from-ok n place (texts ∷ lists) classes e =
    let (words, words-are, more) = bind-ok (words_from n place texts) _ classes e in
    let (rest, rest-are, all) = bind-ok (classes_from n (place + length texts) lists) _ classes more in
    let same = ok-same (words ∷ rest) classes all in
    let first = words_from-ok n place texts words words-are in
    let after = classes_from-ok n (place + length texts) lists rest rest-are in
    let P : List (List ℕ) → Type 0 = λ cs. (texts ∷ lists ≡ class_texts n cs) × AllByRecursion (λ x. x < 2 ^ n) (words_of_classes cs) in
    subst P same (λ i. first.0 i ∷ after.0 i, on_both (λ x. x < 2 ^ n) words (words_of_classes rest) first.1 after.1)

-- texts of words are read as these
pub classes_from-from : (n place : ℕ) (classes : List (List ℕ)) → AllByRecursion (λ x. x < 2 ^ n) (words_of_classes classes)
    → classes_from n place (class_texts n classes) ≡ Ok classes
classes_from-from n place [] short = refl
classes_from-from n place (words ∷ classes) short =
    let first = words_from-from n place words (on_first (λ x. x < 2 ^ n) words (words_of_classes classes) short) in
    let rest =
    classes_from-from n (place + length (map (word_text n) words)) classes
    (on_second (λ x. x < 2 ^ n) words (words_of_classes classes) short) in
    rw (first, rest) refl

-- the words of one list and those of the classes after it
joined : (first : Result (List ℕ) DocumentFault) (rest : Result (List (List ℕ)) DocumentFault) (after : Result (List ℕ) DocumentFault)
    → (rest >>= (λ classes. Ok (words_of_classes classes))) ≡ after
    → ((first >>= (λ words. rest >>= (λ classes. Ok (words ∷ classes)))) >>= (λ classes. Ok (words_of_classes classes))) ≡ both_words first after
joined (Ok words) (Ok classes) after same = ap (both_words (Ok words)) same
joined (Ok words) (Err fault) after same = ap (both_words (Ok words)) same
joined (Err fault) rest after same = refl

-- the words of all classes are read from all texts, one after the other
classes_from-joined : (n place : ℕ) (lists : List (List (List ℕ)))
    → (classes_from n place lists >>= (λ classes. Ok (words_of_classes classes))) ≡ words_from n place (all_texts lists)
classes_from-joined n place [] = refl
classes_from-joined n place (texts ∷ lists) =
    joined (words_from n place texts) (classes_from n (place + length texts) lists) (words_from n (place + length texts) (all_texts lists))
    (classes_from-joined n (place + length texts) lists)
    ∙ sym (words_from-append n place texts (all_texts lists))

-- so the fault names the first text of no word
pub classes_from-err : (n place : ℕ) (lists : List (List (List ℕ))) (fault : DocumentFault) → classes_from n place lists ≡ Err fault
    → (i : ℕ) × (Digits (place + i) ≡ fault) × IsFirstWrong n (all_texts lists) i
classes_from-err n place lists fault e =
    words_from-err n place (all_texts lists) fault
    (sym (classes_from-joined n place lists) ∙ bind-at_err (classes_from n place lists) _ fault e)

own_fault : (read : Result (List (List ℕ)) DocumentFault) (fault : DocumentFault) → (read >>= (λ classes. Ok (words_of_classes classes))) ≡ Err fault
    → read ≡ Err fault
own_fault (Ok classes) fault e = absurd cc
own_fault (Err other) fault e = let same : other ≡ fault = cc in ap Err same

pub classes_from-wrong : (n place : ℕ) (lists : List (List (List ℕ))) (i : ℕ) → IsFirstWrong n (all_texts lists) i
    → classes_from n place lists ≡ Err (Digits (place + i))
classes_from-wrong n place lists i first =
    own_fault (classes_from n place lists) (Digits (place + i))
    (classes_from-joined n place lists ∙ words_from-wrong n place (all_texts lists) i first)
