-- The fields of a document of kind partition: they have forms, what they state is sound, and what is written states the partition again.
use Rattle.std.proofs.Common.{◌≡◌, ℕ, ◌+◌, ◌*◌, ◌^◌, ◌<◌, ◌≤◌, nat_le, List, [], ◌∷◌, ◌++◌, length, length-append, map, codes, Option, Some, IfSome, Ok, refl, sym, ap, le-leb, arith, lit≤}
use Rattle.std.specs.Prelude.{All, pos}
use Rattle.std.proofs.lemmas.Bool.{and_from}
use Rattle.std.proofs.lemmas.List.Elements.{All-nil, All-cons}
use Rattle.std.proofs.lemmas.Simd.{map-map}
use Rattle.toml.specs.Data.{Data, string, integer, array, depth, items_depth, members_depth}
use Rattle.toml.specs.View.{items_of}
use Rattle.ct_words.specs.Text.{word_text}
use Rattle.ct_words.specs.declared.entry.Entry.{Entry}
use Rattle.ct_words.specs.Entry.{IsEntry}
use Rattle.ct_classes.specs.Partition.{words_of_classes}
use Rattle.ct_fields.specs.Forms.{list_data}
use Rattle.ct_fields.specs.Inside.Room.{IsSimple, room}
use Rattle.ct_fields.specs.Schema.{Schema, states, needs, StatedBy}
use Rattle.ct_fields.specs.EntrySchema.{number_form}
use Rattle.ct_fields.specs.Written.{word_texts}
use Rattle.ct_fields.specs.WrittenSchema.{written_table}
use Rattle.ct_fields.specs.declared.field.FieldName.{FieldName}
use Rattle.ct_fields.specs.declared.field.FieldName.TheVariants as name
use Rattle.ct_fields.proofs.SchemaLemmas.{AreForms}
use Rattle.ct_fields.proofs.EntryForms.{range_of, number-form, any-forms, any-stated, any-writes}
use Rattle.ct_fields.proofs.WrittenSchema.{Writes, depth-written}
use Rattle.ct_fields.proofs.RoomLemmas.{Holds, holds-more, words-simple, words-room}
use Rattle.ct_fields.proofs.WrittenRooms.{holds-written, entry-simple, entry-flat, entry-room}
use Rattle.ct_fields.proofs.WordTexts.{texts_depth}
use Rattle.ct_kind.specs.declared.evidence.Evidence.{Evidence}
use Rattle.ct_kind.specs.declared.evidence.Evidence.TheVariants.{Partition}
use Rattle.ct_partition_files.specs.Lists.{text_lists_form, class_list, class_texts}
use Rattle.ct_partition_files.specs.Partition.{partition_of_lists, partition_schema, partition_fields, AreCountedClasses, IsPartitionOf}
use Rattle.ct_partition_files.proofs.ListLemmas.{text_lists-form}
use Rattle.ct_partition_files.proofs.PartitionAnswers.{partition_answers}

-- what follows the entry
abbrev after : Entry → Schema Evidence
after e = needs (number_form name.D1 1 e.d) (λ between. needs (text_lists_form name.Classes) (λ lists. states (partition_of_lists e between lists)))

pub partition-forms : AreForms partition_schema
partition-forms =
    any-forms after (λ n d w short light.
    (number-form name.D1 1 d refl, λ between right. (text_lists-form name.Classes refl, λ lists l-right. tt)))

-- what is asked of a partition that is read
pub record IsSoundPartition (e : Entry) (between : ℕ) (classes : List (List ℕ)) : Type 0 where
  pub entry : IsEntry e
  pub some : 1 ≤ between
  pub nearer : between ≤ e.d
  pub lengths : All (λ x. x < 2 ^ e.n) (words_of_classes classes)
  pub counted : AreCountedClasses classes

pub partition-sound : (document : Data) (x : Evidence) → StatedBy partition_schema document x
    → (e : Entry) × (between : ℕ) × (classes : List (List ℕ)) × (x ≡ Partition e between classes) × IsSoundPartition e between classes
partition-sound document x stated =
    let (e, entry, (between, b-has, (lists, has, made))) = any-stated after document x stated in
    let (some, nearer) = range_of 1 e.d between b-has.1 in
    at e between entry some nearer lists x ((partition_answers e between lists (Ok x)).0 made)
  where
    at : (e : Entry) (between : ℕ) → IsEntry e → 1 ≤ between → between ≤ e.d → (lists : List (List (List ℕ))) (x : Evidence) → IsPartitionOf e between lists (Ok x)
        → (f : Entry) × (apart : ℕ) × (classes : List (List ℕ)) × (x ≡ Partition f apart classes) × IsSoundPartition f apart classes
    at e between entry some nearer lists (Partition own apart classes) (is, same, are, counted) = (
      e,
      between,
      classes,
      λ i. Partition (is i) (same i) classes,
      record { entry = entry; some = some; nearer = nearer; lengths = are.lengths; counted = counted },
    )
    at e between entry some nearer lists other never = absurd never

-- the texts of the words of each class
class_texts-are : (n : ℕ) (classes : List (List ℕ)) → class_list n classes ≡ list_data (list_data string) (class_texts n classes)
class_texts-are n classes = ap (λ ds. array (items_of ds)) (each classes)
  where
    each : (cs : List (List ℕ)) → map (word_texts n) cs ≡ map (list_data string) (class_texts n cs)
    each [] = refl
    each (words ∷ cs) = λ i. array (items_of (sym (map-map string (word_text n) words) i)) ∷ each cs i

-- what is written for such a partition states it
pub partition-writes : (e : Entry) (between : ℕ) (classes : List (List ℕ)) → IsSoundPartition e between classes
    → Writes [] partition_schema (partition_fields e between classes) (Ok (Partition e between classes))
partition-writes e between classes sound =
    let lists = class_texts e.n classes in
    let made = (partition_answers e between lists (Ok (Partition e between classes))).1 (refl, refl, record { same = refl; lengths = sound.lengths }, sound.counted) in
    any-writes after e ((name.D1, Some (integer (pos between))) ∷ (name.Classes, Some (class_list e.n classes)) ∷ []) (Ok (Partition e between classes)) sound.entry (
      between,
      refl,
      and_from (nat_le 1 between) (nat_le between e.d) (le-leb 1 between sound.some) (le-leb between e.d sound.nearer),
      (lists, ap Some (class_texts-are e.n classes), refl, (refl, made)),
    )

-- ---- how large its table is

classes-simple : (n : ℕ) (classes : List (List ℕ)) → IsSimple (class_list n classes)
classes-simple n [] = tt
classes-simple n (words ∷ classes) = (words-simple n words, classes-simple n classes)

classes-room : (n : ℕ) (classes : List (List ℕ)) → room (class_list n classes) ≡ 2 + 4 * length classes + (n + 4) * length (words_of_classes classes)
classes-room n [] = omega arith
classes-room n (words ∷ classes) =
    let here = words-room n words in
    let rest = classes-room n classes in
    let split : (n + 4) * length (words ++ words_of_classes classes) ≡ (n + 4) * length words + (n + 4) * length (words_of_classes classes) =
    rw (length-append words (words_of_classes classes)) (omega arith)
    in omega (arith, here, rest, split)

pub partition-holds : (e : Entry) (between : ℕ) (classes : List (List ℕ))
    → Holds (written_table (codes "partition") (partition_fields e between classes)) (160 + 4 * length classes + (e.n + 4) * length (words_of_classes classes))
partition-holds e between classes =
    let P : FieldName × Option Data → Type 0 = λ f. IfSome f.1 IsSimple in
    let lists = (name.Classes, Some (class_list e.n classes)) ∷ [] in
    let fields = (name.D1, Some (integer (pos between))) ∷ lists in
    let simple = All-cons P (name.D1, Some (integer (pos between))) lists tt (All-cons P (name.Classes, Some (class_list e.n classes)) [] (classes-simple e.n classes) (All-nil P)) in
    let small = classes-room e.n classes in
    let stated = entry-room e fields in
    holds-more _ _ _ (holds-written (codes "partition") (partition_fields e between classes) refl (entry-simple e fields simple)) (omega (arith, small, stated))

classes_depth : (n : ℕ) (classes : List (List ℕ)) → items_depth (items_of (map (word_texts n) classes)) ≤ 1
classes_depth n [] = lit≤ tt
classes_depth n (words ∷ classes) =
    let first = texts_depth n words in
    let rest = classes_depth n classes in
    omega arith

pub partition-depth : (e : Entry) (between : ℕ) (classes : List (List ℕ)) → members_depth (written_table (codes "partition") (partition_fields e between classes)) ≤ 80
partition-depth e between classes =
    let P : FieldName × Option Data → Type 0 = λ f. IfSome f.1 (λ d. depth d ≤ 80) in
    let lists = (name.Classes, Some (class_list e.n classes)) ∷ [] in
    let flat = classes_depth e.n classes in
    depth-written 80 (codes "partition") (partition_fields e between classes)
    (entry-flat e ((name.D1, Some (integer (pos between))) ∷ lists)
    (All-cons P (name.D1, Some (integer (pos between))) lists (lit≤ tt) (All-cons P (name.Classes, Some (class_list e.n classes)) [] (omega (arith, flat)) (All-nil P))))
