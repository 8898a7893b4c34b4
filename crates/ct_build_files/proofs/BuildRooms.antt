-- The room of what is written for a build.
use Rattle.std.proofs.Common.{◌≡◌, ℕ, ◌+◌, ◌*◌, ◌≤◌, IsTrue, pos, List, [], ◌∷◌, length, codes, Option, Some, None, IfSome, option_map, refl, arith}
use Rattle.toml.specs.Data.{Data, string, integer}
use Rattle.ct_words.proofs.TextLemmas.{length-word_text}
use Rattle.ct_words.specs.declared.limits.TheConstants.{MAX_N}
use Rattle.ct_words.specs.declared.entry.Entry.{Entry}
use Rattle.ct_words.proofs.EntryLemmas.{entry_limits}
use Rattle.ct_names.specs.Id.{is_id}
use Rattle.ct_build.specs.Build.{FieldsFit, FitsStated}
use Rattle.ct_build.specs.declared.step.Step.{Step}
use Rattle.ct_build.specs.declared.step.Step.TheVariants.{Puncture, Shorten, Translate, Select, Trim}
use Rattle.ct_fields.specs.Inside.Room.{IsBare, IsSimple, room}
use Rattle.ct_fields.specs.WrittenSchema.{written_table}
use Rattle.ct_fields.specs.declared.field.FieldName.{FieldName}
use Rattle.ct_fields.specs.declared.field.FieldName.TheVariants as name
use Rattle.ct_fields.proofs.RoomLemmas.{Holds, holds-more, word_text-simple, characters-bare, id-bare, id-short}
use Rattle.ct_fields.proofs.WrittenRooms.{fields_room, holds-written}
use Rattle.ct_build_files.specs.Operation.{operation_text, operation_of}
use Rattle.ct_build_files.specs.WrittenBuild.{number_list, digits_text, step_fields, with_other, build_fields}
use Rattle.ct_build_files.specs.declared.operation.Operation.{Operation}
use Rattle.ct_build_files.specs.declared.operation.Operation.TheVariants.{Lengthen}
use Rattle.ct_build_files.proofs.WrittenBuild.{steps-have, fields-have}

-- the text of an operation is bare and short
operation-bare : (o : Operation) → IsBare (operation_text o)
operation-bare Lengthen = refl
operation-bare o = refl

operation-short : (o : Operation) → length (operation_text o) ≤ 10
operation-short Lengthen = omega arith
operation-short o = omega arith

-- numbers in a list, and digits
numbers-simple : (numbers : List ℕ) → IsSimple (number_list numbers)
numbers-simple [] = tt
numbers-simple (k ∷ numbers) = (tt, numbers-simple numbers)

numbers-room : (numbers : List ℕ) → room (number_list numbers) ≡ 2 + 22 * length numbers
numbers-room [] = omega arith
numbers-room (k ∷ numbers) = let rest = numbers-room numbers in omega (arith, rest)

digits-length : (digits : List ℕ) → length (digits_text digits) ≡ length digits
digits-length [] = refl
digits-length (a ∷ digits) = let rest = digits-length digits in omega (arith, rest)

-- the bytes of the own fields of a step that fits, at most: a list of MAX_N numbers, and a text of MAX_N digits
abbrev most_own : ℕ
most_own = (12 + 22 * MAX_N) + (12 + MAX_N)

own_room : (s : Step) (e : Entry) → e.n ≤ MAX_N → FieldsFit s e → fields_room (step_fields s e.n) ≤ most_own
unfolding FieldsFit
own_room (Puncture places) e small (plain, some, are, within) = let list = numbers-room places in omega (arith, list, within)
own_room (Shorten places digits) e small (some, are, within, same, binary) =
    let list = numbers-room places in let text = digits-length digits in omega (arith, list, text, same, within)
own_room (Translate by) e small fits = let text = length-word_text e.n by in omega (arith, text, small)
own_room (Select by) e small fits = let text = length-word_text e.n by in omega (arith, text, small)
own_room (Trim size) e small fits = omega arith
own_room s e small fits = omega arith

-- those of the weight and of the other piece
weight_room : (w : Option ℕ) (fields : List (FieldName × Option Data)) → fields_room ((name.W, option_map (λ k. integer (pos k)) w) ∷ fields) ≤ 25 + fields_room fields
weight_room None fields = omega arith
weight_room (Some w) fields = omega arith

other_room : (other : Option (List ℕ)) (fields : List (FieldName × Option Data)) → IfSome other (λ id. IsTrue (is_id id))
    → fields_room (with_other other fields) ≤ 43 + fields_room fields
other_room None fields ids = omega arith
other_room (Some id) fields is = let short = id-short id is in omega (arith, short)

-- the table of a build has at most 1024
pub build-holds : (e : Entry) (s : Step) (part : List ℕ) (other : Option (List ℕ)) → FitsStated s e → IsTrue (is_id part)
    → IfSome other (λ id. IsTrue (is_id id)) → Holds (written_table (codes "build") (build_fields e s part other)) 1024
build-holds e s part other fits id ids =
    let text = string (operation_text (operation_of s)) in
    let beside = with_other other (step_fields s e.n) in
    let weight = weight_room e.w ((name.Op, Some text) ∷ (name.Part, Some (string part)) ∷ beside) in
    let short = operation-short (operation_of s) in
    let first = id-short part id in
    let second = other_room other (step_fields s e.n) ids in
    let own = own_room s e (entry_limits e fits.entry).length_to fits.fields in
    holds-more _ _ _
    (holds-written (codes "build") (build_fields e s part other) refl
    (fields-have IsSimple e s part other (λ k. tt) (operation-bare (operation_of s)) (id-bare part id) (beside-bare other ids)
    (steps-have IsSimple s e fits.fields (λ k. tt) numbers-simple (λ x. word_text-simple e.n x) characters-bare)))
    (omega (arith, weight, short, first, second, own))
  where
    beside-bare : (o : Option (List ℕ)) → IfSome o (λ id. IsTrue (is_id id)) → IfSome o IsBare
    beside-bare None is = tt
    beside-bare (Some id) is = id-bare id is
