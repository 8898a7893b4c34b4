-- What is proved of each kind of evidence, for all that rests on it.
use Rattle.std.proofs.Common.{◌≡◌, ℕ, ◌≤◌, List, [], None, Result, Ok, Err, IfErr, refl, sym, subst}
use Rattle.std.specs.Prelude.{◌+◌, ⊤}
use Rattle.toml.specs.Data.{Data, members_depth}
use Rattle.ct_fields.specs.Schema.{StatedBy}
use Rattle.ct_fields.specs.declared.document.TheConstants.{MAX_DOCUMENT}
use Rattle.ct_fields.specs.declared.fault.DocumentFault.{DocumentFault}
use Rattle.ct_fields.specs.declared.fault.DocumentFault.TheVariants.{Bytes, NotToml, Kind as NoKind}
use Rattle.ct_fields.proofs.SchemaLemmas.{AreForms, OtherFaults}
use Rattle.ct_fields.proofs.WrittenSchema.{Writes}
use Rattle.ct_fields.proofs.RoomLemmas.{Holds}
use Rattle.ct_kind.specs.declared.evidence.Evidence.{Evidence}
use Rattle.ct_kind.specs.declared.evidence.Evidence.TheVariants as evidence
use Rattle.ct_word_files.specs.Words.{words_of_texts, IsWordsOf}
use Rattle.ct_word_files.specs.Cosets.{cosets_of_texts, IsCosetsOf}
use Rattle.ct_word_files.proofs.WordsAnswers.{words_answers}
use Rattle.ct_word_files.proofs.CosetsAnswers.{cosets_answers}
use Rattle.ct_word_files.proofs.WordsSchema.{words-forms, words-sound, words-writes, words-holds, words-depth}
use Rattle.ct_word_files.proofs.CosetsSchema.{cosets-forms, cosets-sound, cosets-writes, cosets-holds, cosets-depth}
use Rattle.ct_partition_files.specs.Partition.{partition_of_lists, IsPartitionOf}
use Rattle.ct_partition_files.proofs.CountLemmas.{counts_are_right, counts_are_right-from}
use Rattle.ct_partition_files.proofs.PartitionAnswers.{partition_answers}
use Rattle.ct_partition_files.proofs.PartitionSchema.{partition-forms, partition-sound, partition-writes, partition-holds, partition-depth}
use Rattle.ct_partition_files.proofs.ProductSchema.{product-forms, product-sound, product-writes, product-holds, product-depth}
use Rattle.ct_build_files.proofs.BuildForms.{build-forms, build-faults}
use Rattle.ct_build_files.proofs.SoundBuilds.{build-sound}
use Rattle.ct_build_files.proofs.WrittenBuild.{build-writes, build-depth}
use Rattle.ct_build_files.proofs.BuildRooms.{build-holds}
use Rattle.ct_dual_files.proofs.DualForms.{dual-forms, johnson_dual-forms, odd-forms, local_dual-forms}
use Rattle.ct_dual_files.proofs.DualSchemas.{dual-sound, johnson_dual-sound, odd-sound, local_dual-sound, dual-writes, johnson_dual-writes, odd-writes, local_dual-writes}
use Rattle.ct_dual_files.proofs.DualRooms.{dual-holds, johnson_dual-holds, odd-holds, local_dual-holds, dual-depth, johnson_dual-depth, odd-depth, local_dual-depth}
use Rattle.ct_words.specs.declared.entry.Entry.{Entry}
use Rattle.ct_files.specs.Kinds.{kind_of, schema_of}
use Rattle.ct_files.specs.Evidence.{IsSound}
use Rattle.ct_files.specs.Lengths.{most_bytes}
use Rattle.ct_files.specs.Inside.Written.{fields_of, evidence_table, HasIds}
use Rattle.ct_files.specs.declared.kind.Kind.{Kind}
use Rattle.ct_files.specs.declared.kind.Kind.TheVariants as kind
use Rattle.ct_files.proofs.MostBytes.{most_bytes-room}

-- the fault is none of the bytes or of the kind of a document
abbrev pub IsInside : DocumentFault → Type 0
IsInside (Bytes count) = ⊥
IsInside NotToml = ⊥
IsInside NoKind = ⊥
IsInside fault = ⊤

-- an evidence that a document of the kind states: it is of the kind, and sound, and names pieces by ids
pub record IsOfKind (k : Kind) (e : Evidence) : Type 0 where
  pub kind : k ≡ kind_of e
  pub sound : IsSound e
  pub ids : HasIds e

-- what is said of a kind: its fields have forms, its faults are inside, and what its documents state is of the kind
pub record KindLaws (k : Kind) : Type 0 where
  pub forms : AreForms (schema_of k)
  pub faults : OtherFaults IsInside (schema_of k)
  pub stated : (document : Data) (e : Evidence) → StatedBy (schema_of k) document e → IsOfKind k e

-- what is said of an evidence: what is written for it states it, is no deeper than a document may be, and has few enough bytes, with room for cites
pub record EvidenceLaws (e : Evidence) : Type 0 where
  pub writes : Writes [] (schema_of (kind_of e)) (fields_of e) (Ok e)
  pub depth : members_depth (evidence_table e) ≤ 80
  pub holds : Holds (evidence_table e) (most_bytes e)
  pub few : most_bytes e + 8192 ≤ MAX_DOCUMENT

-- ---- each kind

-- an evidence that is another is of its kind
known : (k : Kind) (x e : Evidence) → x ≡ e → IsOfKind k e → IsOfKind k x
known k x e is of_kind = subst (IsOfKind k) (sym is) of_kind

-- an answer of which no fault of bytes or of a kind is said has none
inside-of : (r : Result Evidence DocumentFault) (P : Result Evidence DocumentFault → Type 0) → ((count : ℕ) → ¬ (P (Err (Bytes count)))) → ¬ (P (Err NotToml))
    → ¬ (P (Err NoKind)) → P r → IfErr r IsInside
inside-of (Ok e) P bytes toml kind says = tt
inside-of (Err (Bytes count)) P bytes toml kind says = absurd (bytes count says)
inside-of (Err NotToml) P bytes toml kind says = absurd (toml says)
inside-of (Err NoKind) P bytes toml kind says = absurd (kind says)
inside-of (Err fault) P bytes toml kind says = tt

words-inside : (e : Entry) (texts : List (List ℕ)) → IfErr (words_of_texts e texts) IsInside
words-inside e texts = inside-of (words_of_texts e texts) (IsWordsOf e texts) (λ c h. h) (λ h. h) (λ h. h) ((words_answers e texts (words_of_texts e texts)).0 refl)

cosets-inside : (e : Entry) (basis texts : List (List ℕ)) → IfErr (cosets_of_texts e basis texts) IsInside
cosets-inside e basis texts =
    inside-of (cosets_of_texts e basis texts) (IsCosetsOf e basis texts) (λ c h. h) (λ h. h) (λ h. h) ((cosets_answers e basis texts (cosets_of_texts e basis texts)).0 refl)

partition-inside : (e : Entry) (between : ℕ) (lists : List (List (List ℕ))) → IfErr (partition_of_lists e between lists) IsInside
partition-inside e between lists =
    inside-of (partition_of_lists e between lists) (IsPartitionOf e between lists) (λ c h. h) (λ h. h) (λ h. h)
    ((partition_answers e between lists (partition_of_lists e between lists)).0 refl)

pub laws_of_kind : (k : Kind) → KindLaws k
laws_of_kind kind.Words = record {
  forms = words-forms;
  faults = λ n weighted d w texts. words-inside (record { n = n; d = d; w = w }) texts;
  stated = λ document x s.
      let (e, words, is, entry, short, some, few) = words-sound document x s in
      known kind.Words x (evidence.Words e words) is (record { kind = refl; sound = (entry, short, some, few); ids = tt });
}
laws_of_kind kind.Cosets = record {
  forms = cosets-forms;
  faults = λ n d basis texts. cosets-inside (record { n = n; d = d; w = None }) basis texts;
  stated = λ document x s.
      let (e, basis, representatives, is, h) = cosets-sound document x s in
      known kind.Cosets x (evidence.Cosets e basis representatives) is (record {
        kind = refl;
        sound = (h.entry, h.plain, h.basis_lengths, h.lengths, h.few_basis, h.some, h.few);
        ids = tt;
      });
}
laws_of_kind kind.Partition = record {
  forms = partition-forms;
  faults = λ n weighted d w between lists. partition-inside (record { n = n; d = d; w = w }) between lists;
  stated = λ document x s.
      let (e, between, classes, is, h) = partition-sound document x s in
      known kind.Partition x (evidence.Partition e between classes) is (record {
        kind = refl;
        sound = (h.entry, h.some, h.nearer, h.lengths, counts_are_right-from classes h.counted);
        ids = tt;
      });
}
laws_of_kind kind.Product = record {
  forms = product-forms;
  faults = λ n weighted d w pairs. tt;
  stated = λ document x s.
      let (e, pairs, is, h) = product-sound document x s in
      known kind.Product x (evidence.Product e pairs) is (record { kind = refl; sound = (h.entry, h.some, h.few, h.one); ids = h.ids });
}
laws_of_kind kind.Build = record {
  forms = build-forms;
  faults = build-faults IsInside tt tt tt;
  stated = λ document x s.
      let h = build-sound document x s in
      known kind.Build x (evidence.Build h.entry h.step h.part h.other) h.is (record { kind = refl; sound = (h.fits, h.named); ids = (h.part_id, h.other_id) });
}
laws_of_kind kind.Dual = record {
  forms = dual-forms;
  faults = λ n d even c y. tt;
  stated = λ document x s.
      let (d, is, form, plain) = dual-sound document x s in
      known kind.Dual x (evidence.Dual d) is (record { kind = refl; sound = (form, plain); ids = tt });
}
laws_of_kind kind.JohnsonDual = record {
  forms = johnson_dual-forms;
  faults = λ n d w c. tt;
  stated = λ document x s.
      let (d, is, form, some, empty) = johnson_dual-sound document x s in
      known kind.JohnsonDual x (evidence.JohnsonDual d) is (record { kind = refl; sound = (form, some, empty); ids = tt });
}
laws_of_kind kind.Odd = record {
  forms = odd-forms;
  faults = λ n d even m c y. tt;
  stated = λ document x s.
      let (d, m, is, form, plain, size) = odd-sound document x s in
      known kind.Odd x (evidence.Odd d m) is (record { kind = refl; sound = (form, plain, size); ids = tt });
}
laws_of_kind kind.JohnsonLocal = record {
  forms = local_dual-forms;
  faults = λ n d w c y. tt;
  stated = λ document x s.
      let (d, is, form, some) = local_dual-sound document x s in
      known kind.JohnsonLocal x (evidence.JohnsonLocal d) is (record { kind = refl; sound = (form, some); ids = tt });
}

pub laws_of : (e : Evidence) → IsSound e → HasIds e → EvidenceLaws e
laws_of (evidence.Words e words) (entry, short, some, few) ids = record {
  writes = words-writes e words entry short some few;
  depth = words-depth e words;
  holds = words-holds e words;
  few = most_bytes-room (evidence.Words e words) (entry, short, some, few);
}
laws_of (evidence.Cosets e basis representatives) (entry, plain, short_basis, short, few_basis, some, few) ids = record {
  writes = cosets-writes e basis representatives (record {
    entry = entry;
    plain = plain;
    basis_lengths = short_basis;
    lengths = short;
    few_basis = few_basis;
    some = some;
    few = few;
  });
  depth = cosets-depth e basis representatives;
  holds = cosets-holds e basis representatives;
  few = most_bytes-room (evidence.Cosets e basis representatives) (entry, plain, short_basis, short, few_basis, some, few);
}
laws_of (evidence.Partition e between classes) (entry, some, nearer, short, right) ids = record {
  writes =
      partition-writes e between classes (record {
        entry = entry;
        some = some;
        nearer = nearer;
        lengths = short;
        counted = counts_are_right classes right;
      });
  depth = partition-depth e between classes;
  holds = partition-holds e between classes;
  few = most_bytes-room (evidence.Partition e between classes) (entry, some, nearer, short, right);
}
laws_of (evidence.Product e pairs) (entry, some, few, one) ids = record {
  writes = product-writes e pairs (record { entry = entry; some = some; few = few; one = one; ids = ids });
  depth = product-depth e pairs;
  holds = product-holds e pairs ids;
  few = most_bytes-room (evidence.Product e pairs) (entry, some, few, one);
}
laws_of (evidence.Build e step part other) (fits, named) (id, ids) = record {
  writes = build-writes e step part other fits named id ids;
  depth = build-depth e step part other fits;
  holds = build-holds e step part other fits id ids;
  few = most_bytes-room (evidence.Build e step part other) (fits, named);
}
laws_of (evidence.Dual d) (form, plain) ids = record {
  writes = dual-writes d form plain;
  depth = dual-depth d;
  holds = dual-holds d form;
  few = most_bytes-room (evidence.Dual d) (form, plain);
}
laws_of (evidence.JohnsonDual d) (form, some, empty) ids = record {
  writes = johnson_dual-writes d form some empty;
  depth = johnson_dual-depth d;
  holds = johnson_dual-holds d form;
  few = most_bytes-room (evidence.JohnsonDual d) (form, some, empty);
}
laws_of (evidence.Odd d m) (form, plain, size) ids = record {
  writes = odd-writes d m form plain size;
  depth = odd-depth d m;
  holds = odd-holds d m form;
  few = most_bytes-room (evidence.Odd d m) (form, plain, size);
}
laws_of (evidence.JohnsonLocal d) (form, some) ids = record {
  writes = local_dual-writes d form some;
  depth = local_dual-depth d;
  holds = local_dual-holds d form;
  few = most_bytes-room (evidence.JohnsonLocal d) (form, some);
}
