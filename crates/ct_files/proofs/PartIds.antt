-- The pieces that evidence names, and that reasons against it name, are named by ids.
use Rattle.std.proofs.Common.{◌≡◌, ℕ, zero, suc, Bool, true, false, cond, not, nat_lt, List, [], ◌∷◌, Option, Some, None, option_map, Ok, IfSome, IsTrue}
use Rattle.std.specs.Prelude.{All, find}
use Rattle.std.specs.Option.{option_to_list, unwrap_or}
use Rattle.std.proofs.lemmas.List.Elements.{All-nil, All-cons, All-head, All-tail}
use Rattle.ct_words.specs.declared.entry.Entry.{Entry}
use Rattle.ct_words.specs.declared.fault.CodeFault.{CodeFault}
use Rattle.ct_words.specs.Code.{CodeValue}
use Rattle.ct_words.specs.Pairs.{first_of}
use Rattle.ct_words.specs.Check.{code_fault}
use Rattle.ct_words.specs.Coset.{coset_fault}
use Rattle.ct_words.specs.Numbers.{numbers_of}
use Rattle.ct_names.specs.Id.{is_id}
use Rattle.ct_classes.specs.declared.fault.PartitionFault.{PartitionFault}
use Rattle.ct_partitions.specs.Check.{partition_fault}
use Rattle.ct_partitions.specs.Product.{product_distance}
use Rattle.ct_build.specs.declared.fault.BuildFault.{BuildFault}
use Rattle.ct_build.specs.declared.fault.BuildFault.TheVariants as build
use Rattle.ct_build.specs.declared.step.Step.{Step}
use Rattle.ct_build.specs.Build.{build_fault}
use Rattle.ct_duals.specs.declared.fault.DualFault.{DualFault}
use Rattle.ct_duals.specs.Check.{dual_fault}
use Rattle.ct_build_files.specs.BuildKind.{build_refusal, step_reason}
use Rattle.ct_partition_files.specs.Pairs.{AreIds}
use Rattle.ct_partition_files.specs.ProductKind.{Ids, ids_of, factor_named, factors_named, first_length, is_wrong_first, is_wrong_second, wrong_of_pair, wrong_of_pairs, wrong_id, short_of}
use Rattle.ct_kind.specs.declared.evidence.Evidence.{Evidence}
use Rattle.ct_kind.specs.declared.evidence.Evidence.TheVariants as evidence
use Rattle.ct_kind.specs.declared.fault.SubmitFault.{SubmitFault}
use Rattle.ct_kind.specs.declared.fault.SubmitFault.TheVariants as fault
use Rattle.ct_kind.specs.Named.{NamedCode, is_known, first_missing, code_named, other_named, partition_named}
use Rattle.ct_files.specs.Document.{DocumentValue, document_read_of}
use Rattle.ct_files.specs.ByKind.{ids_of_parts, own_reason, evidence_reason}
use Rattle.ct_files.specs.Inside.Written.{HasIds}
use Rattle.ct_files.proofs.Evidences.{read_without_limit-of_kind, read_of-without_limit}
use Rattle.ct_files.proofs.Documents.{document_read_of-evidence}
use Rattle.ct_files.proofs.RefusalTexts.{NamesById}

-- ---- what is read

-- the evidence of a document that is read names pieces by ids
pub read-ids : (bytes : List ℕ) (d : DocumentValue) → document_read_of bytes ≡ Ok d → HasIds d.evidence
read-ids bytes d read = (read_without_limit-of_kind bytes d.evidence (read_of-without_limit bytes d.evidence (document_read_of-evidence bytes d read))).ids

-- ---- the parts

abbrev AreAllIds : List (List ℕ) → Type 0
AreAllIds ids = All (λ id. IsTrue (is_id id)) ids

optional : (other : Option (List ℕ)) → IfSome other (λ id. IsTrue (is_id id)) → AreAllIds (option_to_list other)
optional None h = All-nil (λ id. IsTrue (is_id id))
optional (Some id) h = All-cons (λ i. IsTrue (is_id i)) id [] h (All-nil (λ i. IsTrue (is_id i)))

of_pairs : (pairs : List Ids) → All AreIds pairs → AreAllIds (ids_of pairs)
of_pairs [] h = All-nil (λ id. IsTrue (is_id id))
of_pairs (p ∷ ps) h =
    let both = All-head AreIds p ps h in
    All-cons (λ i. IsTrue (is_id i)) p.0 (p.1 ∷ ids_of ps) both.0
    (All-cons (λ i. IsTrue (is_id i)) p.1 (ids_of ps) both.1 (of_pairs ps (All-tail AreIds p ps h)))

parts-ids : (e : Evidence) → HasIds e → AreAllIds (ids_of_parts e)
parts-ids (evidence.Words e words) h = All-nil (λ id. IsTrue (is_id id))
parts-ids (evidence.Cosets e basis representatives) h = All-nil (λ id. IsTrue (is_id id))
parts-ids (evidence.Partition e between classes) h = All-nil (λ id. IsTrue (is_id id))
parts-ids (evidence.Product e pairs) h = of_pairs pairs h
parts-ids (evidence.Build e step part other) h = All-cons (λ i. IsTrue (is_id i)) part (option_to_list other) h.0 (optional other h.1)
parts-ids (evidence.Dual d) h = All-nil (λ id. IsTrue (is_id id))
parts-ids (evidence.JohnsonDual d) h = All-nil (λ id. IsTrue (is_id id))
parts-ids (evidence.Odd d m) h = All-nil (λ id. IsTrue (is_id id))
parts-ids (evidence.JohnsonLocal d) h = All-nil (λ id. IsTrue (is_id id))

-- what is found among ids is one
found_id : (test : List ℕ → Bool) (ids : List (List ℕ)) → AreAllIds ids → IfSome (find test ids) (λ id. IsTrue (is_id id))
found_id test [] h = tt
found_id test (i ∷ ids) h =
    at (test i) (find test ids) (All-head (λ i. IsTrue (is_id i)) i ids h) (found_id test ids (All-tail (λ i. IsTrue (is_id i)) i ids h))
  where
    at : (b : Bool) (later : Option (List ℕ)) → IsTrue (is_id i) → IfSome later (λ id. IsTrue (is_id id)) → IfSome (cond b (Some i) later) (λ id. IsTrue (is_id id))
    at true later own rest = own
    at false later own rest = rest

-- ---- reasons

-- a reason, where there is one, names a piece by an id
abbrev AnyNamesById : Option SubmitFault → Type 0
AnyNamesById reason = IfSome reason NamesById

first_named : (a b : Option SubmitFault) → AnyNamesById a → AnyNamesById b → AnyNamesById (first_of a b)
first_named None b h k = k
first_named (Some f) b h k = h

missing_named : (id : Option (List ℕ)) → IfSome id (λ i. IsTrue (is_id i)) → AnyNamesById (option_map fault.NoSuch id)
missing_named None h = tt
missing_named (Some id) h = h

wrong_named : (id : Option (List ℕ)) → IfSome id (λ i. IsTrue (is_id i)) → AnyNamesById (option_map fault.WrongPart id)
wrong_named None h = tt
wrong_named (Some id) h = h

code_named_so : (f : Option CodeFault) → AnyNamesById (option_map fault.Code f)
code_named_so None = tt
code_named_so (Some f) = tt

partition_named_so : (f : Option PartitionFault) → AnyNamesById (option_map fault.Partition f)
partition_named_so None = tt
partition_named_so (Some f) = tt

dual_named_so : (f : Option DualFault) → AnyNamesById (option_map fault.Dual f)
dual_named_so None = tt
dual_named_so (Some f) = tt

short_named : (e : Entry) (have : ℕ) → AnyNamesById (short_of e have)
short_named e have = at (nat_lt have e.d) where
  at : (b : Bool) → AnyNamesById (cond b (Some (fault.Build (build.Short have e.d))) None)
  at true = tt
  at false = tt

-- a wrong id of pairs of ids is an id
pair_id : (e : Entry) (long : ℕ) (known : List NamedCode) (p : Ids) → AreIds p → IfSome (wrong_of_pair e long known p) (λ i. IsTrue (is_id i))
pair_id e long known p h = at (is_wrong_first e.w long (partition_named p.0 known)) (is_wrong_second e (factor_named known p.0) (partition_named p.1 known)) where
  at : (a b : Bool) → IfSome (cond a (Some p.0) (cond b (Some p.1) None)) (λ i. IsTrue (is_id i))
  at true b = h.0
  at false true = h.1
  at false false = tt

first_id : (a b : Option (List ℕ)) → IfSome a (λ i. IsTrue (is_id i)) → IfSome b (λ i. IsTrue (is_id i)) → IfSome (first_of a b) (λ i. IsTrue (is_id i))
first_id None b h k = k
first_id (Some id) b h k = h

pairs_id : (e : Entry) (long : ℕ) (known : List NamedCode) (pairs : List Ids) → All AreIds pairs → IfSome (wrong_of_pairs e long known pairs) (λ i. IsTrue (is_id i))
pairs_id e long known [] h = tt
pairs_id e long known (p ∷ ps) h =
    first_id (wrong_of_pair e long known p) (wrong_of_pairs e long known ps) (pair_id e long known p (All-head AreIds p ps h))
    (pairs_id e long known ps (All-tail AreIds p ps h))

or_part : (part : List ℕ) (other : Option (List ℕ)) → IsTrue (is_id part) → IfSome other (λ i. IsTrue (is_id i)) → IsTrue (is_id (unwrap_or other part))
or_part part None h k = h
or_part part (Some id) h k = k

refusal_named : (part : List ℕ) (other : Option (List ℕ)) (f : BuildFault) → IsTrue (is_id part) → IfSome other (λ i. IsTrue (is_id i)) → NamesById (build_refusal part other f)
refusal_named part other (build.WrongPart zero) h k = h
refusal_named part other (build.WrongPart (suc i)) h k = or_part part other h k
refusal_named part other (build.Short have want) h k = tt
refusal_named part other (build.Size c) h k = tt
refusal_named part other (build.Few have want) h k = tt
refusal_named part other build.Empty h k = tt
refusal_named part other build.Memory h k = tt

refusals_named : (part : List ℕ) (other : Option (List ℕ)) (f : Option BuildFault) → IsTrue (is_id part) → IfSome other (λ i. IsTrue (is_id i))
    → AnyNamesById (option_map (build_refusal part other) f)
refusals_named part other None h k = tt
refusals_named part other (Some f) h k = refusal_named part other f h k

step_named : (e : Entry) (step : Step) (part : List ℕ) (other : Option (List ℕ)) (first beside : Option CodeValue) → IsTrue (is_id part) → IfSome other (λ i. IsTrue (is_id i))
    → AnyNamesById (step_reason e step part other first beside)
step_named e step part other None beside h k = h
step_named e step part other (Some code) beside h k = refusals_named part other (build_fault step e code beside) h k

own_named : (known : List NamedCode) (e : Evidence) → HasIds e → AnyNamesById (own_reason known e)
own_named known (evidence.Words e words) h = code_named_so (code_fault e words)
own_named known (evidence.Cosets e basis representatives) h = code_named_so (coset_fault e basis representatives)
own_named known (evidence.Partition e between classes) h = partition_named_so (partition_fault e between classes)
own_named known (evidence.Product e pairs) h =
    first_named (option_map fault.WrongPart (wrong_id e known pairs)) (short_of e (product_distance (factors_named known pairs)))
    (wrong_named (wrong_id e known pairs) (pairs_id e (first_length known pairs) known pairs h)) (short_named e (product_distance (factors_named known pairs)))
own_named known (evidence.Build e step part other) h = step_named e step part other (code_named part known) (other_named other known) h.0 h.1
own_named known (evidence.Dual d) h = dual_named_so (dual_fault (numbers_of d.entry) d)
own_named known (evidence.JohnsonDual d) h = dual_named_so (dual_fault (numbers_of d.entry) d)
own_named known (evidence.Odd d m) h = dual_named_so (dual_fault (numbers_of d.entry) d)
own_named known (evidence.JohnsonLocal d) h = dual_named_so (dual_fault (numbers_of d.entry) d)

-- the first reason against evidence that names pieces by ids names one by an id, if it names one
pub reason-named : (known : List NamedCode) (e : Evidence) → HasIds e → IfSome (evidence_reason known e) NamesById
reason-named known e h =
    first_named (option_map fault.NoSuch (first_missing known (ids_of_parts e))) (own_reason known e)
    (missing_named (first_missing known (ids_of_parts e)) (found_id (λ id. not (is_known id known)) (ids_of_parts e) (parts-ids e h))) (own_named known e h)
