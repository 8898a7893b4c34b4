-- What is said of evidence against which its kind's own check finds nothing, kind by kind.
use Rattle.std.proofs.Common.{◌≡◌, ℕ, ◌≤◌, List, length, Option, Some, None, option_map, subst}
use Rattle.std.specs.Prelude.{IfSome, codes}
use Rattle.ct_words.specs.Code.{IsCodeOf, IsSoundCode}
use Rattle.ct_words.proofs.CheckLemmas.{first_of-None}
use Rattle.ct_duals.proofs.FormLemmas.{allows_none-plain, allows_none-empty}
use Rattle.ct_kind.specs.declared.evidence.Evidence.{Evidence}
use Rattle.ct_kind.specs.declared.evidence.Evidence.TheVariants.{Words, Cosets, Partition, Build, Product, Dual, JohnsonDual, Odd, JohnsonLocal}
use Rattle.ct_kind.specs.declared.fault.SubmitFault.TheVariants as fault
use Rattle.ct_kind.specs.Ascending.{code_at}
use Rattle.ct_kind.specs.Named.{NamedCode, first_missing}
use Rattle.ct_kind.specs.Sound.{AreSound}
use Rattle.ct_kind.proofs.CodeAt.{code_at-sound}
use Rattle.ct_kind.proofs.Stating.{StatesWell, option_map-none}
use Rattle.ct_word_files.proofs.WordsKind.{words_state}
use Rattle.ct_word_files.proofs.CosetsKind.{cosets_state}
use Rattle.ct_partition_files.proofs.PartitionKind.{partition_states}
use Rattle.ct_partition_files.proofs.ProductKind.{product_states}
use Rattle.ct_build_files.proofs.BuildKind.{build_states}
use Rattle.ct_dual_files.proofs.DualKind.{dual_states, odd_states, local_states}
use Rattle.ct_files.specs.ByKind.{kind_of, stated_entry, ids_of_parts, own_reason, words_over, evidence_reason, IsChecked}
use Rattle.ct_files.specs.Evidence.{IsSound}

-- evidence that its kind's own check finds nothing against states what its kind should
abbrev pub StatesCode : List NamedCode → Evidence → Type 0
StatesCode known evidence = StatesWell (kind_of evidence) known (IsChecked known evidence)

-- evidence that was read, and against which there is no reason over the codes
pub record IsRight (known : List NamedCode) (evidence : Evidence) : Type 0 where
  pub sound : IsSound evidence
  pub faultless : evidence_reason known evidence ≡ None

-- so its kind's own check finds nothing
pub right-own : (known : List NamedCode) (evidence : Evidence) → IsRight known evidence → own_reason known evidence ≡ None
right-own known evidence h = (first_of-None (option_map fault.NoSuch (first_missing known (ids_of_parts evidence))) (own_reason known evidence) h.faultless).1

-- and its parts are known
pub right-parts : (known : List NamedCode) (evidence : Evidence) → IsRight known evidence → first_missing known (ids_of_parts evidence) ≡ None
right-parts known evidence h =
    option_map-none fault.NoSuch (first_missing known (ids_of_parts evidence))
    (first_of-None (option_map fault.NoSuch (first_missing known (ids_of_parts evidence))) (own_reason known evidence) h.faultless).0

-- evidence that its kind's own check finds nothing against states what it should
pub own_states : (known : List NamedCode) (evidence : Evidence) → AreSound known → IsSound evidence → own_reason known evidence ≡ None → StatesCode known evidence
own_states known (Words e words) sound read own = words_state known e words read.0 read.1 own
own_states known (Cosets e basis representatives) sound read own = cosets_state known e basis representatives read.0 read.1 read.2 read.3 own
own_states known (Partition e between classes) sound read own = partition_states known e between classes read.0 read.1 read.2 read.3 own
own_states known (Product e pairs) sound read own = product_states known e pairs sound read.0 read.1 read.3 own
own_states known (Build e step part other) sound read own = build_states known e step part other sound read.0 own
own_states known (Dual d) sound read own = dual_states known (codes "dual") d read.0 (allows_none-plain d.entry.w d.y read.1) own
own_states known (JohnsonDual d) sound read own = dual_states known (codes "jdual") d read.0 (allows_none-empty d.entry.w d.y read.2) own
own_states known (Odd d m) sound read own = odd_states known (codes "odd") d m read.0 own
own_states known (JohnsonLocal d) sound read own = local_states known (codes "jlocal") d read.0 own

pub states_code : (known : List NamedCode) (evidence : Evidence) → AreSound known → IsRight known evidence → StatesCode known evidence
states_code known evidence sound h = own_states known evidence sound h.sound (right-own known evidence h)

-- the code of words that are one is one
pub over-sound : (known : List NamedCode) (evidence : Evidence) (words : Option (List ℕ)) → StatesCode known evidence → words_over known evidence ≡ words
    → IfSome (option_map (code_at (stated_entry evidence)) words) IsSoundCode
over-sound known evidence None states is = tt
over-sound known evidence (Some words) states is =
    let code = subst (λ (o : Option (List ℕ)). IfSome o (λ (ws : List ℕ). (1 ≤ length ws) × IsCodeOf (stated_entry evidence) ws)) is states.code in
    code_at-sound (stated_entry evidence) words states.entry code.0 code.1
