-- What evidence gives to the table, kind by kind: a size just where its kind has a code.
use Rattle.std.proofs.Common.{◌≡◌, ℕ, true, Option, Some, refl}
use Rattle.ct_words.specs.declared.entry.Entry.{Entry}
use Rattle.ct_words.specs.Numbers.{numbers_of}
use Rattle.ct_duals.specs.Check.{dual_fault}
use Rattle.ct_rule_parts.specs.declared.support.Support.TheVariants.{Size}
use Rattle.ct_kind.specs.declared.evidence.Evidence.{Evidence}
use Rattle.ct_kind.specs.declared.evidence.Evidence.TheVariants.{Words, Cosets, Partition, Build, Product, Dual, JohnsonDual, Odd, JohnsonLocal}
use Rattle.ct_dual_files.proofs.DualKind.{gives_no_size, odd_gives_no_size, local_gives_no_size}
use Rattle.ct_files.specs.ByKind.{kind_of, stated_entry, has_code}

-- what a piece of a kind that has a code gives, which has a size
pub gives-size : (evidence : Evidence) (k : ℕ) → has_code evidence ≡ true → (kind_of evidence).gives (Some k) ≡ Size (stated_entry evidence) k
gives-size (Words e words) k coded = refl
gives-size (Cosets e basis representatives) k coded = refl
gives-size (Build e step part other) k coded = refl
gives-size (Product e pairs) k coded = refl
gives-size (Partition e between classes) k coded = absurd cc
gives-size (Dual d) k coded = absurd cc
gives-size (JohnsonDual d) k coded = absurd cc
gives-size (Odd d m) k coded = absurd cc
gives-size (JohnsonLocal d) k coded = absurd cc

-- what gives a size has a code
pub gives-coded : (evidence : Evidence) (o : Option ℕ) (e : Entry) (size : ℕ) → (kind_of evidence).gives o ≡ Size e size → has_code evidence ≡ true
gives-coded (Words f words) o e size h = refl
gives-coded (Cosets f basis representatives) o e size h = refl
gives-coded (Build f step part other) o e size h = refl
gives-coded (Product f pairs) o e size h = refl
gives-coded (Partition f between classes) o e size h = absurd cc
gives-coded (Dual d) o e size h = absurd (gives_no_size d (dual_fault (numbers_of d.entry) d) e size h)
gives-coded (JohnsonDual d) o e size h = absurd (gives_no_size d (dual_fault (numbers_of d.entry) d) e size h)
gives-coded (Odd d m) o e size h = absurd (odd_gives_no_size d m (dual_fault (numbers_of d.entry) d) e size h)
gives-coded (JohnsonLocal d) o e size h = absurd (local_gives_no_size d (dual_fault (numbers_of d.entry) d) e size h)
