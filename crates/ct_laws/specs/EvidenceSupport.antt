-- Evidence among supports.
use Rattle.std.specs.Prelude.{◌≡◌, ℕ, List, Some, None, slice_get}
use Rattle.ct_kind.specs.declared.evidence.Evidence.{Evidence}
use Rattle.ct_files.specs.Evidence.{IsSound}
use Rattle.ct_kind.specs.Named.{NamedCode}
use Rattle.ct_rule_parts.specs.declared.support.Support.{Support}
use Rattle.ct_files.specs.ByKind.{kind_of, own_reason}

-- evidence of a kind without size has the form of a document's, its check finds nothing against it, and what it gives is the support at this place
pub record IsSupportOf (known : List NamedCode) (supports : List Support) (place : ℕ) (evidence : Evidence) : Type 0 where
  pub sound : IsSound evidence
  pub faultless : own_reason known evidence ≡ None
  pub given : slice_get supports place ≡ Some ((kind_of evidence).gives None)
