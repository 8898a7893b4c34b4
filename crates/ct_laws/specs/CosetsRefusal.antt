-- Why cosets are no code of an entry: each reason by its plain condition, which holds where those of the reasons before it don't.
use Rattle.std.specs.Prelude.{◌≡◌, ◌⊎◌, ℕ, ◌<◌, ◌≤◌, List, length}
use Rattle.ct_words.specs.declared.limits.TheConstants.{MAX_N}
use Rattle.ct_words.specs.declared.entry.Entry.{Entry}
use Rattle.ct_words.specs.declared.fault.CodeFault.{CodeFault}
use Rattle.ct_words.specs.declared.fault.CodeFault.TheVariants as code
use Rattle.ct_words.specs.declared.fault.TheConstants.{MAX_REPRESENTATIVES, MAX_COSET_WORK}
use Rattle.ct_words.specs.Coset.{coset_list, coset_work}
use Rattle.ct_kind.specs.declared.fault.SubmitFault.{SubmitFault}
use Rattle.ct_kind.specs.declared.fault.SubmitFault.TheVariants as fault
use Rattle.ct_laws.specs.WordsRefusal.{IsLeastClose}

-- there are 1 to MAX_REPRESENTATIVES representatives
abbrev pub HasRightRepresentatives : List ℕ → Type 0
HasRightRepresentatives representatives = (1 ≤ length representatives) × (length representatives ≤ MAX_REPRESENTATIVES)

-- there are at most MAX_N basis words, and the number of representatives is right
abbrev pub HasRightSizes : List ℕ → List ℕ → Type 0
HasRightSizes basis representatives = (length basis ≤ MAX_N) × HasRightRepresentatives representatives

-- so many basis words are too many; or else so many representatives are none or too many
abbrev pub IsWrongSize : List ℕ → List ℕ → ℕ → Type 0
IsWrongSize basis representatives count =
    ((MAX_N < count) × (count ≡ length basis))
    ⊎ ((length basis ≤ MAX_N) × ((count ≡ 0) ⊎ (MAX_REPRESENTATIVES < count)) × (count ≡ length representatives))

-- the cosets are no code of the entry for this reason: a wrong number of basis words or of representatives; too much work; the least two choices
-- whose words are close
abbrev pub IsCosetFault : Entry → List ℕ → List ℕ → CodeFault → Type 0
IsCosetFault e basis representatives (code.Size count) = IsWrongSize basis representatives count
IsCosetFault e basis representatives (code.Work work) =
    HasRightSizes basis representatives × (MAX_COSET_WORK < work) × (work ≡ coset_work basis representatives)
IsCosetFault e basis representatives (code.Close i j apart) =
    HasRightSizes basis representatives × (coset_work basis representatives ≤ MAX_COSET_WORK)
    × IsLeastClose e.n e.d (coset_list basis representatives) i j apart
IsCosetFault e basis representatives (code.Weight i) = ⊥
IsCosetFault e basis representatives (code.Repeated i j) = ⊥
IsCosetFault e basis representatives code.Memory = ⊥

-- evidence of kind cosets is refused for this reason
abbrev pub IsCosetsRefusal : Entry → List ℕ → List ℕ → SubmitFault → Type 0
IsCosetsRefusal e basis representatives (fault.Code reason) = IsCosetFault e basis representatives reason
IsCosetsRefusal e basis representatives reason = ⊥
