-- The codes of the lines of a derivation, as they are built one after the other.
use Rattle.std.specs.Prelude.{◌≡◌, ◌<◌, ℕ, Bool, List, [], ◌∷◌, length, All, slice_get, Option, Some}
use Rattle.std.specs.List.{flat_map, list_any}
use Rattle.ct_words.specs.declared.claim.Claim.{Claim}
use Rattle.ct_words.specs.Code.{CodeValue}
use Rattle.ct_words.specs.Constructions.Places.{is_among}
use Rattle.ct_rules.specs.Derivation.{LineValue}
use Rattle.ct_rule_codes.specs.CodeEntry.{entry_of_code}

-- a code of what a claim bounds, with just as many words as it says
pub record IsCodeFor (claim : Claim) (c : CodeValue) : Type 0 where
  pub entry : entry_of_code c ≡ claim.entry
  pub size : length c.words ≡ claim.value

-- codes for the claims of the lines at the places, in their order
abbrev pub AreCodesFor : List LineValue → List ℕ → List CodeValue → Type 0
AreCodesFor lines [] [] = Unit {0}
AreCodesFor lines (p ∷ ps) (c ∷ cs) = ((l : LineValue) × (slice_get lines p ≡ Some l) × IsCodeFor l.claim c) × AreCodesFor lines ps cs
AreCodesFor lines ps cs = ⊥

-- the code that is kept for the line at the place is one for its claim
abbrev pub IsKept : List LineValue → List (Option CodeValue) → ℕ → Type 0
IsKept lines kept p =
    (l : LineValue) × (c : CodeValue) × (slice_get lines p ≡ Some l) × (slice_get kept p ≡ Some (Some c)) × IsCodeFor l.claim c

-- of the places that are still to be named, each one that is built has its code
abbrev pub AreKept : List LineValue → List (Option CodeValue) → List ℕ → Type 0
AreKept lines kept pending = All (λ p. p < length kept → IsKept lines kept p) pending

-- the places that lines name, in their order
abbrev pub named_by : List LineValue → List ℕ
named_by lines = flat_map (λ l. l.from) lines

-- whether one of the lines names the place
abbrev pub is_named : List LineValue → ℕ → Bool
is_named lines p = list_any (λ l. is_among l.from p) lines
