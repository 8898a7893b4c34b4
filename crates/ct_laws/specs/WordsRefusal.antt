-- Why words are no code of an entry: each reason by its plain condition, which holds where those of the reasons before it don't.
use Rattle.std.specs.Prelude.{◌≡◌, ◌⊎◌, ℕ, ◌<◌, ◌≤◌, ◌==◌, nat_lt, List, length, slice_index}
use Rattle.ct_words.specs.Word.{distance}
use Rattle.ct_words.specs.declared.entry.Entry.{Entry}
use Rattle.ct_words.specs.declared.fault.CodeFault.{CodeFault}
use Rattle.ct_words.specs.declared.fault.CodeFault.TheVariants as code
use Rattle.ct_words.specs.declared.fault.TheConstants.{MAX_WORDS}
use Rattle.ct_words.specs.Pairs.{IsLeastPair, NoPair}
use Rattle.ct_laws.specs.Weights.{HaveWeight, IsFirstOfOtherWeight}
use Rattle.ct_kind.specs.declared.fault.SubmitFault.{SubmitFault}
use Rattle.ct_kind.specs.declared.fault.SubmitFault.TheVariants as fault

-- there are 1 to MAX_WORDS words
abbrev pub HasRightCount : List ℕ → Type 0
HasRightCount words = (1 ≤ length words) × (length words ≤ MAX_WORDS)

-- no two places hold equal words
abbrev pub AreDifferent : List ℕ → Type 0
AreDifferent words = NoPair (λ x y. x == y) words

-- i and j are the least places whose words are closer than d, and they have this distance
abbrev pub IsLeastClose : ℕ → ℕ → List ℕ → ℕ → ℕ → ℕ → Type 0
IsLeastClose n d words i j apart =
    IsLeastPair (λ x y. nat_lt (distance n x y) d) words i j × (apart ≡ distance n (slice_index words i) (slice_index words j))

-- the words are no code of the entry for this reason: no word, or too many; the first word without the weight; the least two places with equal
-- words; the least two with close ones
abbrev pub IsCodeFault : Entry → List ℕ → CodeFault → Type 0
IsCodeFault e words (code.Size count) = ((count ≡ 0) ⊎ (MAX_WORDS < count)) × (count ≡ length words)
IsCodeFault e words (code.Weight i) = HasRightCount words × IsFirstOfOtherWeight e words i
IsCodeFault e words (code.Repeated i j) = HasRightCount words × HaveWeight e words × IsLeastPair (λ x y. x == y) words i j
IsCodeFault e words (code.Close i j apart) = HasRightCount words × HaveWeight e words × AreDifferent words × IsLeastClose e.n e.d words i j apart
IsCodeFault e words (code.Work work) = ⊥
IsCodeFault e words code.Memory = ⊥

-- evidence of kind words is refused for this reason
abbrev pub IsWordsRefusal : Entry → List ℕ → SubmitFault → Type 0
IsWordsRefusal e words (fault.Code reason) = IsCodeFault e words reason
IsWordsRefusal e words reason = ⊥
