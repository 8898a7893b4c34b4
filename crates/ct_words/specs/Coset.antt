-- Codes put together from cosets: each representative with all sums of basis words added to it (MacWilliams and Sloane, chapter 1).
use Rattle.std.specs.Prelude.{◌≡◌, ℕ, ◌+◌, ◌*◌, ◌/◌, ◌%◌, ◌^◌, ◌<◌, ◌≤◌, nat_lt, ◌==◌, ◌||◌, if◌then◌else◌, bit_xor, List, [], ◌∷◌, length, slice_index, All, Option, Some, None}
use Rattle.ct_words.specs.declared.limits.TheConstants.{MAX_N}
use Rattle.ct_words.specs.Text.{tabulate}
use Rattle.ct_words.specs.declared.entry.Entry.{Entry}
use Rattle.ct_words.specs.declared.fault.CodeFault.{CodeFault}
use Rattle.ct_words.specs.declared.fault.CodeFault.TheVariants.{Size, Work}
use Rattle.ct_words.specs.declared.fault.TheConstants.{MAX_REPRESENTATIVES, MAX_COSET_WORK}
use Rattle.ct_words.specs.Entry.{IsEntry}
use Rattle.ct_words.specs.Code.{IsCodeOf}
use Rattle.ct_words.specs.Pairs.{first_of}
use Rattle.ct_words.specs.Check.{close_fault}

-- the sum without carry of the basis words whose places j in the basis have ⌊s / 2^j⌋ odd
abbrev pub span_word : List ℕ → ℕ → ℕ
span_word [] s = 0
span_word (b ∷ bs) s = bit_xor (if s % 2 == 1 then b else 0) (span_word bs (s / 2))

-- the number of choices of a representative and a set of basis words
abbrev pub choice_count : List ℕ → List ℕ → ℕ
choice_count basis representatives = length representatives * 2 ^ length basis

-- the word of choice t over k basis words: the representative at place ⌊t / 2^k⌋, plus the basis words that t mod 2^k chooses
abbrev pub choice_word : List ℕ → List ℕ → ℕ → ℕ
choice_word basis representatives t =
    bit_xor (slice_index representatives (t / 2 ^ length basis)) (span_word basis (t % 2 ^ length basis))

-- the words of all choices, in the order of their numbers
unfoldable pub coset_list : List ℕ → List ℕ → List ℕ
coset_list basis representatives = tabulate (choice_word basis representatives) (choice_count basis representatives)

-- r(r + 1)/2 · 2^k over r representatives and k basis words: the pairs of a representative with itself or a later one, for each sum of basis words
abbrev pub coset_work : List ℕ → List ℕ → ℕ
coset_work basis representatives = length representatives * (length representatives + 1) / 2 * 2 ^ length basis

-- the basis has more than MAX_N words, or else there is no representative or more than MAX_REPRESENTATIVES
abbrev pub coset_size_fault : List ℕ → List ℕ → Option CodeFault
coset_size_fault basis representatives =
    if nat_lt MAX_N (length basis) then Some (Size (length basis))
    else if length representatives == 0 || nat_lt MAX_REPRESENTATIVES (length representatives) then Some (Size (length representatives))
    else None

-- the work is above the limit
abbrev pub coset_work_fault : List ℕ → List ℕ → Option CodeFault
coset_work_fault basis representatives =
    if nat_lt MAX_COSET_WORK (coset_work basis representatives) then Some (Work (coset_work basis representatives)) else None

-- the first reason why the basis and the representatives are not accepted for the entry: size, work, two choices that are close, in this order;
-- none where they are
unfoldable pub coset_fault : Entry → List ℕ → List ℕ → Option CodeFault
coset_fault e basis representatives =
    first_of (coset_size_fault basis representatives)
    (first_of (coset_work_fault basis representatives) (close_fault e.n e.d (coset_list basis representatives)))

-- a coset code as callers see it: its entry, its basis and its representatives
pub record CosetValue : Type 0 where
  pub entry : Entry
  pub basis : List ℕ
  pub representatives : List ℕ

-- the value is a coset code: the entry is of the table and without weight, the words are of its length, their numbers and the work are within the
-- limits, and the words of all choices are a code of the entry
pub record IsSoundCosetCode (c : CosetValue) : Type 0 where
  pub entry : IsEntry c.entry
  pub unweighted : c.entry.w ≡ None
  pub basis_words : All (λ x. x < 2 ^ c.entry.n) c.basis
  pub representative_words : All (λ x. x < 2 ^ c.entry.n) c.representatives
  pub basis_size : length c.basis ≤ MAX_N
  pub representative_size : (1 ≤ length c.representatives) × (length c.representatives ≤ MAX_REPRESENTATIVES)
  pub work : coset_work c.basis c.representatives ≤ MAX_COSET_WORK
  pub code : IsCodeOf c.entry (coset_list c.basis c.representatives)
