-- The size of a code is a lower bound of its entry.
use Rattle.std.proofs.Common.{ℕ, ◌^◌, ◌≤◌, List, length, Some, refl, arith, lit≤}
use Rattle.std.proofs.Math.Nat.{pow-le-pow_right}
use Rattle.ct_words.specs.declared.limits.TheConstants.{MAX_BOUND}
use Rattle.ct_words.specs.declared.entry.Entry.{Entry}
use Rattle.ct_words.specs.Entry.{IsEntry}
use Rattle.ct_words.specs.Code.{IsCodeOf}
use Rattle.ct_words.proofs.CheckLemmas.{code_size-le}
use Rattle.ct_words.proofs.EntryLemmas.{entry_limits}
use Rattle.ct_rule_parts.specs.Support.{Stands}
use Rattle.ct_kind.specs.KindParts.{support_from}

-- a code of an entry of the table has at most so many words as the table's greatest bound
pub code-le : (e : Entry) (words : List ℕ) → IsEntry e → IsCodeOf e words → length words ≤ MAX_BOUND
code-le e words entry code =
    let size = code_size-le e.n e.d e.w words code in
    let cap : 2 ^ e.n ≤ MAX_BOUND = pow-le-pow_right (lit≤ tt) (entry_limits e entry).length_to in
    omega (arith, size, cap)

-- the size of a code stands at its entry
pub size-stands : (e : Entry) (words : List ℕ) → IsEntry e → 1 ≤ length words → IsCodeOf e words → Stands (support_from e (Some (length words)))
size-stands e words entry some code = record { entry = entry; range = (some, code-le e words entry code); truth = (words, code, refl) }
