-- Codes whose words are put into ascending order.
use Rattle.std.proofs.Common.{◌≡◌, ℕ, ◌≤◌, List, length, Option, Some, None, Result, Ok, Err, IfOk, option_map, sym, ap, ◌∙◌}
use Rattle.std.specs.List.Sorted.{IsPermutation}
use Rattle.std.proofs.lemmas.List.Sorted.{length_permutation}
use Rattle.ct_words.specs.declared.entry.Entry.{Entry}
use Rattle.ct_words.specs.Entry.{IsEntry}
use Rattle.ct_words.specs.Code.{CodeValue, IsCodeOf, IsSoundCode}
use Rattle.ct_words.proofs.CheckLemmas.{sound_from_code}
use Rattle.ct_kind.specs.Ascending.{ascending, code_at}
use Rattle.ct_kind.proofs.AscendingLemmas.{ascending_is, ascending-moved, ascending-sorted}

-- a code of the entry that has the words of the list is the one with them in ascending order
pub code_at_is : (e : Entry) (words : List ℕ) (c : CodeValue) → c.n ≡ e.n → c.d ≡ e.d → c.w ≡ e.w → IsPermutation words c.words → IsSoundCode c → c ≡ code_at e words
code_at_is e words c n d w moved sound =
    let same = ascending_is words c.words moved sound.ascending in
    λ i. record { n = n i; d = d i; w = w i; words = same i }

-- the same of an answer
pub code_at_answer : {E : Type 0} (e : Entry) (words : List ℕ) (answer : Result CodeValue E) → IfOk answer (λ (c : CodeValue). c.n ≡ e.n) → IfOk answer (λ (c : CodeValue). c.d ≡ e.d)
    → IfOk answer (λ (c : CodeValue). c.w ≡ e.w) → IfOk answer (λ (c : CodeValue). IsPermutation words c.words) → IfOk answer IsSoundCode → IfOk answer (λ (c : CodeValue). c ≡ code_at e words)
code_at_answer e words (Ok c) n d w moved sound = code_at_is e words c n d w moved sound
code_at_answer e words (Err fault) n d w moved sound = tt

-- the code at an entry of words that are one is one
pub code_at-sound : (e : Entry) (words : List ℕ) → IsEntry e → 1 ≤ length words → IsCodeOf e words → IsSoundCode (code_at e words)
code_at-sound e words entry some code = sound_from_code e words (ascending words) entry some code (ascending-moved words) (ascending-sorted words)

-- so many words are in the code as there are
pub size-of_code : (e : Entry) (words : Option (List ℕ)) (code : CodeValue) → option_map (code_at e) words ≡ Some code → option_map length words ≡ Some (length code.words)
size-of_code e None code is = absurd cc
size-of_code e (Some words) code is =
    let same : code_at e words ≡ code = cc in
    let long = length_permutation words (ascending words) (ascending-moved words) in
    ap Some (sym long ∙ ap (λ (c : CodeValue). length c.words) same)
