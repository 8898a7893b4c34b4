-- Evidence of kind words.
use Rattle.std.proofs.Common.{◌≡◌, ℕ, ◌^◌, ◌<◌, ◌≤◌, List, length, None, option_map, refl, ap}
use Rattle.std.specs.Prelude.{All}
use Rattle.ct_words.specs.declared.entry.Entry.{Entry}
use Rattle.ct_words.specs.declared.fault.TheConstants.{MAX_WORDS}
use Rattle.ct_words.specs.Entry.{IsEntry}
use Rattle.ct_words.specs.Code.{IsCodeOf}
use Rattle.ct_words.proofs.CheckLemmas.{code_from_no_fault, no_fault_of_code}
use Rattle.ct_kind.specs.Named.{NamedCode}
use Rattle.ct_kind.specs.declared.fault.SubmitFault.TheVariants as fault
use Rattle.ct_kind.proofs.Stating.{option_map-none, StatesWell, SaysSame}
use Rattle.ct_kind.proofs.SizeLemmas.{size-stands}
use Rattle.ct_word_files.specs.WordsKind.{words_kind}

-- words against which there is no reason are a code
pub words_state : (known : List NamedCode) (e : Entry) (words : List ℕ) → IsEntry e → All (λ x. x < 2 ^ e.n) words → (words_kind e words).reason known ≡ None
    → StatesWell (words_kind e words) known (IsCodeOf e words)
words_state known e words entry within own =
    let whole = code_from_no_fault e words within (option_map-none fault.Code _ own) in
    record {
      entry = entry;
      checked = whole.2;
      coded = refl;
      code = (whole.0, whole.2);
      size = λ yes. refl;
      partition = tt;
      stands = size-stands e words entry whole.0 whole.2;
    }

-- so they are what is asked
pub words_checked : (known : List NamedCode) (e : Entry) (words : List ℕ) → All (λ x. x < 2 ^ e.n) words → (words_kind e words).reason known ≡ None → IsCodeOf e words
words_checked known e words within own = (code_from_no_fault e words within (option_map-none fault.Code _ own)).2

-- words that are a code have no reason against them
pub words_accepted : (known : List NamedCode) (e : Entry) (words : List ℕ) → 1 ≤ length words → length words ≤ MAX_WORDS → IsCodeOf e words
    → (words_kind e words).reason known ≡ None
words_accepted known e words some few code = ap (option_map fault.Code) (no_fault_of_code e words some few code)

-- they are the same over all codes
pub words_same : (e : Entry) (words : List ℕ) (left right : List NamedCode) → SaysSame (words_kind e words) left right
words_same e words left right = record { reason = refl; words = refl; size = refl }
