-- The summary of the sample.
use Rattle.std.specs.Prelude.{◌≡◌, ℕ, ◌==◌, List, [], ◌∷◌, ◌++◌, length, sum_by, count_by, codes}
use Rattle.ct_text.specs.declared.document_lines.TheConstants.{LINE_FEED}
use Rattle.ct_text.specs.Number.{spaced}
use Rattle.ct_words.specs.declared.entry.Entry.{Entry}
use Rattle.ct_words.specs.declared.claim.Side.TheVariants.{Lower, Upper}
use Rattle.ct_words.specs.Entry.{IsEntry}
use Rattle.ct_rule_parts.specs.declared.support.Support.{Support}
use Rattle.ct_rule_parts.specs.Slot.{Slot}
use Rattle.ct_rules.specs.Derivation.{IsBest}
use Rattle.ct_piece.specs.Supports.{supports_of}
use Rattle.ct_sample.specs.Run.{run_to}
use Rattle.ct_words.specs.TableEntries.{table_entries}
use Rattle.ct_sample.specs.declared.summary.Summary.{Summary}
use Rattle.ct_sample.specs.declared.tally.Tally.{Tally}

-- the best value of each side of each entry of the table
abbrev pub AreBest : List Support → (Slot → ℕ) → Type 0
AreBest supports best = (s : Slot) → IsEntry s.1 → IsBest supports s (best s)

-- of these entries: how many have equal best values, and the sums of the lower and of the upper ones
abbrev pub tally_of : (Slot → ℕ) → List Entry → Tally
tally_of best entries = record {
  equal = count_by (λ e. best (Lower, e) == best (Upper, e)) entries;
  lower = sum_by (λ e. best (Lower, e)) entries;
  upper = sum_by (λ e. best (Upper, e)) entries;
}

-- the summary of the sample of a number of commands: what these leave, and the tally of all entries of the table over it
pub record IsSummary (number : ℕ) (s : Summary) : Type 0 where
  pub commands : s.commands ≡ number
  pub accepted : s.accepted ≡ (run_to number number).accepted
  pub withdrawn : s.withdrawn ≡ (run_to number number).withdrawn
  pub standing : s.standing ≡ length (run_to number number).pieces
  pub best : Slot → ℕ
  pub are_best : AreBest (supports_of (run_to number number).pieces) best
  pub tally : s.tally ≡ tally_of best table_entries

-- a line of it: a name, a space and a number
abbrev pub named_line : List ℕ → ℕ → List ℕ
named_line name n = name ++ spaced n ++ LINE_FEED ∷ []

-- its seven lines
abbrev pub summary_text : Summary → List ℕ
summary_text s =
    named_line (codes "commands") s.commands ++ named_line (codes "accepted") s.accepted ++ named_line (codes "withdrawn") s.withdrawn
    ++ named_line (codes "standing") s.standing ++ named_line (codes "equal") s.tally.equal ++ named_line (codes "lower") s.tally.lower
    ++ named_line (codes "upper") s.tally.upper

-- an output of the sample of a number of commands
pub record IsSampleOutput (number : ℕ) (output : List ℕ) : Type 0 where
  pub summary : Summary
  pub sums : IsSummary number summary
  pub text : output ≡ summary_text summary
