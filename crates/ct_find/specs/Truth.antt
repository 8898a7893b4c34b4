-- What the output of `find` says of codes.
use Rattle.std.specs.Prelude.{◌≡◌, ◌⊎◌, ℕ, List, [], ◌∷◌, ◌++◌, None, IfSome, codes}
use Rattle.std.specs.List.{AllZip, flat_map}
use Rattle.ct_words.specs.declared.entry.Entry.{Entry}
use Rattle.ct_words.specs.Code.{IsTrueUpper}
use Rattle.ct_words.specs.Numbers.{numbers_of}
use Rattle.ct_io.specs.Lines.{lines_of}
use Rattle.ct_text.specs.declared.document_lines.TheConstants.{LINE_FEED}
use Rattle.ct_text.specs.Line.{words_of}
use Rattle.ct_text.specs.EntryNumbers.{entry_numbers_of, named_entry}
use Rattle.ct_duals.specs.declared.dual.Dual.{Dual}
use Rattle.ct_duals.specs.Dual.{IsDual}
use Rattle.ct_duals.specs.Check.{dual_fault}
use Rattle.ct_primal.specs.Primal.{PrimalValue}
use Rattle.ct_finder.specs.Found.{IsLeast}
use Rattle.ct_finder.specs.declared.found.Stop.{Stop}
use Rattle.ct_finder.specs.declared.found.Stop.TheVariants.{Least}
use Rattle.ct_find.specs.Proposal.{IsProposal}

-- the text submits an accepted dual of the entry after its bound, which is true; where it says `least`, no accepted dual of the same entry and mark that
-- allows nothing has a smaller bound (Delsarte 1973)
pub record IsTrueProposal (e : Entry) (text : List ℕ) : Type 0 where
  pub dual : Dual
  pub bound : ℕ
  pub stop : Stop
  pub proposal : IsProposal e dual bound stop text
  pub entry : dual.entry ≡ e
  pub form : IsDual dual
  pub accepted : dual_fault (numbers_of e) dual ≡ None
  pub limited : IsTrueUpper e bound
  pub least : (p : PrimalValue) → stop ≡ Least p → IsLeast dual

-- the text answers a line, where this names an entry of the table, by such a dual, or by `none`
abbrev pub IsTrueReply : List ℕ → List ℕ → Type 0
IsTrueReply line text =
    IfSome (entry_numbers_of (words_of line)) (λ numbers. IfSome (named_entry numbers) (λ e. (text ≡ codes "none" ++ LINE_FEED ∷ []) ⊎ IsTrueProposal e text))

-- the output is replies to the lines of the input, one to each, in order
pub record AreTrueReplies (input output : List ℕ) : Type 0 where
  pub replies : List (List ℕ)
  pub each : AllZip IsTrueReply (lines_of input) replies
  pub spelled : output ≡ flat_map (λ reply. reply) replies
