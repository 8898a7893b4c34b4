-- What is proposed for an entry: a dual that the finder gives, with its bound and the primal that shows it, as a submission.
use Rattle.ct_words.specs.Numbers.{numbers_of}
use Rattle.std.specs.Prelude.{◌≡◌, ℕ, ◌%◌, ◌==◌, Bool, false, List, [], ◌∷◌, ◌++◌, codes, flat_map, unsigned_abs, Option, Some, None, Ok}
use Rattle.std.specs.Fmt.{decimal}
use Rattle.ct_text.specs.declared.document_lines.TheConstants.{LINE_FEED}
use Rattle.ct_words.specs.declared.entry.Entry.{Entry}
use Rattle.ct_duals.specs.declared.dual.Dual.{Dual}
use Rattle.ct_kind.specs.declared.evidence.Evidence.TheVariants as evidence
use Rattle.ct_files.specs.Document.{without_cites, document_read_of}
use Rattle.ct_commands.specs.Submission.{submission_text}
use Rattle.ct_finder.specs.Run.{End, run_of}
use Rattle.ct_finder.specs.Found.{bound_without_allowances, dual_at_end, stop_of, IsShown}
use Rattle.ct_finder.specs.declared.found.Stop.{Stop}
use Rattle.ct_finder.specs.declared.found.Stop.TheVariants.{Least, Turns, Wide}
use Rattle.ct_find.specs.declared.found.TheConstants.{MAX_PIVOTS}

-- whether the run speaks of even distances alone: where there is no weight and d is even
abbrev pub is_even : Option ℕ → ℕ → Bool
is_even None d = d % 2 == 0
is_even (Some w) d = false

-- how the run for an entry ends
unfoldable pub run_for : Entry → End
run_for e = run_of (numbers_of e) e (is_even e.w e.d) MAX_PIVOTS

-- and how it stopped
abbrev pub stop_for : Entry → Stop
stop_for e = stop_of e (is_even e.w e.d) MAX_PIVOTS (run_for e)

-- the dual that is proposed for an entry, if one is
abbrev pub found_dual : Entry → Option Dual
found_dual e = dual_at_end e (is_even e.w e.d) (run_for e)

-- how the run stopped
abbrev pub stop_text : Stop → List ℕ
stop_text (Least p) = codes "least"
stop_text (Turns pivots) = codes "turns " ++ decimal pivots
stop_text (Wide x) = codes "wide"

-- the comment with a primal, where the run stopped as least: its scale, and its indices with their numbers
abbrev pub primal_line : Stop → List ℕ
primal_line (Least p) =
    codes "# primal " ++ decimal (unsigned_abs p.q) ++ flat_map (λ u. codes " " ++ decimal u.0 ++ codes ":" ++ decimal (unsigned_abs u.1)) p.a ++ LINE_FEED ∷ []
primal_line stop = []

-- the comments of a proposal: the bound of the dual and how the run stopped, and the primal
abbrev pub comments : ℕ → Stop → List ℕ
comments bound stop = (codes "# bound " ++ decimal bound ++ codes " " ++ stop_text stop ++ LINE_FEED ∷ []) ++ primal_line stop

-- the id: find-N-D, or find-N-D-W
abbrev pub find_id : Entry → List ℕ
find_id e = codes "find-" ++ decimal e.n ++ codes "-" ++ decimal e.d ++ elim e.w [ None ↦ [] | Some w ↦ codes "-" ++ decimal w ]

-- a proposal: the comments, and the submission of a document that reads as the dual, without cites, of the kind for its weight
abbrev pub IsProposal : Entry → Dual → ℕ → Stop → List ℕ → Type 0
IsProposal e d bound stop text =
    (document : List ℕ)
    × (document_read_of document ≡ Ok (without_cites (elim d.entry.w [ None ↦ evidence.Dual d | Some w ↦ evidence.JohnsonDual d ])))
    × (text ≡ comments bound stop ++ submission_text (find_id e) document)

-- what is written for an entry of the table: the proposal of the dual, with its bound, how the run stopped, and the primal that shows it to be a least one where the run stopped so, or `none`
abbrev pub AnswersEntry : Entry → Option Dual → List ℕ → Type 0
AnswersEntry e None text = text ≡ codes "none" ++ LINE_FEED ∷ []
AnswersEntry e (Some d) text = IsProposal e d (bound_without_allowances d) (stop_for e) text × IsShown (stop_for e) d
