-- What the finder gives for an entry.
use Rattle.ct_words.specs.Numbers.{numbers_of}
use Rattle.std.proofs.Common.{◌≡◌, ℕ, List, false, Option, Some, None, refl, ap, subst, arith}
use Rattle.std.proofs.lemmas.Bool.Decides.{nat_tests}
use Rattle.ct_words.specs.declared.entry.Entry.{Entry}
use Rattle.ct_words.specs.Entry.{IsEntry, unrestricted, constant_weight}
use Rattle.ct_duals.specs.declared.dual.Dual.{Dual}
use Rattle.ct_finder.specs.Run.{IsAsked, run_of}
use Rattle.ct_finder.specs.Found.{bound_without_allowances, IsShown}
use Rattle.ct_finder.specs.declared.found.Stop.{Stop}
use Rattle.ct_find.specs.declared.found.TheConstants.{MAX_PIVOTS}
use Rattle.ct_find.specs.Proposal.{is_even, run_for, stop_for, IsProposal, AnswersEntry}

-- an entry without weight, and one with this weight
pub plain-is : (e : Entry) → e.w ≡ None → e ≡ unrestricted e.n e.d
plain-is e none = ap (λ (w : Option ℕ). record { n = e.n; d = e.d; w = w }) none

pub weighted-is : (e : Entry) (w : ℕ) → e.w ≡ Some w → e ≡ constant_weight e.n e.d w
weighted-is e w some = ap (λ (v : Option ℕ). record { n = e.n; d = e.d; w = v }) some

-- a run without weight is asked for as the finder wants it
pub plain-asked : (n d : ℕ) → IsEntry (unrestricted n d) → IsAsked (unrestricted n d) (is_even None d)
plain-asked n d entry = record { entry = entry; even_distance = λ h. grind (arith, nat_tests); weighted = tt }

-- what is written of what was found answers the entry
pub answers : (e : Entry) (d : Dual) (bound : ℕ) (how : Stop) (o : Option Dual) (text : List ℕ) → Some d ≡ o → bound ≡ bound_without_allowances d
    → how ≡ stop_for e → IsShown how d → IsProposal e d bound how text → AnswersEntry e o text
answers e d bound how o text dual_is bound_is stop_is shown h =
    subst (λ (found : Option Dual). AnswersEntry e found text) dual_is
    (subst (λ (s : Stop). IsProposal e d (bound_without_allowances d) s text × IsShown s d) stop_is (subst (λ (b : ℕ). IsProposal e d b how text) bound_is h, shown))

-- the run for an entry with weight
pub weighted-run : (n d w : ℕ) → run_for (constant_weight n d w) ≡ run_of (numbers_of (constant_weight n d w)) (constant_weight n d w) false MAX_PIVOTS
unfolding run_for
weighted-run n d w = refl
