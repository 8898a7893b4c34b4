-- The sample of a number has one summary, and no other.
use Rattle.std.proofs.Common.{◌≡◌, ℕ, ◌+◌, ◌==◌, cond, List, [], ◌∷◌, ◌++◌, length, sum_by, refl, sym, ap, ap₂, ◌∙◌, subst}
use Rattle.std.specs.Prelude.{All}
use Rattle.std.proofs.lemmas.List.Elements.{All-head, All-tail}
use Rattle.std.proofs.lemmas.List.Sums.{sum_by-cons, fold-append}
use Rattle.ct_words.specs.declared.entry.Entry.{Entry}
use Rattle.ct_words.specs.declared.claim.Side.TheVariants.{Lower, Upper}
use Rattle.ct_words.specs.Entry.{IsEntry}
use Rattle.ct_rule_parts.specs.declared.support.Support.{Support}
use Rattle.ct_rule_parts.specs.Slot.{Slot}
use Rattle.ct_rule_parts.specs.Support.{AllStand}
use Rattle.ct_rules.specs.Derivation.{IsBest}
use Rattle.ct_rules.proofs.BestValues.{closed_bounds_exist}
use Rattle.ct_rules.proofs.ClosedBounds.{AreTrue-from_derived, closed_bound_is_best, best_is_one}
use Rattle.ct_piece.specs.Supports.{supports_of}
use Rattle.ct_sample.specs.Run.{RunValue, run_to}
use Rattle.ct_words.specs.TableEntries.{table_entries}
use Rattle.ct_sample.specs.Summary.{AreBest, tally_of, IsSummary, summary_text, IsSampleOutput}
use Rattle.ct_sample.specs.declared.summary.Summary.{Summary}
use Rattle.ct_sample.specs.declared.tally.Tally.{Tally}
use Rattle.ct_words.proofs.ListedEntries.{all_listed}
use Rattle.ct_sample.proofs.Running.{running}

-- best values of supports that stand
best_values : (supports : List Support) → AllStand supports → (best : Slot → ℕ) × AreBest supports best
best_values supports stand =
    let all = closed_bounds_exist supports stand in
    (all.bounds, λ s entry. closed_bound_is_best supports all.bounds s stand (AreTrue-from_derived supports all.bounds stand all.derived) all.closed (all.derived s entry))

pub some_output : (number : ℕ) → (output : List ℕ) × IsSampleOutput number output
some_output number =
    let run = run_to number number in
    let values = best_values (supports_of run.pieces) (running number number).stand in
    let summary : Summary = record {
      commands = number;
      accepted = run.accepted;
      withdrawn = run.withdrawn;
      standing = length run.pieces;
      tally = tally_of values.0 table_entries;
    } in (
      summary_text summary,
      record {
        summary = summary;
        sums = record { commands = refl; accepted = refl; withdrawn = refl; standing = refl; best = values.0; are_best = values.1; tally = refl };
        text = refl;
      },
    )

-- two functions that agree on the entries have the same sum, and the same count
same-sum : (f g : Entry → ℕ) (es : List Entry) → All (λ (e : Entry). f e ≡ g e) es → sum_by f es ≡ sum_by g es
same-sum f g [] h = refl
same-sum f g (e ∷ es) h =
    sum_by-cons f e es ∙ ap₂ (λ (a b : ℕ). a + b) (All-head (λ (x : Entry). f x ≡ g x) e es h) (same-sum f g es (All-tail (λ (x : Entry). f x ≡ g x) e es h))
    ∙ sym (sum_by-cons g e es)

-- the tally of entries of the table rests on no choice of best values
tally-same : (supports : List Support) (f g : Slot → ℕ) (es : List Entry) → AreBest supports f → AreBest supports g → All IsEntry es → tally_of f es ≡ tally_of g es
tally-same supports f g es left right entries =
    let one : (s : Slot) → IsEntry s.1 → f s ≡ g s = λ s entry. best_is_one supports s (f s) (g s) (left s entry) (right s entry) in
    let lower = same-sum (λ (e : Entry). f (Lower, e)) (λ (e : Entry). g (Lower, e)) es (λ k d below. one (Lower, _) (entries k d below)) in
    let upper = same-sum (λ (e : Entry). f (Upper, e)) (λ (e : Entry). g (Upper, e)) es (λ k d below. one (Upper, _) (entries k d below)) in
    let equal =
    same-sum (λ (e : Entry). cond (f (Lower, e) == f (Upper, e)) 1 0) (λ (e : Entry). cond (g (Lower, e) == g (Upper, e)) 1 0) es
    (λ k d below. ap₂ (λ (a b : ℕ). cond (a == b) 1 0) (one (Lower, _) (entries k d below)) (one (Upper, _) (entries k d below))) in
    λ i. record { equal = equal i; lower = lower i; upper = upper i }

-- the tally of one entry more, by its best values
pub tally_more : (supports : List Support) (best : Slot → ℕ) (t : Tally) (es : List Entry) (e : Entry) (one l u : ℕ) → AreBest supports best → IsEntry e
    → IsBest supports (Lower, e) l → IsBest supports (Upper, e) u → one ≡ cond (l == u) 1 0 → t ≡ tally_of best es
    → record { equal = t.equal + one; lower = t.lower + l; upper = t.upper + u } ≡ tally_of best (es ++ e ∷ [])
tally_more supports best t es e one l u are entry is_lower is_upper counted is =
    let low : l ≡ best (Lower, e) = best_is_one supports (Lower, e) l (best (Lower, e)) is_lower (are (Lower, e) entry) in
    let high : u ≡ best (Upper, e) = best_is_one supports (Upper, e) u (best (Upper, e)) is_upper (are (Upper, e) entry) in
    let same : one ≡ cond (best (Lower, e) == best (Upper, e)) 1 0 = counted ∙ ap₂ (λ (a b : ℕ). cond {A = ℕ} (a == b) 1 0) low high in
    let equal =
    ap₂ (λ (a b : ℕ). a + b) (ap (λ (s : Tally). s.equal) is) same
    ∙ sym (fold-append (λ (a : ℕ) (x : Entry). a + cond (best (Lower, x) == best (Upper, x)) 1 0) 0 es (e ∷ [])) in
    let lower = ap₂ (λ (a b : ℕ). a + b) (ap (λ (s : Tally). s.lower) is) low ∙ sym (fold-append (λ (a : ℕ) (x : Entry). a + best (Lower, x)) 0 es (e ∷ [])) in
    let upper = ap₂ (λ (a b : ℕ). a + b) (ap (λ (s : Tally). s.upper) is) high ∙ sym (fold-append (λ (a : ℕ) (x : Entry). a + best (Upper, x)) 0 es (e ∷ [])) in
    λ i. record { equal = equal i; lower = lower i; upper = upper i }

-- what the run and its tally make
pub summary_is : (number : ℕ) (run : RunValue) (supports : List Support) (entries : List Entry) (tally : Tally) (standing : ℕ) → run ≡ run_to number number
    → supports ≡ supports_of run.pieces → entries ≡ table_entries → ((best : Slot → ℕ) → AreBest supports best → tally ≡ tally_of best entries)
    → standing ≡ length run.pieces → IsSummary number (record { commands = number; accepted = run.accepted; withdrawn = run.withdrawn; standing = standing; tally = tally })
summary_is number run supports entries tally standing is given there tallies stand =
    let values = best_values (supports_of (run_to number number).pieces) (running number number).stand in
    let same : supports ≡ supports_of (run_to number number).pieces = given ∙ ap (λ (r : RunValue). supports_of r.pieces) is in
    record {
      commands = refl;
      accepted = ap (λ (r : RunValue). r.accepted) is;
      withdrawn = ap (λ (r : RunValue). r.withdrawn) is;
      standing = stand ∙ ap (λ (r : RunValue). length r.pieces) is;
      best = values.0;
      are_best = values.1;
      tally = tallies values.0 (subst (λ (s : List Support). AreBest s values.0) (sym same) values.1) ∙ ap (tally_of values.0) there;
    }

one_summary : (number : ℕ) (a b : Summary) → IsSummary number a → IsSummary number b → a ≡ b
one_summary number a b left right =
    let commands = left.commands ∙ sym right.commands in
    let accepted = left.accepted ∙ sym right.accepted in
    let withdrawn = left.withdrawn ∙ sym right.withdrawn in
    let standing = left.standing ∙ sym right.standing in
    let tally =
    left.tally ∙ tally-same (supports_of (run_to number number).pieces) left.best right.best table_entries left.are_best right.are_best all_listed ∙ sym right.tally in
    λ i. record { commands = commands i; accepted = accepted i; withdrawn = withdrawn i; standing = standing i; tally = tally i }

pub one_output : (number : ℕ) (left right : List ℕ) → IsSampleOutput number left → IsSampleOutput number right → left ≡ right
one_output number left right first second = first.text ∙ ap summary_text (one_summary number first.summary second.summary first.sums second.sums) ∙ sym second.text
