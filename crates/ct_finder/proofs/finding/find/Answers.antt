use Rattle.std.proofs.Common.{◌≡◌, ℕ, ◌≤◌, List, sym, ap, ◌∙◌, subst}
use Rattle.std.specs.Prelude.{All, Option, None, Some, ℤ, pos, suc, replicate, unwrap_or}
use Rattle.ct_words.specs.Entry.{unrestricted}
use Rattle.ct_duals.specs.declared.dual.Dual.{Dual}
use Rattle.ct_duals.specs.Dual.{IsDual}
use Rattle.ct_duals.specs.Check.{dual_fault}
use Rattle.ct_words.specs.Numbers.{numbers_of}
use Rattle.ct_finder.proofs.OpeningLemmas.{range-within}
use Rattle.ct_finder.specs.Run.{run_of}
use Rattle.ct_finder.specs.Found.{IsShown}
use Rattle.ct_finder.specs.declared.found.Stop.{Stop}
use Rattle.ct_finder.proofs.Schemes.{numbers-nonneg}
use Rattle.ct_finder.proofs.FoundLemmas.{plain-found, plain-end, stop-least}
use Rattle.ct_finder.proofs.finding.find.Goals as goal

-- the multipliers, or ones, as the parts of the ending give them
multipliers_is : {o p : Option (List ℤ)} {c : List ℤ} (d : List ℤ) → o ≡ p → c ≡ unwrap_or o d → c ≡ unwrap_or p d
multipliers_is d e h = h ∙ ap (λ o. unwrap_or o d) e

pub run_over-requires : goal.run_over-requires
run_over-requires c = record {
  some = numbers-nonneg (unrestricted c.args.n c.args.d) c.requires.entry;
  range = subst (λ (r : List ℕ). All (λ i. i ≤ c.args.n) r) (sym (c.deref.ensures.value ∙ c.in_ok-range.ensures))
      (range-within (unrestricted c.args.n c.args.d) c.args.even);
}

pub found-requires-clause-form : goal.found-requires-clause-form
found-requires-clause-form c =
    let e = unrestricted c.args.n c.args.d in
    let known = plain-found c.args.n c.args.d c.args.even c.args.pivots c.deref.result.now c.in_ok-ending.ending c.in_ok-c.c c.parts-multipliers.result.1 c.requires
    (c.deref.ensures.value ∙ c.in_ok-range.ensures) c.in_ok-ending.ensures (multipliers_is (replicate (suc c.args.n) (pos 1)) c.parts-multipliers.ensures.multipliers c.in_ok-c.ensures) c.parts-multipliers.ensures.stop in
    known.form

pub found-requires-clause-accepted : goal.found-requires-clause-accepted
found-requires-clause-accepted c =
    let e = unrestricted c.args.n c.args.d in
    let known = plain-found c.args.n c.args.d c.args.even c.args.pivots c.deref.result.now c.in_ok-ending.ending c.in_ok-c.c c.parts-multipliers.result.1 c.requires
    (c.deref.ensures.value ∙ c.in_ok-range.ensures) c.in_ok-ending.ensures (multipliers_is (replicate (suc c.args.n) (pos 1)) c.parts-multipliers.ensures.multipliers c.in_ok-c.ensures) c.parts-multipliers.ensures.stop in
    known.accepted

pub returns-clause-dual : goal.returns-clause-dual
returns-clause-dual c =
    let e = unrestricted c.args.n c.args.d in
    let known = plain-found c.args.n c.args.d c.args.even c.args.pivots c.deref.result.now c.in_ok-ending.ending c.in_ok-c.c c.parts-multipliers.result.1 c.requires
    (c.deref.ensures.value ∙ c.in_ok-range.ensures) c.in_ok-ending.ensures (multipliers_is (replicate (suc c.args.n) (pos 1)) c.parts-multipliers.ensures.multipliers c.in_ok-c.ensures) c.parts-multipliers.ensures.stop in
    ap Some (c.found.ensures.dual ∙ known.dual)
    ∙ plain-end c.args.n c.args.d c.args.even (run_of (numbers_of (unrestricted c.args.n c.args.d)) (unrestricted c.args.n c.args.d) c.args.even c.args.pivots)

pub returns-clause-stop : goal.returns-clause-stop
returns-clause-stop c =
    let e = unrestricted c.args.n c.args.d in
    let known = plain-found c.args.n c.args.d c.args.even c.args.pivots c.deref.result.now c.in_ok-ending.ending c.in_ok-c.c c.parts-multipliers.result.1 c.requires
    (c.deref.ensures.value ∙ c.in_ok-range.ensures) c.in_ok-ending.ensures (multipliers_is (replicate (suc c.args.n) (pos 1)) c.parts-multipliers.ensures.multipliers c.in_ok-c.ensures) c.parts-multipliers.ensures.stop in
    c.found.ensures.stop ∙ known.stop_is

pub returns-clause-form : goal.returns-clause-form
returns-clause-form c =
    let e = unrestricted c.args.n c.args.d in
    let known = plain-found c.args.n c.args.d c.args.even c.args.pivots c.deref.result.now c.in_ok-ending.ending c.in_ok-c.c c.parts-multipliers.result.1 c.requires
    (c.deref.ensures.value ∙ c.in_ok-range.ensures) c.in_ok-ending.ensures (multipliers_is (replicate (suc c.args.n) (pos 1)) c.parts-multipliers.ensures.multipliers c.in_ok-c.ensures) c.parts-multipliers.ensures.stop in
    subst IsDual (sym c.found.ensures.dual) known.form

pub returns-clause-accepted : goal.returns-clause-accepted
returns-clause-accepted c =
    let e = unrestricted c.args.n c.args.d in
    let known = plain-found c.args.n c.args.d c.args.even c.args.pivots c.deref.result.now c.in_ok-ending.ending c.in_ok-c.c c.parts-multipliers.result.1 c.requires
    (c.deref.ensures.value ∙ c.in_ok-range.ensures) c.in_ok-ending.ensures (multipliers_is (replicate (suc c.args.n) (pos 1)) c.parts-multipliers.ensures.multipliers c.in_ok-c.ensures) c.parts-multipliers.ensures.stop in
    subst (λ (t : Dual). dual_fault (numbers_of t.entry) t ≡ None) (sym c.found.ensures.dual) known.accepted

pub returns-clause-shown : goal.returns-clause-shown
returns-clause-shown c =
    let known = plain-found c.args.n c.args.d c.args.even c.args.pivots c.deref.result.now c.in_ok-ending.ending c.in_ok-c.c c.parts-multipliers.result.1 c.requires
    (c.deref.ensures.value ∙ c.in_ok-range.ensures) c.in_ok-ending.ensures (multipliers_is (replicate (suc c.args.n) (pos 1)) c.parts-multipliers.ensures.multipliers c.in_ok-c.ensures) c.parts-multipliers.ensures.stop in
    subst (λ (s : Stop). IsShown s c.found.result.dual) (sym c.found.ensures.stop) (subst (IsShown c.parts-multipliers.result.1) (sym c.found.ensures.dual) known.shown)

pub returns-clause-least : goal.returns-clause-least
returns-clause-least c = λ p is.
    let known = plain-found c.args.n c.args.d c.args.even c.args.pivots c.deref.result.now c.in_ok-ending.ending c.in_ok-c.c c.parts-multipliers.result.1 c.requires
    (c.deref.ensures.value ∙ c.in_ok-range.ensures) c.in_ok-ending.ensures (multipliers_is (replicate (suc c.args.n) (pos 1)) c.parts-multipliers.ensures.multipliers c.in_ok-c.ensures) c.parts-multipliers.ensures.stop in
    stop-least p c.found.result.stop c.found.result.dual
    (subst (λ (s : Stop). IsShown s c.found.result.dual) (sym c.found.ensures.stop) (subst (IsShown c.parts-multipliers.result.1) (sym c.found.ensures.dual) known.shown)) is

pub returns-clause-true_upper : goal.returns-clause-true_upper
returns-clause-true_upper c = c.found.ensures.true_upper

pub returns-clause-entry : goal.returns-clause-entry
returns-clause-entry c = ap (λ (t : Dual). t.entry) c.found.ensures.dual

pub returns-clause-nothing_allowed : goal.returns-clause-nothing_allowed
returns-clause-nothing_allowed c = ap (λ (t : Dual). t.y) c.found.ensures.dual
