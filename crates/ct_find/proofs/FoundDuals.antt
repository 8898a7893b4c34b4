-- What the dual is that is found for an entry.
use Rattle.ct_finder.specs.Inside.Rows.{multipliers_of}
use Rattle.std.proofs.Common.{◌≡◌, ◌∙◌, ◌↔◌, ℕ, suc, ◌%◌, ◌/◌, min, Bool, true, false, [], map, replicate, refl, sym, ap, subst, eqb-true, eq-eqb}
use Rattle.std.specs.Prelude.{pos, Option, Some, None, IsSome, unwrap_or}
use Rattle.ct_words.specs.declared.limits.TheConstants.{MAX_BOUND}
use Rattle.ct_words.specs.declared.entry.Entry.{Entry}
use Rattle.ct_words.specs.Code.{IsTrueUpper}
use Rattle.ct_words.specs.Entry.{IsEntry, unrestricted, constant_weight}
use Rattle.ct_words.specs.Constructions.Even.{even_from}
use Rattle.ct_duals.specs.declared.dual.Dual.{Dual}
use Rattle.ct_duals.specs.Dual.{as_distance, IsDual, degree_of}
use Rattle.ct_duals.specs.Check.{dual_fault}
use Rattle.ct_duals.specs.Bound.{natural, positive, dual_premises, AreTrueUppers}
use Rattle.ct_words.specs.Numbers.{numbers_of, multiplier, combination}
use Rattle.ct_duals.proofs.Faults.{accepted-from_none}
use Rattle.ct_duals.proofs.SoundDuals.{accepted-sound}
use Rattle.ct_finder.specs.Column.{Tableau, range_of, columns}
use Rattle.ct_finder.specs.Run.{End, run_dual, run_of}
use Rattle.ct_finder.specs.Run.End.{Least as LeastEnd, Turns as TurnsEnd, Wide as WideEnd}
use Rattle.ct_finder.proofs.RunDuals.{bound-without}
use Rattle.ct_finder.specs.Ending.{ending_of, multipliers_from, stop_from}
use Rattle.ct_finder.specs.Found.{bound_without_allowances, dual_at_end, IsShown}
use Rattle.ct_finder.proofs.FoundLemmas.{ending_at, plain_dual, weighted_dual, plain-end, weighted-end, plain-found, weighted-found, asked-weighted, shown-at}
use Rattle.ct_find.specs.declared.found.TheConstants.{MAX_PIVOTS}
use Rattle.ct_find.specs.Proposal.{is_even, run_for, stop_for, found_dual}
use Rattle.ct_find.proofs.FoundLemmas.{plain-asked, weighted-run}

-- the dual is of the entry, accepted, of even distances alone where this is asked, and allows nothing
pub record IsFound (e : Entry) (d : Dual) : Type 0 where
  pub entry : d.entry ≡ e
  pub form : IsDual d
  pub accepted : dual_fault (numbers_of e) d ≡ None
  pub even_is : d.even ≡ is_even e.w e.d
  pub nothing : d.y ≡ []

-- the parts of the dual of an end, without weight
plain-entry : (e : Entry) (even : Bool) (end : End) → (plain_dual e even end).entry ≡ e
plain-entry e even (LeastEnd cost) = refl
plain-entry e even TurnsEnd = refl
plain-entry e even (WideEnd x) = refl

plain-even : (e : Entry) (even : Bool) (end : End) → (plain_dual e even end).even ≡ even
plain-even e even (LeastEnd cost) = refl
plain-even e even TurnsEnd = refl
plain-even e even (WideEnd x) = refl

plain-nothing : (e : Entry) (even : Bool) (end : End) → (plain_dual e even end).y ≡ []
plain-nothing e even (LeastEnd cost) = refl
plain-nothing e even TurnsEnd = refl
plain-nothing e even (WideEnd x) = refl

-- without weight, after at most so many pivots
plain-at : (n d pivots : ℕ) → IsEntry (unrestricted n d) → IsFound (unrestricted n d) (plain_dual (unrestricted n d) (is_even None d) (run_of (numbers_of (unrestricted n d)) (unrestricted n d) (is_even None d) pivots))
plain-at n d pivots entry =
    let e = unrestricted n d in
    let even = is_even None d in
    let end = run_of (numbers_of e) e even pivots in
    let ending = ending_at e even (range_of e even) pivots in
    let known = plain-found n d even pivots (range_of e even) ending (unwrap_or (multipliers_from ending) (replicate (suc n) (pos 1))) (stop_from pivots ending)
    (plain-asked n d entry) refl refl refl refl in
    record {
      entry = plain-entry e even end;
      form = subst IsDual known.dual known.form;
      accepted = subst (λ (t : Dual). dual_fault (numbers_of e) t ≡ None) known.dual known.accepted;
      even_is = plain-even e even end;
      nothing = plain-nothing e even end;
    }

-- with a weight, where the run ends as least
weighted-at : (n d w pivots : ℕ) → IsEntry (constant_weight n d w) → (end : End) → (run_of (numbers_of (constant_weight n d w)) (constant_weight n d w) false pivots) ≡ end → (dual : Dual)
    → weighted_dual (constant_weight n d w) end ≡ Some dual → IsFound (constant_weight n d w) dual
weighted-at n d w pivots entry (LeastEnd t) is dual same =
    let e = constant_weight n d w in
    let c = multipliers_of (columns (range_of e false) (degree_of e)) (degree_of e) t.cost in
    let ending = ending_at e false (range_of e false) pivots in
    let given : Some c ≡ multipliers_from ending = sym (ap (λ (end : End). multipliers_from (ending_of e false (range_of e false) (degree_of e) end)) is) in
    let known = weighted-found n d w pivots (range_of e false) ending c (stop_from pivots ending) entry refl refl given refl in
    let own : run_dual e false t.cost ≡ dual = cc in
    subst (IsFound e) own (record { entry = refl; form = known.form; accepted = known.accepted; even_is = refl; nothing = refl })
weighted-at n d w pivots entry TurnsEnd is dual same = absurd cc
weighted-at n d w pivots entry (WideEnd x) is dual same = absurd cc

found-plain : (n d : ℕ) (dual : Dual) → IsEntry (unrestricted n d) → found_dual (unrestricted n d) ≡ Some dual → IsFound (unrestricted n d) dual
unfolding run_for
found-plain n d dual entry same =
    let e = unrestricted n d in
    let end = plain-end n d (is_even None d) (run_for e) ∙ same in
    let own : plain_dual e (is_even None d) (run_for e) ≡ dual = cc in
    subst (IsFound e) own (plain-at n d MAX_PIVOTS entry)

found-weighted : (n d w : ℕ) (dual : Dual) → IsEntry (constant_weight n d w) → found_dual (constant_weight n d w) ≡ Some dual → IsFound (constant_weight n d w) dual
found-weighted n d w dual entry same = weighted-at n d w MAX_PIVOTS entry (run_for (constant_weight n d w)) (sym (weighted-run n d w)) dual (weighted-end n d w (run_for (constant_weight n d w)) ∙ same)

found-at : (n d : ℕ) (w : Option ℕ) (dual : Dual) → IsEntry (record { n = n; d = d; w = w }) → found_dual (record { n = n; d = d; w = w }) ≡ Some dual
    → IsFound (record { n = n; d = d; w = w }) dual
found-at n d None dual entry same = found-plain n d dual entry same
found-at n d (Some w) dual entry same = found-weighted n d w dual entry same

-- the dual that is found for an entry of the table
pub found : (e : Entry) (d : Dual) → IsEntry e → found_dual e ≡ Some d → IsFound e d
found e d entry same = found-at e.n e.d e.w d entry same

-- when it speaks of even distances alone
even-where : (w : Option ℕ) (d : ℕ) (b : Bool) → b ≡ is_even w d → (b ≡ true) ↔ ((w ≡ None) × (d % 2 ≡ 0))
even-where None d b is = (λ h. (refl, eqb-true (d % 2) 0 (sym is ∙ h)), λ both. is ∙ eq-eqb (d % 2) 0 both.1)
even-where (Some w) d b is = (λ h. absurd cc, λ both. let none = both.0 in absurd cc)

pub even-distances : (e : Entry) (d : Dual) → IsEntry e → found_dual e ≡ Some d → (d.even ≡ true) ↔ ((e.w ≡ None) × (e.d % 2 ≡ 0))
even-distances e d entry same = even-where e.w e.d d.even (found e d entry same).even_is

-- what it rests on, its bound, and that this is true
pub premises-none : (d : Dual) → d.y ≡ [] → dual_premises d ≡ []
premises-none d nothing = ap (λ y. map (λ p. constant_weight d.entry.n (even_from d.entry.d) (as_distance d.entry.w p.0)) (positive y)) nothing

pub bound-is : (e : Entry) (d : Dual) → IsEntry e → found_dual e ≡ Some d
    → bound_without_allowances d ≡ min MAX_BOUND (natural (combination (numbers_of e) d.c 0) / natural (multiplier d.c 0))
bound-is e d entry same =
    let f = found e d entry same in
    bound-without d (combination (numbers_of d.entry) d.c 0) f.nothing
    ∙ ap (λ (x : Entry). min MAX_BOUND (natural (combination (numbers_of x) d.c 0) / natural (multiplier d.c 0))) f.entry

pub bound-true : (e : Entry) (d : Dual) → IsEntry e → found_dual e ≡ Some d → IsTrueUpper e (bound_without_allowances d)
bound-true e d entry same =
    let f = found e d entry same in
    let none = subst (λ (x : Entry). dual_fault (numbers_of x) d ≡ None) (sym f.entry) f.accepted in
    subst (λ (x : Entry). IsTrueUpper x (bound_without_allowances d)) f.entry
    (accepted-sound (record { dual = d; at_zero = combination (numbers_of d.entry) d.c 0 }) (accepted-from_none d f.form none) [] (subst (λ es. AreTrueUppers es []) (sym (premises-none d f.nothing)) tt))

-- without weight one is found
pub plain-some : (e : Entry) → e.w ≡ None → IsSome (found_dual e)
plain-some e none = at e.n e.d e.w none
  where
    some : (n d : ℕ) (end : End) → IsSome (dual_at_end (unrestricted n d) (is_even None d) end)
    some n d (LeastEnd t) = refl
    some n d TurnsEnd = refl
    some n d (WideEnd x) = refl

    at : (n d : ℕ) (w : Option ℕ) → w ≡ None → IsSome (found_dual (record { n = n; d = d; w = w }))
    at n d None none = some n d (run_for (unrestricted n d))
    at n d (Some w) none = absurd cc

-- the dual of an end is shown as the run stopped
pub plain_shown : (n d : ℕ) → IsEntry (unrestricted n d) → IsShown (stop_for (unrestricted n d)) (plain_dual (unrestricted n d) (is_even None d) (run_for (unrestricted n d)))
unfolding run_for
plain_shown n d entry =
    let e = unrestricted n d in
    let even = is_even None d in
    shown-at e even MAX_PIVOTS (plain-asked n d entry) (run_of (numbers_of e) e even MAX_PIVOTS) refl (plain_dual e even (run_of (numbers_of e) e even MAX_PIVOTS)) (λ t is. ap (plain_dual e even) is)

pub weighted_shown : (n d w : ℕ) → IsEntry (constant_weight n d w) → (t : Tableau) → run_for (constant_weight n d w) ≡ LeastEnd t
    → IsShown (stop_for (constant_weight n d w)) (run_dual (constant_weight n d w) false t.cost)
unfolding run_for
weighted_shown n d w entry t is =
    let e = constant_weight n d w in
    shown-at e false MAX_PIVOTS (asked-weighted n d w entry) (run_of (numbers_of e) e false MAX_PIVOTS) refl (run_dual e false t.cost)
    (λ u own. let both = sym is ∙ own in let same : t ≡ u = cc in ap (λ v. run_dual e false v.cost) same)

shown-plain : (n d : ℕ) (dual : Dual) → IsEntry (unrestricted n d) → found_dual (unrestricted n d) ≡ Some dual → IsShown (stop_for (unrestricted n d)) dual
shown-plain n d dual entry same =
    let end = plain-end n d (is_even None d) (run_for (unrestricted n d)) ∙ same in
    let own : plain_dual (unrestricted n d) (is_even None d) (run_for (unrestricted n d)) ≡ dual = cc in
    subst (IsShown (stop_for (unrestricted n d))) own (plain_shown n d entry)

shown-weighted : (n d w : ℕ) (dual : Dual) → IsEntry (constant_weight n d w) → (end : End) → run_for (constant_weight n d w) ≡ end
    → weighted_dual (constant_weight n d w) end ≡ Some dual → IsShown (stop_for (constant_weight n d w)) dual
shown-weighted n d w dual entry (LeastEnd t) is same =
    let own : run_dual (constant_weight n d w) false t.cost ≡ dual = cc in
    subst (IsShown (stop_for (constant_weight n d w))) own (weighted_shown n d w entry t is)
shown-weighted n d w dual entry TurnsEnd is same = absurd cc
shown-weighted n d w dual entry (WideEnd x) is same = absurd cc

-- the dual that is found for an entry is shown as its run stopped
pub shown : (e : Entry) (d : Dual) → IsEntry e → found_dual e ≡ Some d → IsShown (stop_for e) d
shown e d entry same = at e.w entry same
  where
    at : (w : Option ℕ) → IsEntry (record { n = e.n; d = e.d; w = w }) → found_dual (record { n = e.n; d = e.d; w = w }) ≡ Some d
        → IsShown (stop_for (record { n = e.n; d = e.d; w = w })) d
    at None entry same = shown-plain e.n e.d d entry same
    at (Some w) entry same = shown-weighted e.n e.d w d entry (run_for (constant_weight e.n e.d w)) refl (weighted-end e.n e.d w (run_for (constant_weight e.n e.d w)) ∙ same)
