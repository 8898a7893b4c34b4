-- What is found from the end of a run.
use Rattle.ct_finder.specs.Inside.Rows.{multipliers_of}
use Rattle.std.proofs.Common.{◌≡◌, ℕ, suc, Bool, false, ◌≤◌, List, [], length, replicate, refl, sym, ap, ◌∙◌, subst}
use Rattle.std.specs.Prelude.{ℤ, pos, Option, Some, None, unwrap_or}
use Rattle.std.proofs.lemmas.Bool.{false≢true}
use Rattle.std.proofs.lemmas.Option.{none-some, same_Some}
use Rattle.ct_words.specs.declared.entry.Entry.{Entry}
use Rattle.ct_words.specs.Entry.{IsEntry, unrestricted, constant_weight}
use Rattle.ct_primal.specs.Primal.{PrimalValue}
use Rattle.ct_primal.proofs.PrimalFaults.{sound-from_none, none-from_sound}
use Rattle.ct_duals.specs.declared.dual.Dual.{Dual}
use Rattle.ct_duals.specs.Dual.{IsDual, degree_of}
use Rattle.ct_duals.specs.Check.{dual_fault}
use Rattle.ct_words.specs.Numbers.{numbers_of}
use Rattle.ct_finder.specs.Column.{Tableau, range_of, columns, opening}
use Rattle.ct_finder.specs.RunPrimal.{wide_number, run_primal}
use Rattle.ct_finder.proofs.RunShown.{primal-form, solved-of, primal-sound, primal-value}
use Rattle.ct_finder.specs.Run.{End, run, run_dual, ones_dual, IsAsked, run_of}
use Rattle.ct_finder.specs.Run.End.{Least as LeastEnd, Turns as TurnsEnd, Wide as WideEnd}
use Rattle.ct_finder.proofs.RunDuals.{dual-form, dual-accepted, least-of, narrow-of}
use Rattle.ct_finder.proofs.Ones.{ones-form, ones-accepted}
use Rattle.ct_finder.specs.declared.ending.Ending.{Ending}
use Rattle.ct_finder.specs.declared.ending.Ending.TheVariants.{Least}
use Rattle.ct_finder.specs.declared.found.Stop.TheVariants as stops
use Rattle.ct_finder.specs.Reading.{reading_at}
use Rattle.ct_finder.proofs.ReadingLemmas.{scale-fits, numbers-fit}
use Rattle.ct_finder.proofs.Schemes.{below-duals, numbers-nonneg, numbers-first}
use Rattle.ct_finder.specs.declared.found.Stop.{Stop}
use Rattle.ct_finder.specs.Ending.{ending_of, multipliers_from, stop_from}
use Rattle.ct_finder.specs.Found.{dual_at_end, bound_without_allowances, stop_of, IsShownBy, IsShown, IsLeast}

-- the ending of a run over the numbers of an entry, with a range of indices
abbrev pub ending_at : Entry → Bool → List ℕ → ℕ → Ending
ending_at e even range pivots =
    ending_of e even range (degree_of e) (run (columns range (degree_of e)) pivots (opening (numbers_of e) range (degree_of e)))

-- the dual with these multipliers that allows nothing
abbrev pub with_multipliers : Entry → Bool → List ℤ → Dual
with_multipliers e even c = record { entry = e; even = even; c = c; y = [] }

-- the dual of an end without weight, and with a weight
abbrev pub plain_dual : Entry → Bool → End → Dual
plain_dual e even (LeastEnd t) = run_dual e even t.cost
plain_dual e even TurnsEnd = ones_dual e even
plain_dual e even (WideEnd x) = ones_dual e even

abbrev pub weighted_dual : Entry → End → Option Dual
weighted_dual e (LeastEnd t) = Some (run_dual e false t.cost)
weighted_dual e TurnsEnd = None
weighted_dual e (WideEnd x) = None

pub plain-end : (n d : ℕ) (even : Bool) (end : End) → Some (plain_dual (unrestricted n d) even end) ≡ dual_at_end (unrestricted n d) even end
plain-end n d even (LeastEnd t) = refl
plain-end n d even TurnsEnd = refl
plain-end n d even (WideEnd x) = refl

pub weighted-end : (n d w : ℕ) (end : End) → weighted_dual (constant_weight n d w) end ≡ dual_at_end (constant_weight n d w) false end
weighted-end n d w (LeastEnd t) = refl
weighted-end n d w TurnsEnd = refl
weighted-end n d w (WideEnd x) = refl

-- what is found without weight: a dual that is accepted, that of the run's end, and how the run stopped
pub record IsPlainFound (e : Entry) (even : Bool) (pivots : ℕ) (c : List ℤ) (stop : Stop) : Type 0 where
  pub dual : with_multipliers e even c ≡ plain_dual e even (run_of (numbers_of e) e even pivots)
  pub stop_is : stop ≡ stop_of e even pivots (run_of (numbers_of e) e even pivots)
  pub shown : IsShown stop (with_multipliers e even c)
  pub form : IsDual (with_multipliers e even c)
  pub accepted : dual_fault (numbers_of e) (with_multipliers e even c) ≡ None

plain-at : (n d : ℕ) (even : Bool) (pivots : ℕ) → IsAsked (unrestricted n d) even → (end : End) → (run_of (numbers_of (unrestricted n d)) (unrestricted n d) even pivots) ≡ end
    → (IsDual (plain_dual (unrestricted n d) even end)) × (dual_fault (numbers_of (unrestricted n d)) (plain_dual (unrestricted n d) even end) ≡ None)
plain-at n d even pivots asked (LeastEnd t) is =
    let e = unrestricted n d in
    let least = least-of (numbers_of e) e even pivots t is in (
      dual-form (numbers_of e) e even t asked least (narrow-of (numbers_of e) e even pivots t is),
      dual-accepted (numbers_of e) e even t (numbers-first e) least,
    )
plain-at n d even pivots asked TurnsEnd is = (ones-form n d even asked, ones-accepted n d even asked)
plain-at n d even pivots asked (WideEnd x) is = (ones-form n d even asked, ones-accepted n d even asked)

-- the multipliers and the stop of an ending are those of the end
plain-dual : (n d : ℕ) (even : Bool) (end : End)
    → with_multipliers (unrestricted n d) even
    (unwrap_or (multipliers_from (ending_of (unrestricted n d) even (range_of (unrestricted n d) even) (degree_of (unrestricted n d)) end)) (replicate (suc n) (pos 1)))
    ≡ plain_dual (unrestricted n d) even end
plain-dual n d even (LeastEnd t) = refl
plain-dual n d even TurnsEnd = refl
plain-dual n d even (WideEnd x) = refl

stop-read : (pivots : ℕ) (c : List ℤ) (o : Option ℤ) (p : PrimalValue) → stop_from pivots (Least c (reading_at o p)) ≡ elim o [ None ↦ stops.Least p | Some x ↦ stops.Wide x ]
stop-read pivots c None p = refl
stop-read pivots c (Some x) p = refl

stop-is : (e : Entry) (even : Bool) (pivots : ℕ) (end : End) → stop_from pivots (ending_of e even (range_of e even) (degree_of e) end) ≡ stop_of e even pivots end
stop-is e even pivots (LeastEnd t) =
    stop-read pivots (multipliers_of (columns (range_of e even) (degree_of e)) (degree_of e) t.cost) (wide_number (length (range_of e even)) t) (run_primal e even (range_of e even) t)
stop-is e even pivots TurnsEnd = refl
stop-is e even pivots (WideEnd x) = refl

-- where the run ends as least, its primal shows the bound
pub primal-shows : (e : Entry) (even : Bool) (pivots : ℕ) (t : Tableau) → IsAsked e even → run_of (numbers_of e) e even pivots ≡ LeastEnd t
    → wide_number (length (range_of e even)) t ≡ None → IsShownBy (run_primal e even (range_of e even) t) (run_dual e even t.cost)
primal-shows e even pivots t asked is fits =
    let solved = solved-of (numbers_of e) e even pivots t (numbers-nonneg e asked.entry) is in
    record {
      entry = refl;
      even = refl;
      form = primal-form e even t asked;
      accepted = none-from_sound (numbers_of e) (run_primal e even (range_of e even) t) (primal-sound (numbers_of e) e even t solved);
      value = primal-value (numbers_of e) e even t (numbers-first e 0) solved;
      scale = scale-fits (range_of e even) t fits;
      numbers = numbers-fit (range_of e even) t fits;
    }

pub shown-at : (e : Entry) (even : Bool) (pivots : ℕ) → IsAsked e even → (end : End) → run_of (numbers_of e) e even pivots ≡ end → (d : Dual) → ((t : Tableau) → end ≡ LeastEnd t → d ≡ run_dual e even t.cost)
    → IsShown (stop_of e even pivots end) d
shown-at e even pivots asked (LeastEnd t) is d dual = go (wide_number (length (range_of e even)) t) refl
  where
    go : (o : Option ℤ) → wide_number (length (range_of e even)) t ≡ o → IsShown (elim o [ None ↦ stops.Least (run_primal e even (range_of e even) t) | Some x ↦ stops.Wide x ]) d
    go None fits = subst (IsShownBy (run_primal e even (range_of e even) t)) (sym (dual t refl)) (primal-shows e even pivots t asked is fits)
    go (Some x) wide = tt
shown-at e even pivots asked TurnsEnd is d dual = tt
shown-at e even pivots asked (WideEnd x) is d dual = tt

-- and then no dual has a smaller one
pub shown-least : (p : PrimalValue) (d : Dual) → IsShownBy p d → IsLeast d
shown-least p d shown other form entry even nothing accepted =
    subst (λ (b : ℕ). b ≤ bound_without_allowances other) shown.value
    (below-duals p shown.form (sound-from_none (numbers_of p.entry) p shown.accepted) other form (entry ∙ sym shown.entry) (even ∙ sym shown.even) nothing accepted)

pub stop-least : (p : PrimalValue) (stop : Stop) (d : Dual) → IsShown stop d → stop ≡ stops.Least p → IsLeast d
stop-least p stop d shown is = shown-least p d (subst (λ s. IsShown s d) is shown)

pub plain-found : (n d : ℕ) (even : Bool) (pivots : ℕ) (range : List ℕ) (ending : Ending) (c : List ℤ) (stop : Stop) → IsAsked (unrestricted n d) even
    → range ≡ range_of (unrestricted n d) even → ending ≡ ending_at (unrestricted n d) even range pivots
    → c ≡ unwrap_or (multipliers_from ending) (replicate (suc n) (pos 1)) → stop ≡ stop_from pivots ending
    → IsPlainFound (unrestricted n d) even pivots c stop
plain-found n d even pivots range ending c stop asked range_is ending_is c_is stop_is =
    let e = unrestricted n d in
    let end = run_of (numbers_of e) e even pivots in
    let whole = ending_is ∙ ap (λ r. ending_at e even r pivots) range_is in
    let dual_is = ap (with_multipliers e even) (c_is ∙ ap (λ t. unwrap_or (multipliers_from t) (replicate (suc n) (pos 1))) whole)
    ∙ plain-dual n d even end in
    let known = plain-at n d even pivots asked end refl in
    let stopped = stop_is ∙ ap (stop_from pivots) whole ∙ stop-is e even pivots end in
    record {
      dual = dual_is;
      stop_is = stopped;
      shown = subst (λ s. IsShown s (with_multipliers e even c)) (sym stopped)
          (shown-at e even pivots asked end refl (with_multipliers e even c) (λ t is. dual_is ∙ ap (plain_dual e even) is));
      form = subst IsDual (sym dual_is) known.0;
      accepted = subst (λ t. dual_fault (numbers_of e) t ≡ None) (sym dual_is) known.1;
    }

-- what is found with a weight, where the run ends as least
pub record IsWeightedFound (e : Entry) (pivots : ℕ) (c : List ℤ) (stop : Stop) : Type 0 where
  pub dual : Some (with_multipliers e false c) ≡ weighted_dual e (run_of (numbers_of e) e false pivots)
  pub stop_is : stop ≡ stop_of e false pivots (run_of (numbers_of e) e false pivots)
  pub shown : IsShown stop (with_multipliers e false c)
  pub form : IsDual (with_multipliers e false c)
  pub accepted : dual_fault (numbers_of e) (with_multipliers e false c) ≡ None

-- an entry with a weight is one that may be asked for
pub asked-weighted : (n d w : ℕ) → IsEntry (constant_weight n d w) → IsAsked (constant_weight n d w) false
asked-weighted n d w entry = record { entry = entry; even_distance = (λ h. absurd (false≢true h)); weighted = refl }

-- the tableau of an end as least, another one elsewhere
abbrev tableau_of : Tableau → End → Tableau
tableau_of other (LeastEnd t) = t
tableau_of other TurnsEnd = other
tableau_of other (WideEnd x) = other

weighted-at : (n d w pivots : ℕ) → IsEntry (constant_weight n d w) → (end : End) → (run_of (numbers_of (constant_weight n d w)) (constant_weight n d w) false pivots) ≡ end → (c : List ℤ) (stop : Stop)
    → Some c ≡ multipliers_from (ending_of (constant_weight n d w) false (range_of (constant_weight n d w) false) (degree_of (constant_weight n d w)) end)
    → stop ≡ stop_of (constant_weight n d w) false pivots end
    → IsWeightedFound (constant_weight n d w) pivots c stop
weighted-at n d w pivots entry (LeastEnd t) is c stop c_is stop_is =
    let e = constant_weight n d w in
    let asked = asked-weighted n d w entry in
    let same : c ≡ multipliers_of (columns (range_of e false) (degree_of e)) (degree_of e) t.cost =
    same_Some c (multipliers_of (columns (range_of e false) (degree_of e)) (degree_of e) t.cost) c_is in
    let dual_is : with_multipliers e false c ≡ run_dual e false t.cost = ap (with_multipliers e false) same in
    let least = least-of (numbers_of e) e false pivots t is in
    let read : (u : Tableau) → LeastEnd t ≡ LeastEnd u → with_multipliers e false c ≡ run_dual e false u.cost = λ u h.
    let last : t ≡ u = ap (tableau_of t) h in dual_is ∙ ap (λ v. run_dual e false v.cost) last in
    record {
      dual = ap Some dual_is ∙ ap (weighted_dual e) (sym is);
      stop_is = stop_is ∙ ap (stop_of e false pivots) (sym is);
      shown = subst (λ s. IsShown s (with_multipliers e false c)) (sym stop_is) (shown-at e false pivots asked (LeastEnd t) is (with_multipliers e false c) read);
      form = subst IsDual (sym dual_is) (dual-form (numbers_of e) e false t asked least (narrow-of (numbers_of e) e false pivots t is));
      accepted = subst (λ t. dual_fault (numbers_of e) t ≡ None) (sym dual_is) (dual-accepted (numbers_of e) e false t (numbers-first e) least);
    }
weighted-at n d w pivots entry TurnsEnd is c stop c_is stop_is = absurd (none-some c (sym c_is))
weighted-at n d w pivots entry (WideEnd x) is c stop c_is stop_is = absurd (none-some c (sym c_is))

pub weighted-found : (n d w pivots : ℕ) (range : List ℕ) (ending : Ending) (c : List ℤ) (stop : Stop) → IsEntry (constant_weight n d w)
    → range ≡ range_of (constant_weight n d w) false → ending ≡ ending_at (constant_weight n d w) false range pivots
    → Some c ≡ multipliers_from ending → stop ≡ stop_from pivots ending → IsWeightedFound (constant_weight n d w) pivots c stop
weighted-found n d w pivots range ending c stop entry range_is ending_is c_is stop_is =
    let e = constant_weight n d w in
    let whole = ending_is ∙ ap (λ r. ending_at e false r pivots) range_is in
    let end = run_of (numbers_of e) e false pivots in
    weighted-at n d w pivots entry end refl c stop (c_is ∙ ap multipliers_from whole) (stop_is ∙ ap (stop_from pivots) whole ∙ stop-is e false pivots end)

-- and where it does not
weighted-none_at : (e : Entry) (end : End) → None ≡ multipliers_from (ending_of e false (range_of e false) (degree_of e) end) → None ≡ weighted_dual e end
weighted-none_at e (LeastEnd t) is = absurd (none-some (multipliers_of (columns (range_of e false) (degree_of e)) (degree_of e) t.cost) is)
weighted-none_at e TurnsEnd is = refl
weighted-none_at e (WideEnd x) is = refl

pub weighted-none : (e : Entry) (pivots : ℕ) (range : List ℕ) (ending : Ending) → range ≡ range_of e false → ending ≡ ending_at e false range pivots
    → None ≡ multipliers_from ending → None ≡ weighted_dual e (run_of (numbers_of e) e false pivots)
weighted-none e pivots range ending range_is ending_is none =
    let whole = ending_is ∙ ap (λ r. ending_at e false r pivots) range_is in
    weighted-none_at e (run_of (numbers_of e) e false pivots) (none ∙ ap multipliers_from whole)
