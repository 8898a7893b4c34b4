-- Evidence of kind cosets.
use Rattle.std.proofs.Common.{◌≡◌, ℕ, ◌^◌, ◌<◌, ◌≤◌, List, length, None, Result, Ok, Err, IfOk, option_map, refl, sym, ap, subst, ◌∙◌, arith}
use Rattle.std.specs.Prelude.{All}
use Rattle.std.specs.List.Sorted.{IsPermutation}
use Rattle.ct_words.specs.declared.limits.TheConstants.{MAX_N}
use Rattle.ct_words.specs.declared.entry.Entry.{Entry}
use Rattle.ct_words.specs.declared.fault.TheConstants.{MAX_REPRESENTATIVES}
use Rattle.ct_words.specs.Entry.{IsEntry}
use Rattle.ct_words.specs.Code.{CodeValue, IsSoundCode}
use Rattle.ct_words.specs.Coset.{CosetValue, coset_list}
use Rattle.ct_words.proofs.EntryLemmas.{entry_limits}
use Rattle.ct_codes.proofs.CosetLemmas.{cosets_from_no_fault, choice_count-pos, no_fault_of_cosets}
use Rattle.ct_codes.proofs.SpanLemmas.{length-coset_list}
use Rattle.ct_kind.specs.Named.{NamedCode}
use Rattle.ct_kind.specs.Ascending.{code_at}
use Rattle.ct_kind.specs.declared.fault.SubmitFault.TheVariants as fault
use Rattle.ct_kind.proofs.CodeAt.{code_at_is}
use Rattle.ct_kind.proofs.Stating.{option_map-none, StatesWell, SaysSame}
use Rattle.ct_kind.proofs.SizeLemmas.{size-stands}
use Rattle.ct_word_files.specs.CosetsKind.{cosets_kind, IsCosetsChecked}

-- cosets against which there is no reason are a code, and the check is within the limit
pub cosets_state : (known : List NamedCode) (e : Entry) (basis representatives : List ℕ) → IsEntry e → e.w ≡ None → All (λ x. x < 2 ^ e.n) basis
    → All (λ x. x < 2 ^ e.n) representatives → (cosets_kind e basis representatives).reason known ≡ None
    → StatesWell (cosets_kind e basis representatives) known (IsCosetsChecked e basis representatives)
cosets_state known e basis representatives entry plain within_basis within own =
    let limits = entry_limits e entry in
    let far = limits.distance_from in
    let whole = cosets_from_no_fault e basis representatives (omega arith) plain within_basis within (option_map-none fault.Code _ own) in
    let size = length-coset_list basis representatives in
    let count = choice_count-pos basis representatives whole.1 in
    let some : 1 ≤ length (coset_list basis representatives) = omega arith in
    record {
      entry = entry;
      checked = (whole.3, whole.4);
      coded = refl;
      code = (some, whole.4);
      size = λ yes. refl;
      partition = tt;
      stands = size-stands e (coset_list basis representatives) entry some whole.4;
    }

-- so they are what is asked
pub cosets_checked : (known : List NamedCode) (e : Entry) (basis representatives : List ℕ) → IsEntry e → e.w ≡ None → All (λ x. x < 2 ^ e.n) basis
    → All (λ x. x < 2 ^ e.n) representatives → (cosets_kind e basis representatives).reason known ≡ None → IsCosetsChecked e basis representatives
cosets_checked known e basis representatives entry plain within_basis within own = (cosets_state known e basis representatives entry plain within_basis within own).checked

-- cosets that are a code, and whose check is within the limit, have no reason against them
pub cosets_accepted : (known : List NamedCode) (e : Entry) (basis representatives : List ℕ) → length basis ≤ MAX_N → 1 ≤ length representatives
    → length representatives ≤ MAX_REPRESENTATIVES → IsCosetsChecked e basis representatives
    → (cosets_kind e basis representatives).reason known ≡ None
cosets_accepted known e basis representatives few_basis some few checked =
    ap (option_map fault.Code) (no_fault_of_cosets e basis representatives few_basis some few checked.0 checked.1)

-- they are the same over all codes
pub cosets_same : (e : Entry) (basis representatives : List ℕ) (left right : List NamedCode) → SaysSame (cosets_kind e basis representatives) left right
cosets_same e basis representatives left right = record { reason = refl; words = refl; size = refl }

-- the list of a coset code is the code at its entry
pub listed_answer : {E : Type 0} (e : Entry) (basis representatives : List ℕ) (v : CosetValue) (answer : Result CodeValue E)
    → v ≡ record { entry = e; basis = basis; representatives = representatives } → e.w ≡ None
    → IfOk answer (λ (c : CodeValue). IsPermutation (coset_list v.basis v.representatives) c.words)
    → IfOk answer (λ (c : CodeValue). (c.n ≡ v.entry.n) × (c.d ≡ v.entry.d) × (c.w ≡ None)) → IfOk answer IsSoundCode
    → IfOk answer (λ (c : CodeValue). c ≡ code_at e (coset_list basis representatives))
listed_answer e basis representatives v (Ok c) is plain moved entry sound =
    code_at_is e (coset_list basis representatives) c (entry.0 ∙ ap (λ (u : CosetValue). u.entry.n) is) (entry.1 ∙ ap (λ (u : CosetValue). u.entry.d) is) (entry.2 ∙ sym plain)
    (subst (λ (u : CosetValue). IsPermutation (coset_list u.basis u.representatives) c.words) is moved) sound
listed_answer e basis representatives v (Err fault) is plain moved entry sound = tt
