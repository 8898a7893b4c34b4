-- What the check of each kind gives is what is said of its evidence.
use Rattle.std.proofs.Common.{◌≡◌, ◌≢◌, ℕ, List, Option, Some, None, option_map, Result, Ok, Err, IfOk, IfErr, OnOk, sym, ap, subst, ◌∙◌}
use Rattle.std.specs.Result.{result_map_both}
use Rattle.std.proofs.lemmas.Result.{IfOk-weaker, IfErr-weaker, on_ok_weaker}
use Rattle.ct_rule_parts.specs.declared.support.Support.{Support}
use Rattle.ct_kind.specs.declared.evidence.Evidence.{Evidence}
use Rattle.ct_kind.specs.declared.fault.SubmitFault.{SubmitFault}
use Rattle.ct_kind.specs.declared.fault.SubmitFault.TheVariants as fault
use Rattle.ct_kind.specs.Named.{NamedCode}
use Rattle.ct_files.specs.ByKind.{kind_of, size_over}
use Rattle.ct_files.specs.ByKind.{evidence_reason}
use Rattle.ct_files.specs.Checked.{dual_checked, IsCheck}
use Rattle.ct_files.specs.declared.checked.Checked.{Checked}

-- what was counted, of which nothing is kept
abbrev pub counted : (ℕ → Support) → ℕ → Checked
counted given n = record { size = Some n; kept = None; support = given n }

pub check-refused : (known : List NamedCode) (evidence : Evidence) (reason : SubmitFault) → (reason ≢ fault.Memory → evidence_reason known evidence ≡ Some reason)
    → IsCheck known evidence (Err reason)
check-refused known evidence reason wrong = record { size = tt; kept = tt; support = tt; accepted = tt; fault = wrong }

pub check-sized : (known : List NamedCode) (evidence : Evidence) (given : ℕ → Support) (size : Result ℕ SubmitFault) (r : Result Checked SubmitFault)
    → r ≡ result_map_both (counted given) (λ f. f) size → ((n : ℕ) → given n ≡ (kind_of evidence).gives (Some n)) → IfOk size (λ n. size_over known evidence ≡ Some n)
    → OnOk size (evidence_reason known evidence ≡ None) → IfErr size (λ f. f ≢ fault.Memory → evidence_reason known evidence ≡ Some f) → IsCheck known evidence r
check-sized known evidence given (Ok n) r is gives sized right wrong =
    subst (IsCheck known evidence) (sym is) (record { size = sym sized; kept = tt; support = gives n; accepted = right; fault = tt })
check-sized known evidence given (Err f) r is gives sized right wrong =
    subst (IsCheck known evidence) (sym is) (check-refused known evidence f wrong)

-- where the number of the words is known, and the reason is told by a fault
pub check-counted : {F : Type 0} (known : List NamedCode) (evidence : Evidence) (given : ℕ → Support) (count : ℕ) (told : F → SubmitFault) (why : Option F) (size : Result ℕ SubmitFault)
    (r : Result Checked SubmitFault) → r ≡ result_map_both (counted given) (λ f. f) size → ((n : ℕ) → given n ≡ (kind_of evidence).gives (Some n))
    → size_over known evidence ≡ Some count → evidence_reason known evidence ≡ option_map told why → IfOk size (λ n. n ≡ count) → OnOk size (why ≡ None)
    → IfErr size (λ f. f ≢ fault.Memory → option_map told why ≡ Some f) → IsCheck known evidence r
check-counted known evidence given count told why size r is gives sized reason own right wrong =
    check-sized known evidence given size r is gives (IfOk-weaker size _ _ (λ (n : ℕ) same. sized ∙ ap Some (sym same)) own)
    (on_ok_weaker size (λ none. reason ∙ ap (option_map told) none) right) (IfErr-weaker size _ _ (λ (f : SubmitFault) h. λ other. reason ∙ h other) wrong)

-- so it is of a dual
pub check-dual : {F : Type 0} (known : List NamedCode) (evidence : Evidence) (given : Support) (told : F → SubmitFault) (why : Option F) (support : Result Support SubmitFault)
    (r : Result Checked SubmitFault) → r ≡ result_map_both dual_checked (λ f. f) support → size_over known evidence ≡ None → (kind_of evidence).gives None ≡ given
    → evidence_reason known evidence ≡ option_map told why → IfOk support (λ s. s ≡ given) → OnOk support (why ≡ None)
    → IfErr support (λ f. f ≢ fault.Memory → option_map told why ≡ Some f) → IsCheck known evidence r
check-dual known evidence given told why (Ok s) r is sized gives reason own right wrong =
    subst (IsCheck known evidence) (sym is)
    (record { size = sym sized; kept = tt; support = own ∙ sym gives; accepted = reason ∙ ap (option_map told) right; fault = tt })
check-dual known evidence given told why (Err f) r is sized gives reason own right wrong =
    subst (IsCheck known evidence) (sym is) (check-refused known evidence f (λ other. reason ∙ wrong other))
