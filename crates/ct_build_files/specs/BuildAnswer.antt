-- Where each answer comes at the end of a document of kind build that has a text of digits.
use Rattle.std.specs.Prelude.{◌≡◌, ◌≢◌, ◌⊎◌, ℕ, List, Option, Result, Ok, Err}
use Rattle.ct_words.specs.declared.entry.Entry.{Entry}
use Rattle.ct_build.specs.declared.step.Step.{Step}
use Rattle.ct_kind.specs.declared.evidence.Evidence.{Evidence}
use Rattle.ct_kind.specs.declared.evidence.Evidence.TheVariants.{Build}
use Rattle.ct_fields.specs.declared.fault.DocumentFault.{DocumentFault}
use Rattle.ct_fields.specs.declared.fault.DocumentFault.TheVariants.{Digits}

-- the step is made of the right value that the text writes, or the text writes none and is the fault
abbrev pub IsTextAnswer : {A : Type 0} → (A → List ℕ) → (A → Type 0) → List ℕ → (A → Step) → Entry → List ℕ → Option (List ℕ) → Result Evidence DocumentFault → Type 0
IsTextAnswer {A} written IsRight text make e part other answer =
    ((x : A) × IsRight x × (text ≡ written x) × (answer ≡ Ok (Build e (make x) part other)))
    ⊎ (((x : A) → IsRight x → text ≢ written x) × (answer ≡ Err (Digits 0)))
