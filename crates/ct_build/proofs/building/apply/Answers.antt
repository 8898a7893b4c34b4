use Rattle.std.proofs.Common.{◌≡◌, ℕ, ◌≤◌, Option, None, sym, ◌∙◌, option_copied, arith, eqb-true, false-eqb}
use Rattle.std.proofs.lemmas.List.Sorted.{length_permutation, IsPermutation-trans}
use Rattle.ct_words.proofs.CheckLemmas.{IsCode-permutation}
use Rattle.ct_words.proofs.EntryLemmas.{entry_limits}
use Rattle.ct_words.specs.declared.limits.TheConstants.{MAX_N}
use Rattle.ct_words.specs.declared.code.TheConstants.{MAX_CODE_DISTANCE}
use Rattle.ct_words.specs.declared.entry.Entry.{Entry}
use Rattle.ct_build.specs.declared.fault.BuildFault.{BuildFault}
use Rattle.ct_build.specs.declared.fault.BuildFault.TheVariants.{Empty, Memory}
use Rattle.ct_build.specs.declared.shape.Shape.{Shape}
use Rattle.ct_build.specs.declared.step.Step.{Step}
use Rattle.ct_build.specs.Build.{built, early_fault, build_fault}
use Rattle.ct_build.proofs.StepLemmas.{ready}
use Rattle.ct_build.proofs.BuiltCodes.{built_code, codes_of_sound}
use Rattle.ct_build.proofs.BuildFaults.{fault_early, fault_empty, fault_none, early_not_memory, length_of_some, IfErr-anyway}
use Rattle.ct_build.proofs.building.apply.Goals as goal

-- what is found over the shapes that were read
told : (step : Step) (e : Entry) {p q : Shape} {o r : Option Shape} {found : Option BuildFault} → p ≡ q → o ≡ r → found ≡ early_fault step e p o
    → early_fault step e q r ≡ found
told step e first second is = (λ i. early_fault step e (sym first i) (sym second i)) ∙ sym is

pub returns-in-Some-clause-fault : goal.returns-in-Some-clause-fault
returns-in-Some-clause-fault c = λ other.
    fault_early c.args.step.now c.args.stated c.args.part.now (option_copied c.args.other) c.in-Some.fault (told c.args.step.now c.args.stated c.of.ensures.value c.shape_beside.ensures.value c.early_fault.ensures.value ∙ c.in-Some.is)

pub returns-then-is_empty-clause-fault : goal.returns-then-is_empty-clause-fault
returns-then-is_empty-clause-fault c = λ other.
    let words = built c.args.step.now c.args.stated c.args.part.now (option_copied c.args.other) in
    let same = length_permutation words c.in_ok-words.words.items c.in_ok-words.ensures.words in
    let none = eqb-true c.in_ok-words.words.len 0 (sym c.is_empty.ensures ∙ c.if-is_empty.true) in
    let long = c.in_ok-words.words.ok.0 in
    fault_empty c.args.step.now c.args.stated c.args.part.now (option_copied c.args.other)
    (told c.args.step.now c.args.stated c.of.ensures.value c.shape_beside.ensures.value c.early_fault.ensures.value ∙ c.in_default.is)
    (omega (arith, same, none, long))

pub code_of-requires-clause-code : goal.code_of-requires-clause-code
code_of-requires-clause-code c =
    let e = c.args.stated in
    let part = c.args.part.now in
    let other = option_copied c.args.other in
    let faultless = told c.args.step.now c.args.stated c.of.ensures.value c.shape_beside.ensures.value c.early_fault.ensures.value ∙ c.in_default.is in
    IsCode-permutation e.n e.d e.w (built c.args.step.now e part other) c.in_ok-words.words.items c.in_ok-words.ensures.words
    (built_code c.args.step.now e part other c.requires.fits (ready c.args.step.now e part other faultless)
    c.of.ensures.sound.code (codes_of_sound other c.shape_beside.ensures.sound))

pub returns-clause-accepted : goal.returns-clause-accepted
returns-clause-accepted c =
    let words = built c.args.step.now c.args.stated c.args.part.now (option_copied c.args.other) in
    let same = length_permutation words c.in_ok-words.words.items c.in_ok-words.ensures.words in
    let some = false-eqb c.in_ok-words.words.len 0 (sym c.if-is_empty.false ∙ c.is_empty.ensures) in
    let long = c.in_ok-words.words.ok.0 in
    fault_none c.args.step.now c.args.stated c.args.part.now (option_copied c.args.other)
    (told c.args.step.now c.args.stated c.of.ensures.value c.shape_beside.ensures.value c.early_fault.ensures.value ∙ c.in_default.is)
    (omega (arith, same, some, long))

pub returns-clause-words : goal.returns-clause-words
returns-clause-words c =
    IsPermutation-trans (built c.args.step.now c.args.stated c.args.part.now (option_copied c.args.other)) c.in_ok-words.words.items c.code_of.result.words
    c.in_ok-words.ensures.words c.code_of.ensures.words

pub returns-in-Some-clause-memory : goal.returns-in-Some-clause-memory
returns-in-Some-clause-memory c = λ memory.
    absurd (early_not_memory c.args.step.now c.args.stated _ _ c.in-Some.fault (sym c.early_fault.ensures.value ∙ c.in-Some.is) memory)

pub returns-in_err-words-clause-memory : goal.returns-in_err-words-clause-memory
returns-in_err-words-clause-memory c =
    let e = c.args.stated in
    let part = c.args.part.now in
    let other = option_copied c.args.other in
    let words = built c.args.step.now e part other in
    IfErr-anyway c.from_residual.result (λ fault. fault ≡ Memory → build_fault c.args.step.now e part other ≡ None)
    (λ fault memory. fault_none c.args.step.now e part other (told c.args.step.now c.args.stated c.of.ensures.value c.shape_beside.ensures.value c.early_fault.ensures.value ∙ c.in_default.is) (length_of_some words c.in_err-words.ensures.some))

-- a distance of the table is one of codes
far : (d : ℕ) → 3 ≤ d → d ≤ MAX_N → (1 ≤ d) × (d ≤ MAX_CODE_DISTANCE)
far d from to = (omega arith, omega arith)

pub code_of-requires-clause-length : goal.code_of-requires-clause-length
code_of-requires-clause-length c = let limits = entry_limits c.args.stated c.requires.fits.entry in (limits.length_from, limits.length_to)

pub code_of-requires-clause-distance : goal.code_of-requires-clause-distance
code_of-requires-clause-distance c =
    let limits = entry_limits c.args.stated c.requires.fits.entry in
    far c.args.stated.d limits.distance_from limits.distance_to

pub code_of-requires-clause-some : goal.code_of-requires-clause-some
code_of-requires-clause-some c =
    let some = false-eqb c.in_ok-words.words.len 0 (sym c.if-is_empty.false ∙ c.is_empty.ensures) in
    let long = c.in_ok-words.words.ok.0 in
    omega (arith, some, long)

pub returns-clause-n : goal.returns-clause-n
returns-clause-n c = c.code_of.ensures.n

pub returns-clause-d : goal.returns-clause-d
returns-clause-d c = c.code_of.ensures.d

pub returns-clause-w : goal.returns-clause-w
returns-clause-w c = c.code_of.ensures.w

pub returns-clause-sound : goal.returns-clause-sound
returns-clause-sound c = c.code_of.ensures.sound

-- that there are no words is not want of memory
not_memory : Empty ≡ Memory → ⊥
not_memory same = cc

pub returns-then-is_empty-clause-memory : goal.returns-then-is_empty-clause-memory
returns-then-is_empty-clause-memory c = λ memory. absurd (not_memory memory)
