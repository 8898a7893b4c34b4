-- What a verdict says of what was read.
use Rattle.std.proofs.Common.{◌≡◌, ◌≢◌, ℕ, ◌+◌, List, [], ◌∷◌, ap, subst, ◌∙◌}
use Rattle.ct_io.specs.Lines.{lines_of, IsNextLine}
use Rattle.ct_io.proofs.LinesLemmas.{lines_of-from_next}
use Rattle.ct_kind.specs.declared.fault.SubmitFault.TheVariants.{Memory}
use Rattle.ct_verify.specs.Inside.Read.{ReadingValue}
use Rattle.ct_verify.specs.Inside.Reading.{read_next}
use Rattle.ct_verify.specs.Inside.Verdict.{verdict_at_end, verdict_after, verdict_from, AreRead}
use Rattle.ct_verify.specs.declared.verdict.Why.{Why}
use Rattle.ct_verify.specs.declared.verdict.Why.TheVariants as why
use Rattle.ct_verify.specs.declared.verdict.Verdict.{Verdict}
use Rattle.ct_verify.specs.declared.verdict.Verdict.TheVariants.{Yes, No}
use Rattle.ct_verify.specs.declared.part.Part.{Part}
use Rattle.ct_verify.specs.declared.part.Part.TheVariants.{Start, Body, Evidence, Done}
use Rattle.ct_verify.specs.Inside.Step.{AfterLine, On, Failed}
use Rattle.ct_verify.proofs.ReadingLemmas.{IsSound, IsSoundStep, read_next-sound}

-- the verdict on the rest of the text lines, after what was read
abbrev later : ℕ → List (List ℕ) → ReadingValue → Verdict
later k texts next = verdict_from next (k + 1) texts

-- all that is read keeps what holds of it
pub AreRead-sound : (texts : List (List ℕ)) (r s : ReadingValue) (k : ℕ) → AreRead r k texts s → IsSound r → IsSound s
AreRead-sound [] r s k read h = subst IsSound read h
AreRead-sound (text ∷ texts) r s k read h =
    AreRead-sound texts read.0 s (k + 1) read.2 (subst IsSoundStep read.1 (read_next-sound r k text h))

-- a document whose text lines are read to `done` is verified
pub yes_from_read : (texts : List (List ℕ)) (r s : ReadingValue) (k : ℕ) → AreRead r k texts s → s.part ≡ Done → verdict_from r k texts ≡ Yes
yes_from_read [] r s k read done = ap (λ (q : ReadingValue). verdict_at_end q.part k) read ∙ ap (λ (p : Part). verdict_at_end p k) done
yes_from_read (text ∷ texts) r s k read done = ap (λ (step : AfterLine). verdict_after step (later k texts)) read.1 ∙ yes_from_read texts read.0 s (k + 1) read.2 done

ended-other : (p : Part) (k l : ℕ) → verdict_at_end p k ≢ No l (why.Evidence Memory)
ended-other Start k l = λ e. absurd cc
ended-other Body k l = λ e. absurd cc
ended-other (Evidence b) k l = λ e. absurd cc
ended-other Done k l = λ e. absurd cc

-- no verdict is for want of memory
pub never_memory : (texts : List (List ℕ)) (r : ReadingValue) (k l : ℕ) → IsSound r → verdict_from r k texts ≢ No l (why.Evidence Memory)
never_memory [] r k l h = ended-other r.part k l
never_memory (text ∷ texts) r k l h = go (read_next r k text) (read_next-sound r k text h) (λ next. never_memory texts next (k + 1) l) where
  go : (step : AfterLine) → IsSoundStep step → ((next : ReadingValue) → IsSound next → verdict_from next (k + 1) texts ≢ No l (why.Evidence Memory))
      → verdict_after step (later k texts) ≢ No l (why.Evidence Memory)
  go (On next) sound more = more next sound
  go (Failed m w) sound more = λ e. sound cc

-- the verdict on a text is that on what follows its first line, after this was read
pub on_next : (r next : ReadingValue) (k : ℕ) (before line after : List ℕ) → IsNextLine before line after → read_next r k line ≡ On next
    → verdict_from r k (lines_of before) ≡ verdict_from next (k + 1) (lines_of after)
on_next r next k before line after h is =
    ap (verdict_from r k) (lines_of-from_next before line after h) ∙ ap (λ (step : AfterLine). verdict_after step (later k (lines_of after))) is

pub failed_next : (r : ReadingValue) (k l : ℕ) (w : Why) (before line after : List ℕ) → IsNextLine before line after → read_next r k line ≡ Failed l w → verdict_from r k (lines_of before) ≡ No l w
failed_next r k l w before line after h is =
    ap (verdict_from r k) (lines_of-from_next before line after h) ∙ ap (λ (step : AfterLine). verdict_after step (later k (lines_of after))) is
