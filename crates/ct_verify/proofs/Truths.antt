-- What a verdict says is true.
use Rattle.std.proofs.Common.{◌≡◌, ℕ, true, false, List, [], ◌∷◌, ◌++◌, refl, sym, ap, subst, ◌∙◌}
use Rattle.std.specs.Prelude.{◌==◌, codes, slice_index}
use Rattle.ct_text.specs.declared.document_lines.TheConstants.{LINE_FEED}
use Rattle.ct_verify.specs.Document.{IsVerdict}
use Rattle.ct_verify.specs.Verification.{verdict_line, IsTrueVerdict}
use Rattle.ct_verify.specs.declared.verdict.Verdict.{Verdict}
use Rattle.ct_verify.specs.declared.verdict.Verdict.TheVariants.{Yes, No}

-- `no` does not begin with `y` (121)
differ : false ≡ true → ⊥
differ e = cc

-- a verdict that is written as `yes` is one
is_yes : (v : Verdict) → verdict_line v ≡ codes "yes" ++ LINE_FEED ∷ [] → v ≡ Yes
is_yes Yes is = refl
is_yes (No line why) is = absurd (differ (ap (λ (text : List ℕ). slice_index text 0 == 121) is))

pub verdict_is_true : (document output : List ℕ) (v : Verdict) → IsVerdict document v → output ≡ verdict_line v → IsTrueVerdict document output
verdict_is_true document output v found written is = subst (IsVerdict document) (is_yes v (sym written ∙ is)) found
