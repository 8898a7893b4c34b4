use Rattle.ct_laws.proofs.PrintedDerivations.{printed_is_verified}
use Rattle.std.proofs.Common.{refl}
use Rattle.ct_explain.specs.Explained.{explanation_text}
use Rattle.ct_verify.specs.Inside.Verdict.{verdict_of}
use Rattle.ct_verify.proofs.Documents.{verified}
use Rattle.ct_laws.proofs.verified.printed_derivations_are_verified.Goals as goal

pub returns : goal.returns
returns c = λ pieces side e d stand short h. verified (explanation_text pieces d) (verdict_of (explanation_text pieces d)) refl (printed_is_verified pieces side e d stand short h)
