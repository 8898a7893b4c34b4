use Rattle.std.proofs.Common.{refl}
use Rattle.ct_replies.specs.Text.{reply_text}
use Rattle.ct_verify.specs.Inside.Verdict.{verdict_of}
use Rattle.ct_verify.proofs.Documents.{verified}
use Rattle.ct_text.specs.EntryNumbers.{named_entry}
use Rattle.ct_laws.proofs.VerifiedReplies.{reply_verified, run_verified}
use Rattle.ct_laws.proofs.replies.explained_bounds_are_verified.Goals as goal

pub returns-clause-reply : goal.returns-clause-reply
returns-clause-reply c = λ pieces side numbers r stand short h shows.
    verified (reply_text r) (verdict_of (reply_text r)) refl (reply_verified pieces side (named_entry numbers) r stand short h shows)

pub returns-clause-run : goal.returns-clause-run
returns-clause-run c = λ input output refused run k side numbers r asked is shows.
    verified (reply_text r) (verdict_of (reply_text r)) refl (run_verified input output refused run k side numbers r asked is shows)
