use Rattle.std.proofs.Common.{refl}
use Rattle.std.proofs.lemmas.Result.{err_from_is_err_and}
use Rattle.ct_io.proofs.IntakeLemmas.{ReadsOn-failed, ReadsOn-read, ReadsOn-long}
use Rattle.ct_io.proofs.intake.Intake.read_on.Goals as goal

pub returns-in_err-count : goal.returns-in_err-count
returns-in_err-count g c =
    let p = err_from_is_err_and c.from_residual.result c.from_residual.ensures.1 in
    rw (p.1, p.2) (ReadsOn-failed c.args.self.now _ _ _ _ _ _ _ c.requires.line c.requires.going c.requires.within refl refl c.in_err-count.ensures.fills)

pub returns : goal.returns
returns g c = ReadsOn-read _ c.args.self.now _ _ _ _ _ _ c.in_ok-count.count c.requires.line c.requires.going c.args.self.now.piece_len refl refl c.if-self-gt-MAX_INPUT.false c.in_ok-count.ensures.fills

pub returns-then-self-gt-MAX_INPUT : goal.returns-then-self-gt-MAX_INPUT
returns-then-self-gt-MAX_INPUT g c =
    ReadsOn-long c.args.self.now _ _ _ _ _ _ c.in_ok-count.count c.requires.line c.requires.going c.requires.within c.args.self.now.piece_len refl refl c.if-self-gt-MAX_INPUT.true c.in_ok-count.ensures.fills
