use Rattle.std.proofs.Common.{arith}
use Rattle.ct_laws.proofs.devices.limits_and_told_bytes.Goals as goal

pub returns : goal.returns
returns c = record {
  limit = λ input. (λ h. h, λ h. h);
  above = λ input. (λ h. omega (arith, h), λ h. omega (arith, h));
  untold = λ h. h;
  told = λ before h. h;
  known = λ before after h. h;
}
