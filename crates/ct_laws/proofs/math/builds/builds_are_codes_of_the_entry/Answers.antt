use Rattle.ct_build.proofs.StepLemmas.{ready}
use Rattle.ct_build.proofs.BuiltCodes.{built_code}
use Rattle.ct_build.proofs.BuildFaults.{early_none, built-size, fault-alone, built-alone}
use Rattle.ct_laws.proofs.math.builds.builds_are_codes_of_the_entry.Goals as goal

pub returns : goal.returns
returns c = record {
  code = λ step e part other fits first second none.
      let both = early_none step e part other none in
      built_code step e part other fits (ready step e part other both.0) first second;
  size = built-size;
  alone_fault = fault-alone;
  alone_words = built-alone;
}
