use Rattle.std.proofs.Common.{refl}
use Rattle.clap.proofs.OnLiterals.{clap_on_literals}
use Rattle.ct_text.specs.Number.{number_of}
use Rattle.ct_command_line.specs.CommandLine.{mode_of, command_line, sample_number}
use Rattle.ct_command_line.proofs.laws.known_command_lines.Goals as goal

pub returns : goal.returns
unfolding clap_on_literals mode_of command_line number_of sample_number
returns c = record {
  session = refl;
  verify = refl;
  find = refl;
  verify_with_number = refl;
  find_with_number = refl;
  sample = refl;
  sample_after = refl;
  sample_joined = refl;
  sample_alone = refl;
  sample_of_none = refl;
  sample_above = refl;
  sample_of_zeros = refl;
  sample_with_sign = refl;
  sample_of_nothing = refl;
  sample_twice = refl;
  after_dashes = refl;
  none = refl;
  empty = refl;
  unknown = refl;
  greater = refl;
  twice = refl;
  with_number = refl;
  number_first = refl;
  no_value = refl;
  unknown_option = refl;
  help = refl;
  short_help = refl;
  help_beside = refl;
  version = refl;
}
