-- The words of the command line: what `clap` says of them, and the mode that they name.
use Rattle.std.specs.Prelude.{ℕ, Bool, nat_eq, nat_le, ◌&&◌, ◌||◌, true, if◌then◌else◌, List, [], ◌∷◌, map, Option, Some, None, option_map, option_and_then, codes, String}
use Rattle.std.specs.declared.alloc.Global.{Global}
use Rattle.std.specs.List.{starts_with}
use Rattle.std.specs.Str.{bytes_eq}
use Rattle.std.specs.String.{string_bytes}
use Rattle.clap.specs.Words.{App, Kinds, Row, Rule, Text, fault_of, first_of, matches_of, new_app, new_rule, with_rule}
use Rattle.clap.specs.Simple.{on_top}
use Rattle.clap.specs.declared.builder.action.ArgAction.TheVariants.{Set}
use Rattle.ct_text.specs.Number.{number_of}
use Rattle.ct_command_line.specs.declared.mode.Mode.{Mode}
use Rattle.ct_command_line.specs.declared.mode.Mode.TheVariants.{Session, Verify, Find, Sample}
use Rattle.ct_command_line.specs.declared.mode.TheConstants.{MAX_SAMPLE}

-- the words of the command line, as bytes
abbrev pub bytes_of : List (String Global) → List Text
bytes_of words = map (λ word. string_bytes word) words

-- the word that names the mode, which has to be there
abbrev pub mode_rule : Rule
mode_rule = record (new_rule (codes "mode")) { required = true; action = Some Set }

-- the option `--number`, which has a value
abbrev pub number_rule : Rule
number_rule = record (new_rule (codes "number")) { long = Some (codes "number"); action = Some Set }

-- the command line as `clap` takes it: these two, and no program's name before them
unfoldable pub command_line : App
command_line = with_rule (with_rule (on_top (λ s. record s { no_binary_name = true }) (new_app (codes "code_tables"))) mode_rule) number_rule

-- a number of commands that a sample may have
abbrev pub within_sample : ℕ → Option ℕ
within_sample n = if nat_le 1 n && nat_le n MAX_SAMPLE then Some n else None

-- the number of commands that a text asks for: one from 1 to MAX_SAMPLE, as commands write numbers
unfoldable pub sample_number : Text → Option ℕ
sample_number text = option_and_then within_sample (number_of text)

-- the mode of a word that stands alone: a row for each mode without a number
abbrev pub plain_mode : Text → Option Mode
plain_mode word =
    if bytes_eq word (codes "session") then Some Session
    else if bytes_eq word (codes "verify") then Some Verify
    else if bytes_eq word (codes "find") then Some Find
    else None

-- the mode of a word and the number beside it: `sample` alone takes one
abbrev pub numbered_mode : Text → Text → Option Mode
numbered_mode word text = if bytes_eq word (codes "sample") then option_map Sample (sample_number text) else None

-- the mode of these values of the word and the option
abbrev pub mode_from : Option Text → Option Text → Option Mode
mode_from (Some word) None = plain_mode word
mode_from (Some word) (Some text) = numbered_mode word text
mode_from None number = None

-- the mode of the matches
abbrev pub mode_of_matches : List Row → Option Mode
mode_of_matches rows = mode_from (first_of (codes "mode") rows) (first_of (codes "number") rows)

-- what is taken where there is no fault
abbrev pub unless_fault : Kinds → Option Mode → Option Mode
unless_fault [] mode = mode
unless_fault (kind ∷ kinds) mode = None

-- the mode that the words name: that of their matches, where `clap` finds no fault in them
unfoldable pub mode_of : List Text → Option Mode
mode_of words = unless_fault (fault_of command_line words) (mode_of_matches (matches_of command_line words))

-- whether some command line has the word, and it is no option's value
abbrev pub is_known : Text → Bool
is_known word =
    bytes_eq word (codes "session") || bytes_eq word (codes "verify") || bytes_eq word (codes "find") || bytes_eq word (codes "sample")
    || bytes_eq word (codes "--number") || bytes_eq word (codes "--") || starts_with nat_eq word (codes "--number=")

-- the first of the words, behind one before them, that no command line has: not known, and no value of `--number`
abbrev pub first_unknown : Text → List Text → Option Text
first_unknown before [] = None
first_unknown before (word ∷ words) = if is_known word || bytes_eq before (codes "--number") then first_unknown word words else Some word
