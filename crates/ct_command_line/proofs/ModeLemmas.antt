-- What an answer of `clap` says of the mode that the words name.
use Rattle.std.proofs.Common.{◌≡◌, ◌∙◌, inl, inr, ap, ap₂, sym, refl, true, codes, List, [], ◌∷◌, Option, Some, None}
use Rattle.std.specs.Prelude.{◌≢◌}
use Rattle.clap.specs.Words.{App, HasKind, HasMatchesOf, Kinds, Text, fault_of, first_value, found_of, is_simple, is_simple_and_free, kind_of, matches_of}
use Rattle.clap.specs.declared.error.Error.{Error}
use Rattle.clap.specs.declared.error.kind.ErrorKind.TheVariants as kind
use Rattle.clap.specs.declared.parser.matches.ArgMatches.{ArgMatches}
use Rattle.clap.proofs.OnLiterals.{clap_on_literals}
use Rattle.clap.proofs.WalkLemmas.{first_value-rows}
use Rattle.ct_command_line.specs.declared.mode.Mode.{Mode}
use Rattle.ct_command_line.specs.declared.mode.Mode.TheVariants.{Session}
use Rattle.ct_command_line.specs.CommandLine.{command_line, mode_from, mode_of, mode_of_matches, unless_fault}

is_plain : is_simple command_line ≡ true
unfolding clap_on_literals command_line
is_plain = refl

is_free : is_simple_and_free command_line ≡ true
unfolding clap_on_literals command_line
is_free = refl

some_fault : (kinds : Kinds) (e : Error) (mode : Option Mode) → HasKind kinds e → kind_of e ≢ kind.OutOfMemory → unless_fault kinds mode ≡ None
some_fault [] e mode (inl h) other = absurd (other h)
some_fault [] e mode (inr h) other = elim h [ ]
some_fault (k ∷ kinds) e mode h other = refl

-- the word `session`, alone, names the mode
pub session_named : mode_of (codes "session" ∷ []) ≡ Some Session
unfolding clap_on_literals mode_of command_line
session_named = refl

-- an error other than want of memory: the words name no mode
pub refused : (app : App) (words : List Text) (e : Error) → app ≡ command_line → (is_simple_and_free app ≡ true → HasKind (fault_of app words) e)
    → kind_of e ≢ kind.OutOfMemory → mode_of words ≡ None
unfolding mode_of
refused app words e is h other =
    let mode = mode_of_matches (matches_of command_line words) in
    ap (λ (a : App). unless_fault (fault_of a words) mode) (sym is) ∙ some_fault (fault_of app words) e mode (h (ap is_simple_and_free is ∙ is_free)) other

-- matches: the words name the mode that these say
pub taken : (app : App) (words : List Text) (m : ArgMatches) → app ≡ command_line → (is_simple_and_free app ≡ true → fault_of app words ≡ [])
    → HasMatchesOf app words m
    → mode_from (first_value (found_of m) (codes "mode")) (first_value (found_of m) (codes "number")) ≡ mode_of words
unfolding mode_of
taken app words m is none h =
    let rows_are = (h (ap is_simple is ∙ is_plain)).0 ∙ ap (λ (a : App). matches_of a words) is in
    let no_fault = ap (λ (a : App). fault_of a words) (sym is) ∙ none (ap is_simple_and_free is ∙ is_free) in
    ap₂ mode_from (first_value-rows (found_of m) (codes "mode")) (first_value-rows (found_of m) (codes "number")) ∙ ap mode_of_matches rows_are
    ∙ sym (ap (λ (kinds : Kinds). unless_fault kinds (mode_of_matches (matches_of command_line words))) no_fault)
