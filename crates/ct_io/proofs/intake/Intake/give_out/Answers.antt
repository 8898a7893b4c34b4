use Rattle.std.proofs.Common.{◌≡◌, ◌≢◌, ℕ, ◌+◌, ◌<◌, ◌≤◌, List, [], ◌∷◌, ◌++◌, Vec, Global, Option, Some, None, Ok, length, take, length-append, length-take, inl, inr, sym, refl, subst, ap, ◌∙◌, arith}
use Rattle.std.specs.Prelude.{IfSome, MatchOption}
use Rattle.std.specs.List.{slice_get}
use Rattle.std.proofs.lemmas.Bool.{false≢true}
use Rattle.std.proofs.lemmas.Option.{none-some, slice_get_within}
use Rattle.ct_text.specs.declared.document_lines.TheConstants.{LINE_FEED}
use Rattle.ct_io.specs.Lines.{IsLine}
use Rattle.ct_io.specs.declared.intake.Intake.{Intake}
use Rattle.ct_io.specs.Inside.Intake.{GivesOut, IsFound}
use Rattle.ct_io.proofs.intake.Intake.give_out.Goals as goal

-- the bytes that are held are those of the line, a line feed and those that are left
given-size : (held line after : List ℕ) (n : ℕ) → slice_get held n ≡ Some LINE_FEED → line ≡ take n held → held ≡ line ++ LINE_FEED ∷ after
    → (length held ≡ n + 1 + length after) × (length line ≡ n)
given-size held line after n feed line-is held-is =
    let within = slice_get_within held n LINE_FEED feed in
    let front = ap length line-is in
    let size = length-take n held in
    let parts = ap length held-is in
    let long = length-append line (LINE_FEED ∷ after) in
    (omega arith, omega arith)

pub returns-in_ok-take_line-in-Some : goal.returns-in_ok-take_line-in-Some
returns-in_ok-take_line-in-Some c =
    let old = c.args.self.now in
    let held = c.args.self.now.held.bytes in
    let after = c.take_line.new.self.bytes in
    let n = c.in-Some.length in
    let line = c.in_ok-take_line-in-Some.field-0.items in
    let given = c.in_ok-take_line-in-Some.ensures in
    let found = subst (λ f. IsFound f old.held.bytes old.ended) c.in-Some.is c.requires in
    let size : (length held ≡ n + 1 + length after) × (length line ≡ n) = given-size held line after n found.1 given.line given.rest in
    record {
      divides = ((subst IsLine (sym given.line) found.0, inl given.rest), λ going. given.rest);
      rest = λ m few. let little : length held ≤ n + m = subst (λ f. IfSome f (λ k. length held ≤ k + m)) c.in-Some.is few in omega (arith, size.0, little);
      size = omega (arith, size.0, size.1);
      kept = given.kept;
      all_kept = given.all_kept;
      taken = refl;
      ended = refl;
      memory = tt;
    }

-- what is left at the end is given out, where it is something
given-rest : (old new : Intake) (found : Option ℕ) (rest : Option (Vec ℕ Global)) → IsFound found old.held.bytes old.ended → found ≡ None
    → MatchOption rest (old.held.bytes ≡ []) (λ line. (old.held.bytes ≡ line.items) × (0 < length line.items)) → new.held.bytes ≡ []
    → new.held.kept ≡ old.held.kept → length new.held.bytes ≤ new.held.kept → new.taken ≡ old.taken → new.ended ≡ old.ended
    → GivesOut old new found (Ok rest)
given-rest old new (Some n) rest is none given after kept all_kept taken ended = absurd (none-some n (sym none))
given-rest old new None None is none given after kept all_kept taken ended = record {
  divides = (given, after, ended ∙ is.1);
  rest = λ m few. tt;
  size = let empty = ap length given in omega (arith, empty);
  kept = kept;
  all_kept = all_kept;
  taken = taken;
  ended = ended;
  memory = tt;
}
given-rest old new None (Some line) is none given after kept all_kept taken ended =
    let same = ap length given.0 in
    let gone = ap length after in
    record {
      divides = ((subst IsLine given.0 is.0, inr (given.0, some_bytes line.items given.1, after)), λ going. absurd (false≢true (sym going ∙ ended ∙ is.1)));
      rest = λ m few. omega (arith, gone);
      size = omega (arith, same);
      kept = kept;
      all_kept = all_kept;
      taken = taken;
      ended = ended;
      memory = tt;
    }
  where
    some_bytes : (bytes : List ℕ) → 0 < length bytes → bytes ≢ []
    some_bytes bytes some e = omega (arith, some, ap length e)

pub returns-in_ok-take_rest-in-None : goal.returns-in_ok-take_rest-in-None
returns-in_ok-take_rest-in-None c =
    let given = c.in_ok-take_rest-in-None.ensures in
    given-rest c.args.self.now _ c.args.found c.in_ok-take_rest-in-None.field-0 c.requires c.in-None.is given.all given.none_left given.kept
    given.all_kept refl refl
