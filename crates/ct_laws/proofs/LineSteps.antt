-- Printed lines are read one by one, and `done` after them.
use Rattle.std.proofs.Common.{◌≡◌, ◌≢◌, ℕ, suc, ◌+◌, Bool, true, false, cond, not, List, [], ◌∷◌, ◌++◌, map, length, Option, Some, refl, sym, ap, subst, ◌∙◌, append_assoc, append-nil, length-append, arith, codes}
use Rattle.std.specs.Prelude.{slice_get, ◌==◌, option_map}
use Rattle.std.specs.Option.{unwrap_or}
use Rattle.std.proofs.lemmas.Bool.Decides.{nat_tests}
use Rattle.std.proofs.lemmas.List.{length-map, map-append}
use Rattle.ct_text.specs.declared.document_lines.TheConstants.{LINE_FEED}
use Rattle.ct_io.specs.Lines.{lines_of}
use Rattle.ct_io.proofs.LinesLemmas.{lines_of-next}
use Rattle.ct_rules.specs.declared.rule.Rule.{Rule}
use Rattle.ct_rules.specs.declared.arguments.Arguments.{Arguments}
use Rattle.ct_rules.specs.declared.arguments.Arguments.TheVariants.{Nothing, Number, Numbers, Place}
use Rattle.ct_rules.specs.Rule.{named_place, arguments_of, with_place, bare}
use Rattle.ct_rules.proofs.RuleNames.{place_among, place_is, bare-placed}
use Rattle.ct_rules.specs.Derivation.{LineValue, Follows}
use Rattle.ct_piece.specs.Piece.{PieceValue, place_of_id as piece_place}
use Rattle.ct_piece.specs.Supports.{supports_of}
use Rattle.ct_derive.specs.Check.{line_by, numbers_at}
use Rattle.ct_derive.specs.Text.{lines_text}
use Rattle.ct_derive.proofs.CheckedLines.{no_fault, places_again}
use Rattle.ct_verify.specs.Inside.Read.{ReadingValue}
use Rattle.ct_verify.specs.Inside.Reading.{and_line, unless_wrong, by_rule, read_line, read_body, read_next}
use Rattle.ct_verify.specs.Inside.StatedLine.{StatedLineValue}
use Rattle.ct_verify.specs.Stated.{resolved}
use Rattle.ct_verify.specs.Inside.Verdict.{verdict_after, verdict_from}
use Rattle.ct_verify.specs.declared.part.Part.TheVariants as part
use Rattle.ct_verify.specs.Inside.Step.{AfterLine, On, Failed}
use Rattle.ct_verify.specs.declared.verdict.Why.TheVariants as why
use Rattle.ct_verify.specs.declared.verdict.Verdict.TheVariants.{Yes}
use Rattle.ct_commands.proofs.SpacedWords.{spaced_words, known_word, IsLine-words, words_again}
use Rattle.ct_laws.proofs.RuleTexts.{stated_as, stated_of, IsStatedAgain, stated_again}
use Rattle.ct_laws.proofs.LineTexts.{IsPrintableLine, line_parts, line_text-words, line_parts-are, stated_line, line_read}
use Rattle.ct_laws.proofs.PrintedLines.{new_place, moved_by, moved_rule, moved_line}

-- the text lines from here on are verified, whatever their numbers
abbrev pub IsVerified : ReadingValue → List (List ℕ) → Type 0
IsVerified r texts = (k : ℕ) → verdict_from r k texts ≡ Yes

-- where blocks and lines may stand, after these pieces and lines
abbrev pub in_body : List PieceValue → List LineValue → ReadingValue
in_body pieces lines = record { pieces = pieces; lines = lines; part = part.Body }

pub next_verified : (r next : ReadingValue) (text : List ℕ) (texts : List (List ℕ)) → ((k : ℕ) → read_next r k text ≡ On next) → IsVerified next texts
    → IsVerified r (text ∷ texts)
next_verified r next text texts step rest k =
    ap (λ (s : AfterLine). verdict_after s (λ n. verdict_from n (k + 1) texts)) (step k) ∙ rest (k + 1)

-- the pieces with these ids have these new places
abbrev pub HasNewPlace : List (List ℕ) → List PieceValue → List ℕ → Rule → Type 0
HasNewPlace ids printed places r =
    (p : ℕ) → named_place r ≡ Some p → piece_place (unwrap_or (slice_get ids p) []) printed ≡ Some (new_place places p)

-- a rule that is stated is the moved rule, where its arguments are these
resolved_as : (ids : List (List ℕ)) (printed : List PieceValue) (places : List ℕ) (r : Rule) (arguments : Arguments) → arguments_of r ≡ arguments
    → HasNewPlace ids printed places r
    → resolved printed (stated_as ids r arguments).rule (stated_as ids r arguments).id ≡ Some (moved_by places r (place_among arguments))
resolved_as ids printed places r Nothing is h = refl
resolved_as ids printed places r (Number k) is h = refl
resolved_as ids printed places r (Numbers k m) is h = refl
resolved_as ids printed places r (Place p) is h =
    ap (option_map (with_place (bare r))) (h p (sym (place_is r) ∙ ap place_among is)) ∙ ap Some (bare-placed r p (new_place places p) is)

resolved_again : (ids : List (List ℕ)) (printed : List PieceValue) (places : List ℕ) (r : Rule) → HasNewPlace ids printed places r
    → resolved printed (stated_of ids r).rule (stated_of ids r).id ≡ Some (moved_rule places r)
resolved_again ids printed places r h =
    resolved_as ids printed places r (arguments_of r) refl h ∙ ap (λ (place : Option ℕ). Some (moved_by places r place)) (place_is r)

is_next : (m n : ℕ) → m ≡ n + 1 → (m == suc n) ≡ true
is_next m n h = grind (arith, nat_tests)

-- what is known of a line that stands after others: it can be printed, and it follows over the printed pieces
pub record IsReady (ids : List (List ℕ)) (printed : List PieceValue) (places : List ℕ) (before : List LineValue) (l : LineValue) : Type 0 where
  pub printable : IsPrintableLine ids (length before + 1) l
  pub place : HasNewPlace ids printed places l.rule
  pub follows : Follows (supports_of printed) (map (moved_line places) before) (moved_line places l)

line_kept : (places : List ℕ) (l : LineValue) → line_by l.claim (moved_rule places l.rule) (numbers_at l.from) ≡ moved_line places l
line_kept places l = ap (λ (from : List ℕ). record { claim = l.claim; rule = moved_rule places l.rule; from = from }) (places_again l.from)

-- such a line is read
line_stated : (ids : List (List ℕ)) (printed : List PieceValue) (places : List ℕ) (before : List LineValue) (l : LineValue) (k : ℕ) → IsReady ids printed places before l
    → read_line (in_body printed (map (moved_line places) before)) k (Some (stated_line ids (length before + 1) l))
    ≡ On (in_body printed (map (moved_line places) (before ++ l ∷ [])))
line_stated ids printed places before l k h =
    let lines : List LineValue = map (moved_line places) before in
    let r : ReadingValue = in_body printed lines in
    let s : StatedLineValue = stated_line ids (length before + 1) l in
    let rule = moved_rule places l.rule in
    let long : length lines ≡ length before = length-map before (moved_line places) in
    let number : length before + 1 ≡ length lines + 1 = omega (arith, long) in
    ap (λ (b : Bool). cond b (by_rule r k s (resolved printed s.rule.rule s.rule.id)) (Failed k why.Form)) (is_next (length before + 1) (length lines) number)
    ∙ ap (by_rule r k s) (resolved_again ids printed places l.rule h.place)
    ∙ ap (unless_wrong r k (line_by l.claim rule (numbers_at l.from))) (no_fault (supports_of printed) lines (moved_line places l) h.follows)
    ∙ ap (λ (m : LineValue). On (and_line r m)) (line_kept places l)
    ∙ ap (λ (ls : List LineValue). On (in_body printed ls)) (sym (map-append (moved_line places) before (l ∷ [])))

line_step : (ids : List (List ℕ)) (printed : List PieceValue) (places : List ℕ) (before : List LineValue) (l : LineValue) → IsReady ids printed places before l
    → (s : IsStatedAgain ids l.rule (stated_of ids l.rule)) → (k : ℕ)
    → read_next (in_body printed (map (moved_line places) before)) k (codes "line" ++ spaced_words (line_parts (length before + 1) l.claim s.name s.arguments (numbers_at l.from)))
    ≡ On (in_body printed (map (moved_line places) (before ++ l ∷ [])))
unfolding read_next
line_step ids printed places before l h s k =
    let r : ReadingValue = in_body printed (map (moved_line places) before) in
    let parts = line_parts (length before + 1) l.claim s.name s.arguments (numbers_at l.from) in
    let are = line_parts-are ids (length before + 1) l (stated_of ids l.rule) s h.printable in
    ap (read_body r k) (words_again (codes "line") parts (known_word (codes "line") refl) are)
    ∙ ap (read_line r k) (line_read ids (length before + 1) l s h.printable)
    ∙ line_stated ids printed places before l k h

-- lines that stand after others are ready
abbrev pub AreReady : List (List ℕ) → List PieceValue → List ℕ → List LineValue → List LineValue → Type 0
AreReady ids printed places before [] = Unit {0}
AreReady ids printed places before (l ∷ ls) = IsReady ids printed places before l × AreReady ids printed places (before ++ l ∷ []) ls

-- the text lines of lines, and what follows them
pub lines_verified : (ids : List (List ℕ)) (printed : List PieceValue) (places : List ℕ) (before ls : List LineValue) (rest : List ℕ) → AreReady ids printed places before ls
    → IsVerified (in_body printed (map (moved_line places) (before ++ ls))) (lines_of rest)
    → IsVerified (in_body printed (map (moved_line places) before)) (lines_of (lines_text ids (length before + 1) ls ++ rest))
lines_verified ids printed places before [] rest h later =
    subst (λ (ls : List LineValue). IsVerified (in_body printed (map (moved_line places) ls)) (lines_of rest)) (append-nil before) later
lines_verified ids printed places before (l ∷ ls) rest h later =
    let number = length before + 1 in
    let s = stated_again ids l.rule h.0.printable.rule in
    let parts = line_parts number l.claim s.name s.arguments (numbers_at l.from) in
    let line : List ℕ = codes "line" ++ spaced_words parts in
    let more : List ℕ = lines_text ids (number + 1) ls in
    let are = line_parts-are ids number l (stated_of ids l.rule) s h.0.printable in
    let long = length-append before (l ∷ []) in
    let next : length (before ++ l ∷ []) + 1 ≡ number + 1 = omega (arith, long) in
    let inner : IsVerified (in_body printed (map (moved_line places) (before ++ l ∷ []))) (lines_of (more ++ rest)) =
    subst (λ n. IsVerified (in_body printed (map (moved_line places) (before ++ l ∷ []))) (lines_of (lines_text ids n ls ++ rest))) next
    (lines_verified ids printed places (before ++ l ∷ []) ls rest h.1
    (subst (λ (ms : List LineValue). IsVerified (in_body printed (map (moved_line places) ms)) (lines_of rest)) (sym (append_assoc before (l ∷ []) ls)) later)) in
    let text : lines_of (lines_text ids number (l ∷ ls) ++ rest) ≡ line ∷ lines_of (more ++ rest) =
    ap (λ t. lines_of ((t ++ more) ++ rest)) (line_text-words ids number l (stated_of ids l.rule) s)
    ∙ ap lines_of (append_assoc (line ++ LINE_FEED ∷ []) more rest ∙ append_assoc line (LINE_FEED ∷ []) (more ++ rest))
    ∙ lines_of-next line (more ++ rest) (IsLine-words (codes "line") parts (known_word (codes "line") refl) are) in
    subst (IsVerified (in_body printed (map (moved_line places) before))) (sym text)
    (next_verified (in_body printed (map (moved_line places) before)) (in_body printed (map (moved_line places) (before ++ l ∷ []))) line (lines_of (more ++ rest))
    (line_step ids printed places before l h.0 s) inner)

some_lines : (places : List ℕ) (lines : List LineValue) → lines ≢ [] → (length (map (moved_line places) lines) == 0) ≡ false
some_lines places [] h = absurd (h refl)
some_lines places (l ∷ lines) h = some (length (map (moved_line places) lines)) where
  some : (n : ℕ) → (suc n == 0) ≡ false
  some n = grind (arith, nat_tests)

-- `done` ends a document whose lines are some
pub done_verified : (printed : List PieceValue) (places : List ℕ) (lines : List LineValue) → lines ≢ []
    → IsVerified (in_body printed (map (moved_line places) lines)) (lines_of (codes "done" ++ LINE_FEED ∷ []))
unfolding read_next
done_verified printed places lines some =
    let r : ReadingValue = in_body printed (map (moved_line places) lines) in
    let ended : ReadingValue = record { pieces = printed; lines = map (moved_line places) lines; part = part.Done } in
    let word = known_word (codes "done") refl in
    subst (IsVerified r) (sym (lines_of-next (codes "done") [] (IsLine-words (codes "done") [] word tt)))
    (next_verified r ended (codes "done") []
    (λ k.
    ap (read_body r k) (words_again (codes "done") [] word tt)
    ∙ ap (λ (b : Bool). cond (not b) (On ended) (Failed k why.Form)) (some_lines places lines some))
    (λ k. refl))
