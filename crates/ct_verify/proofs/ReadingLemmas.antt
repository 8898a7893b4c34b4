-- What holds of all that is read: the pieces stand, and the lines are a derivation over what they give.
use Rattle.std.proofs.Common.{◌≡◌, ◌≢◌, ℕ, suc, ◌+◌, Bool, true, false, not, ◌&&◌, cond, List, [], ◌∷◌, ◌++◌, length, Option, Some, None, Result, Ok, Err, refl, sym, ap, subst, ◌∙◌, arith}
use Rattle.std.specs.Prelude.{◌==◌, IsTrue, codes}
use Rattle.std.specs.Str.{bytes_eq}
use Rattle.std.proofs.lemmas.Bool.Decides.{nat_tests}
use Rattle.std.proofs.lemmas.List.{nil_from_length}
use Rattle.ct_words.specs.declared.claim.Claim.{Claim}
use Rattle.ct_names.specs.Id.{is_id}
use Rattle.ct_text.specs.Line.{words_of}
use Rattle.ct_text.specs.Number.{number_of}
use Rattle.ct_text.specs.Gathering.{gathered}
use Rattle.ct_text.specs.declared.gathering.Extent.{Extent}
use Rattle.ct_text.specs.declared.gathering.Extent.TheVariants.{ToEnd}
use Rattle.ct_text.specs.declared.gathering.Gathered.{Gathered}
use Rattle.ct_text.specs.declared.gathering.Gathered.TheVariants.{More, Whole}
use Rattle.ct_rules.specs.declared.rule.Rule.{Rule}
use Rattle.ct_rules.specs.Rule.{rule_side}
use Rattle.ct_rules.specs.Derivation.{LineValue, IsDerivation}
use Rattle.ct_rules.proofs.Derivations.{derivation-nil}
use Rattle.ct_piece.specs.Piece.{PieceValue}
use Rattle.ct_piece.specs.Submission.{submitted}
use Rattle.ct_piece.specs.Standing.{AreStanding}
use Rattle.ct_piece.specs.Supports.{supports_of}
use Rattle.ct_kind.specs.declared.fault.SubmitFault.{SubmitFault}
use Rattle.ct_kind.specs.declared.fault.SubmitFault.TheVariants.{Memory}
use Rattle.ct_piece.proofs.StandingLemmas.{AreStanding-none, AreStanding-submitted}
use Rattle.ct_piece.proofs.NoMemory.{submitted-memory}
use Rattle.ct_derive.specs.Check.{line_fault, line_by}
use Rattle.ct_derive.specs.declared.check.LineFault.{LineFault}
use Rattle.ct_derive.specs.declared.check.LineFault.TheVariants.{NoRule, NoPremise, OtherValue}
use Rattle.ct_derive.proofs.CheckedLines.{derivation_by}
use Rattle.ct_verify.specs.Heading.{lines_extent, heading_with, heading_of}
use Rattle.ct_verify.specs.Stated.{resolved}
use Rattle.ct_verify.specs.Inside.StatedLine.{StatedLineValue, line_of}
use Rattle.ct_verify.specs.Inside.Read.{ReadingValue, unread, in_part}
use Rattle.ct_verify.specs.Document.{why_of}
use Rattle.ct_verify.specs.Inside.Reading.{unless_wrong, by_rule, read_line, read_heading, is_only, read_body, after_block, read_block, read_in, read_next}
use Rattle.ct_verify.specs.declared.heading.Heading.{Heading}
use Rattle.ct_verify.specs.declared.verdict.Why.TheVariants as why
use Rattle.ct_verify.specs.declared.part.Block.{Block}
use Rattle.ct_verify.specs.declared.part.Part.{Part}
use Rattle.ct_verify.specs.declared.part.Part.TheVariants as part
use Rattle.ct_verify.specs.Inside.Step.{AfterLine, On, Failed}
use Rattle.ct_verify.proofs.RuleSides.{HasItsSide, line_of-side, resolved-side}

-- what holds of the lines where a reading is: none before the body and in a block of evidence, which is of an id; some after `done`
abbrev pub IsAt : Part → List LineValue → Type 0
IsAt part.Start lines = lines ≡ []
IsAt part.Body lines = Unit {0}
IsAt (part.Evidence b) lines = (lines ≡ []) × IsTrue (is_id b.id)
IsAt part.Done lines = lines ≢ []

-- what holds of all that is read
pub record IsSound (r : ReadingValue) : Type 0 where
  pub standing : AreStanding r.pieces
  pub derivation : IsDerivation (supports_of r.pieces) r.lines
  pub at : IsAt r.part r.lines

-- so it does after a step, and no step fails for want of memory
abbrev pub IsSoundStep : AfterLine → Type 0
IsSoundStep (On r) = IsSound r
IsSoundStep (Failed k w) = w ≢ why.Evidence Memory

pub unread-sound : IsSound unread
unread-sound = record { standing = AreStanding-none; derivation = derivation-nil (supports_of []); at = refl }

form-other : why.Form ≢ why.Evidence Memory
form-other = λ e. absurd cc

rule-other : why.Rule ≢ why.Evidence Memory
rule-other = λ e. absurd cc

why_of-other : (fault : LineFault) → why_of fault ≢ why.Evidence Memory
why_of-other NoRule = λ e. absurd cc
why_of-other NoPremise = λ e. absurd cc
why_of-other (OtherValue stated given) = λ e. absurd cc

unless_fault-sound : (r : ReadingValue) (k : ℕ) (c : Claim) (rule : Rule) (numbers : List ℕ) (fault : Option LineFault) → IsSound r → c.side ≡ rule_side rule
    → line_fault (supports_of r.pieces) r.lines c rule numbers ≡ fault → IsSoundStep (unless_wrong r k (line_by c rule numbers) fault)
unless_fault-sound r k c rule numbers None h side is =
    record { standing = h.standing; derivation = derivation_by (supports_of r.pieces) r.lines c rule numbers side is h.derivation; at = tt }
unless_fault-sound r k c rule numbers (Some fault) h side is = why_of-other fault

by_rule-sound : (r : ReadingValue) (k : ℕ) (l : StatedLineValue) (rule : Option Rule) → IsSound r → ((q : Rule) → rule ≡ Some q → l.claim.side ≡ rule_side q) → IsSoundStep (by_rule r k l rule)
by_rule-sound r k l None h side = rule-other
by_rule-sound r k l (Some rule) h side = unless_fault-sound r k l.claim rule l.from (line_fault (supports_of r.pieces) r.lines l.claim rule l.from) h (side rule refl) refl

is_next : (m n : ℕ) → m ≡ n + 1 → (m == suc n) ≡ true
is_next m n h = grind (arith, nat_tests)

-- where the number is the next, the rule decides
pub next_number : (r : ReadingValue) (k : ℕ) (l : StatedLineValue) (line : Option StatedLineValue) (rule : Option Rule) → line ≡ Some l → l.number ≡ length r.lines + 1
    → rule ≡ resolved r.pieces l.rule.rule l.rule.id → by_rule r k l rule ≡ read_line r k line
next_number r k l line rule states next is =
    ap (by_rule r k l) is
    ∙ sym (ap (λ (b : Bool). cond b (by_rule r k l (resolved r.pieces l.rule.rule l.rule.id)) (Failed k why.Form)) (is_next l.number (length r.lines) next))
    ∙ sym (ap (read_line r k) states)

read_line-sound : (r : ReadingValue) (k : ℕ) (line : Option StatedLineValue) → IsSound r → ((l : StatedLineValue) → line ≡ Some l → HasItsSide l) → IsSoundStep (read_line r k line)
read_line-sound r k None h sides = form-other
read_line-sound r k (Some l) h sides = at (l.number == suc (length r.lines)) where
  rule : Option Rule
  rule = resolved r.pieces l.rule.rule l.rule.id

  at : (b : Bool) → IsSoundStep (cond b (by_rule r k l rule) (Failed k why.Form))
  at true = by_rule-sound r k l rule h (λ q is. sym (sides l refl) ∙ sym (resolved-side r.pieces l.rule.rule l.rule.id q is))
  at false = form-other

heading_with-named : (id : List ℕ) (extent : Option Extent) (h : Heading) → heading_with id extent ≡ Some h → IsTrue (is_id h.id)
heading_with-named id None h is = absurd cc
heading_with-named id (Some extent) h is = at (is_id id) refl is where
  at : (b : Bool) → is_id id ≡ b → cond b (Some (record { id = id; extent = extent })) None ≡ Some h → IsTrue (is_id h.id)
  at true named e =
      let heading : Heading = record { id = id; extent = extent } in
      let same : heading ≡ h = cc in
      subst (λ (k : Heading). is_id k.id ≡ true) same named
  at false named e = absurd cc

-- a heading has an id
heading_of-named : (words : List (List ℕ)) (h : Heading) → heading_of words ≡ Some h → IsTrue (is_id h.id)
heading_of-named [] h is = absurd cc
heading_of-named (id ∷ []) h is = heading_with-named id (Some ToEnd) h is
heading_of-named (id ∷ word ∷ []) h is = absurd cc
heading_of-named (id ∷ word ∷ count ∷ []) h is = at (bytes_eq word (codes "lines")) is where
  at : (b : Bool) → cond b (heading_with id (lines_extent (number_of count))) None ≡ Some h → IsTrue (is_id h.id)
  at true e = heading_with-named id (lines_extent (number_of count)) h e
  at false e = absurd cc
heading_of-named (id ∷ word ∷ count ∷ more ∷ words) h is = absurd cc

is_zero : (n : ℕ) → (n == 0) ≡ true → n ≡ 0
is_zero n h = grind (arith, nat_tests)

none_from_length : (lines : List LineValue) → (length lines == 0) ≡ true → lines ≡ []
none_from_length lines h = nil_from_length lines (is_zero (length lines) h)

some_from_length : (lines : List LineValue) → (length lines == 0) ≡ false → lines ≢ []
some_from_length [] h = absurd cc
some_from_length (l ∷ lines) h = λ e. absurd cc

read_heading-sound : (r : ReadingValue) (k : ℕ) (heading : Option Heading) → IsSound r → ((h : Heading) → heading ≡ Some h → IsTrue (is_id h.id)) → IsSoundStep (read_heading r k heading)
read_heading-sound r k None h named = form-other
read_heading-sound r k (Some heading) h named = at (length r.lines == 0) refl where
  block : Block
  block = record { line = k; id = heading.id; document = record { extent = heading.extent; text = [] } }

  at : (b : Bool) → (length r.lines == 0) ≡ b → IsSoundStep (cond b (On (in_part (part.Evidence block) r)) (Failed k why.Form))
  at true e = record { standing = h.standing; derivation = h.derivation; at = (none_from_length r.lines e, named heading refl) }
  at false e = form-other

and-right : (a b : Bool) → (a && b) ≡ true → b ≡ true
and-right true b h = h
and-right false b h = absurd cc

not-true : (b : Bool) → not b ≡ true → b ≡ false
not-true true h = absurd cc
not-true false h = refl

read_body-sound : (r : ReadingValue) (k : ℕ) (words : List (List ℕ)) → IsSound r → IsSoundStep (read_body r k words)
read_body-sound r k [] h = form-other
read_body-sound r k (word ∷ words) h = line (bytes_eq word (codes "line")) where
  last : Bool
  last = is_only (codes "done") (word ∷ words) && not (length r.lines == 0)

  done : (b : Bool) → last ≡ b → IsSoundStep (cond b (On (in_part part.Done r)) (Failed k why.Form))
  done true e =
      record {
        standing = h.standing;
        derivation = h.derivation;
        at = some_from_length r.lines (not-true (length r.lines == 0) (and-right (is_only (codes "done") (word ∷ words)) (not (length r.lines == 0)) e));
      }
  done false e = form-other

  evidence : (b : Bool) → IsSoundStep (cond b (read_heading r k (heading_of words)) (cond last (On (in_part part.Done r)) (Failed k why.Form)))
  evidence true = read_heading-sound r k (heading_of words) h (heading_of-named words)
  evidence false = done last refl

  line : (b : Bool)
      → IsSoundStep (cond b (read_line r k (line_of words)) (cond (bytes_eq word (codes "evidence")) (read_heading r k (heading_of words)) (cond last (On (in_part part.Done r)) (Failed k why.Form))))
  line true = read_line-sound r k (line_of words) h (line_of-side words)
  line false = evidence (bytes_eq word (codes "evidence"))

after_block-sound : (r : ReadingValue) (begun : ℕ) (id document : List ℕ) (made : Result PieceValue SubmitFault) → IsSound r → r.lines ≡ [] → IsTrue (is_id id) → submitted r.pieces id document ≡ made
    → IsSoundStep (after_block r begun made)
after_block-sound r begun id document (Ok p) h none named is =
    record {
      standing = AreStanding-submitted r.pieces id document (Ok p) named is h.standing;
      derivation = subst (IsDerivation (supports_of (r.pieces ++ p ∷ []))) (sym none) (derivation-nil (supports_of (r.pieces ++ p ∷ [])));
      at = tt;
    }
after_block-sound r begun id document (Err fault) h none named is = λ e.
    let same : fault ≡ Memory = cc in
    submitted-memory r.pieces id document (is ∙ ap (λ (f : SubmitFault). Err f) same)

read_block-sound : (r : ReadingValue) (b : Block) (g : Gathered) → IsSound r → r.lines ≡ [] → IsTrue (is_id b.id) → IsSoundStep (read_block r b g)
read_block-sound r b (More document) h none named = record { standing = h.standing; derivation = h.derivation; at = (none, named) }
read_block-sound r b (Whole document) h none named = after_block-sound r b.line b.id document (submitted r.pieces b.id document) h none named refl

-- one more text line keeps what holds of all that is read
pub read_next-sound : (r : ReadingValue) (k : ℕ) (text : List ℕ) → IsSound r → IsSoundStep (read_next r k text)
unfolding read_next
read_next-sound r k text h = go r.part h.at where
  opens : (b : Bool) → IsSoundStep (cond b (On (in_part part.Body r)) (Failed k why.Form))
  opens true = record { standing = h.standing; derivation = h.derivation; at = tt }
  opens false = form-other

  go : (p : Part) → IsAt p r.lines → IsSoundStep (read_in p r k text)
  go part.Start at = opens (is_only (codes "derivation") (words_of text))
  go part.Body at = read_body-sound r k (words_of text) h
  go (part.Evidence b) at = read_block-sound r b (gathered b.document text) h at.0 at.1
  go part.Done at = form-other
