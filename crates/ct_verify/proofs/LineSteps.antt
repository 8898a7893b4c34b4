-- What a text line makes of what was read, by what was found of it.
use Rattle.std.proofs.Common.{◌≡◌, ℕ, suc, ◌+◌, ◌-◌, ◌≤◌, Bool, true, false, cond, List, [], ◌∷◌, ◌++◌, length, map, take, drop, take_all, get_or, Option, Some, sym, ap, ◌∙◌, arith}
use Rattle.std.specs.Prelude.{◌==◌, codes}
use Rattle.std.specs.Str.{bytes_eq}
use Rattle.std.proofs.lemmas.Bool.Decides.{nat_tests}
use Rattle.ct_text.specs.Line.{words_of}
use Rattle.ct_verify.specs.Heading.{heading_of}
use Rattle.ct_verify.specs.Stated.{resolved}
use Rattle.ct_verify.specs.Inside.StatedLine.{StatedLineValue, line_of}
use Rattle.ct_verify.specs.Inside.Read.{ReadingValue, in_part}
use Rattle.ct_verify.specs.Inside.Reading.{by_rule, read_line, read_heading, is_only, read_body, read_in, read_next}
use Rattle.ct_verify.specs.declared.verdict.Why.TheVariants as why
use Rattle.ct_verify.specs.declared.part.Part.{Part}
use Rattle.ct_verify.specs.declared.part.Part.TheVariants as part
use Rattle.ct_verify.specs.Inside.Step.{AfterLine, On, Failed}
use Rattle.ct_verify.specs.Inside.Steps.{is_end}
use Rattle.ct_verify.proofs.FailedLines.{only_of_two}

-- the document ends, or the text line fails
abbrev at_end : ReadingValue → ℕ → Bool → AfterLine
at_end r k ends = cond ends (On (in_part part.Done r)) (Failed k why.Form)

-- a block of evidence begins, or else as above
abbrev at_evidence : ReadingValue → ℕ → List (List ℕ) → Bool → Bool → AfterLine
at_evidence r k words ends evidence = cond evidence (read_heading r k (heading_of words)) (at_end r k ends)

-- a line is stated, or else as above
abbrev at_line : ReadingValue → ℕ → List (List ℕ) → Bool → Bool → Bool → AfterLine
at_line r k words ends evidence line = cond line (read_line r k (line_of words)) (at_evidence r k words ends evidence)

-- where the first of the words is neither `line` nor `evidence`
pub otherwise : {A : Type 0} (r : ReadingValue) (k : ℕ) (words : List A) (text : A → List ℕ) (d : A) (ends : Bool) → 1 ≤ length words
    → bytes_eq (text (get_or words 0 d)) (codes "line") ≡ false → bytes_eq (text (get_or words 0 d)) (codes "evidence") ≡ false
    → is_end r (map text words) ≡ ends → cond ends (On (in_part part.Done r)) (Failed k why.Form) ≡ read_body r k (map text words)
otherwise r k [] text d ends some line evidence is = absurd (omega (arith, some))
otherwise r k (word ∷ words) text d ends some line evidence is =
    sym (ap (at_line r k (map text words) (is_end r (text word ∷ map text words)) (bytes_eq (text word) (codes "evidence"))) line
    ∙ ap (at_evidence r k (map text words) (is_end r (text word ∷ map text words))) evidence
    ∙ ap (at_end r k) is)

-- all words but the first
without_one : {A : Type 0} (word : A) (words : List A) → take (length (word ∷ words) - 1) words ≡ words
without_one word words = take_all (length (word ∷ words) - 1) words (omega arith)

-- where the first of the words is `line`
pub lined : {A : Type 0} (r : ReadingValue) (k : ℕ) (words rest : List A) (text : A → List ℕ) (d : A) → 1 ≤ length words
    → rest ≡ take (length words - 1) (drop 1 words) → bytes_eq (text (get_or words 0 d)) (codes "line") ≡ true
    → read_line r k (line_of (map text rest)) ≡ read_body r k (map text words)
lined r k [] rest text d some is line = absurd (omega (arith, some))
lined {A} r k (word ∷ words) rest text d some is line =
    ap (λ (ws : List A). read_line r k (line_of (map text ws))) (is ∙ without_one word words)
    ∙ sym (ap (at_line r k (map text words) (is_end r (text word ∷ map text words)) (bytes_eq (text word) (codes "evidence"))) line)

-- where the first of the words is `evidence`
pub headed : {A : Type 0} (r : ReadingValue) (k : ℕ) (words rest : List A) (text : A → List ℕ) (d : A) → 1 ≤ length words
    → rest ≡ take (length words - 1) (drop 1 words) → bytes_eq (text (get_or words 0 d)) (codes "line") ≡ false
    → bytes_eq (text (get_or words 0 d)) (codes "evidence") ≡ true → read_heading r k (heading_of (map text rest)) ≡ read_body r k (map text words)
headed r k [] rest text d some is line evidence = absurd (omega (arith, some))
headed {A} r k (word ∷ words) rest text d some is line evidence =
    ap (λ (ws : List A). read_heading r k (heading_of (map text ws))) (is ∙ without_one word words)
    ∙ sym (ap (at_line r k (map text words) (is_end r (text word ∷ map text words)) (bytes_eq (text word) (codes "evidence"))) line
    ∙ ap (at_evidence r k (map text words) (is_end r (text word ∷ map text words))) evidence)

not_next : (m n : ℕ) → (m ≡ n + 1 → ⊥) → (m == suc n) ≡ false
not_next m n other = grind (arith, nat_tests)

-- a line with another number than the next
pub other_number : (r : ReadingValue) (k : ℕ) (l : StatedLineValue) (line : Option StatedLineValue) → line ≡ Some l → (l.number ≡ length r.lines + 1 → ⊥)
    → Failed k why.Form ≡ read_line r k line
other_number r k l line states other =
    sym (ap (λ (b : Bool). cond b (by_rule r k l (resolved r.pieces l.rule.rule l.rule.id)) (Failed k why.Form)) (not_next l.number (length r.lines) other))
    ∙ sym (ap (read_line r k) states)

-- the first text line
pub started : (r : ReadingValue) (k : ℕ) (text : List ℕ) → r.part ≡ part.Start → is_only (codes "derivation") (take 2 (words_of text)) ≡ true
    → On (in_part part.Body r) ≡ read_next r k text
unfolding read_next
started r k text is first =
    ap (λ (b : Bool). cond b (On (in_part part.Body r)) (Failed k why.Form)) (sym first ∙ only_of_two (codes "derivation") (words_of text))
    ∙ ap (λ (p : Part). read_in p r k text) (sym is)

-- one more, on both sides
pub one_more : {A : Type 0} (new old given all : List A) (x : A) → new ≡ old ++ x ∷ [] → old ≡ given → all ≡ given ++ x ∷ [] → new ≡ all
one_more {A} new old given all x is same made = is ∙ ap (λ (xs : List A). xs ++ x ∷ []) same ∙ sym made
