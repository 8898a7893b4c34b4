-- What is said of known bytes.
use Rattle.std.proofs.Common.{◌≡◌, ◌≤◌, ◌<◌, ◌+◌, ℕ, Bool, List, [], ◌∷◌, ◌++◌, length, Option, Some, None, refl, sym, ap, ◌∙◌, append_assoc}
use Rattle.std.specs.Io.KnownBytes.{Appends, Consumes}
use Rattle.ct_io.specs.Lines.{lines_of, whole_lines}
use Rattle.ct_session.specs.Run.{AnswersAll}
use Rattle.ct_session.specs.Serve.{AnswersTaken, AnswersButLastBytes, WritesWholeReplies}

grown : (held : List ℕ) (new : Option (List ℕ)) (text : List ℕ) → Appends (Some held) new text → new ≡ Some (held ++ text)
grown held None text h = absurd h
grown held (Some now) text h = ap (λ (bytes : List ℕ). Some bytes) h

lost : (input : List ℕ) (left : Option (List ℕ)) (bytes : List ℕ) → Consumes (Some input) left bytes → (rest : List ℕ) × (left ≡ Some rest) × (input ≡ bytes ++ rest)
lost input None bytes h = absurd h
lost input (Some rest) bytes h = (rest, refl, h)

pub read_fault : (input held : List ℕ) (left new : Option (List ℕ)) → AnswersTaken (Some input) left (Some held) new
    → (taken rest text : List ℕ) × (refused : Bool) × (left ≡ Some rest) × (input ≡ taken ++ rest)
    × AnswersAll [] (whole_lines taken) text refused × (new ≡ Some (held ++ text))
read_fault input held left new (taken, consumes, (text, refused, answers, appends)) =
    let (rest, is, divided) = lost input left taken consumes in
    (taken, rest, text, refused, is, divided, answers, grown held new text appends)

pub too_long : (input held : List ℕ) (left new : Option (List ℕ)) → AnswersButLastBytes (Some input) left (Some held) new
    → (front last rest text : List ℕ) × (refused : Bool) × (left ≡ Some rest) × (input ≡ front ++ last ++ rest) × (length last ≤ 65536)
    × AnswersAll [] (whole_lines front) text refused × (new ≡ Some (held ++ text))
too_long input held left new (front, last, consumes, few, (text, refused, answers, appends)) =
    let (rest, is, divided) = lost input left (front ++ last) consumes in
    (front, last, rest, text, refused, is, divided, few, answers, grown held new text appends)

pub memory : (input rest held : List ℕ) (new : Option (List ℕ)) → WritesWholeReplies (Some input) (Some rest) (Some held) new
    → (lines others : List (List ℕ)) × (text : List ℕ) × (refused : Bool) × (lines_of input ≡ lines ++ others)
    × (length others ≤ length (lines_of rest) + 65537) × AnswersAll [] lines text refused × (new ≡ Some (held ++ text))
memory input rest held new (lines, others, text, refused, divided, few, answers, appends) =
    (lines, others, text, refused, divided, few, answers, grown held new text appends)
