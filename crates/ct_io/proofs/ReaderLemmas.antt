-- What a call of a line reader does to the input.
use Rattle.std.proofs.Common.{◌≡◌, ◌≢◌, ℕ, ◌+◌, ◌<◌, ◌≤◌, List, [], ◌∷◌, ◌++◌, Option, Some, None, Ok, Err, Vec, inl, inr, refl, ap, length, length-append, arith}
use Rattle.std.specs.declared.alloc.Global.{Global}
use Rattle.ct_text.specs.declared.document_lines.TheConstants.{LINE_FEED}
use Rattle.ct_io.specs.Lines.{IsNextLine}
use Rattle.ct_io.specs.Reader.{Reader, Answer, IfLine, LosesLine, LosesFirstLine, Takes, fresh_reader, input_of}
use Rattle.ct_io.proofs.LinesLemmas.{lines_of-from_next}

-- before the first call all of the input is with the source
pub input_of-fresh : (left : Option (List ℕ)) → input_of fresh_reader left ≡ left
input_of-fresh None = refl
input_of-fresh (Some bytes) = refl

-- what loses its next line loses the first of its lines
pub LosesFirstLine-from_line : (before after : Option (List ℕ)) (line : List ℕ) → LosesLine before after line → LosesFirstLine before after line
LosesFirstLine-from_line None after line h = tt
LosesFirstLine-from_line (Some before) None line h = absurd h
LosesFirstLine-from_line (Some before) (Some after) line h = lines_of-from_next before line after h

pub IfLine-first : (answer : Answer) (before after : Option (List ℕ)) → IfLine answer (LosesLine before after) → IfLine answer (LosesFirstLine before after)
IfLine-first (Ok (Some line)) before after h = LosesFirstLine-from_line before after line.items h
IfLine-first (Ok None) before after h = tt
IfLine-first (Err fault) before after h = tt

-- a source that tells its bytes loses as many as are counted
pub Takes-left : (old new : Reader) (before after : List ℕ) (answer : Answer) → Takes old new (Some before) (Some after) answer → new.taken + length after ≡ old.taken + length before
Takes-left old new before after answer h =
    omega (arith, h.2, ap length h.1, length-append h.0 after)

-- a source that tells its bytes goes on to tell them
pub Takes-tells : (old new : Reader) (before : List ℕ) (answer : Answer) → Takes old new (Some before) None answer → ⊥
Takes-tells old new before answer h = h.1

-- the next line leaves less
pub IsNextLine-less : (before line after : List ℕ) → IsNextLine before line after → length after < length before
IsNextLine-less before line after h =
    elim h.1 [
      | inl e ↦ omega (arith, ap length e, length-append line (LINE_FEED ∷ after))
      | inr e ↦ some_bytes before line after e.0 e.1 e.2
    ]
  where
    some_bytes : (before line after : List ℕ) → before ≡ line → line ≢ [] → after ≡ [] → length after < length before
    some_bytes before [] after e some none = absurd (some refl)
    some_bytes before (b ∷ line) after e some none = omega (arith, ap length e, ap length none)

-- with each line more of the bytes that were taken are given out
pub Takes-line : (old new : Reader) (before after : Option (List ℕ)) (line : Vec ℕ Global) → Takes old new before after (Ok (Some line))
    → old.taken + length new.held < new.taken + length old.held
Takes-line old new before after line h =
    omega (arith, h.2, length-append old.held h.0, IsNextLine-less (old.held ++ h.0) line.items new.held h.3.0)

-- no more bytes are held than were taken
pub Takes-within : (old new : Reader) (before after : Option (List ℕ)) (answer : Answer) → Takes old new before after answer → length old.held ≤ old.taken → length new.held ≤ new.taken
Takes-within old new before after (Ok (Some line)) h within =
    omega (arith, h.2, length-append old.held h.0, IsNextLine-less (old.held ++ h.0) line.items new.held h.3.0)
Takes-within old new before after (Ok None) h within = omega (arith, ap length h.3.1)
Takes-within old new before after (Err fault) h within = omega (arith, h.2, ap length h.3, length-append old.held h.0)
