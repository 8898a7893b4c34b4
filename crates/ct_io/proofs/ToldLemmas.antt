-- What a sink tells of its bytes after a write.
use Rattle.std.proofs.Common.{◌≡◌, ◌∷◌, ◌++◌, Some, refl, append-nil, length-append, ◌≢◌, ℕ, ◌<◌, List, [], Option, sym, ap, length, take, drop, take-append-drop, length-drop, arith}
use Rattle.std.specs.Io.KnownBytes.{Appends}
use Rattle.ct_io.specs.Told.{AppendsPrefix, AppendsProperPrefix}

-- bytes past the first n are left
drop_some : (bytes : List ℕ) (n : ℕ) → n < length bytes → drop n bytes ≢ []
drop_some bytes n some = λ none. let gone = ap length none in let left = length-drop n bytes in omega arith

-- the first n bytes of more were written
pub AppendsProperPrefix-from_take : (old new : Option (List ℕ)) (bytes : List ℕ) (n : ℕ) → n < length bytes → Appends old new (take n bytes) → AppendsProperPrefix old new bytes
AppendsProperPrefix-from_take old new bytes n some written = (take n bytes, drop n bytes, sym (take-append-drop n bytes), drop_some bytes n some, written)

-- all of the text is a prefix of it, and nothing is
pub AppendsPrefix-all : (held text : List ℕ) → AppendsPrefix (Some held) (Some (held ++ text)) text
AppendsPrefix-all held text = (text, [], sym (append-nil text), refl)

pub AppendsPrefix-nothing : (held text : List ℕ) → AppendsPrefix (Some held) (Some held) text
AppendsPrefix-nothing held text = ([], text, refl, sym (append-nil held))

-- where a list that isn't empty is left, not all was written
shorter : (old new front back text : List ℕ) → text ≡ front ++ back → back ≢ [] → new ≡ old ++ front → new ≢ old ++ text
shorter old new front [] text whole some written all = absurd (some refl)
shorter old new front (b ∷ back) text whole some written all =
    omega (arith, ap length whole, ap length written, ap length all, length-append front (b ∷ back), length-append old front, length-append old text)

pub not_all_written : (old new text : List ℕ) → AppendsProperPrefix (Some old) (Some new) text → new ≢ old ++ text
not_all_written old new text h = shorter old new h.0 h.1 text h.2 h.3 h.4

-- a proper prefix is a prefix
pub AppendsPrefix-from_proper : (old new : Option (List ℕ)) (text : List ℕ) → AppendsProperPrefix old new text → AppendsPrefix old new text
AppendsPrefix-from_proper old new text h = (h.0, h.1, h.2, h.4)
