-- How an id lies in its bytes: the text, and zeros after it.
use Rattle.std.specs.Prelude.{◌≡◌, ℕ, ◌-◌, ◌≤◌, List, ◌++◌, length, take, drop, replicate, IsTrue}
use Rattle.std.proofs.Common.{sym, ap, ◌∙◌, arith, length-take}
use Rattle.std.proofs.lemmas.List.{take-append-drop}
use Rattle.ct_names.specs.declared.id.Id.TheInside.{Inside}
use Rattle.ct_names.specs.declared.id.TheConstants.{MAX_ID}
use Rattle.ct_names.specs.Id.{is_id}

-- the text of an id
abbrev pub text_of : Inside → List ℕ
text_of a = take a.len a.bytes

-- the text is an id, and the bytes after it are zeros
pub record IsKept (a : Inside) : Type 0 where
  pub short : a.len ≤ MAX_ID
  pub long : length a.bytes ≡ MAX_ID
  pub padded : drop a.len a.bytes ≡ replicate (MAX_ID - a.len) 0
  pub named : IsTrue (is_id (text_of a))

-- the bytes that hold a text
abbrev pub kept_of : List ℕ → Inside
kept_of text = record { bytes = text ++ replicate (MAX_ID - length text) 0; len = length text }

length_is : (a : Inside) → IsKept a → length (text_of a) ≡ a.len
length_is a h = length-take a.len a.bytes ∙ omega (arith, h.short, h.long)

bytes_are : (a : Inside) → IsKept a → text_of a ++ replicate (MAX_ID - length (text_of a)) 0 ≡ a.bytes
bytes_are a h = ap (λ (n : ℕ). text_of a ++ replicate (MAX_ID - n) 0) (length_is a h) ∙ ap (λ (r : List ℕ). text_of a ++ r) (sym h.padded) ∙ take-append-drop a.len a.bytes

-- the text gives the bytes back
pub kept_again : (a : Inside) → IsKept a → kept_of (text_of a) ≡ a
kept_again a h = λ i. record { bytes = bytes_are a h i; len = length_is a h i }
