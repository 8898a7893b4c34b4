-- Texts to whose ends others are put.
use Rattle.std.proofs.Common.{◌≡◌, ℕ, Bool, true, false, if◌then◌else◌, List, [], ◌++◌, append_assoc, append-nil, sym, ap, ◌∙◌}
use Rattle.ct_text.specs.Growing.{Grows}

-- a text that grew twice
pub Grows-trans : (a b c : List ℕ) → Grows a b → Grows b c → Grows a c
Grows-trans a b c (x, b-is) (y, c-is) = (x ++ y, c-is ∙ ap (λ l. l ++ y) b-is ∙ append_assoc a x y)

-- a text to which another is put, or nothing
pub Grows-if : (done : Bool) (text more new : List ℕ) → new ≡ (if done then text ++ more else text) → Grows text new
Grows-if true text more new is = (more, is)
Grows-if false text more new is = ([], is ∙ sym (append-nil text))

-- parts that are put one after the other
pub regroup-three : (text a b c : List ℕ) → ((text ++ a) ++ b) ++ c ≡ text ++ ((a ++ b) ++ c)
regroup-three text a b c = ap (λ l. l ++ c) (append_assoc text a b) ∙ append_assoc text (a ++ b) c

pub regroup-four : (text a b c d : List ℕ) → (((text ++ a) ++ b) ++ c) ++ d ≡ text ++ (((a ++ b) ++ c) ++ d)
regroup-four text a b c d = ap (λ l. l ++ d) (regroup-three text a b c) ∙ append_assoc text ((a ++ b) ++ c) d

-- what is put to a text part after part
pub puts-more : (text parts part old new : List ℕ) → old ≡ text ++ parts → new ≡ old ++ part → new ≡ text ++ (parts ++ part)
puts-more text parts part old new h i = i ∙ ap (λ l. l ++ part) h ∙ append_assoc text parts part

pub puts-three : (text a b c first second new : List ℕ) → first ≡ text ++ a → second ≡ first ++ b → new ≡ second ++ c → new ≡ text ++ ((a ++ b) ++ c)
puts-three text a b c first second new h i j = puts-more text (a ++ b) c second new (puts-more text a b first second h i) j

pub puts-four : (text a b c d first second third new : List ℕ) → first ≡ text ++ a → second ≡ first ++ b → third ≡ second ++ c → new ≡ third ++ d
    → new ≡ text ++ (((a ++ b) ++ c) ++ d)
puts-four text a b c d first second third new h i j k = puts-more text ((a ++ b) ++ c) d third new (puts-three text a b c first second third h i j) k

pub puts-five : (text a b c d e first second third fourth new : List ℕ) → first ≡ text ++ a → second ≡ first ++ b → third ≡ second ++ c → fourth ≡ third ++ d
    → new ≡ fourth ++ e → new ≡ text ++ ((((a ++ b) ++ c) ++ d) ++ e)
puts-five text a b c d e first second third fourth new h i j k l =
    puts-more text (((a ++ b) ++ c) ++ d) e fourth new (puts-four text a b c d first second third fourth h i j k) l

pub puts-six : (text a b c d e f first second third fourth fifth new : List ℕ) → first ≡ text ++ a → second ≡ first ++ b → third ≡ second ++ c → fourth ≡ third ++ d
    → fifth ≡ fourth ++ e → new ≡ fifth ++ f → new ≡ text ++ (((((a ++ b) ++ c) ++ d) ++ e) ++ f)
puts-six text a b c d e f first second third fourth fifth new h i j k l m =
    puts-more text ((((a ++ b) ++ c) ++ d) ++ e) f fifth new (puts-five text a b c d e first second third fourth fifth h i j k l) m

-- a text that grew, and stays where nothing more is put
pub Grows-stays : (a b c : List ℕ) → Grows a b → c ≡ b → Grows a c
Grows-stays a b c (x, b-is) is = (x, is ∙ b-is)
