-- The texts of dumps and codes, part by part.
use Rattle.std.proofs.Common.{Some, None, ◌≡◌, ℕ, ◌+◌, List, [], ◌∷◌, ◌++◌, length, take, drop, sym, ap, ◌∙◌, append_assoc, append-nil}
use Rattle.std.specs.Prelude.{codes}
use Rattle.std.specs.Fmt.{decimal}
use Rattle.std.specs.List.{flat_map}
use Rattle.std.proofs.lemmas.Grind.{flat_map-append}
use Rattle.std.proofs.Math.Seq.{take-add}
use Rattle.std.proofs.lemmas.List.{take-append-drop}
use Rattle.ct_words.specs.Code.{CodeValue}
use Rattle.ct_text.specs.EntryText.{weight_word}
use Rattle.ct_piece.specs.Piece.{PieceValue}
use Rattle.ct_piece.specs.Dump.{piece_dump, dump_text}
use Rattle.ct_rule_codes.specs.CodeEntry.{entry_of_code}
use Rattle.ct_replies.specs.Text.{code_heading}

-- ---- the dump

-- the comment before so many submissions
abbrev pub comment_of : ℕ → List ℕ
comment_of n = codes "# dump of " ++ (decimal n ++ codes " pieces\n")

-- a dump is its comment, and the submissions after it
pub dump_is : (pieces : List PieceValue) → comment_of (length pieces) ++ flat_map piece_dump pieces ≡ dump_text pieces
dump_is pieces = ap (λ (t : List ℕ). codes "# dump of " ++ (t ++ flat_map piece_dump pieces)) (sym (append_assoc (decimal (length pieces)) (codes " pieces") (10 ∷ [])))

-- ---- a code

-- the parts of the line before the words of a code, one after the other: without a weight, and with it
plain_spelled : (n d s : List ℕ) → n ++ (32 ∷ (d ++ (codes " size " ++ (s ++ (10 ∷ []))))) ≡ ((((n ++ (32 ∷ d)) ++ []) ++ codes " size ") ++ s) ++ (10 ∷ [])
plain_spelled n d s =
    sym
    (append_assoc (((n ++ (32 ∷ d)) ++ []) ++ codes " size ") s (10 ∷ [])
    ∙ append_assoc ((n ++ (32 ∷ d)) ++ []) (codes " size ") (s ++ (10 ∷ []))
    ∙ ap (λ (t : List ℕ). t ++ (codes " size " ++ (s ++ (10 ∷ [])))) (append-nil (n ++ (32 ∷ d)))
    ∙ append_assoc n (32 ∷ d) (codes " size " ++ (s ++ (10 ∷ []))))

weight_spelled : (n d w s : List ℕ) → n ++ (32 ∷ (d ++ (32 ∷ (w ++ (codes " size " ++ (s ++ (10 ∷ []))))))) ≡ ((((n ++ (32 ∷ d)) ++ (32 ∷ w)) ++ codes " size ") ++ s) ++ (10 ∷ [])
weight_spelled n d w s =
    sym
    (append_assoc (((n ++ (32 ∷ d)) ++ (32 ∷ w)) ++ codes " size ") s (10 ∷ [])
    ∙ append_assoc ((n ++ (32 ∷ d)) ++ (32 ∷ w)) (codes " size ") (s ++ (10 ∷ []))
    ∙ append_assoc (n ++ (32 ∷ d)) (32 ∷ w) (codes " size " ++ (s ++ (10 ∷ [])))
    ∙ append_assoc n (32 ∷ d) ((32 ∷ w) ++ (codes " size " ++ (s ++ (10 ∷ [])))))

-- they are the line
heading_from : List ℕ → List ℕ → List ℕ → List ℕ → List ℕ
heading_from n d w s = codes "code " ++ (((((n ++ (32 ∷ d)) ++ w) ++ codes " size ") ++ s) ++ (10 ∷ []))

heading_is : (c : CodeValue) (n d w s : List ℕ) → n ≡ decimal c.n → d ≡ decimal c.d → w ≡ weight_word c.w → s ≡ decimal (length c.words) → heading_from n d w s ≡ code_heading (entry_of_code c) (length c.words)
unfolding heading_from
heading_is c n d w s is_n is_d is_w is_s =
    ap (λ (t : List ℕ). heading_from t d w s) is_n ∙ ap (λ (t : List ℕ). heading_from (decimal c.n) t w s) is_d
    ∙ ap (λ (t : List ℕ). heading_from (decimal c.n) (decimal c.d) t s) is_w ∙ ap (λ (t : List ℕ). heading_from (decimal c.n) (decimal c.d) (weight_word c.w) t) is_s

pub plain_heading : (c : CodeValue) (n d s : List ℕ) → n ≡ decimal c.n → d ≡ decimal c.d → None ≡ c.w → s ≡ decimal (length c.words)
    → codes "code " ++ (n ++ (32 ∷ (d ++ (codes " size " ++ (s ++ (10 ∷ [])))))) ≡ code_heading (entry_of_code c) (length c.words)
unfolding heading_from
plain_heading c n d s is_n is_d is_w is_s = ap (λ (t : List ℕ). codes "code " ++ t) (plain_spelled n d s) ∙ heading_is c n d [] s is_n is_d (ap weight_word is_w) is_s

pub weight_heading : (c : CodeValue) (n d s : List ℕ) (w : ℕ) (digits : List ℕ) → n ≡ decimal c.n → d ≡ decimal c.d → Some w ≡ c.w → digits ≡ decimal w → s ≡ decimal (length c.words)
    → codes "code " ++ (n ++ (32 ∷ (d ++ (32 ∷ (digits ++ (codes " size " ++ (s ++ (10 ∷ [])))))))) ≡ code_heading (entry_of_code c) (length c.words)
unfolding heading_from
weight_heading c n d s w digits is_n is_d is_w is_digits is_s =
    ap (λ (t : List ℕ). codes "code " ++ t) (weight_spelled n d digits s) ∙ heading_is c n d (32 ∷ digits) s is_n is_d (ap (λ (t : List ℕ). 32 ∷ t) is_digits ∙ ap weight_word is_w) is_s

-- the texts of so many items more, and the texts of all items
pub some_more : {X : Type 0} (f : X → List ℕ) (xs : List X) (a k : ℕ) → flat_map f (take a xs) ++ flat_map f (take k (drop a xs)) ≡ flat_map f (take (a + k) xs)
some_more {X} f xs a k = sym (flat_map-append f (take a xs) (take k (drop a xs))) ∙ ap (λ (ys : List X). flat_map f ys) (sym (take-add a k xs))

pub some_all : {X : Type 0} (f : X → List ℕ) (xs : List X) (a k : ℕ)
    → flat_map f xs ≡ flat_map f (take a xs) ++ (flat_map f (take k (drop a xs)) ++ flat_map f (drop k (drop a xs)))
some_all {X} f xs a k =
    ap (λ (ys : List X). flat_map f ys) (sym (take-append-drop a xs)) ∙ flat_map-append f (take a xs) (drop a xs)
    ∙ ap (λ (t : List ℕ). flat_map f (take a xs) ++ t)
    (ap (λ (ys : List X). flat_map f ys) (sym (take-append-drop k (drop a xs))) ∙ flat_map-append f (take k (drop a xs)) (drop k (drop a xs)))
