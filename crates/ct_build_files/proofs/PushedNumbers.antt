-- Lists of numbers that are put together one by one.
use Rattle.std.proofs.Common.{◌≡◌, ℕ, ◌+◌, ◌-◌, ◌<◌, ◌≤◌, ◌≢◌, true, false, ◌&&◌, ◌==◌, List, [], ◌∷◌, ◌++◌, length, map, drop, get_or, Some, None, append-nil, append_assoc, refl, sym, ap, ◌∙◌, eq-eqb}
use Rattle.std.specs.List.{list_all}
use Rattle.std.proofs.lemmas.Bool.{and_left, and_right, or_from, ne_eqb}
use Rattle.std.proofs.lemmas.List.{drop_all, drop_more}
use Rattle.ct_words.specs.Text.{is_binary_digit}
use Rattle.ct_build_files.specs.BuildFields.{digits_of}

-- one number more, made of the item at i
pub number_pushed : (g : ℕ → ℕ) (xs new : List ℕ) (x : ℕ) (ys : List ℕ) (i : ℕ) → i < length ys → x ≡ g (get_or ys i 0) → new ≡ xs ++ x ∷ []
    → xs ++ map g (drop i ys) ≡ map g ys
    → new ++ map g (drop (i + 1) ys) ≡ map g ys
number_pushed g xs new x ys i below same is before =
    ap (λ l. l ++ map g (drop (i + 1) ys)) is
    ∙ append_assoc xs (x ∷ []) (map g (drop (i + 1) ys))
    ∙ ap (λ n. xs ++ n ∷ map g (drop (i + 1) ys)) same
    ∙ ap (λ l. xs ++ map g l) (sym (drop_more ys i 0 below))
    ∙ before

-- the numbers made of all items, once none is left
pub all_numbers_pushed : (g : ℕ → ℕ) (xs ys : List ℕ) (i : ℕ) → length ys ≤ i → xs ++ map g (drop i ys) ≡ map g ys → xs ≡ map g ys
all_numbers_pushed g xs ys i past before = sym (append-nil xs) ∙ ap (λ l. xs ++ map g l) (sym (drop_all i ys past)) ∙ before

-- a digit more that is binary
pub digits_seen : (text : List ℕ) (i : ℕ) → i < length text → is_binary_digit (get_or text i 0) ≡ true
    → list_all is_binary_digit (drop i text) ≡ list_all is_binary_digit text
    → list_all is_binary_digit (drop (i + 1) text) ≡ list_all is_binary_digit text
digits_seen text i below is before =
    ap (λ b. b && list_all is_binary_digit (drop (i + 1) text)) (sym is) ∙ ap (list_all is_binary_digit) (sym (drop_more text i 0 below)) ∙ before

-- one that isn't
pub no_digits_seen : (count : ℕ) (text : List ℕ) (i : ℕ) → i < length text → get_or text i 0 ≢ 48 → get_or text i 0 ≢ 49
    → list_all is_binary_digit (drop i text) ≡ list_all is_binary_digit text
    → None ≡ digits_of count text
unfolding digits_of
no_digits_seen count text i below nought one before =
    let is = or_from (get_or text i 0 == 48) (get_or text i 0 == 49) (ne_eqb (get_or text i 0) 48 nought) (ne_eqb (get_or text i 0) 49 one) in
    let never : list_all is_binary_digit text ≡ false =
    sym before ∙ ap (list_all is_binary_digit) (drop_more text i 0 below) ∙ ap (λ b. b && list_all is_binary_digit (drop (i + 1) text)) is in
    rw (and_right (length text == count) (list_all is_binary_digit text) never) refl

-- a text of another length
pub no_such_length : (count : ℕ) (text : List ℕ) → length text ≢ count → None ≡ digits_of count text
unfolding digits_of
no_such_length count text other = rw (and_left (length text == count) (list_all is_binary_digit text) (ne_eqb (length text) count other)) refl

-- the digits that are read, once all are seen
pub all_digits_seen : (count : ℕ) (text digits : List ℕ) (i : ℕ) → length text ≡ count → length text ≤ i
    → list_all is_binary_digit (drop i text) ≡ list_all is_binary_digit text
    → digits ≡ map (λ (b : ℕ). b - 48) text
    → Some digits ≡ digits_of count text
unfolding digits_of
all_digits_seen count text digits i long past before are =
    let binary : list_all is_binary_digit text ≡ true = sym before ∙ ap (list_all is_binary_digit) (drop_all i text past) in
    rw (eq-eqb (length text) count long, binary) (ap Some are)
