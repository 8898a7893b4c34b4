-- Lists that are read item by item: what was read with what is read of the rest is what is read of all.
use Rattle.std.proofs.Common.{◌≡◌, ℕ, suc, ◌+◌, ◌<◌, ◌≤◌, Bool, true, false, List, [], ◌∷◌, ◌++◌, length, drop, get_or, option_map, Option, Some, None, is_some, Result, Ok, Err, ok_or, append_assoc, append-nil, refl, sym, ap, ◌∙◌, arith}
use Rattle.std.specs.Borrow.{Bor}
use Rattle.std.specs.Option.{option_and_then}
use Rattle.std.proofs.lemmas.Bool.{false≢true}
use Rattle.std.proofs.lemmas.Option.{option_and_then_some}
use Rattle.std.proofs.lemmas.List.{drop_all, drop_more}
use Rattle.toml.specs.Data.{Data, Items, no_items, item, as_str}
use Rattle.toml.specs.View.{view, items_view}
use Rattle.toml.specs.declared.value.Value.{Value}
use Rattle.ct_words.specs.Text.{word_of}
use Rattle.ct_fields.specs.Steps.{◌>>=◌}
use Rattle.ct_fields.specs.Reads.{texts_behind}
use Rattle.ct_fields.specs.Fields.{texts_of, words_from}
use Rattle.ct_fields.specs.Forms.{all_of}
use Rattle.ct_fields.specs.declared.fault.DocumentFault.{DocumentFault}
use Rattle.ct_fields.specs.declared.fault.DocumentFault.TheVariants.{Digits}

-- what was read, and what is read of the rest
abbrev pub read_on : {A : Type 0} → List A → Option (List A) → Option (List A)
read_on xs rest = option_map (λ ys. xs ++ ys) rest

-- the same of words
abbrev pub words_on : List ℕ → Result (List ℕ) DocumentFault → Result (List ℕ) DocumentFault
words_on xs rest = rest >>= (λ ys. Ok (xs ++ ys))

-- nothing was read yet
pub read_on-nil : {A : Type 0} (rest : Option (List A)) → read_on [] rest ≡ rest
read_on-nil None = refl
read_on-nil (Some ys) = refl

-- so what is read of the rest is read of all
pub all_of-begin : {A : Type 0} (form : Data → Option A) (vs : List Value) (xs : List A) → xs ≡ []
    → read_on xs (all_of form (items_view (drop 0 vs))) ≡ all_of form (items_view vs)
all_of-begin form vs xs none = ap (λ l. read_on l (all_of form (items_view vs))) none ∙ read_on-nil (all_of form (items_view vs))

-- one item more
read_on-one : {A : Type 0} (xs : List A) (x : A) (rest : Option (List A))
    → read_on (xs ++ x ∷ []) rest ≡ read_on xs (option_and_then (λ ys. Some (x ∷ ys)) rest)
read_on-one xs x None = refl
read_on-one xs x (Some ys) = ap (λ l. Some l) (append_assoc xs (x ∷ []) ys)

-- the values that are left, with the next one
next_item : (vs : List Value) (i : ℕ) (v : Value) → i < length vs → v ≡ get_or vs i v → items_view (drop i vs) ≡ item (view v) (items_view (drop (i + 1) vs))
next_item vs i v below is = ap items_view (drop_more vs i v below) ∙ ap (λ w. item (view w) (items_view (drop (i + 1) vs))) (sym is)

module _ {A : Type 0} (form : Data → Option A) (vs : List Value) (i : ℕ) (xs : List A) (all : Option (List A))
    (before : read_on xs (all_of form (items_view (drop i vs))) ≡ all) where
  -- the next value has the form
  pub all_of-more : (v : Value) (x : A) (new : List A) → i < length vs → v ≡ get_or vs i v → form (view v) ≡ Some x → new ≡ xs ++ x ∷ []
      → read_on new (all_of form (items_view (drop (i + 1) vs))) ≡ all
  all_of-more v x new below is read new-is =
      let rest = all_of form (items_view (drop (i + 1) vs)) in
      ap (λ l. read_on l rest) new-is
      ∙ read_on-one xs x rest
      ∙ ap (λ o. read_on xs (option_and_then (λ y. option_and_then (λ ys. Some (y ∷ ys)) rest) o)) (sym read)
      ∙ ap (λ ds. read_on xs (all_of form ds)) (sym (next_item vs i v below is))
      ∙ before

  -- the next value has not the form
  pub all_of-none : (v : Value) → i < length vs → v ≡ get_or vs i v → form (view v) ≡ None → None ≡ all
  all_of-none v below is none =
      let rest = all_of form (items_view (drop (i + 1) vs)) in
      ap (λ o. read_on xs (option_and_then (λ y. option_and_then (λ ys. Some (y ∷ ys)) rest) o)) (sym none)
      ∙ ap (λ ds. read_on xs (all_of form ds)) (sym (next_item vs i v below is))
      ∙ before

  -- no value is left
  pub all_of-end : length vs ≤ i → Some xs ≡ all
  all_of-end past =
      ap (λ l. Some l) (sym (append-nil xs)) ∙ ap (λ l. read_on xs (all_of form (items_view l))) (sym (drop_all i vs past)) ∙ before

-- whether the first value has the form and those after it, where the first one has it, and where it has it not
has-more : {A : Type 0} (o : Option A) (rest : Option (List A)) → is_some o ≡ true
    → is_some rest ≡ is_some (option_and_then (λ y. option_and_then (λ ys. Some (y ∷ ys)) rest) o)
has-more None rest has = absurd (false≢true has)
has-more (Some x) None has = refl
has-more (Some x) (Some xs) has = refl

has-none : {A : Type 0} (o : Option A) (rest : Option (List A)) → is_some o ≡ false
    → false ≡ is_some (option_and_then (λ y. option_and_then (λ ys. Some (y ∷ ys)) rest) o)
has-none None rest none = refl
has-none (Some x) rest none = absurd (false≢true (sym none))

module _ {A : Type 0} (form : Data → Option A) (vs : List Value) (i : ℕ) (all : Bool)
    (before : is_some (all_of form (items_view (drop i vs))) ≡ all) where
  -- whether all values have the form, where the next value has it
  pub all_have-more : (v : Value) → i < length vs → v ≡ get_or vs i v → is_some (form (view v)) ≡ true
      → is_some (all_of form (items_view (drop (i + 1) vs))) ≡ all
  all_have-more v below is has =
      has-more (form (view v)) (all_of form (items_view (drop (i + 1) vs))) has
      ∙ ap (λ ds. is_some (all_of form ds)) (sym (next_item vs i v below is))
      ∙ before

  -- where it has it not
  pub all_have-none : (v : Value) → i < length vs → v ≡ get_or vs i v → is_some (form (view v)) ≡ false → false ≡ all
  all_have-none v below is none =
      has-none (form (view v)) (all_of form (items_view (drop (i + 1) vs))) none
      ∙ ap (λ ds. is_some (all_of form ds)) (sym (next_item vs i v below is))
      ∙ before

  -- and where no value is left
  pub all_have-end : length vs ≤ i → true ≡ all
  all_have-end past = ap (λ l. is_some (all_of form (items_view l))) (sym (drop_all i vs past)) ∙ before

-- what is read is as much as there are values
pub all_of-length : {A : Type 0} (form : Data → Option A) (vs : List Value) (xs : List A) → all_of form (items_view vs) ≡ Some xs → length xs ≡ length vs
all_of-length form [] xs e = let same : [] ≡ xs = cc in ap length (sym same)
all_of-length form (v ∷ vs) xs e =
    option_and_then_some _ (form (view v)) xs e (λ x x-is next.
    option_and_then_some _ (all_of form (items_view vs)) xs next (λ more more-are last.
    let same : x ∷ more ≡ xs = cc in
    ap length (sym same) ∙ ap suc (all_of-length form vs more more-are)))

-- texts are what has the form of a text
pub texts_of-all : (ds : Items) → all_of as_str ds ≡ texts_of ds
texts_of-all no_items = refl
texts_of-all (item d ds) = ap (λ o. option_and_then (λ text. option_and_then (λ texts. Some (text ∷ texts)) o) (as_str d)) (texts_of-all ds)

-- no word was read yet
words_on-nil : (rest : Result (List ℕ) DocumentFault) → words_on [] rest ≡ rest
words_on-nil (Err fault) = refl
words_on-nil (Ok ys) = refl

pub words_from-begin : (n place : ℕ) (texts : List (Bor (List ℕ))) (words : List ℕ) → words ≡ []
    → words_on words (words_from n (place + 0) (texts_behind (drop 0 texts))) ≡ words_from n place (texts_behind texts)
words_from-begin n place texts words none =
    let all = words_from n place (texts_behind texts) in
    let first : place + 0 ≡ place = omega arith in
    ap (λ p. words_on words (words_from n p (texts_behind texts))) first ∙ ap (λ l. words_on l all) none ∙ words_on-nil all

-- one word more
words_on-one : (xs : List ℕ) (x : ℕ) (rest : Result (List ℕ) DocumentFault) → words_on (xs ++ x ∷ []) rest ≡ words_on xs (rest >>= (λ ys. Ok (x ∷ ys)))
words_on-one xs x (Err fault) = refl
words_on-one xs x (Ok ys) = ap (λ l. Ok l) (append_assoc xs (x ∷ []) ys)

module _ (n place : ℕ) (texts : List (Bor (List ℕ))) (i : ℕ) (words : List ℕ) (all : Result (List ℕ) DocumentFault)
    (before : words_on words (words_from n (place + i) (texts_behind (drop i texts))) ≡ all) (d : Bor (List ℕ)) (text : List ℕ)
    (below : i < length texts) (text-is : text ≡ (get_or texts i d).now) where
  -- the words of the texts that are left, with the next text
  next_text : words_on words (words_from n (place + i) (text ∷ texts_behind (drop (i + 1) texts))) ≡ all
  next_text =
      ap (λ t. words_on words (words_from n (place + i) (t ∷ texts_behind (drop (i + 1) texts)))) text-is
      ∙ ap (λ ts. words_on words (words_from n (place + i) (texts_behind ts))) (sym (drop_more texts i d below))
      ∙ before

  -- the next text is that of a word
  pub words_from-more : (x : ℕ) (new : List ℕ) → Some x ≡ word_of n text → new ≡ words ++ x ∷ []
      → words_on new (words_from n (place + (i + 1)) (texts_behind (drop (i + 1) texts))) ≡ all
  words_from-more x new read new-is =
      let rest = texts_behind (drop (i + 1) texts) in
      let next : place + (i + 1) ≡ suc (place + i) = omega arith in
      ap (λ l. words_on l (words_from n (place + (i + 1)) rest)) new-is
      ∙ ap (λ p. words_on (words ++ x ∷ []) (words_from n p rest)) next
      ∙ words_on-one words x (words_from n (suc (place + i)) rest)
      ∙ ap (λ o. words_on words (ok_or o (Digits (place + i)) >>= (λ y. words_from n (suc (place + i)) rest >>= (λ ys. Ok (y ∷ ys))))) read
      ∙ next_text

  -- the next text is that of no word
  pub words_from-none : None ≡ word_of n text → all ≡ Err (Digits (place + i))
  words_from-none none =
      let rest = texts_behind (drop (i + 1) texts) in
      sym next_text
      ∙ ap (λ o. words_on words (ok_or o (Digits (place + i)) >>= (λ y. words_from n (suc (place + i)) rest >>= (λ ys. Ok (y ∷ ys))))) (sym none)

-- no text is left
pub words_from-end : (n place : ℕ) (texts : List (Bor (List ℕ))) (i : ℕ) (words : List ℕ) (all : Result (List ℕ) DocumentFault)
    → words_on words (words_from n (place + i) (texts_behind (drop i texts))) ≡ all → length texts ≤ i → all ≡ Ok words
words_from-end n place texts i words all before past =
    sym before ∙ ap (λ ts. words_on words (words_from n (place + i) (texts_behind ts))) (drop_all i texts past) ∙ ap (λ l. Ok l) (append-nil words)
