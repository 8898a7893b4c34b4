-- Lists of words in a row, and the classes of their places.
use Rattle.std.proofs.Common.{◌≡◌, ℕ, suc, ◌+◌, ◌-◌, ◌<◌, ◌≤◌, if◌then◌else◌, ◌==◌, nat_lt, List, [], ◌∷◌, ◌++◌, length, take, drop, get_or, ap, ap₂, sym, ◌∙◌, inl, inr, arith, append-nil, length-append, take-append-drop, eq-eqb, ne_eqb, Vec}
use Rattle.std.specs.declared.alloc.Global.{Global}
use Rattle.std.proofs.lemmas.Bool.{cases_lt, lt-ltb, le-ltb}
use Rattle.std.proofs.lemmas.List.{map-append, drop_more, take_more}
use Rattle.std.proofs.lemmas.List.Concat.{flat_map-append}
use Rattle.ct_words.specs.Word.{distance}
use Rattle.ct_classes.specs.Partition.{word_lists, words_of_classes}
use Rattle.ct_partitions.specs.Check.{class_at, is_close}
use Rattle.ct_partitions.specs.Inside.Rows.{is_near}

-- the lists are those before a place, the one at it, and those after it
pub lists_split : (vs : List (Vec ℕ Global)) (k : ℕ) (v : Vec ℕ Global) → k < length vs
    → word_lists vs ≡ word_lists (take k vs) ++ (get_or vs k v).items ∷ word_lists (drop (k + 1) vs)
lists_split vs k v within =
    ap word_lists (sym (take-append-drop k vs)) ∙ map-append (λ c. c.items) (take k vs) (drop k vs)
    ∙ ap (λ rest. word_lists (take k vs) ++ word_lists rest) (drop_more vs k v within)

-- one list more
pub lists_more : (vs : List (Vec ℕ Global)) (k : ℕ) (v : Vec ℕ Global) → k < length vs
    → words_of_classes (word_lists (take (k + 1) vs)) ≡ words_of_classes (word_lists (take k vs)) ++ (get_or vs k v).items
lists_more vs k v within =
    ap (λ us. words_of_classes (word_lists us)) (take_more vs k v within)
    ∙ ap words_of_classes (map-append (λ c. c.items) (take k vs) (get_or vs k v ∷ []))
    ∙ flat_map-append (λ (c : List ℕ). c) (word_lists (take k vs)) ((get_or vs k v).items ∷ [])
    ∙ ap (λ ws. words_of_classes (word_lists (take k vs)) ++ ws) (append-nil (get_or vs k v).items)

-- the words up to the end of a class are no more than all
pub words_up_to : (vs : List (Vec ℕ Global)) (k : ℕ) (v : Vec ℕ Global) → k < length vs
    → length (words_of_classes (word_lists (take k vs))) + length (get_or vs k v).items ≤ length (words_of_classes (word_lists vs))
words_up_to vs k v within =
    let whole = ap (λ ls. length (words_of_classes ls)) (lists_split vs k v within) in
    let parts = ap length (flat_map-append (λ (c : List ℕ). c) (word_lists (take k vs)) ((get_or vs k v).items ∷ word_lists (drop
    (k + 1) vs))) in
    let first = length-append (words_of_classes (word_lists (take k vs))) ((get_or vs k v).items ++ words_of_classes (word_lists (drop (k + 1) vs))) in
    let second = length-append (get_or vs k v).items (words_of_classes (word_lists (drop (k + 1) vs))) in
    omega arith

-- a place after the words of some lists
pub class_at-after : (before rest : List (List ℕ)) (i : ℕ) → length (words_of_classes before) ≤ i
    → class_at (before ++ rest) i ≡ length before + class_at rest (i - length (words_of_classes before))
class_at-after [] rest i after = let plain : i - 0 ≡ i = omega arith in ap (class_at rest) (sym plain) ∙ omega arith
class_at-after (c ∷ cs) rest i after =
    let whole = length-append c (words_of_classes cs) in
    let past = le-ltb i (length c) (omega arith) in
    let back : i - length c - length (words_of_classes cs) ≡ i - length (c ++ words_of_classes cs) = omega arith in
    let later = class_at-after cs rest (i - length c) (omega arith) in
    ap (λ b. if b then 0 else suc (class_at (cs ++ rest) (i - length c))) past ∙ ap suc later
    ∙ ap (λ j. suc (length cs + class_at rest j)) back ∙ omega arith

-- two places, the first of which is in a class, are of one class where the second is before its end
pub same_class : (before after : List (List ℕ)) (c : List ℕ) (i j : ℕ) → length (words_of_classes before) ≤ i
    → i < length (words_of_classes before) + length c → i < j
    → (class_at (before ++ c ∷ after) i == class_at (before ++ c ∷ after) j) ≡ nat_lt j (length (words_of_classes before) + length c)
same_class before after c i j from inside order =
    let start = length (words_of_classes before) in
    let first : class_at (before ++ c ∷ after) i ≡ length before + 0 =
    class_at-after before (c ∷ after) i from
    ∙ ap (λ b. length before + (if b then 0 else suc (class_at after (i - start - length c)))) (lt-ltb (i - start) (length c)
    (omega arith)) in
    let second = class_at-after before (c ∷ after) j (omega arith) in
    elim (cases_lt j (start + length c)) [
      | inl within ↦
          let other : class_at (before ++ c ∷ after) j ≡ length before + 0 =
          second ∙ ap (λ b. length before + (if b then 0 else suc (class_at after (j - start - length c)))) (lt-ltb (j - start)
          (length c) (omega arith)) in
          eq-eqb _ _ (first ∙ sym other) ∙ sym (lt-ltb j (start + length c) within)
      | inr beyond ↦
          let other : class_at (before ++ c ∷ after) j ≡ length before + suc (class_at after (j - start - length c)) =
          second ∙ ap (λ b. length before + (if b then 0 else suc (class_at after (j - start - length c)))) (le-ltb (j - start)
          (length c) (omega arith)) in
          ne_eqb _ _ (λ e. omega arith) ∙ sym (le-ltb j (start + length c) beyond)
    ]

-- so whether they are too close is told by the end of the class
pub close_is_near : (d between : ℕ) (before after : List (List ℕ)) (c words : List ℕ) (i j : ℕ) → words ≡ words_of_classes (before ++ c ∷ after)
    → length (words_of_classes before) ≤ i → i < length (words_of_classes before) + length c → i < j
    → is_close 32 d between (before ++ c ∷ after) i j ≡ is_near words (length (words_of_classes before) + length c) d between i j
close_is_near d between before after c words i j are from inside order =
    ap₂ (λ (ws : List ℕ) b. nat_lt (distance 32 (get_or ws i 0) (get_or ws j 0)) (if b then d else between)) (sym are)
    (same_class before after c i j from inside order)

-- the same where the class is told by its place
pub row_same : (d between : ℕ) (vs : List (Vec ℕ Global)) (k : ℕ) (v : Vec ℕ Global) (words : List ℕ) → k < length vs
    → words ≡ words_of_classes (word_lists vs)
    → (i j : ℕ) → length (words_of_classes (word_lists (take k vs))) ≤ i
    → i < length (words_of_classes (word_lists (take k vs))) + length (get_or vs k v).items → i < j
    → is_close 32 d between (word_lists vs) i j
    ≡ is_near words (length (words_of_classes (word_lists (take k vs))) + length (get_or vs k v).items) d between i j
row_same d between vs k v words within are i j from inside order =
    ap (λ ls. is_close 32 d between ls i j) (lists_split vs k v within)
    ∙ close_is_near d between (word_lists (take k vs)) (word_lists (drop (k + 1) vs)) (get_or vs k v).items words i j
    (are ∙ ap words_of_classes (lists_split vs k v within)) from inside order
