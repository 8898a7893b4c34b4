-- The ids of proposals.
use Rattle.ct_find.specs.Inside.Texts.{weight_part}
use Rattle.std.proofs.Common.{◌≡◌, ◌∙◌, ℕ, ◌+◌, ◌%◌, ◌^◌, ◌<◌, ◌≤◌, Bool, true, false, List, [], ◌∷◌, ◌++◌, codes, length, length-append, append_assoc, append-nil, Option, Some, None, IfSome, refl, sym, ap, ap₂, arith, lit<, nat_le, le-leb}
use Rattle.std.specs.Prelude.{◌&&◌, ◌==◌, All}
use Rattle.std.specs.List.{list_all, slice_split}
use Rattle.std.specs.Char.{is_ascii_lowercase}
use Rattle.std.specs.Fmt.{decimal}
use Rattle.std.proofs.lemmas.Bool.{and_parts, and_from, ne_eqb}
use Rattle.std.proofs.lemmas.Bool.Decides.{nat_tests}
use Rattle.std.proofs.lemmas.Fmt.{decimal_by_steps, decimal_injective, length-decimal-le}
use Rattle.std.proofs.lemmas.List.Elements.{All-cons, All-nil, All-push, All-weaker}
use Rattle.std.proofs.lemmas.List.Folds.{list_all-append}
use Rattle.std.proofs.lemmas.List.Splits.{slice_split_none, slice_split_at}
use Rattle.std.proofs.lemmas.List.Sums.{list_all-from_AllPass}
use Rattle.ct_words.specs.declared.limits.TheConstants.{MAX_N}
use Rattle.ct_words.specs.declared.entry.Entry.{Entry}
use Rattle.ct_words.specs.Entry.{IsEntry}
use Rattle.ct_words.proofs.EntryLemmas.{WeightFits, entry_limits}
use Rattle.ct_names.specs.Id.{is_id, is_id_byte}
use Rattle.ct_names.specs.declared.id.TheConstants.{MAX_ID}
use Rattle.ct_find.specs.Proposal.{find_id}

-- the bytes are those of digits
abbrev AreDigits : List ℕ → Type 0
AreDigits bytes = All (λ b. (47 < b) × (b < 58)) bytes

digits : (n : ℕ) → n < 2 ^ 64 → AreDigits (decimal n)
digits n small =
    let P : ℕ → Type 0 = λ (b : ℕ). (47 < b) × (b < 58) in
    decimal_by_steps (λ (m : ℕ) (ds : List ℕ). AreDigits ds) (λ m below. All-cons P (48 + m) [] (omega arith, omega arith) (All-nil P))
    (λ m ds above h. All-push P ds (48 + m % 10) h (omega arith, omega arith)) n small

id_digit : (b : ℕ) → (47 < b) × (b < 58) → is_id_byte b ≡ true
id_digit b h = let low = h.0 in let high = h.1 in grind (arith, nat_tests)

named_digits : (n : ℕ) → n < 2 ^ 64 → list_all is_id_byte (decimal n) ≡ true
named_digits n small = list_all-from_AllPass is_id_byte (decimal n) (All-weaker (λ b. (47 < b) × (b < 58)) (λ b. is_id_byte b ≡ true) id_digit (decimal n) (digits n small))

joined : (xs ys : List ℕ) → list_all is_id_byte xs ≡ true → list_all is_id_byte ys ≡ true → list_all is_id_byte (xs ++ ys) ≡ true
joined xs ys first second = list_all-append is_id_byte xs ys ∙ ap₂ (λ (a b : Bool). a && b) first second

-- an id of bytes that are those of one, with a letter first
named_by : (b : ℕ) (bs : List ℕ) → length (b ∷ bs) ≤ MAX_ID → is_ascii_lowercase b ≡ true → list_all is_id_byte (b ∷ bs) ≡ true → is_id (b ∷ bs) ≡ true
named_by b bs short letter all =
    and_from (nat_le (length (b ∷ bs)) MAX_ID && is_ascii_lowercase b) (list_all is_id_byte bs)
    (and_from (nat_le (length (b ∷ bs)) MAX_ID) (is_ascii_lowercase b) (le-leb (length (b ∷ bs)) MAX_ID short) letter)
    (and_parts (is_id_byte b) (list_all is_id_byte bs) all).1

short_decimal : (n : ℕ) → n ≤ MAX_N → length (decimal n) ≤ 2
short_decimal n small = length-decimal-le 2 n (lit< tt) (omega arith) (omega arith)

weight_named : (e : Entry) (w : Option ℕ) → e.n ≤ MAX_N → WeightFits e w → (list_all is_id_byte (weight_part w) ≡ true) × (length (weight_part w) ≤ 3)
weight_named e None n_small fits = (refl, omega arith)
weight_named e (Some w) n_small fits =
    let within = fits.2 in
    let both = length-append (codes "-") (decimal w) in
    let short = short_decimal w (omega arith) in
    (joined (codes "-") (decimal w) refl (named_digits w (omega arith)), omega arith)

pub find_id-named : (e : Entry) → IsEntry e → is_id (find_id e) ≡ true
find_id-named e entry =
    let limits = entry_limits e entry in
    let n_small = limits.length_to in
    let d_small = limits.distance_to in
    let weight = weight_named e e.w limits.length_to limits.weight in
    let first = codes "find-" ++ decimal e.n in
    let second = first ++ codes "-" in
    let third = second ++ decimal e.d in
    let n_short = short_decimal e.n limits.length_to in
    let d_short = short_decimal e.d limits.distance_to in
    let one = length-append (codes "find-") (decimal e.n) in
    let two = length-append first (codes "-") in
    let three = length-append second (decimal e.d) in
    let four = length-append third (weight_part e.w) in
    let last = weight.1 in
    named_by 102 (codes "ind-" ++ decimal e.n ++ codes "-" ++ decimal e.d ++ weight_part e.w) (omega arith) refl
    (joined third (weight_part e.w)
    (joined second (decimal e.d) (joined first (codes "-") (joined (codes "find-") (decimal e.n) refl (named_digits e.n (omega arith))) refl) (named_digits e.d (omega arith))) weight.0)

-- a dash parts the numbers of an id
abbrev is_dash : ℕ → Bool
is_dash b = b == 45

no_dash : (n : ℕ) → n < 2 ^ 64 → All (λ b. is_dash b ≡ false) (decimal n)
no_dash n small = All-weaker (λ b. (47 < b) × (b < 58)) (λ b. is_dash b ≡ false) (λ b h. let low = h.0 in ne_eqb b 45 (λ e. absurd (omega arith))) (decimal n) (digits n small)

abbrev weight_words : Option ℕ → List (List ℕ)
weight_words None = []
weight_words (Some w) = decimal w ∷ []

weight_split : (d : ℕ) (w : Option ℕ) → d < 2 ^ 64 → IfSome w (λ k. k < 2 ^ 64) → slice_split is_dash (decimal d ++ weight_part w) ≡ decimal d ∷ weight_words w
weight_split d None d_small w_small = ap (slice_split is_dash) (append-nil (decimal d)) ∙ slice_split_none is_dash (decimal d) (no_dash d d_small)
weight_split d (Some w) d_small w_small =
    slice_split_at is_dash (decimal d) 45 (decimal w) (no_dash d d_small) refl ∙ ap (λ parts. decimal d ∷ parts) (slice_split_none is_dash (decimal w) (no_dash w w_small))

parts_of_id : (e : Entry) → e.n < 2 ^ 64 → e.d < 2 ^ 64 → IfSome e.w (λ k. k < 2 ^ 64) → slice_split is_dash (find_id e) ≡ codes "find" ∷ decimal e.n ∷ decimal e.d ∷ weight_words e.w
parts_of_id e n_small d_small w_small =
    ap (slice_split is_dash) (append_assoc (codes "find-" ++ decimal e.n ++ codes "-") (decimal e.d) (weight_part e.w) ∙ append_assoc (codes "find-" ++ decimal e.n) (codes "-") (decimal e.d ++ weight_part e.w))
    ∙ ap (λ parts. codes "find" ∷ parts) (slice_split_at is_dash (decimal e.n) 45 (decimal e.d ++ weight_part e.w) (no_dash e.n n_small) refl)
    ∙ ap (λ parts. codes "find" ∷ decimal e.n ∷ parts) (weight_split e.d e.w d_small w_small)

small_weight : (e : Entry) (w : Option ℕ) → e.n ≤ MAX_N → WeightFits e w → IfSome w (λ k. k < 2 ^ 64)
small_weight e None n_small fits = tt
small_weight e (Some w) n_small fits = let within = fits.2 in omega arith

same_weights : (v w : Option ℕ) → IfSome v (λ k. k < 2 ^ 64) → IfSome w (λ k. k < 2 ^ 64) → weight_words v ≡ weight_words w → v ≡ w
same_weights None None v_small w_small same = refl
same_weights (Some v) (Some w) v_small w_small same = let texts : decimal v ≡ decimal w = cc in ap Some (decimal_injective v w v_small w_small texts)
same_weights None (Some w) v_small w_small same = absurd cc
same_weights (Some v) None v_small w_small same = absurd cc

entries_are : (n m d t : ℕ) (v w : Option ℕ) → n ≡ m → d ≡ t → v ≡ w → ◌≡◌ {A = Entry} (record { n = n; d = d; w = v }) (record { n = m; d = t; w = w })
entries_are n m d t v w first second third = ap (λ (k : ℕ). record { n = k; d = d; w = v }) first ∙ ap (λ (k : ℕ). record { n = m; d = k; w = v }) second ∙ ap (λ (o : Option ℕ). record { n = m; d = t; w = o }) third

pub find_id-different : (e f : Entry) → IsEntry e → IsEntry f → find_id e ≡ find_id f → e ≡ f
find_id-different e f entry other same =
    let a = entry_limits e entry in
    let b = entry_limits f other in
    let en = a.length_to in
    let ed = a.distance_to in
    let fn = b.length_to in
    let fd = b.distance_to in
    let ew = small_weight e e.w a.length_to a.weight in
    let fw = small_weight f f.w b.length_to b.weight in
    let parts = sym (parts_of_id e (omega arith) (omega arith) ew) ∙ ap (slice_split is_dash) same ∙ parts_of_id f (omega arith) (omega arith) fw in
    let lengths : decimal e.n ≡ decimal f.n = cc in
    let distances : decimal e.d ≡ decimal f.d = cc in
    let weights : weight_words e.w ≡ weight_words f.w = cc in
    entries_are e.n f.n e.d f.d e.w f.w (decimal_injective e.n f.n (omega arith) (omega arith) lengths) (decimal_injective e.d f.d (omega arith) (omega arith) distances)
    (same_weights e.w f.w ew fw weights)
