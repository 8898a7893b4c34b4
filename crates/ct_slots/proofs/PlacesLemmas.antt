-- The places of the supports at an entry stay chained when a place is put at the end.
use Rattle.std.proofs.Common.{◌≡◌, ◌≢◌, ℕ, zero, suc, ◌<◌, ◌≤◌, ◌^◌, List, [], ◌∷◌, ◌++◌, length, replicate, Option, Some, None, refl, ap, sym, ◌∙◌, subst, inl, inr, arith, length-set, length-append, get_or, take, drop}
use Rattle.std.specs.Prelude.{slice_set, IfSome, ◌⊎◌}
use Rattle.std.proofs.lemmas.Bool.{cases_eq}
use Rattle.std.proofs.lemmas.List.{get_or-set_same, get_or-set_other, length-replicate}
use Rattle.std.proofs.Math.Seq.{take-append_seam}
use Rattle.std.proofs.lemmas.Option.{same_Some, none-some, slice_get_within}
use Rattle.ct_words.specs.declared.entry.Entry.{Entry}
use Rattle.ct_words.specs.Entry.{IsEntry}
use Rattle.ct_rule_parts.proofs.Places.{slice_get_last}
use Rattle.ct_slots.specs.Number.{entry_number, side_size}
use Rattle.ct_slots.specs.Places.{IsPlaceOf, IsUpTo, AreChained, last_at, with_last}
use Rattle.ct_rule_parts.proofs.GetLemmas.{IsOldOrNew, slice_get-append_some, slice_get_push_cases}
use Rattle.ct_slots.proofs.NumberLemmas.{entry_number-bound, entry_number-injective}

-- no place
abbrev pub no_place : Option ℕ
no_place = None

nothing_there : (n k : ℕ) (place : ℕ) → get_or (replicate n no_place) k no_place ≡ Some place → ⊥
nothing_there zero k place h = none-some place h
nothing_there (suc n) zero place h = none-some place h
nothing_there (suc n) (suc k) place h = nothing_there n k place h

pub AreChained-none : (before last : List (Option ℕ)) → last ≡ replicate side_size None → AreChained [] before last
AreChained-none before last same = record {
  before_count = omega arith;
  last_count = ap (λ (ls : List (Option ℕ)). length ls) same ∙ length-replicate side_size no_place;
  few = omega arith;
  entry = λ place e found. absurd (none-some (Some e) found);
  last_is = λ e place entry found.
      absurd (nothing_there side_size (entry_number e) place (subst (λ ls. get_or ls (entry_number e) None ≡ Some place) same found));
  last_of = λ e place found. absurd (none-some (Some e) found);
  before_is = λ e place other found there. absurd (none-some (Some e) found);
  before_of = λ e place other found there less. absurd (none-some (Some e) found);
}

-- what stands past the end is put at it
pub get_or-push_default : {X : Type 0} (xs : List X) (d : X) (k : ℕ) → get_or (xs ++ d ∷ []) k d ≡ get_or xs k d
get_or-push_default [] d zero = refl
get_or-push_default [] d (suc k) = refl
get_or-push_default (x ∷ xs) d zero = refl
get_or-push_default (x ∷ xs) d (suc k) = get_or-push_default xs d k

-- room for more places
pub AreChained-room : (entries : List (Option Entry)) (before more last : List (Option ℕ)) → AreChained entries before last
    → length before ≤ length more → ((k : ℕ) → get_or more k None ≡ get_or before k None) → AreChained entries more last
AreChained-room entries before more last old room same = record {
  before_count = (let count = old.before_count in omega arith);
  last_count = old.last_count;
  few = old.few;
  entry = old.entry;
  last_is = old.last_is;
  last_of = old.last_of;
  before_is = λ e place other found there. old.before_is e place other found (sym (same place) ∙ there);
  before_of = λ e place other found again less.
      subst (λ (o : Option ℕ). IsUpTo o other) (sym (same place)) (old.before_of e place other found again less);
}

-- the last places with another one at its entry
pub with_last-same : (last : List (Option ℕ)) (e : Entry) (place : ℕ) → length last ≡ side_size → IsEntry e
    → get_or (with_last last (Some e) place) (entry_number e) None ≡ Some place
with_last-same last e place count entry =
    let bound = entry_number-bound e entry in
    get_or-set_same last (entry_number e) (Some place) None (omega arith)

with_last-count : (last : List (Option ℕ)) (entry : Option Entry) (place : ℕ) → length (with_last last entry place) ≡ length last
with_last-count last None place = refl
with_last-count last (Some e) place = length-set last (entry_number e) (Some place)

-- at an entry the last place is the new one, or that of before
last_cases : (last : List (Option ℕ)) (entry : Option Entry) (place : ℕ) (f : Entry) → length last ≡ side_size → IsEntry f
    → ((e : Entry) → entry ≡ Some e → IsEntry e)
    → ((entry ≡ Some f) × (get_or (with_last last entry place) (entry_number f) None ≡ Some place))
    ⊎ (get_or (with_last last entry place) (entry_number f) None ≡ get_or last (entry_number f) None)
last_cases last None place f count f_entry entries = inr refl
last_cases last (Some e) place f count f_entry entries = elim (cases_eq (entry_number f) (entry_number e)) [
  | inl same ↦
      let one = entry_number-injective f e f_entry (entries e refl) same in
      inl (
        ap (λ (g : Entry). Some g) (sym one),
        subst (λ (g : Entry). get_or (with_last last (Some e) place) (entry_number g) None ≡ Some place) (sym one)
            (with_last-same last e place count (entries e refl)),
      )
  | inr other ↦ inr (get_or-set_other last (entry_number e) (entry_number f) (Some place) None other)
]

-- one more place at the end
pub AreChained-push : (xs : List (Option Entry)) (before last : List (Option ℕ)) (entry : Option Entry)
    → AreChained xs before last → length xs < length before → length xs < 2 ^ 32
    → ((e : Entry) → entry ≡ Some e → IsEntry e)
    → AreChained (xs ++ entry ∷ []) (slice_set before (length xs) (last_at last entry)) (with_last last entry (length xs))
AreChained-push xs before last entry old room few entries = record {
  before_count = (let more = length-append xs (entry ∷ []) in let same = length-set before (length xs) (last_at last entry) in omega arith);
  last_count = with_last-count last entry (length xs) ∙ old.last_count;
  few = (let more = length-append xs (entry ∷ []) in omega arith);
  entry = λ place f found. entry_there place f (slice_get_push_cases xs entry place (Some f) found);
  last_is = λ f place f_entry found. elim (last_cases last entry (length xs) f old.last_count f_entry entries) [
    | inl now ↦
        let same : length xs ≡ place = same_Some (length xs) place (sym now.1 ∙ found) in
        subst (IsPlaceOf ys f) same (slice_get_last xs entry ∙ ap (λ (o : Option Entry). Some o) now.0)
    | inr stays ↦ slice_get-append_some xs (entry ∷ []) place (Some f) (old.last_is f place f_entry (sym stays ∙ found))
  ];
  last_of = λ f place found. up_to_last f place (slice_get_push_cases xs entry place (Some f) found);
  before_is = λ f place other found there. before_there f place other (slice_get_push_cases xs entry place (Some f) found) there;
  before_of = λ f place other found again less.
      up_to_before f place other (slice_get_push_cases xs entry place (Some f) found)
      (slice_get_push_cases xs entry other (Some f) again) less;
}
  where
    ys : List (Option Entry)
    ys = xs ++ entry ∷ []

    new_before : List (Option ℕ)
    new_before = slice_set before (length xs) (last_at last entry)

    new_last : List (Option ℕ)
    new_last = with_last last entry (length xs)

    before_here : (f : Entry) → entry ≡ Some f → get_or new_before (length xs) None ≡ get_or last (entry_number f) None
    before_here f is =
        get_or-set_same before (length xs) (last_at last entry) None room ∙ ap (last_at last) is

    before_other : (place : ℕ) → place < length xs → get_or new_before place None ≡ get_or before place None
    before_other place less =
        let other : place ≢ length xs = λ same. absurd (omega arith) in
        get_or-set_other before (length xs) place (last_at last entry) None other

    entry_there : (place : ℕ) (f : Entry) → IsOldOrNew xs entry place (Some f) → IsEntry f
    entry_there place f (inl found) = old.entry place f found.1
    entry_there place f (inr (at, is)) = entries f is

    up_to_last : (f : Entry) (place : ℕ) → IsOldOrNew xs entry place (Some f) → IsUpTo (get_or new_last (entry_number f) None) place
    up_to_last f place (inl found) =
        let f_entry = old.entry place f found.1 in
        let within : place ≤ length xs = omega (arith, found.0) in
        elim (last_cases last entry (length xs) f old.last_count f_entry entries) [
          | inl now ↦ subst (λ (o : Option ℕ). IsUpTo o place) (sym now.1) within
          | inr stays ↦ subst (λ (o : Option ℕ). IsUpTo o place) (sym stays) (old.last_of f place found.1)
        ]
    up_to_last f place (inr (at, is)) =
        let within : place ≤ length xs = omega (arith, at) in
        let here : get_or (with_last last (Some f) (length xs)) (entry_number f) None ≡ Some (length xs) =
        with_last-same last f (length xs) old.last_count (entries f is) in
        let now : get_or new_last (entry_number f) None ≡ Some (length xs) =
        ap (λ (o : Option Entry). get_or (with_last last o (length xs)) (entry_number f) None) is ∙ here in
        subst (λ (o : Option ℕ). IsUpTo o place) (sym now) within

    before_there : (f : Entry) (place other : ℕ) → IsOldOrNew xs entry place (Some f) → get_or new_before place None ≡ Some other
        → (other < place) × IsPlaceOf ys f other
    before_there f place other (inl found) there =
        let was = old.before_is f place other found.1 (sym (before_other place found.0) ∙ there) in
        (was.0, slice_get-append_some xs (entry ∷ []) other (Some f) was.1)
    before_there f place other (inr (at, is)) there =
        let here : get_or new_before (length xs) None ≡ Some other = subst (λ k. get_or new_before k None ≡ Some other) at there in
        let was = old.last_is f other (entries f is) (sym (before_here f is) ∙ here) in
        let within = slice_get_within xs other (Some f) was in
        (omega (arith, at), slice_get-append_some xs (entry ∷ []) other (Some f) was)

    up_to_before : (f : Entry) (place other : ℕ) → IsOldOrNew xs entry place (Some f) → IsOldOrNew xs entry other (Some f)
        → other < place → IsUpTo (get_or new_before place None) other
    up_to_before f place other (inl found) (inl again) less =
        subst (λ (o : Option ℕ). IsUpTo o other) (sym (before_other place found.0)) (old.before_of f place other found.1 again.1 less)
    up_to_before f place other (inr (at, is)) (inl again) less =
        subst (λ k. IsUpTo (get_or new_before k None) other) (sym at)
        (subst (λ (o : Option ℕ). IsUpTo o other) (sym (before_here f is)) (old.last_of f other again.1))
    up_to_before f place other (inl found) (inr (at, is)) less = absurd (omega (arith, found.0, at))
    up_to_before f place other (inr (at, is)) (inr (other_at, other_is)) less = absurd (omega (arith, at, other_at))

-- what is said of an entry that is there
if_there : (o : Option Entry) → IfSome o (λ e. IsEntry e) → (e : Entry) → o ≡ Some e → IsEntry e
if_there None all e is = absurd (none-some e is)
if_there (Some f) all e is = subst IsEntry (same_Some f e is) all

-- one more place where there is room for it
pub AreChained-added : (xs ys : List (Option Entry)) (before room last new_last : List (Option ℕ)) (entry : Option Entry) (place n : ℕ)
    (at : Option ℕ) → AreChained xs before last → length before ≤ length room → ((k : ℕ) → get_or room k None ≡ get_or before k None)
    → place < length room → place < 2 ^ 32 → place ≡ length xs → IfSome entry (λ e. IsEntry e) → ys ≡ xs ++ entry ∷ []
    → at ≡ last_at last entry → new_last ≡ with_last last entry place → n ≡ length last
    → AreChained ys (slice_set room place at) (take n (new_last ++ drop (length new_last) last))
AreChained-added xs ys before room last new_last entry place n at old no_less kept within few here in_table longer at_is last_is count =
    subst (λ (es : List (Option Entry)). AreChained es (slice_set room place at) (take n (new_last ++ drop (length new_last) last))) (sym longer)
    (subst (λ (ls : List (Option ℕ)). AreChained (xs ++ entry ∷ []) (slice_set room place at) ls) (sym whole)
    (subst (λ (o : Option ℕ). AreChained (xs ++ entry ∷ []) (slice_set room place o) (with_last last entry place)) (sym at_is)
    (subst (λ k. AreChained (xs ++ entry ∷ []) (slice_set room k (last_at last entry)) (with_last last entry k)) (sym here)
    (AreChained-push xs room last entry (AreChained-room xs before room last old no_less kept)
    (subst (λ k. k < length room) here within) (subst (λ k. k < 2 ^ 32) here few) (if_there entry in_table)))))
  where
    length_is : n ≡ length new_last
    length_is =
        count ∙ sym (with_last-count last entry place) ∙ sym (ap (λ (ls : List (Option ℕ)). length ls) last_is)

    whole : take n (new_last ++ drop (length new_last) last) ≡ with_last last entry place
    whole =
        ap (λ k. take k (new_last ++ drop (length new_last) last)) length_is
        ∙ take-append_seam new_last (drop (length new_last) last) ∙ last_is

-- one more place that is read from the last ones
pub AreChained-next : (xs : List (Option Entry)) (before last new_last : List (Option ℕ)) (entry : Option Entry) (place : ℕ) (at : Option ℕ)
    → AreChained xs before last → place ≡ length xs → place < length before → place < 2 ^ 32 → IfSome entry (λ e. IsEntry e)
    → at ≡ last_at last entry → new_last ≡ with_last last entry place
    → AreChained (xs ++ entry ∷ []) (slice_set before place at) new_last
AreChained-next xs before last new_last entry place at old here within few in_table at_is last_is =
    subst (λ (ls : List (Option ℕ)). AreChained (xs ++ entry ∷ []) (slice_set before place at) ls) (sym last_is)
    (subst (λ (o : Option ℕ). AreChained (xs ++ entry ∷ []) (slice_set before place o) (with_last last entry place)) (sym at_is)
    (subst (λ k. AreChained (xs ++ entry ∷ []) (slice_set before k (last_at last entry)) (with_last last entry k)) (sym here)
    (AreChained-push xs before last entry old (subst (λ k. k < length before) here within) (subst (λ k. k < 2 ^ 32) here few)
    (if_there entry in_table))))

-- a list that was lent whole and given back
pub given_back : {X : Type 0} (xs ys : List X) (n : ℕ) → n ≡ length xs → take n (xs ++ drop (length xs) ys) ≡ xs
given_back xs ys n same =
    ap (λ k. take k (xs ++ drop (length xs) ys)) same ∙ take-append_seam xs (drop (length xs) ys)
