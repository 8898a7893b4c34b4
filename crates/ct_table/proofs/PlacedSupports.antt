-- The supports that have their places, and whose slots are marked.
use Rattle.std.proofs.Common.{◌≡◌, ℕ, zero, suc, ◌+◌, ◌<◌, ◌≤◌, List, [], ◌∷◌, ◌++◌, length, map, take, All, get_or, Option, Some, option_map, slice_get, refl, sym, ap, subst, ◌∙◌, inl, inr, arith, length-append}
use Rattle.std.proofs.lemmas.List.{take_more, map-append, length-map}
use Rattle.std.proofs.lemmas.List.Elements.{All-nil, All-cons, All-head, All-tail, All-append}
use Rattle.std.proofs.lemmas.Option.{none-some, same_Some, slice_get-map, slice_get_within, get_or_from_slice_get}
use Rattle.ct_words.specs.declared.entry.Entry.{Entry}
use Rattle.ct_words.specs.Entry.{IsEntry}
use Rattle.ct_rule_parts.specs.declared.support.Support.{Support}
use Rattle.ct_rule_parts.specs.declared.support.Support.TheVariants.{Nothing}
use Rattle.ct_rule_parts.specs.Slot.{Slot}
use Rattle.ct_rule_parts.proofs.Places.{slice_get_last}
use Rattle.ct_slots.specs.Places.{GivesTo, AreSupportPlaces, side_of_support, entry_of_support}
use Rattle.ct_slots.specs.Worklist.{WorkValue, IsMarked}
use Rattle.ct_table.specs.Inside.Starting.{IsMarkedIfGiven}
use Rattle.ct_table.proofs.MoreLemmas.{gives_entry, AreGivenMarked}

-- marks that are there stay
pub still_given : (old new : WorkValue) (supports : List Support) → ((t : Slot) → IsMarked old t → IsMarked new t)
    → All (IsMarkedIfGiven old) supports → All (IsMarkedIfGiven new) supports
still_given old new [] more all = All-nil (IsMarkedIfGiven new)
still_given old new (x ∷ supports) more all =
    let here : IsMarkedIfGiven new x =
    λ e entry gives. more (side_of_support x, e) (All-head (IsMarkedIfGiven old) x supports all e entry gives) in
    All-cons (IsMarkedIfGiven new) x supports here
    (still_given old new supports more (All-tail (IsMarkedIfGiven old) x supports all))

-- one more support has its place, and its slot is marked
pub one_more_place : (supports : List Support) (i : ℕ) (d : Support) (old new : List (Option Entry)) → i < length supports
    → new ≡ old ++ entry_of_support (get_or supports i d) ∷ [] → old ≡ map entry_of_support (take i supports)
    → new ≡ map entry_of_support (take (i + 1) supports)
one_more_place supports i d old new within is before =
    is ∙ ap (λ (ps : List (Option Entry)). ps ++ entry_of_support (get_or supports i d) ∷ []) before
    ∙ sym (map-append entry_of_support (take i supports) (get_or supports i d ∷ []))
    ∙ ap (map entry_of_support) (sym (take_more supports i d within))

pub one_more_mark : (supports : List Support) (i : ℕ) (d : Support) (old new : WorkValue) → i < length supports
    → ((t : Slot) → IsMarked old t → IsMarked new t) → All (IsMarkedIfGiven old) (take i supports)
    → IsMarkedIfGiven new (get_or supports i d) → All (IsMarkedIfGiven new) (take (i + 1) supports)
one_more_mark supports i d old new within more before given =
    subst (All (IsMarkedIfGiven new)) (sym (take_more supports i d within))
    (All-append (IsMarkedIfGiven new) (take i supports) (get_or supports i d ∷ [])
    (still_given old new (take i supports) more before)
    (All-cons (IsMarkedIfGiven new) (get_or supports i d) [] given (All-nil (IsMarkedIfGiven new))))

-- what holds of each holds of the one at a place
pub given_marked : (supports : List Support) (work : WorkValue) → All (IsMarkedIfGiven work) supports → AreGivenMarked supports work
given_marked supports work all index support e there gives entry =
    let here : IsMarkedIfGiven work (get_or supports index support) =
    all index support (slice_get_within supports index support there) in
    subst (IsMarkedIfGiven work) (get_or_from_slice_get supports index support support there) here e entry gives

-- the places of supports
pub AreSupportPlaces-map : (supports : List Support) → AreSupportPlaces supports (map entry_of_support supports)
AreSupportPlaces-map supports = record {
  count = length-map supports entry_of_support;
  given = λ place support e entry there gives.
      slice_get-map entry_of_support supports place ∙ ap (option_map entry_of_support) there
      ∙ ap Some (gives_entry support e gives entry);
}

pub AreSupportPlaces-is : (supports : List Support) (places : List (Option Entry)) → places ≡ map entry_of_support supports → AreSupportPlaces supports places
AreSupportPlaces-is supports places is = subst (AreSupportPlaces supports) (sym is) (AreSupportPlaces-map supports)

-- with one more
longer : (x : Support) (xs : List Support) (ps : List (Option Entry)) → length ps ≡ length xs
    → length (ps ++ entry_of_support x ∷ []) ≡ length (xs ++ x ∷ [])
longer x [] [] same = refl
longer x [] (p ∷ ps) same = absurd (omega (arith, same))
longer x (y ∷ xs) [] same = absurd (omega (arith, same))
longer x (y ∷ xs) (p ∷ ps) same = ap suc (longer x xs ps (omega (arith, same)))

given_longer : (x : Support) (e : Entry) (xs : List Support) (ps : List (Option Entry)) → length ps ≡ length xs
    → IsEntry e → ((p : ℕ) (s : Support) → slice_get xs p ≡ Some s → GivesTo s e → slice_get ps p ≡ Some (Some e))
    → (place : ℕ) (support : Support) → slice_get (xs ++ x ∷ []) place ≡ Some support → GivesTo support e
    → slice_get (ps ++ entry_of_support x ∷ []) place ≡ Some (Some e)
given_longer x e [] [] same entry before zero support there gives =
    let one : x ≡ support = same_Some x support there in
    ap Some (gives_entry x e (subst (λ (y : Support). GivesTo y e) (sym one) gives) entry)
given_longer x e [] [] same entry before (suc place) support there gives = absurd (none-some support there)
given_longer x e [] (p ∷ ps) same entry before place support there gives = absurd (omega (arith, same))
given_longer x e (y ∷ xs) [] same entry before place support there gives = absurd (omega (arith, same))
given_longer x e (y ∷ xs) (p ∷ ps) same entry before zero support there gives = before 0 support there gives
given_longer x e (y ∷ xs) (p ∷ ps) same entry before (suc place) support there gives =
    given_longer x e xs ps (omega (arith, same)) entry (λ q s h g. before (suc q) s h g) place support there gives

pub AreSupportPlaces-push : (supports : List Support) (places : List (Option Entry)) (x : Support) → AreSupportPlaces supports places
    → AreSupportPlaces (supports ++ x ∷ []) (places ++ entry_of_support x ∷ [])
AreSupportPlaces-push supports places x are = record {
  count = longer x supports places are.count;
  given = λ place support e entry there gives.
      given_longer x e supports places are.count entry (λ p s h g. are.given p s e entry h g) place support there gives;
}

-- where one gives nothing any more
pub nothing_given : (e : Entry) → GivesTo Nothing e → ⊥
nothing_given e (inl gives) = gives refl
nothing_given e (inr gives) = gives refl

-- the last of more supports
pub last_there : (supports olds : List Support) (x : Support) (place : ℕ) → supports ≡ olds ++ x ∷ [] → place ≡ length olds
    → slice_get supports place ≡ Some x
last_there supports olds x place are end =
    ap (slice_get supports) end ∙ ap (λ (ys : List Support). slice_get ys (length olds)) are ∙ slice_get_last olds x

pub last_is : (supports olds : List Support) (x d : Support) (place : ℕ) → supports ≡ olds ++ x ∷ [] → place ≡ length olds
    → get_or supports place d ≡ x
last_is supports olds x d place are end =
    get_or_from_slice_get supports place x d (last_there supports olds x place are end)

-- as many supports as before are no more than the places with one more
pub fewer_supports : (supports now : List Support) (places more : List (Option Entry)) (e : Option Entry) → length places ≡ length supports
    → now ≡ supports → more ≡ places ++ e ∷ [] → length now ≤ length more
fewer_supports supports now places more e count same longer =
    let few = ap length same in
    let many = ap length longer ∙ length-append places (e ∷ []) in
    omega (arith, few, many, count)
