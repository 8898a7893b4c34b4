-- Where lines have moved: those of the base, those that were passed, and one more.
use Rattle.std.proofs.Common.{◌≡◌, ◌⊎◌, ℕ, zero, suc, ◌+◌, ◌-◌, ◌<◌, List, [], ◌∷◌, ◌++◌, length, get_or, Option, Some, None, option_map, refl, sym, ap, subst, ◌∙◌, inl, inr, arith}
use Rattle.std.specs.Prelude.{Bool, true, false, nat_lt, if◌then◌else◌, Contains}
use Rattle.std.proofs.lemmas.Bool.{cases_lt}
use Rattle.std.proofs.lemmas.Bool.Decides.{nat_tests}
use Rattle.std.proofs.lemmas.List.{get_or_append_left, get_or_push}
use Rattle.std.proofs.lemmas.List.Elements.{Contains-append_right}
use Rattle.std.proofs.lemmas.Option.{none-some, same_Some}
use Rattle.ct_rules.specs.Removal.{Places, names_one}
use Rattle.ct_rules.specs.Derivation.{LineValue}
use Rattle.ct_rules.specs.Rule.{named_place}
use Rattle.ct_table.specs.Inside.Walk.{moved_place, and_places, moved_places, moved_to, moved_line}

-- a place is one of the base, or past it
placed : (base p : ℕ) → (p < base) ⊎ ((i : ℕ) × (p ≡ base + i))
placed base p = elim (cases_lt p base) [ inl below ↦ inl below | inr past ↦ inr (p - base, omega arith) ]

-- those of the base stay
pub moved-base : (base : ℕ) (moved : List (Option ℕ)) (p : ℕ) → p < base → moved_place base moved p ≡ Some p
moved-base base moved p below =
    let test : nat_lt p base ≡ true = grind (arith, nat_tests) in
    ap (λ (b : Bool). if b then Some p else get_or moved (p - base) None) test

-- the others are where they moved
moved-past : (base : ℕ) (moved : List (Option ℕ)) (p i : ℕ) → p ≡ base + i → moved_place base moved p ≡ get_or moved i None
moved-past base moved p i at =
    let test : nat_lt p base ≡ false = grind (arith, nat_tests) in
    let less : p - base ≡ i = omega arith in
    ap (λ (b : Bool). if b then Some p else get_or moved (p - base) None) test
    ∙ ap (λ (j : ℕ). get_or moved j None) less

-- a mark below the end of the marks, and the one at their end
get_or-push_cases : (moved : List (Option ℕ)) (o : Option ℕ) (i m : ℕ) → get_or (moved ++ o ∷ []) i None ≡ Some m
    → (get_or moved i None ≡ Some m) ⊎ ((i ≡ length moved) × (o ≡ Some m))
get_or-push_cases [] o zero m h = inr (refl, h)
get_or-push_cases [] o (suc i) m h = absurd (none-some m h)
get_or-push_cases (p ∷ moved) o zero m h = inl h
get_or-push_cases (p ∷ moved) o (suc i) m h = elim (get_or-push_cases moved o i m h) [
  | inl old ↦ inl old
  | inr new ↦ inr (ap suc new.0, new.1)
]

-- a place with a mark is one that was passed
marked-within : (moved : List (Option ℕ)) (i m : ℕ) → get_or moved i None ≡ Some m → i < length moved
marked-within [] i m h = absurd (none-some m h)
marked-within (p ∷ moved) zero m h = omega arith
marked-within (p ∷ moved) (suc i) m h = let rest = marked-within moved i m h in omega arith

pub moved-within : (base : ℕ) (moved : List (Option ℕ)) (p m : ℕ) → moved_place base moved p ≡ Some m → p < base + length moved
moved-within base moved p m h = go (placed base p)
  where
    go : (p < base) ⊎ ((i : ℕ) × (p ≡ base + i)) → p < base + length moved
    go (inl below) = omega arith
    go (inr (i, at)) =
        let within = marked-within moved i m (sym (moved-past base moved p i at) ∙ h) in
        omega (arith, within, at)

-- with one more mark: what moved before, and the new one
pub moved-push_cases : (base : ℕ) (moved : List (Option ℕ)) (o : Option ℕ) (p m : ℕ)
    → moved_place base (moved ++ o ∷ []) p ≡ Some m
    → (moved_place base moved p ≡ Some m) ⊎ ((p ≡ base + length moved) × (o ≡ Some m))
moved-push_cases base moved o p m h = go (placed base p)
  where
    there : (i : ℕ) → p ≡ base + i → ((get_or moved i None ≡ Some m) ⊎ ((i ≡ length moved) × (o ≡ Some m)))
        → (moved_place base moved p ≡ Some m) ⊎ ((p ≡ base + length moved) × (o ≡ Some m))
    there i at (inl old) = inl (moved-past base moved p i at ∙ old)
    there i at (inr (end, is)) = inr (omega (arith, end, at), is)

    go : (p < base) ⊎ ((i : ℕ) × (p ≡ base + i))
        → (moved_place base moved p ≡ Some m) ⊎ ((p ≡ base + length moved) × (o ≡ Some m))
    go (inl below) = inl (moved-base base moved p below ∙ sym (moved-base base (moved ++ o ∷ []) p below) ∙ h)
    go (inr (i, at)) =
        there i at (get_or-push_cases moved o i m (sym (moved-past base (moved ++ o ∷ []) p i at) ∙ h))

pub moved-push_old : (base : ℕ) (moved : List (Option ℕ)) (o : Option ℕ) (p m : ℕ) → moved_place base moved p ≡ Some m
    → moved_place base (moved ++ o ∷ []) p ≡ Some m
moved-push_old base moved o p m h = go (placed base p)
  where
    go : (p < base) ⊎ ((i : ℕ) × (p ≡ base + i)) → moved_place base (moved ++ o ∷ []) p ≡ Some m
    go (inl below) = moved-base base (moved ++ o ∷ []) p below ∙ sym (moved-base base moved p below) ∙ h
    go (inr (i, at)) =
        let old = sym (moved-past base moved p i at) ∙ h in
        moved-past base (moved ++ o ∷ []) p i at ∙ get_or_append_left moved (o ∷ []) None i (marked-within moved i m old)
        ∙ old

pub moved-push_new : (base : ℕ) (moved : List (Option ℕ)) (o : Option ℕ) (p : ℕ) → p ≡ base + length moved
    → moved_place base (moved ++ o ∷ []) p ≡ o
moved-push_new base moved o p at =
    moved-past base (moved ++ o ∷ []) p (length moved) at ∙ get_or_push moved o None (length moved) refl

-- what has no mark had none before
pub moved-push_none : (base : ℕ) (moved : List (Option ℕ)) (o : Option ℕ) (p : ℕ)
    → moved_place base (moved ++ o ∷ []) p ≡ None → moved_place base moved p ≡ None
moved-push_none base moved o p h = go (moved_place base moved p) refl
  where
    go : (q : Option ℕ) → moved_place base moved p ≡ q → q ≡ None
    go None is = refl
    go (Some m) is = absurd (none-some m (sym h ∙ moved-push_old base moved o p m is))

-- one of the places has no mark
abbrev pub HasUnmoved : ℕ → List (Option ℕ) → List ℕ → Type 0
HasUnmoved base moved from = (p : ℕ) × Contains from p × (moved_place base moved p ≡ None)

moved_places-unmoved : (base : ℕ) (moved : List (Option ℕ)) (from : List ℕ) → moved_places base moved from ≡ None
    → HasUnmoved base moved from
moved_places-unmoved base moved [] h = absurd (none-some [] (sym h))
moved_places-unmoved base moved (p ∷ from) h =
    go (moved_place base moved p) (moved_places base moved from) refl h (λ e. moved_places-unmoved base moved from e)
  where
    go : (o : Option ℕ) (ps : Option (List ℕ)) → moved_place base moved p ≡ o → and_places o ps ≡ None
        → (ps ≡ None → HasUnmoved base moved from) → HasUnmoved base moved (p ∷ from)
    go None ps first is rest = (p, (0, omega arith, refl), first)
    go (Some q) None first is rest =
        let others = rest refl in
        (others.0, Contains-append_right (p ∷ []) from others.0 others.1, others.2)
    go (Some q) (Some qs) first is rest = absurd (none-some (q ∷ qs) (sym is))

-- why a line stays behind
pub moved_line-none : (base : ℕ) (gone : Places) (moved : List (Option ℕ)) (l : LineValue)
    → moved_line base gone moved l ≡ None
    → (names_one gone (named_place l.rule) ≡ true) ⊎ HasUnmoved base moved l.from
moved_line-none base gone moved l none =
    go (names_one gone (named_place l.rule)) (moved_places base moved l.from) refl refl none
  where
    go : (b : Bool) (o : Option (List ℕ)) → names_one gone (named_place l.rule) ≡ b → moved_places base moved l.from ≡ o
        → (if b then None else option_map (moved_to l) o) ≡ None
        → (names_one gone (named_place l.rule) ≡ true) ⊎ HasUnmoved base moved l.from
    go true o names from is = inl names
    go false None names from is = inr (moved_places-unmoved base moved l.from from)
    go false (Some places) names from is = absurd (none-some (moved_to l places) (sym is))

-- a line moves: what is known of it, and of it as it moves
pub record IsMoved (base : ℕ) (gone : Places) (moved : List (Option ℕ)) (l k : LineValue) : Type 0 where
  pub apart : names_one gone (named_place l.rule) ≡ false
  pub from : moved_places base moved l.from ≡ Some k.from
  pub is : k ≡ moved_to l k.from

pub moved_line-some : (base : ℕ) (gone : Places) (moved : List (Option ℕ)) (l k : LineValue)
    → moved_line base gone moved l ≡ Some k → IsMoved base gone moved l k
moved_line-some base gone moved l k h =
    go (names_one gone (named_place l.rule)) (moved_places base moved l.from) refl refl h
  where
    go : (b : Bool) (o : Option (List ℕ)) → names_one gone (named_place l.rule) ≡ b → moved_places base moved l.from ≡ o
        → (if b then None else option_map (moved_to l) o) ≡ Some k → IsMoved base gone moved l k
    go true o names from is = absurd (none-some k is)
    go false None names from is = absurd (none-some k is)
    go false (Some places) names from is =
        subst (IsMoved base gone moved l) (same_Some (moved_to l places) k is)
        (record { apart = names; from = from; is = refl })
