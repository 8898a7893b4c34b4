-- A derivation of which only the lines that the last one needs are left is one, and each line but the last is named.
use Rattle.std.proofs.Common.{◌≡◌, ℕ, zero, suc, ◌+◌, ◌-◌, ◌<◌, ◌≤◌, Bool, true, false, not, List, [], ◌∷◌, ◌++◌, length, get_or, take, map, All, slice_get, Option, Some, None, option_map, ◌⊎◌, inl, inr, refl, sym, ap, ap₂, subst, ◌∙◌, length-append, arith}
use Rattle.std.specs.Prelude.{◌≢◌, AllPairs, Contains, slice_index, if◌then◌else◌}
use Rattle.std.specs.List.{cons_option}
use Rattle.std.proofs.lemmas.List.{length-map, map-append, length-take-le, get_or_append_left}
use Rattle.std.proofs.Math.Seq.{get_or-append_seam}
use Rattle.std.proofs.lemmas.List.Elements.{All-head, All-tail, All-map}
use Rattle.std.proofs.lemmas.Option.{slice_get-map, slice_get_within, slice_get-get_or, get_or_from_slice_get, none-some, same_Some}
use Rattle.ct_words.specs.declared.claim.Claim.{Claim}
use Rattle.ct_rule_parts.specs.declared.support.Support.{Support}
use Rattle.ct_rule_parts.specs.Slot.{slot_of}
use Rattle.ct_rules.specs.Derivation.{LineValue, claims_at, Follows, IsDerivation}
use Rattle.ct_rules.specs.Removal.{Places, without, count_below, lowered_place}
use Rattle.ct_rules.proofs.WithoutLemmas.{was_at, slice_get-without, without-out, without-in}
use Rattle.ct_derive.specs.Explanation.{IsNamedLater, IsExplanation}
use Rattle.ct_derive.specs.Pruning.{is_marked, unmarked, moved_line, renumbered, pruned, AreMarked, IsNamedByMarked, ArePlacesLeft}

-- places that stay keep their order
count_le : (gone : Places) (p : ℕ) → count_below gone p ≤ p
unfolding count_below
count_le gone zero = omega arith
count_le gone (suc p) = go (gone p) (count_le gone p)
  where
    go : (b : Bool) → count_below gone p ≤ p → count_below gone p + (if b then 1 else 0) ≤ suc p
    go true few = omega arith
    go false few = omega arith

lowered_up : (gone : Places) (p : ℕ) → lowered_place gone p ≤ lowered_place gone (suc p)
unfolding count_below
lowered_up gone p = go (gone p)
  where
    go : (b : Bool) → p - count_below gone p ≤ suc p - (count_below gone p + (if b then 1 else 0))
    go true = omega arith
    go false = omega arith

lowered_past : (gone : Places) (p : ℕ) → gone p ≡ false → lowered_place gone (suc p) ≡ suc (lowered_place gone p)
unfolding count_below
lowered_past gone p stays =
    let step : count_below gone (suc p) ≡ count_below gone p + 0 =
    ap (λ (b : Bool). count_below gone p + (if b then 1 else 0)) stays in
    let few = count_le gone p in
    omega arith

lowered_out : (gone : Places) (p : ℕ) → gone p ≡ true → lowered_place gone (suc p) ≡ lowered_place gone p
unfolding count_below
lowered_out gone p out =
    let step : count_below gone (suc p) ≡ count_below gone p + 1 =
    ap (λ (b : Bool). count_below gone p + (if b then 1 else 0)) out in
    let few = count_le gone p in
    omega arith

lowered_le : (gone : Places) (p q : ℕ) → p ≤ q → lowered_place gone p ≤ lowered_place gone q
lowered_le gone zero zero h = omega arith
lowered_le gone (suc p) zero h = absurd (omega arith)
lowered_le gone p (suc q) h = go (below_or_same p q h) (lowered_le gone p q)
  where
    below_or_same : (p q : ℕ) → p ≤ suc q → (p ≤ q) ⊎ (p ≡ suc q)
    below_or_same zero q h = inl (omega arith)
    below_or_same (suc p) zero h = inr (omega arith)
    below_or_same (suc p) (suc q) h = elim (below_or_same p q (omega arith)) [ inl low ↦ inl (omega arith) | inr same ↦ inr (ap suc same) ]

    go : (p ≤ q) ⊎ (p ≡ suc q) → (p ≤ q → lowered_place gone p ≤ lowered_place gone q)
        → lowered_place gone p ≤ lowered_place gone (suc q)
    go (inl low) before = let ih = before low in let up = lowered_up gone q in omega arith
    go (inr same) before = let is = ap (lowered_place gone) same in omega arith

pub lowered_below : (gone : Places) (p q : ℕ) → gone p ≡ false → p < q → lowered_place gone p < lowered_place gone q
lowered_below gone p q stays h =
    let past = lowered_past gone p stays in
    let up = lowered_le gone (suc p) q (omega arith) in
    omega arith

-- the line at a place of what is left
pub pruned_at : (gone : Places) (lines : List LineValue) (p : ℕ) (l : LineValue) → gone p ≡ false → slice_get lines p ≡ Some l
    → slice_get (pruned gone lines) (lowered_place gone p) ≡ Some (renumbered gone l)
pruned_at gone lines p l stays at =
    slice_get-map (renumbered gone) (without gone lines) (lowered_place gone p)
    ∙ ap (option_map (renumbered gone)) (slice_get-without gone lines p l stays at)

-- and where it was
pub record WasLine (gone : Places) (lines : List LineValue) (q : ℕ) (line : LineValue) : Type 0 where
  pub place : ℕ
  pub original : LineValue
  pub stays : gone place ≡ false
  pub there : slice_get lines place ≡ Some original
  pub lowered : lowered_place gone place ≡ q
  pub same : renumbered gone original ≡ line

pub was_line : (gone : Places) (lines : List LineValue) (q : ℕ) (line : LineValue) → slice_get (pruned gone lines) q ≡ Some line
    → WasLine gone lines q line
was_line gone lines q line at =
    go (slice_get (without gone lines) q) refl (sym (slice_get-map (renumbered gone) (without gone lines) q) ∙ at)
  where
    go : (o : Option LineValue) → slice_get (without gone lines) q ≡ o → option_map (renumbered gone) o ≡ Some line
        → WasLine gone lines q line
    go None is h = absurd (none-some line h)
    go (Some l) is h =
        let was = was_at gone lines q l is in
        record {
          place = was.place;
          original = l;
          stays = was.stays;
          there = was.there;
          lowered = was.lowered;
          same = same_Some (renumbered gone l) line h;
        }

-- an item of a front
pub get_of_take : {X : Type 0} (xs : List X) (n p : ℕ) → p < n → slice_get (take n xs) p ≡ slice_get xs p
get_of_take xs zero p h = absurd (omega arith)
get_of_take [] (suc n) p h = refl
get_of_take (x ∷ xs) (suc n) zero h = refl
get_of_take (x ∷ xs) (suc n) (suc p) h = get_of_take xs n p (omega arith)

-- there is an item at each place
pub some_at : {X : Type 0} (xs : List X) (p : ℕ) → p < length xs → (x : X) × (slice_get xs p ≡ Some x)
some_at [] p h = absurd (omega arith)
some_at (x ∷ xs) zero h = (x, refl)
some_at (x ∷ xs) (suc p) h = some_at xs p (omega arith)

-- the claims that a line names are where their lines are now
claims_at-pruned : (gone : Places) (lines : List LineValue) (p : ℕ) → p < length lines → gone p ≡ false → (places : List ℕ)
    → All (λ r. r < p) places → All (λ r. gone r ≡ false) places
    → claims_at (take (lowered_place gone p) (pruned gone lines)) (map (lowered_place gone) places) ≡ claims_at (take p lines) places
claims_at-pruned gone lines p within stays [] below left = refl
claims_at-pruned gone lines p within stays (r ∷ places) below left =
    ap₂ (λ (o : Option Claim) (cs : List Claim). cons_option o cs) one
    (claims_at-pruned gone lines p within stays places
    (All-tail (λ r. r < p) r places below) (All-tail (λ r. gone r ≡ false) r places left))
  where
    q : ℕ
    q = lowered_place gone p

    lower : r < p
    lower = All-head (λ r. r < p) r places below

    there : gone r ≡ false
    there = All-head (λ r. gone r ≡ false) r places left

    one : option_map (λ (l : LineValue). l.claim) (slice_get (take q (pruned gone lines)) (lowered_place gone r))
        ≡ option_map (λ (l : LineValue). l.claim) (slice_get (take p lines) r)
    one =
        let found = some_at lines r (omega (arith, lower, within)) in
        let moved = pruned_at gone lines r found.0 there found.1 in
        ap (option_map (λ (l : LineValue). l.claim))
        (get_of_take (pruned gone lines) q (lowered_place gone r) (lowered_below gone r p there lower) ∙ moved)
        ∙ ap (option_map (λ (l : LineValue). l.claim)) (sym (get_of_take lines p r lower ∙ found.1))

-- a line that stays, all of whose premises stay, follows from those that are left before it
pub follows-pruned : (supports : List Support) (gone : Places) (lines : List LineValue) (p : ℕ) (l : LineValue)
    → slice_get lines p ≡ Some l → gone p ≡ false → All (λ r. gone r ≡ false) l.from → Follows supports (take p lines) l
    → Follows supports (take (lowered_place gone p) (pruned gone lines)) (renumbered gone l)
follows-pruned supports gone lines p l at stays left follows = record {
  earlier =
      All-map (λ r. r < length (take (lowered_place gone p) (pruned gone lines))) (lowered_place gone) l.from
      (λ k d lt.
      let lower = lowered_below gone (get_or l.from k d) p (left k d lt) (below k d lt) in
      omega (arith, room));
  side = follows.side;
  premises = rw (claims_at-pruned gone lines p within stays l.from below left) follows.premises;
  value = rw (claims_at-pruned gone lines p within stays l.from below left) follows.value;
}
  where
    within : p < length lines
    within = slice_get_within lines p l at

    below : All (λ r. r < p) l.from
    below = λ k d lt. let lower = follows.earlier k d lt in let size = length-take-le p lines (omega (arith, within)) in omega arith

    room : length (take (lowered_place gone p) (pruned gone lines)) ≡ lowered_place gone p
    room =
        let inside = slice_get_within (pruned gone lines) (lowered_place gone p) (renumbered gone l) (pruned_at gone lines p l stays at) in
        length-take-le (lowered_place gone p) (pruned gone lines) (omega arith)

-- a set whose complement is closed under premises
abbrev pub AreClosed : Places → List LineValue → Type 0
AreClosed gone lines = (p : ℕ) (l : LineValue) → slice_get lines p ≡ Some l → gone p ≡ false → All (λ r. gone r ≡ false) l.from

pub derivation-pruned : (supports : List Support) (gone : Places) (lines : List LineValue) → IsDerivation supports lines
    → AreClosed gone lines → IsDerivation supports (pruned gone lines)
derivation-pruned supports gone lines derivation closed q line at =
    let was = was_line gone lines q line at in
    subst (λ (l : LineValue). Follows supports (take q (pruned gone lines)) l) was.same
    (subst (λ (n : ℕ). Follows supports (take n (pruned gone lines)) (renumbered gone was.original)) was.lowered
    (follows-pruned supports gone lines was.place was.original was.there was.stays
    (closed was.place was.original was.there was.stays) (derivation was.place was.original was.there)))

-- facts of each two items, by their places
pub pairs_from_places : {X : Type 0} (R : X → X → Type 0) (xs : List X)
    → ((i j : ℕ) (x y : X) → i < j → slice_get xs i ≡ Some x → slice_get xs j ≡ Some y → R x y) → AllPairs R xs
pairs_from_places R xs each i j d lower within =
    each i j (get_or xs i d) (get_or xs j d) lower (slice_get-get_or xs i d (omega arith)) (slice_get-get_or xs j d within)

pub pair_at_places : {X : Type 0} (R : X → X → Type 0) (xs : List X) → AllPairs R xs
    → (i j : ℕ) (x y : X) → i < j → slice_get xs i ≡ Some x → slice_get xs j ≡ Some y → R x y
pair_at_places R xs all i j x y lower at other =
    subst (λ z. R z y) (get_or_from_slice_get xs i x x at)
    (subst (λ z. R (get_or xs i x) z) (get_or_from_slice_get xs j y x other)
    (all i j x lower (slice_get_within xs j y other)))

-- below, or not
pub under : (p q : ℕ) → (p < q) ⊎ (q ≤ p)
under zero zero = inr (omega arith)
under zero (suc q) = inl (omega arith)
under (suc p) zero = inr (omega arith)
under (suc p) (suc q) = elim (under p q) [ inl low ↦ inl (omega arith) | inr high ↦ inr (omega arith) ]

-- places that keep their order kept it
lowered_order : (gone : Places) (p q : ℕ) → lowered_place gone p < lowered_place gone q → p < q
lowered_order gone p q h = go (under p q)
  where
    go : (p < q) ⊎ (q ≤ p) → p < q
    go (inl low) = low
    go (inr high) = let up = lowered_le gone q p high in absurd (omega arith)

different-pruned : (gone : Places) (lines : List LineValue) → AllPairs (λ l m. l.claim ≢ m.claim) lines
    → AllPairs (λ l m. l.claim ≢ m.claim) (pruned gone lines)
different-pruned gone lines different =
    pairs_from_places (λ l m. l.claim ≢ m.claim) (pruned gone lines) (λ i j x y lower at other.
    let was = was_line gone lines i x at in
    let other_was = was_line gone lines j y other in
    let apart = pair_at_places (λ l m. l.claim ≢ m.claim) lines different was.place other_was.place was.original other_was.original
    (lowered_order gone was.place other_was.place (omega (arith, was.lowered, other_was.lowered))) was.there other_was.there in
    let left = ap (λ (l : LineValue). l.claim) was.same in
    let right = ap (λ (l : LineValue). l.claim) other_was.same in
    λ same. apart (left ∙ same ∙ sym right))

-- a place among some is among them moved
Contains-map : (f : ℕ → ℕ) (places : List ℕ) (p : ℕ) → Contains places p → Contains (map f places) (f p)
Contains-map f places p has = (
  has.0,
  omega (arith, length-map places f, has.1),
  get_or_from_slice_get (map f places) has.0 (f p) (f p)
      (slice_get-map f places has.0
      ∙ ap (option_map f) (slice_get-get_or places has.0 p has.1 ∙ ap Some has.2)),
)

is_false : (b : Bool) → not b ≡ false → b ≡ true
is_false true h = refl
is_false false h = absurd cc

-- a place among those of a line is below the line's own
named_below : (p j : ℕ) (from : List ℕ) (before : List LineValue) → length before ≡ j → All (λ r. r < length before) from
    → Contains from p → p < j
named_below p j from before size earlier has =
    subst (λ n. n < j) has.2 (let lower = earlier has.0 p has.1 in omega arith)

-- the last line that stays is the last of those that are left
last_place : (gone : Places) (lines : List LineValue) (last : ℕ) (l : LineValue) → last + 1 ≡ length lines → gone last ≡ false
    → slice_get lines last ≡ Some l → length (pruned gone lines) - 1 ≡ lowered_place gone last
last_place gone lines last l ends stays at = go (under (lowered_place gone last + 1) (length (pruned gone lines)))
  where
    inside : lowered_place gone last < length (pruned gone lines)
    inside = slice_get_within (pruned gone lines) (lowered_place gone last) (renumbered gone l) (pruned_at gone lines last l stays at)

    go : (lowered_place gone last + 1 < length (pruned gone lines)) ⊎ (length (pruned gone lines) ≤ lowered_place gone last + 1)
        → length (pruned gone lines) - 1 ≡ lowered_place gone last
    go (inr few) = omega (arith, inside)
    go (inl more) =
        let found = some_at (pruned gone lines) (lowered_place gone last + 1) more in
        let was = was_line gone lines (lowered_place gone last + 1) found.0 found.1 in
        let within = slice_get_within lines was.place was.original was.there in
        let low = lowered_le gone was.place last (omega arith) in
        absurd (omega (arith, was.lowered))

-- the lines that the last one needs are an explanation of its claim
pub explanation_of_last : (supports : List Support) (lines : List LineValue) (marks : List Bool) (last : ℕ) (l : LineValue)
    → IsDerivation supports lines → AllPairs (λ l m. l.claim ≢ m.claim) lines → AreMarked lines marks
    → last + 1 ≡ length lines → slice_get lines last ≡ Some l
    → IsExplanation supports (slot_of l.claim) l.claim.value (pruned (unmarked marks) lines)
explanation_of_last supports lines marks last l derivation different marked ends at = record {
  derivation = derivation-pruned supports gone lines derivation closed;
  ends =
      ap (λ (n : ℕ). option_map (λ (m : LineValue). m.claim) (slice_get (pruned gone lines) n)) is_last
      ∙ ap (option_map (λ (m : LineValue). m.claim)) (pruned_at gone lines last l stays at);
  different = different-pruned gone lines different;
  named = named;
}
  where
    gone : Places
    gone = unmarked marks

    from_mark : (p : ℕ) → is_marked marks p ≡ true → unmarked marks p ≡ false
    from_mark p h = ap not h

    to_mark : (p : ℕ) → unmarked marks p ≡ false → is_marked marks p ≡ true
    to_mark p h = is_false (is_marked marks p) h

    closed : AreClosed (unmarked marks) lines
    closed p m there stays = λ k d lt. from_mark (get_or m.from k d) (marked.closed p m (omega arith) there (to_mark p stays) k d lt)

    stays : unmarked marks last ≡ false
    stays = from_mark last (marked.last last ends)

    is_last : length (pruned (unmarked marks) lines) - 1 ≡ lowered_place (unmarked marks) last
    is_last = last_place (unmarked marks) lines last l ends stays at

    named : (i : ℕ) → i + 1 < length (pruned (unmarked marks) lines) → IsNamedLater (pruned (unmarked marks) lines) i
    named i h =
        let found = some_at (pruned (unmarked marks) lines) i (omega arith) in
        let was = was_line (unmarked marks) lines i found.0 found.1 in
        go was.place was.stays was.lowered (marked.named was.place (to_mark was.place was.stays))
      where
        go : (p : ℕ) → unmarked marks p ≡ false → lowered_place (unmarked marks) p ≡ i
            → (p + 1 ≡ length lines) ⊎ IsNamedByMarked lines marks p → IsNamedLater (pruned (unmarked marks) lines) i
        go p left is (inl end) =
            let same : p ≡ last = omega (arith, ends, end) in
            let lowest : lowered_place (unmarked marks) last ≡ i = ap (lowered_place (unmarked marks)) (sym same) ∙ is in
            absurd (omega (arith, is_last, lowest, h))
        go p left is (inr by) =
            let earlier = (derivation by.0 by.1 by.2).earlier in
            let size = length-take-le by.0 lines (omega (arith, slice_get_within lines by.0 by.1 by.2)) in
            let lower : p < by.0 = named_below p by.0 by.1.from (take by.0 lines) size earlier by.4 in
            let order = lowered_below (unmarked marks) p by.0 left lower in (
              lowered_place (unmarked marks) by.0,
              renumbered (unmarked marks) by.1,
              omega (arith, order, is),
              pruned_at (unmarked marks) lines by.0 by.1 (from_mark by.0 by.3) by.2,
              subst (Contains (map (lowered_place (unmarked marks)) by.1.from)) is
                  (Contains-map (lowered_place (unmarked marks)) by.1.from p by.4),
            )

-- one line more: it is left where it stays
without-next : {X : Type 0} (gone : Places) (xs : List X) (i : ℕ) (x : X) → slice_get xs i ≡ Some x
    → without gone (take (suc i) xs) ≡ without gone (take i xs) ++ (if gone i then [] else x ∷ [])
unfolding without
without-next gone [] i x at = absurd (none-some x at)
without-next gone (y ∷ ys) zero x at = first (gone 0) refl
  where
    same : y ≡ x
    same = same_Some y x at

    first : (b : Bool) → gone 0 ≡ b → without gone (y ∷ []) ≡ without gone [] ++ (if b then [] else x ∷ [])
    first true out = without-out gone y [] out
    first false stays = without-in gone y [] stays ∙ ap (λ z. z ∷ []) same
without-next gone (y ∷ ys) (suc i) x at = rest (gone 0) refl (without-next (λ p. gone (suc p)) ys i x at)
  where
    rest : (b : Bool) → gone 0 ≡ b
        → without (λ p. gone (suc p)) (take (suc i) ys) ≡ without (λ p. gone (suc p)) (take i ys) ++ (if gone (suc i) then [] else x ∷ [])
        → without gone (y ∷ take (suc i) ys) ≡ without gone (y ∷ take i ys) ++ (if gone (suc i) then [] else x ∷ [])
    rest true out ih =
        without-out gone y (take (suc i) ys) out ∙ ih
        ∙ ap (λ zs. zs ++ (if gone (suc i) then [] else x ∷ [])) (sym (without-out gone y (take i ys) out))
    rest false stays ih =
        without-in gone y (take (suc i) ys) stays ∙ ap (λ zs. y ∷ zs) ih
        ∙ ap (λ zs. zs ++ (if gone (suc i) then [] else x ∷ [])) (sym (without-in gone y (take i ys) stays))

pub pruned-next : (gone : Places) (lines : List LineValue) (i : ℕ) (l : LineValue) → slice_get lines i ≡ Some l
    → pruned gone (take (i + 1) lines) ≡ pruned gone (take i lines) ++ (if gone i then [] else renumbered gone l ∷ [])
pruned-next gone lines i l at =
    ap (λ n. pruned gone (take n lines)) next
    ∙ ap (map (renumbered gone)) (without-next gone lines i l at)
    ∙ map-append (renumbered gone) (without gone (take i lines)) (if gone i then [] else l ∷ [])
    ∙ ap (λ zs. pruned gone (take i lines) ++ zs) (last (gone i))
  where
    next : i + 1 ≡ suc i
    next = omega arith

    last : (b : Bool) → map (renumbered gone) (if b then [] else l ∷ []) ≡ (if b then [] else renumbered gone l ∷ [])
    last true = refl
    last false = refl

-- so many are left of the first lines
pub length-pruned : (gone : Places) (lines : List LineValue) (i : ℕ) → i ≤ length lines
    → length (pruned gone (take i lines)) ≡ lowered_place gone i
unfolding count_below without
length-pruned gone lines zero within = refl
length-pruned gone lines (suc i) within =
    go (some_at lines i (omega arith)) (length-pruned gone lines i (omega arith))
  where
    next : suc i ≡ i + 1
    next = omega arith

    more : (b : Bool) → gone i ≡ b → (zs : List LineValue) (l : LineValue) → length zs ≡ lowered_place gone i
        → length (zs ++ (if b then [] else renumbered gone l ∷ [])) ≡ lowered_place gone (suc i)
    more true out zs l size = let same = lowered_out gone i out in omega (arith, length-append zs [])
    more false stays zs l size = let past = lowered_past gone i stays in omega (arith, length-append zs (renumbered gone l ∷ []))

    go : (l : LineValue) × (slice_get lines i ≡ Some l) → length (pruned gone (take i lines)) ≡ lowered_place gone i
        → length (pruned gone (take (suc i) lines)) ≡ lowered_place gone (suc i)
    go (l, at) size =
        ap (λ n. length (pruned gone (take n lines))) next
        ∙ ap (λ (zs : List LineValue). length zs) (pruned-next gone lines i l at)
        ∙ more (gone i) refl (pruned gone (take i lines)) l size

-- where the first places are: none of them, and one more
pub left-none : (gone : Places) → ArePlacesLeft gone 0 []
left-none gone = record { count = refl; places = λ k h. absurd (omega arith) }

pub left-next : (gone : Places) (n : ℕ) (moved : List ℕ) (there : ℕ) → ArePlacesLeft gone n moved → there ≡ lowered_place gone n
    → ArePlacesLeft gone (n + 1) (moved ++ there ∷ [])
left-next gone n moved there left is = record {
  count = omega (arith, length-append moved (there ∷ []), left.count);
  places = λ k h. go k (under k n) h;
}
  where
    go : (k : ℕ) → (k < n) ⊎ (n ≤ k) → k < n + 1 → slice_index (moved ++ there ∷ []) k ≡ lowered_place gone k
    go k (inl lower) h =
        get_or_append_left moved (there ∷ []) 0 k (omega (arith, left.count)) ∙ left.places k lower
    go k (inr high) h =
        let same : k ≡ length moved = omega (arith, left.count) in
        let here : n ≡ k = omega arith in
        ap (λ j. slice_index (moved ++ there ∷ []) j) same ∙ get_or-append_seam moved there [] 0 ∙ is ∙ ap (lowered_place gone) here

-- a line whose places are moved so is renumbered
pub moved_as_left : (gone : Places) (n : ℕ) (moved : List ℕ) (l : LineValue) → ArePlacesLeft gone n moved → All (λ p. p < n) l.from
    → moved_line (slice_index moved) l ≡ renumbered gone l
moved_as_left gone n moved l left below =
    ap (λ (from : List ℕ). record { claim = l.claim; rule = l.rule; from = from }) (same_places l.from below)
  where
    same_places : (places : List ℕ) → All (λ p. p < n) places → map (slice_index moved) places ≡ map (lowered_place gone) places
    same_places [] within = refl
    same_places (p ∷ places) within =
        ap₂ (λ (q : ℕ) (qs : List ℕ). q ∷ qs) (left.places p (All-head (λ q. q < n) p places within))
        (same_places places (All-tail (λ q. q < n) p places within))

-- the lines that are left of the first ones, and of one more
pub put_next : (marks : List Bool) (lines : List LineValue) (i : ℕ) (l : LineValue) (moved : List ℕ) → slice_get lines i ≡ Some l
    → ArePlacesLeft (unmarked marks) i moved → All (λ p. p < i) l.from
    → pruned (unmarked marks) (take i lines) ++ (if is_marked marks i then moved_line (slice_index moved) l ∷ [] else [])
    ≡ pruned (unmarked marks) (take (i + 1) lines)
put_next marks lines i l moved at left below =
    ap (λ (rest : List LineValue). pruned (unmarked marks) (take i lines) ++ rest) (same (is_marked marks i))
    ∙ sym (pruned-next (unmarked marks) lines i l at)
  where
    same : (b : Bool) → (if b then moved_line (slice_index moved) l ∷ [] else []) ≡ (if not b then [] else renumbered (unmarked marks) l ∷ [])
    same true = ap (λ (m : LineValue). m ∷ []) (moved_as_left (unmarked marks) i moved l left below)
    same false = refl

pub pruned-none : (gone : Places) → pruned gone [] ≡ []
unfolding without
pruned-none gone = refl
