-- One walk over the later lines of a table: what is known of the lines that were passed, and of those that are left.
use Rattle.std.proofs.Common.{◌≡◌, ◌⊎◌, ℕ, zero, suc, ◌+◌, ◌<◌, List, [], ◌∷◌, ◌++◌, length, take, map, All, Option, Some, None, option_map, refl, sym, ap, subst, ◌∙◌, inl, inr, arith, length-append, append_assoc}
use Rattle.std.specs.Prelude.{true, slice_get}
use Rattle.std.specs.List.{cons_option}
use Rattle.std.proofs.lemmas.Bool.{cases_eq}
use Rattle.std.proofs.lemmas.List.{length-take}
use Rattle.std.proofs.lemmas.List.Elements.{All-nil, All-cons, All-contains}
use Rattle.std.proofs.lemmas.Option.{none-some, same_Some, slice_get_within}
use Rattle.ct_words.specs.declared.claim.Claim.{Claim}
use Rattle.ct_words.specs.Entry.{IsEntry}
use Rattle.ct_rule_parts.specs.declared.support.Support.{Support}
use Rattle.ct_rule_parts.specs.Slot.{Slot, slot_of, claim_at, IsBetter}
use Rattle.ct_rules.specs.Derivation.{LineValue, claims_at, Follows}
use Rattle.ct_rules.specs.Rule.{named_place, value_of}
use Rattle.ct_rule_parts.proofs.Places.{slice_get-append_right, slice_get_last}
use Rattle.ct_rules.specs.Removal.{Places, names_one, RestsOnPlaces, voided}
use Rattle.ct_rules.proofs.VoidedSupports.{premises_of-voided, value_of-voided}
use Rattle.ct_kept.specs.Kept.{KeptValue, IsKept, reason_of, with_line_put}
use Rattle.ct_slots.specs.Number.{bound_of}
use Rattle.ct_rule_parts.proofs.GetLemmas.{IsOldOrNew, slice_get-append_some, slice_get_push_cases}
use Rattle.ct_kept.proofs.KeptLemmas.{IsReasonLine, reason_line, line_entry, IsKept-with_line}
use Rattle.ct_table.specs.Inside.Walk.{moved_place, and_places, moved_places, moved_line, with_moved, walk}
use Rattle.ct_table.proofs.MovedPlaces.{moved-within, moved-push_cases, moved-push_old, moved-push_new, moved-push_none, HasUnmoved, moved_line-none, IsMoved, moved_line-some}

-- an element at each place of a list
pub item_there : {X : Type 0} (xs : List X) (i : ℕ) → i < length xs → (x : X) × (slice_get xs i ≡ Some x)
item_there [] i within = absurd (omega arith)
item_there (x ∷ xs) zero within = (x, refl)
item_there (x ∷ xs) (suc i) within = item_there xs i (omega arith)

-- a place of the first items
pub slice_get-front : {X : Type 0} (xs : List X) (n i : ℕ) → i < n → slice_get (take n xs) i ≡ slice_get xs i
slice_get-front xs zero i below = absurd (omega arith)
slice_get-front [] (suc n) i below = refl
slice_get-front (x ∷ xs) (suc n) zero below = refl
slice_get-front (x ∷ xs) (suc n) (suc i) below = slice_get-front xs n i (omega arith)

-- at a place stands a line with the claim and the rule of a line
pub record IsThere (lines : List LineValue) (m : ℕ) (l : LineValue) : Type 0 where
  pub line : LineValue
  pub there : slice_get lines m ≡ Some line
  pub claim : line.claim ≡ l.claim
  pub rule : line.rule ≡ l.rule

-- a line is one that has moved to its place
pub record CameFrom (old : KeptValue) (moved : List (Option ℕ)) (m : ℕ) (k : LineValue) : Type 0 where
  pub place : ℕ
  pub line : LineValue
  pub there : slice_get old.lines place ≡ Some line
  pub mark : moved_place old.base moved place ≡ Some m
  pub claim : k.claim ≡ line.claim

-- the lines that were passed, where each moved, and what is left
pub record IsWalked (gone : Places) (supports : List Support) (old : KeptValue) (moved : List (Option ℕ)) (rest : KeptValue) : Type 0 where
  pub kept : IsKept (voided gone supports) rest
  -- each line that moved is there
  pub went : (p m : ℕ) (l : LineValue) → slice_get old.lines p ≡ Some l → moved_place old.base moved p ≡ Some m → IsThere rest.lines m l
  -- there are no other lines
  pub came : (m : ℕ) (k : LineValue) → slice_get rest.lines m ≡ Some k → CameFrom old moved m k
  -- they kept their order
  pub rising : (p q m n : ℕ) → p < q → moved_place old.base moved p ≡ Some m → moved_place old.base moved q ≡ Some n → m < n
  -- those that stayed behind rest on the set
  pub rests : (p : ℕ) → p < old.base + length moved → moved_place old.base moved p ≡ None → RestsOnPlaces old.lines gone p

-- the lines at places before i, as they moved, have the same claims
record AreCarried (lines rest : List LineValue) (i : ℕ) (from to : List ℕ) : Type 0 where
  earlier : All (λ q. q < length rest) to
  claims : claims_at rest to ≡ claims_at (take i lines) from

module _ (gone : Places) (supports : List Support) (old : KeptValue) (good : IsKept supports old) (moved : List (Option ℕ))
    (rest : KeptValue) (walked : IsWalked gone supports old moved rest) (i : ℕ) (end : i ≡ old.base + length moved)
    (l : LineValue) (found : slice_get old.lines i ≡ Some l) where
  -- one more place of those of a line
  one_carried : (p q : ℕ) (from to : List ℕ) → moved_place old.base moved p ≡ Some q
      → AreCarried old.lines rest.lines i from to → AreCarried old.lines rest.lines i (p ∷ from) (q ∷ to)
  one_carried p q from to at others =
      let below = moved-within old.base moved p q at in
      let inside = slice_get_within old.lines i l found in
      let h = item_there old.lines p (omega (arith, below, inside, end)) in
      let stands = walked.went p q h.0 h.1 at in
      let there : option_map (λ (g : LineValue). g.claim) (slice_get rest.lines q) ≡ Some h.0.claim =
      ap (option_map (λ (g : LineValue). g.claim)) stands.there ∙ ap Some stands.claim in
      let here : option_map (λ (g : LineValue). g.claim) (slice_get (take i old.lines) p) ≡ Some h.0.claim =
      ap (option_map (λ (g : LineValue). g.claim)) (slice_get-front old.lines i p (omega (arith, below, end)) ∙ h.1) in
      record {
        earlier =
            All-cons (λ r. r < length rest.lines) q to (slice_get_within rest.lines q stands.line stands.there)
            others.earlier;
        claims =
            ap (λ (o : Option Claim). cons_option o (claims_at rest.lines to)) (there ∙ sym here)
            ∙ ap (cons_option (option_map (λ (g : LineValue). g.claim) (slice_get (take i old.lines) p))) others.claims;
      }

  carried : (from to : List ℕ) → moved_places old.base moved from ≡ Some to → AreCarried old.lines rest.lines i from to
  carried [] to h =
      subst (AreCarried old.lines rest.lines i []) (same_Some [] to h)
      (record { earlier = All-nil (λ q. q < length rest.lines); claims = refl })
  carried (p ∷ from) to h =
      go (moved_place old.base moved p) (moved_places old.base moved from) refl h
      (λ (qs : List ℕ) e. carried from qs e)
    where
      go : (o : Option ℕ) (ps : Option (List ℕ)) → moved_place old.base moved p ≡ o → and_places o ps ≡ Some to
          → ((qs : List ℕ) → ps ≡ Some qs → AreCarried old.lines rest.lines i from qs)
          → AreCarried old.lines rest.lines i (p ∷ from) to
      go None ps first is others = absurd (none-some to is)
      go (Some q) None first is others = absurd (none-some to is)
      go (Some q) (Some qs) first is others =
          subst (AreCarried old.lines rest.lines i (p ∷ from)) (same_Some (q ∷ qs) to is)
          (one_carried p q from qs first (others qs refl))

  -- the line as it moves follows from those that are left
  follows-moved : (k : LineValue) → IsMoved old.base gone moved l k → Follows (voided gone supports) rest.lines k
  follows-moved k is =
      let follows = good.derivation i l found in
      let e = l.claim.entry in
      let lines = carried l.from k.from is.from in
      subst (Follows (voided gone supports) rest.lines) (sym is.is) (record {
        earlier = lines.earlier;
        side = follows.side;
        premises =
            premises_of-voided gone supports l.rule e is.apart ∙ follows.premises
            ∙ ap (λ (claims : List Claim). Some (map slot_of claims)) (sym lines.claims);
        value =
            ap (λ (claims : List Claim). value_of (voided gone supports) l.rule e (map (λ c. c.value) claims)) lines.claims
            ∙ value_of-voided gone supports l.rule e (map (λ c. c.value) (claims_at (take i old.lines) l.from)) is.apart
            ∙ follows.value;
      })

  -- it bounds a slot of the table
  entry-moved : IsEntry l.claim.entry
  entry-moved = line_entry supports old i l good found

  -- and gives a better bound than stands there: the line that gives that one came before it
  better-moved : IsBetter l.claim.side l.claim.value (bound_of rest.bounds (slot_of l.claim))
  better-moved = go (reason_line (voided gone supports) rest s walked.kept entry-moved)
    where
      s : Slot
      s = slot_of l.claim

      go : ((b : LineValue) × IsReasonLine rest s b) → IsBetter l.claim.side l.claim.value (bound_of rest.bounds s)
      go (b, is) =
          let from = walked.came (reason_of rest s) b is.there in
          let below = moved-within old.base moved from.place (reason_of rest s) from.mark in
          let claim : from.line.claim ≡ claim_at s (bound_of rest.bounds s) = sym from.claim ∙ is.claim in
          let better =
          good.rise from.place i from.line l (omega (arith, below, end)) from.there found (ap slot_of claim) in
          subst (λ (c : Claim). IsBetter c.side l.claim.value c.value) claim better

  -- one more line moves
  one_moved : (k : LineValue) → moved_line old.base gone moved l ≡ Some k
      → IsWalked gone supports old (moved ++ Some (length rest.lines) ∷ []) (with_line_put rest k)
  one_moved k moves = record {
    kept =
        IsKept-with_line (voided gone supports) rest k walked.kept entry (follows-moved k is) better;
    went = λ p m h there at. went p m h there (moved-push_cases old.base moved mark p m at);
    came = λ m h there. came m h (slice_get_push_cases rest.lines k m h there);
    rising = λ p q m n below first second.
        rising p q m n below (moved-push_cases old.base moved mark p m first)
        (moved-push_cases old.base moved mark q n second);
    rests = λ p within none.
        elim (cases_eq p i) [
          | inl same ↦
              absurd (none-some (length rest.lines)
              (sym none ∙ moved-push_new old.base moved mark p (same ∙ end)))
          | inr other ↦
              walked.rests p
              (let more = length-append moved (mark ∷ []) in omega (arith, within, more, other, end))
              (moved-push_none old.base moved mark p none)
        ];
  }
    where
      mark : Option ℕ
      mark = Some (length rest.lines)

      is : IsMoved old.base gone moved l k
      is = moved_line-some old.base gone moved l k moves

      claim : k.claim ≡ l.claim
      claim = ap (λ (h : LineValue). h.claim) is.is

      entry : IsEntry k.claim.entry
      entry = subst (λ (c : Claim). IsEntry c.entry) (sym claim) entry-moved

      better : IsBetter k.claim.side k.claim.value (bound_of rest.bounds (slot_of k.claim))
      better =
          subst (λ (c : Claim). IsBetter c.side c.value (bound_of rest.bounds (slot_of c))) (sym claim) better-moved

      went : (p m : ℕ) (h : LineValue) → slice_get old.lines p ≡ Some h
          → ((moved_place old.base moved p ≡ Some m) ⊎ ((p ≡ old.base + length moved) × (mark ≡ Some m)))
          → IsThere (rest.lines ++ k ∷ []) m h
      went p m h there (inl before) =
          let stands = walked.went p m h there before in
          record {
            line = stands.line;
            there = slice_get-append_some rest.lines (k ∷ []) m stands.line stands.there;
            claim = stands.claim;
            rule = stands.rule;
          }
      went p m h there (inr (at, new)) =
          let one : h ≡ l = same_Some h l (sym there ∙ ap (slice_get old.lines) (at ∙ sym end) ∙ found) in
          subst (IsThere (rest.lines ++ k ∷ []) m) (sym one) (record {
            line = k;
            there =
                ap (slice_get (rest.lines ++ k ∷ [])) (sym (same_Some (length rest.lines) m new))
                ∙ slice_get_last rest.lines k;
            claim = claim;
            rule = ap (λ (g : LineValue). g.rule) is.is;
          })

      came : (m : ℕ) (h : LineValue) → IsOldOrNew rest.lines k m h
          → CameFrom old (moved ++ mark ∷ []) m h
      came m h (inl before) =
          let from = walked.came m h before.1 in
          record {
            place = from.place;
            line = from.line;
            there = from.there;
            mark = moved-push_old old.base moved mark from.place m from.mark;
            claim = from.claim;
          }
      came m h (inr (at, new)) = record {
        place = i;
        line = l;
        there = found;
        mark = moved-push_new old.base moved mark i end ∙ ap Some (sym at);
        claim = ap (λ (g : LineValue). g.claim) (sym new) ∙ claim;
      }

      inside : (p m : ℕ) → moved_place old.base moved p ≡ Some m → m < length rest.lines
      inside p m at =
          let below = moved-within old.base moved p m at in
          let within = slice_get_within old.lines i l found in
          let h = item_there old.lines p (omega (arith, below, within, end)) in
          let stands = walked.went p m h.0 h.1 at in
          slice_get_within rest.lines m stands.line stands.there

      rising : (p q m n : ℕ) → p < q
          → ((moved_place old.base moved p ≡ Some m) ⊎ ((p ≡ old.base + length moved) × (mark ≡ Some m)))
          → ((moved_place old.base moved q ≡ Some n) ⊎ ((q ≡ old.base + length moved) × (mark ≡ Some n))) → m < n
      rising p q m n below (inl first) (inl second) = walked.rising p q m n below first second
      rising p q m n below (inl first) (inr (at, new)) =
          let least = inside p m first in
          let last = same_Some (length rest.lines) n new in
          omega (arith, least, last)
      rising p q m n below (inr (at, new)) (inl second) =
          let least = moved-within old.base moved q n second in
          absurd (omega (arith, least, at, below))
      rising p q m n below (inr (at, new)) (inr (too, again)) = absurd (omega (arith, at, too, below))

  -- or it stays behind, and rests on the set
  behind : moved_line old.base gone moved l ≡ None → RestsOnPlaces old.lines gone i
  behind none = go (moved_line-none old.base gone moved l none)
    where
      go : (names_one gone (named_place l.rule) ≡ true) ⊎ HasUnmoved old.base moved l.from → RestsOnPlaces old.lines gone i
      go (inl names) = ([], (l, found, names))
      go (inr (p, among, unmoved)) =
          let before =
          All-contains (λ q. q < length (take i old.lines)) l.from p (good.derivation i l found).earlier among in
          let count = length-take i old.lines in
          let chain = walked.rests p (omega (arith, before, count, end)) unmoved in
          (p ∷ chain.0, ((l, found, among), chain.1))

  one_behind : moved_line old.base gone moved l ≡ None → IsWalked gone supports old (moved ++ None ∷ []) rest
  one_behind none = record {
    kept = walked.kept;
    went = λ p m h there at. walked.went p m h there (before p m at);
    came = λ m h there.
        let from = walked.came m h there in
        record {
          place = from.place;
          line = from.line;
          there = from.there;
          mark = moved-push_old old.base moved None from.place m from.mark;
          claim = from.claim;
        };
    rising = λ p q m n below first second. walked.rising p q m n below (before p m first) (before q n second);
    rests = λ p within unmoved.
        elim (cases_eq p i) [
          | inl same ↦ subst (RestsOnPlaces old.lines gone) (sym same) (behind none)
          | inr other ↦
              walked.rests p
              (let more = length-append moved (None ∷ []) in omega (arith, within, more, other, end))
              (moved-push_none old.base moved None p unmoved)
        ];
  }
    where
      before : (p m : ℕ) → moved_place old.base (moved ++ None ∷ []) p ≡ Some m → moved_place old.base moved p ≡ Some m
      before p m at = elim (moved-push_cases old.base moved None p m at) [
        | inl old_one ↦ old_one
        | inr new ↦ absurd (none-some m new.1)
      ]

  -- one more line is passed
  pub IsWalked-more : IsWalked gone supports old
      (moved ++ option_map (λ k. length rest.lines) (moved_line old.base gone moved l) ∷ [])
      (with_moved rest (moved_line old.base gone moved l))
  IsWalked-more = go (moved_line old.base gone moved l) refl
    where
      go : (o : Option LineValue) → moved_line old.base gone moved l ≡ o
          → IsWalked gone supports old (moved ++ option_map (λ (k : LineValue). length rest.lines) o ∷ []) (with_moved rest o)
      go None is = one_behind is
      go (Some k) is = one_moved k is

-- the walk over all lines that are left
pub IsWalked-all : (gone : Places) (supports : List Support) (old : KeptValue) → IsKept supports old
    → (later passed : List LineValue) (moved : List (Option ℕ)) (rest : KeptValue) → IsWalked gone supports old moved rest
    → old.lines ≡ passed ++ later → length passed ≡ old.base + length moved
    → (marks : List (Option ℕ)) × (length old.lines ≡ old.base + length marks)
    × IsWalked gone supports old marks (walk old.base gone moved rest later)
IsWalked-all gone supports old good [] passed moved rest walked all count =
    (moved, (let more = ap length all in let whole = length-append passed [] in omega (arith, more, whole, count)), walked)
IsWalked-all gone supports old good (l ∷ later) passed moved rest walked all count =
    let at : slice_get old.lines (length passed) ≡ Some l =
    (let past : length passed ≡ length passed + 0 = omega arith in
    ap (slice_get old.lines) past ∙ ap (λ (ls : List LineValue). slice_get ls (length passed + 0)) all
    ∙ slice_get-append_right passed (l ∷ later) 0) in
    let mark = option_map (λ (k : LineValue). length rest.lines) (moved_line old.base gone moved l) in
    IsWalked-all gone supports old good later (passed ++ l ∷ []) (moved ++ mark ∷ [])
    (with_moved rest (moved_line old.base gone moved l))
    (IsWalked-more gone supports old good moved rest walked (length passed) count l at)
    (all ∙ sym (append_assoc passed (l ∷ []) later))
    (let one = length-append passed (l ∷ []) in
    let more = length-append moved (mark ∷ []) in
    omega (arith, one, more, count))
