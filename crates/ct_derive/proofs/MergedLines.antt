-- Each derivation has one with the same claims, in which no two lines have one claim; so each bound that is derived has an explanation.
use Rattle.std.proofs.Common.{◌≡◌, ℕ, zero, suc, ◌+◌, ◌<◌, ◌≤◌, Bool, true, false, List, [], ◌∷◌, ◌++◌, length, take, All, slice_get, Option, Some, option_map, ◌⊎◌, inl, inr, refl, sym, ap, ap₂, subst, ◌∙◌, arith}
use Rattle.std.specs.Prelude.{◌≢◌, AllPairs}
use Rattle.std.specs.List.{cons_option}
use Rattle.std.proofs.lemmas.Bool.{cases_eq, false≢true}
use Rattle.std.proofs.lemmas.List.{take_all, length-take-le}
use Rattle.std.proofs.lemmas.List.Elements.{All-nil, All-cons, All-head, All-tail}
use Rattle.std.proofs.lemmas.Option.{slice_get_within, none-some, same_Some}
use Rattle.ct_words.specs.declared.entry.Entry.{Entry}
use Rattle.ct_words.specs.declared.claim.Side.{Side}
use Rattle.ct_words.specs.declared.claim.Side.TheVariants.{Lower, Upper}
use Rattle.ct_words.specs.declared.claim.Claim.{Claim}
use Rattle.ct_words.specs.Entry.{same_entry}
use Rattle.ct_words.proofs.EntryLemmas.{same_entry_is, same_entry-self}
use Rattle.ct_rule_parts.specs.declared.support.Support.{Support}
use Rattle.ct_rule_parts.specs.Slot.{Slot, slot_of, claim_at}
use Rattle.ct_rules.specs.Derivation.{LineValue, claims_at, Follows, IsDerivation, IsDerived}
use Rattle.ct_rule_parts.proofs.Places.{IsAtSeam, slice_get-take, slice_get-append_left, slice_get-append_cases, slice_get_last}
use Rattle.ct_rules.proofs.Derivations.{derivation-nil, derivation-take, derivation-push}
use Rattle.ct_derive.specs.Explanation.{IsExplanation}
use Rattle.ct_derive.specs.Pruning.{pruned, unmarked}
use Rattle.ct_derive.proofs.PrunedLines.{some_at, get_of_take, pairs_from_places, pair_at_places, explanation_of_last}
use Rattle.ct_derive.proofs.MarkedLines.{marks_exist}

-- two claims are the same, or not
same_side : (s t : Side) → (s ≡ t) ⊎ (s ≡ t → ⊥)
same_side Lower Lower = inl refl
same_side Lower Upper = inr (λ h. cc)
same_side Upper Lower = inr (λ h. cc)
same_side Upper Upper = inl refl

one_entry : (e f : Entry) → (e ≡ f) ⊎ (e ≡ f → ⊥)
one_entry e f = go (same_entry e f) refl
  where
    go : (b : Bool) → same_entry e f ≡ b → (e ≡ f) ⊎ (e ≡ f → ⊥)
    go true is = inl (same_entry_is e f is)
    go false is = inr (λ same. false≢true (sym is ∙ sym (ap (same_entry e) same) ∙ same_entry-self e))

claims_from_parts : (c d : Claim) → c.side ≡ d.side → c.entry ≡ d.entry → c.value ≡ d.value → c ≡ d
claims_from_parts c d s e v = λ i. record { side = s i; entry = e i; value = v i }

pub one_claim : (c d : Claim) → (c ≡ d) ⊎ (c ≡ d → ⊥)
one_claim c d = go (same_side c.side d.side) (one_entry c.entry d.entry) (cases_eq c.value d.value)
  where
    go : (c.side ≡ d.side) ⊎ (c.side ≡ d.side → ⊥) → (c.entry ≡ d.entry) ⊎ (c.entry ≡ d.entry → ⊥)
        → (c.value ≡ d.value) ⊎ (c.value ≡ d.value → ⊥) → (c ≡ d) ⊎ (c ≡ d → ⊥)
    go (inl s) (inl e) (inl v) = inl (claims_from_parts c d s e v)
    go (inr s) e v = inr (λ same. s (ap (λ (x : Claim). x.side) same))
    go (inl s) (inr e) v = inr (λ same. e (ap (λ (x : Claim). x.entry) same))
    go (inl s) (inl e) (inr v) = inr (λ same. v (ap (λ (x : Claim). x.value) same))

-- a line has the claim
abbrev pub IsClaimed : List LineValue → Claim → Type 0
IsClaimed lines c = (p : ℕ) × (l : LineValue) × (slice_get lines p ≡ Some l) × (l.claim ≡ c)

claimed_or_not : (lines : List LineValue) (c : Claim) → IsClaimed lines c ⊎ (IsClaimed lines c → ⊥)
claimed_or_not [] c = inr (λ has. none-some has.1 has.2)
claimed_or_not (l ∷ lines) c = go (one_claim l.claim c) (claimed_or_not lines c)
  where
    go : (l.claim ≡ c) ⊎ (l.claim ≡ c → ⊥) → IsClaimed lines c ⊎ (IsClaimed lines c → ⊥)
        → IsClaimed (l ∷ lines) c ⊎ (IsClaimed (l ∷ lines) c → ⊥)
    go (inl same) rest = inl (0, l, refl, same)
    go (inr other) (inl has) = inl (suc has.0, has.1, has.2, has.3)
    go (inr other) (inr none) = inr (λ has. apart has.0 has.1 has.2 has.3)
      where
        apart : (p : ℕ) (m : LineValue) → slice_get (l ∷ lines) p ≡ Some m → m.claim ≡ c → ⊥
        apart zero m at is = other (ap (λ (x : LineValue). x.claim) (same_Some l m at) ∙ is)
        apart (suc p) m at is = none (p, m, at, is)

-- where claims of some lines stand among others
pub record Found (before kept : List LineValue) (places : List ℕ) : Type 0 where
  pub moved : List ℕ
  pub within : All (λ p. p < length kept) moved
  pub same : claims_at kept moved ≡ claims_at before places

found : (before kept : List LineValue) → ((i : ℕ) (l : LineValue) → slice_get before i ≡ Some l → IsClaimed kept l.claim)
    → (places : List ℕ) → All (λ p. p < length before) places → Found before kept places
found before kept all [] within = record { moved = []; within = All-nil (λ p. p < length kept); same = refl }
found before kept all (p ∷ places) within =
    go (some_at before p (All-head (λ q. q < length before) p places within))
    (found before kept all places (All-tail (λ q. q < length before) p places within))
  where
    go : (l : LineValue) × (slice_get before p ≡ Some l) → Found before kept places → Found before kept (p ∷ places)
    go (l, at) rest =
        let there = all p l at in
        record {
          moved = there.0 ∷ rest.moved;
          within =
              All-cons (λ q. q < length kept) there.0 rest.moved (slice_get_within kept there.0 there.1 there.2) rest.within;
          same =
              ap₂ (λ (o : Option Claim) (cs : List Claim). cons_option o cs)
              (ap (option_map (λ (m : LineValue). m.claim)) there.2 ∙ ap Some there.3
              ∙ ap (option_map (λ (m : LineValue). m.claim)) (sym at))
              rest.same;
        }

-- a derivation of the same claims, no two of them the same
pub record Merged (supports : List Support) (lines : List LineValue) : Type 0 where
  pub kept : List LineValue
  pub derivation : IsDerivation supports kept
  pub different : AllPairs (λ l m. l.claim ≢ m.claim) kept
  pub all : (i : ℕ) (l : LineValue) → slice_get lines i ≡ Some l → IsClaimed kept l.claim

claimed_more : (kept more : List LineValue) (c : Claim) → IsClaimed kept c → IsClaimed (kept ++ more) c
claimed_more kept more c has =
    (has.0, has.1, slice_get-append_left kept more has.0 (slice_get_within kept has.0 has.1 has.2) ∙ has.2, has.3)

different-push : (kept : List LineValue) (line : LineValue) → AllPairs (λ l m. l.claim ≢ m.claim) kept
    → (IsClaimed kept line.claim → ⊥) → AllPairs (λ l m. l.claim ≢ m.claim) (kept ++ line ∷ [])
different-push kept line different fresh =
    pairs_from_places (λ l m. l.claim ≢ m.claim) (kept ++ line ∷ [])
    (λ i j l m lower at other.
    go i j l m lower (slice_get-append_cases kept (line ∷ []) i l at) (slice_get-append_cases kept (line ∷ []) j m other))
  where
    go : (i j : ℕ) (l m : LineValue) → i < j → IsAtSeam kept (line ∷ []) i l → IsAtSeam kept (line ∷ []) j m → l.claim ≢ m.claim
    go i j l m lower (inl at) (inl other) = pair_at_places (λ l m. l.claim ≢ m.claim) kept different i j l m lower at.1 other.1
    go i j l m lower (inl at) (inr (zero, past, is)) =
        λ same. fresh (i, l, at.1, same ∙ ap (λ (x : LineValue). x.claim) (sym (same_Some line m is)))
    go i j l m lower at (inr (suc k, past, is)) = absurd (none-some m is)
    go i j l m lower (inr (zero, before, is)) (inl other) = absurd (let inside = other.0 in omega arith)
    go i j l m lower (inr (zero, before, is)) (inr (zero, past, at)) = absurd (omega arith)
    go i j l m lower (inr (suc k, before, is)) other = absurd (none-some l is)

-- one line more
merged-push : (supports : List Support) (lines : List LineValue) (line : LineValue) → Merged supports lines
    → Follows supports lines line → Merged supports (lines ++ line ∷ [])
merged-push supports lines line merged follows =
    go (claimed_or_not merged.kept line.claim) (found lines merged.kept merged.all line.from follows.earlier)
  where
    all_from : (kept : List LineValue) → ((i : ℕ) (l : LineValue) → slice_get lines i ≡ Some l → IsClaimed kept l.claim)
        → IsClaimed kept line.claim
        → (i : ℕ) (l : LineValue) → slice_get (lines ++ line ∷ []) i ≡ Some l → IsClaimed kept l.claim
    all_from kept before has i l at = at_seam (slice_get-append_cases lines (line ∷ []) i l at)
      where
        at_seam : IsAtSeam lines (line ∷ []) i l → IsClaimed kept l.claim
        at_seam (inl here) = before i l here.1
        at_seam (inr (zero, past, is)) = subst (λ (x : LineValue). IsClaimed kept x.claim) (same_Some line l is) has
        at_seam (inr (suc k, past, is)) = absurd (none-some l is)

    go : IsClaimed merged.kept line.claim ⊎ (IsClaimed merged.kept line.claim → ⊥) → Found lines merged.kept line.from
        → Merged supports (lines ++ line ∷ [])
    go (inl has) places = record {
      kept = merged.kept;
      derivation = merged.derivation;
      different = merged.different;
      all = all_from merged.kept merged.all has;
    }
    go (inr fresh) places = record {
      kept = merged.kept ++ other ∷ [];
      derivation = derivation-push supports merged.kept other merged.derivation (record {
        earlier = places.within;
        side = follows.side;
        premises = rw places.same follows.premises;
        value = rw places.same follows.value;
      });
      different = different-push merged.kept other merged.different fresh;
      all = all_from (merged.kept ++ other ∷ []) (λ i l at. claimed_more merged.kept (other ∷ []) l.claim (merged.all i l at))
          (length merged.kept, other, slice_get_last merged.kept other, refl);
    }
      where
        other : LineValue
        other = record { claim = line.claim; rule = line.rule; from = places.moved }

-- the first lines and one more
take_next : (lines : List LineValue) (n : ℕ) (l : LineValue) → slice_get lines n ≡ Some l
    → take n lines ++ l ∷ [] ≡ take (suc n) lines
take_next [] n l at = absurd (none-some l at)
take_next (m ∷ lines) zero l at = ap (λ (x : LineValue). x ∷ []) (sym (same_Some m l at))
take_next (m ∷ lines) (suc n) l at = ap (λ (rest : List LineValue). m ∷ rest) (take_next lines n l at)

merged_front : (supports : List Support) (lines : List LineValue) → IsDerivation supports lines → (n : ℕ) → n ≤ length lines
    → Merged supports (take n lines)
merged_front supports lines derivation zero within = record {
  kept = [];
  derivation = derivation-nil supports;
  different = λ i j d lower past. absurd (omega arith);
  all = λ i l at. absurd (none-some l at);
}
merged_front supports lines derivation (suc n) within =
    let here = some_at lines n (omega arith) in
    subst (Merged supports) (take_next lines n here.0 here.1)
    (merged-push supports (take n lines) here.0 (merged_front supports lines derivation n (omega arith)) (derivation n here.0 here.1))

pub merged_of : (supports : List Support) (lines : List LineValue) → IsDerivation supports lines → Merged supports lines
merged_of supports lines derivation =
    subst (Merged supports) (take_all (length lines) lines (omega arith))
    (merged_front supports lines derivation (length lines) (omega arith))

-- lines up to one of them
pub different-take : (n : ℕ) (lines : List LineValue) → AllPairs (λ l m. l.claim ≢ m.claim) lines
    → AllPairs (λ l m. l.claim ≢ m.claim) (take n lines)
different-take n lines different =
    pairs_from_places (λ l m. l.claim ≢ m.claim) (take n lines)
    (λ i j l m lower at other.
    pair_at_places (λ l m. l.claim ≢ m.claim) lines different i j l m lower (slice_get-take n lines i l at).1
    (slice_get-take n lines j m other).1)

-- each claim of a derivation whose claims are different has an explanation
pub explained_line : (supports : List Support) (lines : List LineValue) (p : ℕ) (l : LineValue) → IsDerivation supports lines
    → AllPairs (λ l m. l.claim ≢ m.claim) lines → slice_get lines p ≡ Some l
    → (marks : List Bool) × IsExplanation supports (slot_of l.claim) l.claim.value (pruned (unmarked marks) (take (suc p) lines))
explained_line supports lines p l derivation different at =
    let within = slice_get_within lines p l at in
    let size = length-take-le (suc p) lines (omega arith) in
    let ends : p + 1 ≡ length (take (suc p) lines) = omega arith in
    let front = derivation-take supports (suc p) lines derivation in
    let marks = marks_exist supports (take (suc p) lines) p front ends in (
      marks.0,
      explanation_of_last supports (take (suc p) lines) marks.0 p l front (different-take (suc p) lines different) marks.1 ends
          (get_of_take lines (suc p) p (omega arith) ∙ at),
    )

pub explanation_exists : (supports : List Support) (s : Slot) (v : ℕ) → IsDerived supports (claim_at s v)
    → (lines : List LineValue) × IsExplanation supports s v lines
explanation_exists supports s v derived =
    go (merged_of supports (derived.before ++ derived.last ∷ []) derived.derivation)
  where
    go : Merged supports (derived.before ++ derived.last ∷ []) → (lines : List LineValue) × IsExplanation supports s v lines
    go merged =
        let has = merged.all (length derived.before) derived.last (slice_get_last derived.before derived.last) in
        let explained = explained_line supports merged.kept has.0 has.1 merged.derivation merged.different has.2 in
        let is : has.1.claim ≡ claim_at s v = has.3 ∙ derived.claim in (
          pruned (unmarked explained.0) (take (suc has.0) merged.kept),
          subst (λ (c : Claim). IsExplanation supports (slot_of c) c.value (pruned (unmarked explained.0) (take (suc has.0) merged.kept)))
              is explained.1,
        )
