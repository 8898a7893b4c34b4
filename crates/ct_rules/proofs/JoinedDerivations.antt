-- Derivations one after the other, and what a rule gives from derived claims.
use Rattle.std.proofs.Common.{◌≡◌, ℕ, suc, ◌+◌, ◌<◌, List, [], ◌∷◌, ◌++◌, length, take, map, All, slice_get, Option, Some, None, option_map, refl, sym, ap, ◌∙◌, subst, inl, inr, length-append, arith}
use Rattle.std.proofs.lemmas.List.{take-append-le, take-map, length-map}
use Rattle.std.proofs.lemmas.List.Elements.{All-nil, All-cons, All-head, All-tail, All-map, All-weaker}
use Rattle.std.proofs.lemmas.Option.{slice_get-map, none-some, same_Some}
use Rattle.ct_words.specs.declared.entry.Entry.{Entry}
use Rattle.ct_words.specs.declared.claim.Claim.{Claim}
use Rattle.ct_rules.specs.declared.rule.Rule.{Rule}
use Rattle.ct_rule_parts.specs.declared.support.Support.{Support}
use Rattle.ct_rules.specs.Rule.{rule_side, premises_of, value_of}
use Rattle.ct_rule_parts.specs.Slot.{slot_of, claim_at}
use Rattle.ct_rules.specs.Derivation.{LineValue, claims_at, Follows, IsDerivation, IsDerived}
use Rattle.ct_rule_parts.proofs.Places.{IsAtSeam, slice_get-append_left, slice_get-append_right, slice_get-append_cases, slice_get_last}
use Rattle.ct_rules.proofs.Derivations.{derivation-push}

-- a line whose places are k further on
abbrev pub moved : ℕ → LineValue → LineValue
moved k line = record { claim = line.claim; rule = line.rule; from = map (λ p. k + p) line.from }

-- the lines of the second derivation after those of the first
abbrev pub followed_by : List LineValue → List LineValue → List LineValue
followed_by first second = first ++ map (moved (length first)) second

-- a moved line claims what the line claims
claim_of_moved : (k : ℕ) (line : Option LineValue)
    → option_map (λ l. l.claim) (option_map (moved k) line) ≡ option_map (λ l. l.claim) line
claim_of_moved k None = refl
claim_of_moved k (Some line) = refl

-- the claim at a moved place is that of the second derivation
claim_at-moved : (first second : List LineValue) (p : ℕ)
    → option_map (λ l. l.claim) (slice_get (followed_by first second) (length first + p))
    ≡ option_map (λ l. l.claim) (slice_get second p)
claim_at-moved first second p =
    ap (option_map (λ (l : LineValue). l.claim))
    (slice_get-append_right first (map (moved (length first)) second) p ∙ slice_get-map (moved (length first)) second p)
    ∙ claim_of_moved (length first) (slice_get second p)

-- the claims at moved places are those of the second derivation
pub claims_at-moved : (first second : List LineValue) (places : List ℕ)
    → claims_at (followed_by first second) (map (λ p. length first + p) places) ≡ claims_at second places
claims_at-moved first second [] = refl
claims_at-moved first second (p ∷ places) =
    let rest = claims_at-moved first second places in
    rw (claim_at-moved first second p, rest) refl

-- the first lines of two derivations, past the first one
take-past : (first second : List LineValue) (j : ℕ)
    → take (length first + j) (followed_by first second) ≡ followed_by first (take j second)
take-past first second j =
    take_past first (map (moved (length first)) second) j
    ∙ ap (λ (rest : List LineValue). first ++ rest) (take-map (moved (length first)) j second)
  where
    take_past : (xs ys : List LineValue) (j : ℕ) → take (length xs + j) (xs ++ ys) ≡ xs ++ take j ys
    take_past [] ys j = let same : 0 + j ≡ j = omega arith in ap (λ (n : ℕ). take n ys) same
    take_past (x ∷ xs) ys j =
        let same : suc (length xs) + j ≡ suc (length xs + j) = omega arith in
        ap (λ (n : ℕ). take n (x ∷ (xs ++ ys))) same ∙ ap (λ (rest : List LineValue). x ∷ rest) (take_past xs ys j)

-- places of the second derivation, moved, are places of both
within-moved : (first second : List LineValue) (places : List ℕ) → All (λ p. p < length second) places
    → All (λ p. p < length (followed_by first second)) (map (λ p. length first + p) places)
within-moved first second places within =
    All-map (λ p. p < length (followed_by first second)) (λ p. length first + p) places
    (All-weaker (λ p. p < length second) (λ p. length first + p < length (followed_by first second))
    (λ p below.
    let both = length-append first (map (moved (length first)) second) in
    let last = length-map second (moved (length first)) in
    omega arith)
    places within)

-- a line of the second derivation follows from the lines before it, moved
follows-moved : (supports : List Support) (first before : List LineValue) (line : LineValue)
    → Follows supports before line
    → Follows supports (followed_by first before) (moved (length first) line)
follows-moved supports first before line follows = record {
  earlier = within-moved first before line.from follows.earlier;
  side = follows.side;
  premises = rw (claims_at-moved first before line.from) follows.premises;
  value = rw (claims_at-moved first before line.from) follows.value;
}

-- two derivations, one after the other, are a derivation
pub derivation-followed_by : (supports : List Support) (first second : List LineValue) → IsDerivation supports first
    → IsDerivation supports second
    → IsDerivation supports (followed_by first second)
derivation-followed_by supports first second derivation other i line is =
    go (slice_get-append_cases first (map (moved (length first)) second) i line is)
  where
    moved_line : (j : ℕ) (at : Option LineValue) → slice_get second j ≡ at
        → option_map (moved (length first)) at ≡ Some line
        → Follows supports (take (length first + j) (followed_by first second)) line
    moved_line j None at is = absurd (none-some line is)
    moved_line j (Some original) at is =
        subst (λ (l : LineValue). Follows supports (take (length first + j) (followed_by first second)) l)
        (same_Some (moved (length first) original) line is)
        (subst (λ (before : List LineValue). Follows supports before (moved (length first) original))
        (sym (take-past first second j))
        (follows-moved supports first (take j second) original (other j original at)))

    go : IsAtSeam first (map (moved (length first)) second) i line
        → Follows supports (take i (followed_by first second)) line
    go (inl here) =
        let same : take i (followed_by first second) ≡ take i first =
        take-append-le i first (map (moved (length first)) second) (omega arith) in
        subst (λ (before : List LineValue). Follows supports before line) (sym same) (derivation i line here.1)
    go (inr past) =
        subst (λ (n : ℕ). Follows supports (take n (followed_by first second)) line) (sym past.1)
        (moved_line past.0 (slice_get second past.0) refl
        (sym (slice_get-map (moved (length first)) second past.0) ∙ past.2))

-- one derivation of some claims, and the places where they stand
pub record Gathered (supports : List Support) (claims : List Claim) : Type 0 where
  pub lines : List LineValue
  pub derivation : IsDerivation supports lines
  pub places : List ℕ
  pub within : All (λ p. p < length lines) places
  pub claims_are : claims_at lines places ≡ claims

-- the last claim of one derivation, and those of another
gathered-cons : (supports : List Support) (c : Claim) (claims : List Claim) → IsDerived supports c
    → Gathered supports claims
    → Gathered supports (c ∷ claims)
gathered-cons supports c claims one rest = record {
  lines = followed_by first rest.lines;
  derivation = derivation-followed_by supports first rest.lines one.derivation rest.derivation;
  places = length one.before ∷ map (λ p. length first + p) rest.places;
  within =
      All-cons (λ p. p < length (followed_by first rest.lines)) (length one.before)
      (map (λ p. length first + p) rest.places)
      (omega (
        arith,
        length-append first (map (moved (length first)) rest.lines),
        length-append one.before (one.last ∷ []),
      ))
      (within-moved first rest.lines rest.places rest.within);
  claims_are =
      rw (last, claims_at-moved first rest.lines rest.places, rest.claims_are)
      (ap (λ (x : Claim). x ∷ claims) one.claim);
}
  where
    first : List LineValue
    first = one.before ++ one.last ∷ []

    last : slice_get (followed_by first rest.lines) (length one.before) ≡ Some one.last
    last =
        slice_get-append_left first (map (moved (length first)) rest.lines) (length one.before)
        (omega (arith, length-append one.before (one.last ∷ []))) ∙
        slice_get_last one.before one.last

-- claims that are derived have one derivation together
pub gathered : (supports : List Support) (claims : List Claim) → All (IsDerived supports) claims
    → Gathered supports claims
gathered supports [] each = record {
  lines = [];
  derivation = λ i line is. absurd (none-some line is);
  places = [];
  within = All-nil (λ p. p < 0);
  claims_are = refl;
}
gathered supports (c ∷ claims) each =
    gathered-cons supports c claims (All-head (IsDerived supports) c claims each)
    (gathered supports claims (All-tail (IsDerived supports) c claims each))

-- what a rule gives from derived claims is derived
pub derived_by_rule : (supports : List Support) (r : Rule) (e : Entry) (claims : List Claim) (v : ℕ)
    → premises_of supports r e ≡ Some (map slot_of claims) → All (IsDerived supports) claims
    → value_of supports r e (map (λ c. c.value) claims) ≡ Some v
    → IsDerived supports (claim_at (rule_side r, e) v)
derived_by_rule supports r e claims v premises each value = go (gathered supports claims each)
  where
    go : Gathered supports claims → IsDerived supports (claim_at (rule_side r, e) v)
    go all = record {
      before = all.lines;
      last = line;
      derivation = derivation-push supports all.lines line all.derivation (record {
        earlier = all.within;
        side = refl;
        premises = rw all.claims_are premises;
        value = rw all.claims_are value;
      });
      claim = refl;
    }
      where
        line : LineValue
        line = record { claim = claim_at (rule_side r, e) v; rule = r; from = all.places }
