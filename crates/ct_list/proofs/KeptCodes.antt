-- The codes that are kept for lines: what stays where one is taken, and where one is put.
use Rattle.std.proofs.Common.{◌≡◌, ℕ, zero, suc, ◌+◌, ◌-◌, ◌<◌, ◌≤◌, ◌==◌, ◌||◌, List, [], ◌∷◌, ◌++◌, length, take, drop, get_or, All, Option, Some, None, Result, Ok, Err, IfOk, true, false, refl, sym, ap, subst, ◌∙◌, inl, inr, arith}
use Rattle.std.specs.Prelude.{Bool, if◌then◌else◌, ◌≢◌, slice_get, slice_set}
use Rattle.std.proofs.lemmas.Bool.{or_parts, eqb-false, cases_lt}
use Rattle.std.proofs.lemmas.Option.{slice_get_within, slice_get_read, same_Some}
use Rattle.std.proofs.Math.Seq.{drop-cons}
use Rattle.std.proofs.lemmas.List.{length-set, length-append, length-drop, take_all}
use Rattle.std.proofs.lemmas.List.Elements.{All-nil, All-cons, All-head, All-tail, All-append}
use Rattle.ct_words.specs.Code.{CodeValue}
use Rattle.ct_words.specs.Constructions.Places.{is_among}
use Rattle.ct_words.proofs.Constructions.PlaceLemmas.{take-next}
use Rattle.ct_rules.specs.Derivation.{LineValue}
use Rattle.ct_rule_parts.proofs.Places.{slice_get-append_left, slice_get_last}
use Rattle.ct_rule_parts.proofs.GetLemmas.{slice_get-set_other}
use Rattle.ct_list.specs.Inside.Kept.{IsCodeFor, AreCodesFor, IsKept, AreKept, named_by, is_named}

-- a place that is not among some is another than each of them
others-among : (p : ℕ) (places : List ℕ) → is_among places p ≡ false → All (λ q. q ≢ p) places
others-among p [] h = All-nil (λ q. q ≢ p)
others-among p (q ∷ places) h =
    let both = or_parts (q == p) (is_among places p) h in
    All-cons (λ q. q ≢ p) q places (eqb-false q p both.0) (others-among p places both.1)

-- and so where no line names it
others-named : (p : ℕ) (lines : List LineValue) → is_named lines p ≡ false → All (λ q. q ≢ p) (named_by lines)
others-named p [] h = All-nil (λ q. q ≢ p)
others-named p (l ∷ lines) h =
    let both = or_parts (is_among l.from p) (is_named lines p) h in
    All-append (λ q. q ≢ p) l.from (named_by lines) (others-among p l.from both.0) (others-named p lines both.1)

pub others-pending : (p : ℕ) (places : List ℕ) (lines : List LineValue) → (is_among places p || is_named lines p) ≡ false
    → All (λ q. q ≢ p) (places ++ named_by lines)
others-pending p places lines h =
    let both = or_parts (is_among places p) (is_named lines p) h in
    All-append (λ q. q ≢ p) places (named_by lines) (others-among p places both.0) (others-named p lines both.1)

-- where the code of another place is taken out, those that are still to be named stay
pub kept-taken : (lines : List LineValue) (kept : List (Option CodeValue)) (p : ℕ) (pending : List ℕ) → All (λ q. q ≢ p) pending
    → AreKept lines kept pending → AreKept lines (slice_set kept p None) pending
kept-taken lines kept p pending others known = λ k d within built.
    let q = get_or pending k d in
    let size = length-set kept p None in
    let here : IsKept lines kept q = known k d within (omega arith) in
    (here.0, here.1, here.2, slice_get-set_other kept p q None (others k d within) ∙ here.3, here.4)

-- no code is kept at first
pub kept-none : (lines : List LineValue) (pending : List ℕ) → AreKept lines [] pending
kept-none lines pending = λ k d within built. absurd (omega (arith, built))

-- one more code, that of the next line
pub kept-push : (lines : List LineValue) (kept : List (Option CodeValue)) (pending : List ℕ) (l : LineValue) (c : CodeValue)
    → slice_get lines (length kept) ≡ Some l → IsCodeFor l.claim c → AreKept lines kept pending
    → AreKept lines (kept ++ Some c ∷ []) pending
kept-push lines kept pending l c at is known = λ k d within built.
    let q = get_or pending k d in
    let size = length-append kept (Some c ∷ []) in
    elim (cases_lt q (length kept)) [
      | inl before ↦
          let here : IsKept lines kept q = known k d within before in
          (here.0, here.1, here.2, slice_get-append_left kept (Some c ∷ []) q before ∙ here.3, here.4)
      | inr not_before ↦
          let last : length kept ≡ q = omega arith in
          subst (IsKept lines (kept ++ Some c ∷ [])) last (l, c, at, slice_get_last kept (Some c), is)
    ]

-- one more code, that of one more place
pub codes-push : (lines : List LineValue) (places : List ℕ) (codes : List CodeValue) (p : ℕ) (l : LineValue) (c : CodeValue)
    → AreCodesFor lines places codes → slice_get lines p ≡ Some l → IsCodeFor l.claim c
    → AreCodesFor lines (places ++ p ∷ []) (codes ++ c ∷ [])
codes-push lines [] [] p l c h at is = ((l, at, is), tt)
codes-push lines [] (b ∷ codes) p l c h at is = absurd h
codes-push lines (q ∷ places) [] p l c h at is = absurd h
codes-push lines (q ∷ places) (b ∷ codes) p l c h at is = (h.0, codes-push lines places codes p l c h.1 at is)

-- the first of the places that are still to be named, and the others
kept-next : (lines : List LineValue) (kept : List (Option CodeValue)) (from named : List ℕ) (k : ℕ) → k < length from
    → AreKept lines kept (drop k from ++ named) → AreKept lines kept (get_or from k 0 ∷ (drop (k + 1) from ++ named))
kept-next lines kept from named k within known =
    let next : suc k ≡ k + 1 = omega arith in
    subst (λ ps. AreKept lines kept (ps ++ named)) (drop-cons from k 0 within ∙ ap (λ j. get_or from k 0 ∷ drop j from) next) known

pub next_code : (lines : List LineValue) (kept : List (Option CodeValue)) (from named : List ℕ) (k : ℕ) → k < length from
    → get_or from k 0 < length kept → AreKept lines kept (drop k from ++ named) → IsKept lines kept (get_or from k 0)
next_code lines kept from named k within built known =
    All-head (λ p. p < length kept → IsKept lines kept p) (get_or from k 0) (drop (k + 1) from ++ named)
    (kept-next lines kept from named k within known) built

-- once it is taken, those of the others stay
others_kept : (lines : List LineValue) (kept new : List (Option CodeValue)) (p : ℕ) (places : List ℕ) (rest : List LineValue) (needed : Bool)
    → (is_among places p || is_named rest p) ≡ needed → new ≡ (if needed then kept else slice_set kept p None)
    → AreKept lines kept (places ++ named_by rest) → AreKept lines new (places ++ named_by rest)
others_kept lines kept new p places rest true is new_is known =
    subst (λ xs. AreKept lines xs (places ++ named_by rest)) (sym new_is) known
others_kept lines kept new p places rest false is new_is known =
    subst (λ xs. AreKept lines xs (places ++ named_by rest)) (sym new_is)
    (kept-taken lines kept p (places ++ named_by rest) (others-pending p places rest is) known)

pub taken : (lines : List LineValue) (kept new : List (Option CodeValue)) (from : List ℕ) (rest : List LineValue) (k : ℕ)
    (codes : List CodeValue) (code : CodeValue) (needed : Bool) → k < length from → get_or from k 0 < length kept
    → (is_among (drop (k + 1) from) (get_or from k 0) || is_named rest (get_or from k 0)) ≡ needed
    → new ≡ (if needed then kept else slice_set kept (get_or from k 0) None) → slice_get kept (get_or from k 0) ≡ Some (Some code)
    → AreKept lines kept (drop k from ++ named_by rest) → AreCodesFor lines (take k from) codes
    → AreKept lines new (drop (k + 1) from ++ named_by rest) × AreCodesFor lines (take (k + 1) from) (codes ++ code ∷ [])
taken lines kept new from rest k codes code needed within built is new_is at known codes_are =
    let p = get_or from k 0 in
    let here = next_code lines kept from (named_by rest) k within built known in
    let tail =
    All-tail (λ q. q < length kept → IsKept lines kept q) p (drop (k + 1) from ++ named_by rest)
    (kept-next lines kept from (named_by rest) k within known) in
    let same = same_Some here.1 code (same_Some (Some here.1) (Some code) (sym here.3 ∙ at)) in
    let grown = codes-push lines (take k from) codes p here.0 code codes_are here.2 (subst (IsCodeFor here.0.claim) same here.4) in
    let next : k + 1 ≡ suc k = omega arith in
    let longer : take (k + 1) from ≡ take k from ++ p ∷ [] = ap (λ j. take j from) next ∙ take-next from k within in (
      others_kept lines kept new p (drop (k + 1) from) rest needed is new_is tail,
      subst (λ ps. AreCodesFor lines ps (codes ++ code ∷ [])) (sym longer) grown,
    )

-- as many places stay
pub as_many_kept : (kept : List (Option CodeValue)) (p : ℕ) (needed : Bool)
    → length (if needed then kept else slice_set kept p None) ≡ length kept
as_many_kept kept p true = refl
as_many_kept kept p false = length-set kept p None

-- nothing is left past the end
pub drop_past : {X : Type 0} (xs : List X) (k : ℕ) → length xs ≤ k → drop k xs ≡ []
drop_past [] zero past = refl
drop_past [] (suc k) past = refl
drop_past (x ∷ xs) zero past = absurd (omega arith)
drop_past (x ∷ xs) (suc k) past = drop_past xs k (omega arith)

-- the rest of a list, as it is written
pub rest_is : {X : Type 0} (xs : List X) (k : ℕ) → take (length xs - k) (drop k xs) ≡ drop k xs
rest_is xs k =
    let size = length-drop k xs in
    take_all (length xs - k) (drop k xs) (omega arith)

-- the places that the lines from one on name are its own and those of the lines after it
pub named_from : (lines : List LineValue) (i : ℕ) (l : LineValue) → slice_get lines i ≡ Some l
    → named_by (drop i lines) ≡ l.from ++ named_by (drop (i + 1) lines)
named_from lines i l at = go lines i at
  where
    go : (ls : List LineValue) (k : ℕ) → slice_get ls k ≡ Some l → named_by (drop k ls) ≡ l.from ++ named_by (drop (k + 1) ls)
    go [] k at = absurd (let within = slice_get_within [] k l at in omega arith)
    go (m ∷ ls) zero at = ap (λ (n : LineValue). n.from ++ named_by ls) (same_Some m l at)
    go (m ∷ ls) (suc k) at =
        let next : suc k + 1 ≡ suc (k + 1) = omega arith in
        go ls k at ∙ ap (λ j. l.from ++ named_by (drop j (m ∷ ls))) (sym next)

-- what is read where a code is kept is what stands there, and no code is wanting
pub read_kept : (kept : List (Option CodeValue)) (p : ℕ) (c : CodeValue) (o : Option CodeValue) → slice_get kept p ≡ Some (Some c) → o ≡ get_or kept p o
    → slice_get kept p ≡ Some o
read_kept kept p c o at is = slice_get_read kept (length kept) p o refl (slice_get_within kept p (Some c) at) is

pub not_none : (kept : List (Option CodeValue)) (p : ℕ) (c : CodeValue) (o : Option CodeValue) → slice_get kept p ≡ Some (Some c) → o ≡ get_or kept p o
    → o ≡ None → ⊥
not_none kept p c o at is none =
    let some : ◌≡◌ {A = Option CodeValue} (Some c) None = same_Some (Some c) o (sym at ∙ read_kept kept p c o at is) ∙ none in
    absurd cc

-- a copy of the code that stands there
pub copied : {E : Type 0} (kept : List (Option CodeValue)) (p : ℕ) (c : CodeValue) (r : Result CodeValue E) → slice_get kept p ≡ Some (Some c)
    → IfOk r (λ (copy : CodeValue). copy ≡ c) → IfOk r (λ (copy : CodeValue). slice_get kept p ≡ Some (Some copy))
copied kept p c (Ok copy) at same = at ∙ ap (λ (d : CodeValue). Some (Some d)) (sym same)
copied kept p c (Err fault) at same = tt
