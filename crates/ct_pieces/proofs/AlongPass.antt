-- One walk over pieces that stand, with the names of those that go so far, finds all that go.
use Rattle.std.proofs.Common.{◌≡◌, ℕ, ◌+◌, ◌<◌, ◌||◌, ◌&&◌, Bool, true, false, cond, List, [], ◌∷◌, length, take, get_or, Some, refl, sym, ap, subst, ◌∙◌, inl, inr, ◌⊎◌}
use Rattle.std.specs.Prelude.{slice_get}
use Rattle.std.specs.List.{list_any}
use Rattle.std.specs.Str.{bytes_eq}
use Rattle.std.proofs.lemmas.List.Folds.{list_any_more}
use Rattle.std.proofs.lemmas.Option.{same_Some, get_or_from_slice_get}
use Rattle.std.proofs.lemmas.Slice.Eq.{bytes_eq-Decides}
use Rattle.ct_files.specs.ByKind.{ids_of_parts, names}
use Rattle.ct_piece.specs.Piece.{PieceValue, has_id}
use Rattle.ct_piece.specs.Standing.{AreStanding}
use Rattle.ct_piece.specs.Withdrawal.{IsTakenAlong, taken_along, is_id_among}
use Rattle.ct_piece.specs.Withdrawal.IsTakenAlong.{itself, by_part}
use Rattle.ct_piece.proofs.EarlierParts.{part_before}
use Rattle.ct_piece.proofs.AlongLemmas.{has_id-at}
use Rattle.ct_piece.proofs.TakenAlong.{taken_are_along, has_id-take}

-- two tests that say the same
same_test : (a b : Bool) → (a ≡ true → b ≡ true) → (b ≡ true → a ≡ true) → a ≡ b
same_test true b there back = sym (there refl)
same_test false true there back = back refl
same_test false false there back = refl

both_true : (a b : Bool) → a ≡ true → b ≡ true → (a && b) ≡ true
both_true true b first second = second
both_true false b first second = absurd cc

of_both : (a b : Bool) → (a && b) ≡ true → (a ≡ true) × (b ≡ true)
of_both true b h = (refl, h)
of_both false b h = absurd cc

of_either : (a b : Bool) → (a || b) ≡ true → (a ≡ true) ⊎ (b ≡ true)
of_either true b h = inl refl
of_either false b h = inr h

either_first : (a b : Bool) → a ≡ true → (a || b) ≡ true
either_first true b h = refl
either_first false b h = absurd cc

either_second : (a b : Bool) → b ≡ true → (a || b) ≡ true
either_second true b h = refl
either_second false b h = h

-- an id of a list that passes a test
any_at : (test : List ℕ → Bool) (ids : List (List ℕ)) → list_any test ids ≡ true
    → (id : List ℕ) × (test id ≡ true) × (list_any (λ (i : List ℕ). bytes_eq i id) ids ≡ true)
any_at test [] h = absurd cc
any_at test (i ∷ ids) h = of (of_either (test i) (list_any test ids) h) (any_at test ids) where
  of : (test i ≡ true) ⊎ (list_any test ids ≡ true)
      → (list_any test ids ≡ true → (id : List ℕ) × (test id ≡ true) × (list_any (λ (j : List ℕ). bytes_eq j id) ids ≡ true))
      → (id : List ℕ) × (test id ≡ true) × (list_any (λ (j : List ℕ). bytes_eq j id) (i ∷ ids) ≡ true)
  of (inl here) rest = (i, here, either_first (bytes_eq i i) (list_any (λ (j : List ℕ). bytes_eq j i) ids) ((bytes_eq-Decides i i).1 refl))
  of (inr later) rest =
      let found = rest later in
      (found.0, found.1, either_second (bytes_eq i found.0) (list_any (λ (j : List ℕ). bytes_eq j found.0) ids) found.2)

any_named : (test : List ℕ → Bool) (ids : List (List ℕ)) (id : List ℕ) → list_any (λ (i : List ℕ). bytes_eq i id) ids ≡ true → test id ≡ true
    → list_any test ids ≡ true
any_named test [] id named h = absurd cc
any_named test (i ∷ ids) id named h =
    of (of_either (bytes_eq i id) (list_any (λ (j : List ℕ). bytes_eq j id) ids) named) (λ later. any_named test ids id later h)
  where
    of : (bytes_eq i id ≡ true) ⊎ (list_any (λ (j : List ℕ). bytes_eq j id) ids ≡ true)
        → (list_any (λ (j : List ℕ). bytes_eq j id) ids ≡ true → list_any test ids ≡ true) → list_any test (i ∷ ids) ≡ true
    of (inl same) rest =
        either_first (test i) (list_any test ids) (subst (λ (j : List ℕ). test j ≡ true) (sym ((bytes_eq-Decides i id).0 same)) h)
    of (inr later) rest = either_second (test i) (list_any test ids) (rest later)

-- after the first k pieces the names are those of the pieces among them that go
pub record AreGone (pieces : List PieceValue) (id : List ℕ) (held : List ℕ → Bool) (k : ℕ) : Type 0 where
  pub are : (q : List ℕ) → held q ≡ (is_id_among (taken_along pieces id) q && has_id q (take k pieces))

pub AreGone-none : (pieces : List PieceValue) (id : List ℕ) (held : List ℕ → Bool) → ((q : List ℕ) → held q ≡ false) → AreGone pieces id held 0
AreGone-none pieces id held none = record { are = λ q. none q ∙ at (is_id_among (taken_along pieces id) q) } where
  at : (b : Bool) → false ≡ (b && false)
  at true = refl
  at false = refl

module _ (pieces : List PieceValue) (id : List ℕ) (held : List ℕ → Bool) (k : ℕ) (p : PieceValue) (h : AreStanding pieces)
    (here : slice_get pieces k ≡ Some p) (gone : AreGone pieces id held k) where
  -- a part that goes is among the names
  held_part : (q : PieceValue) → names p.evidence q.id ≡ true → is_id_among (taken_along pieces id) q.id ≡ true → held q.id ≡ true
  held_part q named out =
      gone.are q.id ∙ both_true (is_id_among (taken_along pieces id) q.id) (has_id q.id (take k pieces)) out (part_before pieces k p q.id h here named)

  of_taken : IsTakenAlong pieces id k → (bytes_eq p.id id || list_any held (ids_of_parts p.evidence)) ≡ true
  of_taken (itself _ own at is) =
      let same : p.id ≡ id = ap (λ (r : PieceValue). r.id) (same_Some p own (sym here ∙ at)) ∙ is in
      either_first (bytes_eq p.id id) (list_any held (ids_of_parts p.evidence)) ((bytes_eq-Decides p.id id).1 same)
  of_taken (by_part _ j own q at there named rest) =
      let same : own ≡ p = same_Some own p (sym at ∙ here) in
      let named_here = subst (λ (r : PieceValue). names r.evidence q.id ≡ true) same named in
      let out = (taken_are_along pieces id j q h there).1 rest in
      either_second (bytes_eq p.id id) (list_any held (ids_of_parts p.evidence))
      (any_named held (ids_of_parts p.evidence) q.id named_here (held_part q named_here out))

  to_taken : (bytes_eq p.id id || list_any held (ids_of_parts p.evidence)) ≡ true → IsTakenAlong pieces id k
  to_taken is = of (of_either (bytes_eq p.id id) (list_any held (ids_of_parts p.evidence)) is) where
    of : (bytes_eq p.id id ≡ true) ⊎ (list_any held (ids_of_parts p.evidence) ≡ true) → IsTakenAlong pieces id k
    of (inl own) = itself k p here ((bytes_eq-Decides p.id id).0 own)
    of (inr part) =
        let found = any_at held (ids_of_parts p.evidence) part in
        let among = of_both (is_id_among (taken_along pieces id) found.0) (has_id found.0 (take k pieces)) (sym (gone.are found.0) ∙ found.1) in
        let there = has_id-at found.0 pieces (has_id-take found.0 pieces k among.1) in
        by_part k there.0 p there.1 here there.2 (subst (λ (i : List ℕ). names p.evidence i ≡ true) (sym there.3) found.2)
        ((taken_are_along pieces id there.0 there.1 h there.2).0 (subst (λ (i : List ℕ). is_id_among (taken_along pieces id) i ≡ true) (sym there.3) among.0))

  -- the piece goes exactly where it has the id or one of its parts goes
  pub goes_is : (bytes_eq p.id id || list_any held (ids_of_parts p.evidence)) ≡ is_id_among (taken_along pieces id) p.id
  goes_is = same_test _ _ (λ is. (taken_are_along pieces id k p h here).1 (to_taken is)) (λ out. of_taken ((taken_are_along pieces id k p h here).0 out))

  read : get_or pieces k p ≡ p
  read = get_or_from_slice_get pieces k p p here

  more : (q : List ℕ) → k < length pieces → has_id q (take (k + 1) pieces) ≡ (has_id q (take k pieces) || bytes_eq p.id q)
  more q within =
      list_any_more (λ (r : PieceValue). bytes_eq r.id q) pieces k p within ∙ ap (λ (r : PieceValue). has_id q (take k pieces) || bytes_eq r.id q) read

  -- its name is put to the others where it goes
  pub AreGone-more : (now : List ℕ → Bool) → is_id_among (taken_along pieces id) p.id ≡ true → ((q : List ℕ) → now q ≡ cond (bytes_eq p.id q) true (held q))
      → k < length pieces → AreGone pieces id now (k + 1)
  AreGone-more now out put within = record {
    are = λ q. put q ∙ at q (bytes_eq p.id q) refl (gone.are q)
        ∙ ap (λ (b : Bool). is_id_among (taken_along pieces id) q && b) (sym (more q within));
  } where
    last : (b : Bool) → (b || true) ≡ true
    last true = refl
    last false = refl

    first : (a : Bool) → (a || false) ≡ a
    first true = refl
    first false = refl

    at : (q : List ℕ) (b : Bool) → bytes_eq p.id q ≡ b → held q ≡ (is_id_among (taken_along pieces id) q && has_id q (take k pieces))
        → cond b true (held q) ≡ (is_id_among (taken_along pieces id) q && (has_id q (take k pieces) || b))
    at q true is before =
        let among = subst (λ (i : List ℕ). is_id_among (taken_along pieces id) i ≡ true) ((bytes_eq-Decides p.id q).0 is) out in
        sym (both_true (is_id_among (taken_along pieces id) q) (has_id q (take k pieces) || true) among (last (has_id q (take k pieces))))
    at q false is before = before ∙ ap (λ (b : Bool). is_id_among (taken_along pieces id) q && b) (sym (first (has_id q (take k pieces))))

  pub AreGone-same : is_id_among (taken_along pieces id) p.id ≡ false → k < length pieces → AreGone pieces id held (k + 1)
  AreGone-same stays within = record {
    are = λ q. gone.are q ∙ at q (bytes_eq p.id q) refl
        ∙ ap (λ (b : Bool). is_id_among (taken_along pieces id) q && b) (sym (more q within));
  } where
    first : (a : Bool) → (a || false) ≡ a
    first true = refl
    first false = refl

    none : (a b c : Bool) → a ≡ false → (a && b) ≡ (a && c)
    none true b c out = absurd cc
    none false b c out = refl

    at : (q : List ℕ) (b : Bool) → bytes_eq p.id q ≡ b
        → (is_id_among (taken_along pieces id) q && has_id q (take k pieces)) ≡ (is_id_among (taken_along pieces id) q && (has_id q (take k pieces) || b))
    at q true is =
        let out = subst (λ (i : List ℕ). is_id_among (taken_along pieces id) i ≡ false) ((bytes_eq-Decides p.id q).0 is) stays in
        none (is_id_among (taken_along pieces id) q) (has_id q (take k pieces)) (has_id q (take k pieces) || true) out
    at q false is = ap (λ (b : Bool). is_id_among (taken_along pieces id) q && b) (sym (first (has_id q (take k pieces))))
