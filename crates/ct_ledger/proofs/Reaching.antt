-- The best lower bound of an entry is at least the size of each piece's code of it.
use Rattle.std.proofs.Common.{◌≡◌, ℕ, ◌<◌, ◌≤◌, true, List, [], ◌∷◌, length, take, get_or, Option, Some, None, is_some, option_map, refl, sym, ap, subst, ◌∙◌, arith}
use Rattle.std.specs.Prelude.{IfSome, IsSome, slice_get}
use Rattle.std.proofs.lemmas.List.{length-map}
use Rattle.std.proofs.lemmas.Option.{slice_get-map, slice_get-get_or, slice_get_within, same_Some}
use Rattle.std.proofs.lemmas.List.Sorted.{length_permutation}
use Rattle.ct_words.specs.declared.limits.TheConstants.{MAX_BOUND}
use Rattle.ct_words.specs.declared.entry.Entry.{Entry}
use Rattle.ct_words.specs.declared.claim.Side.TheVariants.{Lower}
use Rattle.ct_words.specs.Code.{CodeValue, IsCodeOf}
use Rattle.ct_words.specs.Entry.{IsEntry}
use Rattle.ct_rule_parts.specs.declared.support.Support.{Support}
use Rattle.ct_rule_parts.specs.declared.support.Support.TheVariants as support
use Rattle.ct_rule_parts.specs.declared.support.Support.TheVariants.{Nothing, Size, Bound, Local}
use Rattle.ct_rules.specs.Derivation.{IsBest}
use Rattle.ct_rules.proofs.GivenCodes.{support-derived}
use Rattle.ct_kind.specs.declared.evidence.Evidence.TheVariants.{Odd}
use Rattle.ct_kind.specs.Ascending.{ascending}
use Rattle.ct_files.specs.ByKind.{kind_of, stated_entry, has_code, words_over}
use Rattle.ct_files.proofs.GivesByKind.{gives-size, gives-coded}
use Rattle.ct_piece.specs.Piece.{PieceValue}
use Rattle.ct_kind.specs.Ascending.{code_at}
use Rattle.ct_piece.specs.Codes.{codes_of, code_of_place}
use Rattle.ct_piece.specs.Supports.{support_of, supports_of}
use Rattle.ct_piece.specs.Standing.{AreStanding}
use Rattle.ct_kind.proofs.AscendingLemmas.{ascending-moved}
use Rattle.ct_kind.proofs.SizeLemmas.{code-le}
use Rattle.ct_pieces.proofs.PartLemmas.{IsPlaced, placed, Some-piece, piece-coded}

-- the size and the words of a code that was made of words
record IsMadeOf (e : Entry) (words : Option (List ℕ)) (c : CodeValue) : Type 0 where
  entry : e ≡ record { n = c.n; d = c.d; w = c.w }
  size : option_map length words ≡ Some (length c.words)
  most : length c.words ≤ MAX_BOUND

made-of : (e : Entry) (words : Option (List ℕ)) (c : CodeValue) → IsEntry e → IfSome words (λ ws. (1 ≤ length ws) × IsCodeOf e ws) → option_map (code_at e) words ≡ Some c → IsMadeOf e words c
made-of e None c entry code is = absurd cc
made-of e (Some words) c entry code is =
    let same : code_at e words ≡ c = cc in
    let long = length_permutation words (ascending words) (ascending-moved words) in
    let size : length words ≡ length c.words = sym long ∙ ap (λ (d : CodeValue). length d.words) same in
    let most = code-le e words entry code.1 in
    record {
      entry = ap (λ (d : CodeValue). record { n = d.n; d = d.d; w = d.w }) same;
      size = ap Some size;
      most = omega (arith, size, most);
    }

some-words : (words : Option (List ℕ)) (d : CodeValue) → option_map length words ≡ Some (length d.words) → is_some words ≡ true
some-words None d none = absurd cc
some-words (Some ws) d some = refl

-- the support of a piece that has this code
place-support : (ps : List PieceValue) (k : ℕ) (p : PieceValue) (c : CodeValue) → IsPlaced ps k p → code_of_place ps k ≡ Some c
    → (support_of p ≡ Size (record { n = c.n; d = c.d; w = c.w }) (length c.words)) × (length c.words ≤ MAX_BOUND) × IsEntry (record { n = c.n; d = c.d; w = c.w })
place-support ps k p c at is =
    let known = codes_of (take k ps) in
    let e = stated_entry p.evidence in
    let words = words_over known p.evidence in
    let made = made-of e words c at.states.entry at.states.code (sym at.code ∙ is) in
    let coded : has_code p.evidence ≡ true = sym at.states.coded ∙ some-words words c made.size in
    let size : p.size ≡ Some (length c.words) = at.size ∙ at.states.size coded ∙ made.size in (
      ap (kind_of p.evidence).gives size ∙ gives-size p.evidence (length c.words) coded ∙ ap (λ (f : Entry). Size f (length c.words)) made.entry,
      made.most,
      subst IsEntry made.entry at.states.entry,
    )

-- the best lower bound of its entry is no less
pub reached : (ps : List PieceValue) (k : ℕ) (c : CodeValue) (v : ℕ) → AreStanding ps → k < length ps → code_of_place ps k ≡ Some c
    → IsBest (supports_of ps) (Lower, record { n = c.n; d = c.d; w = c.w }) v → length c.words ≤ v
reached [] k c v h below is best = absurd (omega arith)
reached (q ∷ qs) k c v h below is best =
    let ps = q ∷ qs in
    let p = get_or ps k q in
    let read = slice_get-get_or ps k q below in
    let found = place-support ps k p c (placed ps k p h.made below (Some-piece p (get_or ps k p) (sym read ∙ slice_get-get_or ps k p below))) is in
    let at = slice_get-map support_of ps k ∙ ap (option_map support_of) read ∙ ap Some found.0 in
    best.none_better (length c.words) (support-derived (supports_of ps) k (record { n = c.n; d = c.d; w = c.w }) (length c.words) found.2 found.1 at)

-- a code of a piece, and what the piece gives
pub record IsSizeOf (ps : List PieceValue) (k : ℕ) (e : Entry) (size : ℕ) (c : CodeValue) : Type 0 where
  pub code : code_of_place ps k ≡ Some c
  pub entry : record { n = c.n; d = c.d; w = c.w } ≡ e
  pub count : length c.words ≡ size

-- the parts of a size
same_size : (e f : Entry) (s t : ℕ) → Size e s ≡ Size f t → (e ≡ f) × (s ≡ t)
same_size e f s t same = (ap entry_in same, ap size_in same)
  where
    entry_in : Support → Entry
    entry_in Nothing = f
    entry_in (Bound d) = f
    entry_in (support.Odd d m) = f
    entry_in (Local d) = f
    entry_in (Size g k) = g

    size_in : Support → ℕ
    size_in Nothing = t
    size_in (Bound d) = t
    size_in (support.Odd d m) = t
    size_in (Local d) = t
    size_in (Size g k) = k

-- where a piece gives a size, it is that of its code
pub size_of_code : (ps : List PieceValue) (k : ℕ) (e : Entry) (size : ℕ) → AreStanding ps → slice_get (supports_of ps) k ≡ Some (Size e size)
    → (c : CodeValue) × IsSizeOf ps k e size c
size_of_code [] k e size h at = absurd (let within = slice_get_within (supports_of []) k (Size e size) at in omega arith)
size_of_code (q ∷ qs) k e size h at = go (code_of_place ps k) refl coded
  where
    ps : List PieceValue
    ps = q ∷ qs

    p : PieceValue
    p = get_or ps k q

    below : k < length ps
    below =
        let within = slice_get_within (supports_of ps) k (Size e size) at in
        let as_many = length-map ps support_of in
        omega arith

    read : slice_get ps k ≡ Some p
    read = slice_get-get_or ps k q below

    given : slice_get (supports_of ps) k ≡ Some (support_of p)
    given = slice_get-map support_of ps k ∙ ap (option_map support_of) read

    coded : is_some (code_of_place ps k) ≡ true
    coded = piece-coded ps k p h.made read ∙ gives-coded p.evidence p.size e size (same_Some (support_of p) (Size e size) (sym given ∙ at))

    go : (o : Option CodeValue) → code_of_place ps k ≡ o → IsSome o → (c : CodeValue) × IsSizeOf ps k e size c
    go None is some = absurd cc
    go (Some c) is some =
        let found = place-support ps k p c (placed ps k p h.made below (Some-piece p (get_or ps k p) (sym read ∙ slice_get-get_or ps k p below))) is in
        let same = same_size (record { n = c.n; d = c.d; w = c.w }) e (length c.words) size
        (same_Some (Size (record { n = c.n; d = c.d; w = c.w }) (length c.words)) (Size e size) (sym (given ∙ ap Some found.0) ∙ at)) in
        (c, record { code = is; entry = same.0; count = same.1 })
