-- The pieces at their places: their codes, and the shapes of these.
use Rattle.std.proofs.Common.{◌≡◌, ℕ, zero, suc, ◌<◌, true, false, List, [], ◌∷◌, ◌++◌, length, take, get_or, length-take, Option, Some, None, is_some, option_map, refl, sym, ap, subst, ◌∙◌, arith}
use Rattle.std.specs.Prelude.{slice_get}
use Rattle.std.proofs.lemmas.Option.{slice_get-get_or, slice_get_within}
use Rattle.std.specs.Option.{option_or, option_flatten}
use Rattle.std.proofs.lemmas.List.Elements.{All-nil}
use Rattle.std.proofs.lemmas.List.Sorted.{length_permutation}
use Rattle.ct_words.specs.declared.entry.Entry.{Entry}
use Rattle.ct_words.specs.Code.{CodeValue}
use Rattle.ct_build.specs.Build.{shape_of}
use Rattle.ct_kind.specs.Ascending.{ascending}
use Rattle.ct_kind.specs.Named.{NamedCode, is_known, code_named, other_named}
use Rattle.ct_files.specs.ByKind.{stated_entry, has_code, own_reason, words_over, size_over}
use Rattle.ct_piece.specs.Piece.{PieceValue}
use Rattle.ct_kind.specs.Ascending.{code_at}
use Rattle.ct_files.specs.ByKind.{code_over}
use Rattle.ct_piece.specs.Codes.{named_code, codes_after, codes_of, code_of_place}
use Rattle.ct_piece.specs.Standing.{IsMade, AreMade}
use Rattle.ct_files.specs.ByKind.{kept_over, listed_code}
use Rattle.ct_piece.specs.Inside.Kept.{kept_codes, code_there, code_found, other_place}
use Rattle.ct_piece.specs.Piece.{place_of_id}
use Rattle.ct_kind.proofs.AscendingLemmas.{ascending-moved}
use Rattle.ct_piece.proofs.CodeLemmas.{AreMade-take, made_at, position-some, position-none, known_where_taken}
use Rattle.ct_kind.specs.Sound.{HasSoundCode}
use Rattle.ct_files.proofs.StatedByKind.{StatesCode}
use Rattle.ct_files.proofs.StatedByKind.{IsRight, right-own, states_code}
use Rattle.ct_piece.proofs.MakingLemmas.{making-of, IsMade-right, codes_after-sound, code_of_place-is}
use Rattle.ct_piece.proofs.KeptLemmas.{place-or_listed, kept_at, listed-some, listed-none}
use Rattle.ct_piece.proofs.SupportLemmas.{place_of_id-found, place_of_id-none}

-- what is known of the piece at a place
pub record IsPlaced (ps : List PieceValue) (k : ℕ) (p : PieceValue) : Type 0 where
  pub right : IsRight (codes_of (take k ps)) p.evidence
  pub states : StatesCode (codes_of (take k ps)) p.evidence
  pub entry : p.entry ≡ stated_entry p.evidence
  pub size : p.size ≡ size_over (codes_of (take k ps)) p.evidence
  pub code : code_of_place ps k ≡ code_over (codes_of (take k ps)) p.evidence

made-is : (known : List NamedCode) (p : PieceValue) → IsMade known p → (p.entry ≡ stated_entry p.evidence) × (p.size ≡ size_over known p.evidence)
made-is known p h =
    let m = making-of known p h in
    subst (λ (r : PieceValue). (r.entry ≡ stated_entry r.evidence) × (r.size ≡ size_over known r.evidence)) m.piece (refl, refl)

pub placed : (ps : List PieceValue) (k : ℕ) (p : PieceValue) → AreMade [] ps → k < length ps → p ≡ get_or ps k p → IsPlaced ps k p
placed ps k p made below at =
    let known = codes_of (take k ps) in
    let q = get_or ps k p in
    let own = made_at [] ps k p made below in
    let right = IsMade-right known q own in
    let is = made-is known q own in
    let sound = codes_after-sound [] (take k ps) (All-nil HasSoundCode) (AreMade-take [] ps k made) in
    let here : IsPlaced ps k q = record { right = right; states = states_code known q.evidence sound right; entry = is.0; size = is.1; code = code_of_place-is ps k p below } in
    subst (IsPlaced ps k) (sym at) here

-- the shape of the code of a piece goes by its entry and its size
shape-of_words : (e : Entry) (size : Option ℕ) (words : Option (List ℕ)) (count : ℕ) → is_some words ≡ true → size ≡ option_map length words → size ≡ Some count
    → option_map shape_of (option_map (code_at e) words) ≡ Some (record { n = e.n; d = e.d; w = e.w; size = count })
shape-of_words e size None count some is count_is = absurd cc
shape-of_words e size (Some words) count some is count_is =
    let same : length words ≡ count = cc in
    let long = length_permutation words (ascending words) (ascending-moved words) in
    ap (λ (s : ℕ). Some (record { n = e.n; d = e.d; w = e.w; size = s })) (long ∙ same)

pub shape-coded : (ps : List PieceValue) (k : ℕ) (p : PieceValue) (count : ℕ) → IsPlaced ps k p → has_code p.evidence ≡ true → p.size ≡ Some count
    → option_map shape_of (code_of_place ps k) ≡ Some (record { n = p.entry.n; d = p.entry.d; w = p.entry.w; size = count })
shape-coded ps k p count at coded is =
    let known = codes_of (take k ps) in
    ap (option_map shape_of) at.code
    ∙ shape-of_words (stated_entry p.evidence) p.size (words_over known p.evidence) count (at.states.coded ∙ coded) (at.size ∙ at.states.size coded) is
    ∙ ap (λ (e : Entry). Some (record { n = e.n; d = e.d; w = e.w; size = count })) (sym at.entry)

none-of_words : (e : Entry) (words : Option (List ℕ)) → is_some words ≡ false → option_map shape_of (option_map (code_at e) words) ≡ None
none-of_words e None none = refl
none-of_words e (Some words) none = absurd cc

pub shape-uncoded : (ps : List PieceValue) (k : ℕ) (p : PieceValue) → IsPlaced ps k p → has_code p.evidence ≡ false → option_map shape_of (code_of_place ps k) ≡ None
shape-uncoded ps k p at coded =
    ap (option_map shape_of) at.code ∙ none-of_words (stated_entry p.evidence) (words_over (codes_of (take k ps)) p.evidence) (at.states.coded ∙ coded)

sized-words : (size : Option ℕ) (words : Option (List ℕ)) → is_some words ≡ true → size ≡ option_map length words → size ≡ None → ⊥
sized-words size None some is none = absurd cc
sized-words size (Some words) some is none = absurd cc

pub sized-coded : (ps : List PieceValue) (k : ℕ) (p : PieceValue) → IsPlaced ps k p → has_code p.evidence ≡ true → p.size ≡ None → ⊥
sized-coded ps k p at coded none =
    sized-words p.size (words_over (codes_of (take k ps)) p.evidence) (at.states.coded ∙ coded) (at.size ∙ at.states.size coded) none

-- an id is known where a piece has it
pub known-found : (id : List ℕ) (ps : List PieceValue) (k : ℕ) → place_of_id id ps ≡ Some k → is_known id (codes_of ps) ≡ true
known-found id ps k is = known_where_taken id [] ps ∙ place_of_id-found id ps k is

pub known-missing : (id : List ℕ) (ps : List PieceValue) → place_of_id id ps ≡ None → is_known id (codes_of ps) ≡ false
known-missing id ps is = known_where_taken id [] ps ∙ place_of_id-none id ps is

-- the code of an id is that at the place of its piece
pub named-first : (id : List ℕ) (ps : List PieceValue) (k : ℕ) → place_of_id id ps ≡ Some k → code_named id (codes_of ps) ≡ code_of_place ps k
named-first id ps k is = (position-some id ps k is).1

-- the code of a piece: kept, or listed
kept-some : (ps : List PieceValue) (k : ℕ) (p : PieceValue) (code : CodeValue) → k < length ps → code_there (kept_codes ps) k ≡ Some code
    → code_of_place ps k ≡ Some code
kept-some ps k p code below at =
    sym (place-or_listed ps k p below) ∙ ap (λ (o : Option CodeValue). option_or o (listed_code (codes_of (take k ps)) (get_or ps k p).evidence)) at

pub kept-found : (ps : List PieceValue) (k : ℕ) (code : CodeValue) → k < length ps → code_there (kept_codes ps) k ≡ Some code → code_of_place ps k ≡ Some code
kept-found [] k code below at = absurd (omega arith)
kept-found (p ∷ ps) k code below at = kept-some (p ∷ ps) k p code below at

pub kept-none : (ps : List PieceValue) (k : ℕ) (p : PieceValue) → k < length ps → p ≡ get_or ps k p → code_there (kept_codes ps) k ≡ None
    → listed_code (codes_of (take k ps)) p.evidence ≡ code_of_place ps k
kept-none ps k p below here at =
    ap (λ (q : PieceValue). listed_code (codes_of (take k ps)) q.evidence) here
    ∙ sym (ap (λ (o : Option CodeValue). option_or o (listed_code (codes_of (take k ps)) (get_or ps k p).evidence)) at) ∙ place-or_listed ps k p below

-- what is to be kept at a place goes by the piece there
pub kept-here : (ps : List PieceValue) (k : ℕ) (p : PieceValue) → k < length ps → p ≡ get_or ps k p
    → code_there (kept_codes ps) k ≡ kept_over (codes_of (take k ps)) p.evidence
kept-here ps k p below here = kept_at [] ps k p below ∙ ap (λ (q : PieceValue). kept_over (codes_of (take k ps)) q.evidence) (sym here)

-- a code that is listed is that of the piece, and where none is, all that may be kept is
pub listed-here : (ps : List PieceValue) (k : ℕ) (p : PieceValue) (code : CodeValue) → IsPlaced ps k p
    → listed_code (codes_of (take k ps)) p.evidence ≡ Some code → code_of_place ps k ≡ Some code
listed-here ps k p code at is = at.code ∙ listed-some (codes_of (take k ps)) p.evidence code is

pub kept-whole : (ps : List PieceValue) (k : ℕ) (p : PieceValue) → k < length ps → p ≡ get_or ps k p → IsPlaced ps k p
    → listed_code (codes_of (take k ps)) p.evidence ≡ None → code_there (kept_codes ps) k ≡ code_of_place ps k
kept-whole ps k p below here at is = kept-here ps k p below here ∙ listed-none (codes_of (take k ps)) p.evidence is ∙ sym at.code

-- the codes of the first pieces are those of all
codes_take : (known : List NamedCode) (ps : List PieceValue) (k i : ℕ) → i < length (take k ps) → slice_get (codes_after known (take k ps)) i ≡ slice_get (codes_after known ps) i
codes_take known [] zero i below = absurd (omega arith)
codes_take known [] (suc k) i below = absurd (omega arith)
codes_take known (p ∷ ps) zero i below = absurd (omega arith)
codes_take known (p ∷ ps) (suc k) zero below = refl
codes_take known (p ∷ ps) (suc k) (suc i) below = codes_take (known ++ named_code known p ∷ []) ps k i (omega arith)

place_take : (ps : List PieceValue) (k i : ℕ) → i < length (take k ps) → code_of_place (take k ps) i ≡ code_of_place ps i
place_take ps k i below = ap (λ (found : Option NamedCode). option_flatten (option_map (λ (l : NamedCode). l.code) found)) (codes_take [] ps k i below)

-- where an id is found among the pieces before a place, that place is after it
pub found-before : (id : List ℕ) (ps : List PieceValue) (k i : ℕ) → place_of_id id (take k ps) ≡ Some i → (i < k) × (i < length ps)
found-before id ps k i is =
    let within = (position-some id (take k ps) i is).0 in
    let long = length-take k ps in
    (omega arith, omega arith)

-- the code of an id over the pieces before a place is that of the piece that is found
pub found-named : (id : List ℕ) (ps : List PieceValue) (k : ℕ) → code_named id (codes_of (take k ps)) ≡ code_found ps (place_of_id id (take k ps))
found-named id ps k = at (place_of_id id (take k ps)) refl where
  at : (o : Option ℕ) → place_of_id id (take k ps) ≡ o → code_named id (codes_of (take k ps)) ≡ code_found ps o
  at None is = position-none id (take k ps) is
  at (Some i) is =
      let found = position-some id (take k ps) i is in
      found.1 ∙ place_take ps k i found.0

pub found-other : (other : Option (List ℕ)) (ps : List PieceValue) (k : ℕ) → other_named other (codes_of (take k ps)) ≡ code_found ps (other_place other (take k ps))
found-other None ps k = refl
found-other (Some id) ps k = found-named id ps k

-- nothing is against evidence of a piece over the pieces before it
pub listed-faultless : (ps : List PieceValue) (k : ℕ) (p : PieceValue) → IsPlaced ps k p → own_reason (codes_of (take k ps)) p.evidence ≡ None
listed-faultless ps k p at = right-own (codes_of (take k ps)) p.evidence at.right

pub Some-piece : (p q : PieceValue) → ◌≡◌ {A = Option PieceValue} (Some p) (Some q) → p ≡ q
Some-piece p q is = cc

-- a code is there exactly where its words are
code-is_some : (e : Entry) (words : Option (List ℕ)) → is_some (option_map (code_at e) words) ≡ is_some words
code-is_some e None = refl
code-is_some e (Some words) = refl

-- so a piece that stands has one exactly where its kind has
pub placed-coded : (ps : List PieceValue) (k : ℕ) (p : PieceValue) → IsPlaced ps k p → is_some (code_of_place ps k) ≡ has_code p.evidence
placed-coded ps k p at =
    ap is_some at.code ∙ code-is_some (stated_entry p.evidence) (words_over (codes_of (take k ps)) p.evidence) ∙ at.states.coded

pub piece-coded : (ps : List PieceValue) (k : ℕ) (p : PieceValue) → AreMade [] ps → slice_get ps k ≡ Some p → is_some (code_of_place ps k) ≡ has_code p.evidence
piece-coded ps k p made read =
    let below = slice_get_within ps k p read in
    placed-coded ps k p (placed ps k p made below (Some-piece p (get_or ps k p) (sym read ∙ slice_get-get_or ps k p below)))

pub none-from : (o : Option CodeValue) → is_some o ≡ false → o ≡ None
none-from None none = refl
none-from (Some c) none = absurd cc

-- and none where its kind has none
pub without_code : (ps : List PieceValue) (k : ℕ) (p : PieceValue) → IsPlaced ps k p → has_code p.evidence ≡ false → code_of_place ps k ≡ None
without_code ps k p at none = none-from (code_of_place ps k) (placed-coded ps k p at ∙ none)
