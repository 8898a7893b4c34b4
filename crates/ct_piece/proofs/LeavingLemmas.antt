-- Where a piece leaves that none names, the others are made as before, and have the same codes.
use Rattle.std.proofs.Common.{◌≡◌, ◌≢◌, ℕ, zero, suc, ◌+◌, ◌<◌, Bool, true, false, ◌||◌, cond, not, List, [], ◌∷◌, ◌++◌, length, Option, Some, None, option_map, Ok, refl, sym, ap, ap₂, subst, ◌∙◌, append-nil, arith}
use Rattle.std.specs.Prelude.{All, AllPairs, filter, find, map, remove}
use Rattle.std.specs.List.{list_any, position_or_len}
use Rattle.std.specs.Str.{bytes_eq}
use Rattle.std.proofs.lemmas.List.Elements.{filter-append, All-head, All-tail}
use Rattle.std.proofs.lemmas.Slice.Eq.{bytes_eq-Decides}
use Rattle.ct_words.specs.Code.{CodeValue}
use Rattle.ct_words.specs.Pairs.{first_of}
use Rattle.ct_kind.specs.declared.evidence.Evidence.{Evidence}
use Rattle.ct_kind.specs.Named.{NamedCode, is_known, first_missing, code_named, partition_named}
use Rattle.ct_files.specs.ByKind.{kind_of, stated_entry, ids_of_parts, names}
use Rattle.ct_piece.specs.Piece.{PieceValue, first_user}
use Rattle.ct_kind.specs.Ascending.{code_at}
use Rattle.ct_piece.specs.Codes.{named_code, codes_after, codes_of}
use Rattle.ct_files.specs.ByKind.{evidence_reason}
use Rattle.ct_piece.specs.Submission.{piece_from}
use Rattle.ct_piece.specs.Inside.Making.{made_unless}
use Rattle.ct_piece.specs.Standing.{IsMade, AreMade}
use Rattle.ct_files.specs.ByKind.{is_kept, kept_over}
use Rattle.ct_piece.specs.Inside.Kept.{kept_after}
use Rattle.ct_piece.specs.Inside.Unmarked.{unmarked}
use Rattle.ct_kind.specs.declared.fault.SubmitFault.{SubmitFault}
use Rattle.ct_kind.specs.declared.fault.SubmitFault.TheVariants as fault
use Rattle.ct_piece.proofs.CodeLemmas.{is_named}
use Rattle.ct_kind.proofs.Stating.{SaysSame, IsAlike}
use Rattle.ct_files.proofs.SameByKind.{kind_same}
use Rattle.ct_piece.proofs.MakingLemmas.{making-of}

-- the codes whose ids pass a test
abbrev pub those : (List ℕ → Bool) → List NamedCode → List NamedCode
those test known = filter (λ (k : NamedCode). test k.id) known

-- the test that the other ids pass
abbrev pub other_than : List ℕ → List ℕ → Bool
other_than id i = not (bytes_eq i id)

-- the codes but for those of the id
abbrev others : List ℕ → List NamedCode → List NamedCode
others id known = those (other_than id) known

alike-put : (part : List ℕ) (k : NamedCode) (left right : List NamedCode) → IsAlike part left right → IsAlike part (k ∷ left) (k ∷ right)
alike-put part k left right h = record {
  code = ap (λ (c : Option CodeValue). cond (bytes_eq k.id part) k.code c) h.code;
  partition = ap (λ p. cond (bytes_eq k.id part) k.partition p) h.partition;
  known = ap (λ (b : Bool). bytes_eq k.id part || b) h.known;
}

alike-passed : (part : List ℕ) (k : NamedCode) (left right : List NamedCode) → bytes_eq k.id part ≡ false → IsAlike part left right → IsAlike part left (k ∷ right)
alike-passed part k left right unlike h = record {
  code = h.code ∙ sym (ap (λ (b : Bool). cond b k.code (code_named part right)) unlike);
  partition = h.partition ∙ sym (ap (λ (b : Bool). cond b k.partition (partition_named part right)) unlike);
  known = h.known ∙ sym (ap (λ (b : Bool). b || is_known part right) unlike);
}

those-alike : (test : List ℕ → Bool) (part : List ℕ) (known : List NamedCode) → test part ≡ true → IsAlike part (those test known) known
those-alike test part [] h = record { code = refl; partition = refl; known = refl }
those-alike test part (k ∷ known) h = at (test k.id) refl (those-alike test part known h) where
  passed : (c : Bool) → bytes_eq k.id part ≡ c → test k.id ≡ false → IsAlike part (those test known) known → IsAlike part (those test known) (k ∷ known)
  passed true same out rest = absurd (let k_part = ap test ((bytes_eq-Decides k.id part).0 same) in cc)
  passed false same out rest = alike-passed part k (those test known) known same rest

  at : (b : Bool) → test k.id ≡ b → IsAlike part (those test known) known → IsAlike part (cond b (k ∷ those test known) (those test known)) (k ∷ known)
  at true in_test rest = alike-put part k (those test known) known rest
  at false out rest = passed (bytes_eq k.id part) refl out rest

-- all ids of the list pass the test
abbrev pub AllPassed : (List ℕ → Bool) → List (List ℕ) → Type 0
AllPassed test parts = (part : List ℕ) → list_any (λ (p : List ℕ). bytes_eq p part) parts ≡ true → test part ≡ true

or-true : (a b : Bool) → b ≡ true → (a || b) ≡ true
or-true true b h = refl
or-true false b h = h

AllPassed-head : (test : List ℕ → Bool) (part : List ℕ) (parts : List (List ℕ)) → AllPassed test (part ∷ parts) → test part ≡ true
AllPassed-head test part parts h =
    h part (ap (λ (b : Bool). b || list_any (λ (p : List ℕ). bytes_eq p part) parts) ((bytes_eq-Decides part part).1 refl))

AllPassed-tail : (test : List ℕ → Bool) (part : List ℕ) (parts : List (List ℕ)) → AllPassed test (part ∷ parts) → AllPassed test parts
AllPassed-tail test part parts h = λ other is. h other (or-true (bytes_eq part other) (list_any (λ (p : List ℕ). bytes_eq p other) parts) is)

-- ids that pass are missing where they were
those-missing : (test : List ℕ → Bool) (known : List NamedCode) (parts : List (List ℕ)) → AllPassed test parts → first_missing (those test known) parts ≡ first_missing known parts
those-missing test known [] h = refl
those-missing test known (part ∷ parts) h =
    ap₂ (λ (b : Bool) (rest : Option (List ℕ)). cond (not b) (Some part) rest) (those-alike test part known (AllPassed-head test part parts h)).known
    (those-missing test known parts (AllPassed-tail test part parts h))

-- evidence all of whose parts pass says the same
those-same : (test : List ℕ → Bool) (known : List NamedCode) (evidence : Evidence) → AllPassed test (ids_of_parts evidence) → SaysSame (kind_of evidence) (those test known) known
those-same test known evidence h = kind_same evidence (those test known) known (λ part is. those-alike test part known (h part is))

those-reason : (test : List ℕ → Bool) (known : List NamedCode) (evidence : Evidence) → AllPassed test (ids_of_parts evidence)
    → evidence_reason (those test known) evidence ≡ evidence_reason known evidence
those-reason test known evidence h =
    ap₂ (λ (missing : Option (List ℕ)) (own : Option SubmitFault). first_of (option_map fault.NoSuch missing) own) (those-missing test known (ids_of_parts evidence) h)
    (those-same test known evidence h).reason

-- it makes the same piece
those-made : (test : List ℕ → Bool) (known : List NamedCode) (p : PieceValue) → AllPassed test (ids_of_parts p.evidence) → IsMade known p → IsMade (those test known) p
those-made test known p passed h =
    let m = making-of known p h in
    let evidence = m.stated.evidence in
    let own = subst (λ (e : Evidence). AllPassed test (ids_of_parts e)) (ap (λ (q : PieceValue). q.evidence) (sym m.piece)) passed in
    let sized : Option ℕ → PieceValue = λ (size : Option ℕ). record { id = p.id; document = p.document; evidence = evidence; cites = m.stated.cites; entry = stated_entry evidence; size = size } in
    ap (piece_from (those test known) p.id p.document) m.is
    ∙ ap₂ (λ (reason : Option SubmitFault) (size : Option ℕ). made_unless reason (sized size)) (those-reason test known evidence own ∙ m.faultless) (those-same test known evidence own).size
    ∙ ap Ok m.piece

-- and has the same code
those-code : (test : List ℕ → Bool) (known : List NamedCode) (p : PieceValue) → AllPassed test (ids_of_parts p.evidence) → named_code (those test known) p ≡ named_code known p
those-code test known p passed =
    let at : Option (List ℕ) → NamedCode = λ (words : Option (List ℕ)). record { id = p.id; code = option_map (code_at (stated_entry p.evidence)) words; partition = (kind_of p.evidence).partition } in
    ap at (those-same test known p.evidence passed).words

-- a code more
those-push : (test : List ℕ → Bool) (known : List NamedCode) (k : NamedCode) → those test (known ++ k ∷ []) ≡ those test known ++ cond (test k.id) (k ∷ []) []
those-push test known k = filter-append (λ (l : NamedCode). test l.id) known (k ∷ [])

-- the parts of each piece whose id passes the test pass it
abbrev pub ArePassed : (List ℕ → Bool) → List PieceValue → Type 0
ArePassed test [] = Unit {0}
ArePassed test (p ∷ ps) = (test p.id ≡ true → AllPassed test (ids_of_parts p.evidence)) × ArePassed test ps

-- the pieces whose ids pass
abbrev pub passing : (List ℕ → Bool) → List PieceValue → List PieceValue
passing test ps = filter (λ (p : PieceValue). test p.id) ps

-- they are made over the codes that pass
AreMade-those : (test : List ℕ → Bool) (known : List NamedCode) (ps : List PieceValue) → AreMade known ps → ArePassed test ps → AreMade (those test known) (passing test ps)
AreMade-those test known [] h all = tt
AreMade-those test known (p ∷ ps) h all = at (test p.id) refl (AreMade-those test next ps h.1 all.1) (those-push test known own) where
  own : NamedCode
  own = named_code known p

  next : List NamedCode
  next = known ++ own ∷ []

  at : (b : Bool) → test p.id ≡ b → AreMade (those test next) (passing test ps) → those test next ≡ those test known ++ cond b (own ∷ []) []
      → AreMade (those test known) (cond b (p ∷ passing test ps) (passing test ps))
  at false out made split = subst (λ (k : List NamedCode). AreMade k (passing test ps)) (split ∙ append-nil (those test known)) made
  at true is made split = (
    those-made test known p (all.0 is) h.0,
    subst (λ (k : List NamedCode). AreMade k (passing test ps)) (split ∙ ap (λ (k : NamedCode). those test known ++ k ∷ []) (sym (those-code test known p (all.0 is)))) made,
  )

-- without other codes
pub AreMade-passing : (test : List ℕ → Bool) (ps : List PieceValue) → AreMade [] ps → ArePassed test ps → AreMade [] (passing test ps)
AreMade-passing test ps h all = AreMade-those test [] ps h all

-- the codes of the pieces that pass are those that pass
codes-those : (test : List ℕ → Bool) (known : List NamedCode) (ps : List PieceValue) → ArePassed test ps → codes_after (those test known) (passing test ps) ≡ those test (codes_after known ps)
codes-those test known [] all = refl
codes-those test known (p ∷ ps) all = at (test p.id) refl (codes-those test next ps all.1) (those-push test known own) where
  own : NamedCode
  own = named_code known p

  next : List NamedCode
  next = known ++ own ∷ []

  at : (b : Bool) → test p.id ≡ b → codes_after (those test next) (passing test ps) ≡ those test (codes_after next ps) → those test next ≡ those test known ++ cond b (own ∷ []) []
      → codes_after (those test known) (cond b (p ∷ passing test ps) (passing test ps)) ≡ cond b (own ∷ those test (codes_after next ps)) (those test (codes_after next ps))
  at false out rest split = ap (λ (k : List NamedCode). codes_after k (passing test ps)) (sym (split ∙ append-nil (those test known))) ∙ rest
  at true is rest split =
      ap (λ (k : NamedCode). k ∷ codes_after (those test known ++ k ∷ []) (passing test ps)) (those-code test known p (all.0 is))
      ∙ ap (λ (ks : List NamedCode). own ∷ ks) (ap (λ (k : List NamedCode). codes_after k (passing test ps)) (sym split) ∙ rest)

pub codes-passing : (test : List ℕ → Bool) (ps : List PieceValue) → ArePassed test ps → codes_of (passing test ps) ≡ those test (codes_of ps)
codes-passing test ps all = codes-those test [] ps all

-- ids that evidence names, where it does not name another, are not the other
named-others : (id : List ℕ) (evidence : Evidence) → names evidence id ≡ false → (part : List ℕ) → names evidence part ≡ true → other_than id part ≡ true
named-others id evidence none part is = at (bytes_eq part id) refl is where
  at : (b : Bool) → bytes_eq part id ≡ b → names evidence part ≡ true → not b ≡ true
  at true same is = absurd (let other = ap (names evidence) ((bytes_eq-Decides part id).0 same) in cc)
  at false unlike is = refl

others-code : (id : List ℕ) (known : List NamedCode) (p : PieceValue) → names p.evidence id ≡ false → named_code (others id known) p ≡ named_code known p
others-code id known p none = those-code (other_than id) known p (named-others id p.evidence none)

find-none : (test : PieceValue → Bool) (p : PieceValue) (ps : List PieceValue) → find test (p ∷ ps) ≡ None → (test p ≡ false) × (find test ps ≡ None)
find-none test p ps h = at (test p) h where
  at : (b : Bool) → cond b (Some p) (find test ps) ≡ None → (b ≡ false) × (find test ps ≡ None)
  at true e = absurd cc
  at false e = (refl, e)

-- a code more, but for those of the id
others-push : (id : List ℕ) (known : List NamedCode) (k : NamedCode) → others id (known ++ k ∷ []) ≡ others id known ++ cond (not (bytes_eq k.id id)) (k ∷ []) []
others-push id known k = filter-append (λ (l : NamedCode). not (bytes_eq l.id id)) known (k ∷ [])

-- where none names the id, each piece names others alone
pub ArePassed-others : (id : List ℕ) (ps : List PieceValue) → first_user id ps ≡ None → ArePassed (other_than id) ps
ArePassed-others id [] none = tt
ArePassed-others id (p ∷ ps) none =
    let rest = find-none (λ (q : PieceValue). names q.evidence id) p ps none in
    (λ is. named-others id p.evidence rest.0, ArePassed-others id ps rest.1)

-- what is kept beside a piece goes by its code
kept-same : (p : PieceValue) (left right : List NamedCode) → named_code left p ≡ named_code right p
    → cond (is_kept p.evidence) (named_code left p).code None ≡ cond (is_kept p.evidence) (named_code right p).code None
kept-same p left right same = ap (λ (k : NamedCode). cond (is_kept p.evidence) k.code None) same

-- the pieces whose ids pass keep the codes that were kept beside them
pub kept-passing : (out : List ℕ → Bool) (known : List NamedCode) (ps : List PieceValue) → ArePassed (λ i. not (out i)) ps
    → kept_after (those (λ i. not (out i)) known) (passing (λ i. not (out i)) ps) ≡ unmarked (map (λ (p : PieceValue). out p.id) ps) (kept_after known ps)
kept-passing out known [] all = refl
kept-passing out known (p ∷ ps) all = at (out p.id) refl (kept-passing out next ps all.1) (those-push test known own) where
  test : List ℕ → Bool
  test i = not (out i)

  own : NamedCode
  own = named_code known p

  next : List NamedCode
  next = known ++ own ∷ []

  marks : List Bool
  marks = map (λ (q : PieceValue). out q.id) ps

  at : (b : Bool) → out p.id ≡ b → kept_after (those test next) (passing test ps) ≡ unmarked marks (kept_after next ps) → those test next ≡ those test known ++ cond (not b) (own ∷ []) []
      → kept_after (those test known) (cond (not b) (p ∷ passing test ps) (passing test ps)) ≡ unmarked (b ∷ marks) (kept_over known p.evidence ∷ kept_after next ps)
  at true is rest split = ap (λ (k : List NamedCode). kept_after k (passing test ps)) (sym (split ∙ append-nil (those test known))) ∙ rest
  at false is rest split =
      let same = those-code test known p (all.0 (ap not is)) in
      ap₂ (λ (k : Option CodeValue) (ks : List (Option CodeValue)). k ∷ ks) (kept-same p (those test known) known same)
      (ap (λ (k : NamedCode). kept_after (those test known ++ k ∷ []) (passing test ps)) same
      ∙ ap (λ (k : List NamedCode). kept_after k (passing test ps)) (sym split) ∙ rest)

-- pieces of other ids keep the same codes
kept-others : (id : List ℕ) (known : List NamedCode) (ps : List PieceValue) → All (λ (q : PieceValue). id ≢ q.id) ps → first_user id ps ≡ None
    → kept_after (others id known) ps ≡ kept_after known ps
kept-others id known [] unlike none = refl
kept-others id known (p ∷ ps) unlike none =
    ap₂ (λ (k : Option CodeValue) (ks : List (Option CodeValue)). k ∷ ks) (kept-same p (others id known) known same) (at (bytes_eq p.id id) refl (others-push id known own) (kept-others id (known ++ own ∷ []) ps))
  where
    own : NamedCode
    own = named_code known p

    rest : (names p.evidence id ≡ false) × (first_user id ps ≡ None)
    rest = find-none (λ (q : PieceValue). names q.evidence id) p ps none

    same : named_code (others id known) p ≡ named_code known p
    same = others-code id known p rest.0

    at : (b : Bool) → bytes_eq p.id id ≡ b → others id (known ++ own ∷ []) ≡ others id known ++ cond (not b) (own ∷ []) []
        → (All (λ (q : PieceValue). id ≢ q.id) ps → first_user id ps ≡ None → kept_after (others id (known ++ own ∷ [])) ps ≡ kept_after (known ++ own ∷ []) ps)
        → kept_after (others id known ++ named_code (others id known) p ∷ []) ps ≡ kept_after (known ++ own ∷ []) ps
    at true is split later = absurd (All-head (λ (q : PieceValue). id ≢ q.id) p ps unlike (sym ((bytes_eq-Decides p.id id).0 is)))
    at false is split later =
        ap (λ (k : NamedCode). kept_after (others id known ++ k ∷ []) ps) same ∙ ap (λ (ks : List NamedCode). kept_after ks ps) (sym split)
        ∙ later (All-tail (λ (q : PieceValue). id ≢ q.id) p ps unlike) rest.1

-- without the first piece of an id that none names, the others keep their codes
pub kept-remove : (id : List ℕ) (known : List NamedCode) (ps : List PieceValue) → AllPairs (λ (p q : PieceValue). p.id ≢ q.id) ps → first_user id ps ≡ None
    → position_or_len (is_named id) ps < length ps
    → kept_after (others id known) (remove ps (position_or_len (is_named id) ps)) ≡ remove (kept_after known ps) (position_or_len (is_named id) ps)
kept-remove id known [] different none below = absurd (omega arith)
kept-remove id known (p ∷ ps) different none below =
    at (bytes_eq p.id id) refl below (others-push id known own) (kept-remove id next ps (λ i j d under within. different (suc i) (suc j) d (omega arith) (omega arith)) rest.1)
  where
    own : NamedCode
    own = named_code known p

    next : List NamedCode
    next = known ++ own ∷ []

    place : ℕ
    place = position_or_len (is_named id) ps

    rest : (names p.evidence id ≡ false) × (first_user id ps ≡ None)
    rest = find-none (λ (q : PieceValue). names q.evidence id) p ps none

    at : (b : Bool) → bytes_eq p.id id ≡ b → cond (not b) (1 + place) 0 < length (p ∷ ps) → others id next ≡ others id known ++ cond (not b) (own ∷ []) []
        → (place < length ps → kept_after (others id next) (remove ps place) ≡ remove (kept_after next ps) place)
        → kept_after (others id known) (remove (p ∷ ps) (cond (not b) (1 + place) 0)) ≡ remove (kept_after known (p ∷ ps)) (cond (not b) (1 + place) 0)
    at true is within split later =
        let same = (bytes_eq-Decides p.id id).0 is in
        let unlike : All (λ (q : PieceValue). id ≢ q.id) ps = subst (λ (i : List ℕ). All (λ (q : PieceValue). i ≢ q.id) ps) same (λ i d in_ps. different zero (suc i) d (omega arith) (omega arith)) in
        ap (λ (ks : List NamedCode). kept_after ks ps) (sym (append-nil (others id known)) ∙ sym split) ∙ kept-others id next ps unlike rest.1
    at false is within split later =
        let same = others-code id known p rest.0 in
        let step : suc place ≡ 1 + place = omega arith in
        ap (λ (i : ℕ). kept_after (others id known) (remove (p ∷ ps) i)) (sym step)
        ∙ ap₂ (λ (k : Option CodeValue) (ks : List (Option CodeValue)). k ∷ ks) (kept-same p (others id known) known same)
        (ap (λ (k : NamedCode). kept_after (others id known ++ k ∷ []) (remove ps place)) same ∙ ap (λ (ks : List NamedCode). kept_after ks (remove ps place)) (sym split) ∙ later (omega arith))
        ∙ ap (λ (i : ℕ). remove (kept_after known (p ∷ ps)) i) step
