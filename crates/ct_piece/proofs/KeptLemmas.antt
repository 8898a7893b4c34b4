-- The codes that are kept beside pieces, once they are made, and those that are made anew.
use Rattle.std.proofs.Common.{◌≡◌, ℕ, zero, suc, ◌<◌, Bool, true, false, cond, List, [], ◌∷◌, ◌++◌, length, take, get_or, set, Option, Some, None, is_some, refl, sym, ap, subst, ◌∙◌, arith, append_assoc, append-nil}
use Rattle.std.specs.Prelude.{remove}
use Rattle.std.proofs.lemmas.List.Elements.{length_all_zip, AllZip-push}
use Rattle.std.specs.Option.{option_or}
use Rattle.ct_words.specs.Code.{CodeValue}
use Rattle.ct_kind.specs.declared.evidence.Evidence.{Evidence}
use Rattle.ct_kind.specs.Named.{NamedCode}
use Rattle.ct_piece.specs.Piece.{PieceValue}
use Rattle.ct_files.specs.ByKind.{code_over}
use Rattle.ct_piece.specs.Codes.{named_code, codes_after, codes_of, code_of_place}
use Rattle.ct_files.specs.ByKind.{is_kept, kept_over, listed_code}
use Rattle.ct_piece.specs.Inside.Kept.{kept_after, kept_codes, AreKept, code_there}
use Rattle.ct_files.specs.Checked.{IsKept}
use Rattle.ct_piece.specs.Inside.Unmarked.{unmarked}
use Rattle.ct_piece.proofs.MakingLemmas.{code_of_place-is}

-- there is a place for each piece
pub length-kept_after : (known : List NamedCode) (ps : List PieceValue) → length (kept_after known ps) ≡ length ps
length-kept_after known [] = refl
length-kept_after known (p ∷ ps) = ap suc (length-kept_after (known ++ named_code known p ∷ []) ps)

pub length-kept_codes : (ps : List PieceValue) → length (kept_codes ps) ≡ length ps
length-kept_codes ps = length-kept_after [] ps

-- what is kept beside more pieces
kept_after-append : (known : List NamedCode) (front back : List PieceValue) → kept_after known (front ++ back) ≡ kept_after known front ++ kept_after (known ++ codes_after known front) back
kept_after-append known [] back = ap (λ (k : List NamedCode). kept_after k back) (sym (append-nil known))
kept_after-append known (p ∷ front) back =
    let k = named_code known p in
    let next = known ++ k ∷ [] in
    ap (λ (rest : List (Option CodeValue)). kept_over known p.evidence ∷ rest) (kept_after-append next front back)
    ∙ ap (λ (all : List NamedCode). kept_over known p.evidence ∷ (kept_after next front ++ kept_after all back)) (append_assoc known (k ∷ []) (codes_after next front))

-- and beside one more
pub kept_codes-push : (ps : List PieceValue) (p : PieceValue) → kept_codes (ps ++ p ∷ []) ≡ kept_codes ps ++ kept_over (codes_of ps) p.evidence ∷ []
kept_codes-push ps p = kept_after-append [] ps (p ∷ [])

-- what is kept at a place is what is kept over the codes of the pieces before it
pub kept_at : (known : List NamedCode) (ps : List PieceValue) (k : ℕ) (d : PieceValue) → k < length ps
    → get_or (kept_after known ps) k None ≡ kept_over (known ++ codes_after known (take k ps)) (get_or ps k d).evidence
kept_at known [] k d below = absurd (omega arith)
kept_at known (p ∷ ps) zero d below = ap (λ (all : List NamedCode). kept_over all p.evidence) (sym (append-nil known))
kept_at known (p ∷ ps) (suc k) d below =
    let own = named_code known p in
    let next = known ++ own ∷ [] in
    kept_at next ps k d (omega arith) ∙ ap (λ (all : List NamedCode). kept_over all (get_or ps k d).evidence) (append_assoc known (own ∷ []) (codes_after next (take k ps)))

-- the code of evidence is the one that is kept, or else the one that it lists
pub kept-or_listed : (known : List NamedCode) (evidence : Evidence) → option_or (kept_over known evidence) (listed_code known evidence) ≡ code_over known evidence
kept-or_listed known evidence = at (is_kept evidence) where
  same : (o : Option CodeValue) → option_or o None ≡ o
  same None = refl
  same (Some c) = refl

  at : (b : Bool) → option_or (cond b (code_over known evidence) None) (cond b None (code_over known evidence)) ≡ code_over known evidence
  at true = same (code_over known evidence)
  at false = refl

-- so is the code at a place
pub place-or_listed : (ps : List PieceValue) (k : ℕ) (d : PieceValue) → k < length ps
    → option_or (get_or (kept_codes ps) k None) (listed_code (codes_of (take k ps)) (get_or ps k d).evidence) ≡ code_of_place ps k
place-or_listed ps k d below =
    ap (λ (o : Option CodeValue). option_or o (listed_code (codes_of (take k ps)) (get_or ps k d).evidence)) (kept_at [] ps k d below)
    ∙ kept-or_listed (codes_of (take k ps)) (get_or ps k d).evidence ∙ sym (code_of_place-is ps k d below)

-- evidence that lists a code has it
pub listed-some : (known : List NamedCode) (evidence : Evidence) (code : CodeValue) → listed_code known evidence ≡ Some code → code_over known evidence ≡ Some code
listed-some known evidence code is = at (is_kept evidence) is where
  at : (b : Bool) → cond b None (code_over known evidence) ≡ Some code → code_over known evidence ≡ Some code
  at true h = cc
  at false h = h

-- and the code of evidence that lists none is kept, where it has one
pub listed-none : (known : List NamedCode) (evidence : Evidence) → listed_code known evidence ≡ None → kept_over known evidence ≡ code_over known evidence
listed-none known evidence is = at (is_kept evidence) is where
  at : (b : Bool) → cond b None (code_over known evidence) ≡ None → cond b (code_over known evidence) None ≡ code_over known evidence
  at true h = refl
  at false h = sym h

-- there is a place for each of the codes
pub kept-length : (kept codes : List (Option CodeValue)) → AreKept kept codes → length kept ≡ length codes
kept-length kept codes h = length_all_zip IsKept kept codes h

-- one code more at the end
pub kept-push : (kept codes : List (Option CodeValue)) (k c : Option CodeValue) → AreKept kept codes → IsKept k c → AreKept (kept ++ k ∷ []) (codes ++ c ∷ [])
kept-push kept codes k c h here = AllZip-push IsKept kept codes k c h here

whole : (c : Option CodeValue) → IsKept c c
whole None = tt
whole (Some code) = refl

-- all may be kept
pub kept-all : (codes : List (Option CodeValue)) → AreKept codes codes
kept-all [] = tt
kept-all (c ∷ codes) = (whole c, kept-all codes)

is_kept-trans : (k j c : Option CodeValue) → IsKept k j → IsKept j c → IsKept k c
is_kept-trans None j c first second = tt
is_kept-trans (Some code) j c first second = subst (λ (o : Option CodeValue). IsKept o c) first second

-- what is kept of what is kept is kept
pub kept-trans : (kept more codes : List (Option CodeValue)) → AreKept kept more → AreKept more codes → AreKept kept codes
kept-trans [] [] codes first second = second
kept-trans [] (j ∷ more) codes first second = absurd first
kept-trans (k ∷ kept) [] codes first second = absurd first
kept-trans (k ∷ kept) (j ∷ more) [] first second = absurd second
kept-trans (k ∷ kept) (j ∷ more) (c ∷ codes) first second = (is_kept-trans k j c first.0 second.0, kept-trans kept more codes first.1 second.1)

-- a code is put where it belongs
pub kept-set : (kept codes : List (Option CodeValue)) (i : ℕ) (c : Option CodeValue) → AreKept kept codes → code_there codes i ≡ c → AreKept (set kept i c) codes
kept-set [] codes zero c h is = h
kept-set [] codes (suc i) c h is = h
kept-set (k ∷ kept) [] i c h is = absurd h
kept-set (k ∷ kept) (d ∷ codes) zero c h is = (subst (λ (o : Option CodeValue). IsKept o d) is (whole d), h.1)
kept-set (k ∷ kept) (d ∷ codes) (suc i) c h is = (h.0, kept-set kept codes i c h.1 is)

-- and what is kept stays
pub kept-grows : (kept codes : List (Option CodeValue)) (i : ℕ) (c : Option CodeValue) → AreKept kept codes → code_there codes i ≡ c → AreKept kept (set kept i c)
kept-grows [] codes zero c h is = tt
kept-grows [] codes (suc i) c h is = tt
kept-grows (k ∷ kept) [] i c h is = absurd h
kept-grows (k ∷ kept) (d ∷ codes) zero c h is = (subst (IsKept k) is h.0, kept-all kept)
kept-grows (k ∷ kept) (d ∷ codes) (suc i) c h is = (whole k, kept-grows kept codes i c h.1 is)

-- without the codes at a place
pub kept-without : (kept codes : List (Option CodeValue)) (i : ℕ) → AreKept kept codes → AreKept (remove kept i) (remove codes i)
kept-without [] [] zero h = tt
kept-without [] [] (suc i) h = tt
kept-without [] (c ∷ codes) i h = absurd h
kept-without (k ∷ kept) [] i h = absurd h
kept-without (k ∷ kept) (c ∷ codes) zero h = h.1
kept-without (k ∷ kept) (c ∷ codes) (suc i) h = (h.0, kept-without kept codes i h.1)

-- without those that are marked
pub kept-unmarked : (gone : List Bool) (kept codes : List (Option CodeValue)) → AreKept kept codes → AreKept (unmarked gone kept) (unmarked gone codes)
kept-unmarked [] kept codes h = h
kept-unmarked (mark ∷ gone) [] [] h = tt
kept-unmarked (mark ∷ gone) [] (c ∷ codes) h = absurd h
kept-unmarked (mark ∷ gone) (k ∷ kept) [] h = absurd h
kept-unmarked (true ∷ gone) (k ∷ kept) (c ∷ codes) h = kept-unmarked gone kept codes h.1
kept-unmarked (false ∷ gone) (k ∷ kept) (c ∷ codes) h = (h.0, kept-unmarked gone kept codes h.1)

-- a code that is kept is the one there
pub kept-there : (kept codes : List (Option CodeValue)) (i : ℕ) (code : CodeValue) → AreKept kept codes → code_there kept i ≡ Some code → code_there codes i ≡ Some code
kept-there [] codes zero code h is = cc
kept-there [] codes (suc i) code h is = cc
kept-there (k ∷ kept) [] i code h is = absurd h
kept-there (k ∷ kept) (c ∷ codes) zero code h is = subst (λ (o : Option CodeValue). IsKept o c) is h.0
kept-there (k ∷ kept) (c ∷ codes) (suc i) code h is = kept-there kept codes i code h.1 is

-- where all that may be kept there is, it stays so
pub kept-stays : (kept more codes : List (Option CodeValue)) (i : ℕ) → AreKept kept more → AreKept more codes → code_there kept i ≡ code_there codes i
    → code_there more i ≡ code_there codes i
kept-stays kept more codes i first second same = at (code_there codes i) (code_there more i) refl refl where
  at : (c j : Option CodeValue) → code_there codes i ≡ c → code_there more i ≡ j → j ≡ c
  at (Some code) j is here = sym here ∙ kept-there kept more i code first (same ∙ is)
  at None None is here = refl
  at None (Some code) is here = let there = kept-there more codes i code second here in cc

-- a code that is kept at a place is all that may be kept there
pub kept-some : (kept codes : List (Option CodeValue)) (i : ℕ) → AreKept kept codes → is_some (code_there kept i) ≡ true → code_there kept i ≡ code_there codes i
kept-some kept codes i h some = at (code_there kept i) refl some where
  at : (k : Option CodeValue) → code_there kept i ≡ k → is_some k ≡ true → code_there kept i ≡ code_there codes i
  at None is there = cc
  at (Some code) is there = is ∙ sym (kept-there kept codes i code h is)

-- nothing is kept beside evidence whose words are not stored
pub kept_over-none : (known : List NamedCode) (evidence : Evidence) → is_kept evidence ≡ false → kept_over known evidence ≡ None
kept_over-none known evidence none = ap (λ (b : Bool). cond b (code_over known evidence) None) none

-- there is no code where there is none
pub none-some : (code : Option CodeValue) → code ≡ None → is_some code ≡ true → ⊥
none-some None none some = absurd cc
none-some (Some code) none some = absurd cc
