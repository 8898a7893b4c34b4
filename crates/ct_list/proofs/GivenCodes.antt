-- The code of a piece that gives a size at an entry.
use Rattle.std.proofs.Common.{◌≡◌, ℕ, true, List, length, Option, Some, None, Result, Ok, Err, IfOk, refl, sym, ap, subst, ◌∙◌}
use Rattle.std.specs.Prelude.{Bool, false, if◌then◌else◌, IsSome, is_some, slice_get}
use Rattle.std.proofs.lemmas.Option.{same_Some}
use Rattle.ct_words.specs.declared.entry.Entry.{Entry}
use Rattle.ct_words.specs.Entry.{same_entry}
use Rattle.ct_words.specs.Code.{CodeValue}
use Rattle.ct_words.proofs.EntryLemmas.{same_entry_is, same_entry-self}
use Rattle.ct_rule_parts.specs.declared.support.Support.{Support}
use Rattle.ct_rule_parts.specs.declared.support.Support.TheVariants.{Nothing, Size, Bound, Odd, Local}
use Rattle.ct_rule_parts.specs.Support.{size_at}
use Rattle.ct_piece.specs.Codes.{code_of_place}
use Rattle.ct_piece.specs.Piece.{PieceValue}
use Rattle.ct_piece.specs.Standing.{AreStanding}
use Rattle.ct_piece.specs.Supports.{supports_of}
use Rattle.ct_ledger.proofs.Reaching.{size_of_code}
use Rattle.ct_rule_codes.specs.CodeEntry.{entry_of_code}

-- what gives a size at an entry is a size of it
support_at_entry : (o : Option Support) (e : Entry) → IsSome (size_at o e) → (size : ℕ) × (o ≡ Some (Size e size))
support_at_entry None e some = absurd cc
support_at_entry (Some Nothing) e some = absurd cc
support_at_entry (Some (Bound d)) e some = absurd cc
support_at_entry (Some (Odd d m)) e some = absurd cc
support_at_entry (Some (Local d)) e some = absurd cc
support_at_entry (Some (Size f size)) e some = go (same_entry f e) refl some
  where
    go : (b : Bool) → same_entry f e ≡ b → IsSome (if b then Some size else None) → (k : ℕ) × (◌≡◌ {A = Option Support} (Some (Size f size)) (Some (Size e k)))
    go true same some = (size, ap (λ (g : Entry). Some (Size g size)) (same_entry_is f e same))
    go false same some = absurd cc

-- a size gives itself at its entry
size_of_itself : (e : Entry) (size : ℕ) → size_at (Some (Size e size)) e ≡ Some size
size_of_itself e size = ap (λ (b : Bool). if b then Some size else None) (same_entry-self e)

-- the code behind it
pub record IsGiven (pieces : List PieceValue) (place : ℕ) (e : Entry) (c : CodeValue) : Type 0 where
  pub code : code_of_place pieces place ≡ Some c
  pub entry : entry_of_code c ≡ e
  pub size : size_at (slice_get (supports_of pieces) place) e ≡ Some (length c.words)

pub given_at : (pieces : List PieceValue) (place : ℕ) (e : Entry) → AreStanding pieces
    → IsSome (size_at (slice_get (supports_of pieces) place) e) → (c : CodeValue) × IsGiven pieces place e c
given_at pieces place e standing some =
    let at = support_at_entry (slice_get (supports_of pieces) place) e some in
    let found = size_of_code pieces place e at.0 standing at.1 in (
      found.0,
      record {
        code = found.1.code;
        entry = found.1.entry;
        size = ap (λ (o : Option Support). size_at o e) at.1 ∙ size_of_itself e at.0 ∙ ap Some (sym found.1.count);
      },
    )

pub coded : (pieces : List PieceValue) (place : ℕ) (e : Entry) → AreStanding pieces
    → IsSome (size_at (slice_get (supports_of pieces) place) e) → IsSome (code_of_place pieces place)
coded pieces place e standing some =
    let given = given_at pieces place e standing some in
    ap (λ (o : Option CodeValue). is_some o) given.1.code

pub given_entry : {E : Type 0} (pieces : List PieceValue) (place : ℕ) (e : Entry) (r : Result CodeValue E) → AreStanding pieces
    → IsSome (size_at (slice_get (supports_of pieces) place) e) → IfOk r (λ (c : CodeValue). code_of_place pieces place ≡ Some c)
    → IfOk r (λ (c : CodeValue). entry_of_code c ≡ e)
given_entry pieces place e (Ok c) standing some code =
    let given = given_at pieces place e standing some in
    let same = same_Some given.0 c (sym given.1.code ∙ code) in
    subst (λ (d : CodeValue). entry_of_code d ≡ e) same given.1.entry
given_entry pieces place e (Err fault) standing some code = tt

pub given_size : {E : Type 0} (pieces : List PieceValue) (place : ℕ) (e : Entry) (r : Result CodeValue E) → AreStanding pieces
    → IsSome (size_at (slice_get (supports_of pieces) place) e) → IfOk r (λ (c : CodeValue). code_of_place pieces place ≡ Some c)
    → IfOk r (λ (c : CodeValue). size_at (slice_get (supports_of pieces) place) e ≡ Some (length c.words))
given_size pieces place e (Ok c) standing some code =
    let given = given_at pieces place e standing some in
    let same = same_Some given.0 c (sym given.1.code ∙ code) in
    subst (λ (d : CodeValue). size_at (slice_get (supports_of pieces) place) e ≡ Some (length d.words)) same given.1.size
given_size pieces place e (Err fault) standing some code = tt
