use Rattle.std.proofs.Common.{◌≡◌, ◌++◌, ◌==◌, ℕ, List, [], ◌∷◌, length, Result, true, false, append-nil, sym, ◌∙◌, arith, eqb-true}
use Rattle.std.specs.Prelude.{OnOk, codes}
use Rattle.std.specs.List.{flat_map}
use Rattle.ct_text.specs.Number.{spaced}
use Rattle.ct_derive.specs.Check.{numbers_at}
use Rattle.ct_derive.specs.Text.{from_words}
use Rattle.ct_derive.proofs.TextParts.{onto_on_ok}
use Rattle.ct_derive.proofs.text.put_from.Goals as goal

-- no places, no words
no_words : (t from : List ℕ) → true ≡ (length from == 0) → t ≡ t ++ from_words (numbers_at from)
no_words t [] none = sym (append-nil t)
no_words t (p ∷ from) none =
    let zero = eqb-true (length (p ∷ from)) 0 (sym none) in
    absurd (omega (arith, zero))

-- the words, before some places
some_words : {T E : Type 0} (r : Result T E) (t t1 t2 from : List ℕ) → false ≡ (length from == 0) → t1 ≡ t ++ codes " from"
    → OnOk r (t2 ≡ t1 ++ flat_map spaced (numbers_at from)) → OnOk r (t2 ≡ t ++ from_words (numbers_at from))
some_words r t t1 t2 [] some one put = absurd cc
some_words r t t1 t2 (p ∷ from) some one put = onto_on_ok r t (codes " from") (flat_map spaced (numbers_at (p ∷ from))) t1 t2 one put

pub returns-then-is_empty : goal.returns-then-is_empty
returns-then-is_empty c = no_words c.args.text.now.items c.args.from.now (sym c.if-is_empty.true ∙ c.is_empty.ensures)

pub returns : goal.returns
returns c =
    some_words c.put_numbers.result c.args.text.now.items c.extend_from_slice.new.self.items c.put_numbers.new.text.items c.args.from.now
    (sym c.if-is_empty.false ∙ c.is_empty.ensures) c.in_ok-extend_from_slice.ensures.items c.put_numbers.ensures
