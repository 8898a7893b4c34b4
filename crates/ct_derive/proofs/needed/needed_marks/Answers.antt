use Rattle.std.proofs.Common.{◌≡◌, ◌++◌, ℕ, Bool, false, List, length, replicate, take, drop, ap, sym, subst, ◌∙◌, arith}
use Rattle.std.proofs.lemmas.List.{take_all, take-append-le}
use Rattle.ct_derive.specs.Inside.Needed.{AreMarkedPieces}
use Rattle.ct_derive.proofs.needed.needed_marks.Goals as goal

-- what is written to all of the items
written : (n : ℕ) (new items : List Bool) → length new ≡ n → take n (new ++ drop (length new) items) ≡ new
written n new items long =
    take-append-le n new (drop (length new) items) (omega arith) ∙ take_all n new (omega arith)

pub mark_needed-requires : goal.mark_needed-requires
mark_needed-requires g c = record {
  none =
      c.deref_mut.ensures.value ∙ c.in_ok-marks.ensures.items_if_clones_equal (λ y same. same)
      ∙ ap (λ (n : ℕ). replicate n false) c.count.ensures;
  cited = c.requires.cited;
  earlier = c.requires.earlier;
}

pub returns : goal.returns
returns g c =
    subst (λ (marks : List Bool). AreMarkedPieces 0 (g.P.PieceParts.parts_of c.args.pieces.now) c.args.lines.now marks)
    (sym (written c.in_ok-marks.marks.len c.mark_needed.new.marks c.in_ok-marks.marks.items (c.mark_needed.auto.marks ∙ c.deref_mut.ensures.len)))
    c.in_ok-mark_needed.ensures
