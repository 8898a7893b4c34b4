use Rattle.std.proofs.Common.{ℕ, List, Bool, Option, Ok, ◌≡◌, ◌≤◌, length, sym, ap, ◌∙◌, subst, arith, rules}
use Rattle.std.proofs.lemmas.List.{length-map}
use Rattle.ct_words.specs.Code.{CodeValue}
use Rattle.ct_piece.specs.Piece.{PieceValue, stored_words}
use Rattle.ct_piece.specs.Standing.{AreStanding}
use Rattle.ct_piece.specs.Withdrawal.{taken_along, is_id_among, without_all, marks_along}
use Rattle.ct_piece.specs.Inside.Kept.{kept_codes, AreKept}
use Rattle.ct_piece.specs.Inside.Unmarked.{unmarked}
use Rattle.ct_piece.specs.declared.limits.TheConstants.{MAX_STORED}
use Rattle.ct_piece.proofs.KeptLemmas.{length-kept_codes, kept-length, kept-unmarked}
use Rattle.ct_piece.proofs.AlongLemmas.{AreStanding-along, kept-along, unmarked-along, length-unmarked, withdrawn_all-left}
use Rattle.ct_pieces.proofs.pieces.Pieces.take_out_all.Goals as goal

-- the pieces that are left, where the marks are those of pieces that the invariant speaks of by themselves
left_items : (items now left : List PieceValue) (id : List ℕ) (gone : List Bool) → items ≡ now → gone ≡ marks_along now id → left ≡ unmarked gone items
    → left ≡ without_all (taken_along items id) items
left_items items now left id gone same marks is =
    is ∙ ap (λ (g : List Bool). unmarked g items) (marks ∙ ap (λ (ps : List PieceValue). marks_along ps id) (sym same)) ∙ unmarked-along items id

pub leave_out-requires : goal.leave_out-requires
leave_out-requires c =
    let one = ap (λ (g : List Bool). length g) c.requires.marks in
    let two = length-map c.args.self.now (λ (p : PieceValue). is_id_among (taken_along c.args.self.now c.args.id) p.id) in
    one ∙ two ∙ ap (λ (ps : List PieceValue). length ps) (sym c.self.view_is)

pub leave_out-requires-2 : goal.leave_out-requires-2
leave_out-requires-2 c =
    let one = ap (λ (g : List Bool). length g) c.requires.marks in
    let two = length-map c.args.self.now (λ (p : PieceValue). is_id_among (taken_along c.args.self.now c.args.id) p.id) in
    one ∙ two ∙ ap (λ (ps : List PieceValue). length ps) (sym c.self.view_is) ∙ sym (length-kept_codes c.self.inside.pieces.items)
    ∙ sym (kept-length c.self.inside.kept.items (kept_codes c.self.inside.pieces.items) c.self.invariant.2)

pub stored_words-self-inside-requires : goal.stored_words-self-inside-requires
stored_words-self-inside-requires c =
    let items = c.self.inside.pieces.items in
    let left = left_items items c.args.self.now c.leave_out.new.items.items c.args.id c.args.gone.now c.self.view_is c.requires.marks c.leave_out.ensures in
    subst (λ (ps : List PieceValue). stored_words ps ≤ MAX_STORED) (sym (c.deref.ensures.value ∙ left)) (AreStanding-along items c.args.id c.self.invariant.0).small

pub overflow_sub-result : goal.overflow_sub-result
overflow_sub-result c =
    let less = length-unmarked c.args.gone.now c.self.inside.pieces.items in
    let new = ap (λ (ps : List PieceValue). length ps) c.leave_out.ensures in
    let before : c.len-before.result ≡ length c.self.inside.pieces.items = search rules in
    let now : c.len.result ≡ length c.leave_out.new.items.items = search rules in
    omega (arith, less, new, before, now)

pub invariant_of-self : goal.invariant_of-self
invariant_of-self c =
    let items = c.self.inside.pieces.items in
    let left = left_items items c.args.self.now c.leave_out.new.items.items c.args.id c.args.gone.now c.self.view_is c.requires.marks c.leave_out.ensures in
    let gone : c.args.gone.now ≡ marks_along items c.args.id = c.requires.marks ∙ ap (λ (ps : List PieceValue). marks_along ps c.args.id) (sym c.self.view_is) in
    let codes = c.self.inside.kept.items in
    let all : unmarked c.args.gone.now (kept_codes items) ≡ kept_codes c.leave_out.new.items.items =
    ap (λ (g : List Bool). unmarked g (kept_codes items)) gone ∙ sym (kept-along items c.args.id c.self.invariant.0) ∙ ap kept_codes (sym left) in
    let rest = subst (AreKept (unmarked c.args.gone.now codes)) all (kept-unmarked c.args.gone.now codes (kept_codes items) c.self.invariant.2) in
    let kept = subst (λ (ks : List (Option CodeValue)). AreKept ks (kept_codes c.leave_out.new.items.items)) (sym c.leave_out-2.ensures) rest in (
      subst AreStanding (sym left) (AreStanding-along items c.args.id c.self.invariant.0),
      c.stored_words-self-inside.ensures ∙ ap stored_words c.deref.ensures.value,
      kept,
    )

pub returns-clause-pieces : goal.returns-clause-pieces
returns-clause-pieces c =
    left_items c.self.inside.pieces.items c.args.self.now c.leave_out.new.items.items c.args.id c.args.gone.now c.self.view_is c.requires.marks c.leave_out.ensures
    ∙ ap (λ (ps : List PieceValue). without_all (taken_along ps c.args.id) ps) c.self.view_is

pub returns-clause-left : goal.returns-clause-left
returns-clause-left c =
    let left =
    left_items c.self.inside.pieces.items c.args.self.now c.leave_out.new.items.items c.args.id c.args.gone.now c.self.view_is c.requires.marks c.leave_out.ensures
    ∙ ap (λ (ps : List PieceValue). without_all (taken_along ps c.args.id) ps) c.self.view_is in
    withdrawn_all-left c.args.self.now c.args.id c.requires.stands ∙ ap Ok (sym left)

pub returns-clause-count : goal.returns-clause-count
returns-clause-count c =
    let less = length-unmarked c.args.gone.now c.self.inside.pieces.items in
    let new = ap (λ (ps : List PieceValue). length ps) c.leave_out.ensures in
    let before : c.len-before.result ≡ length c.self.inside.pieces.items = search rules in
    let now : c.len.result ≡ length c.leave_out.new.items.items = search rules in
    let old = ap (λ (ps : List PieceValue). length ps) c.self.view_is in
    omega (arith, less, new, before, now, old)
