-- Over pieces that stand each side of an entry has a best bound, which is true, and no two.
use Rattle.std.proofs.Common.{◌≡◌, ℕ, ◌+◌, ◌-◌, ◌≤◌, Bool, true, false, cond, List, [], ◌∷◌, ◌++◌, map, Option, Some, None, refl, ap, sym, subst, ◌∙◌, append-nil}
use Rattle.std.specs.List.{AllZip, AllByRecursion, range_with_len}
use Rattle.std.proofs.lemmas.List.Elements.{filter_passes, recursion_from_All}
use Rattle.ct_words.specs.declared.limits.TheConstants.{MAX_N}
use Rattle.ct_words.specs.declared.entry.Entry.{Entry}
use Rattle.ct_words.specs.declared.claim.Side.{Side}
use Rattle.ct_words.specs.declared.claim.Side.TheVariants.{Lower, Upper}
use Rattle.ct_words.specs.Entry.{IsEntry, is_entry}
use Rattle.ct_words.specs.TableEntries.{column}
use Rattle.ct_words.proofs.ColumnLemmas.{entry_at, column_to, column_to-more}
use Rattle.ct_rule_parts.specs.declared.support.Support.{Support}
use Rattle.ct_rules.specs.Derivation.{IsBest}
use Rattle.ct_rules.proofs.BestValues.{best_exists, best_is_true}
use Rattle.ct_rules.proofs.ClosedBounds.{best_is_one}
use Rattle.ct_piece.specs.Piece.{PieceValue}
use Rattle.ct_piece.specs.Standing.{AreStanding}
use Rattle.ct_piece.specs.Supports.{supports_of}
use Rattle.ct_piece.proofs.SupportLemmas.{supports_stand}
use Rattle.ct_session.specs.Reply.{IsShownBound, AreBoundsOf}
use Rattle.ct_replies.specs.declared.reply.Bounds.{Bounds}

-- each side of an entry of the table has a best bound, which is true
pub shown : (pieces : List PieceValue) (side : Side) (e : Entry) → AreStanding pieces → IsEntry e → (v : ℕ) × IsShownBound pieces side e v
shown pieces side e h entry =
    let stand = supports_stand pieces h in
    let best = best_exists (supports_of pieces) (side, e) stand entry in
    (best.0, record { best = best.1; truth = best_is_true (supports_of pieces) (side, e) best.0 stand best.1 })

-- pieces that give the same show the same bound
pub shown_once : (pieces other : List PieceValue) (side : Side) (e : Entry) (u v : ℕ) → supports_of pieces ≡ supports_of other
    → IsShownBound pieces side e u → IsShownBound other side e v → u ≡ v
shown_once pieces other side e u v same h k =
    best_is_one (supports_of other) (side, e) u v (subst (λ (s : List Support). IsBest s (side, e) u) same h.best) k.best

-- the bounds of an entry
pub some_bounds : (pieces : List PieceValue) (e : Entry) → AreStanding pieces → IsEntry e → (b : Bounds) × AreBoundsOf pieces e b
some_bounds pieces e h entry =
    let below = shown pieces Lower e h entry in
    let above = shown pieces Upper e h entry in
    (record { entry = e; lower = below.0; upper = above.0 }, record { entry = refl; lower = below.1; upper = above.1 })

-- they are no others
pub same_bounds : (pieces : List PieceValue) (e : Entry) (b c : Bounds) → AreBoundsOf pieces e b → AreBoundsOf pieces e c → b ≡ c
same_bounds pieces e b c h k =
    let entry = h.entry ∙ sym k.entry in
    let lower = shown_once pieces pieces Lower e b.lower c.lower refl h.lower k.lower in
    let upper = shown_once pieces pieces Upper e b.upper c.upper refl h.upper k.upper in
    λ i. record { entry = entry i; lower = lower i; upper = upper i }

-- the bounds of several entries
pub some_bounds_of_all : (pieces : List PieceValue) (es : List Entry) → AreStanding pieces → AllByRecursion IsEntry es → (bs : List Bounds) × AllZip (AreBoundsOf pieces) es bs
some_bounds_of_all pieces [] h entries = ([], tt)
some_bounds_of_all pieces (e ∷ es) h entries =
    let first = some_bounds pieces e h entries.0 in
    let rest = some_bounds_of_all pieces es h entries.1 in
    (first.0 ∷ rest.0, (first.1, rest.1))

-- a column has entries of the table
pub column_entries : (d : ℕ) (w : Option ℕ) → AllByRecursion IsEntry (column d w)
unfolding column
column_entries d w = recursion_from_All IsEntry (column d w) (filter_passes is_entry (map (λ n. record { n = n; d = d; w = w }) (range_with_len 1 MAX_N)))

-- the bounds of several entries are no others
pub same_bounds_of_all : (pieces : List PieceValue) (es : List Entry) (bs cs : List Bounds) → AllZip (AreBoundsOf pieces) es bs → AllZip (AreBoundsOf pieces) es cs → bs ≡ cs
same_bounds_of_all pieces [] [] [] h k = refl
same_bounds_of_all pieces [] [] (c ∷ cs) h k = absurd k
same_bounds_of_all pieces [] (b ∷ bs) cs h k = absurd h
same_bounds_of_all pieces (e ∷ es) [] cs h k = absurd h
same_bounds_of_all pieces (e ∷ es) (b ∷ bs) [] h k = absurd k
same_bounds_of_all pieces (e ∷ es) (b ∷ bs) (c ∷ cs) h k =
    ap (λ x. x ∷ bs) (same_bounds pieces e b c h.0 k.0) ∙ ap (λ xs. c ∷ xs) (same_bounds_of_all pieces es bs cs h.1 k.1)

-- one more entry with its bounds
pub bounds_of_more : (pieces : List PieceValue) (es : List Entry) (bs : List Bounds) (e : Entry) (b : Bounds) → AllZip (AreBoundsOf pieces) es bs → AreBoundsOf pieces e b
    → AllZip (AreBoundsOf pieces) (es ++ e ∷ []) (bs ++ b ∷ [])
bounds_of_more pieces [] [] e b h one = (one, tt)
bounds_of_more pieces [] (c ∷ bs) e b h one = absurd h
bounds_of_more pieces (f ∷ es) [] e b h one = absurd h
bounds_of_more pieces (f ∷ es) (c ∷ bs) e b h one = (h.0, bounds_of_more pieces es bs e b h.1 one)

-- what it means that the entry is there, or not
chosen_entry : (b : Bool) (e f : Entry) → Some f ≡ cond b (Some e) None → (b ≡ true) × (f ≡ e)
chosen_entry true e f h = (refl, cc)
chosen_entry false e f h = absurd (cc)

no_entry : (b : Bool) (e : Entry) → None ≡ cond b (Some e) None → b ≡ false
no_entry true e h = absurd (cc)
no_entry false e h = refl

-- an entry that is there is one of the table
pub named_is_entry : (e f : Entry) → Some f ≡ cond (is_entry e) (Some e) None → IsEntry f
named_is_entry e f named = let there = chosen_entry (is_entry e) e f named in subst IsEntry (sym there.1) there.0

-- it is there, and has these bounds
pub column_more : (pieces : List PieceValue) (d : ℕ) (w : Option ℕ) (n : ℕ) (f : Entry) (bs : List Bounds) (b : Bounds) → 1 ≤ n
    → Some f ≡ cond (is_entry (entry_at d w n)) (Some (entry_at d w n)) None → AllZip (AreBoundsOf pieces) (column_to d w (n - 1)) bs → AreBoundsOf pieces f b
    → AllZip (AreBoundsOf pieces) (column_to d w (n + 1 - 1)) (bs ++ b ∷ [])
column_more pieces d w n f bs b some named h one =
    let e = entry_at d w n in
    let there = chosen_entry (is_entry e) e f named in
    let more = column_to-more d w n some ∙ ap (λ (t : Bool). column_to d w (n - 1) ++ cond t (e ∷ []) []) there.0 in
    subst (λ (es : List Entry). AllZip (AreBoundsOf pieces) es (bs ++ b ∷ [])) (sym more)
    (bounds_of_more pieces (column_to d w (n - 1)) bs e b h (subst (λ (g : Entry). AreBoundsOf pieces g b) there.1 one))

-- it is not there
pub column_same : (pieces : List PieceValue) (d : ℕ) (w : Option ℕ) (n : ℕ) (bs : List Bounds) → 1 ≤ n
    → None ≡ cond (is_entry (entry_at d w n)) (Some (entry_at d w n)) None → AllZip (AreBoundsOf pieces) (column_to d w (n - 1)) bs
    → AllZip (AreBoundsOf pieces) (column_to d w (n + 1 - 1)) bs
column_same pieces d w n bs some named h =
    let e = entry_at d w n in
    let more = column_to-more d w n some ∙ ap (λ (t : Bool). column_to d w (n - 1) ++ cond t (e ∷ []) []) (no_entry (is_entry e) e named) ∙ append-nil (column_to d w (n - 1)) in
    subst (λ (es : List Entry). AllZip (AreBoundsOf pieces) es bs) (sym more) h

-- the whole column
pub column_whole : (pieces : List PieceValue) (d : ℕ) (w : Option ℕ) (n : ℕ) (bs : List Bounds) → n ≡ MAX_N + 1
    → AllZip (AreBoundsOf pieces) (column_to d w (n - 1)) bs → AllZip (AreBoundsOf pieces) (column d w) bs
unfolding column
column_whole pieces d w n bs whole h = subst (λ (k : ℕ). AllZip (AreBoundsOf pieces) (column_to d w (k - 1)) bs) whole h
