-- The lines of an explanation can be printed, and each follows over the printed pieces.
use Rattle.std.proofs.Common.{◌≡◌, ℕ, suc, ◌-◌, ◌^◌, ◌<◌, ◌≤◌, Bool, true, false, List, [], ◌∷◌, ◌++◌, map, length, take, Option, Some, option_map, refl, sym, ap, subst, ◌∙◌, append_assoc, arith}
use Rattle.std.specs.Prelude.{All, slice_get}
use Rattle.std.specs.Option.{option_to_list, unwrap_or}
use Rattle.std.proofs.lemmas.Bool.{and_parts, false≢true}
use Rattle.std.proofs.lemmas.List.{length-map, length-take-le}
use Rattle.std.proofs.lemmas.List.Elements.{All-head, All-tail, All-cons, All-nil, All-contains}
use Rattle.std.proofs.lemmas.Option.{slice_get-map, slice_get_within, get_or_from_slice_get}
use lib.Seq.{take-append_seam}
use Rattle.ct_words.specs.declared.entry.Entry.{Entry}
use Rattle.ct_words.specs.Claim.{IsTrueClaim}
use Rattle.ct_words.specs.Entry.{is_entry, unrestricted}
use Rattle.ct_words.proofs.EntryLemmas.{entry_limits}
use Rattle.ct_names.specs.Id.{is_id}
use Rattle.ct_rule_parts.specs.declared.support.Support.{Support}
use Rattle.ct_rule_parts.specs.Parts.{are_entries}
use Rattle.ct_plain_rules.specs.Juxtaposition.{juxtaposition}
use Rattle.ct_weight_rules.specs.WithoutWeight.{without_weight}
use Rattle.ct_weight_rules.specs.EliasBassalygo.{elias_bassalygo}
use Rattle.ct_weight_rules.specs.GrahamSloane.{graham_sloane}
use Rattle.ct_weight_rules.proofs.LawfulGrahamSloane.{known_class}
use Rattle.ct_weight_rules.specs.Neighbours.{even_of_weight, of_weight}
use Rattle.ct_rules.specs.declared.rule.Rule.{Rule}
use Rattle.ct_rules.specs.declared.rule.Rule.TheVariants.{L9, L11, M9, U10}
use Rattle.ct_rules.specs.declared.arguments.Arguments.{Arguments}
use Rattle.ct_rules.specs.declared.arguments.Arguments.TheVariants.{Nothing, Number, Numbers, Place}
use Rattle.ct_rules.specs.Rule.{row_of, named_place, arguments_of, applies}
use Rattle.ct_rules.proofs.RuleNames.{place_among, place_is}
use Rattle.ct_rules.specs.Derivation.{LineValue, Follows, IsDerivation}
use Rattle.ct_rules.proofs.Applied.{defined, applies_from_premises}
use Rattle.ct_rules.proofs.LoweredRules.{support_there}
use Rattle.ct_piece.specs.Piece.{PieceValue, place_of_id as piece_place}
use Rattle.ct_piece.specs.Standing.{AreStanding}
use Rattle.ct_piece.specs.Supports.{support_of, supports_of}
use Rattle.ct_derive.specs.Check.{numbers_at}
use Rattle.ct_derive.specs.Pieces.{cited_places, AreNeeded}
use Rattle.ct_derive.specs.Pieces.IsNeeded.{by_line}
use Rattle.ct_derive.proofs.NeededPieces.{cited_of_line}
use Rattle.ct_explain.specs.Parts.{parts_of_each}
use Rattle.ct_laws.proofs.RuleTexts.{HasId, ArePrintable, IsPrintable}
use Rattle.ct_laws.proofs.SmallEntries.{small_numbers}
use Rattle.ct_laws.proofs.PrintedLines.{is_among, new_place, items_at, AreThere, NamesOne, among_from, among_to, moved_item, moved_line, Follows-moved}
use Rattle.ct_laws.proofs.LineSteps.{HasNewPlace, IsReady, AreReady}
use Rattle.ct_laws.proofs.PrintedPieces.{AreDifferent, All-each, there_below, own_place, supports-items, supports_there}

-- the ids of the pieces
abbrev pub ids_of : List PieceValue → List (List ℕ)
ids_of pieces = map (λ (p : PieceValue). p.id) pieces

-- the piece that a rule names has an id
named_piece : (pieces : List PieceValue) (r : Rule) (place : ℕ) (e : Entry) → AreStanding pieces → applies (supports_of pieces) r e ≡ true → named_place r ≡ Some place
    → HasId (ids_of pieces) place
named_piece pieces r place e h applied names =
    let support = support_there (supports_of pieces) r place e applied names in
    let within = slice_get_within (supports_of pieces) place support.0 support.1 in
    let long = length-map pieces support_of in
    let own = there_below pieces place (omega (arith, within, long)) in
    let p = own.0 in (
      p.id,
      slice_get-map (λ (q : PieceValue). q.id) pieces place ∙ ap (option_map (λ (q : PieceValue). q.id)) own.1,
      subst (λ (q : PieceValue). is_id q.id ≡ true) (get_or_from_slice_get pieces place p p own.1) (h.named place p (slice_get_within pieces place p own.1)),
    )

first_entry : (e : Entry) (es : List Entry) → are_entries (e ∷ es) ≡ true → is_entry e ≡ true
first_entry e es h = (and_parts (is_entry e) (are_entries es) h).0

-- whether arguments are numbers
abbrev are_numbers : Arguments → Bool
are_numbers Nothing = false
are_numbers (Number k) = true
are_numbers (Numbers k m) = true
are_numbers (Place place) = false

-- what a rule names without numbers that applies can be printed
printable_rest : (pieces : List PieceValue) (r : Rule) (arguments : Arguments) (e : Entry) → arguments_of r ≡ arguments → are_numbers arguments ≡ false → AreStanding pieces
    → applies (supports_of pieces) r e ≡ true → ArePrintable (ids_of pieces) arguments
printable_rest pieces r Nothing e is none h applied = tt
printable_rest pieces r (Number k) e is none h applied = absurd (false≢true (sym none))
printable_rest pieces r (Numbers k m) e is none h applied = absurd (false≢true (sym none))
printable_rest pieces r (Place place) e is none h applied = named_piece pieces r place e h applied (sym (place_is r) ∙ ap place_among is)

-- what a rule names that applies can be printed
rule_printable : (pieces : List PieceValue) (r : Rule) (e : Entry) → AreStanding pieces → applies (supports_of pieces) r e ≡ true → IsPrintable (ids_of pieces) r
unfolding row_of
rule_printable pieces (L9 w) e h applied =
    let weight = (small_numbers (even_of_weight e w) (first_entry (even_of_weight e w) [] (defined (without_weight w) e applied).premises)).weight_small w refl in
    omega (arith, weight)
rule_printable pieces (L11 n d) e h applied =
    let entries = (defined (juxtaposition n d) e applied).premises in
    let numbers = small_numbers (unrestricted n d) (first_entry (unrestricted n d) (unrestricted (e.n - n) (e.d - d) ∷ []) entries) in
    let long = numbers.length_small in
    let far = numbers.distance_small in
    (omega (arith, long), omega (arith, far))
rule_printable pieces (M9 k) e h applied =
    let is = defined (graham_sloane k) e applied in
    let below = (known_class k e is.condition).residue in
    let length = (entry_limits e is.entry).length_to in
    omega (arith, below, length)
rule_printable pieces (U10 w) e h applied =
    let weight = (small_numbers (of_weight e w) (first_entry (of_weight e w) [] (defined (elias_bassalygo w) e applied).premises)).weight_small w refl in
    omega (arith, weight)
rule_printable pieces r e h applied = printable_rest pieces r (arguments_of r) e refl refl h applied

numbers_small : (n : ℕ) (from : List ℕ) → n < 2 ^ 64 → All (λ p. p < n) from → All (λ m. m < 2 ^ 64) (numbers_at from)
numbers_small n [] small h = All-nil (λ m. m < 2 ^ 64)
numbers_small n (p ∷ from) small h =
    let own = All-head (λ q. q < n) p from h in
    All-cons (λ m. m < 2 ^ 64) (suc p) (numbers_at from) (omega (arith, own, small)) (numbers_small n from small (All-tail (λ q. q < n) p from h))

-- the pieces that a line's rule names are among the needed ones
line_names : (pieces : List PieceValue) (lines : List LineValue) (places : List ℕ) (i : ℕ) (l : LineValue) → AreNeeded (parts_of_each pieces) lines places → slice_get lines i ≡ Some l
    → NamesOne places l.rule
line_names pieces lines places i l needed at p is =
    let all = All-each (λ q. is_among places q ≡ true) (cited_places lines) (λ q has. among_from places q ((needed.needed q).1 (by_line q has))) in
    let own = cited_of_line (λ q. is_among places q ≡ true) lines i l at all in
    All-head (λ q. is_among places q ≡ true) p [] (subst (λ (o : Option ℕ). All (λ q. is_among places q ≡ true) (option_to_list o)) is own)

-- a piece that is named has its place among the printed ones
new_place_of : (pieces : List PieceValue) (places : List ℕ) (r : Rule) → AreThere pieces places → AreDifferent (items_at pieces places) → NamesOne places r
    → HasNewPlace (ids_of pieces) (items_at pieces places) places r
new_place_of pieces places r there different names p is =
    let among = names p is in
    let own = item places p there among in
    let q = own.0 in
    let id : slice_get (ids_of pieces) p ≡ Some q.id = slice_get-map (λ (s : PieceValue). s.id) pieces p ∙ ap (option_map (λ (s : PieceValue). s.id)) own.1 in
    ap (λ (o : Option (List ℕ)). piece_place (unwrap_or o []) (items_at pieces places)) id
    ∙ own_place (items_at pieces places) (new_place places p) q different (moved_item pieces places p there among ∙ own.1)
  where
    item : (ps : List ℕ) (k : ℕ) → AreThere pieces ps → is_among ps k ≡ true → (s : PieceValue) × (slice_get pieces k ≡ Some s)
    item ps k all among =
        All-contains (λ m. (s : PieceValue) × (slice_get pieces m ≡ Some s)) ps k all (among_to ps k among)

-- what is known of an explanation over pieces that stand
pub record IsPrinted (pieces : List PieceValue) (places : List ℕ) (lines : List LineValue) : Type 0 where
  pub standing : AreStanding pieces
  pub different : AreDifferent (items_at pieces places)
  pub there : AreThere pieces places
  pub needed : AreNeeded (parts_of_each pieces) lines places
  pub derivation : IsDerivation (supports_of pieces) lines
  pub claims : All (λ l. IsTrueClaim l.claim) lines
  pub few : length lines ≤ 2 ^ 63

-- each of its lines is ready
ready_line : (pieces : List PieceValue) (places : List ℕ) (lines : List LineValue) (i : ℕ) (l : LineValue) → IsPrinted pieces places lines → slice_get lines i ≡ Some l
    → IsReady (ids_of pieces) (items_at pieces places) places (take i lines) l
ready_line pieces places lines i l h at =
    let before : List LineValue = take i lines in
    let follows = h.derivation i l at in
    let within = slice_get_within lines i l at in
    let few = h.few in
    let long : length before ≡ i = length-take-le i lines (omega (arith, within)) in
    let small : length before < 2 ^ 64 = omega (arith, long, within, few) in
    let true_claim = subst (λ (m : LineValue). IsTrueClaim m.claim) (get_or_from_slice_get lines i l l at) (h.claims i l within) in
    let names = line_names pieces lines places i l h.needed at in
    let applied = applies_from_premises (supports_of pieces) l.rule l.claim.entry _ follows.premises in
    record {
      printable = record {
        numbered = omega (arith, long, within, few);
        entry = true_claim.entry;
        range = true_claim.range;
        side = sym follows.side;
        rule = rule_printable pieces l.rule l.claim.entry h.standing applied;
        premises = numbers_small (length before) l.from small follows.earlier;
      };
      place = new_place_of pieces places l.rule h.there h.different names;
      follows = subst (λ (supports : List Support). Follows supports (map (moved_line places) before) (moved_line places l)) (sym (supports-items pieces places))
          (Follows-moved (supports_of pieces) places before l (supports_there pieces places h.there) names follows);
    }

seam : (before : List LineValue) (l : LineValue) (ls : List LineValue) → slice_get (before ++ l ∷ ls) (length before) ≡ Some l
seam [] l ls = refl
seam (m ∷ before) l ls = seam before l ls

ready_from : (ids : List (List ℕ)) (printed : List PieceValue) (places : List ℕ) (before ls : List LineValue)
    → ((i : ℕ) (l : LineValue) → slice_get (before ++ ls) i ≡ Some l → IsReady ids printed places (take i (before ++ ls)) l) → AreReady ids printed places before ls
ready_from ids printed places before [] h = tt
ready_from ids printed places before (l ∷ ls) h = (
  subst (λ (front : List LineValue). IsReady ids printed places front l) (take-append_seam before (l ∷ ls)) (h (length before) l (seam before l ls)),
  ready_from ids printed places (before ++ l ∷ []) ls
      (subst (λ (all : List LineValue). (i : ℕ) (m : LineValue) → slice_get all i ≡ Some m → IsReady ids printed places (take i all) m) (sym (append_assoc before (l ∷ []) ls)) h),
)

-- so all are
pub ready_lines : (pieces : List PieceValue) (places : List ℕ) (lines : List LineValue) → IsPrinted pieces places lines
    → AreReady (ids_of pieces) (items_at pieces places) places [] lines
ready_lines pieces places lines h = ready_from (ids_of pieces) (items_at pieces places) places [] lines (λ i l at. ready_line pieces places lines i l h at)
