-- A table while supports are taken out: it can be closed once the lines that are left have moved and what is lost is marked; and it is a table
-- once it is closed and its rules are lowered.
use Rattle.std.proofs.Common.{◌≡◌, ℕ, ◌+◌, ◌<◌, ◌^◌, List, [], ◌++◌, length, map, take, drop, get_or, All, Option, Some, None, option_map, slice_get, refl, sym, ap, subst, ◌∙◌, arith}
use Rattle.std.proofs.lemmas.List.{take-append-drop, take_at}
use Rattle.std.proofs.lemmas.Option.{slice_get-map, slice_get-get_or, none-some, same_Some}
use Rattle.ct_words.specs.declared.claim.Claim.{Claim}
use Rattle.ct_words.specs.Entry.{IsEntry}
use Rattle.ct_rule_parts.specs.declared.support.Support.{Support}
use Rattle.ct_rules.specs.declared.rule.Rule.{Rule}
use Rattle.ct_rules.specs.Derivation.{LineValue}
use Rattle.ct_rule_parts.proofs.Places.{slice_get-take, slice_get-append_right}
use Rattle.ct_rules.specs.Removal.{Places, without, lowered, voided, lowered_line}
use Rattle.ct_rules.proofs.VoidedSupports.{AllStand-voided, AllStand-without, length-voided, IsClosed-without}
use Rattle.ct_rules.proofs.WithoutLemmas.{length-without}
use Rattle.ct_table.specs.Closing.{ClosingValue, CanClose, IsClosing, HasMoreLines}
use Rattle.ct_kept.specs.Kept.{KeptValue, BaseValue, IsBase, reason_of, set_back}
use Rattle.ct_slots.specs.Number.{bound_of}
use Rattle.ct_slots.specs.Worklist.{WorkValue}
use Rattle.ct_kept.proofs.KeptLemmas.{line_entry}
use Rattle.ct_kept.proofs.LineLemmas.{kept_in}
use Rattle.ct_table.specs.Inside.Walk.{moved_place, walk}
use Rattle.ct_table.specs.Inside.Removing.{IsSetBack, IsMarkedIfLost, IsTakenOut}
use Rattle.ct_table.specs.Removal.{claim_and_rule, claim_and_lowered_rule, KeepsReasons}
use Rattle.ct_table.specs.Table.{IsTable, table_of}
use Rattle.ct_table.proofs.BaseLemmas.{IsKept-over, base_count, IsBase-again}
use Rattle.ct_table.proofs.LeftLemmas.{pending-left, reasons-left}
use Rattle.ct_table.proofs.LoweredKept.{lowered_kept, lowered_later, IsKept-lowered}
use Rattle.ct_table.proofs.MovedPlaces.{moved-base, moved-within}
use Rattle.ct_table.proofs.WalkLemmas.{IsWalked, IsWalked-all, slice_get-front}

-- what holds before the walk: the lines of the base are at their places
moved-none : (base p m : ℕ) → moved_place base [] p ≡ Some m → (p < base) × (p ≡ m)
moved-none base p m h =
    let within = moved-within base [] p m h in
    let below : p < base = omega arith in
    (below, same_Some p m (sym (moved-base base [] p below) ∙ h))

IsWalked-none : (gone : Places) (supports : List Support) (old : KeptValue) (base : BaseValue) → IsBase base old
    → IsWalked gone supports old [] (set_back base old)
IsWalked-none gone supports old base is = record {
  kept = IsKept-over (voided gone supports) (set_back base old) is;
  went = λ p m l there at. let same = moved-none old.base p m at in
      record {
        line = l;
        there =
            ap (slice_get (take old.base old.lines)) (sym same.1) ∙ slice_get-front old.lines old.base p same.0 ∙ there;
        claim = refl;
        rule = refl;
      };
  came = λ m k there. let first = slice_get-take old.base old.lines m k there in
      record {
        place = m;
        line = k;
        there = first.1;
        mark = moved-base old.base [] m first.0;
        claim = refl;
      };
  rising = λ p q m n below first second.
      let one = (moved-none old.base p m first).1 in
      let two = (moved-none old.base q n second).1 in
      omega (arith, one, two, below);
  rests = λ p within none.
      let below : p < old.base = omega (arith, within) in
      absurd (none-some p (sym none ∙ moved-base old.base [] p below));
}

-- where the marks are and what is left after the walk over all later lines
record IsLeft (gone : Places) (supports : List Support) (old rest : KeptValue) : Type 0 where
  marks : List (Option ℕ)
  all : length old.lines ≡ old.base + length marks
  walked : IsWalked gone supports old marks rest

left_of : (gone : Places) (supports : List Support) (old : KeptValue) (base : BaseValue) (closing : ClosingValue)
    (later : List LineValue) → IsSetBack supports old base closing later
    → IsLeft gone supports old (walk (length closing.kept.lines) gone [] closing.kept later)
left_of gone supports old base closing later back =
    let count = base_count supports old back.table.kept in
    let whole =
    IsWalked-all gone supports old back.table.kept (drop old.base old.lines) (take old.base old.lines) []
    (set_back base old) (IsWalked-none gone supports old base back.table.base)
    (sym (take-append-drop old.base old.lines)) (omega (arith, count)) in
    let same : walk old.base gone [] (set_back base old) (drop old.base old.lines)
    ≡ walk (length closing.kept.lines) gone [] closing.kept later =
    ap (λ (n : ℕ). walk n gone [] (set_back base old) (drop old.base old.lines)) (sym count)
    ∙ ap (λ (k : KeptValue). walk (length k.lines) gone [] k (drop old.base old.lines)) (sym back.back)
    ∙ ap (walk (length closing.kept.lines) gone [] closing.kept) (sym back.later_are) in
    record {
      marks = whole.0;
      all = whole.1;
      walked = subst (IsWalked gone supports old whole.0) same whole.2;
    }

-- the later lines bound slots of the table
pub later_entries : (supports : List Support) (old : KeptValue) (base : BaseValue) (closing : ClosingValue)
    (later : List LineValue) → IsSetBack supports old base closing later → All (λ l. IsEntry l.claim.entry) later
later_entries supports old base closing later back =
    subst (All (λ (l : LineValue). IsEntry l.claim.entry)) (sym back.later_are) (λ k d within.
    line_entry supports old (length (take old.base old.lines) + k) (get_or (drop old.base old.lines) k d) back.table.kept
    (ap (λ (ls : List LineValue). slice_get ls (length (take old.base old.lines) + k))
    (sym (take-append-drop old.base old.lines))
    ∙ slice_get-append_right (take old.base old.lines) (drop old.base old.lines) k
    ∙ slice_get-get_or (drop old.base old.lines) k d within))

-- once what is lost is marked it can be closed
pub CanClose-left : (gone : Places) (supports : List Support) (old : KeptValue) (base : BaseValue)
    (closing : ClosingValue) (later : List LineValue) (rest : KeptValue) (work : WorkValue) (evaluations : ℕ)
    → IsSetBack supports old base closing later
    → rest ≡ walk (length closing.kept.lines) gone [] closing.kept later → All (IsMarkedIfLost rest.bounds work) later
    → CanClose (voided gone supports) (record { kept = rest; work = work; evaluations = evaluations })
CanClose-left gone supports old base closing later rest work evaluations back is lost = record {
  stand = AllStand-voided gone supports back.table.stand;
  few = subst (λ n. n < 2 ^ 32) (sym (length-voided gone supports)) back.table.few;
  kept = walked.kept;
  pending =
      pending-left gone supports old left.marks rest back.table.kept walked left.all work back.table.stand
      back.table.closed (subst (All (IsMarkedIfLost rest.bounds work)) back.later_are lost);
}
  where
    left : IsLeft gone supports old (walk (length closing.kept.lines) gone [] closing.kept later)
    left = left_of gone supports old base closing later back

    walked : IsWalked gone supports old left.marks rest
    walked = subst (IsWalked gone supports old left.marks) (sym is) left.walked

-- and once it is closed the supports are taken out
pub IsTakenOut-closed : (gone : Places) (supports : List Support) (old : KeptValue) (base : BaseValue)
    (closing : ClosingValue) (later : List LineValue) (marked new : ClosingValue)
    → IsSetBack supports old base closing later
    → marked.kept ≡ walk (length closing.kept.lines) gone [] closing.kept later
    → IsClosing (voided gone supports) marked new → IsTakenOut gone supports old new
IsTakenOut-closed gone supports old base closing later marked new back is closed = record {
  kept = closed.kept;
  closed = closed.closed;
  idle = closed.idle;
  keeps =
      reasons-left gone supports old left.marks marked.kept back.table.kept walked left.all new.kept back.table.stand
      back.table.closed closed.kept closed.grew;
}
  where
    left : IsLeft gone supports old (walk (length closing.kept.lines) gone [] closing.kept later)
    left = left_of gone supports old base closing later back

    walked : IsWalked gone supports old left.marks marked.kept
    walked = subst (IsWalked gone supports old left.marks) (sym is) left.walked

-- after want of memory what was kept is put back
pub put_back-same : (supports : List Support) (old : KeptValue) (base : BaseValue) (work : WorkValue) (now : KeptValue)
    → IsTable supports old base work → HasMoreLines (set_back base old) now
    → kept_in old.bounds old.reasons (take now.base now.lines ++ drop old.base old.lines) now.base ≡ old
put_back-same supports old base work now table more =
    let count = base_count supports old table.kept in
    let first : take now.base now.lines ≡ take old.base old.lines =
    ap (λ (n : ℕ). take n now.lines) more.0 ∙ ap (take old.base) more.1.1
    ∙ take_at (take old.base old.lines) more.1.0 old.base count in
    let all : take now.base now.lines ++ drop old.base old.lines ≡ old.lines =
    ap (λ (ls : List LineValue). ls ++ drop old.base old.lines) first ∙ take-append-drop old.base old.lines in
    λ i. record { bounds = old.bounds; reasons = old.reasons; lines = all i; base = more.0 i }

-- with its rules lowered it is a table over the supports that are left
pub IsTable-without : (gone : Places) (supports left : List Support) (old : KeptValue) (base : BaseValue)
    (work : WorkValue) (new : ClosingValue) (kept : KeptValue) → IsTable supports old base work
    → IsTakenOut gone supports old new → HasMoreLines (set_back base old) new.kept
    → kept ≡ kept_in new.kept.bounds new.kept.reasons (take new.kept.base new.kept.lines ++ map (lowered_line gone) (drop new.kept.base new.kept.lines)) new.kept.base
    → left ≡ without gone supports → IsTable left kept base new.work
IsTable-without gone supports left old base work new kept table taken more is left_is =
    subst (λ (k : KeptValue). IsTable left k base new.work) (sym (is ∙ whole)) (subst
    (λ (these : List Support). IsTable these (lowered_kept gone new.kept) base new.work) (sym left_is) (record {
      stand = AllStand-without gone supports table.stand;
      few = (let less = length-without gone supports in let before = table.few in omega (arith, less, before));
      kept = IsKept-lowered gone supports new.kept taken.kept;
      closed = IsClosed-without gone supports (bound_of new.kept.bounds) taken.closed;
      base = subst (IsBase base) whole based_again;
      idle = taken.idle;
    }))
  where
    based : IsBase base new.kept
    based =
        IsBase-again base old new.kept more.1.0 (base_count supports old table.kept) table.base more.0 more.1.1

    parts : KeptValue
    parts = kept_in new.kept.bounds new.kept.reasons (take new.kept.base new.kept.lines ++ map (lowered_line gone) (drop new.kept.base new.kept.lines)) new.kept.base

    whole : parts ≡ lowered_kept gone new.kept
    whole =
        let lines = lowered_later gone base new.kept based in
        λ i. record { bounds = new.kept.bounds; reasons = new.kept.reasons; lines = lines i; base = new.kept.base }

    based_again : IsBase base parts
    based_again =
        IsBase-again base new.kept parts (map (lowered_line gone) (drop new.kept.base new.kept.lines))
        (base_count (voided gone supports) new.kept taken.kept) based refl refl

-- the claims and the rules of lines that are lowered
pair-lowered : (gone : Places) (o : Option LineValue)
    → option_map claim_and_rule (option_map (lowered_line gone) o)
    ≡ option_map (λ (p : Claim × Rule). (p.0, lowered gone p.1)) (option_map claim_and_rule o)
pair-lowered gone None = refl
pair-lowered gone (Some l) = refl

pair-lowered_rule : (gone : Places) (o : Option LineValue)
    → option_map (λ (p : Claim × Rule). (p.0, lowered gone p.1)) (option_map claim_and_rule o)
    ≡ option_map (claim_and_lowered_rule gone) o
pair-lowered_rule gone None = refl
pair-lowered_rule gone (Some l) = refl

-- and keeps its reasons
pub KeepsReasons-without : (gone : Places) (supports left : List Support) (old : KeptValue) (base : BaseValue)
    (work : WorkValue) (new : ClosingValue) (kept : KeptValue) → IsTable supports old base work
    → IsTakenOut gone supports old new → HasMoreLines (set_back base old) new.kept
    → kept ≡ kept_in new.kept.bounds new.kept.reasons (take new.kept.base new.kept.lines ++ map (lowered_line gone) (drop new.kept.base new.kept.lines)) new.kept.base
    → KeepsReasons gone (table_of supports old) (table_of left kept)
KeepsReasons-without gone supports left old base work new kept table taken more is s entry free =
    subst (λ (k : KeptValue). option_map claim_and_rule (slice_get k.lines (reason_of k s))
    ≡ option_map (claim_and_lowered_rule gone) (slice_get old.lines (reason_of old s))) (sym (is ∙ whole))
    (ap (option_map claim_and_rule) (slice_get-map (lowered_line gone) new.kept.lines (reason_of new.kept s))
    ∙ pair-lowered gone (slice_get new.kept.lines (reason_of new.kept s))
    ∙ ap (option_map (λ (p : Claim × Rule). (p.0, lowered gone p.1))) (taken.keeps s entry free)
    ∙ pair-lowered_rule gone (slice_get old.lines (reason_of old s)))
  where
    based : IsBase base new.kept
    based =
        IsBase-again base old new.kept more.1.0 (base_count supports old table.kept) table.base more.0 more.1.1

    whole : kept_in new.kept.bounds new.kept.reasons (take new.kept.base new.kept.lines ++ map (lowered_line gone) (drop new.kept.base new.kept.lines)) new.kept.base
        ≡ lowered_kept gone new.kept
    whole =
        let lines = lowered_later gone base new.kept based in
        λ i. record { bounds = new.kept.bounds; reasons = new.kept.reasons; lines = lines i; base = new.kept.base }
