-- The walk over the lines of an explanation of a lower bound, one line after the other.
use Rattle.std.proofs.Common.{◌≡◌, ℕ, ◌+◌, ◌-◌, ◌<◌, ◌≤◌, List, [], ◌∷◌, ◌++◌, length, take, drop, All, Option, Some, Result, Ok, Err, IfOk, sym, ap, subst, ◌∙◌, arith}
use Rattle.std.specs.Prelude.{slice_get, option_map, OnOk}
use Rattle.std.proofs.lemmas.List.{length-take-le, length-append}
use Rattle.std.proofs.lemmas.Option.{slice_get_within, same_Some}
use Rattle.ct_words.specs.declared.entry.Entry.{Entry}
use Rattle.ct_words.specs.declared.claim.Side.TheVariants.{Lower}
use Rattle.ct_words.specs.declared.claim.Claim.{Claim}
use Rattle.ct_words.specs.Code.{CodeValue, IsSoundCode}
use Rattle.ct_rule_parts.specs.declared.support.Support.{Support}
use Rattle.ct_rule_parts.specs.Slot.{slot_of, claim_at}
use Rattle.ct_rules.specs.declared.rule.Rule.{Rule}
use Rattle.ct_rules.specs.Rule.{rule_side, parts_over}
use Rattle.ct_rules.specs.Derivation.{LineValue, IsBest}
use Rattle.ct_table.specs.Table.{TableValue}
use Rattle.ct_derive.specs.Explanation.{IsExplanation}
use Rattle.ct_derive.proofs.PrunedLines.{some_at}
use Rattle.ct_derive.proofs.ClaimedLines.{line_with_claim}
use Rattle.ct_derive.specs.Listed.{IsListedCode}
use Rattle.ct_list.specs.Inside.Kept.{IsCodeFor, AreCodesFor, AreKept, named_by}
use Rattle.ct_list.specs.Inside.Rows.{AreParts, IsMadeBy}
use Rattle.ct_list.proofs.LowerLines.{lower_lines}
use Rattle.ct_list.proofs.Following.{parts_of_line, code_of_line, codes_before}
use Rattle.ct_list.proofs.KeptCodes.{kept-push, named_from, rest_is}

-- the line at a place, as it is read
pub read_line : (lines : List LineValue) (place : ℕ) (own : LineValue) (claim : Claim) (rule : Rule) (from shown : List ℕ)
    → slice_get lines place ≡ Some own → shown ≡ from → record { claim = claim; rule = rule; from = from } ≡ own
    → slice_get lines place ≡ Some (record { claim = claim; rule = rule; from = shown })
read_line lines place own claim rule from shown at same view =
    at ∙ ap Some (sym (ap (λ (ps : List ℕ). record { claim = claim; rule = rule; from = ps }) same ∙ view))

-- what holds whatever the answer is
pub on_ok : {T E : Type 0} (P : Type 0) (r : Result T E) → P → OnOk r P
on_ok P (Ok x) h = h
on_ok P (Err e) h = tt

-- the lines that the line at a place names are before it
pub earlier : (supports : List Support) (e : Entry) (v : ℕ) (lines : List LineValue) (place : ℕ) (l : LineValue)
    → IsExplanation supports (Lower, e) v lines → slice_get lines place ≡ Some l → All (λ p. p < place) l.from
earlier supports e v lines place l explained at =
    let within = slice_get_within lines place l at in
    let count = length-take-le place lines (omega arith) in
    subst (λ n. All (λ p. p < n) l.from) count (explained.derivation place l at).earlier

-- what is kept for the line at a place and those after it
pub kept_here : (lines : List LineValue) (kept : List (Option CodeValue)) (place : ℕ) (l : LineValue) → slice_get lines place ≡ Some l
    → AreKept lines kept (named_by (drop place lines))
    → AreKept lines kept (l.from ++ named_by (take (length lines - (place + 1)) (drop (place + 1) lines)))
kept_here lines kept place l at known =
    subst (AreKept lines kept) (named_from lines place l at ∙ ap (λ rest. l.from ++ named_by rest) (sym (rest_is lines (place + 1)))) known

-- and for those after it
pub kept_later : (lines : List LineValue) (kept : List (Option CodeValue)) (k : ℕ)
    → AreKept lines kept (named_by (take (length lines - k) (drop k lines))) → AreKept lines kept (named_by (drop k lines))
kept_later lines kept k known = subst (λ rest. AreKept lines kept (named_by rest)) (rest_is lines k) known

-- the rule of a line is one for lower bounds
pub lower_rule : (supports : List Support) (e : Entry) (v : ℕ) (lines : List LineValue) (place : ℕ) (l : LineValue)
    → IsExplanation supports (Lower, e) v lines → slice_get lines place ≡ Some l → rule_side l.rule ≡ Lower
lower_rule supports e v lines place l explained at =
    sym (explained.derivation place l at).side ∙ lower_lines supports e v lines explained place l at

-- codes for the lines that it names are the parts of its rule's code
pub parts_here : (supports : List Support) (e : Entry) (v : ℕ) (lines : List LineValue) (place : ℕ) (l : LineValue) (codes : List CodeValue)
    → IsExplanation supports (Lower, e) v lines → slice_get lines place ≡ Some l → AreCodesFor lines l.from codes
    → AreParts (parts_over supports l.rule) l.claim.entry codes
parts_here supports e v lines place l codes explained at known =
    parts_of_line supports (take place lines) l codes (explained.derivation place l at)
    (codes_before lines place l.from codes (earlier supports e v lines place l explained at) known)

-- and that code is one for its claim
pub code_here : {E : Type 0} (supports : List Support) (e : Entry) (v : ℕ) (lines : List LineValue) (place : ℕ) (l : LineValue) (codes : List CodeValue)
    (r : Result CodeValue E) → IsExplanation supports (Lower, e) v lines → slice_get lines place ≡ Some l → AreCodesFor lines l.from codes
    → IfOk r (IsMadeBy (parts_over supports l.rule) l.claim.entry codes) → IfOk r (IsCodeFor l.claim)
code_here supports e v lines place l codes (Ok c) explained at known made =
    code_of_line supports (take place lines) l codes c (explained.derivation place l at) (lower_rule supports e v lines place l explained at)
    (codes_before lines place l.from codes (earlier supports e v lines place l explained at) known) made
code_here supports e v lines place l codes (Err fault) explained at known made = tt

-- an explanation has a line
pub some_lines : (supports : List Support) (e : Entry) (v : ℕ) (lines : List LineValue) → IsExplanation supports (Lower, e) v lines → 1 ≤ length lines
some_lines supports e v lines explained =
    let last = line_with_claim lines (length lines - 1) (claim_at (Lower, e) v) explained.ends in
    let within = slice_get_within lines (length lines - 1) last.0 last.1 in
    omega arith

-- the code of its last line is one for the bound
pub last_is : {E : Type 0} (supports : List Support) (e : Entry) (v : ℕ) (lines : List LineValue) (r : Result CodeValue E)
    → IsExplanation supports (Lower, e) v lines
    → ((l : LineValue) → slice_get lines (length lines - 1) ≡ Some l → IfOk r (IsCodeFor l.claim)) → IfOk r (IsCodeFor (claim_at (Lower, e) v))
last_is supports e v lines r explained each =
    let last = line_with_claim lines (length lines - 1) (claim_at (Lower, e) v) explained.ends in
    subst (λ (claim : Claim). IfOk r (IsCodeFor claim)) last.2 (each last.0 last.1)

-- one more code is kept
pub one_kept : (lines : List LineValue) (kept items : List (Option CodeValue)) (place : ℕ) (l : LineValue) (c : CodeValue)
    → items ≡ kept ++ Some c ∷ [] → length kept ≡ place → slice_get lines place ≡ Some l → IsCodeFor l.claim c
    → AreKept lines kept (named_by (drop (place + 1) lines))
    → (length items ≡ place + 1) × AreKept lines items (named_by (drop (place + 1) lines))
one_kept lines kept items place l c is size at code known =
    let long = length-append kept (Some c ∷ []) in
    let there : slice_get lines (length kept) ≡ Some l = ap (slice_get lines) size ∙ at in (
      ap length is ∙ long ∙ ap (λ k. k + 1) size,
      subst (λ (xs : List (Option CodeValue)). AreKept lines xs (named_by (drop (place + 1) lines))) (sym is)
          (kept-push lines kept (named_by (drop (place + 1) lines)) l c there code known),
    )

-- the lines to the reason of a bound explain it
pub explained_by : (table : TableValue) (supports : List Support) (lines shown : List LineValue) (e : Entry) (reason v : ℕ)
    → option_map (λ l. l.claim) (slice_get table.lines reason) ≡ Some (claim_at (Lower, e) v)
    → ((l : LineValue) → slice_get table.lines reason ≡ Some l → IsExplanation table.supports (slot_of l.claim) l.claim.value lines)
    → table.supports ≡ supports → shown ≡ lines → IsExplanation supports (Lower, e) v shown
explained_by table supports lines shown e reason v is all same shown_is =
    let line = line_with_claim table.lines reason (claim_at (Lower, e) v) is in
    let there : IsExplanation table.supports (Lower, e) v lines =
    subst (λ (x : Claim). IsExplanation table.supports (slot_of x) x.value lines) line.2 (all line.0 line.1) in
    subst (λ (ls : List LineValue). IsExplanation supports (Lower, e) v ls) (sym shown_is)
    (subst (λ (s : List Support). IsExplanation s (Lower, e) v lines) same there)

-- a code for the best bound is listed
pub listed : (old supports : List Support) (e : Entry) (v : ℕ) (c : CodeValue) → IsBest old (Lower, e) v → old ≡ supports
    → IsCodeFor (claim_at (Lower, e) v) c → IsSoundCode c → IsListedCode supports e c
listed old supports e v c best same code sound = record {
  entry = code.entry;
  sound = sound;
  best = subst (IsBest supports (Lower, e)) (sym code.size) (subst (λ (s : List Support). IsBest s (Lower, e) v) same best);
}

-- a code for the last line is one for what is explained
pub last_code_here : {E : Type 0} (supports : List Support) (e : Entry) (v : ℕ) (lines : List LineValue) (r : Result CodeValue E)
    → IsExplanation supports (Lower, e) v lines → ((l : LineValue) → slice_get lines (length lines - 1) ≡ Some l → IfOk r (IsCodeFor l.claim))
    → IfOk r (IsCodeFor (claim_at (Lower, e) v))
last_code_here supports e v lines r explained known =
    let some = some_lines supports e v lines explained in
    let last = some_at lines (length lines - 1) (omega (arith, some)) in
    let claim =
    same_Some last.0.claim (claim_at (Lower, e) v) (sym (ap (option_map (λ (m : LineValue). m.claim)) last.1) ∙ explained.ends) in
    subst (λ (claimed : Claim). IfOk r (IsCodeFor claimed)) claim (known last.0 last.1)
