-- The line that a derivation's line is printed as: its words, and the line that they state.
use Rattle.std.proofs.Common.{◌≡◌, ℕ, ◌^◌, ◌<◌, ◌≤◌, Bool, true, false, cond, ◌&&◌, nat_le, List, [], ◌∷◌, ◌++◌, map, length, drop, Option, Some, None, refl, sym, ap, ap₂, ◌∙◌, append_assoc, append-nil, arith, codes, le-leb}
use Rattle.std.specs.Prelude.{All}
use Rattle.std.specs.List.{flat_map}
use Rattle.std.specs.Fmt.{decimal}
use Rattle.std.specs.Option.{option_and_then}
use Rattle.std.specs.Str.{bytes_eq}
use Rattle.std.proofs.lemmas.List.Elements.{All-head, All-tail}
use Rattle.std.proofs.lemmas.Slice.Eq.{bytes_eq-Decides}
use Rattle.ct_words.specs.declared.limits.TheConstants.{MAX_N, MAX_BOUND}
use Rattle.ct_words.specs.declared.entry.Entry.{Entry}
use Rattle.ct_words.specs.declared.claim.Side.{Side}
use Rattle.ct_words.specs.declared.claim.Side.TheVariants.{Lower, Upper}
use Rattle.ct_words.specs.declared.claim.Claim.{Claim}
use Rattle.ct_words.specs.Entry.{is_entry, IsEntry}
use Rattle.ct_text.specs.declared.document_lines.TheConstants.{LINE_FEED}
use Rattle.ct_text.specs.Number.{number_of, spaced}
use Rattle.ct_text.specs.EntryText.{entry_words, weight_word}
use Rattle.ct_text.specs.EntryNumbers.{named_entry, numbers_from, weight_from}
use Rattle.ct_text.specs.declared.entry_numbers.EntryNumbers.{EntryNumbers}
use Rattle.ct_text.proofs.Decimals.{printed_is_read}
use Rattle.ct_rules.specs.Rule.{rule_side}
use Rattle.ct_rules.specs.Derivation.{LineValue}
use Rattle.ct_derive.specs.Check.{numbers_at, and_values}
use Rattle.ct_derive.specs.Text.{side_text, from_words, claim_words, reason_words, line_text}
use Rattle.ct_verify.specs.Inside.StatedRule.{stated_rule}
use Rattle.ct_text.specs.Side.{side_of_word}
use Rattle.ct_verify.specs.Stated.{entry_of_words}
use Rattle.ct_verify.specs.Inside.StatedLine.{StatedLineValue, bound_of_word, all_numbers, premises_of_words, claim_of, line_from, with_rule, with_reason, with_value, line_of}
use Rattle.ct_verify.specs.declared.stated_rule.StatedRule.{StatedRule}
use Rattle.ct_commands.proofs.SpacedWords.{IsWord, AreWords, spaced_words, AreWords-append, known_word, decimal_word, decimal_words}
use Rattle.ct_laws.proofs.SmallEntries.{HasSmallNumbers, small_numbers}
use Rattle.ct_laws.proofs.RuleTexts.{IsPrintable, stated_of, IsStatedAgain}

-- a line can be printed, and read back: its numbers are below 2^64, its claim is one of the table, and its rule is of its side
pub record IsPrintableLine (ids : List (List ℕ)) (number : ℕ) (l : LineValue) : Type 0 where
  pub numbered : number < 2 ^ 64
  pub entry : IsEntry l.claim.entry
  pub range : (1 ≤ l.claim.value) × (l.claim.value ≤ MAX_BOUND)
  pub side : rule_side l.rule ≡ l.claim.side
  pub rule : IsPrintable ids l.rule
  pub premises : All (λ n. n < 2 ^ 64) (numbers_at l.from)

-- the words of a weight, an entry, a claim, and of what a line follows from
abbrev weight_words : Option ℕ → List (List ℕ)
weight_words None = []
weight_words (Some w) = decimal w ∷ []

abbrev entry_parts : Entry → List (List ℕ)
entry_parts e = decimal e.n ∷ decimal e.d ∷ weight_words e.w

abbrev from_parts : List ℕ → List (List ℕ)
from_parts [] = []
from_parts (n ∷ ns) = codes "from" ∷ map decimal (n ∷ ns)

abbrev claim_parts : Claim → List (List ℕ) → List (List ℕ)
claim_parts c rest = side_text c.side ∷ entry_parts c.entry ++ codes "value" ∷ decimal c.value ∷ rest

abbrev pub line_parts : ℕ → Claim → List ℕ → List (List ℕ) → List ℕ → List (List ℕ)
line_parts number c name arguments numbers = decimal number ∷ claim_parts c (codes "by" ∷ name ∷ arguments ++ from_parts numbers)

-- words after words
pub spaced_words-append : (words more : List (List ℕ)) → spaced_words (words ++ more) ≡ spaced_words words ++ spaced_words more
spaced_words-append [] more = refl
spaced_words-append (word ∷ words) more =
    ap (λ t. (32 ∷ word) ++ t) (spaced_words-append words more) ∙ sym (append_assoc (32 ∷ word) (spaced_words words) (spaced_words more))

weight_text-words : (w : Option ℕ) → weight_word w ≡ spaced_words (weight_words w)
weight_text-words None = refl
weight_text-words (Some w) = sym (append-nil (spaced w))

entry_text-words : (e : Entry) → 32 ∷ entry_words e ≡ spaced_words (entry_parts e)
entry_text-words e =
    ap (λ t. 32 ∷ t) (append_assoc (decimal e.n) (spaced e.d) (weight_word e.w))
    ∙ ap (λ t. (32 ∷ decimal e.n) ++ ((32 ∷ decimal e.d) ++ t)) (weight_text-words e.w)

numbers_text-words : (ns : List ℕ) → flat_map spaced ns ≡ spaced_words (map decimal ns)
numbers_text-words [] = refl
numbers_text-words (n ∷ ns) = ap (λ t. spaced n ++ t) (numbers_text-words ns)

from_text-words : (ns : List ℕ) → from_words ns ≡ spaced_words (from_parts ns)
from_text-words [] = refl
from_text-words (n ∷ ns) = ap (λ t. codes " from" ++ t) (numbers_text-words (n ∷ ns))

-- a claim and what follows it
claim_text-words : (c : Claim) (rest : List (List ℕ)) → (32 ∷ claim_words c) ++ spaced_words rest ≡ spaced_words (claim_parts c rest)
claim_text-words c rest =
    let side = side_text c.side in
    let e = entry_words c.entry in
    let v = spaced c.value in
    let more = spaced_words rest in
    append_assoc (((32 ∷ side ++ codes " ") ++ e) ++ codes " value") v more
    ∙ append_assoc ((32 ∷ side ++ codes " ") ++ e) (codes " value") (v ++ more)
    ∙ append_assoc (32 ∷ side ++ codes " ") e (codes " value" ++ (v ++ more))
    ∙ append_assoc (32 ∷ side) (codes " ") (e ++ (codes " value" ++ (v ++ more)))
    ∙ ap (λ t. (32 ∷ side) ++ (t ++ (codes " value" ++ (v ++ more)))) (entry_text-words c.entry)
    ∙ ap (λ t. (32 ∷ side) ++ t) (sym (spaced_words-append (entry_parts c.entry) (codes "value" ∷ decimal c.value ∷ rest)))

reason_text-words : (ids : List (List ℕ)) (l : LineValue) (stated : StatedRule) → (s : IsStatedAgain ids l.rule stated)
    → reason_words ids l.rule l.from ≡ spaced_words (codes "by" ∷ s.name ∷ s.arguments ++ from_parts (numbers_at l.from))
reason_text-words ids l stated s =
    let numbers = numbers_at l.from in
    let front = codes " by " in
    ap (λ t. (front ++ t) ++ from_words numbers) s.text
    ∙ ap (λ t. (front ++ (s.name ++ spaced_words s.arguments)) ++ t) (from_text-words numbers)
    ∙ append_assoc front (s.name ++ spaced_words s.arguments) (spaced_words (from_parts numbers))
    ∙ ap (λ t. front ++ t) (append_assoc s.name (spaced_words s.arguments) (spaced_words (from_parts numbers)))
    ∙ ap (λ t. front ++ (s.name ++ t)) (sym (spaced_words-append s.arguments (from_parts numbers)))

-- the words of a line and its line feed are its text
pub line_text-words : (ids : List (List ℕ)) (number : ℕ) (l : LineValue) (stated : StatedRule) → (s : IsStatedAgain ids l.rule stated)
    → line_text ids number l ≡ (codes "line" ++ spaced_words (line_parts number l.claim s.name s.arguments (numbers_at l.from))) ++ LINE_FEED ∷ []
line_text-words ids number l stated s =
    let rest : List (List ℕ) = codes "by" ∷ s.name ∷ s.arguments ++ from_parts (numbers_at l.from) in
    let front = codes "line" in
    ap (λ t. t ++ LINE_FEED ∷ [])
    (append_assoc ((front ++ spaced number) ++ codes " ") (claim_words l.claim) (reason_words ids l.rule l.from)
    ∙ append_assoc (front ++ spaced number) (codes " ") (claim_words l.claim ++ reason_words ids l.rule l.from)
    ∙ append_assoc front (spaced number) (32 ∷ claim_words l.claim ++ reason_words ids l.rule l.from)
    ∙ ap (λ t. front ++ (spaced number ++ ((32 ∷ claim_words l.claim) ++ t))) (reason_text-words ids l stated s)
    ∙ ap (λ t. front ++ (spaced number ++ t)) (claim_text-words l.claim rest))

-- the numbers of an entry of the table are within what is printed
wide : (n : ℕ) → n ≤ MAX_N → n < 2 ^ 64
wide n h = omega (arith, h)

wide_weight : (e : Entry) → HasSmallNumbers e → (w : ℕ) → e.w ≡ Some w → w < 2 ^ 64
wide_weight e h w is = wide w (h.weight_small w is)

read_number : (n : ℕ) → n < 2 ^ 64 → number_of (decimal n) ≡ Some n
read_number n small = printed_is_read (decimal n) n small refl

-- the words of a line are words
weight_words-are : (w : Option ℕ) → ((v : ℕ) → w ≡ Some v → v < 2 ^ 64) → AreWords (weight_words w)
weight_words-are None h = tt
weight_words-are (Some v) h = (decimal_word v (h v refl), tt)

from_parts-are : (ns : List ℕ) → All (λ n. n < 2 ^ 64) ns → AreWords (from_parts ns)
from_parts-are [] h = tt
from_parts-are (n ∷ ns) h = (known_word (codes "from") refl, decimal_words (n ∷ ns) h)

side_text-word : (side : Side) → IsWord (side_text side)
side_text-word Lower = known_word (codes "lower") refl
side_text-word Upper = known_word (codes "upper") refl

small_bound : (v : ℕ) → v ≤ MAX_BOUND → v < 2 ^ 64
small_bound v h = omega (arith, h)

pub line_parts-are : (ids : List (List ℕ)) (number : ℕ) (l : LineValue) (stated : StatedRule) (s : IsStatedAgain ids l.rule stated) → IsPrintableLine ids number l
    → AreWords (line_parts number l.claim s.name s.arguments (numbers_at l.from))
line_parts-are ids number l stated s h =
    let small = small_numbers l.claim.entry h.entry in
    let numbers = numbers_at l.from in
    let reason : AreWords (codes "by" ∷ s.name ∷ s.arguments ++ from_parts numbers) =
    (known_word (codes "by") refl, (s.named, AreWords-append s.arguments (from_parts numbers) s.argued (from_parts-are numbers h.premises))) in
    let valued : AreWords (codes "value" ∷ decimal l.claim.value ∷ codes "by" ∷ s.name ∷ s.arguments ++ from_parts numbers) =
    (known_word (codes "value") refl, (decimal_word l.claim.value (small_bound l.claim.value h.range.1), reason)) in (
      decimal_word number h.numbered,
      (
        side_text-word l.claim.side,
        (
          decimal_word l.claim.entry.n (wide l.claim.entry.n small.length_small),
          (
            decimal_word l.claim.entry.d (wide l.claim.entry.d small.distance_small),
            AreWords-append (weight_words l.claim.entry.w) (codes "value" ∷ decimal l.claim.value ∷ codes "by" ∷ s.name ∷ s.arguments ++ from_parts numbers)
                (weight_words-are l.claim.entry.w (wide_weight l.claim.entry small)) valued,
          ),
        ),
      ),
    )

-- the words read back
side_read : (side : Side) → side_of_word (side_text side) ≡ Some side
side_read Lower = refl
side_read Upper = refl

bound_read : (v : ℕ) → 1 ≤ v → v ≤ MAX_BOUND → bound_of_word (decimal v) ≡ Some v
bound_read v some small =
    ap (option_and_then (λ n. cond (nat_le 1 n && nat_le n MAX_BOUND) (Some n) None)) (read_number v (small_bound v small))
    ∙ ap₂ (λ (a b : Bool). cond (a && b) (Some v) None) (le-leb 1 v some) (le-leb v MAX_BOUND small)

numbers_read : (ns : List ℕ) → All (λ n. n < 2 ^ 64) ns → all_numbers (map decimal ns) ≡ Some ns
numbers_read [] h = refl
numbers_read (n ∷ ns) h =
    ap₂ and_values (read_number n (All-head (λ m. m < 2 ^ 64) n ns h)) (numbers_read ns (All-tail (λ m. m < 2 ^ 64) n ns h))

premises_read : (ns : List ℕ) → All (λ n. n < 2 ^ 64) ns → premises_of_words (from_parts ns) ≡ Some ns
premises_read [] h = refl
premises_read (n ∷ ns) h = numbers_read (n ∷ ns) h

entry_again : (m : EntryNumbers) (e : Entry) → IsEntry e → record { n = m.n; d = m.d; w = m.w } ≡ e → named_entry m ≡ Some e
entry_again m e h same =
    ap (λ (f : Entry). cond (is_entry f) (Some f) None) same ∙ ap (λ (b : Bool). cond b (Some e) None) h

entry_read : (n d : ℕ) (w : Option ℕ) → IsEntry (record { n = n; d = d; w = w }) → entry_of_words (decimal n ∷ decimal d ∷ weight_words w) ≡ Some (record { n = n; d = d; w = w })
entry_read n d None h =
    let e : Entry = record { n = n; d = d; w = None } in
    let small = small_numbers e h in
    ap₂ (λ (a b : Option ℕ). option_and_then named_entry (numbers_from a b (Some None))) (read_number n (wide n small.length_small)) (read_number d (wide d small.distance_small))
    ∙ entry_again (record { n = n; d = d; w = None }) e h refl
entry_read n d (Some w) h =
    let e : Entry = record { n = n; d = d; w = Some w } in
    let small = small_numbers e h in
    ap₂ (λ (a b : Option ℕ). option_and_then named_entry (numbers_from a b (weight_from (number_of (decimal w))))) (read_number n (wide n small.length_small)) (read_number d (wide d small.distance_small))
    ∙ ap (λ (c : Option ℕ). option_and_then named_entry (numbers_from (Some n) (Some d) (weight_from c))) (read_number w (wide w (small.weight_small w refl)))
    ∙ entry_again (record { n = n; d = d; w = Some w }) e h refl

-- a number is not the word `value`
no_value : (w : ℕ) → w < 2 ^ 64 → bytes_eq (decimal w) (codes "value") ≡ false
unfolding number_of
no_value w small = at (bytes_eq (decimal w) (codes "value")) refl where
  at : (b : Bool) → bytes_eq (decimal w) (codes "value") ≡ b → b ≡ false
  at false is = refl
  at true is =
      let none : number_of (codes "value") ≡ None = refl in
      absurd (let some = read_number w small in let same = ap number_of ((bytes_eq-Decides (decimal w) (codes "value")).0 is) in cc)

-- the line with the words of an entry taken apart
entry_taken : (number side n d : List ℕ) (w : Option ℕ) (words : List (List ℕ)) → ((v : ℕ) → w ≡ Some v → v < 2 ^ 64)
    → line_of (number ∷ side ∷ n ∷ d ∷ weight_words w ++ codes "value" ∷ words) ≡ with_value number side (n ∷ d ∷ weight_words w) (codes "value" ∷ words)
entry_taken number side n d None words small = refl
entry_taken number side n d (Some w) words small =
    ap
    (λ (b : Bool). cond b (with_value number side (n ∷ d ∷ []) (decimal w ∷ codes "value" ∷ words)) (with_value number side (n ∷ d ∷ decimal w ∷ []) (codes "value" ∷ words)))
    (no_value w (small w refl))

drop-front : (front back : List (List ℕ)) → drop (length front) (front ++ back) ≡ back
drop-front [] back = refl
drop-front (word ∷ front) back = drop-front front back

-- the line that is stated
abbrev pub stated_line : List (List ℕ) → ℕ → LineValue → StatedLineValue
stated_line ids number l = record { number = number; claim = l.claim; rule = stated_of ids l.rule; from = numbers_at l.from }

-- the words of a printed line state it
pub line_read : (ids : List (List ℕ)) (number : ℕ) (l : LineValue) (s : IsStatedAgain ids l.rule (stated_of ids l.rule)) → IsPrintableLine ids number l
    → line_of (line_parts number l.claim s.name s.arguments (numbers_at l.from)) ≡ Some (stated_line ids number l)
line_read ids number l s h =
    let c = l.claim in
    let small = small_numbers c.entry h.entry in
    let after : List (List ℕ) = s.arguments ++ from_parts (numbers_at l.from) in
    let claimed : claim_of (side_of_word (side_text c.side)) (entry_of_words (entry_parts c.entry)) (bound_of_word (decimal c.value)) ≡ Some c =
    ap₂ (λ (a : Option Side) (b : Option Entry). claim_of a b (bound_of_word (decimal c.value))) (side_read c.side) (entry_read c.entry.n c.entry.d c.entry.w h.entry)
    ∙ ap (claim_of (Some c.side) (Some c.entry)) (bound_read c.value h.range.0 h.range.1) in
    let ruled : stated_rule c.side s.name after ≡ Some (stated_of ids l.rule) =
    ap (λ (side : Side). stated_rule side s.name after) (sym h.side) ∙ s.reads (from_parts (numbers_at l.from)) in
    let left : drop (stated_of ids l.rule).arguments after ≡ from_parts (numbers_at l.from) =
    ap (λ k. drop k after) s.count ∙ drop-front s.arguments (from_parts (numbers_at l.from)) in
    entry_taken (decimal number) (side_text c.side) (decimal c.entry.n) (decimal c.entry.d) c.entry.w (decimal c.value ∷ codes "by" ∷ s.name ∷ after) (wide_weight c.entry small)
    ∙ ap₂ (λ (a : Option ℕ) (b : Option Claim). with_reason a b (codes "by" ∷ s.name ∷ after)) (read_number number h.numbered) claimed
    ∙ ap (λ (r : Option StatedRule). with_rule (Some number) c r after) ruled
    ∙ ap (λ (words : List (List ℕ)). line_from (Some number) c (stated_of ids l.rule) (premises_of_words words)) left
    ∙ ap (line_from (Some number) c (stated_of ids l.rule)) (premises_read (numbers_at l.from) h.premises)
