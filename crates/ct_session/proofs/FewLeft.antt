-- Where memory runs out, few of the lines that were taken are left unanswered.
use Rattle.std.proofs.Common.{◌≡◌, ◌≢◌, ◌⊎◌, ℕ, ◌+◌, ◌≤◌, max, Bool, true, false, List, [], ◌∷◌, ◌++◌, length, Option, None, Some, Err, refl, sym, ap, ◌∙◌, subst, arith, inl, inr, if◌then◌else◌, append_assoc, append-nil}
use Rattle.std.specs.List.{onto_first}
use Rattle.std.specs.Io.KnownBytes.{Consumes, prepend_known}
use Rattle.std.proofs.lemmas.List.Elements.{All-head, All-tail}
use Rattle.ct_text.specs.declared.document_lines.TheConstants.{LINE_FEED}
use Rattle.ct_io.specs.Lines.{lines_of, IsLine}
use Rattle.ct_io.proofs.LinesLemmas.{is_feed, no_feed, lines_of-feed, lines_of-onto_first}
use Rattle.ct_io.specs.declared.TheConstants.{MAX_READ}
use Rattle.ct_io.specs.declared.line_fault.LineFault.TheVariants as line_fault
use Rattle.ct_io.specs.Reader.{Reader, fresh_reader, input_of, LosesFirstLine, Takes, IsLineThenRead}
use Rattle.ct_session.specs.Serve.{AreFewMore}
use Rattle.ct_session.specs.Inside.Serving.{LeavesFew}

-- ---- bytes at the front

length-onto_first : (b : ℕ) (ls : List (List ℕ)) → length (onto_first b ls) ≤ max 1 (length ls)
length-onto_first b [] = omega arith
length-onto_first b (l ∷ ls) = omega arith

-- a byte more is at most one line more
line_more : (b : ℕ) (bs : List ℕ) → length (lines_of (b ∷ bs)) ≤ length (lines_of bs) + 1
line_more b bs = go (is_feed b) refl
  where
    go : (t : Bool) → is_feed b ≡ t → length (lines_of (b ∷ bs)) ≤ length (lines_of bs) + 1
    go true e = let all = ap length (lines_of-feed b bs e) in omega arith
    go false e =
        let all = ap length (lines_of-onto_first b bs e) in
        let few = length-onto_first b (lines_of bs) in
        omega arith

-- some bytes are at most as many lines
lines_more : (front rest : List ℕ) → length (lines_of (front ++ rest)) ≤ length (lines_of rest) + length front
lines_more [] rest = omega arith
lines_more (b ∷ front) rest =
    let one = line_more b (front ++ rest) in
    let more = lines_more front rest in
    omega arith

-- bytes without a line feed are at most one line
line_at_front : (front rest : List ℕ) → IsLine front → length (lines_of (front ++ rest)) ≤ max 1 (length (lines_of rest))
line_at_front [] rest line = omega arith
line_at_front (b ∷ front) rest line =
    let other = All-head (λ c. is_feed c ≡ false) b front (no_feed (b ∷ front) line) in
    let all = ap length (lines_of-onto_first b (front ++ rest) other) in
    let few = length-onto_first b (lines_of (front ++ rest)) in
    let more = line_at_front front rest (All-tail (λ c. c ≢ LINE_FEED) b front line) in
    omega arith

-- what a reader holds where memory runs out: no more than a read gives, or that after bytes without a line feed
few_of_held : (held rest : List ℕ) → (length held ≤ MAX_READ) ⊎ IsLineThenRead held → length (lines_of (held ++ rest)) ≤ length (lines_of rest) + (MAX_READ + 1)
few_of_held held rest (inl few) = let more = lines_more held rest in omega arith
few_of_held held rest (inr read) =
    let all = ap (λ (b : List ℕ). length (lines_of (b ++ rest))) read.2 ∙ ap (λ (b : List ℕ). length (lines_of b)) (append_assoc read.0 read.1 rest) in
    let one = line_at_front read.0 (read.1 ++ rest) read.3 in
    let more = lines_more read.1 rest in
    let few = read.4 in
    omega arith

-- ---- what a reader has before it

few_alone : (held : List ℕ) (next : Option (List ℕ)) → length held ≤ MAX_READ → AreFewMore (lines_of held) next
few_alone held None few = tt
few_alone held (Some after) few =
    let all = ap (λ (b : List ℕ). length (lines_of b)) (append-nil held) in
    let more = lines_more held [] in
    omega arith

few_told : (held held' : List ℕ) (now next : Option (List ℕ)) (bytes : List ℕ) → Consumes now next bytes → held' ≡ held ++ bytes → (length held' ≤ MAX_READ) ⊎ IsLineThenRead held'
    → LeavesFew (prepend_known held now) next
few_told held held' None next bytes came e few = tt
few_told held held' (Some x) None bytes came e few = tt
few_told held held' (Some x) (Some y) bytes came e few =
    let same : held' ++ y ≡ held ++ x = ap (λ (b : List ℕ). b ++ y) e ∙ append_assoc held bytes y ∙ ap (λ (b : List ℕ). held ++ b) (sym came) in
    subst (λ (b : List ℕ). length (lines_of b) ≤ length (lines_of y) + (MAX_READ + 1)) same (few_of_held held' y few)

no_longer : (q r : List ℕ) → length r ≤ MAX_READ → (q ≡ r) ⊎ IsLineThenRead q → (length q ≤ MAX_READ) ⊎ IsLineThenRead q
no_longer q r few (inl same) = inl (let size = ap length same in omega arith)
no_longer q r few (inr read) = inr read

-- a call ended with want of memory
pub few_at_fault : (r q : Reader) (now next : Option (List ℕ)) → length r.held ≤ MAX_READ → Takes r q now next (Err line_fault.Memory) → (q.held ≡ r.held) ⊎ IsLineThenRead q.held
    → LeavesFew (input_of r now) next
few_at_fault r q now next few takes looks = go r.ended
  where
    go : (ended : Bool) → LeavesFew (if ended then Some r.held else prepend_known r.held now) next
    go true = few_alone r.held next few
    go false = few_told r.held q.held now next takes.0 takes.1 takes.3 (no_longer q.held r.held few looks)

one_more : (before next : Option (List ℕ)) (ended : Bool) (held line : List ℕ) → length held ≤ MAX_READ → LosesFirstLine before (if ended then Some held else prepend_known held next) line
    → LeavesFew before next
one_more None next ended held line few loses = tt
one_more (Some b) None ended held line few loses = tt
one_more (Some b) (Some y) true held line few loses =
    let size = ap length loses in
    let all = ap (λ (c : List ℕ). length (lines_of c)) (append-nil held) in
    let more = lines_more held [] in
    omega arith
one_more (Some b) (Some y) false held line few loses =
    let size = ap length loses in
    let more = lines_more held y in
    omega arith

-- a call gave a line
pub few_past_line : (r q : Reader) (now next : Option (List ℕ)) (line : List ℕ) → length q.held ≤ MAX_READ → LosesFirstLine (input_of r now) (input_of q next) line
    → LeavesFew (input_of r now) next
few_past_line r q now next line few loses = one_more (input_of r now) next q.ended q.held line few loses

-- nothing was taken
pub few_at_start : (left : Option (List ℕ)) → LeavesFew (input_of fresh_reader left) left
few_at_start None = tt
few_at_start (Some input) = omega arith

-- all was taken
pub few_at_end : (r : Reader) (now : Option (List ℕ)) → r.held ≡ [] → r.ended ≡ true → LeavesFew (input_of r now) now
few_at_end r now none ended = go r.ended ended
  where
    go : (e : Bool) → e ≡ true → LeavesFew (if e then Some r.held else prepend_known r.held now) now
    go true is = few_alone r.held now (let size = ap length none in omega arith)
    go false is = absurd cc

-- a line leaves no more than one read gives
pub still_few : (m n : ℕ) → m ≤ MAX_READ → n ≤ max m MAX_READ → n ≤ MAX_READ
still_few m n few little = omega arith
