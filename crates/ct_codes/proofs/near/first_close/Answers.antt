use Rattle.std.proofs.Common.{◌≡◌, ℕ, ◌+◌, ◌*◌, ◌/◌, ◌-◌, ◌<◌, ◌≤◌, false, not, nat_lt, List, length, take, drop, get_or, position, option_map, ap, sym, ◌∙◌, inl, inr, arith}
use Rattle.std.specs.List.{prefix_len}
use Rattle.std.proofs.lemmas.Bool.{cases_lt}
use Rattle.std.proofs.lemmas.List.{take_rest}
use Rattle.std.proofs.lemmas.Simd.{run_in_chunk_fails, run_in_chunk_stops}
use Rattle.std.specs.Simd.Lanes.{chunk}
use Rattle.ct_words.specs.Word.{distance}
use Rattle.ct_codes.proofs.NearLemmas.{first_is, position-after}
use Rattle.ct_codes.proofs.near.first_close.Goals as goal

-- after a block of which the first r words are far, no word up to there is close
none_up_to : (word d : ℕ) (words : List ℕ) (at r : ℕ) → at + 8 ≤ length words
    → r ≡ prefix_len (λ x. not (nat_lt (distance 32 word x) d)) (chunk at 8 words)
    → ((k : ℕ) → k < at → nat_lt (distance 32 word (get_or words k 0)) d ≡ false)
    → (k : ℕ) → k < at + r → nat_lt (distance 32 word (get_or words k 0)) d ≡ false
none_up_to word d words at r room counted before k sooner = elim (cases_lt k at) [
  | inl early ↦ before k early
  | inr late ↦ run_in_chunk_fails (λ x. nat_lt (distance 32 word x) d) words at 8 r 0 room counted k (omega arith) sooner
]

pub returns-then-far-lt-LANES : goal.returns-then-far-lt-LANES
returns-then-far-lt-LANES c =
    let close = λ (x : ℕ). nat_lt (distance 32 c.args.word x) c.args.d in
    let at = c.loop-block.block * 8 in
    let r = c.far_in_block-far.result in
    let room : at + 8 ≤ length c.args.others.now = omega arith in
    let before = none_up_to c.args.word c.args.d c.args.others.now at r room c.far_in_block-far.ensures (λ k h. c.loop-block.invariant k (omega arith)) in
    let stops = run_in_chunk_stops close c.args.others.now at 8 r 0 room c.far_in_block-far.ensures c.if-far-lt-LANES.true in
    sym (first_is close c.args.others.now (at + r) (omega arith) before stops)

pub loop-block-preserved : goal.loop-block-preserved
loop-block-preserved c = λ k sooner.
    let at = c.loop-block.block * 8 in
    let room : at + 8 ≤ length c.args.others.now = omega arith in
    none_up_to c.args.word c.args.d c.args.others.now at c.far_in_block-far.result room c.far_in_block-far.ensures (λ j h. c.loop-block.invariant j (omega arith)) k (omega arith)

-- the words after the blocks give the first that is close, where none before them is
after_blocks : (word d : ℕ) (words : List ℕ) (start : ℕ) → start ≤ length words
    → ((k : ℕ) → k < start → nat_lt (distance 32 word (get_or words k 0)) d ≡ false)
    → option_map (λ j. start + j) (position (λ x. nat_lt (distance 32 word x) d) (take (length words - start) (drop start words)))
    ≡ position (λ x. nat_lt (distance 32 word x) d) words
after_blocks word d words start within before =
    let close = λ (x : ℕ). nat_lt (distance 32 word x) d in
    ap (λ rest. option_map (λ j. start + j) (position close rest)) (take_rest words start) ∙ position-after close words start within before

pub returns-in_err-more : goal.returns-in_err-more
returns-in_err-more c =
    let start = length c.args.others.now / 8 * 8 in
    let first = after_blocks c.args.word c.args.d c.args.others.now start (omega arith) (λ k h. c.loop-block.invariant k (omega arith)) in
    let none = sym c.first_close_plainly.ensures ∙ c.in_err-more.was in
    c.from_residual.ensures ∙ sym (ap (option_map (λ (j : ℕ). start + j)) none) ∙ first

pub returns : goal.returns
returns c =
    let start = length c.args.others.now / 8 * 8 in
    let first = after_blocks c.args.word c.args.d c.args.others.now start (omega arith) (λ k h. c.loop-block.invariant k (omega arith)) in
    let found = sym c.first_close_plainly.ensures ∙ c.in_ok-more.was in
    sym (ap (option_map (λ (j : ℕ). start + j)) found) ∙ first
