use Rattle.std.proofs.Common.{◌≡◌, ℕ, zero, suc, ◌+◌, ◌-◌, ◌<◌, ◌≤◌, ◌==◌, Bool, true, false, not, List, Result, Ok, Err, is_ok, if◌then◌else◌, inl, inr, ◌++◌, length, take, length-append, length-take, refl, sym, ap, ◌∙◌, arith}
use Rattle.std.specs.Prelude.{min}
use Rattle.std.specs.declared.alloc.AllocError.{AllocError}
use Rattle.std.proofs.lemmas.Bool.{eqb-true, both_ways}
use Rattle.ct_io.proofs.FailingCalls.{failing, not_failing}
use Rattle.ct_io.proofs.FaultsLemmas.{Rose-counted}
use Rattle.ct_io.proofs.FillLemmas.{front-long}
use Rattle.ct_io.proofs.mem_sink.MemSinkSink.write.Goals as goal
use Rattle.ct_io.proofs.mem_sink.MemSinkSink.write.Goals.{then-contains, else-contains+then-left-eq0, else-contains+else-left-eq0}

-- no room is left
full : (room size kept : ℕ) → room - size ≡ 0 → size ≡ kept → room ≤ kept
full room size kept none size-is = omega arith

-- a piece with which a call fails for want of room is not empty
some-piece : (n : ℕ) (empty fails : Bool) → empty ≡ (n == 0) → fails ≡ not empty → fails ≡ true → 0 < n
some-piece zero empty fails empty-is fails-is passed = absurd (both_ways fails (fails-is ∙ ap not empty-is) passed)
some-piece (suc n) empty fails empty-is fails-is passed = omega arith

pub returns-then-fails-clause-fails : goal.returns-then-fails-clause-fails
returns-then-fails-clause-fails c =
    elim c.if-contains.branch [
      | then-contains w ↦ (
        λ fails. inl (failing c.args.self.now.failing.items c.deref.result.now c.args.self.now.calls c.contains.result c.deref.ensures.value
            c.contains.ensures.cases w.if-contains.true),
        λ fails. refl,
      )
      | else-contains+then-left-eq0 w ↦ (
        λ fails. inr (
          full c.args.self.now.room c.len.result c.args.self.now.bytes.len w.if-left-eq0.true c.len.ensures,
          some-piece (length c.args.piece.now) w.is_empty.result c.if-contains.fails w.is_empty.ensures w.fails-is c.if-fails.true,
        ),
        λ fails. refl,
      )
      | else-contains+else-left-eq0 w ↦
          absurd (w.if-left-eq0.false (eqb-true (c.args.self.now.room - c.len.result) 0 (sym w.fails-is ∙ c.if-fails.true)))
    ]

-- no more than there is, and no more than there is room for
at_most : (n least cap size left : ℕ) → least ≡ min cap size → n ≡ min least left → (n ≤ size) × (n ≤ left)
at_most n least cap size left least-is n-is = (omega arith, omega arith)

pub slice_bounds-extend_from_slice-end : goal.slice_bounds-extend_from_slice-end
slice_bounds-extend_from_slice-end c =
    let piece = c.args.piece.now in
    let n = c.min-count.result in
    sym (front-long piece n (at_most n c.min.result c.args.self.now.cap (length piece) _ c.min.ensures c.min-count.ensures).0)

-- what is taken has room
has-space : (piece : List ℕ) (n left room long size capacity : ℕ) → n ≤ left → left ≡ room - long → long ≡ size → size ≤ room → room ≤ capacity
    → size + length (take n piece) ≤ capacity
has-space piece n left room long size capacity few left-is long-is within reserved = let taken = length-take n piece in omega arith

pub unwrap-requires : goal.unwrap-requires
unwrap-requires c =
    let sink = c.args.self.now in
    let n = c.min-count.result in
    let most = at_most n c.min.result sink.cap (length c.args.piece.now) (sink.room - c.len.result) c.min.ensures c.min-count.ensures in
    c.extend_from_slice.ensures.succeeds
    (has-space c.args.piece.now n (sink.room - c.len.result) sink.room c.len.result sink.bytes.len _ most.1 refl c.len.ensures sink.in_room sink.reserved)

-- a call that does not fail finds room for a piece that is not empty
finds-room : (c : goal.After-unwrap) → 0 < length c.args.piece.now → c.args.self.now.room - c.len.result ≡ 0 → ⊥
finds-room c some none = elim c.if-contains.branch [
  | then-contains w ↦ both_ways c.if-contains.fails c.if-fails.false (w.fails-is ∙ w.if-contains.true)
  | else-contains+then-left-eq0 w ↦ taken (length c.args.piece.now) w.is_empty.result c.if-contains.fails w.is_empty.ensures w.fails-is c.if-fails.false some
  | else-contains+else-left-eq0 w ↦ w.if-left-eq0.false none
]
  where
    taken : (n : ℕ) (empty fails : Bool) → empty ≡ (n == 0) → fails ≡ not empty → fails ≡ false → 0 < n → ⊥
    taken n true fails empty-is fails-is passed some = omega (arith, eqb-true n 0 (sym empty-is), some)
    taken n false fails empty-is fails-is passed some = both_ways fails passed fails-is

-- where there is room and the piece is not empty, some bytes are taken
some-taken : (n least cap size left : ℕ) → least ≡ min cap size → n ≡ min least left → 1 ≤ cap → 0 < size → (left ≡ 0 → ⊥) → 0 < n
some-taken n least cap size left least-is n-is gives some room = omega (arith, least-is, n-is, gives, some, room)

pub returns-clause-some : goal.returns-clause-some
returns-clause-some c = λ some.
    some-taken c.min-count.result c.min.result c.args.self.now.cap (length c.args.piece.now) (c.args.self.now.room - c.len.result) c.min.ensures
    c.min-count.ensures c.args.self.now.takes some (finds-room c some)

-- the number of a call that does not fail is not among those that fail
not-listed : (c : goal.After-unwrap) → c.contains.result ≡ false
not-listed c = elim c.if-contains.branch [
  | then-contains w ↦ absurd (both_ways c.if-contains.fails c.if-fails.false (w.fails-is ∙ w.if-contains.true))
  | else-contains+then-left-eq0 w ↦ w.if-contains.false
  | else-contains+else-left-eq0 w ↦ w.if-contains.false
]

none-left : (room long size : ℕ) → long ≡ size → room ≤ size → room - long ≡ 0
none-left room long size long-is full = omega arith

pub returns-clause-fails : goal.returns-clause-fails
returns-clause-fails c = (
  λ fails. absurd (both_ways false refl fails),
  λ why. elim why [
    | inl has ↦ not_failing c.args.self.now.failing.items c.deref.result.now c.args.self.now.calls c.contains.result c.deref.ensures.value
        c.contains.ensures.cases (not-listed c) has
    | inr much ↦ absurd (finds-room c much.1 (none-left c.args.self.now.room c.len.result c.args.self.now.bytes.len c.len.ensures much.0))
  ],
)

-- the bytes are no more than there is room for, also where more are put after them
still-fits : (old new piece : List ℕ) (n left room long size now : ℕ) (r : Result (Unit {0}) AllocError) → n ≤ left → left ≡ room - long → long ≡ size
    → size ≤ room → size ≡ length old → new ≡ (if is_ok r then old ++ take n piece else old) → now ≡ length new → now ≤ room
still-fits old new piece n left room long size now (Err fault) few left-is long-is within size-is items now-is = let all = ap length items in omega arith
still-fits old new piece n left room long size now (Ok done) few left-is long-is within size-is items now-is =
    let taken = length-take n piece in
    let parts = length-append old (take n piece) in
    let all = ap length items in
    omega arith

still-reserved : (room before after : ℕ) → room ≤ before → before ≤ after → room ≤ after
still-reserved room before after reserved more = omega arith

pub invariant_of-self-2 : goal.invariant_of-self-2
invariant_of-self-2 c =
    let sink = c.args.self.now in
    let n = c.min-count.result in
    let piece = c.args.piece.now in
    let new = c.extend_from_slice.new.self in
    let left = sink.room - c.len.result in
    let most = at_most n c.min.result sink.cap (length piece) left c.min.ensures c.min-count.ensures in
    record {
      in_room = still-fits sink.bytes.items new.items piece n left sink.room c.len.result sink.bytes.len new.len c.extend_from_slice.result most.1 refl
          c.len.ensures sink.in_room sink.bytes.ok.0 c.extend_from_slice.ensures.items new.ok.0;
      reserved = still-reserved sink.room _ _ sink.reserved c.extend_from_slice.ensures.capacity;
      takes = sink.takes;
    }

-- the least of three, however they are taken together
least_of_three : (n least cap size room long left : ℕ) → least ≡ min cap size → n ≡ min least (room - long) → long ≡ left
    → n ≡ min cap (min size (room - left))
least_of_three n least cap size room long left least-is n-is long-is = omega arith

pub returns-clause-moves : goal.returns-clause-moves
returns-clause-moves c =
    least_of_three c.min-count.result c.min.result c.args.self.now.cap (length c.args.piece.now) c.args.self.now.room c.len.result c.args.self.now.bytes.len
    c.min.ensures c.min-count.ensures c.len.ensures

pub returns-then-fails-clause-failed : goal.returns-then-fails-clause-failed
returns-then-fails-clause-failed c = Rose-counted c.args.self.now.faults c.saturating_add-self-then-fails.result c.saturating_add-self-then-fails.ensures
