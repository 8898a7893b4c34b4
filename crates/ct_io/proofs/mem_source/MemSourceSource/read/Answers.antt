use Rattle.std.proofs.Common.{◌≡◌, ℕ, ◌+◌, ◌-◌, ◌<◌, ◌≤◌, List, [], ◌++◌, false, length, take, drop, refl, sym, subst, arith, ap, ◌∙◌, length-append, length-drop, length-take}
use Rattle.std.specs.Prelude.{min}
use Rattle.std.proofs.lemmas.List.{drop_all}
use Rattle.std.proofs.lemmas.Bool.{both_ways}
use Rattle.ct_io.proofs.FailingCalls.{failing, not_failing}
use Rattle.ct_io.proofs.Copies.{drop-copied}
use Rattle.ct_io.proofs.FaultsLemmas.{Rose-counted}
use Rattle.ct_io.proofs.FillLemmas.{front-long}
use Rattle.ct_io.proofs.mem_source.MemSourceSource.read.Goals as goal

-- the bytes that were copied are the next ones
copied-next : (bytes whole copied : List ℕ) (at n : ℕ) → whole ≡ bytes → copied ≡ take (at + n - at) (drop at whole) → copied ≡ take n (drop at bytes)
copied-next bytes whole copied at n whole-is is =
    let many : at + n - at ≡ n = omega arith in
    is ∙ ap (λ (l : List ℕ). take (at + n - at) (drop at l)) whole-is ∙ ap (λ (k : ℕ). take k (drop at bytes)) many

copied-long : (bytes copied : List ℕ) (at n least size : ℕ) → size ≡ length bytes → n ≡ min least (size - at) → copied ≡ take n (drop at bytes)
    → length copied ≡ n
copied-long bytes copied at n least size size-is n-is is =
    let all = ap length is in
    let taken = length-take n (drop at bytes) in
    let left = length-drop at bytes in
    omega arith

-- where none was copied and there was space, all are read
all-read : (bytes copied into : List ℕ) (at n least cap size : ℕ) → 1 ≤ cap → size ≡ length bytes → least ≡ min cap (length into) → n ≡ min least (size - at)
    → length copied ≡ n → n ≡ 0 → 0 < length (copied ++ drop n into) → drop (at + n) bytes ≡ []
all-read bytes copied into at n least cap size gives size-is least-is n-is long none space =
    let whole = length-append copied (drop n into) in
    let rest = length-drop n into in
    drop_all (at + n) bytes (omega arith)

pub returns-clause-bytes : goal.returns-clause-bytes
returns-clause-bytes c =
    let n = c.min-count.result in
    let bytes = c.args.self.now.bytes in
    let at = c.args.self.now.at in
    let copy = c.copy_from_slice.new.self in
    let size = c.len.ensures ∙ bytes.ok.0 in
    let copied = copied-next bytes.items c.deref-2.result.now copy at n c.deref-2.ensures.value c.copy_from_slice.ensures.after in
    let long = copied-long bytes.items copy at n c.min.result c.len.result size c.min-count.ensures copied in (
      drop-copied bytes.items copy (drop n c.args.into.now) at n long copied,
      all-read bytes.items copy c.args.into.now at n c.min.result c.args.self.now.cap c.len.result c.args.self.now.gives size c.min.ensures c.min-count.ensures
          long,
    )

-- as many bytes are given as are taken
copy-fits : (into whole bytes : List ℕ) (at n least cap size : ℕ) → whole ≡ bytes → size ≡ length bytes → at ≤ size → least ≡ min cap (length into)
    → n ≡ min least (size - at) → length (take n into) ≡ length (take (at + n - at) (drop at whole))
copy-fits into whole bytes at n least cap size whole-is size-is within least-is n-is =
    let taken = length-take n into in
    let given = length-take (at + n - at) (drop at whole) in
    let left = length-drop at whole in
    let long = ap length whole-is in
    omega arith

pub copy_from_slice-requires : goal.copy_from_slice-requires
copy_from_slice-requires c =
    let source = c.args.self.now in
    copy-fits c.args.into.now c.deref-2.result.now source.bytes.items source.at c.min-count.result c.min.result source.cap c.len.result
    c.deref-2.ensures.value (c.len.ensures ∙ source.bytes.ok.0) (subst (λ (k : ℕ). source.at ≤ k) (sym c.len.ensures) source.in_bytes) c.min.ensures
    c.min-count.ensures

pub returns-then-fails-clause-fails : goal.returns-then-fails-clause-fails
returns-then-fails-clause-fails c = (
  λ fails. failing c.args.self.now.failing.items c.deref.result.now c.args.self.now.calls c.contains-fails.result c.deref.ensures.value
      c.contains-fails.ensures.cases c.if-fails.true,
  λ fails. refl,
)

pub returns-clause-fails : goal.returns-clause-fails
returns-clause-fails c = (
  λ fails. absurd (both_ways false refl fails),
  not_failing c.args.self.now.failing.items c.deref.result.now c.args.self.now.calls c.contains-fails.result c.deref.ensures.value
      c.contains-fails.ensures.cases c.if-fails.false,
)

-- no more than there is space for
at_most : (n least cap size left : ℕ) → least ≡ min cap size → n ≡ min least left → n ≤ size
at_most n least cap size left least-is n-is = omega arith

-- the bytes that were copied, and those after them, are as many as there is space for
whole-size : (into copied : List ℕ) (n : ℕ) → n ≤ length into → length copied ≡ length (take n into) → length (copied ++ drop n into) ≡ length into
whole-size into copied n fits same =
    let all = length-append copied (drop n into) in
    let front = length-take n into in
    let rest = length-drop n into in
    omega arith

pub slice_bounds-copy_from_slice-end-2 : goal.slice_bounds-copy_from_slice-end-2
slice_bounds-copy_from_slice-end-2 c =
    let into = c.args.into.now in
    let n = c.min-count.result in
    sym (front-long into n (at_most n c.min.result c.args.self.now.cap (length into) _ c.min.ensures c.min-count.ensures))

pub returns-clause-within : goal.returns-clause-within
returns-clause-within c =
    let into = c.args.into.now in
    let n = c.min-count.result in
    let fits = at_most n c.min.result c.args.self.now.cap (length into) _ c.min.ensures c.min-count.ensures in
    subst (λ (k : ℕ). n ≤ k) (sym (whole-size into c.copy_from_slice.new.self n fits c.copy_from_slice.ensures.len)) fits

-- the least of three, however they are taken together
least_of_three : (n least cap size whole left long at : ℕ) → least ≡ min cap size → n ≡ min least (long - at) → whole ≡ size → long ≡ left
    → n ≡ min cap (min whole (left - at))
least_of_three n least cap size whole left long at least-is n-is same long-is = omega arith

pub returns-clause-moves : goal.returns-clause-moves
returns-clause-moves c =
    let into = c.args.into.now in
    let n = c.min-count.result in
    let fits = at_most n c.min.result c.args.self.now.cap (length into) _ c.min.ensures c.min-count.ensures in
    let same = whole-size into c.copy_from_slice.new.self n fits c.copy_from_slice.ensures.len in
    least_of_three n c.min.result c.args.self.now.cap (length into) _ _ c.len.result c.args.self.now.at c.min.ensures c.min-count.ensures same c.len.ensures

pub returns-clause-calls : goal.returns-clause-calls
returns-clause-calls c = c.saturating_add-self.ensures

pub returns-then-fails-clause-failed : goal.returns-then-fails-clause-failed
returns-then-fails-clause-failed c = Rose-counted c.args.self.now.faults c.saturating_add-self-then-fails.result c.saturating_add-self-then-fails.ensures
