use Rattle.std.proofs.Common.{ℕ, ◌+◌, ◌-◌, ◌<◌, ◌≤◌, List, length, take, drop, length-take, length-drop, subst, sym, arith}
use Rattle.std.specs.Io.KnownBytes.{Appends}
use Rattle.std.proofs.KnownBytes.{Appends-trans, Appends-kept}
use Rattle.std.proofs.lemmas.Result.{err_from_is_err_and}
use Rattle.ct_io.proofs.Copies.{take-written}
use Rattle.ct_io.proofs.ToldLemmas.{AppendsProperPrefix-from_take}
use Rattle.ct_io.proofs.sink.write_all.Goals as goal

-- what was written is no more than there is
still-within : (bytes : List ℕ) (at n : ℕ) → at ≤ length bytes → n ≤ length (take (length bytes - at) (drop at bytes)) → at + n ≤ length bytes
still-within bytes at n within most =
    let rest = length-drop at bytes in
    let piece = length-take (length bytes - at) (drop at bytes) in
    omega arith

-- a count that never falls
never-less : (a b c : ℕ) → a ≤ b → b ≤ c → a ≤ c
never-less a b c first second = omega arith

pub loop-at-preserved : goal.loop-at-preserved
loop-at-preserved g c =
    let written = Appends-trans _ _ _ _ _ c.loop-at.invariant.1 c.in_ok-at.ensures.bytes in (
      still-within c.args.bytes.now c.loop-at.at c.in_ok-at.field-0 c.loop-at.invariant.0 c.in_ok-at.ensures.within,
      subst (λ (l : List ℕ). Appends (g.K.Sink.holds c.args.sink.now) (g.K.Sink.holds c.write.new.self) l) (sym (take-written c.args.bytes.now c.loop-at.at c.in_ok-at.field-0)) written,
      never-less _ _ _ c.loop-at.invariant.2 c.in_ok-at.ensures.counted,
    )

pub returns-in_err-at-clause-unwritten : goal.returns-in_err-at-clause-unwritten
returns-in_err-at-clause-unwritten g c =
    let written = Appends-kept _ _ _ _ c.loop-at.invariant.1 c.in_err-at.ensures.bytes in
    let p = err_from_is_err_and c.from_residual.result c.from_residual.ensures.1 in
    rw p.1 (AppendsProperPrefix-from_take _ _ c.args.bytes.now c.loop-at.at c.loop-at-test.true written)

-- the fewer are left
fewer-left : (bytes : List ℕ) (at n : ℕ) → at < length bytes → (0 < length (take (length bytes - at) (drop at bytes)) → 0 < n)
    → length bytes - (at + n) < length bytes - at
fewer-left bytes at n below some =
    let rest = length-drop at bytes in
    let piece = length-take (length bytes - at) (drop at bytes) in
    let more : 0 < n = some (omega arith) in
    omega arith

pub loop-at-smaller : goal.loop-at-smaller
loop-at-smaller g c = fewer-left c.args.bytes.now c.loop-at.at c.in_ok-at.field-0 c.loop-at-test.true c.in_ok-at.ensures.some
