use Rattle.std.proofs.Common.{◌≡◌, ℕ, suc, ◌+◌, ◌<◌, ◌≤◌, ◌&&◌, nat_le, nat_lt, false, List, length, drop, get_or}
use Rattle.std.proofs.Common.{add-one, le-leb, sym, ap, ap₂, subst, ◌∙◌}
use Rattle.std.proofs.lemmas.Bool.{lt-ltb, le-ltb, lt-leb, and_left, and_right}
use Rattle.std.proofs.lemmas.List.{drop_all, drop_more}
use Rattle.ct_build_files.specs.BuildFields.{ascend}
use Rattle.ct_build_files.proofs.build_fields.ascend.Goals.{then-from-low-via-then-from-low, then-from-low-via-else-from-low+then-number-high}
use Rattle.ct_build_files.proofs.build_fields.ascend.Goals as goal

-- a number more that is not below the low one, and below the limit
ascends : (low high : ℕ) (numbers : List ℕ) (i k : ℕ) → i < length numbers → low ≤ get_or numbers i 0 → get_or numbers i 0 < high → k ≡ get_or numbers i 0
    → ascend low high (drop i numbers) ≡ ascend 0 high numbers → ascend (k + 1) high (drop (i + 1) numbers) ≡ ascend 0 high numbers
ascends low high numbers i k within from below is before =
    let n = get_or numbers i 0 in
    let rest = drop (i + 1) numbers in
    ap (λ m. ascend m high rest) (ap (λ m. m + 1) is ∙ add-one n)
    ∙ sym (ap₂ (λ a b. a && b && ascend (suc n) high rest) (le-leb low n from) (lt-ltb n high below))
    ∙ ap (ascend low high) (sym (drop_more numbers i 0 within))
    ∙ before

-- one that is
not_ascending : (low high : ℕ) (numbers : List ℕ) (i : ℕ) → i < length numbers → (nat_le low (get_or numbers i 0) && nat_lt (get_or numbers i 0) high) ≡ false
    → ascend low high (drop i numbers) ≡ ascend 0 high numbers → false ≡ ascend 0 high numbers
not_ascending low high numbers i within wrong before =
    sym (ap (λ b. b && ascend (suc (get_or numbers i 0)) high (drop (i + 1) numbers)) wrong)
    ∙ ap (ascend low high) (sym (drop_more numbers i 0 within))
    ∙ before

pub loop-number-preserved : goal.loop-number-preserved
loop-number-preserved c =
    let low = c.loop-number.low in
    ascends low c.args.high c.args.numbers.now c.loop-number.number-index c.from-low.result c.loop-number-test.true
    (subst (λ n. low ≤ n) c.from.ensures c.if-from-low.false) c.if-number-high.false c.from-low.ensures c.loop-number.invariant

pub returns-then-from-low : goal.returns-then-from-low
returns-then-from-low c =
    let low = c.loop-number.low in
    let n = get_or c.args.numbers.now c.loop-number.number-index 0 in
    let wrong : (nat_le low n && nat_lt n c.args.high) ≡ false =
    elim c.then-from-low.branch [
      | then-from-low-via-then-from-low w ↦
          and_left (nat_le low n) (nat_lt n c.args.high) (lt-leb low n (subst (λ m. m < low) c.from.ensures w.if-from-low.true))
      | then-from-low-via-else-from-low+then-number-high w ↦
          and_right (nat_le low n) (nat_lt n c.args.high) (le-ltb n c.args.high w.if-number-high.true)
    ] in
    not_ascending low c.args.high c.args.numbers.now c.loop-number.number-index c.loop-number-test.true wrong c.loop-number.invariant

pub returns : goal.returns
returns c =
    ap (ascend c.loop-number.low c.args.high) (sym (drop_all c.loop-number.number-index c.args.numbers.now c.loop-number-test.false))
    ∙ c.loop-number.invariant
