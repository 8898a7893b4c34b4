use Rattle.std.proofs.Common.{◌≡◌, ℕ, ◌-◌, ◌<◌, ◌≤◌, List, length, get_or, Some, None, refl, ap, sym, ◌∙◌, arith}
use Rattle.std.specs.Prelude.{if◌then◌else◌, option_map, slice_get}
use Rattle.std.proofs.lemmas.Bool.{lt-ltb}
use Rattle.std.proofs.lemmas.Option.{slice_get_read, slice_get_past}
use Rattle.ct_words.specs.declared.claim.Claim.{Claim}
use Rattle.ct_rules.specs.Derivation.{LineValue}
use Rattle.ct_derive.specs.Check.{claim_numbered}
use Rattle.ct_derive.proofs.check.claim_numbered.Goals as goal

-- what stands at the place of a number from 1 on
numbered : (lines : List LineValue) (n : ℕ) → 0 < n → option_map (λ (l : LineValue). l.claim) (slice_get lines (n - 1)) ≡ claim_numbered lines n
numbered lines n some =
    ap (λ b. if b then option_map (λ (l : LineValue). l.claim) (slice_get lines (n - 1)) else None) (sym (lt-ltb 0 n some))

-- the claim of a line that is there
there : (lines : List LineValue) (n : ℕ) (l : LineValue) (claim : Claim) → 0 < n → n - 1 < length lines → l ≡ get_or lines (n - 1) l → claim ≡ l.claim
    → Some claim ≡ claim_numbered lines n
there lines n l claim some within at is =
    ap Some is
    ∙ ap (option_map (λ (m : LineValue). m.claim)) (sym (slice_get_read lines (length lines) (n - 1) l refl within at))
    ∙ numbered lines n some

-- none past the last line
past : (lines : List LineValue) (n : ℕ) → 0 < n → length lines ≤ n - 1 → None ≡ claim_numbered lines n
past lines n some beyond = ap (option_map (λ (m : LineValue). m.claim)) (sym (slice_get_past lines (n - 1) beyond)) ∙ numbered lines n some

pub returns-in_err-line : goal.returns-in_err-line
returns-in_err-line c =
    c.from_residual.ensures ∙ past c.args.before.now c.args.number (omega (arith, c.if-number-eq0.false)) c.in_err-line.ensures.lookup.3

pub returns : goal.returns
returns c =
    let found = c.in_ok-line.ensures.lookup in
    there c.args.before.now c.args.number c.in_ok-line.line.now c.line.inside.claim (omega (arith, c.if-number-eq0.false)) found.3.0 found.1
    (ap (λ (l : LineValue). l.claim) c.line.view_is)
