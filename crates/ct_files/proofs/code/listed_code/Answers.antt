use Rattle.std.proofs.Common.{◌≡◌, ℕ, suc, ◌^◌, ◌<◌, ◌≤◌, List, length, Some, None, refl, sym, ap, subst, ◌∙◌}
use Rattle.std.specs.Prelude.{All}
use Rattle.ct_words.specs.declared.limits.TheConstants.{MAX_N}
use Rattle.ct_words.specs.Code.{CodeValue}
use Rattle.ct_words.specs.Coset.{coset_list}
use Rattle.ct_partitions.specs.Product.{product}
use Rattle.ct_kind.specs.Ascending.{code_at}
use Rattle.ct_kind.specs.Named.{NamedCode}
use Rattle.ct_kind.specs.declared.evidence.Evidence.{Evidence}
use Rattle.ct_kind.specs.declared.evidence.Evidence.TheVariants.{Words, Cosets, Product}
use Rattle.ct_partition_files.specs.ProductKind.{Ids, factors_named}
use Rattle.ct_files.specs.ByKind.{listed_code}
use Rattle.ct_files.proofs.AtEvidence.{sound-at}
use Rattle.ct_files.proofs.code.listed_code.Goals as goal

-- the code that evidence lists, where it is known to be of its kind
listed-known : (known : List NamedCode) (given at_kind : Evidence) → given ≡ at_kind → (code : CodeValue) (made : CodeValue) → code ≡ made
    → Some made ≡ listed_code known at_kind → Some code ≡ listed_code known given
listed-known known given at_kind is code made same listed = ap Some same ∙ listed ∙ ap (listed_code known) (sym is)

pub code-requires-clause-words : goal.code-requires-clause-words
code-requires-clause-words g c =
    let sound = sound-at c.args.evidence.now (Words c.in-Words.entry c.in-Words.words) c.in-Words.is c.requires.sound in
    subst (λ (xs : List ℕ). All (λ x. x < 2 ^ c.in-Words.entry.n) xs) (sym c.as_slice.ensures) sound.1

pub code-requires-in-Cosets-clause-basis : goal.code-requires-in-Cosets-clause-basis
code-requires-in-Cosets-clause-basis g c =
    let sound =
    sound-at c.args.evidence.now (Cosets c.in-Cosets.entry c.in-Cosets.basis c.in-Cosets.representatives) c.in-Cosets.is c.requires.sound in
    subst (λ (xs : List ℕ). All (λ x. x < 2 ^ c.in-Cosets.entry.n) xs) (sym c.as_slice-in-Cosets.ensures) sound.2

pub code-requires-in-Cosets-clause-representatives : goal.code-requires-in-Cosets-clause-representatives
code-requires-in-Cosets-clause-representatives g c =
    let sound =
    sound-at c.args.evidence.now (Cosets c.in-Cosets.entry c.in-Cosets.basis c.in-Cosets.representatives) c.in-Cosets.is c.requires.sound in
    subst (λ (xs : List ℕ). All (λ x. x < 2 ^ c.in-Cosets.entry.n) xs) (sym c.as_slice-in-Cosets-2.ensures) sound.3

pub code-requires-in-Product-clause-some : goal.code-requires-in-Product-clause-some
code-requires-in-Product-clause-some g c =
    let sound = sound-at c.args.evidence.now (Product c.in-Product.entry c.in-Product.pairs) c.in-Product.is c.requires.sound in
    subst (λ (ps : List Ids). 1 ≤ length ps) (sym c.as_slice-in-Product.ensures) sound.1

pub code-requires-in-Product-clause-few : goal.code-requires-in-Product-clause-few
code-requires-in-Product-clause-few g c =
    let sound = sound-at c.args.evidence.now (Product c.in-Product.entry c.in-Product.pairs) c.in-Product.is c.requires.sound in
    subst (λ (ps : List Ids). length ps ≤ suc MAX_N) (sym c.as_slice-in-Product.ensures) sound.2

pub code-requires-in-Product-clause-weighted : goal.code-requires-in-Product-clause-weighted
code-requires-in-Product-clause-weighted g c =
    let sound = sound-at c.args.evidence.now (Product c.in-Product.entry c.in-Product.pairs) c.in-Product.is c.requires.sound in
    subst (λ (ps : List Ids). c.in-Product.entry.w ≡ None → length ps ≡ 1) (sym c.as_slice-in-Product.ensures) sound.3

pub returns-in_ok-code-in-Cosets : goal.returns-in_ok-code-in-Cosets
returns-in_ok-code-in-Cosets g c =
    let e = c.in-Cosets.entry in
    let basis = c.as_slice-in-Cosets.ensures in
    let representatives = c.as_slice-in-Cosets-2.ensures in
    let known = g.P.Partitions.known c.args.before.now in
    listed-known known c.args.evidence.now (Cosets e c.in-Cosets.basis c.in-Cosets.representatives) c.in-Cosets.is c.in_ok-code-in-Cosets.code
    (code_at e (coset_list c.in-Cosets.basis c.in-Cosets.representatives))
    (c.in_ok-code-in-Cosets.ensures ∙ (λ i. code_at e (coset_list (basis i) (representatives i)))) refl

pub returns-in_ok-code-in-Product : goal.returns-in_ok-code-in-Product
returns-in_ok-code-in-Product g c =
    let e = c.in-Product.entry in
    let known = g.P.Partitions.known c.args.before.now in
    listed-known known c.args.evidence.now (Product e c.in-Product.pairs) c.in-Product.is c.in_ok-code-in-Product.code
    (code_at e (product (factors_named known c.in-Product.pairs)))
    (c.in_ok-code-in-Product.ensures ∙ ap (λ (ps : List Ids). code_at e (product (factors_named known ps))) c.as_slice-in-Product.ensures) refl
