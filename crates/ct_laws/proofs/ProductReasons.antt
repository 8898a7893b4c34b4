-- Why a product makes no code.
use Rattle.std.proofs.Common.{◌≡◌, ℕ, ◌<◌, ◌≤◌, List, option_map, refl, sym, ap, subst, ◌∙◌, inl, inr, ◌⊎◌}
use Rattle.ct_words.specs.declared.entry.Entry.{Entry}
use Rattle.ct_build.specs.declared.fault.BuildFault.TheVariants as build
use Rattle.ct_partitions.specs.Product.{product_distance}
use Rattle.ct_kind.specs.Named.{NamedCode}
use Rattle.ct_kind.specs.declared.fault.SubmitFault.{SubmitFault}
use Rattle.ct_kind.specs.declared.fault.SubmitFault.TheVariants as fault
use Rattle.ct_laws.proofs.Says.{Says, says-also, says-map, says-first, says-above}
use Rattle.ct_partition_files.specs.ProductKind.{Ids, factors_named, wrong_id, short_of, product_kind}
use Rattle.ct_laws.specs.ProductRefusal.{IsFirstWrong, AreRightPairs, IsProductRefusal}
use Rattle.ct_laws.proofs.WrongIds.{says-wrong}

-- the first wrong id, or else too small a distance
abbrev IsEither : Entry → List NamedCode → List Ids → SubmitFault → Type 0
IsEither e known pairs reason =
    ((id : List ℕ) × ◌≡◌ {A = SubmitFault} (fault.WrongPart id) reason × IsFirstWrong e known pairs id)
    ⊎ (AreRightPairs e known pairs × (◌≡◌ {A = SubmitFault} (fault.Build (build.Short (product_distance (factors_named known pairs)) e.d)) reason
    × (product_distance (factors_named known pairs) < e.d)))

product-fault : (e : Entry) (known : List NamedCode) (pairs : List Ids) (reason : SubmitFault) → IsEither e known pairs reason → IsProductRefusal e known pairs reason
product-fault e known pairs reason (inl wrong) = subst (IsProductRefusal e known pairs) wrong.1 wrong.2
product-fault e known pairs reason (inr short) = subst (IsProductRefusal e known pairs) short.1.0 (short.0, refl, refl, short.1.1)

fault-product : (e : Entry) (known : List NamedCode) (pairs : List Ids) (reason : SubmitFault) → IsProductRefusal e known pairs reason → IsEither e known pairs reason
fault-product e known pairs (fault.WrongPart id) h = inl (id, refl, h)
fault-product e known pairs (fault.Build (build.Short have want)) h =
    inr (
      h.0,
      (
        ap (λ (k : ℕ). fault.Build (build.Short k e.d)) (sym h.1) ∙ ap (λ (k : ℕ). fault.Build (build.Short have k)) (sym h.2),
        subst (λ (k : ℕ). k < e.d) h.1 (subst (λ (k : ℕ). have < k) h.2 h.3),
      ),
    )
fault-product e known pairs reason h = absurd h

-- evidence of kind product
pub product-reasons : (known : List NamedCode) (e : Entry) (pairs : List Ids)
    → Says ((product_kind e pairs).reason known) (AreRightPairs e known pairs × (e.d ≤ product_distance (factors_named known pairs))) (IsProductRefusal e known pairs)
product-reasons known e pairs =
    let have = product_distance (factors_named known pairs) in
    says-also
    (says-first (option_map fault.WrongPart (wrong_id e known pairs)) (short_of e have) (says-map fault.WrongPart (wrong_id e known pairs) (says-wrong e known pairs))
    (says-above e.d have (fault.Build (build.Short have e.d))))
    (λ right. right) (λ right. right) (product-fault e known pairs) (fault-product e known pairs)
