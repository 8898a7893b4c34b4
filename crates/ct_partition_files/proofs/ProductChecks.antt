-- The reasons against a product in their order, and that it is small.
use Rattle.std.proofs.Common.{◌≡◌, ℕ, ◌≤◌, Bool, cond, List, length, Option, Some, None, option_map, refl, ap, ap₂, subst, ◌∙◌}
use Rattle.std.proofs.lemmas.Bool.{le-ltb}
use Rattle.ct_words.specs.declared.limits.TheConstants.{MAX_BOUND}
use Rattle.ct_words.specs.declared.entry.Entry.{Entry}
use Rattle.ct_words.specs.Entry.{IsEntry}
use Rattle.ct_words.specs.Pairs.{first_of}
use Rattle.ct_build.specs.declared.fault.BuildFault.TheVariants as build
use Rattle.ct_partitions.specs.Product.{product, product_size, product_distance}
use Rattle.ct_partitions.proofs.ProductCodes.{length-product}
use Rattle.ct_kind.specs.Named.{NamedCode, first_missing}
use Rattle.ct_partition_files.specs.ProductKind.{Ids, ids_of, factors_named, wrong_id, short_of, product_reason, product_kind}
use Rattle.ct_kind.specs.declared.fault.SubmitFault.{SubmitFault}
use Rattle.ct_kind.specs.declared.fault.SubmitFault.TheVariants as fault
use Rattle.ct_kind.specs.Sound.{AreSound}
use Rattle.ct_kind.specs.KindParts.{kind_reason}
use Rattle.ct_kind.proofs.SizeLemmas.{code-le}
use Rattle.ct_partition_files.proofs.ProductKind.{right-product, product-code}

-- a fault of an id comes before the distance
pub early-found : (missing wrong : Option (List ℕ)) (short : Option SubmitFault) (reason : SubmitFault)
    → first_of (option_map fault.NoSuch missing) (option_map fault.WrongPart wrong) ≡ Some reason
    → first_of (option_map fault.NoSuch missing) (first_of (option_map fault.WrongPart wrong) short) ≡ Some reason
early-found (Some id) wrong short reason h = h
early-found None (Some id) short reason h = h
early-found None None short reason h = absurd cc

pub early-none : (missing wrong : Option (List ℕ)) → first_of (option_map fault.NoSuch missing) (option_map fault.WrongPart wrong) ≡ None
    → (missing ≡ None) × (wrong ≡ None)
early-none (Some id) wrong h = absurd cc
early-none None (Some id) h = absurd cc
early-none None None h = (refl, refl)

-- where no id has a fault, the distance alone tells the reason
pub late-reason : (known : List NamedCode) (e : Entry) (pairs : List Ids) → first_missing known (ids_of pairs) ≡ None → wrong_id e known pairs ≡ None
    → kind_reason (product_kind e pairs) known ≡ short_of e (product_distance (factors_named known pairs))
late-reason known e pairs missing wrong =
    ap₂ (λ (m w : Option (List ℕ)). first_of (option_map fault.NoSuch m) (first_of (option_map fault.WrongPart w) (short_of e (product_distance
    (factors_named known pairs))))) missing wrong

-- a product of the stated distance has no more words than a code of the table
pub small-size : (known : List NamedCode) (e : Entry) (pairs : List Ids) → AreSound known → IsEntry e → 1 ≤ length pairs → (e.w ≡ None → length pairs ≡ 1)
    → wrong_id e known pairs ≡ None → e.d ≤ product_distance (factors_named known pairs) → product_size (factors_named known pairs) ≤ MAX_BOUND
small-size known e pairs sound entry some plain wrong near =
    let factors = factors_named known pairs in
    let have = product_distance factors in
    let none : product_reason e known pairs ≡ None =
    ap (λ (w : Option (List ℕ)). first_of (option_map fault.WrongPart w) (short_of e have)) wrong
    ∙ ap (λ (b : Bool). cond b (Some (fault.Build (build.Short have e.d))) None) (le-ltb have e.d near) in
    let code = product-code e known pairs entry sound (right-product e known pairs some plain none) in
    subst (λ (size : ℕ). size ≤ MAX_BOUND) (length-product factors) (code-le e (product factors) entry code.1)
