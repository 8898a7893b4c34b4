-- What has a form is read from the values that are written for it, and from no others.
use Rattle.std.proofs.Common.{◌≡◌, ◌≢◌, List, [], ◌∷◌, length, map, get_or, Option, Some, None, refl, ap, ◌∙◌, subst, le-leb, arith}
use Rattle.std.specs.Prelude.{ℤ, pos, ◌≤◌, All, IsTrue, ⊤}
use Rattle.std.proofs.lemmas.List.Elements.{All-nil, All-cons, All-head, All-tail}
use Rattle.std.specs.Option.{option_and_then}
use Rattle.std.proofs.lemmas.Option.{option_and_then_some}
use Rattle.toml.specs.Data.{Data, string, integer, float, boolean, datetime, array, table, Items, no_items, item, as_integer}
use Rattle.toml.specs.View.{view, items_of}
use Rattle.toml.specs.declared.value.Value.{Value}
use Rattle.ct_words.specs.declared.limits.TheConstants.{MAX_N}
use Rattle.ct_names.specs.Id.{is_id}
use Rattle.ct_fields.specs.Fields.{number_in}
use Rattle.ct_fields.specs.Ids.{id_in}
use Rattle.ct_fields.specs.Forms.{two_in, pair_in, all_of, pair_data}
use Rattle.ct_fields.proofs.FieldLemmas.{number_in-some}
use Rattle.ct_fields.proofs.IdTexts.{id_in-some}

-- a list of other than two values is no pair
pub two_in-other : (ds : List Data) → length ds ≢ 2 → two_in (array (items_of ds)) ≡ None
two_in-other [] other = refl
two_in-other (d ∷ []) other = refl
two_in-other (d ∷ e ∷ []) other = absurd (other refl)
two_in-other (d ∷ e ∷ f ∷ ds) other = refl

-- a list of two values is these
pub two_in-both : (vs : List Value) (a b : Value) → length vs ≡ 2 → a ≡ get_or vs 0 a → b ≡ get_or vs 1 b
    → Some (view a, view b) ≡ two_in (array (items_of (map view vs)))
two_in-both [] a b two a-is b-is = absurd (omega arith)
two_in-both (x ∷ []) a b two a-is b-is = absurd (omega arith)
two_in-both (x ∷ y ∷ []) a b two a-is b-is = λ i. Some (view (a-is i), view (b-is i))
two_in-both (x ∷ y ∷ z ∷ vs) a b two a-is b-is = absurd (omega arith)

-- two values that are read are the list
two_in-some : (d : Data) (two : Data × Data) → two_in d ≡ Some two → d ≡ array (item two.0 (item two.1 no_items))
two_in-some (array (item a (item b no_items))) two e = let same : (a, b) ≡ two = cc in ap (λ t. array (item t.0 (item t.1 no_items))) same
two_in-some (array no_items) two e = absurd cc
two_in-some (array (item a no_items)) two e = absurd cc
two_in-some (array (item a (item b (item c ds)))) two e = absurd cc
two_in-some (string s) two e = absurd cc
two_in-some (integer z) two e = absurd cc
two_in-some (float x) two e = absurd cc
two_in-some (boolean b) two e = absurd cc
two_in-some (datetime t) two e = absurd cc
two_in-some (table ms) two e = absurd cc

-- a value that is a whole number
as_integer-some : (d : Data) (z : ℤ) → as_integer d ≡ Some z → d ≡ integer z
as_integer-some (integer y) z e = let same : y ≡ z = cc in ap integer same
as_integer-some (string s) z e = absurd cc
as_integer-some (float x) z e = absurd cc
as_integer-some (boolean b) z e = absurd cc
as_integer-some (datetime t) z e = absurd cc
as_integer-some (array ds) z e = absurd cc
as_integer-some (table ms) z e = absurd cc

module _ {A B : Type 0} (f : Data → Option A) (g : Data → Option B) (d : Data) (two : Data × Data) where
  -- the first of two values, and then the second
  abbrev and_then_second : Option A → Option (A × B)
  and_then_second first = option_and_then (λ x. option_and_then (λ y. Some (x, y)) (g two.1)) first

  pair_in-two : Some two ≡ two_in d → and_then_second (f two.0) ≡ pair_in f g d
  pair_in-two two-is = ap (λ o. option_and_then (λ t. option_and_then (λ x. option_and_then (λ y. Some (x, y)) (g t.1)) (f t.0)) o) two-is

  -- a list of two values of these forms is the pair of what they are
  pub pair_in-both : (x : A) (y : B) → Some two ≡ two_in d → Some x ≡ f two.0 → Some y ≡ g two.1 → Some (x, y) ≡ pair_in f g d
  pair_in-both x y two-is x-is y-is =
      ap (λ o. option_and_then (λ z. Some (x, z)) o) y-is ∙ ap and_then_second x-is ∙ pair_in-two two-is

  -- and no pair where one of them has another form
  pub pair_in-no_first : Some two ≡ two_in d → None ≡ f two.0 → None ≡ pair_in f g d
  pair_in-no_first two-is none = ap and_then_second none ∙ pair_in-two two-is

  pub pair_in-no_second : (x : A) → Some two ≡ two_in d → Some x ≡ f two.0 → None ≡ g two.1 → None ≡ pair_in f g d
  pair_in-no_second x two-is x-is none =
      ap (λ o. option_and_then (λ z. Some (x, z)) o) none ∙ ap and_then_second x-is ∙ pair_in-two two-is

-- and what is no list of two values is no pair
pub pair_in-other : {A B : Type 0} (f : Data → Option A) (g : Data → Option B) (d : Data) → None ≡ two_in d → None ≡ pair_in f g d
pair_in-other f g d none = ap (λ o. option_and_then (λ t. option_and_then (λ x. option_and_then (λ y. Some (x, y)) (g t.1)) (f t.0)) o) none

-- the form reads just what is written so, of those of which P holds
pub record ReadsBack {A : Type 0} (form : Data → Option A) (written : A → Data) (P : A → Type 0) : Type 0 where
  pub some : (d : Data) (x : A) → form d ≡ Some x → (d ≡ written x) × P x
  pub from : (x : A) → P x → form (written x) ≡ Some x

-- so do pairs of two forms that do
pub pair-reads : {A B : Type 0} (f : Data → Option A) (g : Data → Option B) (a : A → Data) (b : B → Data) (P : A → Type 0) (Q : B → Type 0)
    → ReadsBack f a P → ReadsBack g b Q → ReadsBack (pair_in f g) (pair_data a b) (λ p. P p.0 × Q p.1)
pair-reads {A} {B} f g a b P Q first second = record {
  some = λ d p e.
      option_and_then_some _ (two_in d) p e (λ two two-is next.
      option_and_then_some _ (f two.0) p next (λ x x-is after.
      option_and_then_some _ (g two.1) p after (λ y y-is last.
      let same : (x, y) ≡ p = cc in
      let (x-written, here) = first.some two.0 x x-is in
      let (y-written, there) = second.some two.1 y y-is in
      let Q : A × B → Type 0 = λ q. (d ≡ pair_data a b q) × (P q.0 × Q q.1) in
      subst Q same (two_in-some d two two-is ∙ (λ i. array (item (x-written i) (item (y-written i) no_items))), (here, there)))));
  from = λ p both. rw (first.from p.0 both.0, second.from p.1 both.1) refl;
}

-- and lists of what has one form
pub all-some : {A : Type 0} (form : Data → Option A) (written : A → Data) (P : A → Type 0) → ReadsBack form written P → (ds : Items) (xs : List A)
    → all_of form ds ≡ Some xs → (ds ≡ items_of (map written xs)) × All P xs
all-some {A} form written P reads no_items xs e = let same : [] ≡ xs = cc in rw (← same) (refl, All-nil P)
all-some {A} form written P reads (item d ds) xs e =
    option_and_then_some _ (form d) xs e (λ x x-is next.
    option_and_then_some _ (all_of form ds) xs next (λ more more-are last.
    let same : x ∷ more ≡ xs = cc in
    let (d-is, here) = reads.some d x x-is in
    let (ds-are, all) = all-some form written P reads ds more more-are in
    let Q : List A → Type 0 = λ ys. (item d ds ≡ items_of (map written ys)) × All P ys in
    subst Q same (λ i. item (d-is i) (ds-are i), All-cons P x more here all)))

pub all-from : {A : Type 0} (form : Data → Option A) (written : A → Data) (P : A → Type 0) → ReadsBack form written P → (xs : List A) → All P xs
    → all_of form (items_of (map written xs)) ≡ Some xs
all-from {A} form written P reads [] all = refl
all-from {A} form written P reads (x ∷ xs) all = rw (reads.from x (All-head P x xs all), all-from form written P reads xs (All-tail P x xs all)) refl

-- the forms of ids, whole numbers and small numbers read just what is written for such
pub id-reads : ReadsBack id_in string (λ id. IsTrue (is_id id))
id-reads = record { some = id_in-some; from = λ id is. rw is refl }

pub integer-reads : ReadsBack as_integer integer (λ z. ⊤)
integer-reads = record { some = λ d z e. (as_integer-some d z e, tt); from = λ z h. refl }

pub index-reads : ReadsBack (number_in 0 MAX_N) (λ k. integer (pos k)) (λ k. k ≤ MAX_N)
index-reads = record {
  some = λ d k e. let (is, above, below) = number_in-some 0 MAX_N d k e in (is, below);
  from = λ k small. rw (le-leb 0 k (omega arith), le-leb k MAX_N small) refl;
}
