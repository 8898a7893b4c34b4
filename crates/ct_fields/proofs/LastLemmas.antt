-- What stands last in a table: where it is right, and which fault is judged first.
use Rattle.std.proofs.Common.{◌≡◌, Bool, true, false, ◌||◌, List, [], ◌∷◌, ◌++◌, ℕ, codes, Option, Some, None, Ok, Err, is_ok, inl, inr, refl, sym, ◌∙◌, subst}
use Rattle.std.specs.List.{list_any}
use Rattle.std.specs.Str.{bytes_eq}
use Rattle.std.proofs.lemmas.Bool.{cases_Bool, false≢true, or_parts, or_from}
use Rattle.toml.specs.Data.{Data, table, Members, get}
use Rattle.ct_fields.specs.Field.{field_text}
use Rattle.ct_fields.specs.Steps.{check}
use Rattle.ct_fields.specs.Fields.{is_named, has_only}
use Rattle.ct_fields.specs.Tables.{IsNamed}
use Rattle.ct_fields.specs.Format.{may_cite}
use Rattle.ct_fields.specs.Cites.{cites_of}
use Rattle.ct_fields.specs.LastFields.{all_fields, last_fields}
use Rattle.ct_fields.specs.HasCites.{IsSecond, HasRightCites, HasWrongCites, MayStand, HasOther, HasLast, left_out}
use Rattle.ct_fields.specs.declared.field.FieldName.{FieldName}
use Rattle.ct_fields.specs.declared.field.FieldName.TheVariants.{Format, Cites}
use Rattle.ct_fields.specs.declared.fault.DocumentFault.{DocumentFault}
use Rattle.ct_fields.specs.declared.fault.DocumentFault.TheVariants.{Field, Unknown}
use Rattle.ct_fields.proofs.StepLemmas.{bind-ok, bind-err, check-ok, check-err}
use Rattle.ct_fields.proofs.FieldLemmas.{bytes_eq-true, is_named-true, is_named-from, has_only-true, has_only-false, has_only-from, has_only-from_other}
use Rattle.ct_fields.proofs.CiteLemmas.{may_cite-true, may_cite-from, are_right-true, are_right-from, are_right-false, are_right-wrong}

-- ---- keys

or-more : (a b c d : Bool) → (a || (b || d)) ≡ true → (a || (b || (c || d))) ≡ true
or-more true b c d e = refl
or-more false true c d e = refl
or-more false false true d e = refl
or-more false false false d e = e

or-less : (a b c d : Bool) → c ≡ false → (a || (b || (c || d))) ≡ true → (a || (b || d)) ≡ true
or-less true b c d other e = refl
or-less false true c d other e = refl
or-less false false true d other e = absurd cc
or-less false false false d other e = e

-- whether the key is that of one of the fields
abbrev is_own : List FieldName → List ℕ → Bool
is_own names key = list_any (λ name. bytes_eq key (field_text name)) names

-- a key of all fields, where the cites are one of them
pub among_all : (names : List FieldName) (document : Data) (key : List ℕ) → IsSecond document → IsNamed (Format ∷ Cites ∷ names) key → MayStand names document key
among_all names document key second named =
    elim (cases_Bool (bytes_eq key (field_text Cites))) [
      | inl cites ↦ inr (second, bytes_eq-true key (field_text Cites) cites)
      | inr other ↦
          let test = is_named-from (Format ∷ Cites ∷ names) key named in
          inl (is_named-true (Format ∷ names) key
          (or-less (bytes_eq key (codes "kind")) (bytes_eq key (field_text Format)) (bytes_eq key (field_text Cites)) (is_own names key) other test))
    ]

pub from_own : (names : List FieldName) (key : List ℕ) → IsNamed (Format ∷ names) key → IsNamed (Format ∷ Cites ∷ names) key
from_own names key named =
    let test = is_named-from (Format ∷ names) key named in
    is_named-true (Format ∷ Cites ∷ names) key
    (or-more (bytes_eq key (codes "kind")) (bytes_eq key (field_text Format)) (bytes_eq key (field_text Cites)) (is_own names key) test)

pub from_cites : (names : List FieldName) (key : List ℕ) → key ≡ field_text Cites → IsNamed (Format ∷ Cites ∷ names) key
from_cites names key same = rw same (is_named-true (Format ∷ Cites ∷ names) (field_text Cites) refl)

-- a key is one of all fields exactly where it may stand
may_stand-from : (names : List FieldName) (document : Data) (key : List ℕ) → IsNamed (all_fields (may_cite document) names) key → MayStand names document key
may_stand-from names document key named = at (may_cite document) refl named where
  at : (b : Bool) → may_cite document ≡ b → IsNamed (all_fields b names) key → MayStand names document key
  at true second all = among_all names document key (may_cite-true document second) all
  at false other own = inl own

may_stand-is : (names : List FieldName) (document : Data) (key : List ℕ) → MayStand names document key → IsNamed (all_fields (may_cite document) names) key
may_stand-is names document key (inl own) = at (may_cite document) where
  at : (b : Bool) → IsNamed (all_fields b names) key
  at true = from_own names key own
  at false = own
may_stand-is names document key (inr (second, same)) =
    subst (λ (b : Bool). IsNamed (all_fields b names) key) (sym (may_cite-from document second)) (from_cites names key same)

-- ---- what stands last

-- where it is right
pub last_fields-ok : (names : List FieldName) (ms : Members) (x : Unit {0}) → last_fields names (table ms) ≡ Ok x → HasLast names (table ms)
unfolding last_fields
last_fields-ok names ms x e =
    let (y, first, next) = bind-ok (check (is_ok (cites_of (table ms))) (Field Cites)) _ x e in
    let only = has_only-true (all_fields (may_cite (table ms)) names) ms (check-ok _ Unknown x next) in
    record {
      cited = are_right-true (table ms) (check-ok _ (Field Cites) y first);
      only = λ key some. may_stand-from names (table ms) key (only key some);
    }

pub last_fields-from : (names : List FieldName) (ms : Members) → HasLast names (table ms) → last_fields names (table ms) ≡ Ok tt
unfolding last_fields
last_fields-from names ms h =
    rw (
      are_right-from (table ms) h.cited,
      has_only-from (all_fields (may_cite (table ms)) names) ms (λ key some. may_stand-is names (table ms) key (h.only key some)),
    ) refl

-- where it is wrong: the cites are judged first, and then the keys
pub data LastFault (names : List FieldName) (document : Data) (fault : DocumentFault) : Type 0 where
  wrong_cites : Field Cites ≡ fault → HasWrongCites document → LastFault names document fault
  other_key : Unknown ≡ fault → HasRightCites document → (key : List ℕ) → HasOther names document key → LastFault names document fault

pub last_fields-err : (names : List FieldName) (ms : Members) (fault : DocumentFault) → last_fields names (table ms) ≡ Err fault → LastFault names (table ms) fault
unfolding last_fields
last_fields-err names ms fault e =
    elim (bind-err (check (is_ok (cites_of (table ms))) (Field Cites)) _ fault e) [
      | inl wrong ↦
          let (out, is) = check-err (is_ok (cites_of (table ms))) (Field Cites) fault wrong in
          wrong_cites is (are_right-false (table ms) out)
      | inr (y, first, next) ↦
          let (out, is) = check-err (has_only (all_fields (may_cite (table ms)) names) (table ms)) Unknown fault next in
          let (key, some, other) = has_only-false (all_fields (may_cite (table ms)) names) ms out in
          other_key is (are_right-true (table ms) (check-ok _ (Field Cites) y first)) key (some, λ may. other (may_stand-is names (table ms) key may))
    ]

pub last_fields-wrong : (names : List FieldName) (document : Data) → HasWrongCites document → last_fields names document ≡ Err (Field Cites)
unfolding last_fields
last_fields-wrong names document wrong = rw (are_right-wrong document wrong) refl

pub last_fields-other : (names : List FieldName) (ms : Members) (key : List ℕ) → HasRightCites (table ms) → HasOther names (table ms) key
    → last_fields names (table ms) ≡ Err Unknown
unfolding last_fields
last_fields-other names ms key right (some, other) =
    let further = has_only-from_other (all_fields (may_cite (table ms)) names) ms key (some, λ named. other (may_stand-from names (table ms) key named)) in
    rw (are_right-from (table ms) right, further) refl

-- ---- tables whose keys are those of their kind alone

-- a key that isn't named is not there
pub not_there : (names : List FieldName) (ms : Members) (key : List ℕ) → has_only names (table ms) ≡ true → is_named names key ≡ false → get key (table ms) ≡ None
not_there names ms key only other = at (get key (table ms)) refl where
  at : (found : Option Data) → get key (table ms) ≡ found → get key (table ms) ≡ None
  at None missing = missing
  at (Some d) found =
      let named = has_only-true names ms only key (rw found refl) in
      absurd (false≢true (sym other ∙ is_named-from names key named))

-- the kind names neither `format` nor `cites`
pub record AreOwn (names : List FieldName) : Type 0 where
  pub no_format : is_named names (field_text Format) ≡ false
  pub no_cites : is_named names (field_text Cites) ≡ false

-- whether the field is one of a kind, and neither the format nor the cites
abbrev pub is_of_a_kind : FieldName → Bool
is_of_a_kind Format = false
is_of_a_kind Cites = false
is_of_a_kind field = true

-- one more such field
none_is : (test : FieldName → Bool) (names : List FieldName) (field : FieldName) → list_any test names ≡ false → test field ≡ false
    → list_any test (names ++ field ∷ []) ≡ false
none_is test [] field none not_it = rw not_it refl
none_is test (name ∷ names) field none not_it =
    let (other, others) = or_parts (test name) (list_any test names) none in
    or_from (test name) (list_any test (names ++ field ∷ [])) other (none_is test names field others not_it)

no_format : (field : FieldName) → is_of_a_kind field ≡ true → bytes_eq (field_text Format) (field_text field) ≡ false
no_format Format own = absurd cc
no_format Cites own = absurd cc
no_format field own = refl

no_cites : (field : FieldName) → is_of_a_kind field ≡ true → bytes_eq (field_text Cites) (field_text field) ≡ false
no_cites Format own = absurd cc
no_cites Cites own = absurd cc
no_cites field own = refl

pub own-none : AreOwn []
own-none = record { no_format = refl; no_cites = refl }

pub own-more : (names : List FieldName) (field : FieldName) → AreOwn names → is_of_a_kind field ≡ true → AreOwn (names ++ field ∷ [])
own-more names field own is = record {
  no_format = none_is (λ name. bytes_eq (field_text Format) (field_text name)) names field own.no_format (no_format field is);
  no_cites = none_is (λ name. bytes_eq (field_text Cites) (field_text name)) names field own.no_cites (no_cites field is);
}

-- what stands last in such a table is right
pub HasLast-own : (names : List FieldName) (ms : Members) → AreOwn names → has_only names (table ms) ≡ true → HasLast names (table ms)
HasLast-own names ms own only =
    record {
      cited = ([], left_out (not_there names ms (field_text Cites) only own.no_cites) refl);
      only = λ key some. inl (among names key (has_only-true names ms only key some));
    } where
      among : (names : List FieldName) (key : List ℕ) → IsNamed names key → IsNamed (Format ∷ names) key
      among names key named =
          is_named-true (Format ∷ names) key
          (or-further (bytes_eq key (codes "kind")) (bytes_eq key (field_text Format)) (is_own names key) (is_named-from names key named))
        where
          or-further : (a b d : Bool) → (a || d) ≡ true → (a || (b || d)) ≡ true
          or-further true b d e = refl
          or-further false true d e = refl
          or-further false false d e = e
