-- A table and the same with cites: what it has at the other keys, and what stands last in it.
use Rattle.std.proofs.Common.{◌≡◌, ℕ, ◌≤◌, true, false, List, [], ◌∷◌, map, codes, None, pos, is_eq, nat_cmp, inl, inr, refl, sym, ◌∙◌, lit≤, arith}
use Rattle.std.specs.Cmp.Lexicographic.{slice_cmp}
use Rattle.toml.specs.Data.{Data, string, integer, table, Members, get, get_member, items_depth, members_depth}
use Rattle.toml.specs.View.{items_of}
use Rattle.ct_fields.specs.Field.{field_text}
use Rattle.ct_fields.specs.Fields.{has_only}
use Rattle.ct_fields.specs.Forms.{list_data}
use Rattle.ct_fields.specs.Cites.{IsCites}
use Rattle.ct_fields.specs.HasCites.{HasRightFormat, IsSecond, HasCites, listed, no_second, MayStand, HasLast}
use Rattle.ct_fields.specs.Tables.{IsNamed}
use Rattle.ct_fields.specs.Written.{put, put_cites}
use Rattle.ct_fields.specs.declared.field.FieldName.{FieldName}
use Rattle.ct_fields.specs.declared.field.FieldName.TheVariants as name
use Rattle.ct_fields.proofs.FieldLemmas.{has_only-true, has_only-from}
use Rattle.ct_fields.proofs.MemberLemmas.{get_member-same, get_member-other, keys_are_named-put, members_depth-put}
use Rattle.ct_fields.proofs.LastLemmas.{is_of_a_kind, among_all, from_own}

-- the tables have the same at the key `kind` and at the keys of the kinds
pub record Alike (document other : Data) : Type 0 where
  pub kind : get (codes "kind") other ≡ get (codes "kind") document
  pub fields : (field : FieldName) → is_of_a_kind field ≡ true → get (field_text field) other ≡ get (field_text field) document

-- a table with cites is like the one without them
cited_key : (key : List ℕ) (cite : List ℕ) (cites : List (List ℕ)) (ms : Members) → is_eq (slice_cmp nat_cmp key (codes "cites")) ≡ false
    → is_eq (slice_cmp nat_cmp key (codes "format")) ≡ false → get_member key (put_cites (cite ∷ cites) ms) ≡ get_member key ms
cited_key key cite cites ms no_cites no_format =
    get_member-other key (codes "cites") (list_data string (cite ∷ cites)) (put name.Format (integer (pos 2)) ms) no_cites
    ∙ get_member-other key (codes "format") (integer (pos 2)) ms no_format

pub alike-cited : (cites : List (List ℕ)) (ms : Members) → Alike (table ms) (table (put_cites cites ms))
alike-cited [] ms = record { kind = refl; fields = λ field own. refl }
alike-cited (cite ∷ cites) ms = record {
  kind = cited_key (codes "kind") cite cites ms refl refl;
  fields = at;
} where
  at : (field : FieldName) → is_of_a_kind field ≡ true
      → get (field_text field) (table (put_cites (cite ∷ cites) ms)) ≡ get (field_text field) (table ms)
  at name.Format own = absurd cc
  at name.Cites own = absurd cc
  at field own = cited_key (field_text field) cite cites ms refl refl

-- its format
pub cited_format : (cite : List ℕ) (cites : List (List ℕ)) (ms : Members) → IsSecond (table (put_cites (cite ∷ cites) ms))
cited_format cite cites ms =
    get_member-other (codes "format") (codes "cites") (list_data string (cite ∷ cites)) (put name.Format (integer (pos 2)) ms) refl
    ∙ get_member-same (codes "format") (integer (pos 2)) ms

-- it has these cites, where the table without them says no format and its last fields are right
pub cites-cited : (cites : List (List ℕ)) (names : List FieldName) (ms : Members) → get (field_text name.Format) (table ms) ≡ None
    → HasLast names (table ms) → IsCites cites → HasCites (table (put_cites cites ms)) cites
cites-cited [] names ms first last right = no_second (λ second. let never = sym first ∙ second in absurd cc) refl
cites-cited (cite ∷ cites) names ms first last right =
    listed (cited_format cite cites ms)
    (get_member-same (codes "cites") (list_data string (cite ∷ cites)) (put name.Format (integer (pos 2)) ms)) right

-- what stands last in it is right
keys_cited : (names : List FieldName) (ms : Members) → get (field_text name.Format) (table ms) ≡ None → HasLast names (table ms)
    → has_only (name.Format ∷ name.Cites ∷ names) (table ms) ≡ true
keys_cited names ms first last = has_only-from (name.Format ∷ name.Cites ∷ names) ms (λ key some. own key (last.only key some)) where
  own : (key : List ℕ) → MayStand names (table ms) key → IsNamed (name.Format ∷ name.Cites ∷ names) key
  own key (inl named) = from_own names key named
  own key (inr (second, same)) = let never = sym first ∙ second in absurd cc

pub last-cited : (cites : List (List ℕ)) (names : List FieldName) (ms : Members) → get (field_text name.Format) (table ms) ≡ None
    → HasLast names (table ms) → IsCites cites → HasLast names (table (put_cites cites ms))
last-cited [] names ms first last right = last
last-cited (cite ∷ cites) names ms first last right =
    let next = put_cites (cite ∷ cites) ms in
    let all = name.Format ∷ name.Cites ∷ names in
    let with_format = keys_are_named-put all (codes "format") (integer (pos 2)) ms refl (keys_cited names ms first last) in
    let only = keys_are_named-put all (codes "cites") (list_data string (cite ∷ cites)) (put name.Format (integer (pos 2)) ms) refl with_format in
    record {
      cited = (cite ∷ cites, cites-cited (cite ∷ cites) names ms first last right);
      only = λ key some. among_all names (table next) key (cited_format cite cites ms) (has_only-true all next only key some);
    }

-- its format is right
pub format-cited : (cites : List (List ℕ)) (ms : Members) → get (field_text name.Format) (table ms) ≡ None → HasRightFormat (table (put_cites cites ms))
format-cited [] ms first = (1, inl (first, refl))
format-cited (cite ∷ cites) ms first = (2, inr (cited_format cite cites ms, omega arith, omega arith))

-- it is no deeper than a document may be
texts_depth : (cites : List (List ℕ)) → items_depth (items_of (map string cites)) ≡ 0
texts_depth [] = refl
texts_depth (cite ∷ cites) = rw (texts_depth cites) refl

pub depth-cited : (cites : List (List ℕ)) (ms : Members) → members_depth ms ≤ 80 → members_depth (put_cites cites ms) ≤ 80
depth-cited [] ms shallow = shallow
depth-cited (cite ∷ cites) ms shallow =
    members_depth-put 80 (codes "cites") (list_data string (cite ∷ cites)) (put name.Format (integer (pos 2)) ms)
    (rw (texts_depth (cite ∷ cites)) (lit≤ tt))
    (members_depth-put 80 (codes "format") (integer (pos 2)) ms (lit≤ tt) shallow)
