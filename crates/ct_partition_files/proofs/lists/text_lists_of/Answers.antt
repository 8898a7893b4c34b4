use Rattle.std.proofs.Common.{◌≡◌, ℕ, ◌+◌, ◌<◌, ◌≤◌, List, [], ◌∷◌, ◌++◌, length, get_or, drop, Option, Some, None, option_map, Global, append-nil, append_assoc, refl, sym, ap, ◌∙◌}
use Rattle.std.specs.Prelude.{Vec}
use Rattle.std.specs.Borrow.{Bor}
use Rattle.std.specs.Option.{option_and_then}
use Rattle.std.proofs.lemmas.List.{map_push, drop_more, drop_all}
use Rattle.toml.specs.View.{view, items_view}
use Rattle.toml.specs.declared.value.Value.{Value}
use Rattle.ct_fields.specs.Fields.{texts_in}
use Rattle.ct_fields.specs.Reads.{texts_behind}
use Rattle.ct_fields.proofs.Reserved.{room_left, room_stays}
use Rattle.ct_partition_files.specs.Lists.{lists_behind, text_lists_of}
use Rattle.ct_partition_files.proofs.lists.text_lists_of.Goals as goal

abbrev Texts : Type 0
Texts = Vec (Bor (List ℕ)) Global

-- the lists that are read, with those of the values from i on
abbrev read_from : List Texts → List Value → ℕ → Option (List (List (List ℕ)))
read_from lists values i = option_map (λ rest. lists_behind lists ++ rest) (text_lists_of (items_view (drop i values)))

-- no list was read yet
no_lists : (rest : Option (List (List (List ℕ)))) → option_map (λ more. [] ++ more) rest ≡ rest
no_lists None = refl
no_lists (Some more) = refl

read_begin : (lists : List Texts) (values : List Value) → lists ≡ [] → read_from lists values 0 ≡ text_lists_of (items_view values)
read_begin lists values none = ap (λ ls. read_from ls values 0) none ∙ no_lists (text_lists_of (items_view values))

-- one value more that is a list of texts
one_more : (lists : List Texts) (texts : Texts) (rest : Option (List (List (List ℕ))))
    → option_map (λ more. lists_behind (lists ++ texts ∷ []) ++ more) rest
    ≡ option_map (λ more. lists_behind lists ++ more) (option_and_then (λ more. Some (texts_behind texts.items ∷ more)) rest)
one_more lists texts None = refl
one_more lists texts (Some more) =
    ap (λ l. Some (l ++ more)) (map_push (λ (l : Texts). texts_behind l.items) lists texts)
    ∙ ap Some (append_assoc (lists_behind lists) (texts_behind texts.items ∷ []) more)

module _ (lists : List Texts) (values : List Value) (i : ℕ) (value : Value) (below : i < length values) (here : value ≡ get_or values i value) where
  next : (o : Option (List (List ℕ))) → o ≡ texts_in (view value)
      → option_and_then (λ texts. option_and_then (λ more. Some (texts ∷ more)) (text_lists_of (items_view (drop (i + 1) values)))) o
      ≡ text_lists_of (items_view (drop i values))
  next o is =
      ap (option_and_then (λ texts. option_and_then (λ more. Some (texts ∷ more)) (text_lists_of (items_view (drop (i + 1) values)))))
      (is ∙ ap (λ v. texts_in (view v)) here)
      ∙ ap (λ vs. text_lists_of (items_view vs)) (sym (drop_more values i value below))

  read_more : (new : List Texts) (texts : Texts) → Some (texts_behind texts.items) ≡ texts_in (view value) → new ≡ lists ++ texts ∷ []
      → read_from lists values i ≡ text_lists_of (items_view values)
      → read_from new values (i + 1) ≡ text_lists_of (items_view values)
  read_more new texts is pushed before =
      ap (λ l. read_from l values (i + 1)) pushed
      ∙ one_more lists texts (text_lists_of (items_view (drop (i + 1) values)))
      ∙ ap (option_map (λ rest. lists_behind lists ++ rest)) (next (Some (texts_behind texts.items)) is)
      ∙ before

  read_none : None ≡ texts_in (view value) → read_from lists values i ≡ text_lists_of (items_view values)
      → None ≡ text_lists_of (items_view values)
  read_none is before = ap (option_map (λ rest. lists_behind lists ++ rest)) (next None is) ∙ before

-- the lists once no value is left
read_all : (lists : List Texts) (values : List Value) (i : ℕ) → length values ≤ i → read_from lists values i ≡ text_lists_of (items_view values)
    → Some (lists_behind lists) ≡ text_lists_of (items_view values)
read_all lists values i past before =
    ap Some (sym (append-nil (lists_behind lists)))
    ∙ ap (λ vs. option_map (λ rest. lists_behind lists ++ rest) (text_lists_of (items_view vs))) (sym (drop_all i values past))
    ∙ before

pub loop-value-init : goal.loop-value-init
loop-value-init c =
    (read_begin c.in_ok-lists.lists.items c.args.values.now c.in_ok-lists.ensures.items, (c.in_ok-lists.ensures.len, c.in_ok-lists.ensures.capacity))

pub push_reserved-requires : goal.push_reserved-requires
push_reserved-requires c =
    room_left c.loop-value.lists c.loop-value.value-index (length c.args.values.now) c.loop-value.invariant.1 c.loop-value-test.true

pub loop-value-preserved : goal.loop-value-preserved
loop-value-preserved c =
    let found = c.in_ok-texts.ensures in (
      read_more c.loop-value.lists.items c.args.values.now c.loop-value.value-index c.value-item.result c.loop-value-test.true c.value-item.is
          c.push_reserved.new.self.items c.in-Some.texts (sym (ap (option_map (λ (v : Texts). texts_behind v.items)) c.in-Some.is) ∙ found) c.push_reserved.ensures.items
          c.loop-value.invariant.0,
      room_stays c.loop-value.lists c.push_reserved.new.self c.loop-value.value-index (length c.args.values.now) c.loop-value.invariant.1
          c.push_reserved.ensures.len c.push_reserved.ensures.capacity,
    )

pub returns : goal.returns
returns c = read_all c.loop-value.lists.items c.args.values.now c.loop-value.value-index c.loop-value-test.false c.loop-value.invariant.0

pub returns-in_default : goal.returns-in_default
returns-in_default c =
    let found = c.in_ok-texts.ensures in
    read_none c.loop-value.lists.items c.args.values.now c.loop-value.value-index c.value-item.result c.loop-value-test.true c.value-item.is
    (sym (ap (option_map (λ (v : Texts). texts_behind v.items)) c.in_default.is) ∙ found) c.loop-value.invariant.0

pub bounds-values-value-index : goal.bounds-values-value-index
bounds-values-value-index c = c.loop-value-test.true
