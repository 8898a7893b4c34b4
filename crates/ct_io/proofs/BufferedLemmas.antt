-- Texts that are put one after another for a sink, and what a failed write leaves of them.
use Rattle.std.proofs.Common.{◌≡◌, ◌≢◌, ℕ, zero, suc, ◌+◌, ◌<◌, ◌≤◌, List, [], ◌∷◌, ◌++◌, length, take, take_all, drop, get_or, Option, Some, None, Result, Ok, Err, refl, sym, ap, ◌∙◌, subst, append_assoc, append-nil, arith}
use Rattle.std.specs.Prelude.{OnOk, OnErr}
use Rattle.std.specs.List.{flat_map}
use Rattle.std.specs.Io.KnownBytes.{Appends, append_known}
use Rattle.std.proofs.KnownBytes.{Appends-nil, Appends-trans}
use Rattle.std.proofs.lemmas.Grind.{flat_map-append}
use Rattle.std.proofs.lemmas.List.{take_more, drop_more, take-append-drop}
use Rattle.ct_io.specs.Buffered.{Buffered, Puts, Stops, IsPut}
use Rattle.ct_io.specs.Faults.{Rose}
use Rattle.ct_io.specs.Told.{AppendsProperPrefix}
use Rattle.ct_io.specs.declared.failed.Failed.{Failed}
use Rattle.ct_io.proofs.FaultsLemmas.{Rose-after}

-- more after a text that isn't empty
some_left : (back more : List ℕ) → back ≢ [] → back ++ more ≢ []
some_left [] more some e = some refl
some_left (b ∷ back) more some e = cc

-- a proper prefix of a text is one of a longer text
of_more : (old new : Option (List ℕ)) (text more : List ℕ) → AppendsProperPrefix old new text → AppendsProperPrefix old new (text ++ more)
of_more old new text more h = (h.0, h.1 ++ more, ap (λ (t : List ℕ). t ++ more) h.2 ∙ append_assoc h.0 h.1 more, some_left h.1 more h.3, h.4)

-- a text was written, and then a proper prefix of what follows
pub after_all : (a b c : Option (List ℕ)) (text more : List ℕ) → Appends a b text → AppendsProperPrefix b c more → AppendsProperPrefix a c (text ++ more)
after_all a b c text more w h = (text ++ h.0, h.1, ap (λ (t : List ℕ). text ++ t) h.2 ∙ sym (append_assoc text h.0 h.1), h.3, Appends-trans a b c text h.0 w h.4)

-- ---- texts

-- no text
pub puts_none : (b : Buffered) → Puts b b []
puts_none b = record { written = []; parted = append-nil b.gathered; wrote = Appends-nil b.held; counted = omega arith }

-- a text, and then another
pub puts_then : (a b c : Buffered) (text more : List ℕ) → Puts a b text → Puts b c more → Puts a c (text ++ more)
puts_then a b c text more h k =
    let first = h.counted in
    let second = k.counted in
    record {
      written = h.written ++ k.written;
      parted = sym (append_assoc a.gathered text more) ∙ ap (λ (t : List ℕ). t ++ more) h.parted ∙ append_assoc h.written b.gathered more
          ∙ ap (λ (t : List ℕ). h.written ++ t) k.parted ∙ sym (append_assoc h.written k.written c.gathered);
      wrote = Appends-trans a.held b.held c.held h.written k.written h.wrote k.wrote;
      counted = omega (arith, first, second);
    }

-- the sink failed before another text was to be put
pub stops_sooner : (a b : Buffered) (text more : List ℕ) → Stops a b text → Stops a b (text ++ more)
stops_sooner a b text more h = record {
  part = subst (AppendsProperPrefix a.held b.held) (append_assoc a.gathered text more) (of_more a.held b.held (a.gathered ++ text) more h.part);
  rose = h.rose;
  counted = h.counted;
}

-- the sink failed after a text was put
pub stops_then : (a b c : Buffered) (text more : List ℕ) → Puts a b text → Stops b c more → Stops a c (text ++ more)
stops_then a b c text more h k =
    let first = h.counted in
    let second = k.counted in
    let whole = after_all a.held b.held c.held h.written (b.gathered ++ more) h.wrote k.part in
    let spelled : a.gathered ++ (text ++ more) ≡ h.written ++ (b.gathered ++ more) =
    sym (append_assoc a.gathered text more) ∙ ap (λ (t : List ℕ). t ++ more) h.parted ∙ append_assoc h.written b.gathered more in
    record {
      part = subst (AppendsProperPrefix a.held c.held) (sym spelled) whole;
      rose = Rose-after a.faults b.faults c.faults h.counted k.rose;
      counted = omega (arith, first, second);
    }

-- a text was put, and then another, or the sink failed
pub is_put_then : (a b c : Buffered) (text more : List ℕ) (r : Result (Unit {0}) Failed) → Puts a b text → IsPut b c more r → IsPut a c (text ++ more) r
is_put_then a b c text more (Ok done) h k = puts_then a b c text more h k
is_put_then a b c text more (Err failed) h k = stops_then a b c text more h k

-- a text was put, and then what is gathered was written, or the sink failed
pub is_put_last : (a b c : Buffered) (text : List ℕ) (r : Result (Unit {0}) Failed) → Puts a b text → IsPut b c [] r → IsPut a c text r
is_put_last a b c text r h k = subst (λ (t : List ℕ). IsPut a c t r) (append-nil text) (is_put_then a b c text [] r h k)

-- the same text, spelled in another way
pub is_put_as : (a b : Buffered) (text spelled : List ℕ) (r : Result (Unit {0}) Failed) → text ≡ spelled → IsPut a b text r → IsPut a b spelled r
is_put_as a b text spelled r same h = subst (λ (t : List ℕ). IsPut a b t r) same h

-- ---- the texts of items, one after the other

items_more : {X : Type 0} (f : X → List ℕ) (xs : List X) (i : ℕ) (x : X) → i < length xs → x ≡ get_or xs i x → flat_map f (take i xs) ++ f x ≡ flat_map f (take (i + 1) xs)
items_more {X} f xs i x within is =
    ap (λ (t : List ℕ). flat_map f (take i xs) ++ t) (sym (append-nil (f x)))
    ∙ sym (flat_map-append f (take i xs) (x ∷ []))
    ∙ ap (λ (y : X). flat_map f (take i xs ++ y ∷ [])) is
    ∙ ap (λ (ys : List X). flat_map f ys) (sym (take_more xs i x within))

items_all : {X : Type 0} (f : X → List ℕ) (xs : List X) (i : ℕ) (x : X) → i < length xs → x ≡ get_or xs i x
    → flat_map f xs ≡ flat_map f (take i xs) ++ (f x ++ flat_map f (drop (i + 1) xs))
items_all {X} f xs i x within is =
    ap (λ (ys : List X). flat_map f ys) (sym (take-append-drop i xs)) ∙ flat_map-append f (take i xs) (drop i xs)
    ∙ ap (λ (ys : List X). flat_map f (take i xs) ++ flat_map f ys) (drop_more xs i x within)
    ∙ ap (λ (y : X). flat_map f (take i xs) ++ (f y ++ flat_map f (drop (i + 1) xs))) (sym is)

-- an item that is there is found whatever would stand in for it
same_item : {X : Type 0} (xs : List X) (i : ℕ) (d e : X) → i < length xs → get_or xs i d ≡ get_or xs i e
same_item [] i d e within = absurd (omega (arith, within))
same_item (x ∷ xs) zero d e within = refl
same_item (x ∷ xs) (suc i) d e within = same_item xs i d e (omega (arith, within))

-- the texts of one item more, that of the item at a place
pub part_more : {X : Type 0} (f : X → List ℕ) (xs : List X) (i : ℕ) (d : X) → i < length xs → flat_map f (take i xs) ++ f (get_or xs i d) ≡ flat_map f (take (i + 1) xs)
part_more {X} f xs i d within = items_more f xs i (get_or xs i d) within (same_item xs i d (get_or xs i d) within)

-- the text of one item more
pub puts_item : {X : Type 0} (f : X → List ℕ) (xs : List X) (i : ℕ) (x : X) (a b c : Buffered) → i < length xs → x ≡ get_or xs i x
    → Puts a b (flat_map f (take i xs)) → Puts b c (f x) → Puts a c (flat_map f (take (i + 1) xs))
puts_item {X} f xs i x a b c within is h k = subst (Puts a c) (items_more f xs i x within is) (puts_then a b c (flat_map f (take i xs)) (f x) h k)

-- the sink failed at an item
pub stops_at_item : {X : Type 0} (f : X → List ℕ) (xs : List X) (i : ℕ) (x : X) (a b c : Buffered) → i < length xs → x ≡ get_or xs i x
    → Puts a b (flat_map f (take i xs)) → Stops b c (f x) → Stops a c (flat_map f xs)
stops_at_item {X} f xs i x a b c within is h k =
    let rest = flat_map f (drop (i + 1) xs) in
    subst (Stops a c) (sym (items_all f xs i x within is)) (stops_then a b c (flat_map f (take i xs)) (f x ++ rest) h (stops_sooner b c (f x) rest k))

-- the same of the item at a place
pub puts_part : {X : Type 0} (f : X → List ℕ) (xs : List X) (i : ℕ) (d : X) (a b c : Buffered) → i < length xs
    → Puts a b (flat_map f (take i xs)) → Puts b c (f (get_or xs i d)) → Puts a c (flat_map f (take (i + 1) xs))
puts_part {X} f xs i d a b c within h k = puts_item f xs i (get_or xs i d) a b c within (same_item xs i d (get_or xs i d) within) h k

pub stops_at_part : {X : Type 0} (f : X → List ℕ) (xs : List X) (i : ℕ) (d : X) (a b c : Buffered) → i < length xs
    → Puts a b (flat_map f (take i xs)) → Stops b c (f (get_or xs i d)) → Stops a c (flat_map f xs)
stops_at_part {X} f xs i d a b c within h k = stops_at_item f xs i (get_or xs i d) a b c within (same_item xs i d (get_or xs i d) within) h k

-- the texts of all items
pub puts_all : {X : Type 0} (f : X → List ℕ) (xs : List X) (i : ℕ) (a b : Buffered) → length xs ≤ i → Puts a b (flat_map f (take i xs))
    → Puts a b (flat_map f xs)
puts_all {X} f xs i a b past h = subst (λ (ys : List X). Puts a b (flat_map f ys)) (take_all i xs past) h

-- ---- the ways of one text

-- it is gathered
pub puts_gathered : (held : Option (List ℕ)) (g g' text : List ℕ) (faults : ℕ) → g' ≡ g ++ text
    → Puts (record { held = held; gathered = g; faults = faults }) (record { held = held; gathered = g'; faults = faults }) text
puts_gathered held g g' text faults e = record { written = []; parted = sym e; wrote = Appends-nil held; counted = omega arith }

-- what was gathered is written, and the text gathered
pub puts_after_writing : (old new : Option (List ℕ)) (g none g' text : List ℕ) (faults faults' : ℕ) → Appends old new g → none ≡ [] → faults ≤ faults' → g' ≡ none ++ text
    → Puts (record { held = old; gathered = g; faults = faults }) (record { held = new; gathered = g'; faults = faults' }) text
puts_after_writing old new g none g' text faults faults' wrote empty counted e =
    record { written = g; parted = ap (λ (t : List ℕ). g ++ t) (sym (e ∙ ap (λ (t : List ℕ). t ++ text) empty)); wrote = wrote; counted = counted }

-- both are written
puts_written : (a b c : Option (List ℕ)) (g none text : List ℕ) (faults faults' : ℕ) → Appends a b g → none ≡ [] → Appends b c text → faults ≤ faults'
    → Puts (record { held = a; gathered = g; faults = faults }) (record { held = c; gathered = none; faults = faults' }) text
puts_written a b c g none text faults faults' first empty second counted = record {
  written = g ++ text;
  parted = sym (ap (λ (t : List ℕ). (g ++ text) ++ t) empty ∙ append-nil (g ++ text));
  wrote = Appends-trans a b c g text first second;
  counted = counted;
}

-- what was gathered could not be written
pub stops_first : (old new : Option (List ℕ)) (g g' text : List ℕ) (faults faults' : ℕ) → AppendsProperPrefix old new g → Rose faults faults' → faults ≤ faults'
    → Stops (record { held = old; gathered = g; faults = faults }) (record { held = new; gathered = g'; faults = faults' }) text
stops_first old new g g' text faults faults' part rose counted = record { part = of_more old new g text part; rose = rose; counted = counted }

-- what was gathered is written, and then the text, or the sink failed there
pub is_put_through : (a b c : Option (List ℕ)) (g none text : List ℕ) (faults faults' faults'' : ℕ) (r : Result (Unit {0}) Failed) → Appends a b g → none ≡ [] → faults ≤ faults' → faults' ≤ faults''
    → OnOk r (Appends b c text) → OnErr r (AppendsProperPrefix b c text) → OnErr r (Rose faults' faults'')
    → IsPut (record { held = a; gathered = g; faults = faults }) (record { held = c; gathered = none; faults = faults'' }) text r
is_put_through a b c g none text faults faults' faults'' (Ok done) first empty m n wrote part rose = puts_written a b c g none text faults faults'' first empty wrote (omega (arith, m, n))
is_put_through a b c g none text faults faults' faults'' (Err failed) first empty m n wrote part rose =
    record { part = after_all a b c g text first part; rose = Rose-after faults faults' faults'' m rose; counted = omega (arith, m, n) }

-- what was gathered is written, or the sink failed
pub is_flushed : (a b : Option (List ℕ)) (g g' : List ℕ) (faults faults' : ℕ) (r : Result (Unit {0}) Failed) → OnOk r (Appends a b g) → OnOk r (g' ≡ []) → OnErr r (AppendsProperPrefix a b g)
    → OnErr r (Rose faults faults') → faults ≤ faults' → IsPut (record { held = a; gathered = g; faults = faults }) (record { held = b; gathered = g'; faults = faults' }) [] r
is_flushed a b g g' faults faults' (Ok done) wrote empty part rose counted = record { written = g; parted = ap (λ (t : List ℕ). g ++ t) (sym empty); wrote = wrote; counted = counted }
is_flushed a b g g' faults faults' (Err failed) wrote empty part rose counted = stops_first a b g g' [] faults faults' part rose counted

-- ---- both as one

known_put : (xs ys g text written g' : List ℕ) → g ++ text ≡ written ++ g' → ys ≡ xs ++ written → ys ++ g' ≡ (xs ++ g) ++ text
known_put xs ys g text written g' parted wrote =
    ap (λ (t : List ℕ). t ++ g') wrote ∙ append_assoc xs written g' ∙ ap (λ (t : List ℕ). xs ++ t) (sym parted) ∙ sym (append_assoc xs g text)

-- what the sink holds and what is gathered grew by the text
pub all_put-grows : (held held' : Option (List ℕ)) (g g' text : List ℕ) (faults faults' : ℕ)
    → Puts (record { held = held; gathered = g; faults = faults }) (record { held = held'; gathered = g'; faults = faults' }) text → Appends (append_known held g) (append_known held' g') text
all_put-grows None held' g g' text faults faults' h = tt
all_put-grows (Some xs) None g g' text faults faults' h = absurd h.wrote
all_put-grows (Some xs) (Some ys) g g' text faults faults' h = known_put xs ys g text h.written g' h.parted h.wrote

-- a text was put, and nothing is gathered: all of it is written
pub all_written : (a c : Buffered) (text : List ℕ) → Puts a c text → c.gathered ≡ [] → Appends a.held c.held (a.gathered ++ text)
all_written a c text h none = subst (Appends a.held c.held) (sym (h.parted ∙ ap (λ (t : List ℕ). h.written ++ t) none ∙ append-nil h.written)) h.wrote
