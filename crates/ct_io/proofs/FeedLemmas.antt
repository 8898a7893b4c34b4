-- Where the first line feed of some bytes is.
use Rattle.std.proofs.Common.{◌≡◌, ◌≢◌, ℕ, ◌+◌, ◌-◌, ◌<◌, ◌≤◌, Bool, true, false, cond, not, List, [], ◌∷◌, ◌++◌, length-append, Some, None, inl, inr, refl, sym, subst, ap, ◌∙◌, length, take, take_all, drop, get_or, arith, length-drop, length-take, ltb}
use Rattle.std.specs.List.{position, position_or_len, slice_get, Contains}
use Rattle.std.proofs.Math.Seq.{take-add}
use Rattle.std.proofs.lemmas.Bool.{eqb-true, eqb-false, ltb-false}
use Rattle.std.proofs.lemmas.List.{get_or-take, get_or-drop, take-append-drop, drop-drop, drop_all, drop_more}
use Rattle.std.proofs.lemmas.List.Elements.{All-append, All-from_get_or, All-head, All-tail, Contains-get_or}
use Rattle.std.proofs.lemmas.List.Quantifiers.{position-Some}
use Rattle.std.proofs.lemmas.List.Sums.{prefix_len_passes}
use Rattle.std.proofs.lemmas.Option.{slice_get-get_or, get_or_from_slice_get, slice_get_cases}
use Rattle.ct_text.specs.declared.document_lines.TheConstants.{LINE_FEED}
use Rattle.ct_io.specs.Lines.{IsLine, IsNextLine}
use Rattle.ct_io.specs.declared.TheConstants.{MAX_READ}
use Rattle.ct_io.specs.Reader.{IsLineThenRead}
use Rattle.ct_io.proofs.LinesLemmas.{is_feed}

-- no byte is a line feed
abbrev pub IsNoFeed : ℕ → Type 0
IsNoFeed b = b ≢ LINE_FEED

-- there is a line feed at the place, and none before it
pub record EndsAt (bytes : List ℕ) (place : ℕ) : Type 0 where
  pub inside : place < length bytes
  pub line : IsLine (take place bytes)
  pub feed : slice_get bytes place ≡ Some LINE_FEED

-- the place that was found
pub EndsAt-position : (bytes : List ℕ) (place : ℕ) → position is_feed bytes ≡ Some place → EndsAt bytes place
EndsAt-position bytes place e =
    let found = position-Some is_feed bytes place 0 e in
    record {
      inside = found.0;
      line =
          All-from_get_or IsNoFeed (take place bytes) 0
          (λ k k<len. let below : k < place = omega (arith, length-take place bytes) in eqb-false (get_or (take place bytes) k 0) LINE_FEED (ap is_feed (get_or-take place bytes k 0 below) ∙ found.2 k below));
      feed = slice_get-get_or bytes place 0 found.0 ∙ ap Some (eqb-true (get_or bytes place 0) LINE_FEED found.1);
    }

past_end : (m n : ℕ) (t : Bool) → ltb m n ≡ t → cond t (Some m) None ≡ None → n ≤ m
past_end m n true e none = cc
past_end m n false e none = ltb-false m n e

not_true : (t : Bool) → not t ≡ true → t ≡ false
not_true true e = cc
not_true false e = refl

-- there is none
pub IsLine-position : (bytes : List ℕ) → position is_feed bytes ≡ None → IsLine bytes
IsLine-position bytes e =
    let place = position_or_len is_feed bytes in
    let end : length bytes ≤ place = past_end place (length bytes) (ltb place (length bytes)) refl e in
    All-from_get_or IsNoFeed bytes 0
    (λ k inside. let before : k < place = omega arith in
    eqb-false (get_or bytes k 0) LINE_FEED (not_true (is_feed (get_or bytes k 0)) (prefix_len_passes (λ b. not (is_feed b)) bytes k 0 before)))

-- the same past a front that has none
pub EndsAt-searched : (bytes : List ℕ) (searched more : ℕ) → IsLine (take searched bytes) → position is_feed (drop searched bytes) ≡ Some more → EndsAt bytes (searched + more)
EndsAt-searched bytes searched more front e =
    let found = EndsAt-position (drop searched bytes) more e in
    let inside : searched + more < length bytes = omega (arith, found.inside, length-drop searched bytes) in
    record {
      inside = inside;
      line = subst IsLine (sym (take-add searched more bytes)) (All-append IsNoFeed (take searched bytes) (take more (drop searched bytes)) front found.line);
      feed =
          slice_get-get_or bytes (searched + more) 0 inside
          ∙ ap Some (sym (get_or-drop searched bytes more 0) ∙ get_or_from_slice_get (drop searched bytes) more LINE_FEED 0 found.feed);
    }

pub IsLine-searched : (bytes : List ℕ) (searched : ℕ) → IsLine (take searched bytes) → position is_feed (drop searched bytes) ≡ None → IsLine bytes
IsLine-searched bytes searched front e =
    subst IsLine (take-append-drop searched bytes) (All-append IsNoFeed (take searched bytes) (drop searched bytes) front (IsLine-position (drop searched bytes) e))

inside_from_slice_get : (bytes : List ℕ) (place b : ℕ) → slice_get bytes place ≡ Some b → place < length bytes
inside_from_slice_get bytes place b e =
    elim (slice_get_cases bytes place).1 [
      | inl found ↦ found.1
      | inr past ↦ let none : slice_get bytes place ≡ None = past.1 in cc
    ]

-- a line feed at a place is among the bytes
pub Contains-feed : (bytes : List ℕ) (place : ℕ) → slice_get bytes place ≡ Some LINE_FEED → Contains bytes LINE_FEED
Contains-feed bytes place feed =
    subst (Contains bytes) (get_or_from_slice_get bytes place LINE_FEED 0 feed) (Contains-get_or bytes place 0 (inside_from_slice_get bytes place LINE_FEED feed))

-- what is held is a front, the byte after it, and what is held past that byte
pub drop-around : (bytes : List ℕ) (start place b : ℕ) → slice_get (drop start bytes) place ≡ Some b
    → drop start bytes ≡ take place (drop start bytes) ++ b ∷ drop (start + place + 1) bytes
drop-around bytes start place b e =
    let held = drop start bytes in
    let inside = inside_from_slice_get held place b e in
    let rest : drop place held ≡ b ∷ drop (start + place + 1) bytes =
    drop_more held place 0 inside ∙ ap (λ x. x ∷ drop (place + 1) held) (get_or_from_slice_get held place b 0 e)
    ∙ ap (λ l. b ∷ l) (drop-drop (place + 1) start bytes ∙ ap (λ k. drop k bytes) (omega arith)) in
    sym (take-append-drop place held) ∙ ap (λ l. take place held ++ l) rest

-- bytes without a line feed end before a line feed
pub line_before_feed : (front last line after : List ℕ) → IsLine front → front ++ last ≡ line ++ LINE_FEED ∷ after → length front ≤ length line
line_before_feed [] last line after h e = omega arith
line_before_feed (b ∷ front) last [] after h e = let feed : b ≡ LINE_FEED = cc in absurd (All-head IsNoFeed b front h feed)
line_before_feed (b ∷ front) last (c ∷ line) after h e =
    let rest : front ++ last ≡ line ++ LINE_FEED ∷ after = cc in
    let shorter = line_before_feed front last line after (All-tail IsNoFeed b front h) rest in omega arith

-- after a line feed there are bytes of the last read alone
pub last_read-after_feed : (line after : List ℕ) → IsLineThenRead (line ++ LINE_FEED ∷ after) → length after < MAX_READ
last_read-after_feed line after h =
    let before = line_before_feed h.0 h.1 line after h.3 (sym h.2) in
    omega (arith, h.4, ap length h.2, length-append h.0 h.1, length-append line (LINE_FEED ∷ after))

pub last_read-of_line : (line after : List ℕ) → IsLine line → length after < MAX_READ → IsLineThenRead (line ++ LINE_FEED ∷ after)
last_read-of_line line after h few = (line, LINE_FEED ∷ after, refl, h, omega arith)

-- the next line of bytes with a line feed, and what follows it
pub next_line-found : (bytes : List ℕ) (place : ℕ) → position is_feed bytes ≡ Some place
    → IsNextLine bytes (take place bytes) (take (length bytes - (place + 1)) (drop (place + 1) bytes))
next_line-found bytes place e =
    let found = EndsAt-position bytes place e in
    let rest = take_all (length bytes - (place + 1)) (drop (place + 1) bytes) (omega (arith, length-drop (place + 1) bytes)) in
    let past : 0 + place + 1 ≡ place + 1 = omega arith in
    let front : bytes ≡ take place bytes ++ LINE_FEED ∷ drop (0 + place + 1) bytes = drop-around bytes 0 place LINE_FEED found.feed in
    (found.line, inl (front ∙ ap (λ (l : List ℕ). take place bytes ++ LINE_FEED ∷ l) (ap (λ (k : ℕ). drop k bytes) past ∙ sym rest)))

-- all bytes are the next line where there is no line feed
pub next_line-whole : (bytes : List ℕ) → position is_feed bytes ≡ None → 0 < length bytes
    → IsNextLine bytes bytes (take (length bytes - length bytes) (drop (length bytes) bytes))
next_line-whole bytes e some =
    let rest = take_all (length bytes - length bytes) (drop (length bytes) bytes) (omega (arith, length-drop (length bytes) bytes)) in
    (IsLine-position bytes e, inr (refl, some_bytes bytes some, rest ∙ drop_all (length bytes) bytes (omega arith)))
  where
    some_bytes : (bytes : List ℕ) → 0 < length bytes → bytes ≢ []
    some_bytes bytes some none = omega (arith, some, ap length none)

-- what follows at least one byte is less
pub less-follows : (bytes : List ℕ) (n k : ℕ) → 0 < length bytes → 0 < k → length (take n (drop k bytes)) < length bytes
less-follows bytes n k some past = omega (arith, length-take n (drop k bytes), length-drop k bytes, some, past)
