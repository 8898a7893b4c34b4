-- Bytes that are held: what is left of them, in the memory that keeps them.
use Rattle.std.proofs.Common.{◌≡◌, ◌≢◌, ◌==◌, ℕ, zero, suc, ◌+◌, ◌-◌, ◌<◌, ◌≤◌, true, List, [], ◌∷◌, ◌++◌, Some, length, replicate, take, drop, take_all, length-append, length-drop, length-take, refl, sym, subst, ap, ◌∙◌, arith}
use Rattle.std.specs.List.{slice_get}
use Rattle.std.proofs.Math.Seq.{take-append_seam}
use Rattle.std.proofs.lemmas.Bool.{eqb-true}
use Rattle.std.proofs.lemmas.List.{drop_all, drop-drop, take-append-drop, take-append-le, drop-append-le}
use Rattle.std.proofs.lemmas.List.Elements.{All-nil, All-head}
use Rattle.std.proofs.lemmas.Option.{none-some, same_Some, slice_get_within}
use Rattle.ct_text.specs.declared.document_lines.TheConstants.{LINE_FEED}
use Rattle.ct_io.specs.Lines.{IsLine}
use Rattle.ct_io.proofs.FeedLemmas.{IsNoFeed}

-- what is left is within the memory
pub left-within : (start kept : ℕ) (bytes : List ℕ) → kept ≡ length bytes → length (drop start bytes) ≤ kept
left-within start kept bytes kept-is = let left = length-drop start bytes in omega arith

-- what was given out is within the memory too
pub start-within : (start searched kept : ℕ) (bytes : List ℕ) → start + searched ≤ kept → kept ≡ length bytes → start ≤ length bytes
start-within start searched kept bytes within kept-is = omega arith

-- nothing is left after all
pub none-left : (start kept : ℕ) (bytes : List ℕ) → start ≡ kept → kept ≡ length bytes → drop start bytes ≡ []
none-left start kept bytes start-is kept-is = drop_all start bytes (omega arith)

-- all that is left
pub all-left : (bytes whole rest : List ℕ) (start : ℕ) → whole ≡ bytes → rest ≡ take (length whole - start) (drop start whole) → rest ≡ drop start bytes
all-left bytes whole rest start whole-is rest-is =
    let left = length-drop start bytes in
    rest-is ∙ ap (λ l. take (length l - start) (drop start l)) whole-is ∙ take_all (length bytes - start) (drop start bytes) (omega arith)

-- line feeds at its front, and what follows them
pub feeds-passed : (bytes whole : List ℕ) (start n : ℕ) → whole ≡ bytes → take n (take (length whole - start) (drop start whole)) ≡ replicate n LINE_FEED
    → drop start bytes ≡ replicate n LINE_FEED ++ drop (start + n) bytes
feeds-passed bytes whole start n whole-is feeds =
    let left = all-left bytes whole (take (length whole - start) (drop start whole)) start whole-is refl in
    sym (take-append-drop n (drop start bytes))
    ∙ ap (λ l. l ++ drop n (drop start bytes)) (ap (take n) (sym left) ∙ feeds)
    ∙ ap (λ l. replicate n LINE_FEED ++ l) (drop-drop n start bytes)

-- the first byte after so many
first-left : (bytes : List ℕ) (n : ℕ) → slice_get (drop n bytes) 0 ≡ slice_get bytes n
first-left [] zero = refl
first-left [] (suc n) = refl
first-left (b ∷ bytes) zero = refl
first-left (b ∷ bytes) (suc n) = first-left bytes n

-- no line feed follows
pub no_more_feeds : (bytes whole : List ℕ) (start n : ℕ) → whole ≡ bytes → slice_get (take (length whole - start) (drop start whole)) n ≢ Some LINE_FEED
    → slice_get (drop (start + n) bytes) 0 ≢ Some LINE_FEED
no_more_feeds bytes whole start n whole-is none e =
    let left = all-left bytes whole (take (length whole - start) (drop start whole)) start whole-is refl in
    none
    (ap (λ l. slice_get l n) left ∙ sym (first-left (drop start bytes) n) ∙ ap (λ l. slice_get l 0) (drop-drop n start bytes) ∙ e)

-- and it is some, where the memory does not end there
pub some-left : (bytes rest : List ℕ) (start searched kept : ℕ) → start + searched ≤ kept → start ≢ kept → kept ≡ length bytes → rest ≡ drop start bytes
    → 0 < length rest
some-left bytes rest start searched kept within more kept-is rest-is = let left = ap length rest-is ∙ length-drop start bytes in omega arith

-- a line with its line feed is within the memory
pub fed-within : (bytes : List ℕ) (start count kept : ℕ) → kept ≡ length bytes → slice_get (drop start bytes) count ≡ Some LINE_FEED → start + count + 1 ≤ kept
fed-within bytes start count kept kept-is feed =
    let within = slice_get_within (drop start bytes) count LINE_FEED feed in
    let left = length-drop start bytes in
    omega arith

pub no_bytes-line : IsLine []
no_bytes-line = All-nil IsNoFeed

-- more bytes at the end leave the bytes that were searched
pub still-searched : (start searched kept : ℕ) (old more new : List ℕ) → start + searched ≤ length old → IsLine (take searched (drop start old))
    → new ≡ old ++ more → kept ≡ length new → (start + searched ≤ kept) × IsLine (take searched (drop start new))
still-searched start searched kept old more new within line new-is kept-is =
    let left = length-drop start old in
    let size = ap length new-is ∙ length-append old more in
    let same = ap (λ l. take searched (drop start l)) new-is ∙ ap (take searched) (drop-append-le start old more (omega arith))
    ∙ take-append-le searched (drop start old) more (omega arith) in
    (omega arith, subst IsLine (sym same) line)

-- the bytes after a front, once the front is turned to the end and cut off
pub front-dropped : (bytes : List ℕ) (count rest : ℕ) → rest ≡ length bytes - count → take rest (drop count bytes ++ take count bytes) ≡ drop count bytes
front-dropped bytes count rest rest-is =
    ap (λ k. take k (drop count bytes ++ take count bytes)) (rest-is ∙ sym (length-drop count bytes)) ∙ take-append_seam (drop count bytes) (take count bytes)

-- the same bytes leave the bytes that were searched
pub same-searched : (start searched kept now : ℕ) (old new : List ℕ) → start + searched ≤ kept → kept ≡ length old → IsLine (take searched (drop start old))
    → new ≡ old → now ≡ length new → (start + searched ≤ now) × IsLine (take searched (drop start new))
same-searched start searched kept now old new within kept-is line new-is now-is =
    let size = ap length new-is in
    (omega arith, subst (λ (l : List ℕ). IsLine (take searched (drop start l))) (sym new-is) line)

-- so do they once they are moved to the front
pub moved-searched : (start searched kept now : ℕ) (old new : List ℕ) → start + searched ≤ kept → kept ≡ length old → IsLine (take searched (drop start old))
    → new ≡ drop start old → now ≡ length new → (0 + searched ≤ now) × IsLine (take searched new)
moved-searched start searched kept now old new within kept-is line new-is now-is =
    let size = ap length new-is ∙ length-drop start old in
    (omega arith, subst (λ (l : List ℕ). IsLine (take searched l)) (sym new-is) line)

pub moved-within : (start kept now : ℕ) (old new : List ℕ) → kept ≡ length old → new ≡ drop start old → now ≡ length new → now ≤ kept
moved-within start kept now old new kept-is new-is now-is = let size = ap length new-is ∙ length-drop start old in omega arith

-- no bytes
pub no_bytes : (bytes : List ℕ) → true ≡ (length bytes == 0) → bytes ≡ []
no_bytes [] none = refl
no_bytes (b ∷ bytes) none = absurd (omega (arith, eqb-true (length (b ∷ bytes)) 0 (sym none)))

-- where as many are left as there are, all are left
pub all-kept : (start kept : ℕ) (bytes left : List ℕ) → kept ≡ length bytes → drop start bytes ≡ left → kept ≡ length left → bytes ≡ left
all-kept zero kept bytes left kept-is is size = is
all-kept (suc start) kept [] left kept-is is size = is
all-kept (suc start) kept (b ∷ bytes) left kept-is is size =
    let fewer = sym (ap length is) ∙ length-drop (suc start) (b ∷ bytes) in
    absurd (omega (arith, fewer, kept-is, size))

-- bytes that were searched begin with no line feed
pub searched-first : (bytes : List ℕ) (searched : ℕ) → searched ≢ 0 → IsLine (take searched bytes) → slice_get bytes 0 ≢ Some LINE_FEED
searched-first [] searched some line e = none-some LINE_FEED e
searched-first (b ∷ bytes) zero some line e = absurd (some refl)
searched-first (b ∷ bytes) (suc searched) some line e = All-head IsNoFeed b (take searched bytes) line (same_Some b LINE_FEED e)

-- so many bytes more have room
pub room-left : (long capacity asked size count : ℕ) (piece : List ℕ) → long + asked ≤ capacity → asked ≡ size → count ≤ size
    → long + length (take count piece) ≤ capacity
room-left long capacity asked size count piece room asked-is few = let taken = length-take count piece in omega arith

-- where line feeds at the front are passed, and none of the bytes was searched
pub passed-searched : (start n searched kept : ℕ) (bytes whole : List ℕ) → kept ≡ length bytes → start + searched ≤ kept → whole ≡ bytes
    → n ≤ length (take (length whole - start) (drop start whole)) → searched ≡ 0
    → (start + n + searched ≤ kept) × IsLine (take searched (drop (start + n) bytes))
passed-searched start n searched kept bytes whole kept-is within whole-is few none =
    let left = ap length (all-left bytes whole (take (length whole - start) (drop start whole)) start whole-is refl) ∙ length-drop start bytes in
    (omega arith, subst (λ (k : ℕ). IsLine (take k (drop (start + n) bytes))) (sym none) no_bytes-line)
