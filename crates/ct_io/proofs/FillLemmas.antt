-- What a read of a piece comes to, from what is known of the bytes that it read.
use Rattle.std.proofs.Common.{◌≡◌, ℕ, ◌≤◌, List, ◌++◌, Option, Result, Ok, Err, length, take, drop, length-append, length-take, ap, ◌∙◌, arith}
use Rattle.std.specs.Io.KnownBytes.{Consumes, IsAtEnd, Keeps}
use Rattle.std.proofs.Math.Seq.{take-append_seam}
use Rattle.std.proofs.lemmas.List.{drop-append-le}
use Rattle.ct_io.specs.declared.line_fault.LineFault.{LineFault}
use Rattle.ct_io.specs.declared.line_fault.LineFault.TheVariants.{ReadFault, TooLong}
use Rattle.ct_io.specs.Faults.{Rose}
use Rattle.ct_io.specs.Inside.Buffer.{Buffer}
use Rattle.ct_io.specs.Inside.Filling.{Fills}
use Rattle.ct_io.proofs.HeldLemmas.{left-within}

no_fault : (n : ℕ) (fault : LineFault) → ◌≡◌ {A = Result ℕ LineFault} (Ok n) (Err fault) → ⊥
no_fault n fault e = cc

no_size : (t : ℕ) → ◌≡◌ {A = Result ℕ LineFault} (Err ReadFault) (Err (TooLong t)) → ⊥
no_size t e = cc

-- the piece holds what was read
pub piece-read : (into rest piece : List ℕ) (size : ℕ) → size ≡ length into → piece ≡ take size (into ++ rest) → piece ≡ into
piece-read into rest piece size size-is is = is ∙ ap (λ n. take n (into ++ rest)) size-is ∙ take-append_seam into rest

-- and the front of it that was read has its size
pub front-long : (piece : List ℕ) (count : ℕ) → count ≤ length piece → length (take count piece) ≡ count
front-long piece count within = let size = length-take count piece in omega arith

module _ (old : Buffer) (bytes new : List ℕ) (start kept piece : ℕ) (before after : Option (List ℕ)) (faults faults' : ℕ)
    (within : start ≤ length bytes) (held : drop start bytes ≡ old.bytes) (size : length bytes ≡ length old.bytes) (kept-is : kept ≡ length new)
    (counted : faults ≤ faults') where
  -- the bytes that were held, moved to the front, and those that were read after them
  pub fills-read : (more : List ℕ) (count : ℕ) → new ≡ bytes ++ more → Consumes before after more → length more ≡ count → count ≤ piece
      → (count ≡ 0 → IsAtEnd after) → Fills old (record { bytes = drop start new; kept = kept }) piece before after faults faults' (Ok count)
  fills-read more count new-is consumes few most end =
      let are : drop start new ≡ old.bytes ++ more = ap (drop start) new-is ∙ drop-append-le start bytes more within ∙ ap (λ l. l ++ more) held in
      let all = ap length new-is ∙ length-append bytes more in
      let left = ap length are ∙ length-append old.bytes more in
      record {
        read = (more, consumes, are, few, end);
        within = most;
        same = tt;
        kept = omega arith;
        all_kept = left-within start kept new kept-is;
        untaken = tt;
        failed = λ e. absurd (no_fault count ReadFault e);
        short = λ t. no_fault count (TooLong t);
        counted = counted;
      }

  -- the same where the read failed
  pub fills-failed : new ≡ bytes → Keeps before after → Rose faults faults'
      → Fills old (record { bytes = drop start new; kept = kept }) piece before after faults faults' (Err ReadFault)
  fills-failed new-is keeps rose =
      let are : drop start new ≡ old.bytes = ap (drop start) new-is ∙ held in
      let all = ap length new-is in
      let left = ap length are in
      record {
        read = tt;
        within = tt;
        same = are;
        kept = omega arith;
        all_kept = left-within start kept new kept-is;
        untaken = keeps;
        failed = λ e. rose;
        short = no_size;
        counted = counted;
      }
