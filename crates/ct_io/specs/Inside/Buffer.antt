-- Inside a line reader: the bytes that were read and not yet given out.
use Rattle.std.specs.Prelude.{ℕ, List, []}

-- the bytes that were read and not yet given out, and how many the memory keeps, also those given out and not yet dropped
pub record Buffer : Type 0 where
  pub bytes : List ℕ
  pub kept : ℕ

-- no bytes
abbrev pub empty_buffer : Buffer
empty_buffer = record { bytes = []; kept = 0 }
