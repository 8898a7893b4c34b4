-- Codes that are listed for a lower bound.
use Rattle.std.specs.Prelude.{◌≡◌, List, length}
use Rattle.ct_words.specs.declared.entry.Entry.{Entry}
use Rattle.ct_words.specs.declared.claim.Side.TheVariants.{Lower}
use Rattle.ct_words.specs.Code.{CodeValue, IsSoundCode}
use Rattle.ct_rule_parts.specs.declared.support.Support.{Support}
use Rattle.ct_rules.specs.Derivation.{IsBest}
use Rattle.ct_rule_codes.specs.CodeEntry.{entry_of_code}

-- a code that is listed for an entry over supports: it is a code of the entry, its words ascend, and they are just as many as the best
-- lower bound says
pub record IsListedCode (supports : List Support) (e : Entry) (c : CodeValue) : Type 0 where
  pub entry : entry_of_code c ≡ e
  pub sound : IsSoundCode c
  pub best : IsBest supports (Lower, e) (length c.words)
