-- Why evidence makes no piece, whatever document states it.
use Rattle.std.specs.Prelude.{◌≡◌, ℕ, List, Err}
use Rattle.ct_kind.specs.declared.evidence.Evidence.{Evidence}
use Rattle.ct_kind.specs.declared.fault.SubmitFault.{SubmitFault}
use Rattle.ct_kind.specs.Named.{NamedCode}
use Rattle.ct_piece.specs.Inside.Making.{made_of, stored_beside}

-- whatever document states the evidence, it is refused for this reason over these codes and beside so many stored words
abbrev pub IsRefused : ℕ → List NamedCode → Evidence → SubmitFault → Type 0
IsRefused stored known evidence reason =
    (id document : List ℕ) (cites : List (List ℕ)) → stored_beside stored (made_of known id document (record { evidence = evidence; cites = cites })) ≡ Err reason
