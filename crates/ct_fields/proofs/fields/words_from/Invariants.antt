use Rattle.std.proofs.Common.{◌≡◌, ◌+◌, length, drop}
use Rattle.ct_fields.specs.Reads.{texts_behind}
use Rattle.ct_fields.specs.Fields.{words_from}
use Rattle.ct_fields.proofs.Reserved.{HasRoom}
use Rattle.ct_fields.proofs.ReadLists.{words_on}
use Rattle.ct_fields.proofs.fields.words_from.Given as goal

abbrev pub invariant-loop-place : goal.invariant-loop-place
invariant-loop-place l =
    (words_on l.words.items (words_from l.n (l.first + l.place) (texts_behind (drop l.place l.texts))) ≡ words_from l.n l.first (texts_behind l.texts))
    × HasRoom l.words l.place (length l.texts)
