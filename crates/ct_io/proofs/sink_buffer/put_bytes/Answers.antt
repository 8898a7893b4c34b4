use Rattle.std.proofs.Common.{◌≡◌, ℕ, ◌+◌, ◌≤◌, List, [], ◌++◌, Vec, Global, length, length-append, ap, arith}
use Rattle.std.proofs.lemmas.Result.{err_from_is_err_and}
use Rattle.std.specs.Prelude.{vec_len, vec_capacity}
use Rattle.ct_io.specs.declared.TheConstants.{MAX_GATHERED}
use Rattle.ct_io.specs.Inside.Room.{HasRoom}
use Rattle.ct_io.proofs.BufferedLemmas.{stops_first, is_put_through, puts_gathered, puts_after_writing}
use Rattle.ct_io.proofs.Copies.{appended}
use Rattle.ct_io.proofs.sink_buffer.put_bytes.Goals as goal

-- a vector that was emptied has the same space
emptied : (old new : Vec ℕ Global) → HasRoom old → new.items ≡ [] → vec_capacity new ≡ vec_capacity old → HasRoom new
emptied old new room none same = let gone = ap length none in (omega arith, omega (arith, room.1, same))

-- so that a text fits that is not too long
has-space : (old new : Vec ℕ Global) (text : List ℕ) → HasRoom old → new.items ≡ [] → vec_capacity new ≡ vec_capacity old → length text ≤ MAX_GATHERED
    → vec_len new + length text ≤ vec_capacity new
has-space old new text room none same short = let gone = ap length none in let size = new.ok.0 in omega (arith, room.1, same, gone, size, short)

-- and the space stays once it is put
refilled : (old none new : Vec ℕ Global) (text : List ℕ) → HasRoom old → none.items ≡ [] → vec_capacity none ≡ vec_capacity old
    → new.items ≡ none.items ++ text → vec_capacity none ≤ vec_capacity new → length text ≤ MAX_GATHERED → HasRoom new
refilled old none new text room empty same items more short =
    let gone = ap length empty in
    let size = ap length items in
    let parts = length-append none.items text in
    (omega (arith, gone, size, parts, short), omega (arith, room.1, same, more))

pub returns-in_err-write_gathered-clause-put : goal.returns-in_err-write_gathered-clause-put
returns-in_err-write_gathered-clause-put g c =
    let w = c.in_err-write_gathered.ensures in
    let p = err_from_is_err_and c.from_residual.result c.from_residual.ensures.1 in
    rw p.1 (stops_first _ _ _ c.write_gathered.new.gathered.items c.args.text.now _ _ w.prefix w.failed w.counted)

pub returns-clause-put : goal.returns-clause-put
returns-clause-put g c =
    let w = c.in_ok-write_gathered.ensures in
    let t = c.write_all.ensures in
    is_put_through _ _ _ _ _ _ _ _ _ _ w.written w.emptied w.counted t.counted t.written t.unwritten t.failed

pub returns-then-len-text-le-MAX_GATHERED-clause-put : goal.returns-then-len-text-le-MAX_GATHERED-clause-put
returns-then-len-text-le-MAX_GATHERED-clause-put g c =
    let gathered = c.args.gathered.now.items in
    puts_gathered _ gathered c.extend_from_slice.new.self.items c.args.text.now _
    (appended gathered c.extend_from_slice.new.self.items c.args.text.now c.extend_from_slice.result c.unwrap.result c.unwrap.ensures
    c.extend_from_slice.ensures.items)

pub unwrap-requires-then-text-le-MAX_GATHERED : goal.unwrap-requires-then-text-le-MAX_GATHERED
unwrap-requires-then-text-le-MAX_GATHERED g c =
    let w = c.in_ok-write_gathered.ensures in
    c.extend_from_slice-then-text-le-MAX_GATHERED.ensures.succeeds
    (has-space c.args.gathered.now c.write_gathered.new.gathered c.args.text.now c.requires w.emptied w.room c.if-text-le-MAX_GATHERED.true)

pub returns-then-text-le-MAX_GATHERED-clause-put : goal.returns-then-text-le-MAX_GATHERED-clause-put
returns-then-text-le-MAX_GATHERED-clause-put g c =
    let w = c.in_ok-write_gathered.ensures in
    let none = c.write_gathered.new.gathered.items in
    let new = c.extend_from_slice-then-text-le-MAX_GATHERED in
    puts_after_writing _ _ c.args.gathered.now.items none new.new.self.items c.args.text.now _ _ w.written w.emptied w.counted
    (appended none new.new.self.items c.args.text.now new.result c.unwrap-then-text-le-MAX_GATHERED.result
    c.unwrap-then-text-le-MAX_GATHERED.ensures new.ensures.items)

pub returns-then-text-le-MAX_GATHERED-clause-room : goal.returns-then-text-le-MAX_GATHERED-clause-room
returns-then-text-le-MAX_GATHERED-clause-room g c =
    let w = c.in_ok-write_gathered.ensures in
    let new = c.extend_from_slice-then-text-le-MAX_GATHERED in
    let items =
    appended c.write_gathered.new.gathered.items new.new.self.items c.args.text.now new.result c.unwrap-then-text-le-MAX_GATHERED.result
    c.unwrap-then-text-le-MAX_GATHERED.ensures new.ensures.items in
    refilled c.args.gathered.now c.write_gathered.new.gathered new.new.self c.args.text.now c.requires w.emptied w.room items new.ensures.capacity
    c.if-text-le-MAX_GATHERED.true

pub returns-clause-room : goal.returns-clause-room
returns-clause-room g c =
    let w = c.in_ok-write_gathered.ensures in
    emptied c.args.gathered.now c.write_gathered.new.gathered c.requires w.emptied w.room
