use Rattle.std.proofs.Common.{◌≡◌, ◌⊎◌, inl, inr, ℕ, List, length}
use Rattle.ct_words.specs.Code.{CodeValue}
use Rattle.ct_words.specs.declared.entry.Entry.{Entry}
use Rattle.ct_piece.specs.Supports.{supports_of}
use Rattle.ct_rule_parts.specs.declared.support.Support.{Support}
use Rattle.ct_rules.specs.declared.rule.Rule.{Rule}
use Rattle.ct_rules.specs.declared.rule.Rule.TheVariants.{L3, L4, L5, L6, L7, L9, L11, M3, M4, M5, M6, M7, M8}
use Rattle.ct_rules.specs.Rule.{row_of, parts_over}
use Rattle.ct_list.specs.Inside.Rows.{AreParts}
use Rattle.ct_list.proofs.Making.{as_many}
use Rattle.ct_list.proofs.PartCodes.{lengthened_room, lengthened_made, parity_room, parity_made, one_more_room, one_more_made, half_long, half_made, with_one_long, with_one_made, with_zero_long, with_zero_zeros, with_zero_made, near_count, near_sums_made, far_count, far_lengths, side_by_side_limits, opposite_made, disjoint_made, disjoint_limits, punctured_limits, near_room, nearer_weight, one_word_made, class_defined, class_made}
use Rattle.ct_list.proofs.RowCodes.{punctured_made, far_sums_made, juxtaposition_made, complemented_made}
use Rattle.ct_list.proofs.rows.code_by_rule.Goals as goal

lengthened : (supports : List Support) (r : Rule) (e : Entry) (codes : List CodeValue) → (r ≡ L3) ⊎ (r ≡ M3) → AreParts (parts_over supports r) e codes
    → length codes ≡ 1
unfolding row_of
lengthened supports r e codes (inl is) parts = as_many supports r L3 e codes is parts
lengthened supports r e codes (inr is) parts = as_many supports r M3 e codes is parts

pub only-requires : goal.only-requires
only-requires c = lengthened (supports_of c.args.ledger.now.pieces) c.args.rule c.args.entry c.args.codes.items c.in-L3.is c.requires.parts

nearer : (supports : List Support) (r : Rule) (e : Entry) (codes : List CodeValue) → (r ≡ L4) ⊎ (((w : ℕ) × (r ≡ L9 w)) ⊎ (r ≡ M8))
    → AreParts (parts_over supports r) e codes → length codes ≡ 1
unfolding row_of
nearer supports r e codes (inl is) parts = as_many supports r L4 e codes is parts
nearer supports r e codes (inr (inl (w, is))) parts = as_many supports r (L9 w) e codes is parts
nearer supports r e codes (inr (inr is)) parts = as_many supports r M8 e codes is parts

pub only-requires-in-L4 : goal.only-requires-in-L4
only-requires-in-L4 c = nearer (supports_of c.args.ledger.now.pieces) c.args.rule c.args.entry c.args.codes.items c.in-L4.is c.requires.parts

pub only-requires-in-L5 : goal.only-requires-in-L5
unfolding row_of
only-requires-in-L5 c = as_many (supports_of c.args.ledger.now.pieces) c.args.rule L5 c.args.entry c.args.codes.items c.in-L5.is c.requires.parts

pub only-requires-in-L6 : goal.only-requires-in-L6
unfolding row_of
only-requires-in-L6 c = as_many (supports_of c.args.ledger.now.pieces) c.args.rule L6 c.args.entry c.args.codes.items c.in-L6.is c.requires.parts

pub only-requires-in-L7 : goal.only-requires-in-L7
unfolding row_of
only-requires-in-L7 c = as_many (supports_of c.args.ledger.now.pieces) c.args.rule L7 c.args.entry c.args.codes.items c.in-L7.is c.requires.parts

pub only-requires-in-M4 : goal.only-requires-in-M4
unfolding row_of
only-requires-in-M4 c = as_many (supports_of c.args.ledger.now.pieces) c.args.rule M4 c.args.entry c.args.codes.items c.in-M4.is c.requires.parts

pub only-requires-in-M5 : goal.only-requires-in-M5
unfolding row_of
only-requires-in-M5 c = as_many (supports_of c.args.ledger.now.pieces) c.args.rule M5 c.args.entry c.args.codes.items c.in-M5.is c.requires.parts

pub only-requires-in-M6 : goal.only-requires-in-M6
unfolding row_of
only-requires-in-M6 c = as_many (supports_of c.args.ledger.now.pieces) c.args.rule M6 c.args.entry c.args.codes.items c.in-M6.is c.requires.parts

pub only-requires-in-M7 : goal.only-requires-in-M7
unfolding row_of
only-requires-in-M7 c = as_many (supports_of c.args.ledger.now.pieces) c.args.rule M7 c.args.entry c.args.codes.items c.in-M7.is c.requires.parts

pub both-first-requires-in-L11 : goal.both-first-requires-in-L11
unfolding row_of
both-first-requires-in-L11 c = as_many (supports_of c.args.ledger.now.pieces) c.args.rule (L11 c.in-L11.field-0 c.in-L11.field-1) c.args.entry c.args.codes.items c.in-L11.is c.requires.parts

pub returns-in-L6-clause-code : goal.returns-in-L6-clause-code
returns-in-L6-clause-code c =
    let made = c.puncture.ensures in
    punctured_made (supports_of c.args.ledger.now.pieces) c.args.rule c.args.entry c.args.codes.items c.only-in-L6.result c.puncture.result
    c.in-L6.is c.requires.parts c.only-in-L6.ensures made.n made.d made.w made.words

pub returns-in-L8-2-clause-code : goal.returns-in-L8-2-clause-code
returns-in-L8-2-clause-code c =
    let made = c.uuv.ensures in
    far_sums_made (supports_of c.args.ledger.now.pieces) c.args.rule c.args.entry c.args.codes.items c.both-first.result.0 c.both-first.result.1 c.uuv.result
    c.in-L8-2.is c.if-d-lt5.false c.requires.parts c.both-first.ensures made.n made.d made.w made.words

pub returns-in-L11-clause-code : goal.returns-in-L11-clause-code
returns-in-L11-clause-code c =
    let made = c.juxtapose.ensures in
    juxtaposition_made (supports_of c.args.ledger.now.pieces) c.args.rule c.in-L11.field-0 c.in-L11.field-1 c.args.entry c.args.codes.items
    c.both-first-in-L11.result.0 c.both-first-in-L11.result.1 c.juxtapose.result
    c.in-L11.is c.requires.parts c.both-first-in-L11.ensures made.n made.d made.w made.words

pub returns-in-M7-clause-code : goal.returns-in-M7-clause-code
returns-in-M7-clause-code c =
    let made = c.complement.ensures in
    complemented_made (supports_of c.args.ledger.now.pieces) c.args.rule c.args.entry c.args.codes.items c.only-in-M7.result c.complement.result
    c.in-M7.is c.requires.parts c.only-in-M7.ensures made.n made.d made.w made.words

pub lengthen-requires : goal.lengthen-requires
lengthen-requires c =
    lengthened_room (supports_of c.args.ledger.now.pieces) c.args.rule c.args.entry c.args.codes.items c.only.result c.in-L3.is c.requires.parts c.only.ensures

pub parity-requires : goal.parity-requires
parity-requires c =
    parity_room (supports_of c.args.ledger.now.pieces) c.args.rule c.args.entry c.args.codes.items c.only-in-L5.result
    c.in-L5.is c.requires.parts c.only-in-L5.ensures

pub append_one-requires : goal.append_one-requires
append_one-requires c =
    one_more_room (supports_of c.args.ledger.now.pieces) c.args.rule c.args.entry c.args.codes.items c.only-in-M4.result
    c.in-M4.is c.requires.parts c.only-in-M4.ensures

pub half-requires-clause-long : goal.half-requires-clause-long
half-requires-clause-long c =
    half_long (supports_of c.args.ledger.now.pieces) c.args.rule c.args.entry c.args.codes.items c.only-in-L7.result
    c.in-L7.is c.requires.parts c.only-in-L7.ensures

pub with_one-requires-clause-long : goal.with_one-requires-clause-long
with_one-requires-clause-long c =
    with_one_long (supports_of c.args.ledger.now.pieces) c.args.rule c.args.entry c.args.codes.items c.only-in-M5.result
    c.in-M5.is c.requires.parts c.only-in-M5.ensures

pub with_zero-requires-clause-long : goal.with_zero-requires-clause-long
with_zero-requires-clause-long c =
    with_zero_long (supports_of c.args.ledger.now.pieces) c.args.rule c.args.entry c.args.codes.items c.only-in-M6.result
    c.in-M6.is c.requires.parts c.only-in-M6.ensures

pub with_zero-requires-clause-zeros : goal.with_zero-requires-clause-zeros
with_zero-requires-clause-zeros c =
    with_zero_zeros (supports_of c.args.ledger.now.pieces) c.args.rule c.args.entry c.args.codes.items c.only-in-M6.result c.unwrap_or-in-M6.result
    c.in-M6.is c.requires.parts c.only-in-M6.ensures
    c.unwrap_or-in-M6.ensures

pub only-requires-in-L8 : goal.only-requires-in-L8
only-requires-in-L8 c =
    near_count (supports_of c.args.ledger.now.pieces) c.args.rule c.args.entry c.args.codes.items c.in-L8.is c.if-d-lt5.true c.requires.parts

pub both-first-requires : goal.both-first-requires
both-first-requires c =
    far_count (supports_of c.args.ledger.now.pieces) c.args.rule c.args.entry c.args.codes.items c.in-L8-2.is c.if-d-lt5.false c.requires.parts

pub uuv-requires-clause-lengths : goal.uuv-requires-clause-lengths
uuv-requires-clause-lengths c =
    (far_lengths (supports_of c.args.ledger.now.pieces) c.args.rule c.args.entry c.args.codes.items c.both-first.result.0 c.both-first.result.1
    c.in-L8-2.is c.if-d-lt5.false
    c.requires.parts c.both-first.ensures).0

pub uuv-requires-clause-room : goal.uuv-requires-clause-room
uuv-requires-clause-room c =
    (far_lengths (supports_of c.args.ledger.now.pieces) c.args.rule c.args.entry c.args.codes.items c.both-first.result.0 c.both-first.result.1
    c.in-L8-2.is c.if-d-lt5.false
    c.requires.parts c.both-first.ensures).1

pub juxtapose-requires-clause-lengths : goal.juxtapose-requires-clause-lengths
juxtapose-requires-clause-lengths c =
    (side_by_side_limits (supports_of c.args.ledger.now.pieces) c.args.rule c.in-L11.field-0 c.in-L11.field-1 c.args.entry c.args.codes.items
    c.both-first-in-L11.result.0 c.both-first-in-L11.result.1 c.in-L11.is c.requires.parts c.both-first-in-L11.ensures).0

pub juxtapose-requires-clause-distances : goal.juxtapose-requires-clause-distances
juxtapose-requires-clause-distances c =
    (side_by_side_limits (supports_of c.args.ledger.now.pieces) c.args.rule c.in-L11.field-0 c.in-L11.field-1 c.args.entry c.args.codes.items
    c.both-first-in-L11.result.0 c.both-first-in-L11.result.1 c.in-L11.is c.requires.parts c.both-first-in-L11.ensures).1

pub returns-in-L3-clause-code : goal.returns-in-L3-clause-code
returns-in-L3-clause-code c =
    let made = c.lengthen.ensures in
    lengthened_made (supports_of c.args.ledger.now.pieces) c.args.rule c.args.entry c.args.codes.items c.only.result c.lengthen.result
    c.in-L3.is c.requires.parts c.only.ensures made.n made.d made.w made.words

pub returns-in-L5-clause-code : goal.returns-in-L5-clause-code
returns-in-L5-clause-code c =
    let made = c.parity.ensures in
    parity_made (supports_of c.args.ledger.now.pieces) c.args.rule c.args.entry c.args.codes.items c.only-in-L5.result c.parity.result
    c.in-L5.is c.requires.parts c.only-in-L5.ensures made.n made.d made.w made.words

pub returns-in-M4-clause-code : goal.returns-in-M4-clause-code
returns-in-M4-clause-code c =
    let made = c.append_one.ensures in
    one_more_made (supports_of c.args.ledger.now.pieces) c.args.rule c.args.entry c.args.codes.items c.only-in-M4.result c.append_one.result
    c.in-M4.is c.requires.parts c.only-in-M4.ensures made.n made.d made.w made.words

pub returns-in-L7-clause-code : goal.returns-in-L7-clause-code
returns-in-L7-clause-code c =
    let made = c.half.ensures in
    half_made (supports_of c.args.ledger.now.pieces) c.args.rule c.args.entry c.args.codes.items c.only-in-L7.result c.half.result
    c.in-L7.is c.requires.parts c.only-in-L7.ensures made.n made.d made.w made.size

pub returns-in-M5-clause-code : goal.returns-in-M5-clause-code
returns-in-M5-clause-code c =
    let made = c.with_one.ensures in
    with_one_made (supports_of c.args.ledger.now.pieces) c.args.rule c.args.entry c.args.codes.items c.only-in-M5.result c.with_one.result c.unwrap_or.result
    c.in-M5.is c.requires.parts c.only-in-M5.ensures c.unwrap_or.ensures made.n made.d made.w made.size

pub returns-in-M6-clause-code : goal.returns-in-M6-clause-code
returns-in-M6-clause-code c =
    let made = c.with_zero.ensures in
    with_zero_made (supports_of c.args.ledger.now.pieces) c.args.rule c.args.entry c.args.codes.items
    c.only-in-M6.result c.with_zero.result c.unwrap_or-in-M6.result
    c.in-M6.is c.requires.parts c.only-in-M6.ensures c.unwrap_or-in-M6.ensures made.n made.d made.w made.size

pub returns-in-L8-clause-code : goal.returns-in-L8-clause-code
returns-in-L8-clause-code c =
    let made = c.sums_with_even_words.ensures in
    near_sums_made (supports_of c.args.ledger.now.pieces) c.args.rule c.args.entry c.args.codes.items c.only-in-L8.result c.sums_with_even_words.result
    c.in-L8.is c.if-d-lt5.true c.requires.parts c.only-in-L8.ensures made.n made.d made.w made.size

pub returns-in-L2-clause-code : goal.returns-in-L2-clause-code
returns-in-L2-clause-code c =
    let made = c.opposite_words.ensures in
    opposite_made (supports_of c.args.ledger.now.pieces) c.args.rule c.args.entry c.args.codes.items c.opposite_words.result
    c.in-L2.is c.requires.parts made.n made.d made.w made.size

pub returns-in-M2-clause-code : goal.returns-in-M2-clause-code
returns-in-M2-clause-code c =
    let made = c.disjoint_words.ensures in
    disjoint_made (supports_of c.args.ledger.now.pieces) c.args.rule c.args.entry c.args.codes.items c.disjoint_words.result
    c.in-M2.is c.requires.parts made.n made.d made.w made.size

pub read_as-requires-clause-weight : goal.read_as-requires-clause-weight
read_as-requires-clause-weight c =
    nearer_weight (supports_of c.args.ledger.now.pieces) c.args.rule c.args.entry c.args.codes.items c.only-in-L4.result
    c.in-L4.is c.requires.parts c.only-in-L4.ensures

pub puncture-requires-clause-some : goal.puncture-requires-clause-some
puncture-requires-clause-some c =
    (punctured_limits (supports_of c.args.ledger.now.pieces) c.args.rule c.args.entry c.args.codes.items c.only-in-L6.result
    c.in-L6.is c.requires.parts c.only-in-L6.ensures).0

pub puncture-requires-clause-few : goal.puncture-requires-clause-few
puncture-requires-clause-few c =
    (punctured_limits (supports_of c.args.ledger.now.pieces) c.args.rule c.args.entry c.args.codes.items c.only-in-L6.result
    c.in-L6.is c.requires.parts c.only-in-L6.ensures).1

pub sums_with_even_words-requires : goal.sums_with_even_words-requires
sums_with_even_words-requires c =
    near_room (supports_of c.args.ledger.now.pieces) c.args.rule c.args.entry c.args.codes.items c.only-in-L8.result
    c.in-L8.is c.if-d-lt5.true c.requires.parts c.only-in-L8.ensures

pub disjoint_words-requires-clause-weight : goal.disjoint_words-requires-clause-weight
disjoint_words-requires-clause-weight c =
    disjoint_limits (supports_of c.args.ledger.now.pieces) c.args.rule c.args.entry c.args.codes.items c.in-M2.is c.requires.parts

pub sum_class-requires-clause-defined : goal.sum_class-requires-clause-defined
sum_class-requires-clause-defined c =
    class_defined (supports_of c.args.ledger.now.pieces) c.args.rule c.in-M9.r c.args.entry c.args.codes.items c.in-M9.is c.requires.parts

pub returns-in-L1-clause-code : goal.returns-in-L1-clause-code
returns-in-L1-clause-code c =
    one_word_made (supports_of c.args.ledger.now.pieces) c.args.rule c.args.entry c.args.codes.items c.one_word.result
    c.in-L1.is c.one_word.ensures.entry c.one_word.ensures.size

pub returns-in-M9-clause-code : goal.returns-in-M9-clause-code
returns-in-M9-clause-code c =
    class_made (supports_of c.args.ledger.now.pieces) c.args.rule c.in-M9.r c.args.entry c.args.codes.items c.sum_class.result c.in-M9.is
    c.sum_class.ensures.entry c.sum_class.ensures.size
