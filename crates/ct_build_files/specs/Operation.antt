-- The operations of a document of kind build: the steps by which a code is built.
use Rattle.std.specs.Prelude.{ℕ, ◌%◌, Bool, true, false, nat_le, ◌==◌, if◌then◌else◌, List, [], ◌∷◌, ◌++◌, Option, Some, None, is_some, is_none, codes}
use Rattle.std.specs.Str.{bytes_eq}
use Rattle.ct_build.specs.declared.step.Step.{Step}
use Rattle.ct_build.specs.declared.step.Step.TheVariants as step
use Rattle.ct_fields.specs.declared.field.FieldName.{FieldName}
use Rattle.ct_fields.specs.declared.field.FieldName.TheVariants as name
use Rattle.ct_build_files.specs.declared.operation.Operation.{Operation}
use Rattle.ct_build_files.specs.declared.operation.Operation.TheVariants.{Lengthen, AppendOne, Parity, Puncture, Shorten, Translate, Complement, Select, Uuv, Juxtapose, Trim}

-- the text of an operation
abbrev pub operation_text : Operation → List ℕ
operation_text Lengthen = codes "lengthen"
operation_text AppendOne = codes "append_one"
operation_text Parity = codes "parity"
operation_text Puncture = codes "puncture"
operation_text Shorten = codes "shorten"
operation_text Translate = codes "translate"
operation_text Complement = codes "complement"
operation_text Select = codes "select"
operation_text Uuv = codes "uuv"
operation_text Juxtapose = codes "juxtapose"
operation_text Trim = codes "trim"

-- the operations
abbrev pub operations : List Operation
operations =
    Lengthen ∷ AppendOne ∷ Parity ∷ Puncture ∷ Shorten ∷ Translate ∷ Complement ∷ Select ∷ Uuv ∷ Juxtapose ∷ Trim ∷ []

-- the one of these operations that has the text
abbrev pub named_among : List Operation → List ℕ → Option Operation
named_among [] text = None
named_among (o ∷ os) text = if bytes_eq text (operation_text o) then Some o else named_among os text

-- the operation that has the text
unfoldable pub operation_named : List ℕ → Option Operation
operation_named = named_among operations

-- the operation of a step
abbrev pub operation_of : Step → Operation
operation_of step.Lengthen = Lengthen
operation_of step.AppendOne = AppendOne
operation_of step.Parity = Parity
operation_of (step.Puncture places) = Puncture
operation_of (step.Shorten places digits) = Shorten
operation_of (step.Translate by) = Translate
operation_of step.Complement = Complement
operation_of (step.Select by) = Select
operation_of step.Uuv = Uuv
operation_of step.Juxtapose = Juxtapose
operation_of (step.Trim size) = Trim

-- whether the operation makes words of length n
abbrev pub makes_length : Operation → ℕ → Bool
makes_length Lengthen n = nat_le 2 n
makes_length AppendOne n = nat_le 2 n
makes_length Parity n = nat_le 2 n
makes_length Uuv n = n % 2 == 0
makes_length Juxtapose n = nat_le 2 n
makes_length operation n = true

-- whether the operation takes a stated weight, or none
abbrev pub takes_weight : Operation → Option ℕ → Bool
takes_weight Puncture w = is_none w
takes_weight Translate w = is_none w
takes_weight Select w = is_some w
takes_weight Uuv w = is_none w
takes_weight operation w = true

-- whether the operation takes another code beside the part
abbrev pub takes_other : Operation → Bool
takes_other Uuv = true
takes_other Juxtapose = true
takes_other operation = false

-- whether the step needs another code beside the part
abbrev pub needs_other : Step → Bool
needs_other step = takes_other (operation_of step)

-- the fields of the operation beside n, d, w, op, part and other
abbrev pub own_fields : Operation → List FieldName
own_fields Puncture = name.Places ∷ []
own_fields Shorten = name.Places ∷ name.Digits ∷ []
own_fields Translate = name.By ∷ []
own_fields Select = name.By ∷ []
own_fields Trim = name.Size ∷ []
own_fields operation = []

-- the fields of a build by the operation, up to its own
abbrev pub step_names : Operation → List FieldName
step_names operation = name.N ∷ name.D ∷ name.W ∷ name.Op ∷ own_fields operation

-- all fields of a build by the operation
abbrev pub build_names : Operation → List FieldName
build_names operation =
    if takes_other operation then (step_names operation ++ name.Part ∷ []) ++ name.Other ∷ [] else step_names operation ++ name.Part ∷ []
