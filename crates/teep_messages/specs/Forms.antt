-- What an item stands for as a value of an option or a part: the value, or Shape.
use Rattle.std.specs.Prelude.{ℕ, List, [], ◌∷◌, Option, Result, Ok, Err}
use Rattle.cbor_core.specs.declared.item.Item.{Item}
use Rattle.cbor_core.specs.declared.item.Pair.{Pair}
use Rattle.cbor_core.specs.Views.{unsigned_of, truth_of}
use Rattle.cbor_fields.specs.declared.fault.FormFault.{FormFault}
use Rattle.cbor_fields.specs.declared.fault.FormFault.TheVariants.{Shape}
use Rattle.cbor_fields.specs.Views.{id_of, list_of}
use Rattle.item_codec.specs.Answers.{value_of}
use Rattle.item_codec.specs.Fields.{shaped, part, in_map, in_array}
use Rattle.item_codec.specs.Ordered.{field, needed, no_more}
use Rattle.teep_messages.specs.declared.reported.Reported.{Reported}
use Rattle.teep_messages.specs.declared.requested.Requested.{Requested}
use Rattle.teep_messages.specs.declared.operation.Operation.{Operation}

-- a manifest that an agent has, by its two fields
abbrev pub reported_in : List Pair → Result Reported FormFault
reported_in ps =
    needed (shaped Shape id_of) Shape 16 ps (λ id ps.
    needed (shaped Shape unsigned_of) Shape 17 ps (λ sequence ps.
    no_more (λ _. Shape) ps (record { id = id; sequence = sequence })))

-- a map {16: id, 17: sequence}
abbrev pub reported_of : Item → Option Reported
reported_of x = value_of (in_map Shape reported_in x)

-- a manifest that an agent asks for, by its fields
abbrev pub requested_in : List Pair → Result Requested FormFault
requested_in ps =
    needed (shaped Shape id_of) Shape 16 ps (λ id ps.
    field (shaped Shape unsigned_of) 17 ps (λ sequence ps.
    field (shaped Shape truth_of) 18 ps (λ flag ps.
    no_more (λ _. Shape) ps (record { id = id; sequence = sequence; flag = flag }))))

-- a map {16: id}, with 17 (unsigned) and 18 (true or false) where wanted
abbrev pub requested_of : Item → Option Requested
requested_of x = value_of (in_map Shape requested_in x)

-- an operation by its two members
abbrev pub operation_in : List Item → Result Operation FormFault
operation_in (tag ∷ alg ∷ []) = part (shaped Shape unsigned_of) tag (λ number. Ok (record { tag = number; alg = alg }))
operation_in _ = Err Shape

-- an array [tag, alg] with an unsigned tag and any item
abbrev pub operation_of : Item → Option Operation
operation_of x = value_of (in_array Shape operation_in x)

-- an array of operations
abbrev pub suite_of : Item → Option (List Operation)
suite_of = list_of operation_of

-- members, where there are any
abbrev pub profile_in : List Item → Result (List Item) FormFault
profile_in [] = Err Shape
profile_in (x ∷ xs) = Ok (x ∷ xs)

-- an array that is not empty, of any items
abbrev pub profile_of : Item → Option (List Item)
profile_of x = value_of (in_array Shape profile_in x)
