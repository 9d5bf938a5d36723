-- What the keys of a profile say that list addresses: those of devices that speak no PMBus, and the other
-- ones at which a device's part takes what is written.
use Rattle.std.specs.Prelude.{ℕ, Option, Some, None, Result, Ok, List, [], ◌∷◌, codes, filter, nat_eq}
use Rattle.std.specs.List.{list_any, range_with_len}
use Rattle.std.specs.Option.{option_and_then}
use Rattle.toml.specs.Data.{Data, Items, no_items, item, as_array, as_integer, as_table, get_member}
use Rattle.pmb_keys.specs.declared.fault.FaultKind.{FaultKind}
use Rattle.pmb_keys.specs.declared.fault.FaultKind.TheVariants as faults
use Rattle.pmb_keys.specs.Rules.{bind, each_of, natural_within, or_fault, typed, unless}

-- the addresses of 7 bits among some numbers, ascending and each once
unfoldable pub addresses_among : List ℕ → List ℕ
addresses_among numbers = filter (λ address. list_any (nat_eq address) numbers) (range_with_len 0 128)

-- ---- those that a profile ignores

-- an address of 7 bits
abbrev pub listed_address : Data → Result ℕ FaultKind
listed_address d = bind (typed as_integer d) (λ z. or_fault faults.BadValue (natural_within 0 127 z))

-- the addresses that an array lists
abbrev pub ignore_rule : Data → Result (List ℕ) FaultKind
ignore_rule d =
    bind (typed as_array d) (λ items.
    bind (each_of listed_address items) (λ addresses.
    Ok (addresses_among addresses)))

-- ---- those at which a device's part takes what is written, too

-- the address that the table of a device names, if it is of 7 bits; a value that is no table names none
abbrev pub named_address : Data → Option ℕ
named_address d =
    option_and_then (λ ms.
    option_and_then (λ address.
    option_and_then (natural_within 0 127) (as_integer address)) (get_member (codes "address") ms)) (as_table d)

-- further numbers after one, where there is one
abbrev pub after_named : Option ℕ → List ℕ → List ℕ
after_named None numbers = numbers
after_named (Some number) numbers = number ∷ numbers

-- the addresses that the tables of an array name, in their order
abbrev pub each_named : Items → List ℕ
each_named no_items = []
each_named (item d ds) = after_named (named_address d) (each_named ds)

-- and ascending, each once
abbrev pub named_addresses : Items → List ℕ
named_addresses ds = addresses_among (each_named ds)

-- an address of 7 bits that the table of a device names
abbrev pub also_address : List ℕ → Data → Result ℕ FaultKind
also_address named d =
    bind (listed_address d) (λ address.
    bind (unless faults.BadValue (list_any (nat_eq address) named)) (λ _.
    Ok address))

-- such addresses that an array lists
abbrev pub also_rule : List ℕ → Data → Result (List ℕ) FaultKind
also_rule named d =
    bind (typed as_array d) (λ items.
    bind (each_of (also_address named) items) (λ addresses.
    Ok (addresses_among addresses)))
