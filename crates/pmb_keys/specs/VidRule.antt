-- What a profile says of the VID tables of a device.
use Rattle.std.specs.Prelude.{ℕ, Option, Some, None, Result, Ok, List, [], ◌∷◌, nat_eq, replicate}
use Rattle.std.specs.List.{list_all, list_any}
use Rattle.std.specs.Str.{bytes_eq}
use Rattle.toml.specs.Data.{Data, Items, Members, as_array, as_str, as_table}
use Rattle.pmb_vid.specs.Names.{named_table}
use Rattle.pmb_vid.specs.declared.table.VidTable.{VidTable}
use Rattle.pmb_command.specs.Parts.{VidParts, OfPages, OfTypes}
use Rattle.pmb_keys.specs.declared.fault.FaultKind.{FaultKind}
use Rattle.pmb_keys.specs.declared.fault.FaultKind.TheVariants as faults
use Rattle.pmb_keys.specs.Rules.{bind, decimals, each_of, item_count, keys_of, optional, or_fault, typed, unless}

-- the table that a text names
abbrev pub table_rule : Data → Result VidTable FaultKind
table_rule d = bind (typed as_str d) (λ text. or_fault faults.BadValue (named_table text))

-- a table for each page, by an array
abbrev pub tables_for : ℕ → Items → Result (List VidTable) FaultKind
tables_for pages items =
    bind (each_of table_rule items) (λ tables.
    bind (unless faults.BadValue (nat_eq (item_count items) pages)) (λ _.
    Ok tables))

-- the table of each type with these names, where there is one
abbrev pub types_from : List (List ℕ) → Members → Result (List (Option VidTable)) FaultKind
types_from [] ms = Ok []
types_from (name ∷ names) ms =
    bind (optional table_rule name ms) (λ table. bind (types_from names ms) (λ tables. Ok (table ∷ tables)))

-- tables by the 32 types, and no other keys
abbrev pub types_rule : Members → Result (List (Option VidTable)) FaultKind
types_rule ms =
    bind (unless faults.BadValue (list_all (λ key. list_any (bytes_eq key) decimals) (keys_of ms)))
    (λ _. types_from decimals ms)

-- by a value that may be an array or a table: an item for each page, a table for each type, or one table
-- for all pages
abbrev pub tables_of : ℕ → Data → Option Items → Option Members → Result VidParts FaultKind
tables_of pages d (Some items) members = bind (tables_for pages items) (λ tables. Ok (OfPages tables))
tables_of pages d None (Some ms) = bind (types_rule ms) (λ tables. Ok (OfTypes tables))
tables_of pages d None None = bind (table_rule d) (λ table. Ok (OfPages (replicate pages table)))

abbrev pub vid_rule : ℕ → Data → Result VidParts FaultKind
vid_rule pages d = tables_of pages d (as_array d) (as_table d)
