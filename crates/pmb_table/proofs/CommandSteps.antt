-- One more table of a device, and all that are left: for the loops of `read_devices` and
-- `read_commands`. The tables from a place on give what the one there gives, and
-- then those after it.
use Rattle.std.proofs.Common.{◌≡◌, ℕ, ◌+◌, ◌<◌, List, [], ◌∷◌, ◌++◌, length, drop, get_or, Result, Ok, Err, sym, ap}
use Rattle.std.proofs.Common.{◌∙◌}
use Rattle.toml.specs.Data.{Data, Items, item}
use Rattle.toml.specs.View.{view, items_view}
use Rattle.toml.specs.declared.value.Value.{Value}
use Rattle.toml.proofs.Views.{items_view-drop}
use Rattle.pmb_table.specs.declared.fault.ProfileFault.{ProfileFault}
use Rattle.pmb_command.specs.Parts.{CommandParts}
use Rattle.pmb_keys.specs.Rules.{bind}
use Rattle.pmb_keys.specs.CommandRules.{command_of}
use Rattle.pmb_table.specs.machine.CommandMap.{Taken, after_one}
use Rattle.pmb_table.specs.Profile.{at_command, commands_after, placed, put}

-- the values from a place on are the one there and those after it
pub item_at : (vs : List Value) (i : ℕ) (v : Value) → i < length vs → v ≡ get_or vs i v
    → items_view (drop i vs) ≡ item (view v) (items_view (drop (i + 1) vs))
item_at vs i v within is = items_view-drop vs i v within ∙ ap (λ w. item (view w) (items_view (drop (i + 1) vs)))
    (sym is)

-- a fault in a table is that of all that are left
pub fault_of_one : (n pages : ℕ) (taken : List ℕ) (commands : List CommandParts) (d : Data) (ds : Items)
    (fault : ProfileFault) → Err fault ≡ after_one n pages (taken, commands) d
    → Err fault ≡ commands_after n pages taken commands (item d ds)
fault_of_one n pages taken commands d ds fault = by (placed (at_command n (length taken)) (command_of pages taken d))
  where
    by : (r : Result CommandParts ProfileFault)
        → ◌≡◌ {A = Result Taken ProfileFault} (Err fault)
        (bind r (λ c. Ok (taken ++ c.entry.code ∷ [], put c commands)))
        → Err fault ≡ bind r (λ c. commands_after n pages (taken ++ c.entry.code ∷ []) (put c commands) ds)
    by (Ok c) e = cc
    by (Err f) e = cc
