-- What is true of the commands of a device, and what contracts see of the map that holds them.
use Rattle.std.specs.Prelude.{◌≡◌, ℕ, ◌<◌, None, List, [], ◌∷◌, ◌++◌, length, map, nat_eq, Result, Ok}
use Rattle.std.specs.List.{AllByRecursion, IsDistinct}
use Rattle.pmb_command.specs.Bus.{HasItemForEach, IsCommand}
use Rattle.pmb_command.specs.Parts.{CommandParts}
use Rattle.pmb_keys.specs.declared.command.Command.{Command}
use Rattle.pmb_keys.specs.CommandView.{command_parts}
use Rattle.toml.specs.Data.{Data}
use Rattle.pmb_table.specs.declared.fault.ProfileFault.{ProfileFault}
use Rattle.pmb_keys.specs.Rules.{bind}
use Rattle.pmb_keys.specs.CommandRules.{command_of}
use Rattle.pmb_table.specs.Profile.{at_command, placed, put}
use Rattle.pmb_table.specs.machine.Places.{ArePlaces}

-- the commands of a map's entries, in their order
abbrev pub commands_view : List (ℕ × Command) → List CommandParts
commands_view entries = map (λ e. command_parts e.1) entries

-- each command is held at its code
abbrev pub AreAtTheirCodes : List (ℕ × Command) → Type 0
AreAtTheirCodes entries = AllByRecursion (λ e. e.1.entry.code ≡ e.0) entries

-- the codes of commands, in their order
abbrev pub codes_of : List CommandParts → List ℕ
codes_of commands = map (λ c. c.entry.code) commands

-- a command without what takes memory: the bytes that it has at first, and the names of its bits
abbrev pub bare_command : CommandParts → CommandParts
bare_command c = record { entry = c.entry; initial = None; unit = c.unit; bits = []; phased = c.phased }

-- and the entry of a map for it
abbrev pub bare_entry : ℕ × Command → ℕ × Command
bare_entry e = (
  e.0,
  record { entry = e.1.entry; initial = None; unit = e.1.unit; bits = None; phased = e.1.phased },
)

-- a command that a device with so many pages may have
pub record IsCommandOf (pages : ℕ) (c : CommandParts) : Type 0 where
  pub command : IsCommand c
  pub items : HasItemForEach pages c.initial

-- codes of commands, none of them twice
abbrev pub AreTaken : List ℕ → Type 0
AreTaken codes = IsDistinct nat_eq codes × AllByRecursion (λ code. code < 256) codes

-- Commands have codes of their own, at which a map holds them, and each is found by its code.
pub record IsFoundByCode (entries : List (ℕ × Command)) (kept : List ℕ) : Type 0 where
  pub held : AreAtTheirCodes entries
  pub taken : AreTaken (codes_of (commands_view entries))
  pub places : ArePlaces kept (codes_of (commands_view entries))

-- the codes of the tables of a device so far, and its commands
abbrev pub Taken : Type 0
Taken = List ℕ × List CommandParts

-- those after one more table
abbrev pub after_one : ℕ → ℕ → Taken → Data → Result Taken ProfileFault
after_one n pages t d = bind (placed (at_command n (length t.0)) (command_of pages t.0 d))
    (λ c. Ok (t.0 ++ c.entry.code ∷ [], put c t.1))
