-- Why the flags of `json`, `log` or `stats` ask for nothing: of what is wrong with them, what comes first.
use Rattle.std.specs.Prelude.{◌≡◌, ◌<◌, ℕ, None, List}
use Rattle.clap.specs.Words.{Row}
use Rattle.pmb_args.specs.Facts.{SpellDevices, SpellsNone, devices_in, digits_in, start_in}
use Rattle.pmb_args.specs.Fails.{SpellsNoFails}
use Rattle.pmb_args.specs.Stats.{fail_on_in}
use Rattle.pmb_args.specs.declared.facts_fault.FactsFault.{FactsFault}
use Rattle.pmb_args.specs.declared.facts_fault.FactsFault.TheVariants.{NeedsLate, BadDigits, BadAddress}
use Rattle.pmb_args.specs.declared.stats_fault.StatsFault.{StatsFault}
use Rattle.pmb_args.specs.declared.stats_fault.StatsFault.TheVariants.{Facts, BadFailOn}

-- a fault that is there, and none is that comes before it
pub record IsFirst {Fault : Type 0} (order : Fault → ℕ) (Is : Fault → Type 0) (fault : Fault) : Type 0 where
  pub is : Is fault
  pub first : (other : Fault) → order other < order fault → ¬ (Is other)

-- ---- the flags that all three have

-- what is wrong with them
abbrev pub AreWrong : List Row → FactsFault → Type 0
AreWrong rows NeedsLate = start_in rows ≡ None
AreWrong rows BadDigits = SpellsNone (digits_in rows)
AreWrong rows BadAddress = (devices : List ℕ) → ¬ (SpellDevices (devices_in rows) devices)

-- the order of faults
abbrev pub facts_order : FactsFault → ℕ
facts_order NeedsLate = 0
facts_order BadDigits = 1
facts_order BadAddress = 2

-- the first fault
abbrev pub HasFault : List Row → FactsFault → Type 0
HasFault rows = IsFirst facts_order (AreWrong rows)

-- ---- those of `stats`

-- what is wrong with them
abbrev pub AreWrongStats : List Row → StatsFault → Type 0
AreWrongStats rows (Facts fault) = AreWrong rows fault
AreWrongStats rows BadFailOn = SpellsNoFails (fail_on_in rows)

-- the order of faults
abbrev pub stats_order : StatsFault → ℕ
stats_order (Facts fault) = facts_order fault
stats_order BadFailOn = 3

-- the first fault
abbrev pub HasStatsFault : List Row → StatsFault → Type 0
HasStatsFault rows = IsFirst stats_order (AreWrongStats rows)
