-- What a fact is counted as.
use Rattle.std.specs.Prelude.{ℕ, ◌+◌, Bool, true, false, Option, Some, None, List, [], ◌∷◌}
use Rattle.pmb_facts.specs.Fact.{WhatData, Write, Read, Call, Refused, Alert, NoAlert, Other, Refusal, BadToken}
use Rattle.pmb_stats_counts.specs.declared.sort.NackPlace.{NackPlace}
use Rattle.pmb_stats_counts.specs.declared.sort.NackPlace.TheVariants.{Address, Code, Byte, ReadAddress}
use Rattle.pmb_stats_counts.specs.declared.sort.Sort.{Sort}
use Rattle.pmb_stats_counts.specs.declared.sort.Sort.TheVariants.{Writes, Reads, Calls, Alerts, Nacks}
use Rattle.pmb_stats_counts.specs.declared.sort.Sort.TheVariants.{Refusals, Others}
use Rattle.pmb_transaction.specs.declared.reason.Reason.{Reason}
use Rattle.pmb_transaction.specs.declared.reason.Reason.TheVariants.{ReadFirst, BadRestart, BadPec, UnknownDevice}
use Rattle.pmb_transaction.specs.declared.reason.Reason.TheVariants.{UnknownCommand, TooLong, TooShort, WrongEvent}
use Rattle.pmb_transaction.specs.declared.reason.Reason.TheVariants.{Truncated}

-- where a leg was refused, by what was sent after its address, and by whether the device refused to be read
abbrev pub nack_place : List ℕ → Bool → NackPlace
nack_place sent true = ReadAddress
nack_place [] false = Address
nack_place (code ∷ []) false = Code
nack_place (code ∷ byte ∷ more) false = Byte

-- nothing for an alert that no device answered, and for a word that is no token
abbrev pub sort_of : WhatData → Option Sort
sort_of (Write part parts p) = Some Writes
sort_of (Read t) = Some Reads
sort_of (Call t) = Some Calls
sort_of (Refused parts addr sent at_read) = Some (Nacks (nack_place sent at_read))
sort_of (Alert t) = Some Alerts
sort_of NoAlert = None
sort_of (Other addr) = Some Others
sort_of (Refusal front event reason expected) = Some (Refusals reason)
sort_of (BadToken word) = None

-- ---- the order of sorts, by which they are told apart

abbrev pub nack_index : NackPlace → ℕ
nack_index Address = 0
nack_index Code = 1
nack_index Byte = 2
nack_index ReadAddress = 3

abbrev pub reason_index : Reason → ℕ
reason_index ReadFirst = 0
reason_index BadRestart = 1
reason_index BadPec = 2
reason_index UnknownDevice = 3
reason_index UnknownCommand = 4
reason_index TooLong = 5
reason_index TooShort = 6
reason_index WrongEvent = 7
reason_index Truncated = 8

abbrev pub place : Sort → ℕ
place Writes = 0
place Reads = 1
place Calls = 2
place Alerts = 3
place (Nacks at) = 4 + nack_index at
place (Refusals reason) = 8 + reason_index reason
place Others = 17
