-- What makes the status 1.
use Rattle.std.specs.Prelude.{◌==◌, Bool, true, false, ◌||◌, Option, Some, None, List}
use Rattle.std.specs.List.{list_any}
use Rattle.pmb_command.specs.Parts.{DeviceParts}
use Rattle.pmb_facts.specs.Fact.{FactData, WhatData}
use Rattle.pmb_facts.specs.Fact.{Write, Read, Call, Refused, Alert, NoAlert, Other, Refusal, BadToken}
use Rattle.pmb_stats_counts.specs.declared.fail.Fail.{Fail}
use Rattle.pmb_stats_counts.specs.declared.fail.Fail.TheVariants.{Refusals, BadTokens, Nacks, Alerts}
use Rattle.pmb_stats_counts.specs.declared.fail.Fail.TheVariants.{Faults, NoneRead}
use Rattle.pmb_stats_counts.specs.Counts.{is_bad_token, packets}
use Rattle.pmb_stats_counts.specs.Faults.{reads_fault}

abbrev pub is_refusal : WhatData → Bool
is_refusal (Write part parts p) = false
is_refusal (Read t) = false
is_refusal (Call t) = false
is_refusal (Refused parts addr sent at_read) = false
is_refusal (Alert t) = false
is_refusal NoAlert = false
is_refusal (Other addr) = false
is_refusal (Refusal front event reason expected) = true
is_refusal (BadToken word) = false

abbrev pub is_refused : WhatData → Bool
is_refused (Write part parts p) = false
is_refused (Read t) = false
is_refused (Call t) = false
is_refused (Refused parts addr sent at_read) = true
is_refused (Alert t) = false
is_refused NoAlert = false
is_refused (Other addr) = false
is_refused (Refusal front event reason expected) = false
is_refused (BadToken word) = false

abbrev pub is_alert : WhatData → Bool
is_alert (Write part parts p) = false
is_alert (Read t) = false
is_alert (Call t) = false
is_alert (Refused parts addr sent at_read) = false
is_alert (Alert t) = true
is_alert NoAlert = false
is_alert (Other addr) = false
is_alert (Refusal front event reason expected) = false
is_alert (BadToken word) = false

-- whether some fact is one of those
abbrev pub some : (WhatData → Bool) → List FactData → Bool
some is facts = list_any (λ fact. is fact.what) facts

-- whether something holds of facts that may make the status 1
abbrev pub holds : List DeviceParts → List FactData → Fail → Bool
holds profile facts Refusals = some is_refusal facts
holds profile facts BadTokens = some is_bad_token facts
holds profile facts Nacks = some is_refused facts
holds profile facts Alerts = some is_alert facts
holds profile facts Faults = some (reads_fault profile) facts
holds profile facts NoneRead = packets facts == 0

-- whether the status is 1, by the list of what makes it so, if one is given
abbrev pub fails : List DeviceParts → Option (List Fail) → List FactData → Bool
fails profile None facts = holds profile facts Refusals || holds profile facts BadTokens
fails profile (Some words) facts = list_any (holds profile facts) words
