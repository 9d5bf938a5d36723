-- Where facts are seen, and what a fact is there.
use Rattle.std.specs.Prelude.{ℕ, ⊤, List, []}
use Rattle.pmb_command.specs.Parts.{DeviceParts}
use Rattle.pmb_facts.specs.Fact.{FactData, WhatData, Write, Read, Call, Refused, Alert, NoAlert, Other, Refusal}
use Rattle.pmb_facts.specs.Fact.{BadToken}
use Rattle.pmb_json_objects.specs.Head.{Head}
use Rattle.pmb_json_objects.specs.Seen.{SeenData}
use Rattle.pmb_keeper.specs.declared.nothing.Nothing.{Nothing}
use Rattle.pmb_unknown_start.specs.declared.start.Start.{Start}
use Rattle.pmb_unknown_start.specs.Past.{PastData}

-- What is the same for all facts of a capture: the digits after a point, what is known of PAGE and
-- VOUT_MODE at first, and the devices.
pub record Setting : Type 0 where
  pub digits : ℕ
  pub start : Start
  pub profile : List DeviceParts

abbrev pub setting_of : SeenData → Setting
setting_of seen = record { digits = seen.digits; start = seen.start; profile = seen.profile }

-- what is known there after what went before
abbrev pub seen_after : Setting → List PastData → SeenData
seen_after setting before =
    record { digits = setting.digits; start = setting.start; profile = setting.profile; before = before }

-- what went before a fact; to an other and to a word that is no token it is nothing
abbrev pub before_fact : List PastData → WhatData → List PastData
before_fact before (Write part parts p) = before
before_fact before (Read t) = before
before_fact before (Call t) = before
before_fact before (Refused parts addr sent at_read) = before
before_fact before (Alert t) = before
before_fact before NoAlert = before
before_fact before (Other addr) = []
before_fact before (Refusal front event reason expected) = before
before_fact before (BadToken word) = []

-- what a fact is, by what is known where its packet begins
abbrev pub fact_seen : SeenData → Head → WhatData → FactData
fact_seen seen head what = record { before = before_fact seen.before what; head = head; what = what }

-- nothing is said of what keeps nothing
abbrev pub IsNothing : Nothing → Setting → List FactData → Type 0
IsNothing keeper setting facts = ⊤
