-- By the fact.
use Rattle.std.proofs.Common.{◌≡◌, refl}
use Rattle.pmb_json_objects.specs.Head.{Head}
use Rattle.pmb_json_objects.specs.Seen.{SeenData}
use Rattle.pmb_facts.specs.Fact.{WhatData, Write, Read, Call, Refused, Alert, NoAlert, Other, Refusal, BadToken}
use Rattle.pmb_facts.specs.Fact.{fact_device}
use Rattle.pmb_facts.specs.Object.{object_of}
use Rattle.pmb_facts.proofs.laws.objects_name_the_device.Goals as goal

of_fact : (seen : SeenData) (head : Head) (what : WhatData) → (object_of seen head what).device ≡ fact_device what
of_fact seen head (Write part parts p) = refl
of_fact seen head (Read t) = refl
of_fact seen head (Call t) = refl
of_fact seen head (Refused parts addr sent at_read) = refl
of_fact seen head (Alert t) = refl
of_fact seen head NoAlert = refl
of_fact seen head (Other addr) = refl
of_fact seen head (Refusal front event reason expected) = refl
of_fact seen head (BadToken word) = refl

pub returns : goal.returns
returns c seen head what = of_fact seen head what
