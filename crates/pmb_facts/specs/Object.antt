-- The object of a fact.
use Rattle.pmb_json_objects.specs.BadToken.{bad_token_object}
use Rattle.pmb_json_objects.specs.Head.{Head}
use Rattle.pmb_json_objects.specs.Object.{Object}
use Rattle.pmb_json_objects.specs.Packets.{alert_object, call_object, no_alert_object, other_object, read_object}
use Rattle.pmb_json_objects.specs.Packets.{refused_object, write_object}
use Rattle.pmb_json_objects.specs.Refusals.{refusal_object}
use Rattle.pmb_json_objects.specs.Seen.{SeenData}
use Rattle.pmb_facts.specs.Fact.{FactData, WhatData, Write, Read, Call, Refused, Alert, NoAlert, Other, Refusal}
use Rattle.pmb_facts.specs.Fact.{BadToken}

-- by what is known where its packet begins
abbrev pub object_of : SeenData → Head → WhatData → Object
object_of seen head (Write part parts p) = write_object seen head part parts p
object_of seen head (Read t) = read_object seen head t
object_of seen head (Call t) = call_object seen head t
object_of seen head (Refused parts addr sent at_read) = refused_object seen head parts addr sent at_read
object_of seen head (Alert t) = alert_object seen.profile head t
object_of seen head NoAlert = no_alert_object head
object_of seen head (Other addr) = other_object head addr
object_of seen head (Refusal front event reason expected) = refusal_object seen head front event reason expected
object_of seen head (BadToken word) = bad_token_object head word

abbrev pub object_in : SeenData → FactData → Object
object_in seen fact = object_of seen fact.head fact.what
