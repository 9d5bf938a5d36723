-- The object of a refusal: what the packet under way had said.
use Rattle.std.specs.Prelude.{ℕ, Option, Some, None, List, [], ◌∷◌, ◌++◌, codes, map}
use Rattle.pmb_bus.specs.declared.event.Event.{Event}
use Rattle.pmb_bus.specs.declared.kinds.Kinds.{Kinds}
use Rattle.pmb_command.specs.Parts.{DeviceParts}
use Rattle.pmb_json_text.specs.Json.{string}
use Rattle.pmb_json_text.specs.Member.{Member, named, array_of, digits}
use Rattle.pmb_partial_packet.specs.PartialPacket.{reply, right_pec, said_device, sent, written_to}
use Rattle.pmb_transaction.specs.declared.reason.Reason.{Reason}
use Rattle.pmb_transaction.specs.Names.{kind_names, reason_name}
use Rattle.pmb_json_objects.specs.Members.{device_members, head_members, sent_command}
use Rattle.pmb_json_objects.specs.Head.{Head}
use Rattle.pmb_json_objects.specs.Names.{got_value}
use Rattle.pmb_json_objects.specs.Object.{Object}
use Rattle.pmb_json_objects.specs.Seen.{SeenData}

-- the device that the packet says, if it says one
abbrev pub said_device_members : List DeviceParts → Option ℕ → List Member
said_device_members profile None = []
said_device_members profile (Some addr) = device_members profile addr

-- of the last leg that is written: code, command, page and phase, and all bytes
abbrev pub written_members : SeenData → Option ℕ → Option (List ℕ) → List Member
written_members seen None bytes = []
written_members seen (Some addr) None = []
written_members seen (Some addr) (Some bytes) = sent_command seen addr bytes ++ named (codes "sent") (digits bytes) ∷ []

-- in a leg that is read, all bytes that were replied
abbrev pub reply_members : Option (List ℕ) → List Member
reply_members None = []
reply_members (Some bytes) = named (codes "reply") (digits bytes) ∷ []

-- the error code that was due, where a wrong one is the reason
abbrev pub due_pec : Reason → List Event → Option Event → Option ℕ
due_pec reason front None = None
due_pec reason front (Some event) = right_pec reason front event

abbrev pub right_pec_members : Option ℕ → List Member
right_pec_members None = []
right_pec_members (Some right) = named (codes "right_pec") (digits (right ∷ [])) ∷ []

-- Of a refusal with these events of the packet before it: the refused event, or none where they end.
abbrev pub refusal_object : SeenData → Head → List Event → Option Event → Reason → Kinds → Object
refusal_object seen head front event reason expected = record {
  device = said_device front;
  members =
      head_members head (codes "refusal")
      ++ named (codes "reason") (string (reason_name reason))
      ∷ named (codes "expected") (array_of (map string (kind_names expected)))
      ∷ named (codes "got") (got_value event) ∷ said_device_members seen.profile (said_device front)
      ++ written_members seen (written_to front) (sent front)
      ++ reply_members (reply front) ++ right_pec_members (due_pec reason front event);
}
