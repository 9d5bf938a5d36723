-- The item of a fact.
use Rattle.std.specs.Prelude.{ℕ, ◌/◌, Bool, true, false, Option, Some, None, List, [], ◌∷◌, take}
use Rattle.pmb_bus.specs.declared.event.Event.{Event}
use Rattle.pmb_bus.specs.declared.kinds.Kinds.{Kinds}
use Rattle.pmb_facts.specs.Fact.{WhatData, Write, Read, Call, Refused, Alert, NoAlert, Other, Refusal}
use Rattle.pmb_facts.specs.Fact.{BadToken}
use Rattle.pmb_json_objects.specs.Head.{Head}
use Rattle.pmb_json_objects.specs.Seen.{SeenData}
use Rattle.pmb_partial_packet.specs.PartialPacket.{reply, said_device, sent, written_to}
use Rattle.pmb_transaction.specs.declared.reason.Reason.{Reason}
use Rattle.pmb_transaction.specs.Transaction.{AlertData, CallData, PartData, ReadData}
use Rattle.pmb_items.specs.Bytes.{leg, or_none, text}
use Rattle.pmb_items.specs.Command.{at_command, command_seen, no_command, sent_command, written_command}
use Rattle.pmb_items.specs.Number.{no_number, number_seen}
use Rattle.pmb_items.specs.Refusal.{no_refusal, refusal_of}
use Rattle.pmb_items.specs.Pec.{no_pec, packet_pec, refusal_pec, refused_pec}
use Rattle.pmb_items.specs.declared.item.ItemHead.{ItemHead}
use Rattle.pmb_items.specs.declared.item.Item.{Item}
use Rattle.pmb_items.specs.declared.item.ItemNumber.{ItemNumber}
use Rattle.pmb_items.specs.declared.item.ItemPart.{ItemPart}

-- ---- parts of it

-- where and when it begins
abbrev pub item_head : Head → ItemHead
item_head head = record { at = head.at; line = head.place.line; column = head.place.column; time = text head.time }

abbrev pub part_of : ℕ → ℕ → ItemPart
part_of number count = record { number = number; count = count }

-- the number that data of the command with a code are
abbrev pub number_at : SeenData → ℕ → ℕ → List ℕ → ItemNumber
number_at seen addr code bytes = at_command seen addr code no_number (number_seen seen addr bytes)

-- what was refused, by what was sent
abbrev pub refused_at : List ℕ → Bool → ℕ
refused_at sent true = 4
refused_at [] false = 1
refused_at (code ∷ []) false = 2
refused_at (code ∷ b ∷ bytes) false = 3

-- ---- items

-- of a kind, and the device that it names; nothing else is said
abbrev pub bare : Head → ℕ → Option ℕ → Item
bare head kind device = record {
  head = item_head head;
  part = part_of 0 0;
  number = no_number;
  command = no_command;
  pec = no_pec;
  device = or_none device;
  kind = kind;
  refused = 0;
  refusal = no_refusal;
  sent = leg None;
  reply = leg None;
  word = text None;
}

abbrev pub write_item : SeenData → Head → ℕ → ℕ → PartData → Item
write_item seen head part parts p = record (bare head 1 (Some p.addr)) {
  part = part_of part parts;
  number = number_at seen p.addr p.code p.bytes;
  command = command_seen seen p.addr p.code;
  pec = packet_pec p.pec;
  sent = leg (Some p.bytes);
}

abbrev pub read_item : SeenData → Head → ReadData → Item
read_item seen head t = record (bare head 2 (Some t.addr)) {
  number = number_at seen t.addr t.code t.reply;
  command = command_seen seen t.addr t.code;
  pec = packet_pec t.pec;
  reply = leg (Some t.reply);
}

abbrev pub call_item : SeenData → Head → CallData → Item
call_item seen head t = record (bare head 3 (Some t.addr)) {
  command = command_seen seen t.addr t.code;
  pec = packet_pec t.pec;
  sent = leg (Some t.bytes);
  reply = leg (Some t.reply);
}

-- the leg that was refused, as the last of so many parts
abbrev pub refused_item : SeenData → Head → ℕ → ℕ → List ℕ → Bool → Item
refused_item seen head parts addr sent at_read = record (bare head 4 (Some addr)) {
  part = part_of parts parts;
  command = sent_command seen addr sent;
  pec = refused_pec seen addr sent at_read;
  refused = refused_at sent at_read;
  sent = leg (Some sent);
}

abbrev pub alert_item : Head → AlertData → Item
alert_item head t = record (bare head 5 (Some (t.byte / 2))) {
  pec = packet_pec t.pec;
  reply = leg (Some (t.byte ∷ []));
}

-- Of a refusal with these events of the packet before it: the refused event, or none where they end.
abbrev pub refusal_item : SeenData → Head → List Event → Option Event → Reason → Kinds → Item
refusal_item seen head front event reason expected = record (bare head 7 (said_device front)) {
  command = written_command seen (written_to front) (sent front);
  pec = refusal_pec reason front event;
  refusal = refusal_of reason expected event;
  sent = leg (sent front);
  reply = leg (reply front);
}

-- at most its first 32 bytes
abbrev pub bad_token_item : Head → List ℕ → Item
bad_token_item head word = record (bare head 8 None) { word = text (Some (take 32 word)) }

-- by what is known where its packet begins
abbrev pub item_of : SeenData → Head → WhatData → Item
item_of seen head (Write part parts p) = write_item seen head part parts p
item_of seen head (Read t) = read_item seen head t
item_of seen head (Call t) = call_item seen head t
item_of seen head (Refused parts addr sent at_read) = refused_item seen head parts addr sent at_read
item_of seen head (Alert t) = alert_item head t
item_of seen head NoAlert = bare head 5 None
item_of seen head (Other addr) = bare head 6 (Some addr)
item_of seen head (Refusal front event reason expected) = refusal_item seen head front event reason expected
item_of seen head (BadToken word) = bad_token_item head word
