-- A record has 680 bytes: for the law `records_have_one_length`. Each leg and each text of an item fills its room.
use Rattle.std.proofs.Common.{◌≡◌, ℕ, ◌-◌, Option, Some, None, List, [], ◌∷◌, ◌++◌, length, take, refl}
use Rattle.std.proofs.Common.{arith, length-append}
use Rattle.std.proofs.lemmas.List.{length-replicate, length-take}
use Rattle.std.specs.Int.{to_le_bytes, w16}
use Rattle.std.specs.Prelude.{replicate}
use Rattle.pmb_facts.specs.Fact.{WhatData, Write, Read, Call, Refused, Alert, NoAlert, Other, Refusal, BadToken}
use Rattle.pmb_json_objects.specs.Head.{Head}
use Rattle.pmb_json_objects.specs.Seen.{SeenData}
use Rattle.pmb_items.specs.Bytes.{leg, padded, text}
use Rattle.pmb_items.specs.Item.{item_of}
use Rattle.pmb_items.specs.Record.{command_bytes, device_bytes, item_bytes, kind_bytes, leg_bytes, part_bytes}
use Rattle.pmb_items.specs.Record.{signed_bytes, text_bytes, text_part, value_bytes, where_bytes}
use Rattle.pmb_items.specs.declared.item.Item.{Item}
use Rattle.pmb_items.specs.declared.item.ItemLeg.{ItemLeg}
use Rattle.pmb_items.specs.declared.item.ItemText.{ItemText}
use Rattle.pmb_partial_packet.specs.PartialPacket.{reply, sent}

padded_long : (room : ℕ) (bytes : List ℕ) → length (padded room bytes) ≡ room
padded_long room bytes =
    omega (
      arith,
      length-append (take room bytes) (replicate (room - length bytes) 0),
      length-take room bytes,
      length-replicate {A = ℕ} (room - length bytes) 0,
    )

leg_fills : (bytes : Option (List ℕ)) → length (leg bytes).bytes ≡ 258
leg_fills None = length-replicate {A = ℕ} 258 0
leg_fills (Some bytes) = padded_long 258 bytes

text_fills : (bytes : Option (List ℕ)) → length (text bytes).bytes ≡ 40
text_fills None = length-replicate {A = ℕ} 40 0
text_fills (Some bytes) = padded_long 40 bytes

-- the legs and the texts of an item do
record IsFilled (item : Item) : Type 0 where
  sent : length item.sent.bytes ≡ 258
  reply : length item.reply.bytes ≡ 258
  time : length item.head.time.bytes ≡ 40
  word : length item.word.bytes ≡ 40

item_filled : (seen : SeenData) (head : Head) (what : WhatData) → IsFilled (item_of seen head what)
item_filled seen head (Write part parts p) = record {
  sent = leg_fills (Some p.bytes);
  reply = leg_fills None;
  time = text_fills head.time;
  word = text_fills None;
}
item_filled seen head (Read t) = record {
  sent = leg_fills None;
  reply = leg_fills (Some t.reply);
  time = text_fills head.time;
  word = text_fills None;
}
item_filled seen head (Call t) = record {
  sent = leg_fills (Some t.bytes);
  reply = leg_fills (Some t.reply);
  time = text_fills head.time;
  word = text_fills None;
}
item_filled seen head (Refused parts addr bytes at_read) = record {
  sent = leg_fills (Some bytes);
  reply = leg_fills None;
  time = text_fills head.time;
  word = text_fills None;
}
item_filled seen head (Alert t) = record {
  sent = leg_fills None;
  reply = leg_fills (Some (t.byte ∷ []));
  time = text_fills head.time;
  word = text_fills None;
}
item_filled seen head NoAlert = record {
  sent = leg_fills None;
  reply = leg_fills None;
  time = text_fills head.time;
  word = text_fills None;
}
item_filled seen head (Other addr) = record {
  sent = leg_fills None;
  reply = leg_fills None;
  time = text_fills head.time;
  word = text_fills None;
}
item_filled seen head (Refusal front event reason expected) = record {
  sent = leg_fills (sent front);
  reply = leg_fills (reply front);
  time = text_fills head.time;
  word = text_fills None;
}
item_filled seen head (BadToken word) = record {
  sent = leg_fills None;
  reply = leg_fills None;
  time = text_fills head.time;
  word = text_fills (Some (take 32 word));
}

-- ---- fields

two_bytes : (number : ℕ) → length (to_le_bytes w16 number) ≡ 2
two_bytes number = refl

leg_long : (one : ItemLeg) → length one.bytes ≡ 258 → length (leg_bytes one) ≡ 260
leg_long one filled =
    omega (arith, length-append (to_le_bytes w16 one.length) one.bytes, two_bytes one.length, filled)

text_long : (one : ItemText) → length one.bytes ≡ 40 → length (text_bytes one) ≡ 42
text_long one filled =
    omega (arith, length-append (to_le_bytes w16 one.length) one.bytes, two_bytes one.length, filled)

module _ (item : Item) where
  where_long : length (where_bytes item) ≡ 24
  where_long = refl

  part_long : length (part_bytes item) ≡ 16
  part_long = refl

  value_long : length (value_bytes item) ≡ 16
  unfolding signed_bytes
  value_long = refl

  command_long : length (command_bytes item) ≡ 6
  command_long = refl

  device_long : length (device_bytes item) ≡ 6
  device_long = refl

  kind_long : length (kind_bytes item) ≡ 8
  kind_long = refl

  texts_long : IsFilled item → length (text_part item) ≡ 604
  texts_long filled =
      omega (
        arith,
        length-append (leg_bytes item.sent) (leg_bytes item.reply ++ (text_bytes item.head.time ++ text_bytes item.word)),
        length-append (leg_bytes item.reply) (text_bytes item.head.time ++ text_bytes item.word),
        length-append (text_bytes item.head.time) (text_bytes item.word),
        leg_long item.sent filled.sent,
        leg_long item.reply filled.reply,
        text_long item.head.time filled.time,
        text_long item.word filled.word,
      )

  record_long : IsFilled item → length (item_bytes item) ≡ 680
  record_long filled =
      let kinds = kind_bytes item ++ text_part item in
      let devices = device_bytes item ++ kinds in
      let commands = command_bytes item ++ devices in
      let values = value_bytes item ++ commands in
      omega (
        arith,
        length-append (where_bytes item) (part_bytes item ++ values),
        length-append (part_bytes item) values,
        length-append (value_bytes item) commands,
        length-append (command_bytes item) devices,
        length-append (device_bytes item) kinds,
        length-append (kind_bytes item) (text_part item),
        where_long,
        part_long,
        value_long,
        command_long,
        device_long,
        kind_long,
        texts_long filled,
      )

pub item_long : (seen : SeenData) (head : Head) (what : WhatData) → length (item_bytes (item_of seen head what)) ≡ 680
item_long seen head what = record_long (item_of seen head what) (item_filled seen head what)
