-- What an item has in common with the object of the same fact, and with the fact: for the laws
-- `items_begin_as_their_objects`, `items_have_the_bytes_of_their_objects` and `items_name_the_command`.
use Rattle.std.proofs.Common.{◌≡◌, ◌∙◌, ℕ, Option, Some, None, List, [], ◌∷◌, ◌++◌, codes, map, take, refl, sym, ap}
use Rattle.std.proofs.Common.{append_assoc}
use Rattle.std.specs.Prelude.{◌/◌, option_map}
use Rattle.pmb_command.specs.Parts.{CommandParts, DeviceParts, command_with, device_with}
use Rattle.pmb_facts.specs.Fact.{WhatData, Write, Read, Call, Refused, Alert, NoAlert, Other, Refusal, BadToken}
use Rattle.pmb_facts.specs.Fact as fact
use Rattle.pmb_facts.specs.Object.{object_of}
use Rattle.pmb_facts.specs.declared.fact.CommandAt.{CommandAt}
use Rattle.pmb_json_objects.specs.Head.{Head}
use Rattle.pmb_json_fields.specs.declared.access.Access.TheVariants as access
use Rattle.pmb_json_objects.specs.Members.{command_members, device_member, device_members, head_members, part_members}
use Rattle.pmb_json_objects.specs.Members as members
use Rattle.pmb_json_objects.specs.Names.{got_value}
use Rattle.pmb_json_objects.specs.Packets.{call_says, refused_check, refused_name, said_of}
use Rattle.pmb_json_objects.specs.Refusals.{due_pec, reply_members, right_pec_members, said_device_members}
use Rattle.pmb_json_objects.specs.Refusals.{written_members}
use Rattle.pmb_json_objects.specs.Seen.{SeenData}
use Rattle.pmb_json_text.specs.Json.{boolean, null, string}
use Rattle.pmb_json_text.specs.Member.{Member, array_of, digits, named}
use Rattle.pmb_partial_packet.specs.PartialPacket.{reply, said_device, sent, written_to}
use Rattle.pmb_transaction.specs.Names.{kind_names, reason_name}
use Rattle.pmb_items.specs.Bytes.{leg, or_none}
use Rattle.pmb_items.specs.Command.{command_seen, known_command, of_command, of_device, other_command, sent_command}
use Rattle.pmb_items.specs.Command.{written_command}
use Rattle.pmb_items.specs.Item.{item_head, item_of}
use Rattle.pmb_item_laws.specs.Data.{HaveBytes, HaveData}
use Rattle.pmb_item_laws.specs.Kind.{kind_name}

-- ---- where it begins

pub head_is : (seen : SeenData) (head : Head) (what : WhatData) → (item_of seen head what).head ≡ item_head head
head_is seen head (Write part parts p) = refl
head_is seen head (Read t) = refl
head_is seen head (Call t) = refl
head_is seen head (Refused parts addr bytes at_read) = refl
head_is seen head (Alert t) = refl
head_is seen head NoAlert = refl
head_is seen head (Other addr) = refl
head_is seen head (Refusal front event reason expected) = refl
head_is seen head (BadToken word) = refl

-- ---- its kind

-- members that begin with others
record Starts (front all : List Member) : Type 0 where
  rest : List Member
  is : all ≡ front ++ rest

with_more : {front all : List Member} → Starts front all → (more : List Member) → Starts front (all ++ more)
with_more {front = front} starts more = record {
  rest = starts.rest ++ more;
  is = ap (λ (l : List Member). l ++ more) starts.is ∙ append_assoc front starts.rest more;
}

-- those of an object of a kind
abbrev StartsAs : Head → List ℕ → List Member → Type 0
StartsAs head kind all = Starts (head_members head kind) all

begun : (head : Head) (kind : List ℕ) (rest : List Member) → StartsAs head kind (head_members head kind ++ rest)
begun head kind rest = record { rest = rest; is = refl }

module _ (seen : SeenData) (head : Head) where
  starts : (what : WhatData) → StartsAs head (kind_name (item_of seen head what).kind) (object_of seen head what).members
  starts (Write part parts p) =
      with_more
      (with_more (with_more (begun head (codes "write") (part_members part parts)) (device_members seen.profile p.addr))
      (command_members seen p.addr p.code))
      (named (codes "bytes") (digits p.bytes) ∷ named (codes "pec") (boolean p.pec)
      ∷ said_of seen access.Write p.addr p.code p.bytes)
  starts (Read t) =
      with_more
      (with_more (begun head (codes "read") (device_members seen.profile t.addr)) (command_members seen t.addr t.code))
      (named (codes "bytes") (digits t.reply) ∷ named (codes "pec") (boolean t.pec)
      ∷ said_of seen access.Read t.addr t.code t.reply)
  starts (Call t) =
      with_more
      (with_more (begun head (codes "call") (device_members seen.profile t.addr)) (command_members seen t.addr t.code))
      (named (codes "sent") (digits t.bytes) ∷ named (codes "reply") (digits t.reply)
      ∷ named (codes "pec") (boolean t.pec) ∷ call_says seen t.addr t.code t.bytes t.reply)
  starts (Refused parts addr bytes at_read) =
      with_more
      (with_more
      (with_more (begun head (codes "refused") (part_members parts parts)) (device_members seen.profile addr))
      (named (codes "refused") (string (refused_name bytes at_read)) ∷ members.sent_command seen addr bytes))
      (named (codes "sent") (digits bytes) ∷ refused_check addr (device_with addr seen.profile) bytes at_read)
  starts (Alert t) =
      with_more (begun head (codes "alert") (device_members seen.profile (t.byte / 2)))
      (named (codes "byte") (digits (t.byte ∷ [])) ∷ named (codes "pec") (boolean t.pec) ∷ [])
  starts NoAlert = begun head (codes "alert") (named (codes "device") null ∷ [])
  starts (Other addr) = begun head (codes "other") (device_member addr)
  starts (Refusal front event reason expected) =
      with_more
      (with_more
      (with_more
      (begun head (codes "refusal")
      (named (codes "reason") (string (reason_name reason))
      ∷ named (codes "expected") (array_of (map string (kind_names expected)))
      ∷ named (codes "got") (got_value event) ∷ said_device_members seen.profile (said_device front)))
      (written_members seen (written_to front) (sent front)))
      (reply_members (reply front)))
      (right_pec_members (due_pec reason front event))
  starts (BadToken word) = begun head (codes "bad_token") (named (codes "word") (string (take 32 word)) ∷ [])

pub kind_is : (seen : SeenData) (head : Head) (what : WhatData) → (rest : List Member)
    × ((object_of seen head what).members ≡ head_members head (kind_name (item_of seen head what).kind) ++ rest)
kind_is seen head what = let found = starts seen head what in (found.rest, found.is)

-- ---- its bytes

have : (name bytes : List ℕ) (before behind : List Member)
    → HaveBytes name (before ++ named name (digits bytes) ∷ behind) (leg (Some bytes))
have name bytes before behind = record {
  bytes = bytes;
  before = before;
  behind = behind;
  in_object = refl;
  in_item = refl;
}

-- .. after one member more
have_next : (name bytes : List ℕ) (before : List Member) (member : Member) (behind : List Member)
    → HaveBytes name (before ++ member ∷ named name (digits bytes) ∷ behind) (leg (Some bytes))
have_next name bytes before member behind = record {
  bytes = bytes;
  before = before ++ member ∷ [];
  behind = behind;
  in_object = sym (append_assoc before (member ∷ []) (named name (digits bytes) ∷ behind));
  in_item = refl;
}

module _ (seen : SeenData) (head : Head) where
  pub data_are : (what : WhatData) → HaveData what (object_of seen head what) (item_of seen head what)
  data_are (Write part parts p) =
      have (codes "bytes") p.bytes
      (head_members head (codes "write") ++ part_members part parts ++ device_members seen.profile p.addr
      ++ command_members seen p.addr p.code)
      (named (codes "pec") (boolean p.pec) ∷ said_of seen access.Write p.addr p.code p.bytes)
  data_are (Read t) =
      have (codes "bytes") t.reply
      (head_members head (codes "read") ++ device_members seen.profile t.addr ++ command_members seen t.addr t.code)
      (named (codes "pec") (boolean t.pec) ∷ said_of seen access.Read t.addr t.code t.reply)
  data_are (Call t) =
      let front = head_members head (codes "call") ++ device_members seen.profile t.addr
      ++ command_members seen t.addr t.code in
      let behind = named (codes "pec") (boolean t.pec) ∷ call_says seen t.addr t.code t.bytes t.reply in (
        have (codes "sent") t.bytes front (named (codes "reply") (digits t.reply) ∷ behind),
        have_next (codes "reply") t.reply front (named (codes "sent") (digits t.bytes)) behind,
      )
  data_are (Refused parts addr bytes at_read) =
      have (codes "sent") bytes
      (head_members head (codes "refused") ++ part_members parts parts ++ device_members seen.profile addr
      ++ named (codes "refused") (string (refused_name bytes at_read)) ∷ members.sent_command seen addr bytes)
      (refused_check addr (device_with addr seen.profile) bytes at_read)
  data_are (Alert t) =
      have (codes "byte") (t.byte ∷ []) (head_members head (codes "alert") ++ device_members seen.profile (t.byte / 2))
      (named (codes "pec") (boolean t.pec) ∷ [])
  data_are NoAlert = tt
  data_are (Other addr) = tt
  data_are (Refusal front event reason expected) = tt
  data_are (BadToken word) = tt

-- ---- its command

-- the code of a command, if there is one
abbrev code_of : Option CommandAt → ℕ
code_of command = or_none (option_map (λ (c : CommandAt). c.code) command)

module _ (seen : SeenData) where
  in_command : (addr code : ℕ) (device : DeviceParts) (c : Option CommandParts)
      → (of_command (other_command code) (known_command seen addr code) device c).code ≡ code
  in_command addr code device None = refl
  in_command addr code device (Some c) = refl

  in_device : (addr code : ℕ) (device : Option DeviceParts)
      → (of_device (other_command code) (known_command seen addr code) device code).code ≡ code
  in_device addr code None = refl
  in_device addr code (Some device) = in_command addr code device (command_with code device.commands)

  code_seen : (addr code : ℕ) → (command_seen seen addr code).code ≡ code
  code_seen addr code = in_device addr code (device_with addr seen.profile)

  code_sent : (addr : ℕ) (bytes : List ℕ)
      → (sent_command seen addr bytes).code ≡ code_of (fact.sent_command addr bytes)
  code_sent addr [] = refl
  code_sent addr (code ∷ bytes) = code_seen addr code

  code_written : (addr : Option ℕ) (bytes : Option (List ℕ))
      → (written_command seen addr bytes).code ≡ code_of (fact.written_command addr bytes)
  code_written None bytes = refl
  code_written (Some addr) None = refl
  code_written (Some addr) (Some bytes) = code_sent addr bytes

  pub command_is : (head : Head) (what : WhatData)
      → (item_of seen head what).command.code ≡ code_of (fact.fact_command what)
  command_is head (Write part parts p) = code_seen p.addr p.code
  command_is head (Read t) = code_seen t.addr t.code
  command_is head (Call t) = code_seen t.addr t.code
  command_is head (Refused parts addr bytes at_read) = code_sent addr bytes
  command_is head (Alert t) = refl
  command_is head NoAlert = refl
  command_is head (Other addr) = refl
  command_is head (Refusal front event reason expected) = code_written (written_to front) (sent front)
  command_is head (BadToken word) = refl
