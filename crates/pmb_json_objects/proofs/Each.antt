-- Each object is JSON with distinct keys: a part, a read, a call, a refused leg, an alert, an other, a
-- refusal, a bad token, counts and the end. For the law `objects_are_json`. An object is up to five
-- lists of members in a row; each list can be written, and its keys are some of its part of one
-- list, in order, so none comes twice.
use Rattle.std.proofs.Common.{◌≡◌, ℕ, ◌/◌, Bool, true, false, Option, List, [], ◌∷◌, ◌++◌, codes, map, refl}
use Rattle.std.proofs.Common.{arith, take}
use Rattle.std.specs.Prelude.{IfSome}
use Rattle.pmb_bus.specs.declared.event.Event.{Event}
use Rattle.pmb_bus.specs.declared.kinds.Kinds.{Kinds}
use Rattle.pmb_command.specs.Bus.{IsBus}
use Rattle.pmb_command.specs.Parts.{DeviceParts, device_with}
use Rattle.pmb_json_fields.specs.declared.access.Access.TheVariants as access
use Rattle.pmb_json_fields.specs.Laws.{data_keys, keys}
use Rattle.pmb_io.specs.Count.{capped}
use Rattle.pmb_json_text.specs.Json.{boolean, null, string}
use Rattle.pmb_json_text.specs.Member.{Member, array_of, count, digits, named}
use Rattle.pmb_json_text.specs.Spelling.{AreBytes}
use Rattle.pmb_partial_packet.specs.PartialPacket.{reply, said_device, sent, written_to}
use Rattle.pmb_transaction.specs.declared.reason.Reason.{Reason}
use Rattle.pmb_transaction.specs.Names.{kind_names, reason_name}
use Rattle.pmb_transaction.specs.Transaction.{AlertData, CallData, PartData, ReadData}
use Rattle.pmb_json_objects.specs.BadToken.{bad_token_object}
use Rattle.pmb_json_objects.specs.Counts.{CountsData, DeviceData, counts_members, counts_object, end_object}
use Rattle.pmb_json_objects.specs.Counts.{others_members}
use Rattle.pmb_json_objects.specs.Head.{Head}
use Rattle.pmb_json_objects.specs.Laws.{IsCount, IsData, IsHead, IsJsonObject, IsSeen}
use Rattle.pmb_json_objects.specs.Members.{command_members, device_member, device_members, head_members, kind_member}
use Rattle.pmb_json_objects.specs.Members.{part_members, sent_command}
use Rattle.pmb_json_objects.specs.Names.{got_value}
use Rattle.pmb_json_objects.specs.Packets.{alert_object, call_object, call_says, no_alert_object, other_object}
use Rattle.pmb_json_objects.specs.Packets.{read_object, refused_check, refused_name, refused_object, said_of}
use Rattle.pmb_json_objects.specs.Packets.{write_object}
use Rattle.pmb_json_objects.specs.Refusals.{due_pec, refusal_object, reply_members, right_pec_members}
use Rattle.pmb_json_objects.specs.Refusals.{said_device_members, written_members}
use Rattle.pmb_json_objects.specs.Seen.{SeenData}
use Rattle.pmb_json_objects.proofs.Below.{Below, behind_refused, bytes_keys, device_keys, fine_in_row, front_keys}
use Rattle.pmb_json_objects.proofs.Below.{in_order, json, keys_in_row, keys_of_call, last_keys, meaning_keys}
use Rattle.pmb_json_objects.proofs.Below.{refused_keys, says_key}
use Rattle.pmb_json_objects.proofs.DataMembers.{fine_call, fine_said}
use Rattle.pmb_json_objects.proofs.Fine.{AreFine, IsFine, are_bytes, fine_boolean, fine_count, fine_digits, fine_null}
use Rattle.pmb_json_objects.proofs.Fine.{fine_of_both, fine_text, fine_texts, fine_word}
use Rattle.pmb_json_objects.proofs.Keys.{HaveKeys, are_part, followed, tested, within}
use Rattle.pmb_json_objects.proofs.RefusedMembers.{check_keys, due_keys, fine_check, fine_got, fine_reply}
use Rattle.pmb_json_objects.proofs.RefusedMembers.{fine_right_pec, fine_said_device, fine_written, front_is_bytes}
use Rattle.pmb_json_objects.proofs.RefusedMembers.{keys_of_check}
use Rattle.pmb_json_objects.proofs.RefusedMembers.{keys_of_reply, keys_of_right_pec, keys_of_said_device, keys_of_why}
use Rattle.pmb_json_objects.proofs.RefusedMembers.{keys_of_written, kinds_are_bytes, name_is_bytes, reason_is_bytes}
use Rattle.pmb_json_objects.proofs.RefusedMembers.{said_keys, sent_keys}
use Rattle.pmb_json_objects.proofs.Shared.{command_keys, fine_command, fine_device, fine_head, fine_part}
use Rattle.pmb_json_objects.proofs.Shared.{fine_sent_command, head_keys, keys_of_command, keys_of_device, keys_of_head}
use Rattle.pmb_json_objects.proofs.Shared.{keys_of_part, keys_of_sent_command, name_keys, part_keys}

-- ---- the front of an object

-- where it begins, of what is no part
keys_of_front : (head : Head) (kind : List ℕ) → HaveKeys (head_members head kind) front_keys
keys_of_front head kind = within [] head_keys part_keys (head_members head kind) (keys_of_head head kind)

-- .. and of a part
keys_of_part_front : (head : Head) (kind : List ℕ) (part parts : ℕ)
    → HaveKeys (head_members head kind ++ part_members part parts) front_keys
keys_of_part_front head kind part parts =
    followed (head_members head kind) (part_members part parts) head_keys part_keys (keys_of_head head kind)
    (keys_of_part part parts)

-- the device, and its name
abbrev said_first : List (List ℕ)
said_first = codes "reason" ∷ codes "expected" ∷ codes "got" ∷ []

abbrev counts_first : List (List ℕ)
counts_first = codes "writes" ∷ codes "reads" ∷ codes "calls" ∷ codes "packets" ∷ []

keys_of_to : (profile : List DeviceParts) (addr : ℕ) → HaveKeys (device_members profile addr) device_keys
keys_of_to profile addr =
    within said_first name_keys counts_first (device_members profile addr) (keys_of_device profile addr)

-- the keys after those of the head
abbrev rest_keys : List (List ℕ)
rest_keys = part_keys ++ device_keys ++ refused_keys ++ command_keys ++ last_keys

-- the keys after those of the device
abbrev said_last : List (List ℕ)
said_last = refused_keys ++ command_keys ++ last_keys

-- ---- counts

pub few : (n : ℕ) → IsCount (capped n)
few n = omega arith

abbrev counts_last : List (List ℕ)
counts_last = codes "others" ∷ command_keys ++ last_keys

keys_of_others : (gives : Bool) (n : ℕ) → HaveKeys (others_members gives n) counts_last
keys_of_others false n = tested [] counts_last refl
keys_of_others true n = tested _ counts_last refl

abbrev totals_keys : List (List ℕ)
totals_keys = codes "refused" ∷ codes "refusals" ∷ codes "bad_tokens" ∷ []

keys_of_counts : (gives : Bool) (c : DeviceData)
    → HaveKeys (counts_members gives c) (counts_first ++ totals_keys ++ counts_last)
keys_of_counts gives c =
    followed (named (codes "writes") (count (capped c.writes)) ∷ named (codes "reads") (count (capped c.reads))
    ∷ named (codes "calls") (count (capped c.calls)) ∷ named (codes "refused") (count (capped c.refused))
    ∷ named (codes "refusals") (count (capped c.refusals)) ∷ []) (others_members gives c.others)
    (counts_first ++ totals_keys) counts_last (tested _ _ refl) (keys_of_others gives c.others)

-- ---- objects

module _ (below : Below) where
  -- members after the head that are known
  after_head : (head : Head) (kind : List ℕ) (more : List Member) → IsHead head → are_bytes kind ≡ true → AreFine more
      → are_part (keys more) rest_keys ≡ true → IsJsonObject (head_members head kind ++ more)
  after_head head kind more is plain fine test =
      json below (head_members head kind ++ more)
      (fine_of_both (head_members head kind) more (fine_head below.numbers head kind is plain) fine)
      (followed (head_members head kind) more head_keys rest_keys (keys_of_head head kind) (tested more rest_keys test))

  pub write_is_json : (seen : SeenData) (head : Head) (part parts : ℕ) (p : PartData) → IsHead head → IsCount part
      → IsCount parts → IsData seen p.addr p.code p.bytes → IsJsonObject (write_object seen head part parts p).members
  write_is_json seen head part parts p placed part_few parts_few given =
      -- the four lists: where it begins and the part, the device, the command, the bytes and what they
      -- say
      let said : List Member = said_of seen access.Write p.addr p.code p.bytes in
      let bytes : List Member = named (codes "bytes") (digits p.bytes) ∷ named (codes "pec") (boolean p.pec) ∷ [] in
      let begin : List Member = head_members head (codes "write") in
      let front : List Member = begin ++ part_members part parts in
      let device : List Member = device_members seen.profile p.addr in
      let command : List Member = command_members seen p.addr p.code in
      json below (write_object seen head part parts p).members
      -- each can be written,
      (fine_in_row front device command (bytes ++ said)
      (fine_of_both begin (part_members part parts) (fine_head below.numbers head (codes "write") placed refl)
      (fine_part below.numbers part parts part_few parts_few))
      (fine_device seen.profile p.addr given.device.bus) (fine_command below.numbers seen p.addr p.code given.device) (
        fine_digits (codes "bytes") p.bytes refl,
        (
          fine_boolean (codes "pec") p.pec refl,
          fine_said below.lowest below.decimals below.says seen access.Write p.addr p.code p.bytes
              given.device.bus given.formats given.small,
        ),
      ))
      -- and has its keys, in the order of all
      (in_order front device command (bytes ++ said) (keys_of_part_front head (codes "write") part parts)
      (keys_of_to seen.profile p.addr)
      (behind_refused [] command (tested [] refused_keys refl) (keys_of_command seen p.addr p.code))
      (followed bytes said bytes_keys meaning_keys (tested _ bytes_keys refl)
      (below.meaning seen access.Write p.addr p.code p.bytes given.device.bus)))

  pub read_is_json : (seen : SeenData) (head : Head) (t : ReadData) → IsHead head → IsData seen t.addr t.code t.reply
      → IsJsonObject (read_object seen head t).members
  read_is_json seen head t placed given =
      let said : List Member = said_of seen access.Read t.addr t.code t.reply in
      let bytes : List Member = named (codes "bytes") (digits t.reply) ∷ named (codes "pec") (boolean t.pec) ∷ [] in
      let begin : List Member = head_members head (codes "read") in
      let device : List Member = device_members seen.profile t.addr in
      let command : List Member = command_members seen t.addr t.code in
      json below (read_object seen head t).members
      (fine_in_row begin device command (bytes ++ said) (fine_head below.numbers head (codes "read") placed refl)
      (fine_device seen.profile t.addr given.device.bus) (fine_command below.numbers seen t.addr t.code given.device) (
        fine_digits (codes "bytes") t.reply refl,
        (
          fine_boolean (codes "pec") t.pec refl,
          fine_said below.lowest below.decimals below.says seen access.Read t.addr t.code t.reply
              given.device.bus given.formats given.small,
        ),
      ))
      (in_order begin device command (bytes ++ said) (keys_of_front head (codes "read"))
      (keys_of_to seen.profile t.addr)
      (behind_refused [] command (tested [] refused_keys refl) (keys_of_command seen t.addr t.code))
      (followed bytes said bytes_keys meaning_keys (tested _ bytes_keys refl)
      (below.meaning seen access.Read t.addr t.code t.reply given.device.bus)))

  pub call_is_json : (seen : SeenData) (head : Head) (t : CallData) → IsHead head → IsSeen seen t.addr
      → IsJsonObject (call_object seen head t).members
  call_is_json seen head t placed is =
      let says : List Member = call_says seen t.addr t.code t.bytes t.reply in
      let bytes : List Member = named (codes "sent") (digits t.bytes) ∷ named (codes "reply") (digits t.reply)
      ∷ named (codes "pec") (boolean t.pec) ∷ [] in
      let begin : List Member = head_members head (codes "call") in
      let device : List Member = device_members seen.profile t.addr in
      let command : List Member = command_members seen t.addr t.code in
      let first_keys : List (List ℕ) = bytes_keys ++ data_keys in
      json below (call_object seen head t).members
      (fine_in_row begin device command (bytes ++ says) (fine_head below.numbers head (codes "call") placed refl)
      (fine_device seen.profile t.addr is.bus) (fine_command below.numbers seen t.addr t.code is) (
        fine_digits (codes "sent") t.bytes refl,
        (
          fine_digits (codes "reply") t.reply refl,
          (
            fine_boolean (codes "pec") t.pec refl,
            fine_call below.says seen t.addr t.code t.bytes t.reply is.bus,
          ),
        ),
      ))
      (in_order begin device command (bytes ++ says) (keys_of_front head (codes "call"))
      (keys_of_to seen.profile t.addr)
      (behind_refused [] command (tested [] refused_keys refl) (keys_of_command seen t.addr t.code))
      (followed bytes says first_keys says_key (tested _ first_keys refl)
      (keys_of_call below.says seen t.addr t.code t.bytes t.reply is.bus)))

  pub refused_is_json : (seen : SeenData) (head : Head) (parts addr : ℕ) (bytes : List ℕ) (at_read : Bool)
      → IsHead head → IsCount parts → IsSeen seen addr
      → IsJsonObject (refused_object seen head parts addr bytes at_read).members
  refused_is_json seen head parts addr bytes at_read placed parts_few is =
      let named_device : Option DeviceParts = device_with addr seen.profile in
      let leg : List Member = named (codes "sent") (digits bytes) ∷ [] in
      let check : List Member = refused_check addr named_device bytes at_read in
      let what : List Member = named (codes "refused") (string (refused_name bytes at_read)) ∷ [] in
      let begin : List Member = head_members head (codes "refused") in
      let front : List Member = begin ++ part_members parts parts in
      let device : List Member = device_members seen.profile addr in
      let command : List Member = sent_command seen addr bytes in
      json below (refused_object seen head parts addr bytes at_read).members
      (fine_in_row front device (what ++ command) (leg ++ check)
      (fine_of_both begin (part_members parts parts) (fine_head below.numbers head (codes "refused") placed refl)
      (fine_part below.numbers parts parts parts_few parts_few)) (fine_device seen.profile addr is.bus) (
        fine_text (codes "refused") (refused_name bytes at_read) refl (name_is_bytes bytes at_read),
        fine_sent_command below.numbers seen addr bytes is,
      )
      (fine_digits (codes "sent") bytes refl, fine_check addr named_device bytes at_read))
      (in_order front device (what ++ command) (leg ++ check) (keys_of_part_front head (codes "refused") parts parts)
      (keys_of_to seen.profile addr)
      (behind_refused what command (tested _ refused_keys refl) (keys_of_sent_command seen addr bytes))
      (followed leg check sent_keys check_keys (tested _ sent_keys refl)
      (keys_of_check addr named_device bytes at_read)))

  pub alert_is_json : (profile : List DeviceParts) (head : Head) (t : AlertData) → IsBus profile → IsHead head
      → IsJsonObject (alert_object profile head t).members
  alert_is_json profile head t bus placed =
      let begin : List Member = head_members head (codes "alert") in
      let device : List Member = device_members profile (t.byte / 2) in
      let bytes : List Member = named (codes "byte") (digits (t.byte ∷ []))
      ∷ named (codes "pec") (boolean t.pec) ∷ [] in
      json below (alert_object profile head t).members
      (fine_of_both (begin ++ device) bytes (fine_of_both begin device
      (fine_head below.numbers head (codes "alert") placed refl) (fine_device profile (t.byte / 2) bus)) (
        fine_digits (codes "byte") (t.byte ∷ []) refl,
        (fine_boolean (codes "pec") t.pec refl, tt),
      ))
      (followed (begin ++ device) bytes (front_keys ++ device_keys) said_last
      (followed begin device front_keys device_keys (keys_of_front head (codes "alert"))
      (keys_of_to profile (t.byte / 2)))
      (tested bytes said_last refl))

  pub no_alert_is_json : (head : Head) → IsHead head → IsJsonObject (no_alert_object head).members
  no_alert_is_json head placed =
      after_head head (codes "alert") (named (codes "device") null ∷ []) placed refl
      (fine_null (codes "device") refl, tt) refl

  pub other_is_json : (head : Head) (addr : ℕ) → IsHead head → IsJsonObject (other_object head addr).members
  other_is_json head addr placed =
      after_head head (codes "other") (device_member addr) placed refl
      (fine_digits (codes "device") (addr ∷ []) refl, tt) refl

  pub refusal_is_json : (seen : SeenData) (head : Head) (front : List Event) (event : Option Event) (reason : Reason)
      (expected : Kinds) → IsHead head → IsBus seen.profile → IfSome (written_to front) (IsSeen seen)
      → IsJsonObject (refusal_object seen head front event reason expected).members
  refusal_is_json seen head front event reason expected placed bus is =
      -- the five lists: where it begins, why, what was written, the reply, the right packet error
      -- code
      let device : List Member = said_device_members seen.profile (said_device front) in
      let written : List Member = written_members seen (written_to front) (sent front) in
      let replied : List Member = reply_members (reply front) in
      let right : List Member = right_pec_members (due_pec reason front event) in
      let begin : List Member = head_members head (codes "refusal") in
      let why : List Member = named (codes "reason") (string (reason_name reason))
      ∷ named (codes "expected") (array_of (map string (kind_names expected)))
      ∷ named (codes "got") (got_value event) ∷ device in
      let why_keys : List (List ℕ) = part_keys ++ said_first ++ said_keys in
      json below (refusal_object seen head front event reason expected).members
      -- each can be written,
      (fine_in_row (begin ++ why) written replied right
      (fine_of_both begin why (fine_head below.numbers head (codes "refusal") placed refl) (
        fine_text (codes "reason") (reason_name reason) refl (reason_is_bytes reason),
        (
          fine_texts (codes "expected") (kind_names expected) refl (kinds_are_bytes expected),
          (fine_got event, fine_said_device seen.profile (said_device front) bus),
        ),
      ))
      (fine_written below seen (written_to front) (sent front) is) (fine_reply (reply front))
      (fine_right_pec (due_pec reason front event)))
      -- and has its keys, in the order of all
      (keys_in_row (begin ++ why) written replied right (head_keys ++ why_keys) (command_keys ++ sent_keys)
      (codes "reply" ∷ []) due_keys
      (followed begin why head_keys why_keys (keys_of_head head (codes "refusal"))
      (keys_of_why (string (reason_name reason)) (array_of (map string (kind_names expected)))
      (got_value event) device (keys_of_said_device seen.profile (said_device front))))
      (keys_of_written seen (written_to front) (sent front)) (keys_of_reply (reply front))
      (keys_of_right_pec (due_pec reason front event)))

  pub bad_token_is_json : (head : Head) (word : List ℕ) → IsHead head → AreBytes word
      → IsJsonObject (bad_token_object head word).members
  bad_token_is_json head word placed small =
      after_head head (codes "bad_token") (named (codes "word") (string (take 32 word)) ∷ []) placed refl
      (fine_text (codes "word") (take 32 word) refl (front_is_bytes 32 word small), tt) refl

  -- ---- the last ones

  fine_capped : (key : List ℕ) (n : ℕ) → are_bytes key ≡ true → IsFine (named key (count (capped n)))
  fine_capped key n plain = fine_count below.numbers key (capped n) plain (few n)

  fine_others : (gives : Bool) (n : ℕ) → AreFine (others_members gives n)
  fine_others false n = tt
  fine_others true n = (fine_capped (codes "others") n refl, tt)

  pub counts_are_json : (profile : List DeviceParts) (gives_others : Bool) (addr : ℕ) (c : DeviceData) → IsBus profile
      → IsJsonObject (counts_object profile gives_others addr c).members
  counts_are_json profile gives_others addr c bus =
      let kind : List Member = kind_member (codes "device") in
      let device : List Member = device_members profile addr in
      json below (counts_object profile gives_others addr c).members
      (fine_of_both (kind ++ device) (counts_members gives_others c)
      (fine_word (codes "kind") (codes "device") refl refl, fine_device profile addr bus) (
        fine_capped (codes "writes") c.writes refl,
        (
          fine_capped (codes "reads") c.reads refl,
          (
            fine_capped (codes "calls") c.calls refl,
            (
              fine_capped (codes "refused") c.refused refl,
              (fine_capped (codes "refusals") c.refusals refl, fine_others gives_others c.others),
            ),
          ),
        ),
      ))
      (followed (kind ++ device) (counts_members gives_others c) (front_keys ++ (said_first ++ name_keys))
      (counts_first ++ totals_keys ++ counts_last)
      (followed kind device front_keys (said_first ++ name_keys) (tested _ front_keys refl)
      (within said_first name_keys [] device (keys_of_device profile addr)))
      (keys_of_counts gives_others c))

  pub end_is_json : (gives_others : Bool) (c : CountsData) → IsJsonObject (end_object gives_others c).members
  end_is_json gives_others c =
      let totals : List Member = kind_member (codes "end") ++ named (codes "packets") (count (capped c.packets))
      ∷ named (codes "refusals") (count (capped c.refusals))
      ∷ named (codes "bad_tokens") (count (capped c.bad_tokens)) ∷ [] in
      let first_keys : List (List ℕ) = front_keys ++ device_keys ++ totals_keys in
      json below (end_object gives_others c).members (
        fine_word (codes "kind") (codes "end") refl refl,
        (
          fine_capped (codes "packets") c.packets refl,
          (
            fine_capped (codes "refusals") c.refusals refl,
            (fine_capped (codes "bad_tokens") c.bad_tokens refl, fine_others gives_others c.others),
          ),
        ),
      )
      (followed totals (others_members gives_others c.others) first_keys counts_last (tested _ first_keys refl)
      (keys_of_others gives_others c.others))
