-- What the objects of a refused leg, of a refusal and of a bad token have beside others: it can be
-- written, and which keys it has. For the law `objects_are_json`, by Each.
use Rattle.std.proofs.Common.{ℕ, zero, suc, Bool, true, false, nat_eq, Option, Some, None, List, [], ◌∷◌, ◌++◌, codes}
use Rattle.std.proofs.Common.{refl, take}
use Rattle.std.specs.Prelude.{IfSome}
use Rattle.std.specs.List.{AllByRecursion}
use Rattle.pmb_bus.specs.declared.event.Event.{Event}
use Rattle.pmb_bus.specs.declared.event.Event.TheVariants.{Start, Byte, Ack, Nack, Stop}
use Rattle.pmb_bus.specs.declared.kinds.Kinds.{Kinds}
use Rattle.pmb_bus.specs.Address.{write_address}
use Rattle.pmb_bus.specs.Kinds.{holds}
use Rattle.pmb_bus.specs.Pec.{pec}
use Rattle.pmb_command.specs.Bus.{IsBus}
use Rattle.pmb_command.specs.Parts.{DeviceParts}
use Rattle.pmb_json_text.specs.Json.{Json}
use Rattle.pmb_json_text.specs.Member.{Member, digits, named}
use Rattle.pmb_json_text.specs.Spelling.{AreBytes}
use Rattle.pmb_partial_packet.specs.PartialPacket.{but_last}
use Rattle.pmb_transaction.specs.declared.reason.Reason.{Reason}
use Rattle.pmb_transaction.specs.declared.reason.Reason.TheVariants.{ReadFirst, BadRestart, BadPec, UnknownDevice}
use Rattle.pmb_transaction.specs.declared.reason.Reason.TheVariants.{UnknownCommand, TooLong, TooShort, WrongEvent}
use Rattle.pmb_transaction.specs.declared.reason.Reason.TheVariants.{Truncated}
use Rattle.pmb_transaction.specs.Names.{kind_names, reason_name, with_name}
use Rattle.pmb_json_objects.specs.Laws.{IsSeen}
use Rattle.pmb_json_objects.specs.Members.{device_members, sent_command}
use Rattle.pmb_json_objects.specs.Names.{got_value}
use Rattle.pmb_json_objects.specs.Packets.{checked_members, is_whole_write, last_byte, refused_check, refused_name}
use Rattle.pmb_json_objects.specs.Packets.{right_members}
use Rattle.pmb_json_objects.specs.Refusals.{reply_members, right_pec_members, said_device_members, written_members}
use Rattle.pmb_json_objects.specs.Seen.{SeenData}
use Rattle.pmb_json_objects.proofs.Below.{Below, meaning_keys, refused_keys}
use Rattle.pmb_json_objects.proofs.Fine.{AreFine, IsFine, fine_digits, fine_null, fine_of_both, fine_text, fine_word}
use Rattle.pmb_json_objects.proofs.Fine.{of_either, tested_bytes}
use Rattle.pmb_json_objects.proofs.Keys.{HaveKeys, followed, keys_of_either, tested, within}
use Rattle.pmb_json_objects.proofs.Shared.{command_keys, fine_device, fine_sent_command, keys_of_device}
use Rattle.pmb_json_objects.proofs.Shared.{keys_of_sent_command, name_keys}

-- ---- a refused leg

pub name_is_bytes : (sent : List ℕ) (at_read : Bool) → AreBytes (refused_name sent at_read)
name_is_bytes sent true = tested_bytes (codes "read address") refl
name_is_bytes [] false = tested_bytes (codes "address") refl
name_is_bytes (code ∷ []) false = tested_bytes (codes "code") refl
name_is_bytes (code ∷ b ∷ bytes) false = tested_bytes (codes "byte") refl

fine_right : (code right : ℕ) → AreFine (right_members code right)
fine_right code right = (
  fine_text (codes "pec") _ refl (of_either AreBytes (nat_eq code right) (codes "right") (codes "wrong")
      (tested_bytes (codes "right") refl) (tested_bytes (codes "wrong") refl)),
  (fine_digits (codes "right_pec") (right ∷ []) refl, tt),
)

fine_checked : (addr : ℕ) (device : Option DeviceParts) (front : List ℕ) (last : Option ℕ)
    → AreFine (checked_members addr device front last)
fine_checked addr device front None = tt
fine_checked addr device front (Some last) =
    let right : ℕ = pec (write_address addr ∷ front) in
    of_either AreFine (is_whole_write device front) (right_members last right) [] (fine_right last right) tt

pub fine_check : (addr : ℕ) (device : Option DeviceParts) (sent : List ℕ) (at_read : Bool)
    → AreFine (refused_check addr device sent at_read)
fine_check addr device sent true = tt
fine_check addr device sent false = fine_checked addr device (but_last sent) (last_byte sent)

abbrev pub check_keys : List (List ℕ)
check_keys = codes "reply" ∷ codes "pec" ∷ codes "right_pec" ∷ codes "word" ∷ meaning_keys

keys_of_checked : (addr : ℕ) (device : Option DeviceParts) (front : List ℕ) (last : Option ℕ)
    → HaveKeys (checked_members addr device front last) check_keys
keys_of_checked addr device front None = tested [] check_keys refl
keys_of_checked addr device front (Some last) =
    let right : ℕ = pec (write_address addr ∷ front) in
    keys_of_either (is_whole_write device front) (right_members last right) [] check_keys (tested _ check_keys refl)
    (tested [] check_keys refl)

pub keys_of_check : (addr : ℕ) (device : Option DeviceParts) (sent : List ℕ) (at_read : Bool)
    → HaveKeys (refused_check addr device sent at_read) check_keys
keys_of_check addr device sent true = tested [] check_keys refl
keys_of_check addr device sent false = keys_of_checked addr device (but_last sent) (last_byte sent)

-- ---- a refusal

pub reason_is_bytes : (reason : Reason) → AreBytes (reason_name reason)
reason_is_bytes ReadFirst = tested_bytes (codes "ReadFirst") refl
reason_is_bytes BadRestart = tested_bytes (codes "BadRestart") refl
reason_is_bytes BadPec = tested_bytes (codes "BadPec") refl
reason_is_bytes UnknownDevice = tested_bytes (codes "UnknownDevice") refl
reason_is_bytes UnknownCommand = tested_bytes (codes "UnknownCommand") refl
reason_is_bytes TooLong = tested_bytes (codes "TooLong") refl
reason_is_bytes TooShort = tested_bytes (codes "TooShort") refl
reason_is_bytes WrongEvent = tested_bytes (codes "WrongEvent") refl
reason_is_bytes Truncated = tested_bytes (codes "Truncated") refl

with_bytes : (b : Bool) (name : List ℕ) (names : List (List ℕ)) → AreBytes name → AllByRecursion AreBytes names
    → AllByRecursion AreBytes (with_name b name names)
with_bytes true name names here all = (here, all)
with_bytes false name names here all = all

pub kinds_are_bytes : (kinds : Kinds) → AllByRecursion AreBytes (kind_names kinds)
kinds_are_bytes kinds =
    with_bytes (holds kinds Start) (codes "Start") _ (tested_bytes (codes "Start") refl)
    (with_bytes (holds kinds (Byte 0)) (codes "Byte") _ (tested_bytes (codes "Byte") refl)
    (with_bytes (holds kinds Ack) (codes "Ack") _ (tested_bytes (codes "Ack") refl)
    (with_bytes (holds kinds Nack) (codes "Nack") _ (tested_bytes (codes "Nack") refl)
    (with_bytes (holds kinds Stop) (codes "Stop") [] (tested_bytes (codes "Stop") refl) tt))))

pub fine_got : (event : Option Event) → IsFine (named (codes "got") (got_value event))
fine_got None = fine_null (codes "got") refl
fine_got (Some Start) = fine_word (codes "got") (codes "Start") refl refl
fine_got (Some (Byte b)) = fine_digits (codes "got") (b ∷ []) refl
fine_got (Some Ack) = fine_word (codes "got") (codes "Ack") refl refl
fine_got (Some Nack) = fine_word (codes "got") (codes "Nack") refl refl
fine_got (Some Stop) = fine_word (codes "got") (codes "Stop") refl refl

pub fine_said_device : (profile : List DeviceParts) (device : Option ℕ) → IsBus profile
    → AreFine (said_device_members profile device)
fine_said_device profile None bus = tt
fine_said_device profile (Some addr) bus = fine_device profile addr bus

pub fine_reply : (bytes : Option (List ℕ)) → AreFine (reply_members bytes)
fine_reply None = tt
fine_reply (Some bytes) = (fine_digits (codes "reply") bytes refl, tt)

pub fine_right_pec : (right : Option ℕ) → AreFine (right_pec_members right)
fine_right_pec None = tt
fine_right_pec (Some right) = (fine_digits (codes "right_pec") (right ∷ []) refl, tt)

pub fine_written : Below → (seen : SeenData) (addr : Option ℕ) (bytes : Option (List ℕ)) → IfSome addr (IsSeen seen)
    → AreFine (written_members seen addr bytes)
fine_written below seen None bytes is = tt
fine_written below seen (Some addr) None is = tt
fine_written below seen (Some addr) (Some bytes) is =
    fine_of_both (sent_command seen addr bytes) (named (codes "sent") (digits bytes) ∷ [])
    (fine_sent_command below.numbers seen addr bytes is) (fine_digits (codes "sent") bytes refl, tt)

abbrev pub said_keys : List (List ℕ)
said_keys = codes "device" ∷ codes "name" ∷ codes "writes" ∷ codes "reads" ∷ codes "calls" ∷ codes "packets"
    ∷ refused_keys

abbrev pub sent_keys : List (List ℕ)
sent_keys = codes "bytes" ∷ codes "byte" ∷ codes "sent" ∷ []

abbrev pub due_keys : List (List ℕ)
due_keys = codes "pec" ∷ codes "right_pec" ∷ codes "word" ∷ meaning_keys

pub keys_of_said_device : (profile : List DeviceParts) (device : Option ℕ)
    → HaveKeys (said_device_members profile device) said_keys
keys_of_said_device profile None = tested [] said_keys refl
keys_of_said_device profile (Some addr) =
    within [] name_keys (codes "writes" ∷ codes "reads" ∷ codes "calls" ∷ codes "packets" ∷ refused_keys)
    (device_members profile addr) (keys_of_device profile addr)

pub keys_of_written : (seen : SeenData) (addr : Option ℕ) (bytes : Option (List ℕ))
    → HaveKeys (written_members seen addr bytes) (command_keys ++ sent_keys)
keys_of_written seen None bytes = tested [] (command_keys ++ sent_keys) refl
keys_of_written seen (Some addr) None = tested [] (command_keys ++ sent_keys) refl
keys_of_written seen (Some addr) (Some bytes) =
    followed (sent_command seen addr bytes) (named (codes "sent") (digits bytes) ∷ []) command_keys sent_keys
    (keys_of_sent_command seen addr bytes) (tested _ sent_keys refl)

pub keys_of_reply : (bytes : Option (List ℕ)) → HaveKeys (reply_members bytes) (codes "reply" ∷ [])
keys_of_reply None = tested [] (codes "reply" ∷ []) refl
keys_of_reply (Some bytes) = tested _ (codes "reply" ∷ []) refl

pub keys_of_right_pec : (right : Option ℕ) → HaveKeys (right_pec_members right) due_keys
keys_of_right_pec None = tested [] due_keys refl
keys_of_right_pec (Some right) = tested _ due_keys refl

pub keys_of_why : (reason expected got : Json) (device : List Member) → HaveKeys device said_keys
    → HaveKeys (named (codes "reason") reason ∷ named (codes "expected") expected ∷ named (codes "got") got ∷ device)
    (codes "part" ∷ codes "parts" ∷ codes "reason" ∷ codes "expected" ∷ codes "got" ∷ said_keys)
keys_of_why reason expected got device =
    followed (named (codes "reason") reason ∷ named (codes "expected") expected ∷ named (codes "got") got ∷ []) device
    (codes "part" ∷ codes "parts" ∷ codes "reason" ∷ codes "expected" ∷ codes "got" ∷ []) said_keys
    (tested _ _ refl)

-- ---- a word

pub front_is_bytes : (n : ℕ) (bytes : List ℕ) → AreBytes bytes → AreBytes (take n bytes)
front_is_bytes zero bytes small = tt
front_is_bytes (suc n) [] small = tt
front_is_bytes (suc n) (byte ∷ bytes) small = (small.0, front_is_bytes n bytes small.1)
