-- A host that was just made has what it needs of its task (`Suits`): few signals, addresses of
-- seven bits, and a reply with a first byte. For `Host::reader`, `Host::caller`, `Host::getter`,
-- `Host::of` and the law `signals_are_few`. The rules of an allowed request and of an accepted
-- profile say each of these.
use Rattle.std.proofs.Common.{◌≡◌, ℕ, ◌<◌, ◌≤◌, Bool, false, Option, Some, None, IsSome, IfSome, List, [], ◌∷◌, length}
use Rattle.std.proofs.Common.{map, refl, sym, ap, subst, ◌∙◌, arith}
use Rattle.std.specs.List.{AllByRecursion}
use Rattle.std.specs.Option.{option_and_then}
use Rattle.std.proofs.lemmas.List.{length-map}
use Rattle.pmb_bus.specs.declared.event.Event.{Event}
use Rattle.pmb_bus.specs.Address.{read_address, write_address}
use Rattle.pmb_command.specs.declared.form.Form.{Form}
use Rattle.pmb_command.specs.declared.form.Form.TheVariants.{Zero, One, Two, Four, Eight, Block}
use Rattle.pmb_command.specs.Bus.{IsBus, IsDevice}
use Rattle.pmb_command.specs.Fitting.{same_form}
use Rattle.pmb_command.specs.Parts.{DeviceParts, command_with, device_with}
use Rattle.pmb_command.specs.Wire.{Fits, wire_length}
use Rattle.pmb_transaction.specs.Body.{forms, shape_of}
use Rattle.pmb_transaction.specs.Packet.{PartsEvents, WritePacket}
use Rattle.pmb_transaction.specs.Transaction.{CallData, PartData, ReadData, TransactionData, Write, Read, Call}
use Rattle.pmb_transaction.specs.Transaction.{transaction_data}
use Rattle.pmb_transaction.proofs.Known.{call_has_data, device_is, read_has_data}
use Rattle.pmb_writer.specs.Invalid.{forms_at}
use Rattle.pmb_request.specs.Request.{RequestData, WriteParts, ReadBytes, CallBytes, Set, Get}
use Rattle.pmb_host.specs.declared.host.Host.{Host}
use Rattle.pmb_value.specs.declared.number_format.NumberFormat.{NumberFormat}
use Rattle.pmb_host.specs.declared.reply.Incoming.{Incoming}
use Rattle.pmb_host.specs.Rules.{IsAllowed}
use Rattle.pmb_host.specs.Signals.{AreRead, legs_of, part_bytes, reply_form, reply_has_pec, signals, wire_in}
use Rattle.pmb_host.specs.Task.{task_of}
use Rattle.pmb_host.specs.machine.Standing.{AreAddresses, AtLeg, HasJob, IsIncoming, Job}
use Rattle.pmb_host.proofs.Behind.{pec_of_none}
use Rattle.pmb_host.proofs.Counts.{IsSmallPart, fits_short, parts_short, read_short, signals_length, two_legs}
use Rattle.pmb_host.proofs.Counts.{wire_in_short}

-- What a host needs of a task: few signals, addresses of seven bits, a reply with a first byte,
-- and a first leg.
pub record Suits (profile : List DeviceParts) (task : TransactionData) : Type 0 where
  -- 4,161 is the greatest number of signals (`signals_are_few`)
  pub few : (bytes : List ℕ) → AreRead (reply_form profile task) (reply_has_pec task) bytes
      → length (signals (legs_of profile task) bytes) ≤ 4161
  pub addresses : AreAddresses task
  -- a write has at most 16 parts
  pub few_legs : length (legs_of profile task) ≤ 16
  -- the reply has a byte at least
  pub some : IfSome (reply_form profile task) (λ form. 0 < wire_length form [])
  -- the first leg, and the others
  pub leg : List ℕ
  pub others : List (List ℕ)
  pub legs_are : legs_of profile task ≡ leg ∷ others

-- ---- the tasks

module _ (profile : List DeviceParts) where
  seven_bits : (parts : List PartData) → AllByRecursion IsSmallPart parts
      → AllByRecursion (λ part. part.addr < 128) parts
  seven_bits [] small = tt
  seven_bits (part ∷ parts) small = (small.0.seven_bits, seven_bits parts small.1)

  -- a write of up to 16 parts
  parts_suit : (part : PartData) (parts : List PartData) → AllByRecursion IsSmallPart (part ∷ parts)
      → length (part ∷ parts) ≤ 16 → Suits profile (Write (part ∷ parts))
  parts_suit part parts small few = record {
    few = λ bytes none.
        let all = signals_length (legs_of profile (Write (part ∷ parts))) bytes in
        let legs = parts_short profile (part ∷ parts) small in
        let no_bytes = ap length none in
        omega (arith, all, legs, no_bytes, few);
    addresses = seven_bits (part ∷ parts) small;
    few_legs = let many = length-map (part ∷ parts) (part_bytes profile) in omega (arith, many, few);
    some = tt;
    leg = part_bytes profile part;
    others = map (part_bytes profile) parts;
    legs_are = refl;
  }

  read_suits : (t : ReadData) → t.addr < 128
      → IfSome (forms_at profile t.addr t.code).read (λ form. 0 < wire_length form []) → Suits profile (Read t)
  read_suits t small first = record {
    few = λ bytes all.
        let count = signals_length (legs_of profile (Read t)) bytes in
        let reply = read_short (forms_at profile t.addr t.code).read t.pec bytes all in
        let legs = two_legs (write_address t.addr) t.code (read_address t.addr) [] in
        omega (arith, count, reply, legs);
    addresses = small;
    few_legs = omega arith;
    some = first;
    leg = write_address t.addr ∷ t.code ∷ [];
    others = (read_address t.addr ∷ []) ∷ [];
    legs_are = refl;
  }

  call_suits : (t : CallData) → t.addr < 128 → length t.bytes ≤ 255
      → IfSome (forms_at profile t.addr t.code).call (λ form. 0 < wire_length form []) → Suits profile (Call t)
  call_suits t small short first = record {
    few = λ bytes all.
        let form = (forms_at profile t.addr t.code).call in
        let count = signals_length (legs_of profile (Call t)) bytes in
        let reply = read_short form t.pec bytes all in
        let legs = two_legs (write_address t.addr) t.code (read_address t.addr) (wire_in form t.bytes) in
        let content = wire_in_short form t.bytes in
        omega (arith, count, reply, legs, content, short);
    addresses = small;
    few_legs = omega arith;
    some = first;
    leg = write_address t.addr ∷ t.code ∷ wire_in (forms_at profile t.addr t.code).call t.bytes;
    others = (read_address t.addr ∷ []) ∷ [];
    legs_are = refl;
  }

-- ---- what the rules say

-- a form with data has a first byte
has_first : (form : Form) → same_form form Zero ≡ false → 0 < wire_length form []
has_first Zero some = absurd (cc some)
has_first One some = omega arith
has_first Two some = omega arith
has_first Four some = omega arith
has_first Eight some = omega arith
has_first Block some = omega arith

module _ (profile : List DeviceParts) (bus : IsBus profile) where
  -- a known device has an address of seven bits
  known_seven_bits : (addr : ℕ) (device : DeviceParts) → device_with addr profile ≡ Some device → addr < 128
  known_seven_bits addr device known =
      let it = device_is profile addr device bus known in
      let greatest = it.0.address.greatest in
      let same = it.1 in
      omega (arith, greatest, same)

  some_seven_bits : (addr : ℕ) (found : Option DeviceParts) → device_with addr profile ≡ found → IsSome found
      → addr < 128
  some_seven_bits addr None is some = absurd (cc some)
  some_seven_bits addr (Some device) is some = known_seven_bits addr device is

  address_is_small : (addr : ℕ) → IsSome (device_with addr profile) → addr < 128
  address_is_small addr some = some_seven_bits addr (device_with addr profile) refl some

  -- a reply has a first byte
  read_first : (code : ℕ) (device : DeviceParts) → IsDevice device → (form : Option Form)
      → (forms device code).read ≡ form → IfSome form (λ form. 0 < wire_length form [])
  read_first code device is None of_code = tt
  read_first code device is (Some form) of_code = has_first form (read_has_data device code form is of_code)

  call_first : (code : ℕ) (device : DeviceParts) → IsDevice device → (form : Option Form)
      → (forms device code).call ≡ form → IfSome form (λ form. 0 < wire_length form [])
  call_first code device is None of_code = tt
  call_first code device is (Some form) of_code = has_first form (call_has_data device code form is of_code)

  found_read_first : (addr code : ℕ) (found : Option DeviceParts) → device_with addr profile ≡ found
      → IfSome (shape_of (option_and_then (λ device. command_with code device.commands) found)).read
      (λ form. 0 < wire_length form [])
  found_read_first addr code None is = tt
  found_read_first addr code (Some device) is = read_first code device (device_is profile addr device bus is).0
      (forms device code).read refl

  found_call_first : (addr code : ℕ) (found : Option DeviceParts) → device_with addr profile ≡ found
      → IfSome (shape_of (option_and_then (λ device. command_with code device.commands) found)).call
      (λ form. 0 < wire_length form [])
  found_call_first addr code None is = tt
  found_call_first addr code (Some device) is = call_first code device (device_is profile addr device bus is).0
      (forms device code).call refl

  -- the parts of a packet
  parts_small : (parts : List PartData) (events : List Event) → PartsEvents profile parts events
      → AllByRecursion IsSmallPart parts
  parts_small [] events none = tt
  parts_small (part ∷ parts) events (first, rest, split, here, later) = (
    record {
      seven_bits = known_seven_bits part.addr here.device here.known;
      short =
          fits_short here.allowed.form part.bytes here.allowed.fits;
    },
    parts_small parts rest later,
  )

  write_suits : (parts : List PartData) (events : List Event) → WritePacket profile parts events
      → Suits profile (Write parts)
  write_suits [] events packet = absurd (let some = packet.some in omega (arith, some))
  write_suits (part ∷ parts) events packet =
      parts_suit profile part parts (parts_small (part ∷ parts) packet.legs packet.each) packet.few

  -- data that fit are short
  fitting_short : (form : Option Form) (bytes : List ℕ) → IsSome form → IfSome form (λ form. Fits form bytes)
      → length bytes ≤ 255
  fitting_short None bytes some fits = absurd (cc some)
  fitting_short (Some form) bytes some fits = fits_short form bytes fits

  pub asked_suits : (request : RequestData) (word : ℕ) (number : Option NumberFormat)
      → IsAllowed profile request word number → Suits profile (task_of request word)
  asked_suits (WriteParts parts) word number allowed = write_suits parts allowed.0.0 allowed.0.1
  asked_suits (ReadBytes c) word number allowed =
      read_suits profile _ (address_is_small c.addr allowed.0.0)
      (found_read_first c.addr c.code (device_with c.addr profile) refl)
  asked_suits (CallBytes c bytes) word number allowed =
      call_suits profile _ (address_is_small c.addr allowed.0.0)
      (fitting_short (forms_at profile c.addr c.code).call bytes allowed.0.1.1.0 allowed.0.1.1.1.0)
      (found_call_first c.addr c.code (device_with c.addr profile) refl)
  asked_suits (Set c value mode) word number allowed =
      parts_suit profile _ [] (
        record { seven_bits = address_is_small c.addr allowed.0.kept.0; short = omega arith },
        tt,
      ) (omega arith)
  asked_suits (Get c mode) word number allowed =
      read_suits profile _ (address_is_small c.addr allowed.0.0)
      (found_read_first c.addr c.code (device_with c.addr profile) refl)

-- ---- the host

-- it has its job
pub has_job : (host : Host) (job : Job) (request : RequestData) (word : ℕ) → host.profile.now ≡ job.profile
    → transaction_data host.transaction ≡ job.task → host.number ≡ job.number
    → job.task ≡ task_of request word → IsAllowed job.profile request word job.number → IsBus job.profile
    → Suits job.profile job.task → HasJob host job
has_job host job request word profile task number task_is allowed bus suits = record {
  accepted = bus;
  profile_is = profile;
  task_is = task;
  number_is = number;
  asked = record { request = request; word = word; task_is = task_is; allowed = allowed };
  few = suits.few;
  addresses = suits.addresses;
  few_legs = suits.few_legs;
  some = suits.some;
}

-- its first leg comes next
pub at_first_leg : (host : Host) (job : Job) → HasJob host job → Suits job.profile job.task
    → IsIncoming host.reply (reply_form job.profile job.task) (reply_has_pec job.task) []
    → host.fault ≡ None → host.leg ≡ 0 → host.crc ≡ 0 → AtLeg host job []
at_first_leg host job has suits empty not_failed leg crc = record {
  writing = record { job_is = has; well = tt; nothing = refl; empty = empty; not_failed = not_failed };
  before = [];
  leg = suits.leg;
  behind = suits.others;
  legs_are = suits.legs_are;
  leg_is = leg;
  sent_is = refl;
  crc_is = λ reads. crc ∙ sym pec_of_none;
}

-- a reply of a form that was found is empty
pub empty_reply : (reply : Incoming) (found : Option Form) (form : Form) (with_pec : Bool) → found ≡ Some form
    → reply.form ≡ form → reply.pec ≡ with_pec → reply.bytes.items ≡ []
    → IsIncoming (Some reply) found with_pec []
empty_reply reply found form with_pec is of_form of_pec none =
    subst (λ (o : Option Form). IsIncoming (Some reply) o with_pec []) (sym is) (of_form, of_pec, none)
