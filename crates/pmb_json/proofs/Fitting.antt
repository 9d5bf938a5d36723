-- What packets say fits into their objects: addresses, codes and bytes are small, and coefficients
-- are words. For the law `each_line_is_json`, by JsonSpans. A packet's bytes are below 256 by its
-- definition, the coefficients by what acceptance tested of the profile, and PAGE and PHASE by what
-- transactions told (Telling).
use Rattle.std.proofs.Common.{ℕ, nat_eq, Option, Some, None, List, [], ◌∷◌, arith}
use Rattle.std.specs.Prelude.{IfSome}
use Rattle.pmb_bus.specs.declared.event.Event.{Event}
use Rattle.pmb_command.specs.Bus.{IsBus}
use Rattle.pmb_command.specs.Parts.{CommandParts, DeviceParts, device_with}
use Rattle.pmb_json.specs.Lines.{AllMakeFormats, MakesFormats}
use Rattle.pmb_json_text.specs.Spelling.{AreBytes}
use Rattle.pmb_json_objects.specs.Laws.{AreOfWords, AreParts, HasFormats, IsData, IsOfWords, IsSeen, IsTransaction}
use Rattle.pmb_json_objects.specs.Seen.{command_of}
use Rattle.pmb_fact_stream.specs.Choice.{ChoiceData}
use Rattle.pmb_fact_stream.specs.Lines.{seen_behind}
use Rattle.pmb_transaction.specs.Packet.{Packet}
use Rattle.pmb_transaction.specs.Transaction.{PartData, TransactionData, Write, Read, Call, Refused, Alert, NoAlert}
use Rattle.pmb_unknown_start.specs.Past.{PastData}
use Rattle.pmb_json.proofs.EachOf.{the_found}
use Rattle.pmb_json.proofs.Telling.{AllTellBytes, HaveBytes, page_is_byte, parts_have_bytes, phase_is_byte}

-- ---- coefficients

of_vout : (o : Option DeviceParts) → IfSome o MakesFormats → IfSome o (λ device. IfSome device.vout_direct AreOfWords)
of_vout None is = tt
of_vout (Some device) is = is.vout

of_kind : (code : ℕ) (o : Option DeviceParts) → IfSome o MakesFormats
    → IfSome (command_of o code) (λ c. IsOfWords c.entry.kind)
of_kind code None is = tt
of_kind code (Some device) is =
    the_found (λ (c : CommandParts). IsOfWords c.entry.kind) (λ c. nat_eq c.entry.code code) device.commands
    is.commands

-- ---- after what tells bytes

module _ (choice : ChoiceData) (profile : List DeviceParts) (bus : IsBus profile) (formats : AllMakeFormats profile)
    (before : List PastData) (tell : AllTellBytes before) where
  pub device_is_seen : (addr : ℕ) → IsSeen (seen_behind choice profile before) addr
  device_is_seen addr = record {
    bus = bus;
    page = page_is_byte choice.start profile before addr tell;
    phase = phase_is_byte profile before addr tell;
  }

  formats_are_seen : (addr code : ℕ) → HasFormats (seen_behind choice profile before) addr code
  formats_are_seen addr code =
      let is : IfSome (device_with addr profile) MakesFormats =
      the_found MakesFormats (λ d. nat_eq d.address addr) profile formats in
      record { vout = of_vout (device_with addr profile) is; kind = of_kind code (device_with addr profile) is }

  data_fit : (addr code : ℕ) (bytes : List ℕ) → AreBytes bytes
      → IsData (seen_behind choice profile before) addr code bytes
  data_fit addr code bytes small = record {
    device = device_is_seen addr;
    formats = formats_are_seen addr code;
    small =
        small;
  }

  parts_fit : (parts : List PartData) → HaveBytes parts → AreParts (seen_behind choice profile before) parts
  parts_fit [] have = tt
  parts_fit (part ∷ parts) have = (data_fit part.addr part.code part.bytes have.0, parts_fit parts have.1)

  -- what the next packet says
  pub packet_fits : (t : TransactionData) (events : List Event) → Packet profile t events
      → IsTransaction (seen_behind choice profile before) t
  packet_fits (Write parts) events packet =
      (parts_fit parts (parts_have_bytes profile parts packet.legs packet.each), omega (arith, packet.few))
  packet_fits (Read t) events packet = data_fit t.addr t.code t.reply packet.fits.small
  packet_fits (Call t) events packet = device_is_seen t.addr
  packet_fits (Refused t) events packet = (
    parts_fit t.parts (parts_have_bytes profile t.parts packet.legs packet.each),
    omega (arith, packet.few),
    device_is_seen t.addr,
  )
  packet_fits (Alert t) events packet = bus
  packet_fits NoAlert events packet = tt
