-- What the bus records of a whole request is the packet of its task. For `Host::next`. Where all
-- went well the events are known from the signals and the bytes read (`recorded_all`): legs of
-- acknowledged bytes, the reply with NACK after its last byte, and STOP. That is the packet of a
-- write, a read or a call, which a request that is allowed has.
use Rattle.std.proofs.Common.{◌≡◌, ◌≢◌, ℕ, ◌<◌, Bool, Option, Some, None, List, [], ◌∷◌, ◌++◌, map, flat_map, refl, sym}
use Rattle.std.proofs.Common.{ap, subst, ◌∙◌, arith, append_assoc}
use Rattle.std.specs.List.{IsDistinct}
use Rattle.std.specs.Prelude.{nat_eq}
use Rattle.std.specs.Option.{IsSome, IfSome, option_and_then}
use Rattle.pmb_bus.specs.declared.event.Event.{Event}
use Rattle.pmb_bus.specs.declared.event.Event.TheVariants as events
use Rattle.pmb_bus.specs.Address.{read_address, write_address}
use Rattle.pmb_command.specs.Bus.{IsBus}
use Rattle.pmb_command.specs.declared.form.Form.{Form}
use Rattle.pmb_command.specs.declared.form.Form.TheVariants.{Two}
use Rattle.pmb_command.specs.Parts.{DeviceParts, command_with, device_with}
use Rattle.pmb_command.specs.PecMode.{AllowsPec}
use Rattle.pmb_command.specs.Wire.{Fits, wire}
use Rattle.pmb_transaction.specs.Transaction.{PartData, TransactionData}
use Rattle.pmb_transaction.specs.Body.{checked, forms, shape_of}
use Rattle.pmb_transaction.specs.Packet.{CallPacket, Packet, PartEvents, PartsEvents, ReadPacket, WritePacket, acked}
use Rattle.pmb_transaction.specs.Packet.{leg, nacked}
use Rattle.pmb_writer.specs.Invalid.{forms_at, keeps_mode}
use Rattle.pmb_device.specs.declared.signal.HostSignal.{HostSignal}
use Rattle.pmb_device.specs.declared.signal.HostSignal.TheVariants.{Start, Byte, Ask, Ack, Nack, Stop}
use Rattle.pmb_device.specs.declared.signal.DeviceSignal.{DeviceSignal}
use Rattle.pmb_device.specs.declared.signal.DeviceSignal.TheVariants as answers
use Rattle.pmb_devices.specs.Bus.{AnsweredSignal, acknowledged, recorded, recorded_events}
use Rattle.pmb_request.specs.Request.{Command, RequestData, WriteParts, ReadBytes, CallBytes, Set, Get}
use Rattle.pmb_value.specs.declared.number_format.NumberFormat.{NumberFormat}
use Rattle.pmb_host.specs.Rules.{HasNumber, IsAllowed}
use Rattle.pmb_host.specs.Signals.{Say, SayReply, leg_signals, legs_of, part_bytes, reading_signals, wire_in}
use Rattle.pmb_host.specs.Steps.{Completes, GoWell, IsGood, SaysReply, byte_of, bytes_read, sent_signals}
use Rattle.pmb_host.specs.Task.{replied, task_of, word_bytes}
use Rattle.pmb_transaction.proofs.Known.{device_is}
use Rattle.pmb_host.proofs.Words.{set_is_word, word_fits}

-- ---- events of signals

-- the events of signals that are answered well, where these bytes are given
abbrev events_of : List HostSignal → List ℕ → List Event
events_of [] read = []
events_of (Start ∷ more) read = events.Start ∷ events_of more read
events_of (Byte b ∷ more) read = events.Byte b ∷ events.Ack ∷ events_of more read
events_of (Ask ∷ more) [] = events_of more []
events_of (Ask ∷ more) (b ∷ read) = events.Byte b ∷ events_of more read
events_of (Ack ∷ more) read = events.Ack ∷ events_of more read
events_of (Nack ∷ more) read = events.Nack ∷ events_of more read
events_of (Stop ∷ more) read = events.Stop ∷ events_of more read

-- those of one signal are recorded before the others
recorded_first : (signal : HostSignal) (result : DeviceSignal) (more : List AnsweredSignal) → IsGood signal result
    → recorded_events more ≡ events_of (sent_signals more) (bytes_read more)
    → recorded signal result ++ recorded_events more ≡ events_of (signal ∷ sent_signals more)
    (byte_of signal result ++ bytes_read more)
recorded_first Start result more good rest = ap (λ (es : List Event). events.Start ∷ es) rest
recorded_first (Byte b) result more good rest =
    ap (λ (r : DeviceSignal). events.Byte b ∷ acknowledged r ∷ recorded_events more) good
    ∙ ap (λ (es : List Event). events.Byte b ∷ events.Ack ∷ es) rest
recorded_first Ask answers.Silent more good rest = absurd (cc good.1)
recorded_first Ask answers.Ack more good rest = absurd (cc good.1)
recorded_first Ask answers.Nack more good rest = absurd (cc good.1)
recorded_first Ask (answers.Byte b) more good rest = ap (λ (es : List Event). events.Byte b ∷ es) rest
recorded_first Ack result more good rest = ap (λ (es : List Event). events.Ack ∷ es) rest
recorded_first Nack result more good rest = ap (λ (es : List Event). events.Nack ∷ es) rest
recorded_first Stop result more good rest = ap (λ (es : List Event). events.Stop ∷ es) rest

recorded_all : (heard : List AnsweredSignal) → GoWell heard
    → recorded_events heard ≡ events_of (sent_signals heard) (bytes_read heard)
recorded_all [] well = refl
recorded_all (one ∷ heard) well = recorded_first one.signal one.result heard well.0 (recorded_all heard well.1)

-- those of the bytes of a leg
bytes_events : (bytes : List ℕ) (more : List HostSignal) (read : List ℕ) → events_of (map Byte bytes ++ more) read
    ≡ acked bytes ++ events_of more read
bytes_events [] more read = refl
bytes_events (b ∷ bytes) more read = ap (λ (es : List Event). events.Byte b ∷ events.Ack ∷ es)
    (bytes_events bytes more read)

-- of all legs
legs_events : (legs : List (List ℕ)) (more : List HostSignal) (read : List ℕ)
    → events_of (flat_map leg_signals legs ++ more) read ≡ flat_map leg legs ++ events_of more read
legs_events [] more read = refl
legs_events (bytes ∷ legs) more read =
    ap (λ (xs : List HostSignal). events_of (Start ∷ xs) read)
    (append_assoc (map Byte bytes) (flat_map leg_signals legs) more)
    ∙ ap (λ (es : List Event). events.Start ∷ es) (bytes_events bytes (flat_map leg_signals legs ++ more) read)
    ∙ ap (λ (es : List Event). leg bytes ++ es) (legs_events legs more read)
    ∙ sym (append_assoc (leg bytes) (flat_map leg legs) (events_of more read))

-- and of the bytes that are read
reading_events : (bytes : List ℕ) → events_of (reading_signals bytes ++ Stop ∷ []) bytes ≡ nacked bytes ++ events.Stop
    ∷ []
reading_events [] = refl
reading_events (b ∷ []) = refl
reading_events (b ∷ c ∷ bytes) = ap (λ (es : List Event). events.Byte b ∷ events.Ack ∷ es) (reading_events (c ∷ bytes))

-- What is recorded of a request that was done: its legs, each byte acknowledged, the bytes of the
-- reply with NACK after the last, and STOP.
pub recorded_done : (profile : List DeviceParts) (task : TransactionData) (heard : List AnsweredSignal)
    → Completes profile task heard
    → recorded_events heard ≡ flat_map leg (legs_of profile task) ++ (nacked (bytes_read heard) ++ events.Stop ∷ [])
recorded_done profile task heard done =
    recorded_all heard done.well ∙ ap (λ (xs : List HostSignal). events_of xs (bytes_read heard)) done.spelled
    ∙ legs_events (legs_of profile task) (reading_signals (bytes_read heard) ++ Stop ∷ []) (bytes_read heard)
    ∙ ap (λ (es : List Event). flat_map leg (legs_of profile task) ++ es) (reading_events (bytes_read heard))

-- ---- their packets

-- what an option has
the_some : {X : Type 0} (o : Option X) → IsSome o → (x : X) × (o ≡ Some x)
the_some None some = absurd (cc some)
the_some (Some x) some = (x, refl)

-- one address is distinct
one_distinct : (addr : ℕ) → IsDistinct nat_eq (addr ∷ [])
unfolding IsDistinct
one_distinct addr = (tt, tt)

module _ (profile : List DeviceParts) (bus : IsBus profile) where
  -- the forms of a command of a device that is known
  forms_here : (addr code : ℕ) (device : DeviceParts) → device_with addr profile ≡ Some device
      → forms_at profile addr code ≡ forms device code
  forms_here addr code device known = ap (λ (found : Option DeviceParts). shape_of
      (option_and_then (λ (d : DeviceParts). command_with code d.commands) found)) known

  -- a packet error code, or none, is allowed there
  mode_here : (addr : ℕ) (with_pec : Bool) (device : DeviceParts) → device_with addr profile ≡ Some device
      → (keeps_mode profile addr with_pec).need → AllowsPec device.pec with_pec
  mode_here addr with_pec device known kept =
      subst (λ (found : Option DeviceParts). IfSome found (λ d. AllowsPec d.pec with_pec)) known kept

  -- the leg of a part has the part's events
  part_events : (part : PartData) (es : List Event) → PartEvents profile part es → es ≡ leg (part_bytes profile part)
  part_events part es is =
      let there = (device_is profile part.addr is.device bus is.known).1 in
      let form = ap (λ shape. shape.write) (forms_here part.addr part.code is.device is.known) ∙ is.allowed.written in
      is.spelled ∙ ap (λ (body : List ℕ). leg (write_address part.addr ∷ body)) is.allowed.spelled
      ∙ ap (λ (addr : ℕ). leg (write_address part.addr ∷ checked part.pec (write_address addr ∷ [])
      (part.code ∷ wire is.allowed.form part.bytes))) there
      ∙ sym (ap (λ (f : Option Form). leg (write_address part.addr ∷ checked part.pec (write_address part.addr ∷ [])
      (part.code ∷ wire_in f part.bytes))) form)

  parts_events : (parts : List PartData) (es : List Event) → PartsEvents profile parts es
      → flat_map leg (map (part_bytes profile) parts) ≡ es
  parts_events [] es is = sym is
  parts_events (part ∷ parts) es is =
      ap (λ (first : List Event). first ++ flat_map leg (map (part_bytes profile) parts))
      (sym (part_events part is.0 is.3))
      ∙ ap (λ (rest : List Event). is.0 ++ rest) (parts_events parts is.1 is.4) ∙ sym is.2

  module _ (es : List Event) where
    -- of a write
    write_packet : (parts : List PartData) (before : List Event) → WritePacket profile parts before
        → es ≡ flat_map leg (map (part_bytes profile) parts) ++ events.Stop ∷ []
        → WritePacket profile parts es
    write_packet parts before packet is = record {
      some = packet.some;
      few = packet.few;
      distinct = packet.distinct;
      legs = packet.legs;
      each = packet.each;
      spelled = is ∙ ap (λ (legs : List Event). legs ++ events.Stop ∷ []) (parts_events parts packet.legs packet.each);
    }

    -- of a read
    read_packet : (c : Command) (content bytes : List ℕ) → IsSome (device_with c.addr profile)
        → IsSome (forms_at profile c.addr c.code).read → (keeps_mode profile c.addr c.pec).need
        → Say (forms_at profile c.addr c.code).read c.pec (write_address c.addr ∷ c.code ∷ read_address c.addr ∷ [])
        content bytes
        → es ≡ flat_map leg ((write_address c.addr ∷ c.code ∷ []) ∷ (read_address c.addr ∷ []) ∷ [])
        ++ (nacked bytes ++ events.Stop ∷ [])
        → ReadPacket profile (record { addr = c.addr; code = c.code; reply = content; pec = c.pec }) es
    read_packet c content bytes is_known allows kept say is =
        let found = the_some (device_with c.addr profile) is_known in
        let form = the_some (forms_at profile c.addr c.code).read allows in
        let before = write_address c.addr ∷ c.code ∷ read_address c.addr ∷ [] in
        let says : SayReply form.0 c.pec before content bytes =
        subst (λ (f : Option Form). Say f c.pec before content bytes) form.1 say in record {
          device = found.0;
          form = form.0;
          known = found.1;
          read = sym (ap (λ shape. shape.read) (forms_here c.addr c.code found.0 found.1)) ∙ form.1;
          fits = says.fits;
          mode = mode_here c.addr c.pec found.0 found.1 kept;
          spelled = is ∙ ap (λ (bs : List ℕ). flat_map leg
              ((write_address c.addr ∷ c.code ∷ []) ∷ (read_address c.addr ∷ []) ∷ [])
              ++ (nacked bs ++ events.Stop ∷ [])) says.spelled;
        }

    -- of a call
    call_packet : (c : Command) (sent content bytes : List ℕ) → IsSome (device_with c.addr profile)
        → IsSome (forms_at profile c.addr c.code).call
        → IfSome (forms_at profile c.addr c.code).call (λ form. Fits form sent) → (keeps_mode profile c.addr c.pec).need
        → Say (forms_at profile c.addr c.code).call c.pec
        ((write_address c.addr ∷ c.code ∷ wire_in (forms_at profile c.addr c.code).call sent) ++ read_address c.addr
        ∷ []) content bytes
        → es ≡ flat_map leg ((write_address c.addr ∷ c.code ∷ wire_in (forms_at profile c.addr c.code).call sent)
        ∷ (read_address c.addr ∷ []) ∷ []) ++ (nacked bytes ++ events.Stop ∷ [])
        → CallPacket profile (record { addr = c.addr; code = c.code; bytes = sent; reply = content; pec = c.pec }) es
    call_packet c sent content bytes is_known allows fits kept say is =
        -- the device, and the form in which it is called
        let found = the_some (device_with c.addr profile) is_known in
        let form = the_some (forms_at profile c.addr c.code).call allows in
        -- the first leg, and all bytes that the code of the reply covers
        let written = write_address c.addr ∷ c.code ∷ wire form.0 sent in
        let before = written ++ read_address c.addr ∷ [] in
        let asked = leg (read_address c.addr ∷ []) in
        -- the bytes read are the data on the wire, and the code
        let says : SayReply form.0 c.pec before content bytes =
        subst (λ (f : Option Form). Say f c.pec ((write_address c.addr ∷ c.code ∷ wire_in f sent) ++ read_address c.addr
        ∷ []) content bytes) form.1 say in record {
          device = found.0;
          form = form.0;
          known = found.1;
          -- the form is that of the command, for what is sent and for the reply
          called = sym (ap (λ shape. shape.call) (forms_here c.addr c.code found.0 found.1)) ∙ form.1;
          sent = subst (λ (f : Option Form). IfSome f (λ form. Fits form sent)) form.1 fits;
          replied = says.fits;
          mode = mode_here c.addr c.pec found.0 found.1 kept;
          -- the events: the first leg, the read address, and the reply
          spelled = is
              ∙ ap (λ (f : Option Form). flat_map leg ((write_address c.addr ∷ c.code ∷ wire_in f sent)
              ∷ (read_address c.addr ∷ []) ∷ []) ++ (nacked bytes ++ events.Stop ∷ [])) form.1
              ∙ append_assoc (leg written) (asked ++ []) (nacked bytes ++ events.Stop ∷ [])
              ∙ ap (λ (bs : List ℕ). leg written ++ (asked ++ (nacked bs ++ events.Stop ∷ []))) says.spelled
              ∙ sym (append_assoc (leg written) (asked ++ nacked (checked c.pec before (wire form.0 content)))
              (events.Stop ∷ []));
        }

    -- of a word that is written for a quantity
    word_packet : (c : Command) (word : ℕ) → IsSome (device_with c.addr profile)
        → (forms_at profile c.addr c.code).write ≡ Some Two → (keeps_mode profile c.addr c.pec).need
        → word < 65536
        → es ≡ flat_map leg (part_bytes profile (record {
          addr = c.addr;
          code = c.code;
          bytes = word_bytes word;
          pec =
              c.pec;
        }) ∷ []) ++ events.Stop ∷ []
        → WritePacket profile (record { addr = c.addr; code = c.code; bytes = word_bytes word; pec = c.pec } ∷ []) es
    word_packet c word is_known written kept small is =
        -- the device, and the bytes of its leg
        let found = the_some (device_with c.addr profile) is_known in
        let there = (device_is profile c.addr found.0 bus found.1).1 in
        let bytes = word_bytes word in
        let first = leg (part_bytes profile (record { addr = c.addr; code = c.code; bytes = bytes; pec = c.pec })) in
        let body = checked c.pec (write_address found.0.address ∷ []) (c.code ∷ wire Two bytes) in
        -- the one part: its command is written in form Two
        let part : PartEvents profile (record { addr = c.addr; code = c.code; bytes = bytes; pec = c.pec }) first =
        record {
          device = found.0;
          body = body;
          known = found.1;
          allowed = record {
            form = Two;
            written = sym (ap (λ shape. shape.write) (forms_here c.addr c.code found.0 found.1)) ∙ written;
            fits = word_fits word small;
            mode = mode_here c.addr c.pec found.0 found.1 kept;
            spelled = refl;
          };
          spelled = ap (λ (f : Option Form). leg (write_address c.addr ∷ checked c.pec (write_address c.addr ∷ [])
              (c.code ∷ wire_in f bytes))) written
              ∙ ap (λ (addr : ℕ). leg (write_address c.addr ∷ checked c.pec (write_address addr ∷ [])
              (c.code ∷ wire Two bytes))) (sym there);
        } in record {
          some = omega arith;
          few = omega arith;
          distinct = one_distinct c.addr;
          legs = first ++ [];
          each = (first, [], refl, part, refl);
          spelled = is;
        }

  -- What is recorded of a request that was done is the packet of its task, with the reply that was
  -- read.
  pub packet_of : (request : RequestData) (word : ℕ) (number : Option NumberFormat) (content bytes : List ℕ)
      (es : List Event) → IsAllowed profile request word number
      → SaysReply profile (task_of request word) content bytes
      → es ≡ flat_map leg (legs_of profile (task_of request word)) ++ (nacked bytes ++ events.Stop ∷ [])
      → Packet profile (replied (task_of request word) content) es
  -- a write: its own packet, made of the same legs
  packet_of (WriteParts parts) word number content bytes es allowed says is =
      write_packet es parts allowed.0.0 allowed.0.1
      (is ∙ ap (λ (bs : List ℕ). flat_map leg (map (part_bytes profile) parts) ++ (nacked bs ++ events.Stop ∷ []))
      says.1)
  -- READ
  packet_of (ReadBytes c) word number content bytes es allowed says is =
      let rules = allowed.0 in
      read_packet es c content bytes rules.0 rules.1.1.0 rules.1.1.1.0 says is
  -- CALL
  packet_of (CallBytes c sent) word number content bytes es allowed says is =
      let rules = allowed.0 in
      call_packet es c sent content bytes rules.0 rules.1.1.0 rules.1.1.1.0 rules.1.1.1.1.0 says is
  -- SET: a write of one part, whose word has two bytes
  packet_of (Set c value mode) word number content bytes es allowed says is =
      let set = allowed.0 in
      let two = set_is_word profile bus c value mode word set in
      word_packet es c word set.kept.0 two.0 set.has.kept two.1
      (is ∙ ap (λ (bs : List ℕ). flat_map leg (map (part_bytes profile)
      (record { addr = c.addr; code = c.code; bytes = word_bytes word; pec = c.pec } ∷ []))
      ++ (nacked bs ++ events.Stop ∷ [])) says.1)
  -- GET: as READ
  packet_of (Get c mode) word number content bytes es allowed says is =
      let rules = allowed.0 in
      read_packet es c content bytes rules.0 rules.1.1.0 (get_mode number allowed.1 allowed.2) says is where
        get_mode : (number : Option NumberFormat) → IfSome number (HasNumber profile c mode) → number ≢ None
            → (keeps_mode profile c.addr c.pec).need
        get_mode None has some = absurd (some refl)
        get_mode (Some format) has some = has.kept
