-- Packets in which a device is read: after its own leg one that begins with its read address, or
-- the Alert Response Address alone. For `Bus::new`, `Bus::signal` and the laws on packets. A
-- member notes why it refused to be read, if it was asked; one that gave ACK changes nothing, and
-- a leg that begins with a read address alone is no device's own.
use Rattle.std.proofs.Common.{◌≡◌, ℕ, inl, inr, Bool, true, false, ◌||◌, Option, List, [], ◌∷◌, ◌++◌, nat_eq, refl, sym}
use Rattle.std.proofs.Common.{ap, subst, ◌∙◌, append_assoc}
use Rattle.std.specs.List.{Contains}
use Rattle.std.proofs.lemmas.Bool.{eqb-true, or_from}
use Rattle.pmb_bus.specs.declared.event.Event.{Event}
use Rattle.pmb_bus.specs.declared.event.Event.TheVariants as wire
use Rattle.pmb_bus.specs.Address.{read_address, write_address, alert_address}
use Rattle.pmb_transaction.specs.Body.{checked, IsRequest}
use Rattle.pmb_transaction.specs.Packet.{answered, leg, nacked}
use Rattle.pmb_registers.specs.declared.cml_bit.CmlBit.{CmlBit}
use Rattle.pmb_registers.specs.State.{DeviceState, InState}
use Rattle.pmb_registers.specs.Answer.{answer}
use Rattle.pmb_registers.specs.Apply.{bit_of_answer, with_noted}
use Rattle.pmb_device.specs.declared.signal.HostSignal.TheVariants.{Byte}
use Rattle.pmb_device.specs.declared.signal.DeviceSignal.TheVariants as answers
use Rattle.pmb_device.specs.Legs.{Leg, Legs, Outside, Inside, is_to, sent, some_is_to}
use Rattle.pmb_device.specs.Ends.{LegsEnd, NotesAnswer, ReadOrActs, asked, not_asked}
use Rattle.pmb_devices.specs.Bus.{BusAnswers}
use Rattle.pmb_device.proofs.FirstLeg.{is_to_first}
use Rattle.pmb_devices.proofs.Givers.{Acked, OneRan, Ran, no_read_address, read_taken, run_address, run_leg, took_all}
use Rattle.pmb_devices.proofs.OwnLegs.{byte_leg, ends_at, ends_without, is_to_other, sent_bytes}
use Rattle.pmb_devices.proofs.Parsing.{Goes, Stands, acknowledged_is, at_stop, closed, has_start, stays_in}
use Rattle.pmb_devices.proofs.Writes.{by_test, other_written}

-- none of the bytes of a reply is START
pub no_start_nacked : (bytes : List ℕ) → has_start (nacked bytes ++ wire.Stop ∷ []) ≡ false
no_start_nacked [] = refl
no_start_nacked (b ∷ []) = refl
no_start_nacked (b ∷ c ∷ bytes) = no_start_nacked (c ∷ bytes)

module _ (members : List InState) (member : InState) (in_bus : Contains members member) where
  -- a leg that is read is no leg to a device
  pub elsewhere_read : (n : ℕ) (bytes : List ℕ) (leg : Leg) → sent leg ≡ read_address n ∷ bytes
      → is_to (write_address member.device.address) leg ≡ false
  elsewhere_read n bytes leg is =
      is_to_other (write_address member.device.address) (read_address n) bytes leg
      (λ same. no_read_address member.device.address n (sym same)) is

  -- What STOP makes of a member after a leg that is written and one that is read.
  pub data TwoLegsEnd (addr : ℕ) (body : List ℕ) (after : DeviceState) : Type 0 where
    -- the member is read: it notes what it has to
    own : addr ≡ member.device.address → after
        ≡ with_noted member.device (bit_of_answer (answer member.device member.state body)) member.state
        → TwoLegsEnd addr body after
    -- it is another device: nothing changes
    other : nat_eq addr member.device.address ≡ false → after ≡ member.state → TwoLegsEnd addr body after

  -- the answer of the member that is read is noted
  own_noted : (body : List ℕ) (next : Leg) (bytes : List ℕ) (after : DeviceState)
      → sent next ≡ read_address member.device.address ∷ bytes
      → IsRequest member.device body
      → NotesAnswer member.device [] body (next ∷ []) member.state after
      → after ≡ with_noted member.device (bit_of_answer (answer member.device member.state body)) member.state
  own_noted body next bytes after is request (asked first body_is behind more split read same) = same
  own_noted body next bytes after is request (not_asked none same) =
      let here = is_to_first (read_address member.device.address) bytes next is in
      absurd (none refl request next [] refl (ap (λ (b : Bool). b || false) here))

  -- its own leg was the first one
  own_two : (body : List ℕ) (next : Leg) (bytes : List ℕ) (after : DeviceState)
      → sent next ≡ read_address member.device.address ∷ bytes
      → IsRequest member.device body → Acked members [] (write_address member.device.address ∷ []) body
      → LegsEnd member.device (byte_leg (write_address member.device.address ∷ body) ∷ next ∷ []) member.state after
      → after ≡ with_noted member.device (bit_of_answer (answer member.device member.state body)) member.state
  own_two body next bytes after is request acks ends =
      let d = member.device in
      let w = write_address d.address in
      let taken = took_all members member in_bus [] w [] body (record { own = refl; once = refl }) tt acks in
      let sent_are : sent (byte_leg (w ∷ body)) ≡ w ∷ body = sent_bytes (w ∷ body) in
      let own_ends = ends_at d member.state after [] (byte_leg (w ∷ body)) (next ∷ []) body refl sent_are ends in
      let read : some_is_to (read_address d.address) (next ∷ []) ≡ true =
      ap (λ (b : Bool). b || false) (is_to_first (read_address d.address) bytes next is) in
      elim own_ends [
        | inl w ↦
            own_noted body next bytes after is request
            (subst (λ (b : Bool). ReadOrActs d b [] body (next ∷ []) member.state after) read w.1)
        | inr w ↦ absurd (w.0 taken)
      ]

  -- the member that is written to and then read, and another one
  pub two_legs : (addr : ℕ) (body : List ℕ) (next : Leg) (bytes : List ℕ) (after : DeviceState)
      → sent next ≡ read_address addr ∷ bytes
      → (addr ≡ member.device.address → IsRequest member.device body)
      → Acked members [] (write_address addr ∷ []) body
      → LegsEnd member.device (byte_leg (write_address addr ∷ body) ∷ next ∷ []) member.state after
      → TwoLegsEnd addr body after
  two_legs addr body next bytes after is request acks ends =
      let d = member.device in
      by_test (nat_eq addr d.address) (nat_eq addr d.address) refl
      -- the leg is to the member: it is its own, and the next one reads it
      (
      λ same.
      let addr_is : addr ≡ d.address = eqb-true addr d.address same in
      own addr_is
      (
      own_two body next bytes after (subst (λ (a : ℕ). sent next ≡ read_address a ∷ bytes) addr_is is) (request addr_is)
      (subst (λ (a : ℕ). Acked members [] (write_address a ∷ []) body) addr_is acks)
      (subst (λ (a : ℕ). LegsEnd d (byte_leg (write_address a ∷ body) ∷ next ∷ []) member.state after) addr_is ends)
      )
      )
      -- it is to another device: no leg is the member's own
      (
      λ differs.
      let w = write_address d.address in
      let first = byte_leg (write_address addr ∷ body) in
      let no_first : is_to w first ≡ false =
      is_to_other w (write_address addr) body first (other_written addr d.address differs)
      (sent_bytes (write_address addr ∷ body)) in
      other differs
      (
      ends_without d member.state after (first ∷ next ∷ [])
      (or_from (is_to w first) (is_to w next || false) no_first
      (or_from (is_to w next) false (elsewhere_read addr bytes next is) refl)) ends
      )
      )

  -- ---- a read or a call

  -- what is recorded after the read address of a reply
  abbrev pub behind_read : ℕ → List ℕ → List ℕ → Bool → List Event
  behind_read addr body reply with_pec =
      nacked (checked with_pec (write_address addr ∷ body ++ read_address addr ∷ []) reply) ++ wire.Stop ∷ []

  -- The legs of a packet that is answered: one that is written, and one that is read.
  pub record AnsweredLegs (final : Legs) (addr : ℕ) (body reply : List ℕ) (with_pec : Bool) : Type 0 where
    -- the signals of the first leg,
    pub written : Ran members final [] addr [] body
        (wire.Start ∷ wire.Byte (read_address addr) ∷ wire.Ack ∷ behind_read addr body reply with_pec)
    -- of the read address,
    pub read : OneRan members final (byte_leg (write_address addr ∷ body) ∷ []) [] (read_address addr) wire.Ack
        (behind_read addr body reply with_pec)
    -- and of the reply, in which no START is
    pub goes : Goes members final (byte_leg (write_address addr ∷ body) ∷ []) (byte_leg (read_address addr ∷ []))

  pub answered_legs : (final : Legs) (addr : ℕ) (body reply : List ℕ) (with_pec : Bool)
      → Stands members final Outside (answered addr body reply with_pec)
      → AnsweredLegs final addr body reply with_pec
  answered_legs final addr body reply with_pec stands =
      -- the bytes of the reply
      let bytes = checked with_pec (write_address addr ∷ body ++ read_address addr ∷ []) reply in
      let rest = nacked bytes ++ wire.Stop ∷ [] in
      let first = byte_leg (write_address addr ∷ body) in
      let reply_leg = leg (read_address addr ∷ []) ++ nacked bytes in
      -- the packet is a leg that is written, and one that is read
      let spelled : answered addr body reply with_pec ≡ leg (write_address addr ∷ body)
      ++ (wire.Start ∷ wire.Byte (read_address addr) ∷ wire.Ack ∷ rest) =
      append_assoc (leg (write_address addr ∷ body)) reply_leg (wire.Stop ∷ []) in
      let written =
      run_leg members final Outside addr body (wire.Start ∷ wire.Byte (read_address addr) ∷ wire.Ack ∷ rest)
      (subst (Stands members final Outside) spelled stands) in
      let read = run_address members final (Inside [] first) (read_address addr) wire.Ack rest written.stands in
      record {
        written = written;
        read = read;
        goes = stays_in members final (first ∷ []) (byte_leg (read_address addr ∷ [])) rest
            (no_start_nacked bytes) read.stands;
      }

  -- A member that gave ACK to be read notes nothing.
  pub answered_changes_nothing : (final : Legs) (addr : ℕ) (body reply : List ℕ) (with_pec : Bool) (after : DeviceState)
      → (addr ≡ member.device.address → IsRequest member.device body)
      → Stands members final Outside (answered addr body reply with_pec)
      → LegsEnd member.device (closed final) member.state after
      → after ≡ member.state
  answered_changes_nothing final addr body reply with_pec after request stands ends =
      let d = member.device in
      let first = byte_leg (write_address addr ∷ body) in
      let all = answered_legs final addr body reply with_pec stands in
      let written = all.written in
      let read = all.read in
      let goes = all.goes in
      let next = byte_leg (read_address addr ∷ []) ++ goes.behind in
      -- so the legs are these two
      let legs : closed final ≡ first ∷ next ∷ [] = ap closed goes.is in
      let two = two_legs addr body next (sent goes.behind) after refl request written.acked_are
      (subst (λ (ls : List Leg). LegsEnd d ls member.state after) legs ends) in
      elim two [
        -- the member was read: it gave ACK, so it notes nothing
        | own addr_is same ↦
            let ack = subst (BusAnswers members (Inside (first ∷ []) []) (Byte (read_address addr)))
            (acknowledged_is read.result read.recorded_as) read.answer in
            let sent_are : sent first ≡ write_address d.address ∷ body =
            sent_bytes (write_address addr ∷ body) ∙ ap (λ (a : ℕ). write_address a ∷ body) addr_is in
            let none =
            read_taken members member in_bus (first ∷ []) body
            (record {
              own = refl;
              asked = record {
                first = first;
                alone = refl;
                own = sent_are;
                request =
                    request addr_is;
              };
            })
            (subst (λ (a : ℕ). BusAnswers members (Inside (first ∷ []) []) (Byte (read_address a)) answers.Ack) addr_is
            ack) in
            same ∙ ap (λ (o : Option CmlBit). with_noted d o member.state) none
        | other differs same ↦ same
      ]

  -- ---- the Alert Response Address

  -- a leg that is read, alone, changes nothing
  alone_read : (n : ℕ) (bytes : List ℕ) (leg : Leg) (after : DeviceState) → sent leg ≡ read_address n ∷ bytes
      → LegsEnd member.device (leg ∷ []) member.state after → after ≡ member.state
  alone_read n bytes leg after is ends =
      let w = write_address member.device.address in
      ends_without member.device member.state after (leg ∷ [])
      (or_from (is_to w leg) false (elsewhere_read n bytes leg is) refl) ends

  -- the leg of an answer there
  pub alert_leg : (final : Legs) (bytes : List ℕ)
      → Stands members final Outside (leg (read_address alert_address ∷ []) ++ nacked bytes ++ wire.Stop ∷ [])
      → Goes members final [] (byte_leg (read_address alert_address ∷ []))
  alert_leg final bytes stands =
      let rest = nacked bytes ++ wire.Stop ∷ [] in
      let read = run_address members final Outside (read_address alert_address) wire.Ack rest stands in
      stays_in members final [] (byte_leg (read_address alert_address ∷ [])) rest (no_start_nacked bytes) read.stands

  -- and of none
  pub no_alert_leg : (final : Legs)
      → Stands members final Outside (wire.Start ∷ wire.Byte (read_address alert_address) ∷ wire.Nack ∷ wire.Stop ∷ [])
      → closed final ≡ byte_leg (read_address alert_address ∷ []) ∷ []
  no_alert_leg final stands =
      let read = run_address members final Outside (read_address alert_address) wire.Nack (wire.Stop ∷ []) stands in
      ap closed (sym (at_stop members final (Inside [] (byte_leg (read_address alert_address ∷ []))) read.stands))

  -- an answer there
  pub alerts_change_nothing : (final : Legs) (bytes : List ℕ) (after : DeviceState)
      → Stands members final Outside (leg (read_address alert_address ∷ []) ++ nacked bytes ++ wire.Stop ∷ [])
      → LegsEnd member.device (closed final) member.state after → after ≡ member.state
  alerts_change_nothing final bytes after stands ends =
      let goes = alert_leg final bytes stands in
      alone_read alert_address (sent goes.behind) (byte_leg (read_address alert_address ∷ []) ++ goes.behind) after refl
      (subst (λ (ls : List Leg). LegsEnd member.device ls member.state after) (ap closed goes.is) ends)

  -- and none
  pub no_alert_changes_nothing : (final : Legs) (after : DeviceState)
      → Stands members final Outside (wire.Start ∷ wire.Byte (read_address alert_address) ∷ wire.Nack ∷ wire.Stop ∷ [])
      → LegsEnd member.device (closed final) member.state after → after ≡ member.state
  no_alert_changes_nothing final after stands ends =
      alone_read alert_address [] (byte_leg (read_address alert_address ∷ [])) after refl
      (subst (λ (ls : List Leg). LegsEnd member.device ls member.state after) (no_alert_leg final stands) ends)
