-- A run whose task is a write: it ends with all parts written, or is refused at the first value of
-- PAGE that is neither a page of its device nor ffh. For the law `runs_are_exchanges`. The byte
-- that was refused stands in the leg of one part (`MapSplit`); by `Writing` it is that part's
-- value of PAGE, the parts before it were taken, and what was recorded is the packet of that
-- refusal.
use Rattle.std.proofs.Common.{◌≡◌, ℕ, ◌+◌, ◌≤◌, inl, inr, Bool, false, Option, List, [], ◌∷◌, ◌++◌, length, map}
use Rattle.std.proofs.Common.{flat_map, nat_eq, refl, sym, ap, subst, ◌∙◌, append_assoc, length-append, arith}
use Rattle.std.specs.List.{AllByRecursion, IsDistinct}
use Rattle.std.proofs.lemmas.List.{append-nil, length-map}
use Rattle.pmb_bus.specs.declared.event.Event.{Event}
use Rattle.pmb_bus.specs.declared.event.Event.TheVariants as events
use Rattle.pmb_bus.specs.Address.{write_address}
use Rattle.pmb_command.specs.Parts.{DeviceParts}
use Rattle.pmb_command.specs.Wire.{AreByteValues}
use Rattle.pmb_transaction.specs.Body.{Allowed, IsWriteBody}
use Rattle.pmb_transaction.specs.Packet.{Packet, WritePacket, addresses, leg, nacked}
use Rattle.pmb_transaction.specs.Transaction.{PartData, RefusedData, Write, Refused}
use Rattle.pmb_registers.specs.State.{InState}
use Rattle.pmb_device.specs.declared.signal.HostSignal.TheVariants.{Start, Byte, Stop}
use Rattle.pmb_device.specs.Legs.{Inside}
use Rattle.pmb_devices.specs.Bus.{AnsweredSignal, BusAnswers, recorded_events}
use Rattle.pmb_devices.proofs.OwnLegs.{byte_leg}
use Rattle.pmb_value.specs.declared.number_format.NumberFormat.{NumberFormat}
use Rattle.pmb_host.specs.declared.step.HostFault.{HostFault}
use Rattle.pmb_host.specs.declared.step.HostFault.TheVariants as faults
use Rattle.pmb_host.specs.declared.step.HostStep.{HostStep}
use Rattle.pmb_host.specs.declared.step.HostStep.TheVariants.{Done, Failed}
use Rattle.pmb_host.specs.declared.step.Reply.{Reply}
use Rattle.pmb_host.specs.Host.{Job}
use Rattle.pmb_host.specs.Signals.{leg_signals, legs_of, part_bytes, reading_signals}
use Rattle.pmb_host.specs.Steps.{AllWritten, Fails, GetsNoByte, IsRefused, IsTold, ReplyData, Succeeds, bytes_read}
use Rattle.pmb_host.specs.Steps.{reply_data, sent_signals, refused, no_byte, bad_pec, written, bytes, value}
use Rattle.pmb_exchange.specs.Exchange.{Exchanges, IsTaken}
use Rattle.pmb_exchange.specs.Run.{HasRun, IsExchanged, stopped}
use Rattle.pmb_exchange.proofs.Failures.{ByteFailed, ask_failed, byte_failed}
use Rattle.pmb_exchange.proofs.Pages.{page_body}
use Rattle.pmb_exchange.proofs.Parts.{HasLeg, PartAt, all_parts, distinct_front, have_legs, legs_events, new_address}
use Rattle.pmb_exchange.proofs.Parts.{part_at, parts_events}
use Rattle.pmb_exchange.proofs.Signals.{ask_behind_legs, nothing_asked}
use Rattle.pmb_exchange.proofs.Stops.{legs_events_are, legs_written, recorded-append, recorded_stopped, recorded_well}
use Rattle.pmb_exchange.proofs.Stops.{refused_event, stop_last, well_before}
use Rattle.pmb_exchange.proofs.Writing.{ByteAnswer, IsBad, all_taken, byte_answer, legs_before, value_refused}
use Rattle.pmb_exchange.proofs.Writing.{writes_no_page}

-- ---- a list of what a function makes

-- What is made of some things, cut: so are the things.
pub record MapSplit {X Y : Type 0} (f : X → Y) (all : List X) (front : List Y) (one : Y) : Type 0 where
  -- those before, whose images are the front
  pub before : List X
  -- the one whose image is cut at
  pub here : X
  pub behind : List X
  pub split : all ≡ before ++ here ∷ behind
  pub front_are : map f before ≡ front
  pub one_is : f here ≡ one

pub map_split : {X Y : Type 0} (f : X → Y) (all : List X) (front : List Y) (one : Y) (back : List Y)
    → map f all ≡ front ++ one ∷ back → MapSplit f all front one
map_split f [] [] one back is = absurd (cc is)
map_split f [] (y ∷ front) one back is = absurd (cc is)
map_split f (x ∷ all) [] one back is = record {
  -- the first one is it
  before = [];
  here = x;
  behind = all;
  split = refl;
  front_are =
      refl;
  one_is = cc is;
}
map_split f (x ∷ all) (y ∷ front) one back is =
    -- it is one of the rest
    let rest : map f all ≡ front ++ one ∷ back = cc is in
    let first : f x ≡ y = cc is in
    let more = map_split f all front one back rest in
    let split : all ≡ more.before ++ more.here ∷ more.behind = more.split in
    let front_are : map f more.before ≡ front = more.front_are in
    record {
      before = x ∷ more.before;
      here = more.here;
      behind = more.behind;
      split = cc;
      front_are = cc;
      one_is = more.one_is;
    }

module _ (profile : List DeviceParts) (number : Option NumberFormat) (parts : List PartData) (members : List InState)
    (heard : List AnsweredSignal) where
  -- the job of a write
  abbrev pub write_job : Job
  write_job = record { profile = profile; task = Write parts; number = number }

  -- ---- all went well

  told_written : (reply : List ℕ) (told : ReplyData) → reply ≡ [] → IsTold profile (Write parts) number reply told
      → told ≡ AllWritten
  told_written reply told none (written no_form is) = is
  told_written reply told none (bytes some no_number is) = absurd (cc some)
  told_written reply told none (value format word number_is word_is is) = absurd (cc (sym word_is ∙ none))

  module _ (step : HostStep) (run : HasRun write_job members heard step) (events_of : List Event)
      (packet : WritePacket profile parts events_of) where
    each : AllByRecursion (HasLeg profile) parts
    each = have_legs profile run.on.accepted parts packet.legs packet.each

    -- the packet and the end of a write that went well
    pub write_done : (answer : Reply) (reply : List ℕ) → Succeeds profile (Write parts) (stopped heard run.last) reply
        → IsTold profile (Write parts) number reply (reply_data answer)
        → IsExchanged write_job members heard (Done answer)
    write_done answer reply s told =
        let all = stopped heard run.last in
        let distinct : IsDistinct nat_eq (addresses (parts ++ [])) =
        subst (λ (ps : List PartData). IsDistinct nat_eq (addresses ps)) (sym (append-nil parts)) packet.distinct in
        record {
          done = Write parts;
          exchanges =
              Exchanges.written parts refl
              (
              all_taken profile members run.on.accepted run.on.devices_are [] parts [] heard
              (reading_signals (bytes_read all)) run.answered
              (well_before heard run.last s.completes.well) distinct each
              (stop_last heard run.last (legs_of profile (Write parts)) (bytes_read all) s.completes.spelled)
              ) refl;
          packet = subst (Packet profile (Write parts)) (recorded_stopped heard run.last) s.packet;
          told = (answer, refl, told_written reply (reply_data answer) s.says.0 told);
        }

    -- ---- a byte was not acknowledged

    -- The refused part, with the parts before it.
    module _ (leg_at byte_at : ℕ) (at_read : Bool)
        (r : IsRefused profile (Write parts) (stopped heard run.last) leg_at byte_at at_read) where
      failed : ByteFailed write_job members heard step run leg_at byte_at at_read r
      failed = byte_failed write_job members heard step run leg_at byte_at at_read r

      -- the part in whose leg the byte is, with those before and after it
      cut : MapSplit (part_bytes profile) parts r.legs (r.bytes ++ r.refused ∷ failed.within.more)
      cut = map_split (part_bytes profile) parts r.legs (r.bytes ++ r.refused ∷ failed.within.more) failed.within.behind
          failed.within.split

      distinct_here : IsDistinct nat_eq (addresses (cut.before ++ cut.here ∷ cut.behind))
      distinct_here = subst (λ (ps : List PartData). IsDistinct nat_eq (addresses ps)) cut.split packet.distinct

      legs_here : AllByRecursion (HasLeg profile) cut.before × HasLeg profile cut.here
      legs_here = all_parts (HasLeg profile) cut.before cut.here cut.behind
          (subst (AllByRecursion (HasLeg profile)) cut.split each)

      at : PartAt profile members cut.before cut.here
      at = part_at profile members run.on.devices_are cut.before cut.here cut.behind distinct_here legs_here.1

      -- the signals before the byte
      sent_here : sent_signals r.front ≡ flat_map leg_signals (map (part_bytes profile) cut.before)
          ++ leg_signals r.bytes
      sent_here = r.before ∙ ap (λ (ls : List (List ℕ)). flat_map leg_signals ls ++ leg_signals r.bytes)
          (sym cut.front_are)

      bus_here : BusAnswers members (Inside (legs_before profile members cut.before) (byte_leg r.bytes))
          (Byte r.refused) r.result
      bus_here =
          subst (λ (ls : List (List ℕ)). BusAnswers members (Inside (map byte_leg ls) (byte_leg r.bytes))
          (Byte r.refused) r.result) (sym cut.front_are) failed.bus

      -- a value before it would have been refused
      value_before : IsBad profile members cut.before cut.here at → (v : ℕ) (more : List ℕ)
          → r.bytes ≡ write_address at.member.device.address ∷ 0x00 ∷ v ∷ more → ⊥
      value_before bad v more is =
          let w = write_address at.member.device.address in
          let rows : w ∷ at.body ≡ w ∷ 0x00 ∷ v ∷ (more ++ r.refused ∷ failed.within.more) =
          sym at.bytes_are ∙ cut.one_is ∙ ap (λ (bs : List ℕ). bs ++ r.refused ∷ failed.within.more) is in
          let before = flat_map leg_signals (map (part_bytes profile) cut.before) in
          value_refused profile members cut.before cut.here at r.front v (more ++ r.refused ∷ failed.within.more)
          (map Byte more) failed.answered r.stops.well
          bad (cc rows)
          (
          sent_here ∙ ap (λ (bs : List ℕ). before ++ leg_signals bs) is
          ∙ sym (append_assoc before (Start ∷ Byte w ∷ Byte 0x00 ∷ []) (Byte v ∷ map Byte more))
          )

      -- the value of PAGE was refused
      module _ (bad : IsBad profile members cut.before cut.here at)
          (is : r.bytes ≡ write_address at.member.device.address ∷ 0x00 ∷ []) where
        abbrev the_refusal : RefusedData
        the_refusal = record {
          parts = cut.before;
          addr = cut.here.addr;
          sent = cut.here.code
              ∷ cut.here.bytes;
          at_read = false;
        }

        body_is : at.body ≡ 0x00 ∷ r.refused ∷ failed.within.more
        body_is =
            let w = write_address at.member.device.address in
            let rows : w ∷ at.body ≡ w ∷ 0x00 ∷ r.refused ∷ failed.within.more =
            sym at.bytes_are ∙ cut.one_is ∙ ap (λ (bs : List ℕ). bs ++ r.refused ∷ failed.within.more) is in
            cc rows

        sent_is : cut.here.code ∷ cut.here.bytes ≡ 0x00 ∷ r.refused ∷ []
        sent_is =
            let body = page_body at.member.device at.accepted cut.here.code cut.here.bytes cut.here.pec at.body at.write
            bad.page in
            let rows : 0x00 ∷ body.value ∷ body.rest ≡ 0x00 ∷ r.refused ∷ failed.within.more = sym body.body_is
            ∙ body_is in
            let value_is : body.value ≡ r.refused = cc rows in
            let code_is : cut.here.code ≡ 0x00 = bad.page in
            let bytes_are : cut.here.bytes ≡ body.value ∷ [] = body.content_is in
            cc

        -- what was recorded
        recorded_is : recorded_events heard ++ events.Stop ∷ []
            ≡ (legs_events profile (map (part_bytes profile) cut.before)
            ++ (leg (write_address cut.here.addr ∷ []) ++ nacked (0x00 ∷ r.refused ∷ []))) ++ events.Stop ∷ []
        recorded_is =
            -- what was recorded of the legs before, and of this leg's first bytes,
            let w = write_address at.member.device.address in
            let legs = map (part_bytes profile) cut.before in
            let front : recorded_events r.front ≡ flat_map leg legs ++ leg r.bytes =
            recorded_well r.front (flat_map leg_signals legs ++ leg_signals r.bytes) sent_here
            (legs_written legs r.bytes) r.stops.well
            ∙ legs_events_are legs r.bytes in
            -- of the refused byte,
            let one = record { signal = Byte r.refused; result = r.result } ∷ [] in
            let last : recorded_events one ≡ events.Byte r.refused ∷ events.Nack ∷ [] =
            ap (λ (e : Event). events.Byte r.refused ∷ e ∷ []) (refused_event r.result r.not_acked) in
            -- and so of all signals up to it
            let all : recorded_events heard ≡ (flat_map leg legs ++ leg r.bytes) ++ events.Byte r.refused ∷ events.Nack
            ∷ [] =
            ap recorded_events failed.heard_is ∙ recorded-append r.front one
            ∙ ap (λ (es : List Event). es ++ recorded_events one) front
            ∙ ap (λ (es : List Event). (flat_map leg legs ++ leg r.bytes) ++ es) last in
            -- this leg is the address and the code of PAGE
            let spelled =
            all ∙ ap (λ (bs : List ℕ). (flat_map leg legs ++ leg bs) ++ events.Byte r.refused ∷ events.Nack ∷ []) is
            ∙ append_assoc (flat_map leg legs) (leg (w ∷ 0x00 ∷ [])) (events.Byte r.refused ∷ events.Nack ∷ [])
            ∙ ap (λ (a : ℕ). flat_map leg legs ++ (leg (write_address a ∷ 0x00 ∷ []) ++ events.Byte r.refused
            ∷ events.Nack ∷ [])) at.address_is in
            ap (λ (es : List Event). es ++ events.Stop ∷ []) spelled

        few_before : length cut.before ≤ 15
        few_before =
            let few = packet.few in
            let all = ap length cut.split ∙ length-append cut.before (cut.here ∷ cut.behind) in
            omega (arith, few, all)

        -- a write body is allowed after any parts
        allowed : (before : List PartData) → IsWriteBody legs_here.1.device legs_here.1.body
            → Allowed legs_here.1.device before legs_here.1.body
        allowed [] write = inl write
        allowed (part ∷ before) write = write

        body_split : legs_here.1.body ≡ (0x00 ∷ []) ++ r.refused ∷ failed.within.more
        body_split =
            let rows : write_address cut.here.addr ∷ legs_here.1.body ≡ write_address at.member.device.address
            ∷ at.body =
            sym legs_here.1.bytes_are ∙ at.bytes_are in
            let same : legs_here.1.body ≡ at.body = cc rows in
            same ∙ body_is

        values : AreByteValues (cut.here.code ∷ cut.here.bytes)
        values = (omega (arith, bad.page), at.write.fits.small)

        refused_packet : Packet profile (Refused the_refusal) (recorded_events heard ++ events.Stop ∷ [])
        -- at most 15 parts before the refused one, to distinct devices
        refused_packet = record {
          few = few_before;
          distinct = distinct_front profile cut.before (cut.here ∷ cut.behind) distinct_here;
          another = new_address profile cut.before cut.here cut.behind distinct_here;
          -- the events of the parts before
          legs = legs_events profile (map (part_bytes profile) cut.before);
          each = parts_events profile cut.before legs_here.0;
          -- the refused leg: the address and 00h, the code of PAGE, and then a value that got NACK
          last = leg (write_address cut.here.addr ∷ []) ++ nacked (0x00 ∷ r.refused ∷ []);
          refused = record {
            device = legs_here.1.device;
            known = legs_here.1.known;
            bytes = values;
            front = 0x00 ∷ [];
            last = r.refused;
            split = sent_is;
            -- the value is that byte of the body
            begins =
                inr (
                  legs_here.1.body,
                  allowed cut.before (cut.here.code, cut.here.bytes, cut.here.pec, legs_here.1.allowed),
                  record { next = r.refused; rest = failed.within.more; split = body_split },
                );
            spelled = ap (λ (bs : List ℕ). leg (write_address cut.here.addr ∷ []) ++ nacked bs) (sym sent_is);
          };
          spelled = recorded_is;
        }

        before_taken : AllByRecursion (IsTaken members) cut.before
        before_taken =
            all_taken profile members run.on.accepted run.on.devices_are [] cut.before (cut.here ∷ cut.behind) r.front
            (leg_signals r.bytes) failed.answered
            r.stops.well distinct_here legs_here.0 sent_here

        -- so it is the exchange
        page_refused : (fault : HostFault) → fault ≡ faults.Refused leg_at byte_at at_read
            → IsExchanged write_job members heard (Failed fault)
        page_refused fault fault_is =
            let leg_is : leg_at ≡ length cut.before + 1 =
            r.leg_is ∙ ap (λ (ls : List (List ℕ)). length ls + 1) (sym cut.front_are)
            ∙ ap (λ (n : ℕ). n + 1) (length-map cut.before (part_bytes profile)) in
            let byte_is : byte_at ≡ length (cut.here.code ∷ cut.here.bytes) =
            r.byte_is ∙ ap (λ (bs : List ℕ). length bs) is ∙ sym (ap (λ (bs : List ℕ). length bs) sent_is) in
            record {
              done = Refused the_refusal;
              exchanges =
                  Exchanges.part_refused cut.before cut.here cut.behind
                  (ap (λ (ps : List PartData). Write ps) cut.split) before_taken
                  (writes_no_page profile members cut.before cut.here at bad) refl;
              packet = refused_packet;
              told =
                  ap (λ (f : HostFault). Failed f) fault_is
                  ∙ ap (λ (n : ℕ). Failed (faults.Refused n byte_at at_read)) leg_is
                  ∙ ap (λ (n : ℕ). Failed (faults.Refused (length cut.before + 1) n at_read)) byte_is
                  ∙ ap (λ (b : Bool). Failed (faults.Refused (length cut.before + 1)
                  (length (cut.here.code ∷ cut.here.bytes)) b)) r.at_read_is;
            }

      -- by the answer of the bus
      by_answer : (fault : HostFault) → fault ≡ faults.Refused leg_at byte_at at_read
          → ByteAnswer profile members cut.before cut.here at r.bytes r.refused r.result
          → IsExchanged write_job members heard (Failed fault)
      by_answer fault fault_is (ByteAnswer.acked is) = absurd (r.not_acked is)
      by_answer fault fault_is (ByteAnswer.refused bad is none) = page_refused bad is fault fault_is
      by_answer fault fault_is (ByteAnswer.behind_value bad v more is) = absurd (value_before bad v more is)

      pub write_refused : (fault : HostFault) → fault ≡ faults.Refused leg_at byte_at at_read
          → IsExchanged write_job members heard (Failed fault)
      write_refused fault fault_is =
          by_answer fault fault_is
          (byte_answer profile members cut.before cut.here at r.bytes r.refused failed.within.more r.result cut.one_is
          bus_here)

    -- ---- nothing else fails

    -- nothing is asked for
    no_ask : GetsNoByte profile (Write parts) (stopped heard run.last) → ⊥
    no_ask g =
        let f = ask_failed write_job members heard step run g in
        let none : bytes_read g.front ++ f.next.to_read ≡ [] = f.next.all in
        let legs = legs_of profile (Write parts) in
        let behind =
        ask_behind_legs legs (sent_signals g.front) (Stop ∷ []) f.next.behind
        (ap (λ (bs : List ℕ). flat_map leg_signals legs ++ (reading_signals bs ++ Stop ∷ [])) (sym none)
        ∙ f.next.spelled) in
        nothing_asked behind.asked f.next.behind behind.tail_is

    -- What failed was such a part.
    pub write_failed : (fault : HostFault) → Fails profile (Write parts) (stopped heard run.last) fault
        → IsExchanged write_job members heard (Failed fault)
    write_failed fault (refused leg_at byte_at at_read r fault_is) =
        write_refused leg_at byte_at at_read r fault fault_is
    write_failed fault (no_byte g fault_is) = absurd (no_ask g)
    write_failed fault (bad_pec b fault_is) = absurd (b.wrong [] (refl, b.completes.all))
