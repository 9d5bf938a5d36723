-- What follows a written leg of a device: STOP after a write body, START where one more part or a
-- reply may come, and which address byte after that START. For the laws `writes_end_with_stop`,
-- `legs_follow_whole_bodies` and `later_addresses`. Where the next event may come, the leg before
-- it is cut out at the last START (LastStarts), and it is this one: its parts, its device and its
-- bytes are those given.
use Rattle.std.proofs.Common.{◌≡◌, ℕ, ◌+◌, ◌<◌, ◌≤◌, Some, List, [], ◌∷◌, ◌++◌, length, nat_eq, refl, sym, ap, ◌∙◌}
use Rattle.std.proofs.Common.{subst, append_assoc, arith}
use Rattle.std.specs.List.{IsDistinct}
use Rattle.std.proofs.lemmas.List.{length_push}
use Rattle.pmb_bus.specs.Pec.{pec}
use Rattle.pmb_bus.specs.declared.event.Event.{Event}
use Rattle.pmb_bus.specs.declared.event.Event.TheVariants.{Start, Byte, Stop}
use Rattle.pmb_bus.specs.Address.{write_address, read_address, alert_address}
use Rattle.pmb_command.specs.Bus.{IsBus}
use Rattle.pmb_command.specs.Parts.{DeviceParts, IsNew, device_with}
use Rattle.pmb_transaction.specs.Transaction.{PartData}
use Rattle.pmb_transaction.specs.Body.{IsWriteBody, IsRequest}
use Rattle.pmb_transaction.specs.Packet.{PartEvents, PartsEvents, acked, addresses, leg, nacked}
use Rattle.pmb_transaction.specs.Capture.{MayFollow, Viable}
use Rattle.pmb_transaction.specs.Viable.{AnswerBegins, LegBegins, answer_taken, answer_sent, leg_start, leg_address}
use Rattle.pmb_transaction.specs.Viable.{leg_taken, leg_sent, written, read, read_start, read_address_sent}
use Rattle.pmb_transaction.specs.Following.{IsNextAddress, LegMayFollow, leg_of_group, leg_of_reply, next_leg}
use Rattle.pmb_transaction.specs.Following.{reply_leg}
use Rattle.pmb_transaction.proofs.Addresses.{distinct_with, new_with}
use Rattle.pmb_transaction.proofs.Beginnings.{viable_is_beginning}
use Rattle.pmb_transaction.proofs.Completions.{beginning_is_viable, one_more, write_packet}
use Rattle.pmb_transaction.proofs.Ends.{packet_is_viable, packet_with_stop}
use Rattle.pmb_transaction.proofs.Fronts.{no_end}
use Rattle.pmb_transaction.proofs.LastStarts.{EndsInLeg, InLastLeg, at_read_address, at_reply, by_open_leg, by_stop}
use Rattle.pmb_transaction.proofs.LastStarts.{ends_alert, ends_at_address, ends_at_byte, ends_at_read, ends_reply}
use Rattle.pmb_transaction.proofs.LastStarts.{ends_write, in_alert, in_reply, in_written, one_list_of_parts}
use Rattle.pmb_transaction.proofs.LastStarts.{part_behind}
use Rattle.pmb_transaction.proofs.OnePacket.{same_found}
use Rattle.pmb_transaction.proofs.Starts.{no_start-acked, none_refused, not_both, one_row_of_bytes, same_half}
use Rattle.pmb_transaction.proofs.Starts.{same_last_start}

-- a byte that an answer's leg begins with is not alone after START
pub no_answer_yet : (address : ℕ) (answer : List ℕ) (byte : ℕ) → AnswerBegins address answer (Start ∷ Byte byte ∷ [])
    → ⊥
no_answer_yet address answer byte (answer_taken bytes fewer is) = cc is
no_answer_yet address answer byte (answer_sent bytes last rest split is) = cc is

pub no_answer_at_start : (address : ℕ) (answer : List ℕ) → AnswerBegins address answer (Start ∷ []) → ⊥
no_answer_at_start address answer (answer_taken bytes fewer is) = cc is
no_answer_at_start address answer (answer_sent bytes last rest split is) = cc is

module _ (pec_is_byte : (bytes : List ℕ) → pec bytes < 256) (profile : List DeviceParts) (bus : IsBus profile) where
  module _ (parts : List PartData) (few : length parts ≤ 15) (own : IsDistinct nat_eq (addresses parts))
      (legs : List Event) (each : PartsEvents profile parts legs) (addr : ℕ) (new : IsNew addr (addresses parts))
      (device : DeviceParts) (known : device_with addr profile ≡ Some device) (bytes : List ℕ) where
    abbrev bytes_taken : List Event
    bytes_taken = acked (write_address addr ∷ bytes)

    abbrev all_legs : List Event
    all_legs = legs ++ Start ∷ bytes_taken

    -- the leg is that of one more part, and its bytes are a write body
    record IsPart (done : List PartData) (part : PartData) : Type 0 where
      -- the parts before it are those given
      pub same : done ≡ parts
      pub addressed : part.addr ≡ addr
      pub body : IsWriteBody device bytes

    is_part : (done : List PartData) (part : PartData) → PartsEvents profile done legs
        → PartEvents profile part (Start ∷ bytes_taken)
        → IsPart done part
    is_part done part before here =
        let address : Byte (write_address addr) ≡ Byte (write_address part.addr) = cc (here.spelled) in
        let rest : acked bytes ≡ acked here.body = cc (here.spelled) in
        let same_address : part.addr ≡ addr = sym (same_half addr part.addr address) in
        let same_bytes : here.body ≡ bytes = sym (one_row_of_bytes bytes here.body rest) in
        let there : device_with addr profile ≡ Some here.device =
        subst (λ (a : ℕ). device_with a profile ≡ Some here.device) same_address here.known in
        let same_device : here.device ≡ device = same_found (device_with addr profile) here.device device there known in
        let is : IsWriteBody here.device here.body = (part.code, part.bytes, part.pec, here.allowed) in
        record {
          same = one_list_of_parts profile done parts legs before each;
          addressed = same_address;
          body = subst (IsWriteBody device) same_bytes
              (subst (λ (d : DeviceParts). IsWriteBody d here.body) same_device is);
        }

    -- ---- STOP

    pub ends_whole : EndsInLeg profile legs bytes_taken → IsWriteBody device bytes
    ends_whole (ends_write done part before here) = (is_part done part before here).body
    ends_whole (ends_at_address other is) = absurd (cc is)
    ends_whole (ends_at_byte other byte sent is) =
        let rest : nacked (byte ∷ sent) ≡ acked bytes = cc is in
        absurd (none_refused byte sent bytes rest)
    ends_whole (ends_at_read other is) = absurd (not_both addr other (cc is))
    ends_whole (ends_reply other d body answer found answers front is) = absurd (not_both addr other (cc is))
    ends_whole (ends_alert answer answers front is) = absurd (not_both addr alert_address (cc is))

    -- STOP may follow a write body
    pub stop_follows : (MayFollow profile all_legs Stop → IsWriteBody device bytes)
        × (IsWriteBody device bytes → MayFollow profile all_legs Stop)
    stop_follows = (
      λ follows.
          ends_whole
          (by_stop profile legs bytes_taken all_legs (no_start-acked (write_address addr ∷ bytes)) refl
          (packet_with_stop profile all_legs follows)),
      λ is.
          packet_is_viable profile (all_legs ++ Stop ∷ [])
          (write_packet pec_is_byte profile bus parts few own legs each addr device bytes new known is),
    )

    -- ---- START

    -- the leg is the packet's only one, with the body
    record IsFirstLeg (other : ℕ) (d : DeviceParts) (body : List ℕ) : Type 0 where
      -- no parts before it, and the body is that of this leg
      pub alone : parts ≡ []
      pub same : other ≡ addr
      pub asked : IsRequest device bytes

    is_first : (other : ℕ) (d : DeviceParts) (body : List ℕ) → device_with other profile ≡ Some d → IsRequest d body
        → all_legs ≡ leg (write_address other ∷ body) → IsFirstLeg other d body
    is_first other d body found is same =
        let cut =
        same_last_start legs [] bytes_taken (acked (write_address other ∷ body))
        (no_start-acked (write_address addr ∷ bytes))
        (no_start-acked (write_address other ∷ body)) same in
        let address : Byte (write_address addr) ≡ Byte (write_address other) = cc (cut.1) in
        let rest : acked bytes ≡ acked body = cc (cut.1) in
        let same_address : other ≡ addr = sym (same_half addr other address) in
        let same_bytes : body ≡ bytes = sym (one_row_of_bytes bytes body rest) in
        let there : device_with addr profile ≡ Some d =
        subst (λ (a : ℕ). device_with a profile ≡ Some d) same_address found in
        let same_device : d ≡ device = same_found (device_with addr profile) d device there known in
        let by_device = subst (λ (x : DeviceParts). IsRequest x body) same_device is in
        record {
          alone = one_list_of_parts profile parts [] legs each cut.0;
          same = same_address;
          asked = subst (λ (bs : List ℕ). IsRequest device bs) same_bytes by_device;
        }

    -- parts with this leg are one more than those before
    record IsGroup (all : List PartData) : Type 0 where
      pub part : PartData
      pub split : all ≡ parts ++ part ∷ []
      pub addressed : part.addr ≡ addr
      pub body : IsWriteBody device bytes
      -- so they are one more
      pub longer : length all ≡ length parts + 1

    is_group : (all : List PartData) → PartsEvents profile all all_legs → IsGroup all
    is_group all behind =
        let w = part_behind profile all all_legs legs bytes_taken (no_start-acked (write_address addr ∷ bytes)) behind
        refl in
        let is = is_part w.done w.part w.each w.here in
        let split : all ≡ parts ++ w.part ∷ [] = w.split ∙ ap (λ (ps : List PartData). ps ++ w.part ∷ []) is.same in
        record {
          part = w.part;
          split = split;
          addressed = is.addressed;
          body = is.body;
          longer = ap length split ∙ length_push parts w.part;
        }

    leg_follows : InLastLeg profile all_legs [] → LegMayFollow device parts bytes
    leg_follows (in_written all few_all own_all behind begins) =
        let w = is_group all behind in
        leg_of_group w.body (omega (arith, few_all, w.longer))
    leg_follows (at_reply other d body found is front none) =
        let w = is_first other d body found is front in
        leg_of_reply w.alone w.asked
    leg_follows (at_read_address other d body found is front none) = absurd (cc none)
    leg_follows (in_reply other d body answer found answers front begins) =
        absurd (no_answer_at_start (read_address other) answer begins)
    leg_follows (in_alert front begins) = absurd (no_end legs Start bytes_taken front)

    -- one more leg begins after the parts with this one
    group_goes_on : IsWriteBody device bytes → length parts < 15 → (events last : List Event)
        → events ≡ all_legs ++ last
        → ((part : PartData) → part.addr ≡ addr → LegBegins profile (parts ++ part ∷ []) last) → Viable profile events
    group_goes_on is fewer events last spelled begins =
        let w = one_more pec_is_byte profile bus parts few own legs each addr device bytes known is in
        let long : length (parts ++ w.0 ∷ []) ≡ length parts + 1 = length_push parts w.0 in
        beginning_is_viable pec_is_byte profile bus events
        (
        written
        (record {
          parts = parts ++ w.0 ∷ [];
          few = omega (arith, long, fewer);
          distinct = distinct_with parts w.0 own (subst (λ (a : ℕ). IsNew a (addresses parts)) (sym w.1) new);
          legs = all_legs;
          each = w.2;
          last = last;
          begins = begins w.0 w.1;
          spelled = spelled;
        })
        )

    -- the leg is the packet's first
    first_leg_is : parts ≡ [] → all_legs ≡ leg (write_address addr ∷ bytes)
    first_leg_is alone = ap (λ (es : List Event). es ++ Start ∷ bytes_taken)
        (subst (λ (ps : List PartData). PartsEvents profile ps legs) alone each)

    start_follows_at : LegMayFollow device parts bytes → MayFollow profile all_legs Start
    start_follows_at (leg_of_group is fewer) =
        group_goes_on is fewer (all_legs ++ Start ∷ []) (Start ∷ []) refl (λ part same. leg_start refl)
    start_follows_at (leg_of_reply alone is) =
        beginning_is_viable pec_is_byte profile bus (all_legs ++ Start ∷ [])
        (read (read_start addr device bytes known is (ap (λ (es : List Event). es ++ Start ∷ []) (first_leg_is alone))))

    -- START may follow one more part, or a body that asks
    pub start_follows : (MayFollow profile all_legs Start → LegMayFollow device parts bytes)
        × (LegMayFollow device parts bytes → MayFollow profile all_legs Start)
    start_follows = (
      λ follows.
          leg_follows
          (
          by_open_leg profile all_legs Start all_legs [] refl refl refl refl
          (
          viable_is_beginning pec_is_byte profile bus (all_legs ++ Start ∷ []) (λ none. no_end all_legs Start [] none)
          follows
          )
          ),
      start_follows_at,
    )

    -- ---- an address byte

    next_follows : (byte : ℕ) (all : List PartData) → length all ≤ 15 → PartsEvents profile all all_legs
        → LegBegins profile all (Start ∷ Byte byte ∷ []) → IsNextAddress device parts addr bytes byte
    next_follows byte all few_all behind (leg_start is) = absurd (cc is)
    next_follows byte all few_all behind (leg_address other seven free is) =
        let w = is_group all behind in
        let free_with : IsNew other (addresses (parts ++ w.part ∷ [])) =
        subst (λ (ps : List PartData). IsNew other (addresses ps)) w.split free in
        let free_of = (new_with other parts w.part).0 free_with in
        next_leg other w.body (omega (arith, few_all, w.longer)) seven
        (subst (λ (a : ℕ). IsNew other (a ∷ addresses parts)) w.addressed free_of) (cc is)
    next_follows byte all few_all behind (leg_taken other d front free found begins is) = absurd (cc is)
    next_follows byte all few_all behind (leg_sent other d front last free found inside small is) = absurd (cc is)

    address_follows : (byte : ℕ) → InLastLeg profile all_legs (Byte byte ∷ [])
        → IsNextAddress device parts addr bytes byte
    address_follows byte (in_written all few_all own_all behind begins) = next_follows byte all few_all behind begins
    address_follows byte (at_reply other d body found is front none) = absurd (cc none)
    address_follows byte (at_read_address other d body found is front same) =
        let w = is_first other d body found is front in
        let byte_is : byte ≡ read_address other = cc same in
        reply_leg w.alone w.asked (byte_is ∙ ap read_address w.same)
    address_follows byte (in_reply other d body answer found answers front begins) =
        absurd (no_answer_yet (read_address other) answer byte begins)
    address_follows byte (in_alert front begins) = absurd (no_end legs Start bytes_taken front)

    byte_follows_at : (byte : ℕ) → IsNextAddress device parts addr bytes byte
        → MayFollow profile (all_legs ++ Start ∷ []) (Byte byte)
    byte_follows_at byte (next_leg other is fewer seven free same) =
        group_goes_on is fewer ((all_legs ++ Start ∷ []) ++ Byte byte ∷ []) (Start ∷ Byte byte ∷ [])
        (append_assoc all_legs (Start ∷ []) (Byte byte ∷ []))
        (λ part addressed.
        leg_address other seven ((new_with other parts part).1
        (subst (λ (a : ℕ). IsNew other (a ∷ addresses parts)) (sym addressed) free))
        (ap (λ (b : ℕ). Start ∷ Byte b ∷ []) same))
    byte_follows_at byte (reply_leg alone is same) =
        let written_leg = leg (write_address addr ∷ bytes) in
        beginning_is_viable pec_is_byte profile bus ((all_legs ++ Start ∷ []) ++ Byte byte ∷ [])
        (
        read
        (
        read_address_sent addr device bytes known is
        (
        append_assoc all_legs (Start ∷ []) (Byte byte ∷ [])
        ∙ ap (λ (es : List Event). es ++ Start ∷ Byte byte ∷ []) (first_leg_is alone)
        ∙ ap (λ (b : ℕ). written_leg ++ Start ∷ Byte b ∷ []) same
        )
        )
        )

    -- which address byte may follow that START
    pub byte_follows : (byte : ℕ)
        → (MayFollow profile (all_legs ++ Start ∷ []) (Byte byte) → IsNextAddress device parts addr bytes byte)
        × (IsNextAddress device parts addr bytes byte → MayFollow profile (all_legs ++ Start ∷ []) (Byte byte))
    byte_follows byte = (
      λ follows.
          address_follows byte
          (
          by_open_leg profile (all_legs ++ Start ∷ []) (Byte byte) all_legs (Byte byte ∷ []) refl refl refl
          (append_assoc all_legs (Start ∷ []) (Byte byte ∷ []))
          (
          viable_is_beginning pec_is_byte profile bus ((all_legs ++ Start ∷ []) ++ Byte byte ∷ [])
          (λ none. no_end (all_legs ++ Start ∷ []) (Byte byte) [] none) follows
          )
          ),
      byte_follows_at byte,
    )
