-- How a packet begins: with START and an address byte. For `visit_packet`, since a packet's time is
-- kept when its STOP comes, and for `take_line`, since words stand between START and STOP.
use Rattle.std.proofs.Common.{◌≡◌, ◌≢◌, ℕ, Bool, true, false, List, [], ◌∷◌, ◌++◌, append_assoc, sym, ap, ◌∙◌, subst}
use Rattle.std.proofs.Common.{arith}
use Rattle.pmb_bus.specs.declared.event.Event.{Event}
use Rattle.pmb_bus.specs.declared.event.Event.TheVariants.{Start, Byte, Stop}
use Rattle.pmb_command.specs.Parts.{DeviceParts}
use Rattle.pmb_transaction.specs.Packet.{Packet, PartsEvents}
use Rattle.pmb_transaction.specs.Transaction.{PartData, RefusedData, TransactionData, Alert, Call, NoAlert, Read}
use Rattle.pmb_transaction.specs.Transaction.{Refused, Write}

-- a packet begins with START and an address byte
abbrev pub BeginsWithAddress : List Event → Type 0
BeginsWithAddress events = (b : ℕ) × (more : List Event) × (events ≡ Start ∷ Byte b ∷ more)

begins_part : (profile : List DeviceParts) (part : PartData) (parts : List PartData) (legs others : List Event)
    → PartsEvents profile (part ∷ parts) legs → BeginsWithAddress (legs ++ others)
begins_part profile part parts legs others (first, rest, split, leg, more) =
    (_, _, ap (λ (l : List Event). l ++ others) (split ∙ ap (λ (l : List Event). l ++ rest) leg.spelled))

begins_write : (profile : List DeviceParts) (parts : List PartData) (events : List Event)
    → Packet profile (Write parts) events → BeginsWithAddress events
begins_write profile [] events packet = absurd (omega (arith, packet.some))
begins_write profile (part ∷ parts) events packet =
    subst BeginsWithAddress (sym packet.spelled) (begins_part profile part parts packet.legs (Stop ∷ []) packet.each)

-- so does one in which something is refused, after parts or without any
begins_behind : (profile : List DeviceParts) (parts : List PartData) (legs others : List Event)
    → PartsEvents profile parts legs → BeginsWithAddress others
    → BeginsWithAddress (legs ++ others)
begins_behind profile [] legs others none (b, more, is) = (b, more, ap (λ (l : List Event). l ++ others) none ∙ is)
begins_behind profile (part ∷ parts) legs others each begun = begins_part profile part parts legs others each

begins_refused : (profile : List DeviceParts) (t : RefusedData) (events : List Event)
    → (packet : Packet profile (Refused t) events)
    → BeginsWithAddress packet.last → BeginsWithAddress events
begins_refused profile t events packet (b, more, is) =
    subst BeginsWithAddress (sym (packet.spelled ∙ append_assoc packet.legs packet.last (Stop ∷ [])))
    (begins_behind profile t.parts packet.legs (packet.last ++ Stop ∷ []) packet.each
    (b, more ++ Stop ∷ [], ap (λ (l : List Event). l ++ Stop ∷ []) is))

begins_refusal : (profile : List DeviceParts) (parts : List PartData) (addr : ℕ) (sent : List ℕ) (at_read : Bool)
    (events : List Event)
    → Packet profile (Refused (record { parts = parts; addr = addr; sent = sent; at_read = at_read })) events
    → BeginsWithAddress events
begins_refusal profile parts addr [] false events packet =
    begins_refused profile (record { parts = parts; addr = addr; sent = []; at_read = false }) events packet
    (_, _, packet.refused.spelled)
begins_refusal profile parts addr (first ∷ more) false events packet =
    begins_refused profile (record { parts = parts; addr = addr; sent = first ∷ more; at_read = false }) events packet
    (_, _, packet.refused.spelled)
begins_refusal profile parts addr [] true events packet =
    begins_refused profile (record { parts = parts; addr = addr; sent = []; at_read = true }) events packet
    (_, _, packet.refused.spelled)
begins_refusal profile parts addr (first ∷ more) true events packet =
    begins_refused profile (record { parts = parts; addr = addr; sent = first ∷ more; at_read = true }) events packet
    (_, _, packet.refused.spelled)

pub begins : (profile : List DeviceParts) (t : TransactionData) (events : List Event) → Packet profile t events
    → BeginsWithAddress events
begins profile (Write parts) events packet = begins_write profile parts events packet
begins profile (Read read) events packet = (_, _, packet.spelled)
begins profile (Call call) events packet = (_, _, packet.spelled)
begins profile (Refused t) events packet = begins_refusal profile t.parts t.addr t.sent t.at_read events packet
begins profile (Alert alert) events packet = (_, _, packet.spelled)
begins profile NoAlert events packet = (_, _, packet)

-- so some events of it come before its last
pub some_before_stop : (profile : List DeviceParts) (t : TransactionData) (front : List Event) (event : Event)
    → Packet profile t (front ++ event ∷ []) → front ≢ []
some_before_stop profile t [] event packet =
    let begun = begins profile t (event ∷ []) packet in
    λ none. cc begun.2
some_before_stop profile t (first ∷ front) event packet = λ none. cc none
