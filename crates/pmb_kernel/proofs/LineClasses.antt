-- What becomes of a line is what its class says, by the cases that its class is chosen by.
use Rattle.std.proofs.Common.{◌≡◌, ℕ, arith, ◌+◌, ◌==◌, ◌&&◌, nat_le, is_some, Bool, true, false, List, [], ◌∷◌, ◌++◌, length}
use Rattle.std.proofs.Common.{Option, Some, None, if◌then◌else◌, refl, sym, ap, subst, inl, inr, ◌⊎◌, append-nil, drop}
use Rattle.std.specs.Str.{bytes_eq}
use Rattle.std.proofs.lemmas.Slice.Eq.{bytes_eq-Decides}
use Rattle.pmb_recording.specs.Content.{content}
use Rattle.pmb_recording.specs.Recording.{Step, at_failure, at_packet, counted_cut, cut_text, first_line, following, in_line, past_other_bus}
use Rattle.pmb_recording.specs.Recording.{past_other_kind, quietly, skipped}
use Rattle.pmb_recording.specs.Told.{Reason, DoesNotFollow, MakesNoSense, too_long_line}
use Rattle.pmb_recording.specs.Wire.{most_wire}
use Rattle.pmb_recording.specs.declared.recording.PacketLines.{PacketLines}
use Rattle.pmb_recording.specs.declared.recording.Recording.{Recording}
use Rattle.pmb_trace.specs.Fields.{Outcome, event_bus}
use Rattle.pmb_trace.specs.Line as line
use Rattle.pmb_recording.specs.Classes.{LineClass, GivesEvents, SaysNothing, PassedOver, IsFault, given_if}
use Rattle.pmb_kernel.specs.Classes.{DoesAs, EachLineHasItsClass, Faulted, GivenText, Nothing, Cut, Packet, Failed, TooLong}
use Rattle.pmb_kernel.specs.Classes.{CutTooLong, Quiet, Heading, Loss, OtherBus, OtherKind}
use Rattle.pmb_kernel.specs.Classes.{class_of, class_of_message, class_of_said, class_of_trace}
use Rattle.pmb_kernel.specs.Classes.{class_if_bus, class_on_bus, may_stand, message_follows, replies_first}
use Rattle.pmb_kernel.specs.Classes.{holds_result, is_result, says_result, unless_own}
use Rattle.pmb_kernel.specs.Events.{Message, Role, Writes, Reads, Replies, Says, OfMessage, Result, Unreadable}
use Rattle.pmb_kernel.specs.Events.{own_fault, says}
use Rattle.pmb_kernel.specs.Transfers.{add_message, add_reply, at_next_line, begin, begins, end_transfer, event, fault, faulty_result}
use Rattle.pmb_kernel.specs.Transfers.{first_message, follow, follow_message, gives, has_room, if_bus, is_count, is_next}
use Rattle.pmb_kernel.specs.Transfers.{is_of_messages, is_reply_to, message_or_reply, next_message, on_bus, reply, reply_to}
use Rattle.pmb_kernel.specs.Transfers.{reply_to_first, result_follows, stray, stray_result, take_content, take_said}
use Rattle.pmb_kernel.specs.Transfers.{too_long, unless_fault, with_message, with_reply, within}
use Rattle.pmb_kernel.specs.Transfers as transfers
use Rattle.pmb_kernel.specs.declared.transfers.Read.{Read}
use Rattle.pmb_kernel.specs.declared.transfers.Transfers.{Transfers}

bool_cases : (b : Bool) → (b ≡ true) ⊎ (b ≡ false)
bool_cases true = inl refl
bool_cases false = inr refl

-- a fault is told, and no packet is left
faulted : (t : Transfers) (reason : Reason) → Faulted false t (fault t reason)
faulted t reason = record { reason = reason; told = refl; is_counted = omega arith; is_gone = refl; skips = refl }

-- nor is anything skipped after a result
result_faulted : (t : Transfers) (reason : Reason) → Faulted true t (faulty_result t reason)
result_faulted t reason =
    record { reason = reason; told = refl; is_counted = omega arith; is_gone = refl; skips = refl }

-- a step of an event: it is given, or it is a fault
abbrev OfEvent : LineClass → Bool → Transfers → Step Transfers → Type 0
OfEvent GivesEvents ends t step = GivenText t step.text
OfEvent IsFault ends t step = Faulted ends t step
OfEvent SaysNothing ends t step = ⊥
OfEvent PassedOver ends t step = ⊥

-- a step that is taken where a test holds, and else is a fault
tested_as : (ends : Bool) (t : Transfers) (b : Bool) (step other : Step Transfers) → GivenText t step.text
    → Faulted ends t other → OfEvent (given_if b) ends t (if b then step else other)
tested_as ends t true step other given is_fault = given
tested_as ends t false step other given is_fault = is_fault

tested : (t : Transfers) (b : Bool) (step : Step Transfers) (reason : Reason) → GivenText t step.text
    → OfEvent (given_if b) false t (if b then step else fault t reason)
tested t b step reason given = tested_as false t b step (fault t reason) given (faulted t reason)

tested_result : (t : Transfers) (b : Bool) (step : Step Transfers) (reason : Reason) → GivenText t step.text
    → OfEvent (given_if b) true t (if b then step else faulty_result t reason)
tested_result t b step reason given =
    tested_as true t b step (faulty_result t reason) given (result_faulted t reason)

-- ---- messages

-- an event more leaves the first line
same_first : (n : ℕ) (packet : Option PacketLines) → first_line (in_line n packet) ≡ first_line packet
same_first n (Some lines) = refl
same_first n None = refl

room : (t now : Transfers) (b : Bool) → GivenText t (if b then quietly now else too_long (gives t)).text
room t now true = Nothing refl
room t now false =
    TooLong (ap (λ (n : ℕ). too_long_line t.recording.line n) (same_first t.recording.line t.recording.packet))

-- a packet that is cut leaves the line
same_line : (packet : Option PacketLines) (r : Recording) → (counted_cut packet r).line ≡ r.line
same_line (Some lines) r = refl
same_line None r = refl

first_room : (t now : Transfers) (time : List ℕ) (b : Bool)
    → GivenText t (cut_text t.recording.packet ++ (if b then quietly now else too_long (begin t time).now).text)
first_room t now time true = Cut (append-nil (cut_text t.recording.packet))
first_room t now time false =
    CutTooLong (ap (λ (n : ℕ). cut_text t.recording.packet ++ too_long_line n n)
    (same_line t.recording.packet t.recording))

next : (t : Transfers) (m : Message) → OfEvent (given_if (is_next t m)) false t (next_message t m)
next t m =
    tested t (is_next t m) (add_message (gives t) m) DoesNotFollow
    (room t (with_message (gives t) m) (has_room (gives t) m.bytes))

waiting : (t : Transfers) (m : Message) (reads : List Read)
    → OfEvent (given_if (replies_first m reads)) false t (reply_to_first t m reads)
waiting t m [] = faulted t DoesNotFollow
waiting t m (read ∷ reads) =
    tested t (is_reply_to read m) (add_reply (gives t) read m.bytes) DoesNotFollow
    (room t (with_reply (gives t) read m.bytes)
    (nat_le (length t.recording.wire.items + length m.bytes) most_wire))

by_role : (t : Transfers) (m : Message) (role : Role)
    → OfEvent (given_if (elim role [
      | Writes ↦ is_next t m
      | Reads ↦ is_next t m
      | Replies ↦ replies_first m (drop t.replies t.reads.items)
    ])) false t (elim role [ Writes ↦ next_message t m | Reads ↦ next_message t m | Replies ↦ reply t m ])
by_role t m Writes = next t m
by_role t m Reads = next t m
by_role t m Replies = waiting t m (drop t.replies t.reads.items)

-- in the packet under way, or where there is none
standing : (ends : Bool) (t : Transfers) (packet : Option PacketLines) (follows : Bool) (inside outside : Step Transfers)
    → OfEvent (given_if follows) ends t inside → OfEvent (given_if t.recording.is_skipping) ends t outside
    → OfEvent (given_if (may_stand packet follows t.recording.is_skipping)) ends t (within packet inside outside)
standing ends t (Some lines) follows inside outside given strays = given
standing ends t None follows inside outside given strays = strays

strays : (t : Transfers) → OfEvent (given_if t.recording.is_skipping) false t (stray t)
strays t = tested t t.recording.is_skipping (quietly t) DoesNotFollow (Nothing refl)

result_strays : (t : Transfers) → OfEvent (given_if t.recording.is_skipping) true t (stray_result t)
result_strays t =
    tested_result t t.recording.is_skipping (quietly (record t { recording = skipped t.recording })) DoesNotFollow (Nothing refl)

beginning : (t : Transfers) (time : List ℕ) (m : Message) (b : Bool)
    → OfEvent (if b then GivesEvents else
    given_if (may_stand t.recording.packet (message_follows t m) t.recording.is_skipping)) false t
    (if b then first_message t time m else within t.recording.packet (message_or_reply t m) (stray t))
beginning t time m true =
    first_room t (with_message (begin t time).now m) time (has_room (begin t time).now m.bytes)
beginning t time m false =
    standing false t t.recording.packet (message_follows t m) (message_or_reply t m) (stray t) (by_role t m m.role) (strays t)

unless : (t : Transfers) (own : Option Reason) (c : LineClass) (step : Step Transfers) → OfEvent c false t step
    → OfEvent (unless_own own c) false t (unless_fault t own step)
unless t (Some reason) c step does = faulted t reason
unless t None c step does = does

-- ---- results

ended : (t : Transfers) (outcome : Outcome) (b : Bool) → GivenText t (if b then
    transfers.on t (at_packet t.recording)
    else transfers.on t (at_failure t.recording outcome.text)).text
ended t outcome true = Packet refl
ended t outcome false = Failed outcome.text refl

of_result : (t : Transfers) (count : ℕ) (outcome : Outcome)
    → OfEvent (given_if (result_follows t count outcome)) true t (transfers.result t count outcome)
of_result t count outcome =
    tested_result t (result_follows t count outcome) (end_transfer t outcome) DoesNotFollow
    (ended t outcome (is_count outcome.value t.messages))

of_said : (t : Transfers) (time : List ℕ) (said : Says)
    → OfEvent (class_of_said t said) (says_result said) t (follow t time said)
of_said t time (OfMessage m) =
    unless t (own_fault m) (class_of_message t m) (follow_message t time m)
    (beginning t time m (begins m.role m.number))
of_said t time (Result count outcome) =
    standing true t t.recording.packet (result_follows t count outcome) (transfers.result t count outcome) (stray_result t)
    (of_result t count outcome) (result_strays t)
of_said t time Unreadable = faulted t MakesNoSense

-- ---- buses

does : (c : LineClass) (ends : Bool) (t : Transfers) (step : Step Transfers) → OfEvent c ends t step
    → DoesAs c ends t step
does GivesEvents ends t step of_event = of_event
does IsFault ends t step of_event = of_event
does SaysNothing ends t step of_event = absurd of_event
does PassedOver ends t step of_event = absurd of_event

-- the machine that follows the bus of a name
abbrev settled : Transfers → List ℕ → Transfers
settled t name = record t { recording = record t.recording { follows_bus = true; bus = record { items = name } } }

given_before : (t : Transfers) (name text : List ℕ) → GivenText (settled t name) text → GivenText t text
given_before t name text (Nothing is) = Nothing is
given_before t name text (Cut is) = Cut is
given_before t name text (Packet is) = Packet is
given_before t name text (Failed outcome is) = Failed outcome is
given_before t name text (TooLong is) = TooLong is
given_before t name text (CutTooLong is) = CutTooLong is

-- that a bus is settled changes no packet
before : (c : LineClass) (ends : Bool) (t : Transfers) (name : List ℕ) (step : Step Transfers)
    → OfEvent c ends (settled t name) step → DoesAs c ends t step
before GivesEvents ends t name step of_event = given_before t name step.text of_event
before IsFault ends t name step of_event = record {
  reason = of_event.reason;
  told = of_event.told;
  is_counted = of_event.is_counted;
  is_gone = of_event.is_gone;
  skips = of_event.skips;
}
before SaysNothing ends t name step of_event = absurd of_event
before PassedOver ends t name step of_event = absurd of_event

-- the bus was settled before
on_known : (t : Transfers) (time : List ℕ) (said : Says) (b : Bool)
    → DoesAs (if b then class_of_said t said else PassedOver) (says_result said) t
    (if b then follow t time said else quietly (record t { recording = past_other_bus t.recording }))
on_known t time said true =
    does (class_of_said t said) (says_result said) t (follow t time said) (of_said t time said)
on_known t time said false = OtherBus refl

-- the bus is settled by this line
on_first : (t : Transfers) (bus time : List ℕ) (said : Says) (b : Bool) → b ≡ true
    → DoesAs (if b then class_of_said (settled t bus) said else PassedOver) (says_result said) t
    (if b then follow (settled t bus) time said else
    quietly (record (settled t bus) { recording = past_other_bus (settled t bus).recording }))
on_first t bus time said true is =
    before (class_of_said (settled t bus) said) (says_result said) t bus (follow (settled t bus) time said)
    (of_said (settled t bus) time said)
on_first t bus time said false is = cc

if_true : {A : Type 0} (b : Bool) (x y : A) → b ≡ true → (if b then x else y) ≡ x
if_true true x y is = refl
if_true false x y is = cc

if_false : {A : Type 0} (b : Bool) (x y : A) → b ≡ false → (if b then x else y) ≡ y
if_false true x y is = cc
if_false false x y is = refl

-- it holds of the bus that is followed from this line on
with_bus : (t : Transfers) (bus time : List ℕ) (said : Says) (r : Recording) → r ≡ following t.recording bus
    → DoesAs (class_on_bus (record t { recording = r }) bus said) (says_result said) t
    (on_bus (record t { recording = r }) bus time said)
    → DoesAs (class_if_bus t (Some bus) said) (says_result said) t (if_bus t (Some bus) time said)
with_bus t bus time said r is does =
    subst (λ (r : Recording). DoesAs (class_on_bus (record t { recording = r }) bus said) (says_result said) t
    (on_bus (record t { recording = r }) bus time said)) is does

on_either : (t : Transfers) (bus time : List ℕ) (said : Says)
    → (t.recording.follows_bus ≡ true) ⊎ (t.recording.follows_bus ≡ false)
    → DoesAs (class_if_bus t (Some bus) said) (says_result said) t (if_bus t (Some bus) time said)
on_either t bus time said (inl known) =
    with_bus t bus time said t.recording
    (sym (if_true t.recording.follows_bus t.recording (settled t bus).recording known))
    (on_known t time said (bytes_eq t.recording.bus.items bus))
on_either t bus time said (inr first) =
    with_bus t bus time said (settled t bus).recording
    (sym (if_false t.recording.follows_bus t.recording (settled t bus).recording first))
    (on_first t bus time said (bytes_eq bus bus) ((bytes_eq-Decides bus bus).1 refl))

of_bus : (t : Transfers) (bus : Option (List ℕ)) (time : List ℕ) (said : Says)
    → DoesAs (class_if_bus t bus said) (is_some bus && says_result said) t (if_bus t bus time said)
of_bus t (Some bus) time said = on_either t bus time said (bool_cases t.recording.follows_bus)
of_bus t None time said = faulted t MakesNoSense

-- ---- lines

of_kind : (t : Transfers) (c : LineClass) (ends : Bool) (step : Step Transfers) (b : Bool) → DoesAs c ends t step
    → DoesAs (if b then c else PassedOver) ends t
    (if b then step else quietly (record t { recording = past_other_kind t.recording }))
of_kind t c ends step true does = does
of_kind t c ends step false does = OtherKind refl

of_trace : (t : Transfers) (said : line.TraceLine) → DoesAs (class_of_trace t said) (is_result said) t (take_said t said)
of_trace t line.Nothing = Quiet refl
of_trace t line.Heading = Heading refl
of_trace t (line.Lost count) = Loss count refl
of_trace t (line.Says e) =
    of_kind t (class_if_bus t (event_bus e.fields) (says e.name e.fields))
    (is_some (event_bus e.fields) && says_result (says e.name e.fields))
    (if_bus t (event_bus e.fields) (line.event_time e.front) (says e.name e.fields))
    (is_of_messages (line.kind_of e.name) e.has_other)
    (of_bus t (event_bus e.fields) (line.event_time e.front) (says e.name e.fields))

of_content : (t : Transfers) (text : Option (List ℕ)) → DoesAs (class_of t text) (holds_result text) t (take_content t text)
of_content t (Some text) = of_trace t (line.trace_line text)
of_content t None = faulted t MakesNoSense

pub each_line : EachLineHasItsClass
each_line t given = of_content (at_next_line t) (content (t.recording.line == 0) given)
