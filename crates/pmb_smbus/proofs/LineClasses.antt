-- What becomes of a line is what its class says, by the cases that its class is chosen by.
use Rattle.std.proofs.Common.{◌≡◌, ℕ, arith, ◌==◌, ◌&&◌, ◌||◌, not, Bool, true, false, List, Option}
use Rattle.std.proofs.Common.{Some, None, is_none, is_some}
use Rattle.std.proofs.Common.{if◌then◌else◌, refl, sym, subst, inl, inr, ◌⊎◌}
use Rattle.std.specs.Str.{bytes_eq}
use Rattle.std.proofs.lemmas.Slice.Eq.{bytes_eq-Decides}
use Rattle.pmb_recording.specs.Content.{content}
use Rattle.pmb_recording.specs.Recording.{Step, at_hidden_bytes, at_hidden_reply, following, past_other_bus}
use Rattle.pmb_recording.specs.Recording.{quietly, skipped}
use Rattle.pmb_recording.specs.Told.{Reason, DoesNotFollow, MakesNoSense}
use Rattle.pmb_recording.specs.declared.recording.PacketLines.{PacketLines}
use Rattle.pmb_recording.specs.declared.recording.Recording.{Recording}
use Rattle.pmb_trace.specs.Fields.{Outcome, event_bus}
use Rattle.pmb_trace.specs.Line as line
use Rattle.pmb_recording.specs.Classes.{LineClass, GivesEvents, SaysNothing, PassedOver, IsFault, given_if}
use Rattle.pmb_smbus.specs.Classes.{DoesAs, EachLineHasItsClass, Faulted, GivenText, Nothing, Cut, Packet, Failed}
use Rattle.pmb_smbus.specs.Classes.{BytesHidden, ReplyHidden}
use Rattle.pmb_smbus.specs.Classes.{Silent, Heading, Lost, OtherBus, OtherKind, at_next_line, class_of, class_of_bus}
use Rattle.pmb_smbus.specs.Classes.{class_of_event, class_of_own, class_of_said, class_on_bus, may_result}
use Rattle.pmb_smbus.specs.Classes.{ends_event, ends_line, holds_result, may_stand}
use Rattle.pmb_smbus.specs.Events.{Replies, Reads, Result, Says, Unreadable, Writes, bytes_shown, hides, own_fault}
use Rattle.pmb_smbus.specs.Transfers.{ends, event, event_says, fault, faulty_result, follow, follow_says, has_its_reply}
use Rattle.pmb_smbus.specs.Transfers.{if_bus, is_result, own_step}
use Rattle.pmb_smbus.specs.Transfers.{lacks_bytes, lacks_reply, may_end, may_reply, on, on_bus, replied, reply, stray}
use Rattle.pmb_smbus.specs.Transfers.{stray_result, take_content, take_result, take_said, unless_fault}
use Rattle.pmb_smbus.specs.Transfers.{whole, with_recording, within}
use Rattle.pmb_smbus.specs.declared.transfers.Transfers.{Transfers}

bool_cases : (b : Bool) → (b ≡ true) ⊎ (b ≡ false)
bool_cases true = inl refl
bool_cases false = inr refl

-- a fault is told, and no packet is left
faulted : (s : Transfers) (reason : Reason) → Faulted false s (fault s reason)
faulted s reason = record { reason = reason; told = refl; is_counted = omega arith; is_gone = refl; skips = refl }

-- nor is anything skipped after a result
result_faulted : (s : Transfers) (reason : Reason) → Faulted true s (faulty_result s reason)
result_faulted s reason =
    record { reason = reason; told = refl; is_counted = omega arith; is_gone = refl; skips = refl }

-- ---- events

-- a step of an event: it is given, or it is a fault
abbrev OfEvent : Bool → Bool → Transfers → Step Transfers → Type 0
OfEvent true ends s step = GivenText s step.text
OfEvent false ends s step = Faulted ends s step

-- a step that is taken where a test holds, and else is a fault
tested : (s : Transfers) (b : Bool) (step : Step Transfers) → GivenText s step.text
    → OfEvent b false s (if b then step else fault s DoesNotFollow)
tested s true step given = given
tested s false step given = faulted s DoesNotFollow

tested_result : (s : Transfers) (b : Bool) (step : Step Transfers) → GivenText s step.text
    → OfEvent b true s (if b then step else faulty_result s DoesNotFollow)
tested_result s true step given = given
tested_result s false step given = result_faulted s DoesNotFollow

-- a transfer that went through, by what the recording shows of it
shown : (s : Transfers) (hidden lacking : Bool)
    → GivenText s (if hidden then on s (at_hidden_bytes s.recording) else
    if lacking then on s (at_hidden_reply s.recording) else whole s).text
shown s true lacking = BytesHidden refl
shown s false true = ReplyHidden refl
shown s false false = Packet refl

through : (s : Transfers) (b : Bool) (step : Step Transfers) → GivenText s step.text
    → OfEvent b true s (if not b then faulty_result s DoesNotFollow else step)
through s true step given = given
through s false step given = result_faulted s DoesNotFollow

ending : (s : Transfers) (writes : Bool) (outcome : Outcome) (value : Option ℕ)
    → OfEvent (is_none value || has_its_reply s.transfer writes) true s (ends s writes outcome value)
ending s writes outcome None = Failed outcome.text refl
ending s writes outcome (Some value) =
    through s (has_its_reply s.transfer writes)
    (if lacks_bytes s.transfer then on s (at_hidden_bytes s.recording) else
    if lacks_reply s.transfer writes then on s (at_hidden_reply s.recording) else whole s)
    (shown s (lacks_bytes s.transfer) (lacks_reply s.transfer writes))

both : (s : Transfers) (a b : Bool) (step : Step Transfers) → OfEvent b true s step
    → OfEvent (a && b) true s (if a then step else faulty_result s DoesNotFollow)
both s true b step of_event = of_event
both s false b step of_event = result_faulted s DoesNotFollow

standing : (s : Transfers) (time : List ℕ) (packet : Option PacketLines) (said : Says) → packet ≡ s.recording.packet
    → OfEvent (may_stand packet s said) (is_result said) s (follow_says s time said)
standing s time packet (Writes m) is = Cut refl
standing s time packet (Reads front) is = Cut refl
standing s time packet Unreadable is = faulted s MakesNoSense
standing s time (Some lines) (Replies m) is =
    subst (λ (p : Option PacketLines). OfEvent (may_reply s.transfer m.front.head) false s
    (within p (reply s m.front.head (bytes_shown m.bytes) (hides m)) (stray s))) is
    (tested s (may_reply s.transfer m.front.head) (quietly (replied s (bytes_shown m.bytes) (hides m))) (Nothing refl))
standing s time (Some lines) (Result front writes outcome) is =
    subst (λ (p : Option PacketLines). OfEvent (may_result s front.head writes outcome.value) true s
    (within p (take_result s front.head writes outcome) (stray_result s))) is
    (both s (may_end s.transfer front.head writes) (is_none outcome.value || has_its_reply s.transfer writes)
    (ends s writes outcome outcome.value) (ending s writes outcome outcome.value))
standing s time None (Replies m) is =
    subst (λ (p : Option PacketLines). OfEvent s.recording.is_skipping false s
    (within p (reply s m.front.head (bytes_shown m.bytes) (hides m)) (stray s))) is
    (tested s s.recording.is_skipping (quietly s) (Nothing refl))
standing s time None (Result front writes outcome) is =
    subst (λ (p : Option PacketLines). OfEvent s.recording.is_skipping true s
    (within p (take_result s front.head writes outcome) (stray_result s))) is
    (tested_result s s.recording.is_skipping (with_recording s (skipped s.recording)) (Nothing refl))

-- an event that has a fault by itself, or none
own_faulted : (s : Transfers) (ends : Bool) (reason : Reason) → Faulted ends s (own_step s ends reason)
own_faulted s true reason = result_faulted s reason
own_faulted s false reason = faulted s reason

without_fault : (s : Transfers) (ends : Bool) (own : Option Reason) (b : Bool) (step : Step Transfers)
    → OfEvent b ends s step → OfEvent (is_none own && b) ends s (unless_fault s ends own step)
without_fault s ends (Some reason) b step of_event = own_faulted s ends reason
without_fault s ends None b step of_event = of_event

of_own : (s : Transfers) (time : List ℕ) (said : Says)
    → OfEvent (is_none (own_fault said) && may_stand s.recording.packet s said) (is_result said) s (follow s time said)
of_own s time said =
    without_fault s (is_result said) (own_fault said) (may_stand s.recording.packet s said) (follow_says s time said)
    (standing s time s.recording.packet said refl)

-- ---- buses

does : (b ends : Bool) (s : Transfers) (step : Step Transfers) → OfEvent b ends s step → DoesAs (given_if b) ends s step
does true ends s step of_event = of_event
does false ends s step of_event = of_event

-- the transfers where the bus of a name is followed
abbrev settled : Transfers → List ℕ → Transfers
settled s name = record s { recording = record s.recording { follows_bus = true; bus = record { items = name } } }

given_before : (s : Transfers) (name text : List ℕ) → GivenText (settled s name) text → GivenText s text
given_before s name text (Nothing is) = Nothing is
given_before s name text (Cut is) = Cut is
given_before s name text (Packet is) = Packet is
given_before s name text (Failed result is) = Failed result is
given_before s name text (BytesHidden is) = BytesHidden is
given_before s name text (ReplyHidden is) = ReplyHidden is

-- that a bus is settled changes no packet
before : (b ends : Bool) (s : Transfers) (name : List ℕ) (step : Step Transfers) → OfEvent b ends (settled s name) step
    → DoesAs (given_if b) ends s step
before true ends s name step of_event = given_before s name step.text of_event
before false ends s name step of_event = record {
  reason = of_event.reason;
  told = of_event.told;
  is_counted = of_event.is_counted;
  is_gone = of_event.is_gone;
  skips = of_event.skips;
}

-- whether an event is given
abbrev is_given : Transfers → Says → Bool
is_given s said = is_none (own_fault said) && may_stand s.recording.packet s said

-- the bus was settled before
on_known : (s : Transfers) (time : List ℕ) (said : Says) (b : Bool)
    → DoesAs (if b then class_of_own s said else PassedOver) (is_result said) s
    (if b then follow s time said else with_recording s (past_other_bus s.recording))
on_known s time said true = does (is_given s said) (is_result said) s (follow s time said) (of_own s time said)
on_known s time said false = OtherBus refl

-- the bus is settled by this line
on_first : (s : Transfers) (name time : List ℕ) (said : Says) (b : Bool) → b ≡ true
    → DoesAs (if b then class_of_own (settled s name) said else PassedOver) (is_result said) s
    (if b then follow (settled s name) time said else
    with_recording (settled s name) (past_other_bus (settled s name).recording))
on_first s name time said true is =
    before (is_given (settled s name) said) (is_result said) s name (follow (settled s name) time said) (of_own (settled s name) time said)
on_first s name time said false is = cc

if_true : {A : Type 0} (b : Bool) (x y : A) → b ≡ true → (if b then x else y) ≡ x
if_true true x y is = refl
if_true false x y is = cc

if_false : {A : Type 0} (b : Bool) (x y : A) → b ≡ false → (if b then x else y) ≡ y
if_false true x y is = cc
if_false false x y is = refl

-- it holds of the bus that is followed from this line on
with_bus : (s : Transfers) (name time : List ℕ) (said : Says) (r : Recording) → r ≡ following s.recording name
    → DoesAs (class_on_bus (record s { recording = r }) name said) (is_result said) s
    (on_bus (record s { recording = r }) name time said)
    → DoesAs (class_of_bus s (Some name) said) (is_result said) s (if_bus s (Some name) time said)
with_bus s name time said r is does =
    subst (λ (r : Recording). DoesAs (class_on_bus (record s { recording = r }) name said) (is_result said) s
    (on_bus (record s { recording = r }) name time said)) is does

on_either : (s : Transfers) (name time : List ℕ) (said : Says)
    → (s.recording.follows_bus ≡ true) ⊎ (s.recording.follows_bus ≡ false)
    → DoesAs (class_of_bus s (Some name) said) (is_result said) s (if_bus s (Some name) time said)
on_either s name time said (inl known) =
    with_bus s name time said s.recording
    (sym (if_true s.recording.follows_bus s.recording (settled s name).recording known))
    (on_known s time said (bytes_eq s.recording.bus.items name))
on_either s name time said (inr first) =
    with_bus s name time said (settled s name).recording
    (sym (if_false s.recording.follows_bus s.recording (settled s name).recording first))
    (on_first s name time said (bytes_eq name name) ((bytes_eq-Decides name name).1 refl))

of_bus : (s : Transfers) (bus : Option (List ℕ)) (time : List ℕ) (said : Says)
    → DoesAs (class_of_bus s bus said) (is_some bus && is_result said) s (if_bus s bus time said)
of_bus s (Some name) time said = on_either s name time said (bool_cases s.recording.follows_bus)
of_bus s None time said = faulted s MakesNoSense

-- ---- lines

of_event : (s : Transfers) (e : line.Event) (said : Option Says)
    → DoesAs (class_of_event s e said) (ends_event e.fields said) s (event s e said)
of_event s e (Some said) = of_bus s (event_bus e.fields) (line.event_time e.front) said
of_event s e None = OtherKind refl

of_said : (s : Transfers) (said : line.TraceLine) → DoesAs (class_of_said s said) (ends_line said) s (take_said s said)
of_said s line.Nothing = Silent refl
of_said s line.Heading = Heading refl
of_said s (line.Lost count) = Lost count refl
of_said s (line.Says e) = of_event s e (event_says e)

of_content : (s : Transfers) (text : Option (List ℕ)) → DoesAs (class_of s text) (holds_result text) s (take_content s text)
of_content s (Some text) = of_said s (line.trace_line text)
of_content s None = faulted s MakesNoSense

pub each_line : EachLineHasItsClass
each_line s given = of_content (at_next_line s) (content (s.recording.line == 0) given)
