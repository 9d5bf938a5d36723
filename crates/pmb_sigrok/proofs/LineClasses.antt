-- What becomes of a line is what its class says, by the cases that its class is chosen by.
use Rattle.std.proofs.Common.{◌≡◌, ℕ, arith, ◌==◌, ◌&&◌, nat_le, Bool, true, false, List, length, Option}
use Rattle.std.proofs.Common.{Some, None}
use Rattle.std.proofs.Common.{if◌then◌else◌, is_some, refl, sym, subst, inl, inr, ◌⊎◌}
use Rattle.std.specs.Str.{bytes_eq}
use Rattle.std.proofs.lemmas.Slice.Eq.{bytes_eq-Decides}
use Rattle.pmb_recording.specs.Content.{content}
use Rattle.pmb_recording.specs.Recording.{Step, at_packet, at_too_long, following, past_other_bus}
use Rattle.pmb_recording.specs.Recording.{quietly}
use Rattle.pmb_recording.specs.Told.{Reason, DoesNotFollow, MakesNoSense}
use Rattle.pmb_recording.specs.declared.recording.PacketLines.{PacketLines}
use Rattle.pmb_recording.specs.declared.recording.Recording.{Recording}
use Rattle.pmb_recording.specs.Classes.{LineClass, GivesEvents, SaysNothing, PassedOver, IsFault, given_if}
use Rattle.pmb_sigrok.specs.Classes.{DoesAs, EachLineHasItsClass, Faulted, GivenText, Nothing, Cut, Packet, TooLong}
use Rattle.pmb_sigrok.specs.Classes.{at_next_line, class_of, class_of_decoded, class_on_bus, class_of_event}
use Rattle.pmb_sigrok.specs.Classes.{class_of_said, class_of_settled, may_stand}
use Rattle.pmb_sigrok.specs.Packets.{after_skipped, fault, follow, go_on, inside, is_answered, moved}
use Rattle.pmb_sigrok.specs.Packets.{next_place, on, refuse, said, settling, take_settled}
use Rattle.pmb_recording.specs.Wire.{most_wire}
use Rattle.pmb_sigrok.specs.Packets.{on_bus, outside, take_content, take_decoded, take_said, within}
use Rattle.pmb_sigrok.specs.declared.sigrok.Place.{Place}
use Rattle.pmb_sigrok.specs.declared.sigrok.Sigrok.{Sigrok}
use Rattle.pmb_sigrok_line.specs.Annotation.{is_byte}
use Rattle.pmb_sigrok_line.specs.Line as line
use Rattle.pmb_sigrok_line.specs.declared.event.Event.{Event}
use Rattle.pmb_sigrok_line.specs.declared.event.Event.TheVariants.{Start, Repeat, Stop, Answer, Mark, Bit, Address}
use Rattle.pmb_sigrok_line.specs.declared.event.Event.TheVariants.{Data}

bool_cases : (b : Bool) → (b ≡ true) ⊎ (b ≡ false)
bool_cases true = inl refl
bool_cases false = inr refl

-- a fault is told, and no packet is left
faulted : (s : Sigrok) (reason : Reason) → Faulted s (fault s reason)
faulted s reason =
    record { reason = reason; told = refl; is_counted = omega arith; is_gone = refl; skips = inl refl }

-- so is an event that does not follow
refused : (s : Sigrok) (event : Event) → Faulted s (refuse s event)
refused s Stop =
    record { reason = DoesNotFollow; told = refl; is_counted = omega arith; is_gone = refl; skips = inr (refl, refl) }
refused s Start = faulted s DoesNotFollow
refused s Repeat = faulted s DoesNotFollow
refused s (Answer acknowledged) = faulted s DoesNotFollow
refused s (Mark reads) = faulted s DoesNotFollow
refused s Bit = faulted s DoesNotFollow
refused s (Address reads byte) = faulted s DoesNotFollow
refused s (Data reads byte) = faulted s DoesNotFollow

-- ---- events

-- a step of an event: it is given, or it is a fault
abbrev OfEvent : LineClass → Sigrok → Step Sigrok → Type 0
OfEvent GivesEvents s step = GivenText s step.text
OfEvent IsFault s step = Faulted s step
OfEvent SaysNothing s step = ⊥
OfEvent PassedOver s step = ⊥

-- a step that is taken where a test holds, and else is refused
tested : (s : Sigrok) (b : Bool) (event : Event) (step : Step Sigrok) → GivenText s step.text
    → OfEvent (given_if b) s (if b then step else refuse s event)
tested s true event step given = given
tested s false event step given = refused s event

room : (s : Sigrok) (event : Event) (place : Place) (is_full : Bool)
    → GivenText s (if is_full then on s (at_too_long s.recording false) else quietly (moved s event place)).text
room s event place true = TooLong refl
room s event place false = Nothing refl

going : (s : Sigrok) (event : Event) (place : Option Place) → OfEvent (given_if (is_some place)) s (go_on s event place)
going s event (Some place) =
    room s event place (is_byte event && nat_le most_wire (length s.recording.wire.items))
going s event None = refused s event

-- where no packet is under way, what is skipped is quiet
skipping : (s : Sigrok) (event : Event) → OfEvent (given_if s.recording.is_skipping) s (outside s event)
skipping s event =
    tested s s.recording.is_skipping event (quietly (after_skipped s event)) (Nothing refl)

standing : (s : Sigrok) (packet : Option PacketLines) (event : Event)
    → OfEvent (given_if (may_stand packet s event)) s (within packet (inside s event) (outside s event))
standing s None event = skipping s event
standing s (Some lines) Stop = tested s (is_answered s.place) Stop (on s (at_packet s.recording)) (Packet refl)
standing s (Some lines) Start = going s Start (next_place s.place Start)
standing s (Some lines) Repeat = going s Repeat (next_place s.place Repeat)
standing s (Some lines) Bit = going s Bit (next_place s.place Bit)
standing s (Some lines) (Answer acknowledged) =
    going s (Answer acknowledged) (next_place s.place (Answer acknowledged))
standing s (Some lines) (Mark reads) = going s (Mark reads) (next_place s.place (Mark reads))
standing s (Some lines) (Address reads byte) =
    going s (Address reads byte) (next_place s.place (Address reads byte))
standing s (Some lines) (Data reads byte) = going s (Data reads byte) (next_place s.place (Data reads byte))

of_event : (s : Sigrok) (sample : Option ℕ) (event : Event) → OfEvent (class_of_event s event) s (follow s sample event)
of_event s sample Start = Cut refl
of_event s sample Stop = standing s s.recording.packet Stop
of_event s sample Repeat = standing s s.recording.packet Repeat
of_event s sample Bit = standing s s.recording.packet Bit
of_event s sample (Answer acknowledged) = standing s s.recording.packet (Answer acknowledged)
of_event s sample (Mark reads) = standing s s.recording.packet (Mark reads)
of_event s sample (Address reads byte) = standing s s.recording.packet (Address reads byte)
of_event s sample (Data reads byte) = standing s s.recording.packet (Data reads byte)

of_said : (s : Sigrok) (sample : Option ℕ) (said : Option Event)
    → OfEvent (class_of_said s said) s (take_said s sample said)
of_said s sample (Some event) = of_event s sample event
of_said s sample None = faulted s MakesNoSense

-- ---- buses

does : (c : LineClass) (s : Sigrok) (step : Step Sigrok) → OfEvent c s step → DoesAs c s step
does GivesEvents s step of_event = of_event
does IsFault s step of_event = of_event
does SaysNothing s step of_event = absurd of_event
does PassedOver s step of_event = absurd of_event

-- the machine that follows the bus of a name
abbrev settled : Sigrok → List ℕ → Sigrok
settled s name = record s { recording = record s.recording { follows_bus = true; bus = record { items = name } } }

given_before : (s : Sigrok) (name text : List ℕ) → GivenText (settled s name) text → GivenText s text
given_before s name text (Nothing is) = Nothing is
given_before s name text (Cut is) = Cut is
given_before s name text (Packet is) = Packet is
given_before s name text (TooLong is) = TooLong is

-- that a bus is settled changes no packet
before : (c : LineClass) (s : Sigrok) (name : List ℕ) (step : Step Sigrok) → OfEvent c (settled s name) step
    → DoesAs c s step
before GivesEvents s name step of_event = given_before s name step.text of_event
before IsFault s name step of_event =
    record {
      reason = of_event.reason;
      told = of_event.told;
      is_counted = of_event.is_counted;
      is_gone = of_event.is_gone;
      skips = of_event.skips;
    }
before SaysNothing s name step of_event = absurd of_event
before PassedOver s name step of_event = absurd of_event

-- the bus was settled before
on_known : (s : Sigrok) (l : line.Line) (b : Bool)
    → DoesAs (if b then class_of_said s (said s.form l.event) else PassedOver) s
    (if b then take_said s l.sample (said s.form l.event) else quietly (record s { recording = past_other_bus s.recording }))
on_known s l true = does (class_of_said s (said s.form l.event)) s (take_said s l.sample (said s.form l.event)) (of_said s l.sample (said s.form l.event))
on_known s l false = refl

-- the bus is settled by this line
on_first : (s : Sigrok) (l : line.Line) (b : Bool) → b ≡ true
    → DoesAs (if b then class_of_said (settled s l.name) (said s.form l.event) else PassedOver) s
    (if b then take_said (settled s l.name) l.sample (said s.form l.event) else
    quietly (record (settled s l.name) { recording = past_other_bus (settled s l.name).recording }))
on_first s l true is =
    before (class_of_said (settled s l.name) (said s.form l.event)) s l.name (take_said (settled s l.name) l.sample (said s.form l.event))
    (of_said (settled s l.name) l.sample (said s.form l.event))
on_first s l false is = cc

if_true : {A : Type 0} (b : Bool) (x y : A) → b ≡ true → (if b then x else y) ≡ x
if_true true x y is = refl
if_true false x y is = cc

if_false : {A : Type 0} (b : Bool) (x y : A) → b ≡ false → (if b then x else y) ≡ y
if_false true x y is = cc
if_false false x y is = refl

-- it holds of the bus that is followed from this line on
with_bus : (s : Sigrok) (l : line.Line) (r : Recording) → r ≡ following s.recording l.name
    → DoesAs (class_of_settled (record s { recording = r }) l) s (take_settled (record s { recording = r }) l)
    → DoesAs (class_of_settled (record s { recording = following s.recording l.name }) l) s
    (take_settled (record s { recording = following s.recording l.name }) l)
with_bus s l r is does =
    subst (λ (r : Recording).
    DoesAs (class_of_settled (record s { recording = r }) l) s (take_settled (record s { recording = r }) l)) is does

-- with no other bus than before
as_before : (s : Sigrok) (l : line.Line) (b : Bool)
    → DoesAs (if b then class_on_bus s l else IsFault) s (if b then on_bus s l else fault s MakesNoSense)
as_before s l true = on_known s l (bytes_eq s.recording.bus.items l.name)
as_before s l false = faulted s MakesNoSense

on_either : (s : Sigrok) (l : line.Line) → (s.recording.follows_bus ≡ true) ⊎ (s.recording.follows_bus ≡ false)
    → DoesAs (class_of_settled (record s { recording = following s.recording l.name }) l) s
    (take_settled (record s { recording = following s.recording l.name }) l)
on_either s l (inl known) =
    with_bus s l s.recording
    (sym (if_true s.recording.follows_bus s.recording (settled s l.name).recording known))
    (as_before s l s.recording.follows_bus)
on_either s l (inr first) =
    with_bus s l (settled s l.name).recording
    (sym (if_false s.recording.follows_bus s.recording (settled s l.name).recording first))
    (on_first s l (bytes_eq l.name l.name) ((bytes_eq-Decides l.name l.name).1 refl))

of_settling : (s : Sigrok) (l : line.Line) (event : Option Event)
    → DoesAs (class_of_settled (settling s l event) l) s (take_settled (settling s l event) l)
of_settling s l (Some event) = on_either s l (bool_cases s.recording.follows_bus)
of_settling s l None = as_before s l s.recording.follows_bus

of_decoded : (s : Sigrok) (l : Option line.Line) → DoesAs (class_of_decoded s l) s (take_decoded s l)
of_decoded s (Some l) = of_settling s l l.event
of_decoded s None = faulted s MakesNoSense

-- ---- lines

of_text : (s : Sigrok) (is_remark : Bool) (l : Option line.Line)
    → DoesAs (if is_remark then SaysNothing else class_of_decoded s l) s
    (if is_remark then quietly s else take_decoded s l)
of_text s true l = refl
of_text s false l = of_decoded s l

of_content : (s : Sigrok) (text : Option (List ℕ)) → DoesAs (class_of s text) s (take_content s text)
of_content s (Some text) = of_text s (line.is_remark text) (line.decoder_line text)
of_content s None = faulted s MakesNoSense

pub each_line : EachLineHasItsClass
each_line s given = of_content (at_next_line s) (content (s.recording.line == 0) given)
