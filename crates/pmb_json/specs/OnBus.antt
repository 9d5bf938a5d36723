-- What PAGE, VOUT_MODE and PHASE of a device may have been while a capture was recorded, by its events alone.
--
-- Nothing here goes by what is known, or by what a reader has made of the capture before: a packet that was read
-- acts as the rules of devices say, and reads tell what the registers hold; in a packet that is refused, in one to a
-- device that speaks no PMBus, and in what is passed over, a leg that begins with an address at which the device takes
-- what is written may have done anything, or nothing; and so may a packet that reaches it at two of its addresses, and
-- a line that was dropped, before what comes after it. What a device takes of a packet is in `Taken` of
-- `pmb_unknown_start`, and there is one PHASE for all pages. What is lost by the rules of `pmb_fact_stream` isn't used:
-- the law is what they are judged by.
use Rattle.std.specs.Prelude.{◌≡◌, ℕ, ◌+◌, ◌-◌, ◌/◌, ◌%◌, ⊤, Bool, true, false, ◌&&◌, if◌then◌else◌, Some, None}
use Rattle.std.specs.Prelude.{List, [], ◌∷◌, ◌++◌, drop, length, map, nat_eq, option_map}
use Rattle.pmb_bus.specs.declared.event.Event.{Event}
use Rattle.pmb_bus.specs.declared.event.Event.TheVariants.{Start, Byte, Ack, Nack, Stop}
use Rattle.pmb_command.specs.Parts.{DeviceParts}
use Rattle.pmb_note.specs.Paging.{PagingData, RegisterTold, after_told, selected_mode, told_by_part}
use Rattle.pmb_partial_packet.specs.PartialPacket.{reply}
use Rattle.pmb_spans.specs.Spans.{Span, ReadSpan, RefusedSpan, TruncatedSpan}
use Rattle.pmb_transaction.specs.Reading.{PassedOver}
use Rattle.pmb_transaction.specs.Transaction.{TransactionData, Write, Read, Call, Refused, Alert, NoAlert}
use Rattle.pmb_unknown_start.specs.declared.start.Start.TheVariants.{AllKnown}
use Rattle.pmb_unknown_start.specs.Certain.{IsOwnPage, MayHave, known_as}
use Rattle.pmb_unknown_start.specs.Known.{mode, page, told_by_read}
use Rattle.pmb_unknown_start.specs.Past.{PastData, Dropped}
use Rattle.pmb_unknown_start.specs.Phase.{phase, phase_code}
use Rattle.pmb_unknown_start.specs.Restores.{untells}
use Rattle.pmb_unknown_start.specs.Taken.{is_crossed, listens, taken}
use Rattle.pmb_fact_stream.specs.Lost.{lost_in}
use Rattle.pmb_fact_stream.specs.Spans.{past_in}

-- PAGE of a device and VOUT_MODE on each of its pages, and its PHASE
pub record StateData : Type 0 where
  pub paging : PagingData
  pub phase : ℕ

-- each page of the device has a VOUT_MODE
abbrev pub HasModes : DeviceParts → StateData → Type 0
HasModes device s = length s.paging.modes ≡ device.pages

-- Where nothing tells PAGE, a device has one of these: it selects one of its pages or all of them.
pub record IsState (device : DeviceParts) (s : StateData) : Type 0 where
  pub page : IsOwnPage device s.paging.page
  pub modes : HasModes device s

-- ---- what was read acts

-- PHASE after a register of the device was told
abbrev pub phase_of_byte : ℕ → List ℕ → ℕ
phase_of_byte phase [] = phase
phase_of_byte phase (value ∷ []) = value
phase_of_byte phase (a ∷ b ∷ bytes) = phase

abbrev pub phase_after : ℕ → ℕ → RegisterTold → ℕ
phase_after address phase t = if nat_eq t.addr address && nat_eq t.code phase_code then phase_of_byte phase t.bytes else phase

-- A register was written: PAGE, VOUT_MODE and PHASE take what is written to them, and a restore leaves any VOUT_MODE
-- on each page.
pub record Takes (device : DeviceParts) (s : StateData) (t : RegisterTold) (r : StateData) : Type 0 where
  pub paging : MayHave (untells device.address t) (after_told device s.paging t) r.paging
  pub phase : r.phase ≡ phase_after device.address s.phase t

-- .. one after the other
abbrev pub TakesEach : DeviceParts → StateData → List RegisterTold → StateData → Type 0
TakesEach device s [] r = r ≡ s
TakesEach device s (t ∷ ts) r = (q : StateData) × Takes device s t q × TakesEach device q ts r

-- A register was read: the reply is what it holds, VOUT_MODE under PAGE ffh what all pages hold. So what is told is
-- so already.
pub record Replies (device : DeviceParts) (s : StateData) (t : RegisterTold) : Type 0 where
  pub paging : after_told device s.paging t ≡ s.paging
  pub phase : phase_after device.address s.phase t ≡ s.phase

-- What a packet that was read does, as the device takes it: complete parts are written, those before a refused leg
-- too; a read tells, and nothing else does anything.
abbrev pub Acts : DeviceParts → StateData → TransactionData → StateData → Type 0
Acts device s (Write parts) r = TakesEach device s (map told_by_part parts) r
Acts device s (Read t) r = Replies device s (told_by_read t) × (r ≡ s)
Acts device s (Call t) r = r ≡ s
Acts device s (Refused t) r = TakesEach device s (map told_by_part t.parts) r
Acts device s (Alert t) r = r ≡ s
Acts device s NoAlert r = r ≡ s

-- .. if it reaches the device at one address. PMBus forbids that it reaches it at two: then it may have done
-- anything.
abbrev pub ActsIf : Bool → DeviceParts → StateData → TransactionData → StateData → Type 0
ActsIf true device s t r = IsState device r
ActsIf false device s t r = HasModes device r × Acts device s (taken device t) r

-- ---- what was not read

-- acknowledges alone
abbrev pub AreAcks : List Event → Type 0
AreAcks [] = ⊤
AreAcks (Start ∷ events) = ⊥
AreAcks (Byte b ∷ events) = ⊥
AreAcks (Ack ∷ events) = AreAcks events
AreAcks (Nack ∷ events) = AreAcks events
AreAcks (Stop ∷ events) = ⊥

-- Somewhere in these events a leg begins with an address at which the device takes what is written, its own or one of
-- its key `also`: the next byte after a START has bit 0 = 0, and the address in the others.
--     event .. START  ACK ..  address  event ..
--     -before-        between          --after--
pub record WritesTo (device : DeviceParts) (events : List Event) : Type 0 where
  pub before : List Event
  pub between : List Event
  pub address : ℕ
  pub after : List Event
  pub leg : events ≡ before ++ Start ∷ (between ++ Byte address ∷ after)
  pub acks : AreAcks between
  pub to_device : listens device (address / 2) ≡ true
  pub writes : address % 2 ≡ 0

-- Of a packet that was refused after `front`, and what is passed over from the refused event on: where nothing in it
-- writes to the device, that stays as it is. While a reply is read, the legs of the packet itself are no writes: they
-- only said what is to be read.
abbrev pub MayAct : DeviceParts → StateData → List Event → List Event → StateData → Type 0
MayAct device s front passed r =
    (WritesTo device passed → ⊥) → (reply front ≡ None → WritesTo device (front ++ passed) → ⊥) → r ≡ s

-- So it is of an event with those behind it, of which up to STOP are passed over. After that, PAGE is one that the
-- device has.
pub record Refuses (device : DeviceParts) (s r : StateData) (front : List Event) (event : Event)
    (behind : List Event) : Type 0 where
  pub state : IsState device r
  pub more : List Event
  pub refused : behind ≡ event ∷ more
  pub passed : List Event
  pub left : List Event
  pub over : PassedOver behind passed left
  pub acts : MayAct device s front passed r

-- ---- from state to state

-- Events before which n came, with their spans, and after them a line that was dropped.
pub record Stretch : Type 0 where
  pub n : ℕ
  pub events : List Event
  pub spans : List Span

module _ (device : DeviceParts) where
  -- over spans of these events, before which n came
  abbrev pub Reaches : ℕ → List Event → StateData → List Span → StateData → Type 0
  Reaches n events s [] q = q ≡ s
  Reaches n events s (ReadSpan m own t ∷ spans) q =
      (r : StateData) × ActsIf (is_crossed device t) device s t r × Reaches n events r spans q
  Reaches n events s (RefusedSpan m front event refusal ∷ spans) q =
      (r : StateData) × Refuses device s r front event (drop ((m - n) + length front) events)
      × Reaches n events r spans q
  Reaches n events s (TruncatedSpan m front refusal ∷ spans) q = Reaches n events s spans q

  -- over these, where a line that was dropped may have done anything
  abbrev pub ReachesAll : StateData → List Stretch → StateData → Type 0
  ReachesAll s [] q = q ≡ s
  ReachesAll s (stretch ∷ more) q =
      (r : StateData) × (u : StateData) × Reaches stretch.n stretch.events s stretch.spans r × IsState device u
      × ReachesAll u more q

-- ---- what went before

-- as facts have it: what was said and lost in each stretch, and the line that was dropped after it
abbrev pub past_of_all : List DeviceParts → List Stretch → List PastData
past_of_all profile [] = []
past_of_all profile (stretch ∷ more) =
    past_in (lost_in profile stretch.n stretch.events) stretch.spans ++ (Dropped ∷ past_of_all profile more)

-- ---- what is told

-- A device may be in a state there, if it was in some state where the capture begins.
pub record MayBeIn (device : DeviceParts) (stretches : List Stretch) (n : ℕ) (events : List Event) (spans : List Span)
    (s : StateData) : Type 0 where
  pub first : StateData
  pub mid : StateData
  pub begins : IsState device first
  pub before : ReachesAll device first stretches mid
  pub last : Reaches device n events mid spans s

-- After these, with all known from power-up on, the device at an address is known to be in a state: the PAGE, the
-- VOUT_MODE of what that selects, and the PHASE of a device that has phases. (Reads of VOUT_MODE on each page, of
-- PHASE and of PAGE are such.)
pub record ShowsState (profile : List DeviceParts) (past : List PastData) (addr : ℕ) (device : DeviceParts)
    (s : StateData) : Type 0 where
  pub page_shown : page AllKnown profile past addr ≡ Some s.paging.page
  pub mode_shown : mode AllKnown profile past addr ≡ known_as (selected_mode s.paging)
  pub phase_shown : phase profile past addr ≡ option_map (λ phases. s.phase) device.phases
