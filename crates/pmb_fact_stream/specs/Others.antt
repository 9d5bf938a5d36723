-- Others: packets to addresses that speak no PMBus.
use Rattle.std.specs.Prelude.{ℕ, ◌/◌, ◌||◌, Bool, true, false, not, Option, Some, None, List, [], ◌∷◌, ◌++◌, nat_eq}
use Rattle.std.specs.List.{list_any}
use Rattle.std.specs.Option.{is_some}
use Rattle.pmb_bus.specs.declared.event.Event.{Event}
use Rattle.pmb_bus.specs.declared.event.Event.TheVariants.{Start, Byte, Ack, Nack, Stop}
use Rattle.pmb_spans.specs.Spans.{Span, ReadSpan, RefusedSpan, TruncatedSpan, is_whole}

-- ---- addresses

-- the address of a byte that comes next
abbrev pub next_address : List Event → Option ℕ
next_address [] = None
next_address (Start ∷ events) = None
next_address (Byte b ∷ events) = Some (b / 2)
next_address (Ack ∷ events) = None
next_address (Nack ∷ events) = None
next_address (Stop ∷ events) = None

-- the address of a packet's first leg, once it came
abbrev pub first_address : List Event → Option ℕ
first_address [] = None
first_address (Start ∷ events) = next_address events
first_address (Byte b ∷ events) = None
first_address (Ack ∷ events) = None
first_address (Nack ∷ events) = None
first_address (Stop ∷ events) = None

-- an address is one of those that are ignored
abbrev pub is_ignored : Option (List ℕ) → ℕ → Bool
is_ignored None addr = false
is_ignored (Some addresses) addr = list_any (nat_eq addr) addresses

abbrev pub address_if : Bool → ℕ → Option ℕ
address_if true addr = Some addr
address_if false addr = None

abbrev pub if_ignored : Option (List ℕ) → Option ℕ → Option ℕ
if_ignored ignored None = None
if_ignored ignored (Some addr) = address_if (is_ignored ignored addr) addr

-- The address of an other, from its address byte on. None of all other events.
abbrev pub other_address : Option (List ℕ) → List Event → Option ℕ
other_address ignored events = if_ignored ignored (first_address events)

-- ---- spans

-- all events of a span that its object tells of, the refused one too
abbrev pub span_events : Span → List Event
span_events (ReadSpan n events t) = events
span_events (RefusedSpan n front event refusal) = front ++ event ∷ []
span_events (TruncatedSpan n front refusal) = front

abbrev pub is_other : Option (List ℕ) → Span → Bool
is_other ignored span = is_some (other_address ignored (span_events span))

-- Its object can be told before more comes: all but an end inside a packet, and an other always.
abbrev pub is_told : Option (List ℕ) → Span → Bool
is_told ignored span = is_whole span || is_other ignored span

abbrev pub is_untold : Option (List ℕ) → Span → Bool
is_untold ignored span = not (is_told ignored span)
