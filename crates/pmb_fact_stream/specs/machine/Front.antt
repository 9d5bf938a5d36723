-- What is kept of how a packet under way begins.
use Rattle.std.specs.Prelude.{ℕ, Option, Some, None, List, [], ◌∷◌}
use Rattle.pmb_bus.specs.declared.event.Event.{Event}
use Rattle.pmb_bus.specs.declared.event.Event.TheVariants.{Start, Byte, Ack, Nack, Stop}
use Rattle.pmb_reader.specs.Standing.{Standing, Open, Held, Passing}
use Rattle.pmb_fact_stream.specs.declared.front.Front.{Front}
use Rattle.pmb_fact_stream.specs.declared.front.Front.TheVariants as fronts
use Rattle.pmb_fact_stream.specs.Others.{other_address}

abbrev pub other_front : Option ℕ → Front
other_front None = fronts.Own
other_front (Some addr) = fronts.Other

abbrev pub front_of : Option (List ℕ) → List Event → Front
front_of ignored [] = fronts.Nothing
front_of ignored (Start ∷ []) = fronts.Start
front_of ignored (Byte b ∷ []) = fronts.Own
front_of ignored (Ack ∷ []) = fronts.Own
front_of ignored (Nack ∷ []) = fronts.Own
front_of ignored (Stop ∷ []) = fronts.Own
front_of ignored (first ∷ next ∷ events) = other_front (other_address ignored (first ∷ next ∷ events))

-- how it begins, with an event more
abbrev pub front_behind : Option (List ℕ) → Front → Event → Front
front_behind ignored fronts.Nothing Start = fronts.Start
front_behind ignored fronts.Nothing (Byte b) = fronts.Own
front_behind ignored fronts.Nothing Ack = fronts.Own
front_behind ignored fronts.Nothing Nack = fronts.Own
front_behind ignored fronts.Nothing Stop = fronts.Own
front_behind ignored fronts.Start event = other_front (other_address ignored (Start ∷ event ∷ []))
front_behind ignored fronts.Other event = fronts.Other
front_behind ignored fronts.Own event = fronts.Own

-- the address of an other that begins with that event
abbrev pub begins_behind : Option (List ℕ) → Front → Event → Option ℕ
begins_behind ignored fronts.Nothing event = None
begins_behind ignored fronts.Start event = other_address ignored (Start ∷ event ∷ [])
begins_behind ignored fronts.Other event = None
begins_behind ignored fronts.Own event = None

-- the address of an other that begins with the event after these: with its address byte
abbrev pub begins_other : Option (List ℕ) → List Event → Event → Option ℕ
begins_other ignored [] event = None
begins_other ignored (Start ∷ []) event = other_address ignored (Start ∷ event ∷ [])
begins_other ignored (Byte b ∷ []) event = None
begins_other ignored (Ack ∷ []) event = None
begins_other ignored (Nack ∷ []) event = None
begins_other ignored (Stop ∷ []) event = None
begins_other ignored (first ∷ next ∷ events) event = None

-- .. where a scan stands
abbrev pub other_begun_at : Option (List ℕ) → Standing → Event → Option ℕ
other_begun_at ignored (Open n events) event = begins_other ignored events event
other_begun_at ignored (Held n refusal) event = None
other_begun_at ignored (Passing n) event = None
