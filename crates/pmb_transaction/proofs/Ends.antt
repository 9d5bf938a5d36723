-- How packets end: STOP makes a packet or doesn't follow, STOP alone follows NACK, events without
-- STOP are inside a packet, and something follows them. For the laws `stop_makes_a_packet`,
-- `stop_follows_nack`, `packets_under_way`, `packets_go_on` and `something_follows`. A packet's
-- only STOP is its last event (Stops), so no event comes after one.
use Rattle.std.proofs.Common.{◌≡◌, ◌≢◌, inl, inr, true, false, List, [], ◌∷◌, ◌++◌, refl, sym, ap, ◌∙◌, subst}
use Rattle.std.proofs.Common.{append_assoc}
use Rattle.std.proofs.lemmas.List.{append-nil, same_from_push}
use Rattle.pmb_bus.specs.declared.event.Event.{Event}
use Rattle.pmb_bus.specs.declared.event.Event.TheVariants.{Start, Byte, Ack, Nack, Stop}
use Rattle.pmb_command.specs.Parts.{DeviceParts}
use Rattle.pmb_transaction.specs.Capture.{HasNoStop, IsPacket, MayFollow, Viable}
use Rattle.pmb_transaction.specs.Reading.{IsUnderWay}
use Rattle.pmb_transaction.specs.Turns.{is_stop, follows_in_turn}
use Rattle.pmb_transaction.proofs.Fronts.{no_end, no_front}
use Rattle.pmb_transaction.proofs.Stops.{packet_ends_with_stop}
use Rattle.pmb_transaction.proofs.Turns.{events_take_turns}

-- what stands after STOP, where the only one is at the end, is nothing
last_stop : (front before after : List Event) → HasNoStop front → front ++ Stop ∷ [] ≡ before ++ Stop ∷ after
    → after ≡ []
last_stop [] [] after none same = sym (cc same)
last_stop [] (e ∷ before) after none same =
    let rest : before ++ Stop ∷ after ≡ [] = cc same in
    absurd (no_end before Stop after rest)
last_stop (e ∷ front) [] after none same =
    let first : e ≡ Stop = cc same in
    absurd (none [] front (ap (λ (x : Event). x ∷ front) first))
last_stop (e ∷ front) (f ∷ before) after none same =
    let rest : front ++ Stop ∷ [] ≡ before ++ Stop ∷ after = cc same in
    last_stop front before after (λ x y split. none (e ∷ x) y (ap (λ (es : List Event). e ∷ es) split)) rest

-- the event after NACK, where it is STOP and nothing else
only_stop : (event : Event) → follows_in_turn Nack event ≡ true → event ≡ Stop
only_stop Start turns = cc turns
only_stop (Byte b) turns = cc turns
only_stop Ack turns = cc turns
only_stop Nack turns = cc turns
only_stop Stop turns = refl

module _ (profile : List DeviceParts) where
  -- a packet is a list that some packet begins with
  pub packet_is_viable : (events : List Event) → IsPacket profile events → Viable profile events
  packet_is_viable events packet = inr ([], subst (IsPacket profile) (sym (append-nil events)) packet)

  -- what stands after a STOP in a packet is nothing
  nothing_behind : (before after : List Event) → IsPacket profile (before ++ Stop ∷ after) → after ≡ []
  nothing_behind before after packet =
      let stop = packet_ends_with_stop profile packet.0 (before ++ Stop ∷ after) packet.1 in
      last_stop stop.front before after stop.no_stop (sym stop.split)

  packet_to_stop : (before after : List Event) → IsPacket profile (before ++ Stop ∷ after)
      → IsPacket profile (before ++ Stop ∷ [])
  packet_to_stop before after packet =
      subst (λ (es : List Event). IsPacket profile (before ++ Stop ∷ es)) (nothing_behind before after packet) packet

  -- where STOP may follow, it makes a packet
  pub packet_with_stop : (events : List Event) → MayFollow profile events Stop → IsPacket profile (events ++ Stop ∷ [])
  packet_with_stop events (inl none) = absurd (no_end events Stop [] none)
  packet_with_stop events (inr w) =
      packet_to_stop events w.0 (subst (IsPacket profile) (append_assoc events (Stop ∷ []) w.0) w.1)

  pub stop_makes_a_packet : (events : List Event)
      → (MayFollow profile events Stop → IsPacket profile (events ++ Stop ∷ []))
      × (IsPacket profile (events ++ Stop ∷ []) → MayFollow profile events Stop)
  stop_makes_a_packet events = (packet_with_stop events, packet_is_viable (events ++ Stop ∷ []))

  -- ---- after NACK

  -- what some packet begins with is a packet, or one event more begins it too
  one_more : (events more : List Event) → IsPacket profile (events ++ more) → (more ≡ [] → ⊥)
      → (event : Event) × MayFollow profile events event
  one_more events [] packet some = absurd (some refl)
  one_more events (event ∷ more) packet some =
      (event, inr (more, subst (IsPacket profile) (sym (append_assoc events (event ∷ []) more)) packet))

  -- no packet ends with another event than STOP
  pub ends_with : (events : List Event) (event : Event) → is_stop event ≡ false
      → IsPacket profile (events ++ event ∷ []) → ⊥
  ends_with events event other packet =
      let stop = packet_ends_with_stop profile packet.0 (events ++ event ∷ []) packet.1 in
      let last = same_from_push events stop.front event Stop stop.split in
      let is : event ≡ Stop = last.1 in
      cc (other, ap is_stop is)

  -- nor with STOP after an event that STOP does not stand after
  pub ends_behind : (events : List Event) (event : Event) → follows_in_turn event Stop ≡ false
      → IsPacket profile ((events ++ event ∷ []) ++ Stop ∷ []) → ⊥
  ends_behind events event other packet =
      let turns = events_take_turns profile events event Stop
      (packet_is_viable ((events ++ event ∷ []) ++ Stop ∷ []) packet) in
      cc (other, turns)

  stop_may_follow_nack : (events : List Event) → Viable profile (events ++ Nack ∷ [])
      → MayFollow profile (events ++ Nack ∷ []) Stop
  stop_may_follow_nack events (inl none) = absurd (no_end events Nack [] none)
  stop_may_follow_nack events (inr w) =
      let front = events ++ Nack ∷ [] in
      let next =
      one_more front w.0 w.1
      (λ none. ends_with events Nack refl (subst (IsPacket profile)
      (ap (λ (es : List Event). front ++ es) none ∙ append-nil front) w.1)) in
      subst (MayFollow profile front) (only_stop next.0 (events_take_turns profile events Nack next.0 next.1)) next.1

  pub stop_follows_nack : (events : List Event) (event : Event) → Viable profile (events ++ Nack ∷ [])
      → (MayFollow profile (events ++ Nack ∷ []) event → event ≡ Stop)
      × (event ≡ Stop → MayFollow profile (events ++ Nack ∷ []) event)
  stop_follows_nack events event viable = (
    λ follows. only_stop event (events_take_turns profile events Nack event follows),
    λ is. subst (MayFollow profile (events ++ Nack ∷ [])) (sym is) (stop_may_follow_nack events viable),
  )

  -- ---- packets under way

  -- events that go on hold no packet
  pub under_way : (events : List Event) → Viable profile events → HasNoStop events → IsUnderWay profile events
  under_way events viable none = record {
    viable = viable;
    no_packet =
        λ front rest split packet.
        let stop = packet_ends_with_stop profile packet.0 front packet.1 in
        none stop.front rest
        (split ∙ ap (λ (es : List Event). es ++ rest) stop.split ∙ append_assoc stop.front (Stop ∷ []) rest);
  }

  no_stop_in : (events more before after : List Event) → IsUnderWay profile events → IsPacket profile (events ++ more)
      → events ≡ before ++ Stop ∷ after → ⊥
  no_stop_in events more before after going packet split =
      let all : events ++ more ≡ before ++ Stop ∷ (after ++ more) =
      ap (λ (es : List Event). es ++ more) split ∙ append_assoc before (Stop ∷ after) more in
      let none : after ++ more ≡ [] = nothing_behind before (after ++ more) (subst (IsPacket profile) all packet) in
      let last : after ≡ [] = no_front after more none in
      let whole : events ++ more ≡ events =
      all
      ∙ ap (λ (es : List Event). before ++ Stop ∷ es) (none ∙ sym last)
      ∙ sym split in
      going.no_packet events [] (sym (append-nil events)) (subst (IsPacket profile) whole packet)

  no_stop_under_way : (events before after : List Event) → IsUnderWay profile events → Viable profile events
      → events ≡ before ++ Stop ∷ after → ⊥
  no_stop_under_way events before after going (inl none) split = no_end before Stop after (sym split ∙ none)
  no_stop_under_way events before after going (inr w) split = no_stop_in events w.0 before after going w.1 split

  pub packets_under_way : (events : List Event) → Viable profile events
      → (IsUnderWay profile events → HasNoStop events) × (HasNoStop events → IsUnderWay profile events)
  packets_under_way events viable = (
    λ going before after split. no_stop_under_way events before after going viable split,
    λ none. under_way events viable none,
  )

  -- no STOP stands before an event that may follow
  no_stop_before : (events before after : List Event) (event : Event) → MayFollow profile events event
      → events ≡ before ++ Stop ∷ after → ⊥
  no_stop_before events before after event (inl none) split = no_end events event [] none
  no_stop_before events before after event (inr w) split =
      let all : (events ++ event ∷ []) ++ w.0 ≡ before ++ Stop ∷ (after ++ event ∷ w.0) =
      append_assoc events (event ∷ []) w.0
      ∙ ap (λ (es : List Event). es ++ event ∷ w.0) split
      ∙ append_assoc before (Stop ∷ after) (event ∷ w.0) in
      no_end after event w.0 (nothing_behind before (after ++ event ∷ w.0) (subst (IsPacket profile) all w.1))

  -- so none stands in events and another event that may follow them
  no_stop_with : (events : List Event) (event : Event) → event ≢ Stop
      → ((before after : List Event) → events ≡ before ++ Stop ∷ after → ⊥)
      → (before after : List Event) → events ++ event ∷ [] ≡ before ++ Stop ∷ after → ⊥
  no_stop_with [] event other none [] after same = other (cc same)
  no_stop_with [] event other none (x ∷ before) after same =
      let rest : [] ≡ before ++ Stop ∷ after = cc same in
      no_end before Stop after (sym rest)
  no_stop_with (e ∷ events) event other none [] after same =
      let first : e ≡ Stop = cc same in
      none [] events (ap (λ (x : Event). x ∷ events) first)
  no_stop_with (e ∷ events) event other none (x ∷ before) after same =
      let rest : events ++ event ∷ [] ≡ before ++ Stop ∷ after = cc same in
      no_stop_with events event other
      (λ front back split. none (e ∷ front) back (ap (λ (es : List Event). e ∷ es) split))
      before after rest

  pub packets_go_on : (events : List Event) (event : Event) → MayFollow profile events event → event ≢ Stop
      → IsUnderWay profile (events ++ event ∷ [])
  packets_go_on events event follows other =
      under_way (events ++ event ∷ []) follows
      (λ before after split.
      no_stop_with events event other (λ front back cut. no_stop_before events front back event follows cut) before
      after split)

  -- some event goes on with a packet under way
  goes_on : (events : List Event) → IsUnderWay profile events → events ≢ [] → Viable profile events
      → (event : Event) × MayFollow profile events event
  goes_on events going some (inl none) = absurd (some none)
  goes_on events going some (inr w) =
      one_more events w.0 w.1
      (λ none.
      going.no_packet events [] (sym (append-nil events))
      (subst (IsPacket profile) (ap (λ (es : List Event). events ++ es) none ∙ append-nil events) w.1))

  pub something_follows : (events : List Event) → IsUnderWay profile events → events ≢ []
      → (event : Event) × MayFollow profile events event
  something_follows events going some = goes_on events going some going.viable
