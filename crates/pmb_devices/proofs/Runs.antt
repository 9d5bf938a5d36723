-- Where nothing is refused but an end inside a packet, each stretch of a run is one packet, and
-- the devices are what the transactions make of them, one after the other. For the law
-- `transactions_are_applied_in_turn`, `Bus::new` and `Bus::signal`. No STOP is recorded within a
-- stretch, so the first transaction that is read takes just the first stretch.
use Rattle.std.proofs.Common.{◌≡◌, ◌≢◌, ℕ, suc, ◌+◌, ◌<◌, inl, inr, List, [], ◌∷◌, ◌++◌, length, map, arith, refl, sym}
use Rattle.std.proofs.Common.{ap, subst, ◌∙◌, append_assoc}
use Rattle.std.specs.List.{Contains}
use Rattle.std.proofs.lemmas.List.{map-id}
use Rattle.std.proofs.lemmas.Simd.{map-map}
use Rattle.pmb_bus.specs.declared.event.Event.{Event}
use Rattle.pmb_bus.specs.declared.event.Event.TheVariants as wire
use Rattle.pmb_command.specs.Bus.{IsBus}
use Rattle.pmb_command.specs.Parts.{DeviceParts}
use Rattle.pmb_transaction.specs.declared.reason.Reason.{Reason}
use Rattle.pmb_transaction.specs.declared.reason.Reason.TheVariants.{Truncated}
use Rattle.pmb_transaction.specs.Capture.{EndsAtFirstStop, HasNoStop}
use Rattle.pmb_transaction.specs.Packet.{Packet}
use Rattle.pmb_transaction.specs.Reading.{Accepted, IsUnderWay, Outcome, ReadsFrom, Refusal, RefusalData}
use Rattle.pmb_transaction.specs.Reason.{IsReason}
use Rattle.pmb_transaction.specs.Transaction.{TransactionData}
use Rattle.pmb_registers.specs.State.{DeviceState, InState, first_state}
use Rattle.pmb_registers.specs.Apply.{apply, apply_all}
use Rattle.pmb_device.specs.declared.signal.HostSignal.{HostSignal}
use Rattle.pmb_device.specs.declared.signal.HostSignal.TheVariants.{Start, Byte, Ask, Ack, Nack, Stop}
use Rattle.pmb_device.specs.declared.signal.DeviceSignal.{DeviceSignal}
use Rattle.pmb_device.specs.declared.signal.DeviceSignal.TheVariants as answers
use Rattle.pmb_device.specs.Legs.{Legs, Outside, with_signal}
use Rattle.pmb_devices.specs.Bus.{AreAnswered, AnsweredSignal, acknowledged, recorded_events, legs_after, recorded}
use Rattle.pmb_devices.specs.Runs.{AllEnd, IsTruncation, Runs, all_after, first_members, run_events}
use Rattle.pmb_devices.specs.Stops.{EachEnds, EndsOn}
use Rattle.pmb_devices.proofs.Applied.{transactions_are_applied}
use Rattle.pmb_devices.proofs.Parsing.{given_no_stop}
use Rattle.pmb_devices.proofs.Stopped.{no_stop_behind, no_stop_in_none, same_cut, up_to_stop}

-- ---- what is recorded since the last STOP

-- the answer to a byte is not recorded as STOP
acknowledged_no_stop : (result : DeviceSignal) → acknowledged result ≡ wire.Stop → ⊥
acknowledged_no_stop answers.Silent is = cc is
acknowledged_no_stop answers.Ack is = cc is
acknowledged_no_stop answers.Nack is = cc is
acknowledged_no_stop (answers.Byte b) is = cc is

-- nor is a signal other than STOP, whatever the answer
recorded_no_stop : (signal : HostSignal) (result : DeviceSignal) (more : List Event) → signal ≢ Stop → HasNoStop more
    → HasNoStop (recorded signal result ++ more)
recorded_no_stop Start result more other none = no_stop_behind wire.Start more (λ is. cc is) none
recorded_no_stop (Byte b) result more other none =
    no_stop_behind (wire.Byte b) (acknowledged result ∷ more) (λ is. cc is)
    (no_stop_behind _ more (acknowledged_no_stop result) none)
recorded_no_stop Ask result more other none = no_stop_behind _ more (given_no_stop result) none
recorded_no_stop Ack result more other none = no_stop_behind wire.Ack more (λ is. cc is) none
recorded_no_stop Nack result more other none = no_stop_behind wire.Nack more (λ is. cc is) none
recorded_no_stop Stop result more other none = absurd (other refl)

-- So since the last STOP none is recorded.
events_no_stop : (members : List InState) (legs : Legs) (history : List AnsweredSignal)
    → AreAnswered members legs history → HasNoStop (recorded_events history)
events_no_stop members legs [] answered = no_stop_in_none
events_no_stop members legs (exchange ∷ more) answered =
    recorded_no_stop exchange.signal exchange.result (recorded_events more) answered.0
    (events_no_stop members (with_signal legs exchange.signal) more answered.2)

-- ---- each device goes where its transaction leads it

-- what a transaction makes of a device, with its state
abbrev after_one : TransactionData → InState → InState
after_one t member = record { device = member.device; state = apply member.device t member.state }

-- Where STOP makes of each device what a transaction makes of it, it does so of the list of them.
pub all_are_applied : (bus : List DeviceParts) (t : TransactionData) (legs : Legs) (olds news : List InState)
    → EachEnds bus legs olds news
    → ((member : InState) (after : DeviceState) → Contains olds member
    → EndsOn bus legs member.device member.state after
    → after ≡ apply member.device t member.state) → news ≡ map (after_one t) olds
all_are_applied bus t legs [] [] ends each = refl
all_are_applied bus t legs [] (new ∷ news) ends each = absurd ends
all_are_applied bus t legs (old ∷ olds) [] ends each = absurd ends
all_are_applied bus t legs (old ∷ olds) (new ∷ news) ends each =
    let first : 0 < length (old ∷ olds) = omega arith in
    let state_is : new.state ≡ apply old.device t old.state = each old new.state (0, first, refl) ends.1 in
    let new_is : new ≡ after_one t old =
    ap (λ (d : DeviceParts). record { device = d; state = new.state }) ends.0
    ∙ ap (λ (s : DeviceState). record { device = old.device; state = s }) state_is in
    let later =
    all_are_applied bus t legs olds news ends.2
    (
    λ member after inside ended.
    let below : suc inside.0 < length (old ∷ olds) = omega (arith, inside.1) in
    each member after (suc inside.0, below, inside.2) ended
    ) in
    ap (λ (m : InState). m ∷ news) new_is ∙ ap (λ (ms : List InState). after_one t old ∷ ms) later

-- the devices stay
same_devices : (t : TransactionData) (members : List InState) → map (λ m. m.device) (map (after_one t) members)
    ≡ map (λ m. m.device) members
same_devices t members = map-map (λ m. m.device) (after_one t) members

-- the first states are of the devices of the profile
pub first_devices : (profile : List DeviceParts) → map (λ m. m.device) (first_members profile) ≡ profile
first_devices profile =
    map-map (λ (m : InState). m.device) (λ (d : DeviceParts). record { device = d; state = first_state d }) profile
    ∙ map-id profile

-- transactions after a first one
one_then_others : (t : TransactionData) (ts : List TransactionData) (members : List InState)
    → all_after ts (map (after_one t) members) ≡ all_after (t ∷ ts) members
one_then_others t ts members =
    map-map (λ (member : InState). record { device = member.device; state = apply_all member.device ts member.state })
    (after_one t) members

module _ (profile : List DeviceParts) where
  module _ (bus : IsBus profile) (stops : (t : TransactionData) (events : List Event) → Packet profile t events
      → EndsAtFirstStop events)
      (going : (events : List Event) → IsUnderWay profile events → HasNoStop events)
      (other : (events : List Event) (event : Event) (reason : Reason) → IsReason profile events event reason
      → reason ≢ Truncated) where
    -- ---- what is read

    -- Events that a refusal ends inside a packet hold no STOP.
    truncated_no_stop : (n : ℕ) (events : List Event) (refusal : RefusalData) → refusal.reason ≡ Truncated
        → ReadsFrom profile n events (Refusal refusal ∷ []) → HasNoStop events
    truncated_no_stop n events refusal is (inl w) = absurd (other w.0 w.1 refusal.reason w.4.reason is)
    truncated_no_stop n events refusal is (inr w) = going events w.0.under_way

    -- So where no transaction is read, and nothing is refused but such an end, there is none.
    end_no_stop : (n : ℕ) (events : List Event) (end : List Outcome) → IsTruncation end → ReadsFrom profile n events end
        → HasNoStop events
    end_no_stop n events end (inl none) reads =
        let empty : events ≡ [] = subst (ReadsFrom profile n events) none reads in
        subst HasNoStop (sym empty) no_stop_in_none
    end_no_stop n events end (inr w) reads =
        truncated_no_stop n events w.0 w.2 (subst (ReadsFrom profile n events) w.1 reads)

    -- Without a STOP no transaction is read.
    nothing_accepted : (n : ℕ) (events : List Event) (ts : List TransactionData) (end : List Outcome) → HasNoStop events
        → ReadsFrom profile n events (map Accepted ts ++ end) → ts ≡ []
    nothing_accepted n events [] end none reads = refl
    nothing_accepted n events (t ∷ ts) end none reads =
        let taken = up_to_stop profile stops t events reads.0 reads.1 reads.2 reads.3 in
        absurd (none taken.front reads.1 taken.split)

    -- ---- a run

    -- A stretch that is a transaction's packet makes of the devices what the transaction makes of
    -- them.
    stretch_applied : (members next : List InState) (stretch : List AnsweredSignal) (t : TransactionData)
        → map (λ m. m.device) members ≡ profile
        → AreAnswered members Outside stretch → Packet profile t (recorded_events stretch ++ wire.Stop ∷ [])
        → AllEnd (legs_after Outside stretch) members next → next ≡ map (after_one t) members
    stretch_applied members next stretch t are answered packet ends =
        all_are_applied (map (λ m. m.device) members) t (legs_after Outside stretch) members next ends
        (λ member after inside ended. transactions_are_applied profile members stretch t member after bus are answered
        packet inside
        (subst (λ (ds : List DeviceParts). EndsOn ds (legs_after Outside stretch) member.device member.state after) are
        ended))

    -- where a run's first stretch ends, and what comes after it
    first_stretch : (stretch : List AnsweredSignal) (more : List (List AnsweredSignal)) (history : List AnsweredSignal)
        → run_events (stretch ∷ more) ++ recorded_events history ≡ recorded_events stretch ++ wire.Stop
        ∷ (run_events more ++ recorded_events history)
    first_stretch stretch more history =
        append_assoc (recorded_events stretch ++ wire.Stop ∷ []) (run_events more) (recorded_events history)
        ∙ append_assoc (recorded_events stretch) (wire.Stop ∷ []) (run_events more ++ recorded_events history)

    -- Transactions are applied in turn, from whatever states.
    run_applied : (stretches : List (List AnsweredSignal)) (n : ℕ) (members now : List InState)
        (history : List AnsweredSignal) (ts : List TransactionData)
        (end : List Outcome) → map (λ m. m.device) members ≡ profile → Runs members stretches now
        → AreAnswered now Outside history
        → ReadsFrom profile n (run_events stretches ++ recorded_events history) (map Accepted ts ++ end)
        → IsTruncation end → now ≡ all_after ts members
    -- no stretch: nothing is read, and nothing was done
    run_applied [] n members now history ts end are runs answered reads truncated =
        let none = nothing_accepted n (recorded_events history) ts end (events_no_stop now Outside history answered)
        reads in
        runs ∙ sym (map-id members) ∙ ap (λ (us : List TransactionData). all_after us members) (sym none)
    -- a stretch, but no transaction is read: its STOP would be within the end of a packet
    run_applied (stretch ∷ more) n members now history [] end are runs answered reads truncated =
        let none = end_no_stop n (run_events (stretch ∷ more) ++ recorded_events history) end truncated reads in
        absurd (none (recorded_events stretch) (run_events more ++ recorded_events history)
        (first_stretch stretch more history))
    -- a stretch and a transaction: it takes the events up to the first STOP, which are this
    -- stretch
    run_applied (stretch ∷ more) n members now history (t ∷ ts) end are runs answered reads truncated =
        let events = run_events (stretch ∷ more) ++ recorded_events history in
        let behind = run_events more ++ recorded_events history in
        let taken = up_to_stop profile stops t events reads.0 reads.1 reads.2 reads.3 in
        let cut =
        same_cut taken.front (recorded_events stretch) reads.1 behind taken.no_stop
        (events_no_stop members Outside stretch runs.0)
        (sym taken.split ∙ first_stretch stretch more history) in
        -- so STOP made of the devices what it makes of them
        let packet = subst (λ (es : List Event). Packet profile t (es ++ wire.Stop ∷ [])) cut.0 taken.packet in
        let next_is = stretch_applied members runs.1.0 stretch t are runs.0 packet runs.1.1 in
        let devices_are : map (λ (m : InState). m.device) runs.1.0 ≡ profile =
        ap (λ (ms : List InState). map (λ (m : InState). m.device) ms) next_is
        ∙ same_devices t members
        ∙ are in
        -- and the others are read of what is left
        let rest = subst (λ (es : List Event). ReadsFrom profile (n + length reads.0) es (map Accepted ts ++ end)) cut.1
        reads.4 in
        run_applied more (n + length reads.0) runs.1.0 now history ts end devices_are runs.1.2 answered rest truncated
        ∙ ap (λ (ms : List InState). all_after ts ms) next_is
        ∙ one_then_others t ts members

    -- Transactions are applied in turn.
    pub applied_in_turn : (stretches : List (List AnsweredSignal)) (now : List InState) (history : List AnsweredSignal)
        (ts : List TransactionData)
        (end : List Outcome) → Runs (first_members profile) stretches now → AreAnswered now Outside history
        → ReadsFrom profile 0 (run_events stretches ++ recorded_events history) (map Accepted ts ++ end)
        → IsTruncation end
        → now ≡ all_after ts (first_members profile)
    applied_in_turn stretches now history ts end runs answered reads truncated =
        run_applied stretches 0 (first_members profile) now history ts end (first_devices profile) runs answered reads
        truncated
