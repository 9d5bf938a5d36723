-- The bytes that were recorded of the Asks in a leg that reads a device are a front of its reply.
-- For the law `replies_are_answers`. An event of a byte there is of an Ask, since the host sent no
-- byte after the address; a device gave that byte, the next one of its reply, and the ACK that was
-- recorded is the host's.
use Rattle.std.proofs.Common.{◌≡◌, ℕ, ◌+◌, Bool, true, false, ◌||◌, if◌then◌else◌, Option, Some, None, List, [], ◌∷◌}
use Rattle.std.proofs.Common.{◌++◌, drop, refl, sym, ap, subst, ◌∙◌, add-one, arith}
use Rattle.std.specs.List.{slice_get}
use Rattle.std.proofs.Math.Seq.{drop-cons}
use Rattle.std.proofs.lemmas.Option.{get_or_from_slice_get, slice_get_within}
use Rattle.pmb_bus.specs.declared.event.Event.{Event}
use Rattle.pmb_bus.specs.declared.event.Event.TheVariants as wire
use Rattle.pmb_command.specs.Parts.{DeviceParts}
use Rattle.pmb_transaction.specs.Packet.{nacked}
use Rattle.pmb_registers.specs.State.{InState}
use Rattle.pmb_device.specs.declared.signal.HostSignal.{HostSignal}
use Rattle.pmb_device.specs.declared.signal.HostSignal.TheVariants.{Start, Byte, Ask, Ack, Nack, Stop}
use Rattle.pmb_device.specs.declared.signal.DeviceSignal.{DeviceSignal}
use Rattle.pmb_device.specs.declared.signal.DeviceSignal.TheVariants as answers
use Rattle.pmb_device.specs.Legs.{Leg, Legs, Inside, sent, with_signal}
use Rattle.pmb_device.specs.Rules.{byte_or_silent, given_behind, next_of, waits_behind}
use Rattle.pmb_devices.specs.Bus.{AreAnswered, BusAnswers, AnsweredSignal, acknowledged, recorded_events, given}
use Rattle.pmb_devices.specs.Bus.{legs_after, recorded}
use Rattle.pmb_devices.specs.Replies.{HasAddressAlone}
use Rattle.pmb_devices.proofs.Parsing.{Stands, given_byte, has_start, no_start_behind, stays_in}
use Rattle.pmb_devices.proofs.ReadLegs.{no_start_nacked}

-- ---- how many bytes were given

module _ (device : DeviceParts) where
  -- an Ask where no byte waits is given one byte more
  given_with_ask : (waiting : Bool) (s : Leg) → waits_behind device waiting s ≡ false
      → given_behind device waiting (s ++ Ask ∷ []) ≡ given_behind device waiting s + 1
  given_with_ask true [] free = absurd (cc free)
  given_with_ask false [] free = refl
  given_with_ask waiting (Start ∷ s) free = given_with_ask waiting s free
  given_with_ask waiting (Byte b ∷ s) free = given_with_ask waiting s free
  given_with_ask true (Ask ∷ s) free = given_with_ask true s free
  given_with_ask false (Ask ∷ s) free = omega (arith, given_with_ask true s free)
  given_with_ask waiting (Ack ∷ s) free = given_with_ask false s free
  given_with_ask waiting (Nack ∷ s) free = given_with_ask waiting s free
  given_with_ask waiting (Stop ∷ s) free = given_with_ask waiting s free

  -- and ACK gives none
  given_with_ack : (waiting : Bool) (s : Leg) → given_behind device waiting (s ++ Ack ∷ [])
      ≡ given_behind device waiting s
  given_with_ack true [] = refl
  given_with_ack false [] = refl
  given_with_ack waiting (Start ∷ s) = given_with_ack waiting s
  given_with_ack waiting (Byte b ∷ s) = given_with_ack waiting s
  given_with_ack true (Ask ∷ s) = given_with_ack true s
  given_with_ack false (Ask ∷ s) = ap (λ (n : ℕ). 1 + n) (given_with_ack true s)
  given_with_ack waiting (Ack ∷ s) = given_with_ack false s
  given_with_ack waiting (Nack ∷ s) = given_with_ack waiting s
  given_with_ack waiting (Stop ∷ s) = given_with_ack waiting s

  -- a byte that is given was the next one, and none waited
  byte_chosen : (ended waits : Bool) (o : Option ℕ) (b : ℕ)
      → (if ended || waits then answers.Silent else byte_or_silent device o) ≡ answers.Byte b
      → (waits ≡ false) × (o ≡ Some b)
  byte_chosen true waits o b is = absurd (cc is)
  byte_chosen false true o b is = absurd (cc is)
  byte_chosen false false None b is = absurd (cc is)
  byte_chosen false false (Some c) b is = (refl, ap (λ (n : ℕ). Some n) (cc is))

-- the bytes from one on
from_here : (all : List ℕ) (n b : ℕ) → slice_get all n ≡ Some b → drop n all ≡ b ∷ drop (n + 1) all
from_here all n b is =
    let small = slice_get_within all n b is in
    let value = get_or_from_slice_get all n b b is in
    rw (add-one, drop-cons all n b small, value) refl

-- an Ask is never recorded as ACK
given_no_ack : (result : DeviceSignal) → given result ≡ wire.Ack → ⊥
given_no_ack answers.Silent is = cc is
given_no_ack answers.Ack is = cc is
given_no_ack answers.Nack is = cc is
given_no_ack (answers.Byte b) is = cc is

-- a leg with a byte in it
some_sent : (s : Leg) (c : ℕ) (behind : Leg) → sent ((s ++ Byte c ∷ []) ++ behind) ≡ [] → ⊥
some_sent [] c behind is = cc is
some_sent (Start ∷ s) c behind is = some_sent s c behind is
some_sent (Byte b ∷ s) c behind is = cc is
some_sent (Ask ∷ s) c behind is = some_sent s c behind is
some_sent (Ack ∷ s) c behind is = some_sent s c behind is
some_sent (Nack ∷ s) c behind is = some_sent s c behind is
some_sent (Stop ∷ s) c behind is = some_sent s c behind is

-- ---- signals of the leg

module _ (members : List InState) (final : Legs) (alone : HasAddressAlone final) (earlier : List Leg) (r : ℕ) where
  -- the host sent no byte after the address
  no_byte : (s : Leg) (c : ℕ) (events : List Event) → has_start events ≡ false
      → Stands members final (Inside earlier ((Byte r ∷ s) ++ Byte c ∷ [])) events → ⊥
  -- the leg goes on in the final legs,
  no_byte s c events none stands =
      let goes = stays_in members final earlier ((Byte r ∷ s) ++ Byte c ∷ []) events none stands in
      -- where the host sent the read address alone
      let has : HasAddressAlone (Inside earlier (((Byte r ∷ s) ++ Byte c ∷ []) ++ goes.behind)) =
      subst HasAddressAlone goes.is alone in
      let rest : sent ((s ++ Byte c ∷ []) ++ goes.behind) ≡ [] = cc (has.1) in
      some_sent s c goes.behind rest

  -- a byte was asked for, and a device gave it
  pub record Asked (s : Leg) (b : ℕ) (rest : List Event) : Type 0 where
    -- the bus answered this Ask with the byte,
    pub asked : BusAnswers members (Inside earlier (Byte r ∷ s)) Ask (answers.Byte b)
    -- and the rest was recorded after it
    pub stands : Stands members final (Inside earlier ((Byte r ∷ s) ++ Ask ∷ [])) rest

  -- so a byte was recorded of an Ask
  asked_of : (s : Leg) (b : ℕ) (rest : List Event) → has_start rest ≡ false
      → (signal : HostSignal) (result : DeviceSignal) (more : List AnsweredSignal)
      → BusAnswers members (Inside earlier (Byte r ∷ s)) signal result
      → AreAnswered members (with_signal (Inside earlier (Byte r ∷ s)) signal) more
      → (recorded signal result ++ recorded_events more) ++ wire.Stop ∷ [] ≡ wire.Byte b ∷ rest
      → legs_after (with_signal (Inside earlier (Byte r ∷ s)) signal) more ≡ final → Asked s b rest
  asked_of s b rest none Start result more bus answered spelled ends = absurd (cc spelled)
  -- the host's own byte: it sent none here
  asked_of s b rest none (Byte c) result more bus answered spelled ends =
      let behind : acknowledged result ∷ (recorded_events more ++ wire.Stop ∷ []) ≡ rest = cc spelled in
      absurd
      (
      no_byte s c (recorded_events more ++ wire.Stop ∷ [])
      (
      no_start_behind (acknowledged result) (recorded_events more ++ wire.Stop ∷ [])
      (subst (λ (es : List Event). has_start es ≡ false) (sym behind) none)
      ) (record { more = more; answered = answered; spelled = refl; ends = ends })
      )
  -- an Ask, and the byte that it got
  asked_of s b rest none Ask result more bus answered spelled ends = record {
    asked = subst (BusAnswers members (Inside earlier (Byte r ∷ s)) Ask) (given_byte result b (cc spelled)) bus;
    stands = record { more = more; answered = answered; spelled = cc spelled; ends = ends };
  }
  asked_of s b rest none Ack result more bus answered spelled ends = absurd (cc spelled)
  asked_of s b rest none Nack result more bus answered spelled ends = absurd (cc spelled)
  asked_of s b rest none Stop result more bus answered spelled ends = absurd (cc spelled)

  -- whatever comes first
  asked_from : (s : Leg) (b : ℕ) (rest : List Event) → has_start rest ≡ false → (more : List AnsweredSignal)
      → AreAnswered members (Inside earlier (Byte r ∷ s)) more → recorded_events more ++ wire.Stop ∷ [] ≡ wire.Byte b
      ∷ rest
      → legs_after (Inside earlier (Byte r ∷ s)) more ≡ final → Asked s b rest
  asked_from s b rest none [] answered spelled ends = absurd (cc spelled)
  asked_from s b rest none (exchange ∷ more) answered spelled ends =
      asked_of s b rest none exchange.signal exchange.result more answered.1 answered.2 spelled ends

  -- ACK was recorded of the host's ACK
  acked_of : (leg : Leg) (rest : List Event) (signal : HostSignal) (result : DeviceSignal) (more : List AnsweredSignal)
      → AreAnswered members (with_signal (Inside earlier leg) signal) more
      → (recorded signal result ++ recorded_events more) ++ wire.Stop ∷ [] ≡ wire.Ack ∷ rest
      → legs_after (with_signal (Inside earlier leg) signal) more ≡ final
      → Stands members final (Inside earlier (leg ++ Ack ∷ [])) rest
  acked_of leg rest Start result more answered spelled ends = absurd (cc spelled)
  acked_of leg rest (Byte c) result more answered spelled ends = absurd (cc spelled)
  acked_of leg rest Ask result more answered spelled ends = absurd (given_no_ack result (cc spelled))
  acked_of leg rest Ack result more answered spelled ends =
      record { more = more; answered = answered; spelled = cc spelled; ends = ends }
  acked_of leg rest Nack result more answered spelled ends = absurd (cc spelled)
  acked_of leg rest Stop result more answered spelled ends = absurd (cc spelled)

  -- whatever comes first
  acked_from : (leg : Leg) (rest : List Event) (more : List AnsweredSignal)
      → AreAnswered members (Inside earlier leg) more
      → recorded_events more ++ wire.Stop ∷ [] ≡ wire.Ack ∷ rest → legs_after (Inside earlier leg) more ≡ final
      → Stands members final (Inside earlier (leg ++ Ack ∷ [])) rest
  acked_from leg rest [] answered spelled ends = absurd (cc spelled)
  acked_from leg rest (exchange ∷ more) answered spelled ends =
      acked_of leg rest exchange.signal exchange.result more answered.2 spelled ends

  -- ---- the bytes

  module _ (device : DeviceParts) (all : List ℕ)
      (gives : (s : Leg) (b : ℕ) → BusAnswers members (Inside earlier (Byte r ∷ s)) Ask (answers.Byte b)
      → next_of device all s ≡ answers.Byte b) where
    -- a byte that was asked for is the next one
    next_byte : (s : Leg) (b : ℕ) (rest : List Event) → Asked s b rest
        → (waits_behind device false s ≡ false) × (drop (given_behind device false s) all ≡ b
        ∷ drop (given_behind device false s + 1) all)
    next_byte s b rest one =
        let next = byte_chosen device _ (waits_behind device false s) (slice_get all (given_behind device false s)) b
        (gives s b one.asked) in
        (next.0, from_here all (given_behind device false s) b next.1)

    -- The bytes that were recorded, each with ACK but for the last, are those of the reply from the
    -- next one on.
    pub reply_front : (s : Leg) (bytes : List ℕ)
        → Stands members final (Inside earlier (Byte r ∷ s)) (nacked bytes ++ wire.Stop ∷ [])
        → (more : List ℕ) × (drop (given_behind device false s) all ≡ bytes ++ more)
    reply_front s [] stands = (drop (given_behind device false s) all, refl)
    reply_front s (b ∷ []) stands =
        let rest = wire.Nack ∷ wire.Stop ∷ [] in
        let one = asked_from s b rest refl stands.more stands.answered stands.spelled stands.ends in
        (drop (given_behind device false s + 1) all, (next_byte s b rest one).1)
    reply_front s (b ∷ c ∷ bytes) stands =
        let rest = nacked (c ∷ bytes) ++ wire.Stop ∷ [] in
        let one = asked_from s b (wire.Ack ∷ rest) (no_start_nacked (c ∷ bytes)) stands.more stands.answered
        stands.spelled stands.ends in
        let next = next_byte s b (wire.Ack ∷ rest) one in
        let further = acked_from ((Byte r ∷ s) ++ Ask ∷ []) rest one.stands.more one.stands.answered one.stands.spelled
        one.stands.ends in
        let later = reply_front ((s ++ Ask ∷ []) ++ Ack ∷ []) (c ∷ bytes) further in
        let count : given_behind device false ((s ++ Ask ∷ []) ++ Ack ∷ []) ≡ given_behind device false s + 1 =
        given_with_ack device false (s ++ Ask ∷ []) ∙ given_with_ask device false s next.0 in
        (later.0, next.1 ∙ ap (λ (bs : List ℕ). b ∷ bs) (ap (λ (n : ℕ). drop n all) (sym count) ∙ later.1))
