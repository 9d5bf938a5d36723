-- What `--late` knows is so in each state that the bus may have brought the device to. For the law
-- `what_is_known_late_holds_on_the_bus`. What went before allows each such state (`reach`), and so what is known is so
-- by the law that it is certain: where a leg may have written to the device, something is known to be lost
-- (`has_write_if`). PHASE was told last after that (`phase_is`).
use Rattle.std.proofs.Common.{◌≡◌, ℕ, ◌+◌, ◌-◌, ◌/◌, ◌%◌, ◌==◌, Bool, true, false, ◌&&◌, ◌||◌, cond, Option, Some, None}
use Rattle.std.proofs.Common.{List, [], ◌∷◌, ◌++◌, drop, fold, is_some, length, map, nat_eq}
use Rattle.std.proofs.Common.{refl, sym, ap, ◌∙◌, subst, append-nil, append_assoc}
use Rattle.std.specs.List.{AllByRecursion, list_any}
use Rattle.std.specs.Option.{option_and_then, option_or}
use Rattle.std.specs.Prelude.{IfSome}
use Rattle.std.proofs.lemmas.Bool.{eqb-true, or_right}
use Rattle.std.proofs.lemmas.List.{map-append}
use Rattle.std.proofs.lemmas.List.Sums.{fold-append}
use Rattle.std.proofs.lemmas.Option.{none-some}
use Rattle.pmb_bus.specs.declared.event.Event.{Event}
use Rattle.pmb_bus.specs.declared.event.Event.TheVariants.{Start, Byte, Ack, Nack, Stop}
use Rattle.pmb_command.specs.Bus.{AreOfDevices, IsBus}
use Rattle.pmb_command.specs.Parts.{DeviceParts, device_with}
use Rattle.pmb_note.specs.Paging.{PagingData, RegisterTold, told, told_by_part}
use Rattle.pmb_partial_packet.specs.PartialPacket.{bytes_of_leg, reply}
use Rattle.pmb_spans.specs.Spans.{Span, ReadSpan, RefusedSpan, TruncatedSpan}
use Rattle.pmb_table.proofs.Accepted.{All-find}
use Rattle.pmb_transaction.proofs.Known.{device_is}
use Rattle.pmb_transaction.specs.Capture.{HasNoStop}
use Rattle.pmb_transaction.specs.Reading.{PassedOver, to_first_stop, to_the_end}
use Rattle.pmb_transaction.specs.Transaction.{TransactionData, Write, Read, Call, Refused, Alert, NoAlert}
use Rattle.pmb_unknown_start.specs.Certain.{CanFollow, CanFollowWrites, CanReach}
use Rattle.pmb_unknown_start.specs.Known.{told_by_read}
use Rattle.pmb_unknown_start.specs.Past.{PastData, Said, Dropped}
use Rattle.pmb_unknown_start.specs.Phase.{last_phase, only_byte, phase, phase_code, phase_of, told_phase, told_since, told_then}
use Rattle.pmb_unknown_start.specs.declared.start.Start.TheVariants.{Late}
use Rattle.pmb_unknown_start.specs.Taken.{as_taken, is_crossed, listens, one_taken, taken}
use Rattle.pmb_fact_stream.specs.Lost.{dropped_if, has_write, heard, is_write, lost_between, lost_in, to_stop}
use Rattle.pmb_fact_stream.specs.Spans.{past_in}
use Rattle.pmb_json.specs.OnBus.{Acts, ActsIf, AreAcks, HasModes, IsState, MayAct, Reaches, ReachesAll, StateData, Stretch}
use Rattle.pmb_json.specs.OnBus.{TakesEach, WritesTo, past_of_all, phase_after, phase_of_byte}

-- ---- writes to the device

both_true : (a b : Bool) → a ≡ true → b ≡ true → a && b ≡ true
both_true a b one other = ap (λ (c : Bool). c && b) one ∙ other

-- what holds of all addresses of a list holds of one that is among them
one_of : (P : ℕ → Type 0) (address : ℕ) (all : List ℕ) → AllByRecursion P all → list_any (nat_eq address) all ≡ true
    → P address
one_of P address [] each among = absurd (cc among)
one_of P address (first ∷ all) each among =
    by (nat_eq address first) refl among (λ later. one_of P address all each.1 later)
  where
    by : (b : Bool) → nat_eq address first ≡ b → b || list_any (nat_eq address) all ≡ true
        → (list_any (nat_eq address) all ≡ true → P address) → P address
    by true is found later = subst P (sym (eqb-true address first is)) each.0
    by false is found later = later found

module _ (profile : List DeviceParts) (bus : IsBus profile) (addr : ℕ) (device : DeviceParts)
    (found : device_with addr profile ≡ Some device) where
  -- the device has the address
  own_address : device.address ≡ addr
  own_address = (device_is profile addr device bus found).1

  -- its other addresses are those of devices
  others_are : AreOfDevices profile device.also
  others_are = subst (λ (o : Option DeviceParts). IfSome o (λ d. AreOfDevices profile d.also)) found
      (All-find (λ (d : DeviceParts). AreOfDevices profile d.also) (λ d. nat_eq d.address addr) profile bus.also)

  -- where it takes what is written, some device has the address
  some_device : (address : ℕ) → listens device address ≡ true → is_some (device_with address profile) ≡ true
  some_device address takes = by (nat_eq address device.address) refl takes
    where
      by : (own : Bool) → nat_eq address device.address ≡ own → own || list_any (nat_eq address) device.also ≡ true
          → is_some (device_with address profile) ≡ true
      by true is other = ap (λ (a : ℕ). is_some (device_with a profile)) (eqb-true address device.address is ∙ own_address)
          ∙ ap is_some found
      by false is other = one_of (λ a. is_some (device_with a profile) ≡ true) address device.also others_are other

  -- one to it is one to some device
  write_to : (address : ℕ) (bytes : List ℕ) → listens device (address / 2) ≡ true → address % 2 ≡ 0
      → is_write profile (address ∷ bytes) ≡ true
  write_to address bytes to writes =
      both_true (address % 2 == 0) (is_some (device_with (address / 2) profile)) (ap (λ (x : ℕ). x == 0) writes)
      (some_device (address / 2) to)

  own_leg : (between : List Event) (address : ℕ) (after : List Event) → AreAcks between
      → bytes_of_leg (between ++ Byte address ∷ after) ≡ address ∷ bytes_of_leg after
  own_leg [] address after acks = refl
  own_leg (Start ∷ between) address after acks = absurd acks
  own_leg (Byte b ∷ between) address after acks = absurd acks
  own_leg (Ack ∷ between) address after acks = own_leg between address after acks
  own_leg (Nack ∷ between) address after acks = own_leg between address after acks
  own_leg (Stop ∷ between) address after acks = absurd acks

  behind : (before events : List Event) → has_write profile events ≡ true
      → has_write profile (before ++ events) ≡ true
  behind [] events has = has
  behind (Start ∷ before) events has =
      or_right (is_write profile (bytes_of_leg (before ++ events))) (has_write profile (before ++ events))
      (behind before events has)
  behind (Byte b ∷ before) events has = behind before events has
  behind (Ack ∷ before) events has = behind before events has
  behind (Nack ∷ before) events has = behind before events has
  behind (Stop ∷ before) events has = behind before events has

  has_write_if : (events : List Event) → WritesTo device events → has_write profile events ≡ true
  has_write_if events w =
      let rest = w.between ++ Byte w.address ∷ w.after in
      ap (λ (l : List Event). has_write profile l) w.leg
      ∙ behind w.before (Start ∷ rest)
      (ap (λ (leg : List ℕ). is_write profile leg || has_write profile rest)
      (own_leg w.between w.address w.after w.acks)
      ∙ ap (λ (b : Bool). b || has_write profile rest)
      (write_to w.address (bytes_of_leg w.after) w.to_device w.writes))

  -- so where nothing is lost it stays as it is
  stays : (s r : StateData) (front passed : List Event)
      → has_write profile (heard (is_some (reply front)) front passed) ≡ false → MayAct device s front passed r → r ≡ s
  stays s r front passed none may = by_reply (reply front) refl none
    where
      by_reply : (replied : Option (List ℕ)) → reply front ≡ replied
          → has_write profile (heard (is_some replied) front passed) ≡ false → r ≡ s
      by_reply None is none = may
          (λ writes. absurd (cc (sym (behind front passed (has_write_if passed writes)) ∙ none)))
          (λ alone writes. absurd (cc (sym (has_write_if (front ++ passed) writes) ∙ none)))
      by_reply (Some bytes) is none = may
          (λ writes. absurd (cc (sym (has_write_if passed writes) ∙ none)))
          (λ alone writes. absurd (none-some bytes (sym alone ∙ is)))

  -- what is passed over is what stands up to STOP
  with_stop : (front left : List Event) → HasNoStop front → to_stop (front ++ Stop ∷ left) ≡ front ++ Stop ∷ []
  with_stop [] left clear = refl
  with_stop (Start ∷ front) left clear =
      ap (λ (l : List Event). Start ∷ l) (with_stop front left (λ b a is. clear (Start ∷ b) a (ap (λ (l : List Event). Start ∷ l) is)))
  with_stop (Byte x ∷ front) left clear =
      ap (λ (l : List Event). Byte x ∷ l) (with_stop front left (λ b a is. clear (Byte x ∷ b) a (ap (λ (l : List Event). Byte x ∷ l) is)))
  with_stop (Ack ∷ front) left clear =
      ap (λ (l : List Event). Ack ∷ l) (with_stop front left (λ b a is. clear (Ack ∷ b) a (ap (λ (l : List Event). Ack ∷ l) is)))
  with_stop (Nack ∷ front) left clear =
      ap (λ (l : List Event). Nack ∷ l) (with_stop front left (λ b a is. clear (Nack ∷ b) a (ap (λ (l : List Event). Nack ∷ l) is)))
  with_stop (Stop ∷ front) left clear = absurd (clear [] front refl)

  without_stop : (events : List Event) → HasNoStop events → to_stop events ≡ events
  without_stop [] clear = refl
  without_stop (Start ∷ events) clear =
      ap (λ (l : List Event). Start ∷ l) (without_stop events (λ b a is. clear (Start ∷ b) a (ap (λ (l : List Event). Start ∷ l) is)))
  without_stop (Byte x ∷ events) clear =
      ap (λ (l : List Event). Byte x ∷ l) (without_stop events (λ b a is. clear (Byte x ∷ b) a (ap (λ (l : List Event). Byte x ∷ l) is)))
  without_stop (Ack ∷ events) clear =
      ap (λ (l : List Event). Ack ∷ l) (without_stop events (λ b a is. clear (Ack ∷ b) a (ap (λ (l : List Event). Ack ∷ l) is)))
  without_stop (Nack ∷ events) clear =
      ap (λ (l : List Event). Nack ∷ l) (without_stop events (λ b a is. clear (Nack ∷ b) a (ap (λ (l : List Event). Nack ∷ l) is)))
  without_stop (Stop ∷ events) clear = absurd (clear [] events refl)

  over_is : (events passed left : List Event) → PassedOver events passed left → to_stop events ≡ passed
  over_is events passed left (to_first_stop is ends) =
      ap to_stop (is ∙ ap (λ (l : List Event). l ++ left) ends.split ∙ append_assoc ends.front (Stop ∷ []) left)
      ∙ with_stop ends.front left ends.no_stop ∙ sym ends.split
  over_is events passed left (to_the_end is none none_left) = ap to_stop is ∙ without_stop passed none

  lost_is : (n m : ℕ) (events front passed left : List Event)
      → PassedOver (drop ((m - n) + length front) events) passed left
      → lost_in profile n events m front ≡ lost_between profile front passed
  lost_is n m events front passed left over =
      ap (λ (l : List Event). lost_between profile front l) (over_is (drop ((m - n) + length front) events) passed left over)

  -- ---- PAGE and VOUT_MODE

  takes_each : (s r : StateData) (ts : List RegisterTold) → TakesEach device s ts r
      → CanFollowWrites device s.paging ts r.paging
  takes_each s r [] is = ap (λ (x : StateData). x.paging) is
  takes_each s r (t ∷ ts) takes = (takes.0.paging, takes.1.paging, takes_each takes.0 r ts takes.2)

  follows : (s r : StateData) (t : TransactionData) → Acts device s t r → CanFollow device s.paging t r.paging
  follows s r (Write parts) acts = takes_each s r (map told_by_part parts) acts
  follows s r (Read t) acts = ap (λ (x : StateData). x.paging) acts.1 ∙ sym acts.0.paging
  follows s r (Call t) acts = ap (λ (x : StateData). x.paging) acts
  follows s r (Refused t) acts = takes_each s r (map told_by_part t.parts) acts
  follows s r (Alert t) acts = ap (λ (x : StateData). x.paging) acts
  follows s r NoAlert acts = ap (λ (x : StateData). x.paging) acts

  -- a packet that was refused, and what was lost with it
  -- (nothing is taken of a line that was dropped)
  dropped_taken : (loses : Bool) → as_taken device (dropped_if loses) ≡ dropped_if loses
  dropped_taken true = refl
  dropped_taken false = refl

  both_taken : (before after : List PastData) → as_taken device (before ++ after)
      ≡ as_taken device before ++ as_taken device after
  both_taken before after = map-append (one_taken device) before after

  -- what was lost with a packet that was refused, and what comes behind it
  lost_taken : (n m : ℕ) (events front passed left : List Event)
      → PassedOver (drop ((m - n) + length front) events) passed left → (rest : List PastData)
      → as_taken device (lost_in profile n events m front ++ rest)
      ≡ dropped_if (has_write profile (heard (is_some (reply front)) front passed)) ++ as_taken device rest
  lost_taken n m events front passed left over rest =
      both_taken (lost_in profile n events m front) rest
      ∙ ap (λ (l : List PastData). l ++ as_taken device rest)
      (ap (as_taken device) (lost_is n m events front passed left over)
      ∙ dropped_taken (has_write profile (heard (is_some (reply front)) front passed)))

  reach_lost : (s r : StateData) (front passed : List Event) (loses : Bool)
      → has_write profile (heard (is_some (reply front)) front passed) ≡ loses → HasModes device s → IsState device r
      → MayAct device s front passed r → (past : List PastData) (q : PagingData)
      → CanReach Late device r.paging past q → CanReach Late device s.paging (dropped_if loses ++ past) q
  reach_lost s r front passed true has before after may past q on =
      (r.paging, (after.page, after.modes ∙ sym before), on)
  reach_lost s r front passed false has before after may past q on =
      subst (λ (x : StateData). CanReach Late device x.paging past q) (stays s r front passed has may) on

  -- a packet that was read, by whether it reached the device at two of its addresses
  read_reaches : (s r : StateData) (t : TransactionData) (crossed : Bool) → HasModes device s
      → ActsIf crossed device s t r → (past : List PastData) (end : PagingData)
      → (HasModes device r → CanReach Late device r.paging past end)
      → CanReach Late device s.paging (cond crossed Dropped (Said (taken device t)) ∷ past) end
  read_reaches s r t true state acts past end on = (r.paging, (acts.page, acts.modes ∙ sym state), on acts.modes)
  read_reaches s r t false state acts past end on = (r.paging, follows s r (taken device t) acts.1, on acts.0)

  -- on from a state that is reached over spans
  reach_then : (n : ℕ) (events : List Event) (s q : StateData) (spans : List Span) → HasModes device s
      → Reaches device n events s spans q → (past : List PastData) (end : PagingData)
      → (HasModes device q → CanReach Late device q.paging past end)
      → CanReach Late device s.paging (as_taken device (past_in (lost_in profile n events) spans) ++ past) end
  reach_then n events s q [] state is past end on =
      subst (λ (x : StateData). CanReach Late device x.paging past end) is
      (on (subst (λ (x : StateData). HasModes device x) (sym is) state))
  reach_then n events s q (ReadSpan m own t ∷ spans) state is past end on =
      read_reaches s is.0 t (is_crossed device t) state is.1
      (as_taken device (past_in (lost_in profile n events) spans) ++ past) end
      (λ there. reach_then n events is.0 q spans there is.2 past end on)
  reach_then n events s q (RefusedSpan m front event refusal ∷ spans) state is past end on =
      let rest = past_in (lost_in profile n events) spans in
      let loses = has_write profile (heard (is_some (reply front)) front is.1.passed) in
      subst (λ (l : List PastData). CanReach Late device s.paging l end)
      (sym (ap (λ (l : List PastData). l ++ past)
      (lost_taken n m events front is.1.passed is.1.left is.1.over rest)
      ∙ append_assoc (dropped_if loses) (as_taken device rest) past))
      (reach_lost s is.0 front is.1.passed loses refl state is.1.state is.1.acts
      (as_taken device rest ++ past) end (reach_then n events is.0 q spans is.1.state.modes is.2 past end on))
  reach_then n events s q (TruncatedSpan m front refusal ∷ spans) state is past end on =
      reach_then n events s q spans state is past end on

  -- .. and over stretches, each of which ends with a line that was dropped
  reach_all : (s q : StateData) (stretches : List Stretch) → HasModes device s → ReachesAll device s stretches q
      → (past : List PastData) (end : PagingData) → (HasModes device q → CanReach Late device q.paging past end)
      → CanReach Late device s.paging (as_taken device (past_of_all profile stretches) ++ past) end
  reach_all s q [] state is past end on =
      subst (λ (x : StateData). CanReach Late device x.paging past end) is
      (on (subst (λ (x : StateData). HasModes device x) (sym is) state))
  reach_all s q (stretch ∷ more) state is past end on =
      let own = past_in (lost_in profile stretch.n stretch.events) stretch.spans in
      let rest = as_taken device (past_of_all profile more) ++ past in
      subst (λ (l : List PastData). CanReach Late device s.paging l end)
      (sym (ap (λ (l : List PastData). l ++ past) (both_taken own (Dropped ∷ past_of_all profile more))
      ∙ append_assoc (as_taken device own) (Dropped ∷ as_taken device (past_of_all profile more)) past))
      (reach_then stretch.n stretch.events s is.0 stretch.spans state is.2 (Dropped ∷ rest) end
      (λ there. (
        is.1.paging,
        (is.3.page, is.3.modes ∙ sym there),
        reach_all is.1 q more is.3.modes is.4 past end on,
      )))

  pub reach : (s mid q : StateData) (stretches : List Stretch) (n : ℕ) (events : List Event) (spans : List Span)
      → IsState device s → ReachesAll device s stretches mid → Reaches device n events mid spans q
      → CanReach Late device s.paging
      (as_taken device (past_of_all profile stretches ++ past_in (lost_in profile n events) spans)) q.paging
  reach s mid q stretches n events spans state all last =
      let own = past_in (lost_in profile n events) spans in
      subst (λ (l : List PastData). CanReach Late device s.paging l q.paging)
      (sym (both_taken (past_of_all profile stretches) own))
      (reach_all s mid stretches state.modes all (as_taken device own) q.paging
      (λ there. subst (λ (l : List PastData). CanReach Late device mid.paging l q.paging) (append-nil (as_taken device own))
      (reach_then n events mid q spans there last [] q.paging (λ state. refl))))

  -- ---- PHASE

  -- what was told of it last is so
  abbrev IsPhase : StateData → List RegisterTold → Type 0
  IsPhase s ts = (number : ℕ) → last_phase addr ts ≡ Some number → s.phase ≡ number

  -- a register more that is told
  one_told : (address phase : ℕ) (t : RegisterTold) → address ≡ addr
      → ((number : ℕ) → told_phase addr t ≡ Some number → phase_after address phase t ≡ number)
      × (told_phase addr t ≡ None → phase_after address phase t ≡ phase)
  one_told address phase t same =
      subst (λ (a : ℕ). ((number : ℕ) → told_phase addr t ≡ Some number → phase_after a phase t ≡ number)
      × (told_phase addr t ≡ None → phase_after a phase t ≡ phase)) (sym same)
      (by_register (nat_eq t.addr addr && nat_eq t.code phase_code), by_none (nat_eq t.addr addr && nat_eq t.code phase_code))
    where
      by_bytes : (bytes : List ℕ) (number : ℕ) → only_byte bytes ≡ Some number → phase_of_byte phase bytes ≡ number
      by_bytes [] number is = absurd (none-some number is)
      by_bytes (value ∷ []) number is = cc is
      by_bytes (a ∷ b ∷ bytes) number is = absurd (none-some number is)

      none_bytes : (bytes : List ℕ) → only_byte bytes ≡ None → phase_of_byte phase bytes ≡ phase
      none_bytes [] is = refl
      none_bytes (value ∷ []) is = absurd (none-some value (sym is))
      none_bytes (a ∷ b ∷ bytes) is = refl

      by_register : (own : Bool) (number : ℕ) → cond own (only_byte t.bytes) None ≡ Some number
          → cond own (phase_of_byte phase t.bytes) phase ≡ number
      by_register true number is = by_bytes t.bytes number is
      by_register false number is = absurd (none-some number is)

      by_none : (own : Bool) → cond own (only_byte t.bytes) None ≡ None
          → cond own (phase_of_byte phase t.bytes) phase ≡ phase
      by_none true is = none_bytes t.bytes is
      by_none false is = refl

  -- what was told last is what was told with one more
  or_either : (a b c : Option ℕ) → option_or (option_or a b) c ≡ option_or a (option_or b c)
  or_either None b c = refl
  or_either (Some n) b c = refl

  or_none : (a : Option ℕ) → a ≡ option_or a None
  or_none None = refl
  or_none (Some n) = refl

  last_behind : (all : List RegisterTold) (t : RegisterTold)
      → last_phase addr (all ++ t ∷ []) ≡ option_or (told_phase addr t) (last_phase addr all)
  last_behind [] t = or_none (told_phase addr t)
  last_behind (first ∷ all) t =
      ap (λ (o : Option ℕ). option_or o (told_phase addr first)) (last_behind all t)
      ∙ or_either (told_phase addr t) (last_phase addr all) (told_phase addr first)

  phase_step : (s r : StateData) (all : List RegisterTold) (t : RegisterTold)
      → r.phase ≡ phase_after device.address s.phase t → IsPhase s all → IsPhase r (all ++ t ∷ [])
  phase_step s r all t after is number last =
      by_told (told_phase addr t) refl (sym (last_behind all t) ∙ last)
    where
      own : ((number : ℕ) → told_phase addr t ≡ Some number → phase_after device.address s.phase t ≡ number)
          × (told_phase addr t ≡ None → phase_after device.address s.phase t ≡ s.phase)
      own = one_told device.address s.phase t own_address

      by_told : (o : Option ℕ) → told_phase addr t ≡ o → option_or o (last_phase addr all) ≡ Some number
          → r.phase ≡ number
      by_told None none before = after ∙ own.1 none ∙ is number before
      by_told (Some value) told before = after ∙ own.0 value told ∙ cc before

  phase_each : (s r : StateData) (all ts : List RegisterTold) → TakesEach device s ts r → IsPhase s all
      → IsPhase r (all ++ ts)
  phase_each s r all [] takes is =
      subst (λ (l : List RegisterTold). IsPhase r l) (sym (append-nil all))
      (subst (λ (x : StateData). IsPhase x all) (sym takes) is)
  phase_each s r all (t ∷ ts) takes is =
      subst (λ (l : List RegisterTold). IsPhase r l) (append_assoc all (t ∷ []) ts)
      (phase_each takes.0 r (all ++ t ∷ []) ts takes.2 (phase_step s takes.0 all t takes.1.phase is))

  phase_same : (s r : StateData) (all : List RegisterTold) → r ≡ s → IsPhase s all → IsPhase r (all ++ [])
  phase_same s r all same is =
      subst (λ (l : List RegisterTold). IsPhase r l) (sym (append-nil all))
      (subst (λ (x : StateData). IsPhase x all) (sym same) is)

  phase_acts : (s r : StateData) (all : List RegisterTold) (t : TransactionData) → Acts device s t r → IsPhase s all
      → IsPhase r (all ++ told t)
  phase_acts s r all (Write parts) acts is = phase_each s r all (map told_by_part parts) acts is
  phase_acts s r all (Read t) acts is =
      phase_step s r all (told_by_read t) (ap (λ (x : StateData). x.phase) acts.1 ∙ sym acts.0.phase) is
  phase_acts s r all (Call t) acts is = phase_same s r all acts is
  phase_acts s r all (Refused t) acts is = phase_each s r all (map told_by_part t.parts) acts is
  phase_acts s r all (Alert t) acts is = phase_same s r all acts is
  phase_acts s r all NoAlert acts is = phase_same s r all acts is

  none_is : (s : StateData) → IsPhase s []
  none_is s number last = absurd (none-some number last)

  -- a packet that was read
  phase_read : (s r : StateData) (all : List RegisterTold) (t : TransactionData) (crossed : Bool)
      → ActsIf crossed device s t r → IsPhase s all
      → IsPhase r (told_then all (cond crossed Dropped (Said (taken device t))))
  phase_read s r all t true acts is = none_is r
  phase_read s r all t false acts is = phase_acts s r all (taken device t) acts.1 is

  -- where something is lost nothing was told since
  phase_lost : (s r : StateData) (front passed : List Event) (loses : Bool)
      → has_write profile (heard (is_some (reply front)) front passed) ≡ loses → MayAct device s front passed r
      → (all : List RegisterTold) → IsPhase s all → IsPhase r (fold told_then all (dropped_if loses))
  phase_lost s r front passed true has may all is = none_is r
  phase_lost s r front passed false has may all is =
      subst (λ (x : StateData). IsPhase x all) (sym (stays s r front passed has may)) is

  phase_over : (n : ℕ) (events : List Event) (s q : StateData) (spans : List Span) (all : List RegisterTold)
      → Reaches device n events s spans q → IsPhase s all
      → IsPhase q (fold told_then all (as_taken device (past_in (lost_in profile n events) spans)))
  phase_over n events s q [] all reaches is = subst (λ (x : StateData). IsPhase x all) (sym reaches) is
  phase_over n events s q (ReadSpan m own t ∷ spans) all reaches is =
      phase_over n events reaches.0 q spans (told_then all (one_taken device (Said t))) reaches.2
      (phase_read s reaches.0 all t (is_crossed device t) reaches.1 is)
  phase_over n events s q (RefusedSpan m front event refusal ∷ spans) all reaches is =
      let rest = past_in (lost_in profile n events) spans in
      let loses = has_write profile (heard (is_some (reply front)) front reaches.1.passed) in
      subst (λ (l : List PastData). IsPhase q (fold told_then all l))
      (sym (lost_taken n m events front reaches.1.passed reaches.1.left reaches.1.over rest))
      (subst (λ (l : List RegisterTold). IsPhase q l)
      (sym (fold-append told_then all (dropped_if loses) (as_taken device rest)))
      (phase_over n events reaches.0 q spans (fold told_then all (dropped_if loses)) reaches.2
      (phase_lost s reaches.0 front reaches.1.passed loses refl reaches.1.acts all is)))
  phase_over n events s q (TruncatedSpan m front refusal ∷ spans) all reaches is =
      phase_over n events s q spans all reaches is

  phase_all : (s q : StateData) (stretches : List Stretch) (all : List RegisterTold)
      → ReachesAll device s stretches q → IsPhase s all
      → IsPhase q (fold told_then all (as_taken device (past_of_all profile stretches)))
  phase_all s q [] all reaches is = subst (λ (x : StateData). IsPhase x all) (sym reaches) is
  phase_all s q (stretch ∷ more) all reaches is =
      let own = past_in (lost_in profile stretch.n stretch.events) stretch.spans in
      subst (λ (l : List RegisterTold). IsPhase q l)
      (sym (ap (fold told_then all) (both_taken own (Dropped ∷ past_of_all profile more))
      ∙ fold-append told_then all (as_taken device own) (Dropped ∷ as_taken device (past_of_all profile more))))
      (phase_all reaches.1 q more [] reaches.4 (none_is reaches.1))

  phase_if : (has : Bool) (last : Option ℕ) (number : ℕ) → cond has last None ≡ Some number → last ≡ Some number
  phase_if true last number is = is
  phase_if false last number is = absurd (none-some number is)

  pub phase_is : (s mid q : StateData) (stretches : List Stretch) (n : ℕ) (events : List Event) (spans : List Span)
      (number : ℕ) → ReachesAll device s stretches mid → Reaches device n events mid spans q
      → phase profile (past_of_all profile stretches ++ past_in (lost_in profile n events) spans) addr ≡ Some number
      → q.phase ≡ number
  phase_is s mid q stretches n events spans number all last is =
      let own = past_in (lost_in profile n events) spans in
      let before = past_of_all profile stretches in
      let all_own = as_taken device (before ++ own) in
      let known : last_phase addr (told_since all_own) ≡ Some number =
      phase_if (is_some device.phases) (last_phase addr (told_since all_own)) number
      (sym (ap (option_and_then (phase_of addr (before ++ own))) found) ∙ is) in
      phase_over n events mid q spans (told_since (as_taken device before)) last
      (phase_all s mid stretches [] all (none_is s)) number
      (ap (last_phase addr)
      (sym (ap told_since (both_taken before own) ∙ fold-append told_then [] (as_taken device before) (as_taken device own)))
      ∙ known)
