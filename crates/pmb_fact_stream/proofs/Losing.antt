-- What is lost at refusals, event by event: for `Writes`, for the functions of `src/visits.rt` that take a refused
-- event or one that is passed over, and for the visits. The idea: what was reached has lost so much whatever follows
-- (`IsSettled`), but for the packet that was refused last, with which any write up to STOP is lost (`MayLose`).
use Rattle.std.proofs.Common.{◌≡◌, ℕ, ◌+◌, ◌-◌, Bool, true, false, not, ◌||◌, ◌&&◌, List, [], ◌∷◌, ◌++◌}
use Rattle.std.proofs.Common.{drop, fold, is_some, length, append-nil, append_assoc}
use Rattle.std.proofs.Common.{refl, sym, ap, ◌∙◌, subst, arith}
use Rattle.std.proofs.Math.Seq.{drop-append_seam}
use Rattle.std.proofs.lemmas.List.Sums.{fold-append}
use Rattle.pmb_bus.specs.declared.event.Event.{Event}
use Rattle.pmb_bus.specs.declared.event.Event.TheVariants.{Start, Byte, Ack, Nack, Stop}
use Rattle.pmb_command.specs.Parts.{DeviceParts}
use Rattle.pmb_partial_packet.specs.PartialPacket.{bytes_of_leg, reply}
use Rattle.pmb_reader.specs.Reader.{Standing, Open, Held, Passing, behind_passed}
use Rattle.pmb_scan.specs.Reached.{Reached, behind_bytes, behind_event, behind_packet, behind_refusal}
use Rattle.pmb_scan.specs.Reached.{at_start, behind_whole}
use Rattle.pmb_spans.specs.Spans.{Span, ReadSpan, RefusedSpan, TruncatedSpan, moved_spans}
use Rattle.pmb_transaction.specs.Reading.{RefusalData}
use Rattle.pmb_transaction.specs.Transaction.{TransactionData}
use Rattle.pmb_unknown_start.specs.Past.{PastData, Said}
use Rattle.pmb_fact_stream.specs.declared.writes.Writes.{Writes}
use Rattle.pmb_fact_stream.specs.Before.{past_of}
use Rattle.pmb_fact_stream.specs.Lost.{dropped_if, has_write, heard, is_write, lost_between, lost_in, to_stop}
use Rattle.pmb_fact_stream.specs.Spans.{past_in}
use Rattle.pmb_fact_stream.specs.machine.Losing.{IsSettled, KnowsLost, MayLose, WritesBehind, WritesStandAt}
use Rattle.pmb_fact_stream.specs.machine.Losing.{awaits_address, awaits_behind, past_with}

-- ---- whether a leg is a write

or_later : (a b c : Bool) → ((a || b) || c) ≡ (a || (b || c))
or_later true b c = refl
or_later false b c = refl

or_none : (a : Bool) → (a || false) ≡ a
or_none true = refl
or_none false = refl

module _ (profile : List DeviceParts) where
  -- the same event by event: `awaits` says whether the next byte is an address
  abbrev pub from_event : (awaits : Bool) → List Event → Bool
  from_event awaits [] = false
  from_event awaits (Start ∷ events) = from_event true events
  from_event true (Byte b ∷ events) = is_write profile (b ∷ []) || from_event false events
  from_event false (Byte b ∷ events) = from_event false events
  from_event awaits (Ack ∷ events) = from_event awaits events
  from_event awaits (Nack ∷ events) = from_event awaits events
  from_event awaits (Stop ∷ events) = from_event awaits events

  -- of all legs, and where a leg's address has not come
  abbrev IsFrom : List Event → Type 0
  IsFrom events = (has_write profile events ≡ from_event false events)
      × ((is_write profile (bytes_of_leg events) || has_write profile events) ≡ from_event true events)

  is_from : (events : List Event) → IsFrom events
  is_from [] = (refl, refl)
  is_from (Start ∷ events) = ((is_from events).1, (is_from events).1)
  is_from (Byte b ∷ events) =
      ((is_from events).0, ap (λ (more : Bool). is_write profile (b ∷ []) || more) (is_from events).0)
  is_from (Ack ∷ events) = is_from events
  is_from (Nack ∷ events) = is_from events
  is_from (Stop ∷ events) = is_from events

  has_from : (events : List Event) → has_write profile events ≡ from_event false events
  has_from events = (is_from events).0

  -- an event more
  abbrev pub adds : (awaits : Bool) (event : Event) → Bool
  adds awaits event = from_event awaits (event ∷ [])

  more_from : (awaits : Bool) (events : List Event) (event : Event) → from_event awaits (events ++ event ∷ [])
      ≡ (from_event awaits events || adds (fold awaits_behind awaits events) event)
  more_from awaits [] event = refl
  more_from awaits (Start ∷ events) event = more_from true events event
  more_from true (Byte b ∷ events) event =
      ap (λ (more : Bool). is_write profile (b ∷ []) || more) (more_from false events event)
      ∙ sym (or_later (is_write profile (b ∷ [])) (from_event false events)
      (adds (fold awaits_behind false events) event))
  more_from false (Byte b ∷ events) event = more_from false events event
  more_from awaits (Ack ∷ events) event = more_from awaits events event
  more_from awaits (Nack ∷ events) event = more_from awaits events event
  more_from awaits (Stop ∷ events) event = more_from awaits events event

  pub more_writes : (events : List Event) (event : Event)
      → has_write profile (events ++ event ∷ []) ≡ (has_write profile events || adds (awaits_address events) event)
  more_writes events event = has_from (events ++ event ∷ []) ∙ more_from false events event
      ∙ ap (λ (has : Bool). has || adds (awaits_address events) event) (sym (has_from events))

  pub more_awaits : (events : List Event) (event : Event)
      → awaits_address (events ++ event ∷ []) ≡ awaits_behind (awaits_address events) event
  more_awaits events event = fold-append awaits_behind false events (event ∷ [])

  -- .. by what is kept
  adds_byte : (awaits : Bool) (b : ℕ) → adds awaits (Byte b) ≡ (awaits && is_write profile (b ∷ []))
  adds_byte true b = or_none (is_write profile (b ∷ []))
  adds_byte false b = refl

  pub writes_start : (old new : Writes) (events : List Event) → WritesStandAt profile old events
      → new.awaits_address ≡ true → new.has_write ≡ old.has_write → WritesStandAt profile new (events ++ Start ∷ [])
  writes_start old new events stands awaits has = record {
    awaits = awaits ∙ sym (more_awaits events Start);
    has = has ∙ stands.has ∙ sym (more_writes events Start ∙ or_none (has_write profile events));
  }

  pub writes_byte : (old new : Writes) (events : List Event) (b : ℕ) → WritesStandAt profile old events
      → new.awaits_address ≡ false
      → new.has_write ≡ (old.has_write || (old.awaits_address && is_write profile (b ∷ [])))
      → WritesStandAt profile new (events ++ Byte b ∷ [])
  writes_byte old new events b stands awaits has = record {
    awaits = awaits ∙ sym (more_awaits events (Byte b));
    has = has ∙ ap (λ (h : Bool). h || (old.awaits_address && is_write profile (b ∷ []))) stands.has
        ∙ ap (λ (a : Bool). has_write profile events || (a && is_write profile (b ∷ []))) stands.awaits
        ∙ sym (more_writes events (Byte b)
        ∙ ap (λ (more : Bool). has_write profile events || more) (adds_byte (awaits_address events) b));
  }

  pub writes_ack : (old : Writes) (events : List Event) → WritesStandAt profile old events
      → WritesStandAt profile old (events ++ Ack ∷ [])
  writes_ack old events stands = record {
    awaits = stands.awaits ∙ sym (more_awaits events Ack);
    has = stands.has ∙ sym (more_writes events Ack ∙ or_none (has_write profile events));
  }

  pub writes_nack : (old : Writes) (events : List Event) → WritesStandAt profile old events
      → WritesStandAt profile old (events ++ Nack ∷ [])
  writes_nack old events stands = record {
    awaits = stands.awaits ∙ sym (more_awaits events Nack);
    has = stands.has ∙ sym (more_writes events Nack ∙ or_none (has_write profile events));
  }

  pub writes_stop : (old : Writes) (events : List Event) → WritesStandAt profile old events
      → WritesStandAt profile old (events ++ Stop ∷ [])
  writes_stop old events stands = record {
    awaits = stands.awaits ∙ sym (more_awaits events Stop);
    has = stands.has ∙ sym (more_writes events Stop ∙ or_none (has_write profile events));
  }

-- the same in other words
pub writes_at : (profile : List DeviceParts) (old new : Writes) (events : List Event) → new ≡ old
    → WritesStandAt profile old events → WritesStandAt profile new events
writes_at profile old new events same stands = subst (λ (w : Writes). WritesStandAt profile w events) (sym same) stands

-- ---- what counts as dropped

-- a write more counts where there was none before
dropped_more : (a b : Bool) → dropped_if (a || b) ≡ dropped_if a ++ dropped_if (not a && (a || b))
dropped_more true b = refl
dropped_more false b = refl

pub dropped_then : (profile : List DeviceParts) (taken : List Event) (event : Event)
    → dropped_if (has_write profile (taken ++ event ∷ []))
    ≡ dropped_if (has_write profile taken)
    ++ dropped_if (not (has_write profile taken) && has_write profile (taken ++ event ∷ []))
dropped_then profile taken event =
    let more = adds profile (awaits_address taken) event in
    let is = more_writes profile taken event in
    ap dropped_if is ∙ dropped_more (has_write profile taken) more
    ∙ ap (λ (b : Bool). dropped_if (has_write profile taken) ++ dropped_if (not (has_write profile taken) && b)) (sym is)

-- ---- what was lost, of spans that were moved

pub lost_moved : (profile : List DeviceParts) (n m : ℕ) (events front : List Event)
    → lost_in profile n events (n + m) front ≡ lost_in profile 0 events m front
lost_moved profile n m events front =
    let same : ((n + m) - n) + length front ≡ (m - 0) + length front = omega arith in
    ap (λ (k : ℕ). lost_between profile front (to_stop (drop k events))) same

pub past_moved : (profile : List DeviceParts) (n : ℕ) (events : List Event) (spans : List Span)
    → past_in (lost_in profile n events) (moved_spans n spans) ≡ past_in (lost_in profile 0 events) spans
past_moved profile n events [] = refl
past_moved profile n events (ReadSpan m own t ∷ spans) = ap (λ (past : List PastData). Said t ∷ past)
    (past_moved profile n events spans)
past_moved profile n events (RefusedSpan m front event refusal ∷ spans) =
    ap (λ (past : List PastData). past ++ past_in (lost_in profile n events) (moved_spans n spans))
    (lost_moved profile n m events front)
    ∙ ap (λ (past : List PastData). lost_in profile 0 events m front ++ past) (past_moved profile n events spans)
past_moved profile n events (TruncatedSpan m front refusal ∷ spans) = past_moved profile n events spans

-- ---- where nothing more is lost

-- nothing was reached
pub settled_first : (profile : List DeviceParts) → IsSettled (at_start profile)
settled_first profile later = refl

-- whatever follows, by what was reached so far
pub settled_now : (reached : Reached) (more later : List Event) → IsSettled reached
    → past_in (lost_in reached.profile 0 ((reached.events ++ more) ++ later)) reached.spans ≡ past_of reached
settled_now reached more later settled =
    ap (λ (events : List Event). past_in (lost_in reached.profile 0 events) reached.spans)
    (append_assoc reached.events more later)
    ∙ settled (more ++ later)

pub settled_more : (reached : Reached) (more : List Event) → IsSettled reached
    → past_in (lost_in reached.profile 0 (reached.events ++ more)) reached.spans ≡ past_of reached
settled_more reached more settled = settled more

pub past_both : (lost : ℕ → List Event → List PastData) (a b : List Span)
    → past_in lost (a ++ b) ≡ past_in lost a ++ past_in lost b
past_both lost [] b = refl
past_both lost (ReadSpan n events t ∷ a) b = ap (λ (past : List PastData). Said t ∷ past) (past_both lost a b)
past_both lost (RefusedSpan n front event refusal ∷ a) b =
    ap (λ (past : List PastData). lost n front ++ past) (past_both lost a b)
    ∙ sym (append_assoc (lost n front) (past_in lost a) (past_in lost b))
past_both lost (TruncatedSpan n front refusal ∷ a) b = past_both lost a b

-- a packet that was read, after these events
pub said_more : (reached : Reached) (n : ℕ) (own more later : List Event) (t : TransactionData) → IsSettled reached
    → past_in (lost_in reached.profile 0 ((reached.events ++ more) ++ later)) (reached.spans ++ ReadSpan n own t ∷ [])
    ≡ past_of reached ++ Said t ∷ []
said_more reached n own more later t settled =
    past_both (lost_in reached.profile 0 ((reached.events ++ more) ++ later)) reached.spans (ReadSpan n own t ∷ [])
    ∙ ap (λ (past : List PastData). past ++ Said t ∷ []) (settled_now reached more later settled)

pub said_now : (reached : Reached) (n : ℕ) (own more : List Event) (t : TransactionData) → IsSettled reached
    → past_of reached ++ Said t ∷ []
    ≡ past_in (lost_in reached.profile 0 (reached.events ++ more)) (reached.spans ++ ReadSpan n own t ∷ [])
said_now reached n own more t settled =
    sym (ap (λ (events : List Event). past_in (lost_in reached.profile 0 events) (reached.spans ++ ReadSpan n own t ∷ []))
    (sym (append-nil (reached.events ++ more)))
    ∙ said_more reached n own more [] t settled)

pub settled_packet : (reached : Reached) (n : ℕ) (front : List Event) (event : Event) (t : TransactionData)
    → IsSettled reached → IsSettled (behind_packet reached n front event t)
settled_packet reached n front event t settled later =
    said_more reached n (front ++ event ∷ []) (event ∷ []) later t settled
    ∙ said_now reached n (front ++ event ∷ []) (event ∷ []) t settled

pub settled_whole : (reached : Reached) (n : ℕ) (bytes : List ℕ) (events : List Event) (t : TransactionData)
    → IsSettled reached → IsSettled (behind_whole reached n bytes events t)
settled_whole reached n bytes events t settled later =
    said_more reached n events events later t settled ∙ said_now reached n events events t settled

-- an event of the packet under way
pub settled_event : (reached : Reached) (event : Event) → IsSettled reached → IsSettled (behind_event reached event)
settled_event reached event settled later =
    settled_now reached (event ∷ []) later settled ∙ sym (settled_more reached (event ∷ []) settled)

-- ---- where events are passed over

-- so much is lost so far
pub lost_so_far : (writes : Writes) (reached : Reached) → (may : MayLose writes reached)
    → past_of reached ≡ may.earlier ++ dropped_if (has_write reached.profile may.taken)
lost_so_far writes reached may =
    ap (λ (events : List Event). past_in (lost_in reached.profile 0 events) reached.spans)
    (sym (append-nil reached.events))
    ∙ may.lost []
    ∙ ap (λ (l : List Event). may.earlier ++ dropped_if (has_write reached.profile l)) (append-nil may.taken)

-- after an event that is passed over, whatever follows
abbrev more_lost : Reached → List PastData → List Event → List Event → List PastData
more_lost reached earlier taken later = earlier ++ dropped_if (has_write reached.profile (taken ++ later))

passed_more : (writes : Writes) (reached : Reached) (event : Event) (later : List Event) → (may : MayLose writes reached)
    → past_with (behind_event reached event) later
    ≡ more_lost reached may.earlier may.taken (to_stop (event ∷ later))
passed_more writes reached event later may =
    ap (λ (events : List Event). past_in (lost_in reached.profile 0 events) reached.spans)
    (append_assoc reached.events (event ∷ []) later)
    ∙ may.lost (event ∷ later)

-- what is lost with it
pub passed_now : (writes : Writes) (reached : Reached) (event : Event) → (may : MayLose writes reached)
    → past_of (behind_event reached event)
    ≡ may.earlier ++ dropped_if (has_write reached.profile (may.taken ++ event ∷ []))
passed_now writes reached event may =
    ap (λ (events : List Event). past_in (lost_in reached.profile 0 events) reached.spans)
    (sym (append-nil (reached.events ++ event ∷ [])))
    ∙ passed_more writes reached event [] may
    ∙ ap (λ (l : List Event). more_lost reached may.earlier may.taken l) (one_to_stop event)
  where
    one_to_stop : (event : Event) → to_stop (event ∷ []) ≡ event ∷ []
    one_to_stop Start = refl
    one_to_stop (Byte b) = refl
    one_to_stop Ack = refl
    one_to_stop Nack = refl
    one_to_stop Stop = refl

pub passed_then : (writes : Writes) (reached : Reached) (past : List PastData) (event : Event)
    → (may : MayLose writes reached)
    → (past ++ past_of reached)
    ++ dropped_if (not (has_write reached.profile may.taken) && has_write reached.profile (may.taken ++ event ∷ []))
    ≡ past ++ past_of (behind_event reached event)
passed_then writes reached past event may =
    let more = dropped_if (not (has_write reached.profile may.taken)
    && has_write reached.profile (may.taken ++ event ∷ [])) in
    append_assoc past (past_of reached) more
    ∙ ap (λ (l : List PastData). past ++ l)
    (ap (λ (l : List PastData). l ++ more) (lost_so_far writes reached may)
    ∙ append_assoc may.earlier (dropped_if (has_write reached.profile may.taken)) more
    ∙ ap (λ (l : List PastData). may.earlier ++ l) (sym (dropped_then reached.profile may.taken event))
    ∙ sym (passed_now writes reached event may))

-- no STOP
passed_on : (writes new : Writes) (reached : Reached) (event : Event) → (may : MayLose writes reached)
    → ((later : List Event) → to_stop (event ∷ later) ≡ event ∷ to_stop later)
    → WritesStandAt reached.profile new (may.taken ++ event ∷ []) → MayLose new (behind_event reached event)
passed_on writes new reached event may on stands = record {
  earlier = may.earlier;
  taken = may.taken ++ event ∷ [];
  stands = stands;
  lost = λ later. passed_more writes reached event later may
      ∙ ap (λ (l : List Event). more_lost reached may.earlier may.taken l) (on later)
      ∙ ap (λ (l : List Event). may.earlier ++ dropped_if (has_write reached.profile l))
      (sym (append_assoc may.taken (event ∷ []) (to_stop later)));
}

-- STOP
passed_stop : (writes : Writes) (reached : Reached) → MayLose writes reached → IsSettled (behind_event reached Stop)
passed_stop writes reached may later =
    passed_more writes reached Stop later may ∙ sym (passed_now writes reached Stop may)

passes : (writes new : Writes) (reached : Reached) (n : ℕ) (event : Event) → (may : MayLose writes reached)
    → WritesBehind reached.profile new (may.taken ++ event ∷ []) event
    → KnowsLost new (behind_event reached event) (behind_passed n event)
passes writes new reached n Start may stands = passed_on writes new reached Start may (λ later. refl) stands
passes writes new reached n (Byte b) may stands = passed_on writes new reached (Byte b) may (λ later. refl) stands
passes writes new reached n Ack may stands = passed_on writes new reached Ack may (λ later. refl) stands
passes writes new reached n Nack may stands = passed_on writes new reached Nack may (λ later. refl) stands
passes writes new reached n Stop may stands = (stands, passed_stop writes reached may)

-- ---- a refusal

-- what the events that are passed over say comes after those before
taken_more : (replies : Bool) (front : List Event) (event : Event) (later : List Event)
    → heard replies front (event ∷ later) ≡ heard replies front (event ∷ []) ++ later
taken_more true front event later = refl
taken_more false front event later = sym (append_assoc front (event ∷ []) later)

module _ (reached : Reached) (n : ℕ) (front : List Event) (event : Event) (refusal : RefusalData)
    (settled : IsSettled reached) (counted : n + length front ≡ length reached.events) where
  abbrev there : Reached
  there = behind_refusal reached n front event refusal

  -- the events from the refused one on
  from_refused : (later : List Event)
      → drop ((n - 0) + length front) ((reached.events ++ event ∷ []) ++ later) ≡ event ∷ later
  from_refused later =
      let at : (n - 0) + length front ≡ length reached.events = omega (arith, counted) in
      ap (λ (k : ℕ). drop k ((reached.events ++ event ∷ []) ++ later)) at
      ∙ ap (drop (length reached.events)) (append_assoc reached.events (event ∷ []) later)
      ∙ drop-append_seam reached.events (event ∷ later)

  -- what is lost, whatever follows
  refused_more : (later : List Event) → past_with there later
      ≡ past_of reached ++ lost_between reached.profile front (to_stop (event ∷ later))
  refused_more later =
      let lost = lost_in reached.profile 0 ((reached.events ++ event ∷ []) ++ later) in
      past_both lost reached.spans (RefusedSpan n front event refusal ∷ [])
      ∙ ap (λ (past : List PastData). past ++ (lost n front ++ [])) (settled_now reached (event ∷ []) later settled)
      ∙ ap (λ (past : List PastData). past_of reached ++ past) (append-nil (lost n front))
      ∙ ap (λ (l : List Event). past_of reached ++ lost_between reached.profile front (to_stop l)) (from_refused later)

  -- .. and so far
  pub refused_now : past_of there ≡ past_of reached ++ lost_between reached.profile front (event ∷ [])
  refused_now =
      ap (λ (events : List Event). past_in (lost_in reached.profile 0 events) there.spans)
      (sym (append-nil (reached.events ++ event ∷ [])))
      ∙ refused_more [] ∙ ap (λ (l : List Event). past_of reached ++ lost_between reached.profile front l) (one event)
    where
      one : (event : Event) → to_stop (event ∷ []) ≡ event ∷ []
      one Start = refl
      one (Byte b) = refl
      one Ack = refl
      one Nack = refl
      one Stop = refl

  refused_on : (new : Writes) → ((later : List Event) → to_stop (event ∷ later) ≡ event ∷ to_stop later)
      → WritesStandAt reached.profile new (heard (is_some (reply front)) front (event ∷ [])) → MayLose new there
  refused_on new on stands = record {
    earlier = past_of reached;
    taken = heard (is_some (reply front)) front (event ∷ []);
    stands = stands;
    lost = λ later. refused_more later
        ∙ ap (λ (l : List Event). past_of reached ++ lost_between reached.profile front l) (on later)
        ∙ ap (λ (l : List Event). past_of reached ++ dropped_if (has_write reached.profile l))
        (taken_more (is_some (reply front)) front event (to_stop later));
  }

refused_loses : (reached : Reached) (n : ℕ) (front : List Event) (event : Event) (refusal : RefusalData)
    → IsSettled reached → n + length front ≡ length reached.events → (new : Writes)
    → WritesBehind reached.profile new (heard (is_some (reply front)) front (event ∷ [])) event
    → KnowsLost new (behind_refusal reached n front event refusal) (behind_passed (n + length front) event)
refused_loses reached n front Start refusal settled counted new stands =
    refused_on reached n front Start refusal settled counted new (λ later. refl) stands
refused_loses reached n front (Byte b) refusal settled counted new stands =
    refused_on reached n front (Byte b) refusal settled counted new (λ later. refl) stands
refused_loses reached n front Ack refusal settled counted new stands =
    refused_on reached n front Ack refusal settled counted new (λ later. refl) stands
refused_loses reached n front Nack refusal settled counted new stands =
    refused_on reached n front Nack refusal settled counted new (λ later. refl) stands
refused_loses reached n front Stop refusal settled counted new stands = (
  stands,
  λ later. refused_more reached n front Stop refusal settled counted later
      ∙ sym (refused_now reached n front Stop refusal settled counted),
)

-- ---- by where a scan stands

-- where a packet is under way
pub settled_open : (writes : Writes) (reached : Reached) (n : ℕ) (front : List Event) → reached.standing ≡ Open n front
    → KnowsLost writes reached reached.standing → IsSettled reached
settled_open writes reached n front standing knows =
    (subst (λ (s : Standing). KnowsLost writes reached s) standing knows).1

pub writes_open : (writes : Writes) (reached : Reached) (n : ℕ) (front : List Event) → reached.standing ≡ Open n front
    → KnowsLost writes reached reached.standing → WritesStandAt reached.profile writes front
writes_open writes reached n front standing knows =
    (subst (λ (s : Standing). KnowsLost writes reached s) standing knows).0

pub loses_as : (old new : Writes) (reached : Reached) (standing : Standing) → new ≡ old
    → KnowsLost old reached standing → KnowsLost new reached standing
loses_as old new reached standing same knows =
    subst (λ (w : Writes). KnowsLost w reached standing) (sym same) knows

-- bytes more change nothing of it
pub loses_bytes : (old new : Writes) (reached : Reached) (bytes : List ℕ) → new ≡ old
    → KnowsLost old reached reached.standing → KnowsLost new (behind_bytes reached bytes) reached.standing
loses_bytes old new reached bytes same knows =
    subst (λ (w : Writes). KnowsLost w (behind_bytes reached bytes) reached.standing) (sym same)
    (stays reached.standing knows)
  where
    stays : (standing : Standing) → KnowsLost old reached standing → KnowsLost old (behind_bytes reached bytes) standing
    stays (Open n events) knows = knows
    stays (Held n refusal) knows = tt
    stays (Passing n) knows =
        record { earlier = knows.earlier; taken = knows.taken; stands = knows.stands; lost = knows.lost }

pub refused_knows : (reached : Reached) (n : ℕ) (front : List Event) (event : Event) (refusal : RefusalData)
    (old new : Writes) → reached.standing ≡ Open n front → n + length front ≡ length reached.events
    → KnowsLost old reached reached.standing
    → WritesBehind reached.profile new (heard (is_some (reply front)) front (event ∷ [])) event
    → KnowsLost new (behind_refusal reached n front event refusal) (behind_passed (n + length front) event)
refused_knows reached n front event refusal old new standing counted knows stands =
    refused_loses reached n front event refusal (settled_open old reached n front standing knows) counted new stands

-- an event that ends no packet and is not refused: it is kept, or passed over
module _ (old new : Writes) (reached : Reached) (event : Event) where
  -- what went before then
  pub past_stays : (past : List PastData) (n : ℕ) (front : List Event) → KnowsLost old reached (Open n front)
      → past ++ past_of reached ≡ past ++ past_of (behind_event reached event)
  past_stays past n front knows =
      ap (λ (l : List PastData). past ++ l) (sym (settled_more reached (event ∷ []) knows.1))

  pub keeps_lost : (n : ℕ) (front : List Event) → KnowsLost old reached (Open n front)
      → ((events : List Event) → WritesStandAt reached.profile old events
      → WritesStandAt reached.profile new (events ++ event ∷ []))
      → KnowsLost new (behind_event reached event) (Open n (front ++ event ∷ []))
  keeps_lost n front knows writes = (writes front knows.0, settled_event reached event knows.1)

  pub passes_lost : (n : ℕ) → (may : KnowsLost old reached (Passing n))
      → WritesBehind reached.profile new (may.taken ++ event ∷ []) event
      → KnowsLost new (behind_event reached event) (behind_passed n event)
  passes_lost n may stands = passes old new reached n event may stands
