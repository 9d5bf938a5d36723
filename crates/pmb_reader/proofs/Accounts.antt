-- What a reader has read so far (`HasRead`), carried from event to event, from piece to piece and
-- to the end. For the laws of `src/laws.rt`: `reading_goes_on`, `reading_accepts`,
-- `reading_refuses`, `pieces_go_on`, `pieces_are_accepted`, `captures_are_read_back` and others. An
-- account says: whatever follows and reads on from here, all of it together reads as the outcomes
-- so far and those.
use Rattle.std.proofs.Common.{◌≡◌, ◌≢◌, ℕ, ◌+◌, ◌⊎◌, inl, inr, List, [], ◌∷◌, ◌++◌, length, map, take, Result, Ok, Err}
use Rattle.std.proofs.Common.{refl, sym, ap, ◌∙◌, subst, append_assoc, arith, length-append}
use Rattle.std.proofs.lemmas.List.{append-nil, take_at}
use Rattle.pmb_bus.specs.declared.event.Event.{Event}
use Rattle.pmb_bus.specs.declared.event.Event.TheVariants.{Start, Byte, Ack, Nack, Stop}
use Rattle.pmb_command.specs.Parts.{DeviceParts}
use Rattle.pmb_transaction.specs.Transaction.{TransactionData}
use Rattle.pmb_transaction.specs.Packet.{Packet}
use Rattle.pmb_transaction.specs.Capture.{Capture, EndsAtFirstStop, HasNoStop}
use Rattle.pmb_transaction.specs.Reading.{Accepted, Outcome, PassedOver, ReadsAfterStop, ReadsFrom, Refusal}
use Rattle.pmb_transaction.specs.Reading.{RefusalData, RefusedAt, TruncatedAt, to_first_stop, to_the_end}
use Rattle.pmb_reader.specs.declared.reader.Reader.{Reader}
use Rattle.pmb_reader.specs.declared.reader.Took.TheVariants as took
use Rattle.pmb_reader.specs.declared.refusal.Refusal as answered
use Rattle.pmb_reader.specs.Refusal.{refusal_data}
use Rattle.pmb_reader.specs.Reader.{Standing, Open, Held, Passing, ReaderStandsAt, ReaderFinishes, ReaderTakes}
use Rattle.pmb_reader.specs.Reader.{behind_passed, last_read}
use Rattle.pmb_reader.specs.Feed.{AnswersAgain, EndsPacket, Leads, ReaderNeedsMore, ReaderRefuses}
use Rattle.pmb_reader.specs.Reading.{AnyEvent, Due, HasRead, HeldEvent, IsDue, IsDueAt, IsNotHeld, PassedEvent, Remains}
use Rattle.pmb_reader.proofs.Stopless.{in_tail, no_stop_in_none, none_ends}

-- ---- what is passed over

-- An event that is no STOP is passed over, with what is passed over after it.
abbrev pub OthersPass : Type 0
OthersPass =
    (event : Event) (events passed left : List Event) → event ≢ Stop → PassedOver events passed left
    → PassedOver (event ∷ events) (event ∷ passed) left

module _ (profile : List DeviceParts) (outcomes : List Outcome) where
  after_stop : (n : ℕ) (more : List Event) → ReadsFrom profile (n + 1) more outcomes
      → ReadsAfterStop profile n (Stop ∷ more) outcomes
  after_stop n more reads =
      (Stop ∷ [], more, to_first_stop refl (record { front = []; no_stop = no_stop_in_none; split = refl }), reads)

  module _ (others_pass : OthersPass) where
    after_one : (n : ℕ) (event : Event) (more : List Event) → event ≢ Stop
        → ReadsAfterStop profile (n + 1) more outcomes
        → ReadsAfterStop profile n (event ∷ more) outcomes
    after_one n event more other w =
        let count : n + 1 + length w.0 ≡ n + length (event ∷ w.0) = omega arith in (
          event ∷ w.0,
          w.1,
          others_pass event more w.0 w.1 other w.2,
          subst (λ (m : ℕ). ReadsFrom profile m w.1 outcomes) count w.3,
        )

    -- events without a STOP
    after_piece : (n : ℕ) (piece more : List Event) → HasNoStop piece
        → ReadsAfterStop profile (n + length piece) more outcomes
        → ReadsAfterStop profile n (piece ++ more) outcomes
    after_piece n [] more none reads =
        let count : n + 0 ≡ n = omega arith in
        subst (λ (m : ℕ). ReadsAfterStop profile m more outcomes) count reads
    after_piece n (event ∷ piece) more none reads =
        let count : n + length (event ∷ piece) ≡ n + 1 + length piece = omega arith in
        after_one n event (piece ++ more) (λ is. none [] piece (ap (λ (e : Event). e ∷ piece) is))
        (
        after_piece (n + 1) piece more (in_tail event piece none)
        (subst (λ (m : ℕ). ReadsAfterStop profile m more outcomes) count reads)
        )

-- ---- accounts

module _ (profile : List DeviceParts) where
  -- what a reader has read that stands at a place
  pub record Account (events : List Event) (due : Due) (outcomes : List Outcome) (standing : Standing) : Type 0 where
    -- what is due fits the place: no event, the one that is held, or the one after it
    pub at : IsDueAt due standing
    -- what follows reads on, so all of it reads as both
    pub reads : (more : List Event) (later : List Outcome) → IsDue due more → Remains profile standing more later
        → ReadsFrom profile 0 (events ++ more) (outcomes ++ later)

  pub account_of : (reader : Reader) (events : List Event) (due : Due) (outcomes : List Outcome)
      → (read : HasRead profile reader events due outcomes)
      → Account events due outcomes read.standing
  account_of reader events due outcomes read = record { at = read.at; reads = read.reads }

  pub has_read : (reader : Reader) (events : List Event) (due : Due) (outcomes : List Outcome) (standing : Standing)
      → ReaderStandsAt profile reader standing
      → Account events due outcomes standing → HasRead profile reader events due outcomes
  has_read reader events due outcomes standing stands account =
      record { standing = standing; stands = stands; at = account.at; reads = account.reads }

  -- more events, and more outcomes
  further : (events piece more : List Event) (outcomes : List Outcome)
      → ReadsFrom profile 0 (events ++ (piece ++ more)) outcomes
      → ReadsFrom profile 0 ((events ++ piece) ++ more) outcomes
  further events piece more outcomes reads = subst (λ (es : List Event). ReadsFrom profile 0 es outcomes)
      (sym (append_assoc events piece more)) reads

  with_one : (events : List Event) (outcomes : List Outcome) (one : Outcome) (later : List Outcome)
      → ReadsFrom profile 0 events (outcomes ++ one ∷ later)
      → ReadsFrom profile 0 events ((outcomes ++ one ∷ []) ++ later)
  with_one events outcomes one later reads =
      subst (ReadsFrom profile 0 events) (sym (append_assoc outcomes (one ∷ []) later)) reads

  -- ---- one event

  -- what is due goes on
  due_in_front : (due : Due) (piece more : List Event) → IsDue due piece → IsDue due (piece ++ more)
  due_in_front AnyEvent piece more is = tt
  due_in_front (HeldEvent event) piece more is = (is.0 ++ more, ap (λ (es : List Event). es ++ more) is.1)
  due_in_front (PassedEvent event) piece more is = (is.0 ++ more, ap (λ (es : List Event). es ++ more) is.1)

  passed_at : (n : ℕ) (event : Event) → IsDueAt AnyEvent (behind_passed n event)
  passed_at n Start = tt
  passed_at n (Byte b) = tt
  passed_at n Ack = tt
  passed_at n Nack = tt
  passed_at n Stop = tt

  passed_remains : OthersPass → (n : ℕ) (event : Event) (more : List Event) (later : List Outcome)
      → Remains profile (behind_passed n event) more later
      → Remains profile (Passing n) (event ∷ more) later
  passed_remains others_pass n Start more later remains = after_one profile later others_pass n Start more
      (λ is. cc is) remains
  passed_remains others_pass n (Byte b) more later remains = after_one profile later others_pass n (Byte b) more
      (λ is. cc is) remains
  passed_remains others_pass n Ack more later remains = after_one profile later others_pass n Ack more
      (λ is. cc is) remains
  passed_remains others_pass n Nack more later remains = after_one profile later others_pass n Nack more
      (λ is. cc is) remains
  passed_remains others_pass n Stop more later remains = after_stop profile later n more remains

  open_goes_on : (events : List Event) (due : Due) (outcomes : List Outcome) (n : ℕ) (front piece : List Event)
      → Account events due outcomes (Open n front)
      → Account (events ++ piece) AnyEvent outcomes (Open n (front ++ piece))
  open_goes_on events AnyEvent outcomes n front piece account = record {
    at = tt;
    reads =
        λ more later due remains.
        further events piece more (outcomes ++ later)
        (
        account.reads (piece ++ more) later tt
        (subst (λ (es : List Event). ReadsFrom profile n es later) (append_assoc front piece more) remains)
        );
  }
  open_goes_on events (HeldEvent first) outcomes n front piece account = absurd account.at
  open_goes_on events (PassedEvent first) outcomes n front piece account = absurd account.at

  passing_goes_on : OthersPass → (events : List Event) (due : Due) (outcomes : List Outcome) (n : ℕ) (event : Event)
      → IsDue due (event ∷ [])
      → Account events due outcomes (Passing n)
      → Account (events ++ event ∷ []) AnyEvent outcomes (behind_passed n event)
  passing_goes_on others_pass events due outcomes n event is account = record {
    at = passed_at n event;
    reads =
        λ more later any remains.
        further events (event ∷ []) more (outcomes ++ later)
        (
        account.reads (event ∷ more) later (due_in_front due (event ∷ []) more is)
        (passed_remains others_pass n event more later remains)
        );
  }

  goes_on_at : OthersPass → (after : Reader) (events : List Event) (due : Due) (outcomes : List Outcome) (event : Event)
      (standing : Standing)
      → IsDue due (event ∷ []) → Account events due outcomes standing
      → ReaderTakes profile standing event took.Continues after
      → HasRead profile after (events ++ event ∷ []) AnyEvent outcomes
  goes_on_at others_pass after events due outcomes event (Open n front) is account takes =
      has_read after (events ++ event ∷ []) AnyEvent outcomes (Open n (front ++ event ∷ [])) takes.1
      (open_goes_on events due outcomes n front (event ∷ []) account)
  goes_on_at others_pass after events due outcomes event (Held n refusal) is account takes = absurd takes
  goes_on_at others_pass after events due outcomes event (Passing n) is account takes =
      has_read after (events ++ event ∷ []) AnyEvent outcomes (behind_passed n event) takes
      (passing_goes_on others_pass events due outcomes n event is account)

  pub goes_on : OthersPass → (before after : Reader) (events : List Event) (due : Due) (outcomes : List Outcome)
      (event : Event)
      → HasRead profile before events due outcomes → IsDue due (event ∷ [])
      → ((standing : Standing) → ReaderStandsAt profile before standing
      → ReaderTakes profile standing event took.Continues after)
      → HasRead profile after (events ++ event ∷ []) AnyEvent outcomes
  goes_on others_pass before after events due outcomes event read is takes =
      goes_on_at others_pass after events due outcomes event read.standing is
      (account_of before events due outcomes read) (takes read.standing read.stands)

  -- a packet
  accepts : (events : List Event) (due : Due) (outcomes : List Outcome) (n : ℕ) (front : List Event) (event : Event)
      (t : TransactionData)
      → Packet profile t (front ++ event ∷ []) → Account events due outcomes (Open n front)
      → Account (events ++ event ∷ []) AnyEvent (outcomes ++ Accepted t ∷ []) (Open (n + length front + 1) [])
  accepts events AnyEvent outcomes n front event t packet account =
      -- the packet is counted, and the reader is between packets after it
      let count : n + length front + 1 ≡ n + length (front ++ event ∷ []) =
      omega (arith, length-append front (event ∷ [])) in record {
        at = tt;
        -- in front of what follows it is read as accepted
        reads =
            λ more later any remains.
            with_one ((events ++ event ∷ []) ++ more) outcomes (Accepted t) later
            (
            further events (event ∷ []) more (outcomes ++ Accepted t ∷ later)
            (
            account.reads (event ∷ more) (Accepted t ∷ later) tt (
              front ++ event ∷ [],
              more,
              sym (append_assoc front (event ∷ []) more),
              packet,
              subst (λ (m : ℕ). ReadsFrom profile m more later) count remains,
            )
            )
            );
      }
  -- nothing else can be due there
  accepts events (HeldEvent first) outcomes n front event t packet account = absurd account.at
  accepts events (PassedEvent first) outcomes n front event t packet account = absurd account.at

  accepts_at : (after : Reader) (events : List Event) (due : Due) (outcomes : List Outcome) (event : Event)
      (standing : Standing)
      → Account events due outcomes standing → ReaderTakes profile standing event took.Packet after
      → HasRead profile after (events ++ event ∷ []) AnyEvent (outcomes ++ Accepted (last_read after) ∷ [])
  accepts_at after events due outcomes event (Open n front) account takes =
      has_read after (events ++ event ∷ []) AnyEvent (outcomes ++ Accepted (last_read after) ∷ [])
      (Open (n + length front + 1) []) takes.1
      (accepts events due outcomes n front event (last_read after) takes.0 account)
  accepts_at after events due outcomes event (Held n refusal) account takes = absurd takes
  accepts_at after events due outcomes event (Passing n) account takes = absurd takes

  pub is_accepted : (before after : Reader) (events : List Event) (due : Due) (outcomes : List Outcome) (event : Event)
      → HasRead profile before events due outcomes
      → ((standing : Standing) → ReaderStandsAt profile before standing
      → ReaderTakes profile standing event took.Packet after)
      → HasRead profile after (events ++ event ∷ []) AnyEvent (outcomes ++ Accepted (last_read after) ∷ [])
  is_accepted before after events due outcomes event read takes =
      accepts_at after events due outcomes event read.standing (account_of before events due outcomes read)
      (takes read.standing read.stands)

  -- a refusal
  refuses : (events : List Event) (due : Due) (outcomes : List Outcome) (n : ℕ) (front : List Event) (event : Event)
      (refusal : RefusalData)
      → RefusedAt profile n front event refusal → Account events due outcomes (Open n front)
      → Account events (HeldEvent event) (outcomes ++ Refusal refusal ∷ []) (Held (n + length front) refusal)
  refuses events AnyEvent outcomes n front event refusal refused account = record {
    -- the refusal is held, and its event is due
    at = tt;
    reads =
        λ more later is remains.
        -- what is passed over begins with that event
        let again : ReadsAfterStop profile (n + length front) (event ∷ is.0) later =
        subst (λ (es : List Event). ReadsAfterStop profile (n + length front) es later) is.1 remains in
        with_one (events ++ more) outcomes (Refusal refusal) later
        (
        -- so the refusal is read, and then what is left
        account.reads more (Refusal refusal ∷ later) tt
        (inl (
          front,
          event,
          is.0,
          ap (λ (es : List Event). front ++ es) is.1,
          refused,
          again.0,
          again.1,
          again.2,
          again.3,
        ))
        );
  }
  -- nothing else can be due there
  refuses events (HeldEvent first) outcomes n front event refusal refused account = absurd account.at
  refuses events (PassedEvent first) outcomes n front event refusal refused account = absurd account.at

  refuses_at : (after : Reader) (events : List Event) (outcomes : List Outcome) (event : Event)
      (refusal : answered.Refusal) (standing : Standing)
      → Account events AnyEvent outcomes standing → ReaderTakes profile standing event (took.Refused refusal) after
      → HasRead profile after events (HeldEvent event) (outcomes ++ Refusal (refusal_data refusal) ∷ [])
  refuses_at after events outcomes event refusal (Open n front) account takes =
      has_read after events (HeldEvent event) (outcomes ++ Refusal (refusal_data refusal) ∷ [])
      (Held (n + length front) (refusal_data refusal)) takes.1
      (refuses events AnyEvent outcomes n front event (refusal_data refusal) takes.0 account)
  refuses_at after events outcomes event refusal (Held n first) account takes = absurd account.at
  refuses_at after events outcomes event refusal (Passing n) account takes = absurd takes

  pub is_refused : (before after : Reader) (events : List Event) (outcomes : List Outcome) (event : Event)
      (refusal : answered.Refusal)
      → HasRead profile before events AnyEvent outcomes
      → ((standing : Standing) → ReaderStandsAt profile before standing
      → ReaderTakes profile standing event (took.Refused refusal) after)
      → HasRead profile after events (HeldEvent event) (outcomes ++ Refusal (refusal_data refusal) ∷ [])
  is_refused before after events outcomes event refusal read takes =
      refuses_at after events outcomes event refusal read.standing (account_of before events AnyEvent outcomes read)
      (takes read.standing read.stands)

  -- ---- a piece

  -- what is due stands at the front of events that end a packet or are refused
  due_first : (due : Due) (standing : Standing) (front : List Event) (event : Event) (rest : List Event) (n : ℕ)
      (events : List Event)
      → IsDueAt due standing → IsDue due (front ++ event ∷ rest) → Leads standing front (Open n events)
      → IsDue due front
  due_first AnyEvent standing front event rest n events at is leads = tt
  due_first (HeldEvent first) (Open m before) front event rest n events at is leads = absurd at
  due_first (HeldEvent first) (Held m refusal) front event rest n events at is leads = absurd (cc (leads.1))
  due_first (HeldEvent first) (Passing m) front event rest n events at is leads = absurd at
  due_first (PassedEvent first) (Open m before) front event rest n events at is leads = absurd at
  due_first (PassedEvent first) (Held m refusal) front event rest n events at is leads = absurd at
  due_first (PassedEvent first) (Passing m) [] event rest n events at is (inl leads) = absurd (cc (leads.1))
  due_first (PassedEvent first) (Passing m) [] event rest n events at is (inr leads) =
      absurd (none_ends leads.0 leads.1 leads.2 leads.3)
  due_first (PassedEvent first) (Passing m) (e ∷ front) event rest n events at is leads =
      let same : e ≡ first = cc (is.1) in
      (front, ap (λ (x : Event). x ∷ front) same)

  -- where a piece leads
  passed_piece : OthersPass → (events : List Event) (due : Due) (outcomes : List Outcome) (n : ℕ) (piece : List Event)
      → HasNoStop piece → IsDue due piece
      → Account events due outcomes (Passing n)
      → Account (events ++ piece) AnyEvent outcomes (Passing (n + length piece))
  passed_piece others_pass events due outcomes n piece none is account = record {
    at = tt;
    reads =
        λ more later any remains.
        further events piece more (outcomes ++ later)
        (
        account.reads (piece ++ more) later (due_in_front due piece more is)
        (after_piece profile later others_pass n piece more none remains)
        );
  }

  passed_to_stop : (events : List Event) (due : Due) (outcomes : List Outcome) (n : ℕ) (piece passed rest : List Event)
      → piece ≡ passed ++ rest
      → EndsAtFirstStop passed → IsDue due piece → Account events due outcomes (Passing n)
      → Account (events ++ piece) AnyEvent outcomes (Open (n + length passed) rest)
  passed_to_stop events due outcomes n piece passed rest split ends is account = record {
    at = tt;
    reads =
        λ more later any remains.
        further events piece more (outcomes ++ later)
        (
        account.reads (piece ++ more) later (due_in_front due piece more is) (
          passed,
          rest ++ more,
          to_first_stop (ap (λ (es : List Event). es ++ more) split ∙ append_assoc passed rest more) ends,
          remains,
        )
        );
  }

  led : OthersPass → (events : List Event) (due : Due) (outcomes : List Outcome) (standing : Standing)
      (piece : List Event) (behind : Standing)
      → ((n : ℕ) (refusal : RefusalData) → standing ≡ Held n refusal → ⊥) → IsDue due piece
      → Leads standing piece behind
      → Account events due outcomes standing → Account (events ++ piece) AnyEvent outcomes behind
  led others_pass events due outcomes (Open n front) piece behind held is leads account =
      subst (Account (events ++ piece) AnyEvent outcomes) (sym leads)
      (open_goes_on events due outcomes n front piece account)
  led others_pass events due outcomes (Held n refusal) piece behind held is leads account = absurd (held n refusal refl)
  led others_pass events due outcomes (Passing n) piece behind held is (inl leads) account =
      subst (Account (events ++ piece) AnyEvent outcomes) (sym leads.1)
      (passed_piece others_pass events due outcomes n piece leads.0 is account)
  led others_pass events due outcomes (Passing n) piece behind held is (inr leads) account =
      subst (Account (events ++ piece) AnyEvent outcomes) (sym leads.4)
      (passed_to_stop events due outcomes n piece leads.0 leads.1 leads.2 leads.3 is account)

  -- from a refusal that is held no piece leads on
  no_leads : (standing : Standing) (piece : List Event) (n : ℕ) (events : List Event)
      → Leads standing piece (Open n events) → (m : ℕ) (refusal : RefusalData)
      → standing ≡ Held m refusal → ⊥
  no_leads (Open k front) piece n events leads m refusal is = cc is
  no_leads (Held k first) piece n events leads m refusal is = cc (leads.1)
  no_leads (Passing k) piece n events leads m refusal is = cc is

  pub piece_goes_on : OthersPass → (before after : Reader) (events : List Event) (due : Due) (outcomes : List Outcome)
      (piece : List Event) (used : ℕ)
      → HasRead profile before events due outcomes → IsDue due piece
      → ((standing : Standing) → ReaderStandsAt profile before standing
      → ReaderNeedsMore profile standing piece used after)
      → HasRead profile after (events ++ piece) AnyEvent outcomes
  piece_goes_on others_pass before after events due outcomes piece used read is feeds =
      let w = feeds read.standing read.stands in
      has_read after (events ++ piece) AnyEvent outcomes w.behind w.stands
      (led others_pass events due outcomes read.standing piece w.behind w.not_held is w.leads
      (account_of before events due outcomes read))

  -- no events lead nowhere
  led_nowhere : (standing behind : Standing) → Leads standing [] behind → behind ≡ standing
  led_nowhere (Open n front) behind leads = leads ∙ ap (λ (es : List Event). Open n es) (append-nil front)
  led_nowhere (Held n refusal) behind leads = leads.1
  led_nowhere (Passing n) behind (inl leads) =
      let same : n + 0 ≡ n = omega arith in
      leads.1 ∙ ap (λ (m : ℕ). Passing m) same
  led_nowhere (Passing n) behind (inr leads) = absurd (none_ends leads.0 leads.1 leads.2 leads.3)

  pub none_is_read : (before after : Reader) (events : List Event) (due : Due) (outcomes : List Outcome) (used : ℕ)
      → HasRead profile before events due outcomes
      → ((standing : Standing) → ReaderStandsAt profile before standing
      → ReaderNeedsMore profile standing [] used after)
      → HasRead profile after events due outcomes
  none_is_read before after events due outcomes used read feeds =
      let w = feeds read.standing read.stands in
      has_read after events due outcomes read.standing
      (subst (ReaderStandsAt profile after) (led_nowhere read.standing w.behind w.leads) w.stands)
      (account_of before events due outcomes read)

  -- the events used, up to and including the one that ends a packet
  used_with : (piece front : List Event) (event : Event) (rest : List Event) (used : ℕ) → piece ≡ front ++ event ∷ rest
      → used ≡ length front + 1
      → front ++ event ∷ [] ≡ take used piece
  used_with piece front event rest used split up_to =
      let long : length (front ++ event ∷ []) ≡ used = omega (arith, length-append front (event ∷ []), up_to) in
      let whole : piece ≡ (front ++ event ∷ []) ++ rest = split ∙ sym (append_assoc front (event ∷ []) rest) in
      sym (ap (take used) whole ∙ take_at (front ++ event ∷ []) rest used long)

  pub piece_is_accepted : OthersPass → (before after : Reader) (events : List Event) (due : Due)
      (outcomes : List Outcome) (piece : List Event) (used : ℕ)
      → (t : TransactionData) → HasRead profile before events due outcomes → IsDue due piece
      → ((standing : Standing) → ReaderStandsAt profile before standing
      → EndsPacket profile standing piece used after t)
      → HasRead profile after (events ++ take used piece) AnyEvent (outcomes ++ Accepted t ∷ [])
  piece_is_accepted others_pass before after events due outcomes piece used t read is feeds =
      let w = feeds read.standing read.stands in
      let due_front =
      due_first due read.standing w.front w.event w.rest w.n w.events read.at (subst (IsDue due) w.split is) w.leads in
      let to_packet =
      led others_pass events due outcomes read.standing w.front (Open w.n w.events)
      (no_leads read.standing w.front w.n w.events w.leads) due_front w.leads
      (account_of before events due outcomes read) in
      let with_packet = accepts (events ++ w.front) AnyEvent outcomes w.n w.events w.event t w.packet to_packet in
      let same : (events ++ w.front) ++ w.event ∷ [] ≡ events ++ take used piece =
      append_assoc events w.front (w.event ∷ [])
      ∙ ap (λ (es : List Event). events ++ es) (used_with piece w.front w.event w.rest used w.split w.up_to) in
      subst (λ (es : List Event). HasRead profile after es AnyEvent (outcomes ++ Accepted t ∷ [])) same
      (
      has_read after ((events ++ w.front) ++ w.event ∷ []) AnyEvent (outcomes ++ Accepted t ∷ [])
      (Open (w.n + length w.events + 1) []) w.stands
      with_packet
      )

  held_nowhere : (due : Due) (n : ℕ) (refusal : RefusalData) → IsNotHeld due → IsDueAt due (Held n refusal) → ⊥
  held_nowhere AnyEvent n refusal free at = at
  held_nowhere (HeldEvent event) n refusal free at = free
  held_nowhere (PassedEvent event) n refusal free at = at

  -- a piece whose next event is refused
  abbrev pub Stopped : Reader → List Event → List Outcome → List Event → ℕ → RefusalData → Type 0
  Stopped after events outcomes piece used refusal =
      (event : Event) × (rest : List Event) × (piece ≡ take used piece ++ event ∷ rest)
      × HasRead profile after (events ++ take used piece) (HeldEvent event) (outcomes ++ Refusal refusal ∷ [])

  refused_in : OthersPass → (before after : Reader) (events : List Event) (due : Due) (outcomes : List Outcome)
      (piece : List Event) (used : ℕ)
      → (refusal : RefusalData) → (read : HasRead profile before events due outcomes) → IsNotHeld due → IsDue due piece
      → ReaderRefuses profile read.standing piece used after refusal
      ⊎ AnswersAgain profile read.standing used after refusal
      → Stopped after events outcomes piece used refusal
  refused_in others_pass before after events due outcomes piece used refusal read free is (inl w) =
      -- up to the refused event the piece goes on
      let due_front =
      due_first due read.standing w.front w.event w.rest w.n w.events read.at (subst (IsDue due) w.split is) w.leads in
      let to_event =
      led others_pass events due outcomes read.standing w.front (Open w.n w.events)
      (no_leads read.standing w.front w.n w.events w.leads) due_front w.leads
      (account_of before events due outcomes read) in
      -- there it is refused,
      let account = refuses (events ++ w.front) AnyEvent outcomes w.n w.events w.event refusal w.refused to_event in
      -- and the events before it are those that were used
      let front : w.front ≡ take used piece = sym
      (ap (take used) w.split ∙ take_at w.front (w.event ∷ w.rest) used (sym w.up_to)) in
      let read_so = has_read after (events ++ w.front) (HeldEvent w.event) (outcomes ++ Refusal refusal ∷ [])
      (Held (w.n + length w.events) refusal) w.stands account in (
        w.event,
        w.rest,
        w.split ∙ ap (λ (es : List Event). es ++ w.event ∷ w.rest) front,
        subst (λ (es : List Event). HasRead profile after (events ++ es) (HeldEvent w.event)
            (outcomes ++ Refusal refusal ∷ [])) front read_so,
      )
  -- a refusal that is held has its event due
  refused_in others_pass before after events due outcomes piece used refusal read free is (inr w) =
      absurd (held_nowhere due w.n refusal free (subst (IsDueAt due) w.held read.at))

  pub piece_is_refused : OthersPass → (before after : Reader) (events : List Event) (due : Due)
      (outcomes : List Outcome) (piece : List Event) (used : ℕ)
      → (refusal : RefusalData) → HasRead profile before events due outcomes → IsNotHeld due → IsDue due piece
      → ((standing : Standing) → ReaderStandsAt profile before standing
      → ReaderRefuses profile standing piece used after refusal ⊎ AnswersAgain profile standing used after refusal)
      → Stopped after events outcomes piece used refusal
  piece_is_refused others_pass before after events due outcomes piece used refusal read free is feeds =
      refused_in others_pass before after events due outcomes piece used refusal read free is
      (feeds read.standing read.stands)

  -- ---- the end

  whole_reading : (events : List Event) (outcomes : List Outcome) → ReadsFrom profile 0 (events ++ []) outcomes
      → ReadsFrom profile 0 events outcomes
  whole_reading events outcomes reads = subst (λ (es : List Event). ReadsFrom profile 0 es outcomes)
      (append-nil events) reads

  ends_at : (events : List Event) (outcomes : List Outcome) (standing : Standing)
      → Account events AnyEvent outcomes standing
      → ReaderFinishes profile standing (Ok tt) → ReadsFrom profile 0 events outcomes
  ends_at events outcomes (Open n front) account finishes =
      whole_reading events outcomes
      (subst (ReadsFrom profile 0 (events ++ [])) (append-nil outcomes)
      (account.reads [] [] tt (append-nil front ∙ finishes)))
  ends_at events outcomes (Held n refusal) account finishes = absurd finishes
  ends_at events outcomes (Passing n) account finishes =
      whole_reading events outcomes
      (subst (ReadsFrom profile 0 (events ++ [])) (append-nil outcomes)
      (account.reads [] [] tt ([], [], to_the_end refl no_stop_in_none refl, refl)))

  pub all_is_read : (reader : Reader) (events : List Event) (outcomes : List Outcome)
      → HasRead profile reader events AnyEvent outcomes
      → ((standing : Standing) → ReaderStandsAt profile reader standing → ReaderFinishes profile standing (Ok tt))
      → ReadsFrom profile 0 events outcomes
  all_is_read reader events outcomes read finishes =
      ends_at events outcomes read.standing (account_of reader events AnyEvent outcomes read)
      (finishes read.standing read.stands)

  truncated_at : (events : List Event) (outcomes : List Outcome) (refusal : answered.Refusal) (standing : Standing)
      → Account events AnyEvent outcomes standing → ReaderFinishes profile standing (Err refusal)
      → ReadsFrom profile 0 events (outcomes ++ Refusal (refusal_data refusal) ∷ [])
  truncated_at events outcomes refusal (Open n front) account finishes =
      whole_reading events (outcomes ++ Refusal (refusal_data refusal) ∷ [])
      (
      account.reads [] (Refusal (refusal_data refusal) ∷ []) tt
      (inr (
        subst (λ (es : List Event). TruncatedAt profile n es (refusal_data refusal))
            (sym (append-nil front)) finishes,
        refl,
      ))
      )
  truncated_at events outcomes refusal (Held n first) account finishes = absurd account.at
  truncated_at events outcomes refusal (Passing n) account finishes = absurd finishes

  pub is_truncated : (reader : Reader) (events : List Event) (outcomes : List Outcome) (refusal : answered.Refusal)
      → HasRead profile reader events AnyEvent outcomes
      → ((standing : Standing) → ReaderStandsAt profile reader standing → ReaderFinishes profile standing (Err refusal))
      → ReadsFrom profile 0 events (outcomes ++ Refusal (refusal_data refusal) ∷ [])
  is_truncated reader events outcomes refusal read finishes =
      truncated_at events outcomes refusal read.standing (account_of reader events AnyEvent outcomes read)
      (finishes read.standing read.stands)

-- ---- captures of transactions

-- no refusal ends what is accepted
no_refusal : (ts : List TransactionData) (outcomes : List Outcome) (refusal : RefusalData)
    → outcomes ++ Refusal refusal ∷ [] ≡ map Accepted ts → ⊥
no_refusal [] [] refusal same = cc same
no_refusal [] (one ∷ outcomes) refusal same = cc same
no_refusal (t ∷ ts) [] refusal same = cc same
no_refusal (t ∷ ts) (one ∷ outcomes) refusal same =
    let rest : outcomes ++ Refusal refusal ∷ [] ≡ map Accepted ts = cc same in
    no_refusal ts outcomes refusal rest

module _ (profile : List DeviceParts) (reads_as : (ts : List TransactionData) (events : List Event)
    (outcomes : List Outcome) → Capture profile ts events → ReadsFrom profile 0 events outcomes
    → outcomes ≡ map Accepted ts) where
  pub read_back : (ts : List TransactionData) (reader : Reader) (events : List Event) (outcomes : List Outcome)
      (end : Result Unit answered.Refusal)
      → Capture profile ts events → HasRead profile reader events AnyEvent outcomes
      → ((standing : Standing) → ReaderStandsAt profile reader standing → ReaderFinishes profile standing end)
      → (outcomes ≡ map Accepted ts) × (end ≡ Ok tt)
  read_back ts reader events outcomes (Ok done) capture read finishes =
      (reads_as ts events outcomes capture (all_is_read profile reader events outcomes read finishes), refl)
  read_back ts reader events outcomes (Err refusal) capture read finishes =
      let all = outcomes ++ Refusal (refusal_data refusal) ∷ [] in
      absurd
      (
      no_refusal ts outcomes (refusal_data refusal)
      (reads_as ts events all capture (is_truncated profile reader events outcomes refusal read finishes))
      )
