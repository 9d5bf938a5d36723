-- A reading goes from STOP to STOP: what is accepted or refused takes the events up to and
-- including the first one. For the law `transactions_end_at_one_stop`, and through `Runs` for
-- `Bus::signal`. Events are cut at their first STOP in one way; outcome by outcome that cut leaves
-- fewer events, until the last transaction takes those up to the last STOP.
use Rattle.std.proofs.Common.{◌≡◌, ◌≢◌, ℕ, ◌+◌, ◌⊎◌, inl, inr, List, [], ◌∷◌, ◌++◌, length, refl, sym, ap, subst, ◌∙◌}
use Rattle.std.proofs.Common.{append_assoc}
use Rattle.pmb_bus.specs.declared.event.Event.{Event}
use Rattle.pmb_bus.specs.declared.event.Event.TheVariants.{Stop}
use Rattle.pmb_command.specs.Parts.{DeviceParts}
use Rattle.pmb_transaction.specs.Capture.{EndsAtFirstStop, HasNoStop}
use Rattle.pmb_transaction.specs.Packet.{Packet}
use Rattle.pmb_transaction.specs.Reading.{Accepted, IsUnderWay, Outcome, ReadsFrom, Refusal, to_first_stop, to_the_end}
use Rattle.pmb_transaction.specs.Transaction.{TransactionData}
use Rattle.pmb_devices.specs.Runs.{AreStopped}

-- ---- events without a STOP

-- no events hold none
pub no_stop_in_none : HasNoStop []
no_stop_in_none [] after split = cc split
no_stop_in_none (e ∷ before) after split = cc split

-- nor do those after an event that is none
pub no_stop_behind : (event : Event) (events : List Event) → event ≢ Stop → HasNoStop events
    → HasNoStop (event ∷ events)
no_stop_behind event events other none [] after split = other (cc split)
no_stop_behind event events other none (e ∷ before) after split = none before after (cc split)

-- and there are some where there is one
pub not_none : (front : List Event) (event : Event) (rest : List Event) → [] ≡ front ++ event ∷ rest → ⊥
not_none [] event rest split = cc split
not_none (e ∷ front) event rest split = cc split

-- the first of events without one is none
pub first_is_other : (event : Event) (events : List Event) → HasNoStop (event ∷ events) → event ≢ Stop
first_is_other event events none is = none [] events (ap (λ (e : Event). e ∷ events) is)

-- nor do those after the first hold one
pub no_stop_in_tail : (event : Event) (events : List Event) → HasNoStop (event ∷ events) → HasNoStop events
no_stop_in_tail event events none before after split =
    none (event ∷ before) after (ap (λ (es : List Event). event ∷ es) split)

-- two lists end to end
no_stop-append : (a b : List Event) → HasNoStop a → HasNoStop b → HasNoStop (a ++ b)
no_stop-append [] b none nor = nor
no_stop-append (e ∷ a) b none nor =
    no_stop_behind e (a ++ b) (first_is_other e a none) (no_stop-append a b (no_stop_in_tail e a none) nor)

-- there is an outcome before none
nothing_behind : (outcomes : List Outcome) (last : Outcome) → outcomes ++ last ∷ [] ≡ [] → ⊥
nothing_behind [] last same = cc same
nothing_behind (o ∷ outcomes) last same = cc same

-- ---- up to the first STOP

-- Events can be cut at the first STOP in one way.
pub same_cut : (a b x y : List Event) → HasNoStop a → HasNoStop b → a ++ Stop ∷ x ≡ b ++ Stop ∷ y → (a ≡ b) × (x ≡ y)
same_cut [] [] x y none nor same = (refl, cc same)
same_cut [] (e ∷ b) x y none nor same = absurd (first_is_other e b nor (cc same))
same_cut (e ∷ a) [] x y none nor same = absurd (first_is_other e a none (cc same))
same_cut (d ∷ a) (e ∷ b) x y none nor same =
    let rest = same_cut a b x y (no_stop_in_tail d a none) (no_stop_in_tail e b nor) (cc same) in
    let first : d ≡ e = cc same in
    let tails : a ≡ b = rest.0 in
    (cc (first, tails), rest.1)

-- Events that end with a STOP, and others after them that end with one: what is left of them after
-- the first STOP.
record Left (since rest : List Event) : Type 0 where
  -- what is left before the last stretch,
  before : List Event
  -- which ends with a STOP, or is nothing,
  stopped : AreStopped before
  -- and the last stretch after it
  split : rest ≡ before ++ (since ++ Stop ∷ [])

-- it has a STOP in front that the others end with
one_more_left : (since : List Event) (front rest : List Event) → rest ≡ front ++ Stop ∷ (since ++ Stop ∷ [])
    → Left since rest
one_more_left since front rest split = record {
  before = front ++ Stop ∷ [];
  stopped = inr (record { front = front; split = refl });
  split = split ∙ sym (append_assoc front (Stop ∷ []) (since ++ Stop ∷ []));
}

-- where the first STOP stands in those before
left_behind : (since a front rest : List Event) → HasNoStop a → a ++ Stop ∷ rest ≡ front ++ Stop ∷ (since ++ Stop ∷ [])
    → Left since rest
left_behind since [] [] rest none same = record { before = []; stopped = inl refl; split = cc same }
left_behind since [] (e ∷ front) rest none same = one_more_left since front rest (cc same)
left_behind since (e ∷ a) [] rest none same = absurd (first_is_other e a none (cc same))
left_behind since (d ∷ a) (e ∷ front) rest none same = left_behind since a front rest (no_stop_in_tail d a none)
    (cc same)

-- The first STOP is the last one, or events are left that end so after it.
behind_first : (since a before rest : List Event) → HasNoStop a → AreStopped before → HasNoStop since
    → a ++ Stop ∷ rest ≡ before ++ (since ++ Stop ∷ []) → ((a ≡ since) × (rest ≡ [])) ⊎ Left since rest
behind_first since a before rest none (inl empty) nor same =
    inl (same_cut a since rest [] none nor (same ∙ ap (λ (es : List Event). es ++ (since ++ Stop ∷ [])) empty))
behind_first since a before rest none (inr w) nor same =
    inr
    (
    left_behind since a w.front rest none
    (
    same
    ∙ ap (λ (es : List Event). es ++ (since ++ Stop ∷ [])) w.split
    ∙ append_assoc w.front (Stop ∷ []) (since ++ Stop ∷ [])
    )
    )

module _ (profile : List DeviceParts) where
  -- ---- what each outcome takes

  -- A packet before others goes up to the first STOP.
  pub record UpToStop (t : TransactionData) (events rest : List Event) : Type 0 where
    -- the events up to STOP
    pub front : List Event
    pub no_stop : HasNoStop front
    pub packet : Packet profile t (front ++ Stop ∷ [])
    pub split : events ≡ front ++ Stop ∷ rest

  -- no transaction is accepted before no events
  pub not_in_none : (t : TransactionData) (rest : List Event) → UpToStop t [] rest → ⊥
  not_in_none t rest taken = no_stop_in_none taken.front rest taken.split

  module _ (stops : (t : TransactionData) (events : List Event) → Packet profile t events
      → EndsAtFirstStop events) where
    -- it ends with it, as a packet does
    pub up_to_stop : (t : TransactionData) (events front rest : List Event) → events ≡ front ++ rest
        → Packet profile t front → UpToStop t events rest
    up_to_stop t events front rest split packet =
        let ends = stops t front packet in
        record {
          front = ends.front;
          no_stop = ends.no_stop;
          packet = subst (Packet profile t) ends.split packet;
          split = split ∙ ap (λ (es : List Event). es ++ rest) ends.split ∙ append_assoc ends.front (Stop ∷ []) rest;
        }

    -- No transaction is read last of no events.
    none_is_read : (n : ℕ) (outcomes : List Outcome) (t : TransactionData)
        → ReadsFrom profile n [] (outcomes ++ Accepted t ∷ []) → ⊥
    none_is_read n [] t reads = not_in_none t reads.1 (up_to_stop t [] reads.0 reads.1 reads.2 reads.3)
    none_is_read n (Accepted u ∷ more) t reads = not_in_none u reads.1 (up_to_stop u [] reads.0 reads.1 reads.2 reads.3)
    none_is_read n (Refusal refusal ∷ more) t (inl w) = not_none w.0 w.1 w.2 w.3
    none_is_read n (Refusal refusal ∷ more) t (inr w) = w.0.some refl

    -- ---- to the last STOP

    -- What is read last is after the first STOP, so it is no other than the last one that what is
    -- left has.
    goes_on : (n : ℕ) (more : List Outcome) (t : TransactionData) (since a before rest : List Event) → HasNoStop a
        → AreStopped before → HasNoStop since
        → a ++ Stop ∷ rest ≡ before ++ (since ++ Stop ∷ []) → ReadsFrom profile n rest (more ++ Accepted t ∷ [])
        → ((left : List Event) → AreStopped left → rest ≡ left ++ (since ++ Stop ∷ [])
        → Packet profile t (since ++ Stop ∷ []))
        → Packet profile t (since ++ Stop ∷ [])
    goes_on n more t since a before rest none stopped nor same reads later =
        elim (behind_first since a before rest none stopped nor same) [
          | inl w ↦ absurd (none_is_read n more t (subst
              (λ (es : List Event). ReadsFrom profile n es (more ++ Accepted t ∷ [])) w.1 reads))
          | inr w ↦ later w.before w.stopped w.split
        ]

    -- The last of what is read takes the events up to the last STOP.
    last_takes : (t : TransactionData) (since before events rest : List Event) → AreStopped before → HasNoStop since
        → events ≡ before ++ (since ++ Stop ∷ []) → rest ≡ [] → (taken : UpToStop t events rest)
        → Packet profile t (since ++ Stop ∷ [])
    last_takes t since before events rest stopped nor split empty taken =
        elim (behind_first since taken.front before rest taken.no_stop stopped nor (sym taken.split ∙ split)) [
          | inl w ↦ subst (λ (es : List Event). Packet profile t (es ++ Stop ∷ [])) w.0 taken.packet
          | inr w ↦ absurd (not_none (w.before ++ since) Stop []
              (sym empty ∙ w.split ∙ sym (append_assoc w.before since (Stop ∷ []))))
        ]

    module _ (going : (events : List Event) → IsUnderWay profile events → HasNoStop events) where
      -- Transactions end at one STOP.
      pub ends_at_one_stop : (outcomes : List Outcome) (n : ℕ) (before since events : List Event) (t : TransactionData)
          → AreStopped before → HasNoStop since
          → events ≡ before ++ (since ++ Stop ∷ []) → ReadsFrom profile n events (outcomes ++ Accepted t ∷ [])
          → Packet profile t (since ++ Stop ∷ [])
      -- it is the only outcome
      ends_at_one_stop [] n before since events t stopped nor split reads =
          last_takes t since before events reads.1 stopped nor split reads.4
          (up_to_stop t events reads.0 reads.1 reads.2 reads.3)
      -- a transaction comes before: what it takes is up to the first STOP
      ends_at_one_stop (Accepted u ∷ more) n before since events t stopped nor split reads =
          let taken = up_to_stop u events reads.0 reads.1 reads.2 reads.3 in
          let m = n + length reads.0 in
          goes_on m more t since taken.front before reads.1 taken.no_stop stopped nor (sym taken.split ∙ split) reads.4
          (λ left still rest_is. ends_at_one_stop more m left since reads.1 t still nor rest_is reads.4)
      -- a refusal comes before,
      ends_at_one_stop (Refusal refusal ∷ more) n before since events t stopped nor split (inl w) =
          let m = n + length w.0 + length w.5 in
          let left = w.6 in
          elim (w.7) [
            -- which passes over all events: then nothing is left to read
            | to_the_end all none nothing ↦
                absurd (none_is_read m more t (subst (λ (es : List Event). ReadsFrom profile m es
                (more ++ Accepted t ∷ [])) nothing w.8))
            -- or over those up to the first STOP
            | to_first_stop over ends ↦
                (
                let a = w.0 ++ ends.front in
                let at_stop : w.1 ∷ w.2 ≡ ends.front ++ Stop ∷ left =
                over ∙ ap (λ (es : List Event). es ++ left) ends.split ∙ append_assoc ends.front (Stop ∷ []) left in
                let spelled : a ++ Stop ∷ left ≡ before ++ (since ++ Stop ∷ []) =
                append_assoc w.0 ends.front (Stop ∷ left)
                ∙ ap (λ (es : List Event). w.0 ++ es) (sym at_stop)
                ∙ sym w.3
                ∙ split in
                goes_on m more t since a before left (no_stop-append w.0 ends.front
                (going w.0 w.4.under_way) ends.no_stop) stopped nor spelled w.8
                (λ rest still rest_is. ends_at_one_stop more m rest since left t still nor rest_is w.8)
                )
          ]
      -- a refusal of the end would be the last outcome
      ends_at_one_stop (Refusal refusal ∷ more) n before since events t stopped nor split (inr w) =
          absurd (nothing_behind more (Accepted t) w.1)
