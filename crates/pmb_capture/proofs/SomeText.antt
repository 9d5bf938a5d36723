-- Something is written for any bytes: they spell events, or have a first word that is no token. For
-- the laws `some_showing` and `some_check`. Each list of events has a reading (a law of
-- `pmb_transaction`), and its outcomes have lines.
use Rattle.std.proofs.Common.{ℕ, ◌+◌, ◌⊎◌, inl, inr, List, ◌++◌, refl}
use Rattle.pmb_bus.specs.declared.event.Event.{Event}
use Rattle.pmb_bus.specs.Text.{FirstBadWord, Spells}
use Rattle.pmb_command.specs.Parts.{DeviceParts}
use Rattle.pmb_io.specs.Count.{capped}
use Rattle.pmb_io.specs.declared.tally.Tally.{Tally}
use Rattle.pmb_transaction.specs.Reading.{Outcome, Reading}
use Rattle.pmb_capture.specs.Lines.{bad_token_line}
use Rattle.pmb_capture.specs.Output.{OutputText, but_truncation, outcomes_text, packets_in, refusals_in}
use Rattle.pmb_capture.specs.Written.{Writes}

module _ (output : OutputText) (profile : List DeviceParts) where
  -- what is written for some bytes
  abbrev pub HasWritten : List ℕ → Type 0
  HasWritten bytes = (text : List ℕ) × (tally : Tally) × Writes output profile bytes text tally

  written_all : (bytes : List ℕ) (events : List Event) → Spells bytes events
      → (outcomes : List Outcome) × Reading profile events outcomes → HasWritten bytes
  written_all bytes events spells read =
      let tally : Tally = record { packets = capped (packets_in read.0); refusals = capped (refusals_in read.0) } in (
        outcomes_text output read.0 ++ output.at_end tally,
        tally,
        inl (record {
          events = events;
          outcomes = read.0;
          spells = spells;
          reads = read.1;
          lines = refl;
          counts = record { packets_counted = refl; refusals_counted = refl };
        }),
      )

  written_up_to : (bytes : List ℕ) (events : List Event) (place : ℕ) → FirstBadWord bytes events place
      → (outcomes : List Outcome) × Reading profile events outcomes → HasWritten bytes
  written_up_to bytes events place bad read =
      let tally : Tally = record {
        packets = capped (packets_in (but_truncation read.0));
        refusals =
            capped (refusals_in (but_truncation read.0) + 1);
      } in (
        outcomes_text output (but_truncation read.0) ++ (bad_token_line (capped place) ++ output.at_end tally),
        tally,
        inr (record {
          events = events;
          outcomes = read.0;
          place = place;
          bad = bad;
          reads = read.1;
          lines = refl;
          counts = record { packets_counted = refl; refusals_counted = refl };
        }),
      )

  -- each text spells events or has a first bad word, and each list of events has a reading
  pub some_text : ((events : List Event) → (outcomes : List Outcome) × Reading profile events outcomes)
      → (bytes : List ℕ)
      → ((events : List Event) × Spells bytes events)
      ⊎ ((events : List Event) × (place : ℕ) × FirstBadWord bytes events place) → HasWritten bytes
  some_text reading bytes (inl spelled) = written_all bytes spelled.0 spelled.1 (reading spelled.0)
  some_text reading bytes (inr bad) = written_up_to bytes bad.0 bad.1 bad.2 (reading bad.0)
