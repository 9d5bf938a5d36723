-- What the engine put out, in the words of `CaptureTeller`: under the choice, the profile and what is done
-- after a bad word that it was made with, and without what its keeper keeps, which is nothing. For `take`,
-- `end` and `tellers_have_told` of `src/capture_teller.rt`.
use Rattle.std.proofs.Common.{◌≡◌, ℕ, Option, Result, Ok, Err, List, ◌++◌, IfOk, OnOk, subst}
use Rattle.pmb_command.specs.Parts.{DeviceParts}
use Rattle.pmb_fact_stream.specs.Choice.{ChoiceData}
use Rattle.pmb_io.specs.Engines.{Either, PutsOut}
use Rattle.pmb_io.specs.declared.engine.Flow.{Flow}
use Rattle.pmb_io.specs.declared.engine.Flow.TheVariants.{More, Stop}
use Rattle.pmb_io.specs.declared.fault.RunFault.{RunFault}
use Rattle.pmb_keeper.specs.Setting.{IsNothing}
use Rattle.pmb_keeper.specs.declared.nothing.Nothing.{Nothing}
use Rattle.pmb_scan.specs.declared.after_bad_token.AfterBadToken.{AfterBadToken}
use Rattle.pmb_telling.specs.declared.capture_teller.CaptureTeller.{CaptureTeller}
use Rattle.pmb_telling.specs.declared.engine.Teller.{Teller}
use Rattle.pmb_telling.specs.Tell.{StopsTold}
use Rattle.pmb_telling.specs.Teller.{TellerStands, counted_by}
use Rattle.pmb_telling.specs.Text.{WritesTold}
use Rattle.pmb_telling.specs.machine.Standing.{HasEnded, HasPutOut, HasStopped, teller_bad_words, teller_choice}
use Rattle.pmb_telling.specs.machine.Standing.{teller_profile}

-- what holds under what a `Teller` was made of holds under the same by other names
pub named : (Holds : ChoiceData → List DeviceParts → AfterBadToken → Type 0) (start : Teller Nothing)
    (choice : ChoiceData) (profile : List DeviceParts) (after : AfterBadToken) → teller_choice start ≡ choice
    → teller_profile start ≡ profile → teller_bad_words start ≡ after
    → Holds (teller_choice start) (teller_profile start) (teller_bad_words start) → Holds choice profile after
named Holds start choice profile after same_choice same_profile same_after holds =
    subst (λ (a : AfterBadToken). Holds choice profile a) same_after
    (subst (λ (p : List DeviceParts). Holds choice p (teller_bad_words start)) same_profile
    (subst (λ (k : ChoiceData). Holds k (teller_profile start) (teller_bad_words start)) same_choice holds))

module _ (choice : ChoiceData) (profile : List DeviceParts) (after : AfterBadToken) (old new : CaptureTeller)
    (given told : List ℕ) (stands : TellerStands choice profile after old given told) where
  -- after a piece more is wanted, or none whatever follows
  takes_flow : (piece more : List ℕ) (flow : Flow)
      → Either (HasPutOut IsNothing stands.start new.teller.value (given ++ piece) (told ++ more))
      (HasStopped IsNothing stands.start new.teller.value (given ++ piece) (told ++ more)) flow
      → Either (TellerStands choice profile after new (given ++ piece) (told ++ more))
      (StopsTold choice profile after (given ++ piece) (told ++ more) (counted_by new)) flow
  takes_flow piece more More put_out = record {
    accepted = stands.accepted;
    start = stands.start;
    same_choice = stands.same_choice;
    same_profile = stands.same_profile;
    same_after = stands.same_after;
    put_out = put_out;
  }
  takes_flow piece more Stop stopped =
      named (λ k p a. StopsTold k p a (given ++ piece) (told ++ more) (counted_by new)) stands.start choice profile
      after stands.same_choice stands.same_profile stands.same_after (record {
        ends = stopped.ends;
        writes = stopped.writes.writes;
        whatever_follows = λ others. (stopped.whatever_follows others).writes;
      })

  module _ (h0 : Option (List ℕ)) (w0 : List ℕ) (h1 : Option (List ℕ)) (w1 : List ℕ) where
    pub takes_told : (piece : List ℕ) (result : Result Flow RunFault)
        → IfOk result (λ flow. PutsOut (λ more. Either
        (HasPutOut IsNothing stands.start new.teller.value (given ++ piece) (told ++ more))
        (HasStopped IsNothing stands.start new.teller.value (given ++ piece) (told ++ more)) flow) h0 w0 h1 w1)
        → IfOk result (λ flow. PutsOut (λ more. Either
        (TellerStands choice profile after new (given ++ piece) (told ++ more))
        (StopsTold choice profile after (given ++ piece) (told ++ more) (counted_by new)) flow) h0 w0 h1 w1)
    takes_told piece (Ok flow) puts =
        record { text = puts.text; writes = puts.writes; holds = takes_flow piece puts.text flow puts.holds }
    takes_told piece (Err fault) puts = tt

    -- what is put out at the end
    pub ends_told : (result : Result (Unit {0}) RunFault)
        → OnOk result (PutsOut (λ more. HasEnded IsNothing stands.start new.teller.value given (told ++ more)) h0 w0
        h1 w1)
        → OnOk result (PutsOut (λ more. WritesTold choice profile after given (told ++ more) (counted_by new)) h0 w0
        h1 w1)
    ends_told (Ok done) puts = record {
      text = puts.text;
      writes = puts.writes;
      holds = named (λ k p a. WritesTold k p a given (told ++ puts.text) (counted_by new)) stands.start choice profile
          after stands.same_choice stands.same_profile stands.same_after puts.holds.writes;
    }
    ends_told (Err fault) puts = tt
