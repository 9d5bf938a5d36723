-- Where a host failed: the byte or the Ask is the next one of its task, and what the bus answered
-- there is a device's answer at that place. For the law `runs_are_exchanges`, in runs that write
-- and in runs that read. STOP is the last signal of the run and the failed one stands before it,
-- so that the answers up to it are those of the run, and its place in the legs follows from the
-- signals sent.
use Rattle.std.proofs.Common.{◌≡◌, ℕ, Bool, List, [], ◌∷◌, ◌++◌, map, ap, subst, ◌∙◌}
use Rattle.pmb_registers.specs.State.{InState}
use Rattle.pmb_device.specs.declared.signal.HostSignal.{HostSignal}
use Rattle.pmb_device.specs.declared.signal.HostSignal.TheVariants.{Byte, Ask, Stop}
use Rattle.pmb_device.specs.Legs.{Legs, Outside, Inside}
use Rattle.pmb_devices.specs.Bus.{AreAnswered, AnsweredSignal, BusAnswers}
use Rattle.pmb_devices.proofs.OwnLegs.{byte_leg}
use Rattle.pmb_host.specs.declared.step.HostStep.{HostStep}
use Rattle.pmb_host.specs.Host.{IsNext, Job, goes_on, gives_up}
use Rattle.pmb_host.specs.Signals.{legs_of, reading_signals}
use Rattle.pmb_host.specs.Steps.{GetsNoByte, GoesOn, IsRefused, bytes_read, sent_signals}
use Rattle.pmb_exchange.specs.Run.{HasRun, stopped}
use Rattle.pmb_exchange.proofs.Places.{answer_at, legs_at, legs_by}
use Rattle.pmb_exchange.proofs.Signals.{InLegs, in_legs, reading_no_byte, reading_no_start}
use Rattle.pmb_exchange.proofs.Stops.{answered_front, failed_last}

-- a byte or an Ask comes next while all goes well
next_byte : (job : Job) (before : List AnsweredSignal) (b : ℕ) → IsNext job before (Byte b)
    → GoesOn job.profile job.task before (Byte b)
next_byte job before b (goes_on next) = next
next_byte job before b (gives_up none) = absurd (cc (none.stop))

next_ask : (job : Job) (before : List AnsweredSignal) → IsNext job before Ask → GoesOn job.profile job.task before Ask
next_ask job before (goes_on next) = next
next_ask job before (gives_up none) = absurd (cc (none.stop))

module _ (job : Job) (members : List InState) (heard : List AnsweredSignal) (step : HostStep)
    (run : HasRun job members heard step) where
  -- what was answered at the signal that failed
  answered_last : (front : List AnsweredSignal) (failed : AnsweredSignal) → heard ≡ front ++ failed ∷ []
      → BusAnswers members (legs_by Outside (sent_signals front)) failed.signal failed.result
  answered_last front failed is = answer_at members Outside front failed []
      (subst (AreAnswered members Outside) is run.answered)

  front_answered : (front : List AnsweredSignal) (failed : AnsweredSignal) → heard ≡ front ++ failed ∷ []
      → AreAnswered members Outside front
  front_answered front failed is = answered_front members Outside front (failed ∷ [])
      (subst (AreAnswered members Outside) is run.answered)

  -- A byte that was not acknowledged stands in a leg of the task.
  pub record ByteFailed (leg byte : ℕ) (at_read : Bool)
      (r : IsRefused job.profile job.task (stopped heard run.last) leg byte at_read) : Type 0 where
    -- the refused byte was the last signal before STOP
    pub heard_is : heard ≡ r.front ++ record { signal = Byte r.refused; result = r.result } ∷ []
    pub answered : AreAnswered members Outside r.front
    -- its place in the legs of the task
    pub within : InLegs (legs_of job.profile job.task) r.legs r.bytes r.refused
    pub bus : BusAnswers members (Inside (map byte_leg r.legs) (byte_leg r.bytes)) (Byte r.refused) r.result

  pub byte_failed : (leg byte : ℕ) (at_read : Bool)
      (r : IsRefused job.profile job.task (stopped heard run.last) leg byte at_read)
      → ByteFailed leg byte at_read r
  byte_failed leg byte at_read r =
      let failed : AnsweredSignal = record { signal = Byte r.refused; result = r.result } in
      let stop : AnsweredSignal = record { signal = Stop; result = r.stops.result } in
      let heard_is : heard ≡ r.front ++ failed ∷ [] =
      failed_last heard run.last job.profile job.task r.front failed r.stops in
      let next = next_byte job r.front r.refused (run.in_turn r.front failed (stop ∷ []) r.stops.split) in
      let bytes = bytes_read r.front ++ next.to_read in
      record {
        heard_is = heard_is;
        answered = front_answered r.front failed heard_is;
        within =
            in_legs (legs_of job.profile job.task) r.legs r.bytes r.refused (reading_signals bytes ++ Stop ∷ [])
            next.behind (reading_no_byte bytes)
            (reading_no_start bytes) (next.spelled ∙ ap (λ (xs : List HostSignal). xs ++ Byte r.refused ∷ next.behind)
            r.before);
        bus =
            subst (λ (ls : Legs). BusAnswers members ls (Byte r.refused) r.result)
            (ap (legs_by Outside) r.before ∙ legs_at r.legs r.bytes)
            (answered_last r.front failed heard_is);
      }

  -- An Ask to which no byte was given is one of the task's.
  pub record AskFailed (g : GetsNoByte job.profile job.task (stopped heard run.last)) : Type 0 where
    -- the Ask was the last signal before STOP
    pub heard_is : heard ≡ g.front ++ record { signal = Ask; result = g.result } ∷ []
    pub answered : AreAnswered members Outside g.front
    -- it is what the task sends there
    pub next : GoesOn job.profile job.task g.front Ask
    pub bus : BusAnswers members (legs_by Outside (sent_signals g.front)) Ask g.result

  pub ask_failed : (g : GetsNoByte job.profile job.task (stopped heard run.last)) → AskFailed g
  ask_failed g =
      let failed : AnsweredSignal = record { signal = Ask; result = g.result } in
      let stop : AnsweredSignal = record { signal = Stop; result = g.stops.result } in
      let heard_is : heard ≡ g.front ++ failed ∷ [] =
      failed_last heard run.last job.profile job.task g.front failed g.stops in
      record {
        heard_is = heard_is;
        answered = front_answered g.front failed heard_is;
        next = next_ask job g.front (run.in_turn g.front failed (stop ∷ []) g.stops.split);
        bus = answered_last g.front failed heard_is;
      }
