-- Each run of a host on a bus of simulated devices is the exchange that its request asks for: the
-- law `runs_are_exchanges` itself. By the five kinds of a request: WRITE and SET are writes
-- (`Writes`), READ, CALL and GET ask a device (`Asked`).
use Rattle.std.proofs.Common.{ℕ, Option, List, [], ◌∷◌, sym, subst}
use Rattle.pmb_command.specs.Parts.{DeviceParts}
use Rattle.pmb_transaction.specs.Transaction.{PartData, TransactionData, Write}
use Rattle.pmb_writer.specs.Invalid.{HasPacket}
use Rattle.pmb_registers.specs.State.{InState}
use Rattle.pmb_devices.specs.Bus.{AnsweredSignal}
use Rattle.pmb_request.specs.Request.{RequestData, WriteParts, ReadBytes, CallBytes, Set, Get}
use Rattle.pmb_value.specs.declared.number_format.NumberFormat.{NumberFormat}
use Rattle.pmb_host.specs.declared.step.HostStep.{HostStep}
use Rattle.pmb_host.specs.declared.step.HostStep.TheVariants.{Send, Done, Failed}
use Rattle.pmb_host.specs.Host.{Job}
use Rattle.pmb_host.specs.Rules.{IsAllowed}
use Rattle.pmb_host.specs.Task.{task_of}
use Rattle.pmb_host.proofs.Asked.{set_packet}
use Rattle.pmb_exchange.specs.Run.{HasRun, IsExchanged}
use Rattle.pmb_exchange.proofs.Asked.{call_by_rules, get_by_rules, read_by_rules}
use Rattle.pmb_exchange.proofs.Writes.{write_done, write_failed, write_job}

module _ (profile : List DeviceParts) (number : Option NumberFormat) (members : List InState)
    (heard : List AnsweredSignal) where
  -- a write
  write_run : (parts : List PartData) (step : HostStep) → HasPacket profile (Write parts)
      → HasRun (write_job profile number parts members heard) members heard step
      → IsExchanged (write_job profile number parts members heard) members heard step
  write_run parts (Send signal) packet run = absurd (run.ended)
  write_run parts (Done told) packet run =
      write_done profile number parts members heard (Done told) run packet.0 packet.1 told run.ended.0 run.ended.1
      run.ended.2
  write_run parts (Failed fault) packet run =
      write_failed profile number parts members heard (Failed fault) run packet.0 packet.1 fault run.ended

  -- each request
  request_run : (request : RequestData) (word : ℕ) (step : HostStep) → IsAllowed profile request word number
      → HasRun (record { profile = profile; task = task_of request word; number = number }) members heard step
      → IsExchanged (record { profile = profile; task = task_of request word; number = number }) members heard step
  request_run (WriteParts parts) word step allowed run = write_run parts step allowed.0 run
  request_run (ReadBytes c) word step allowed run = read_by_rules profile number members c heard step allowed.0 run
  request_run (CallBytes c bytes) word step allowed run =
      call_by_rules profile number members c heard step bytes allowed.0 run
  request_run (Set c value mode) word step allowed run =
      let on = run.on in
      write_run (record { addr = c.addr; code = c.code; bytes = _; pec = c.pec } ∷ []) step
      (set_packet profile on.accepted c value mode word allowed.0) run
  request_run (Get c mode) word step allowed run =
      get_by_rules profile number members c heard step mode allowed.0 allowed.1 allowed.2 run

-- Runs are exchanges.
pub runs_are_exchanges : (job : Job) (members : List InState) (heard : List AnsweredSignal) (step : HostStep)
    → HasRun job members heard step
    → IsExchanged job members heard step
runs_are_exchanges job members heard step run =
    let asked = run.requested in
    subst (λ (t : TransactionData). IsExchanged (record { profile = job.profile; task = t; number = job.number })
    members heard step) (sym asked.task_is)
    (
    request_run job.profile job.number members heard asked.request asked.word step asked.allowed
    (subst (λ (t : TransactionData). HasRun (record { profile = job.profile; task = t; number = job.number }) members
    heard step) asked.task_is run)
    )
