use Rattle.std.proofs.Common.{Some, Result, ap, sym, subst, ◌∙◌}
use Rattle.pmb_firmware.specs.declared.call_status.CallStatus.{CallStatus}
use Rattle.pmb_in_memory.specs.declared.json_choice.JsonChoice.{JsonChoice}
use Rattle.pmb_c.specs.Handle.{AnswersJsonUnder, Under}
use Rattle.pmb_c.proofs.profile.json_under.Goals as goal

-- the objects are written under the profile that is lent, as it is chosen
pub returns-in-Ok-lent-clause-wrote : goal.returns-in-Ok-lent-clause-wrote
returns-in-Ok-lent-clause-wrote c =
    subst (λ (choice : Result JsonChoice CallStatus). AnswersJsonUnder choice c.args.devices.now c.args.handle.now.held
    c.args.capture.now c.args.room.now c.put_json_under.new.room c.of.result) (sym c.in-Ok.is ∙ c.chosen.ensures)
    (Under c.deref.result.now c.put_json_under.result (c.in-Ok-lent.ensures.lends ∙ ap Some (sym c.deref.ensures))
    c.put_json_under.ensures c.of.ensures)
