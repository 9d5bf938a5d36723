use Rattle.std.proofs.Common.{◌≡◌, [], inl, inr}
use Rattle.pmb_bus.specs.declared.lexer.Step.TheVariants as answers
use Rattle.pmb_firmware.proofs.Resumed.{all_needed, not_needed}
use Rattle.pmb_firmware.proofs.lexer.lexer_behind.Goals as goal

pub returns-in-Need : goal.returns-in-Need
returns-in-Need c =
    all_needed c.feed.new.self c.args.bytes.now c.feed.result.used
    (rw c.in-Need.is at (c.feed.ensures.stands 0 [] [] c.new-lexer.ensures))

pub returns-in-Event : goal.returns-in-Event
returns-in-Event c =
    let other : c.feed.result.step ≡ answers.Need → ⊥ = λ need.
    elim c.in-Event.is [ inl event ↦ cc (need, event.1) | inr fault ↦ cc (need, fault.1) ] in
    not_needed c.feed.new.self c.args.bytes.now c.feed.result.used c.feed.result.step
    (c.feed.ensures.stands 0 [] [] c.new-lexer.ensures) other
