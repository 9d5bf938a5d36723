-- Each reason is told by its function.
use Rattle.std.proofs.Common.{ap, sym, ◌∙◌, arith}
use Rattle.pmb_partial_packet.specs.PartialPacket.{leg_or_none, reply, sent}
use Rattle.pmb_log_lines.specs.Refusals.{refusal_says, unknown_command_says, wrong_code_says}
use Rattle.pmb_log_data.proofs.Texts.{at_most, called}
use Rattle.pmb_log_lines.proofs.refusals.append_refusal.Goals as goal

pub returns-in-BadPec-clause-says : goal.returns-in-BadPec-clause-says
returns-in-BadPec-clause-says g c = λ known profile front sees viable stands.
    called (ap (λ b. wrong_code_says c.args.event b c.replied.result.now c.right_code.result)
    (c.sent.ensures.bytes profile front viable stands)
    ∙ ap (λ b. wrong_code_says c.args.event (leg_or_none (sent front)) b c.right_code.result)
    (c.replied.ensures.bytes profile front viable stands)
    ∙ ap (wrong_code_says c.args.event (leg_or_none (sent front)) (leg_or_none (reply front)))
    (c.right_code.ensures front stands)
    ∙ ap (λ r. refusal_says known front c.args.event r c.args.expected) (sym c.in-BadPec.is))
    (at_most 900 (omega arith) c.append_wrong_code.ensures)

pub returns-in-UnknownCommand-clause-says : goal.returns-in-UnknownCommand-clause-says
returns-in-UnknownCommand-clause-says g c = λ known profile front sees viable stands.
    called (ap (λ b. unknown_command_says known c.written_to.result b)
    (c.sent-in-UnknownCommand.ensures.bytes profile front viable stands)
    ∙ ap (λ a. unknown_command_says known a (leg_or_none (sent front))) (c.written_to.ensures front stands)
    ∙ ap (λ r. refusal_says known front c.args.event r c.args.expected) (sym c.in-UnknownCommand.is))
    (at_most 900 (omega arith) (c.append_unknown_command.ensures.says known sees))

pub returns-in-TooLong-clause-says : goal.returns-in-TooLong-clause-says
returns-in-TooLong-clause-says g c = λ known profile front sees viable stands.
    called (ap (λ r. refusal_says known front c.args.event r c.args.expected) (sym c.in-TooLong.is))
    (c.append_too_long.ensures.says known profile front c.args.event c.args.expected sees viable stands)

pub returns-in-TooShort-clause-says : goal.returns-in-TooShort-clause-says
returns-in-TooShort-clause-says g c = λ known profile front sees viable stands.
    called (ap (λ r. refusal_says known front c.args.event r c.args.expected) (sym c.in-TooShort.is))
    (c.append_too_short.ensures.says known profile front c.args.event c.args.expected sees viable stands)

pub returns-in-WrongEvent-clause-says : goal.returns-in-WrongEvent-clause-says
returns-in-WrongEvent-clause-says g c = λ known profile front sees viable stands.
    called (ap (λ r. refusal_says known front c.args.event r c.args.expected) (sym c.in-WrongEvent.is))
    (c.append_wrong_event.ensures.says known profile front sees viable stands)
