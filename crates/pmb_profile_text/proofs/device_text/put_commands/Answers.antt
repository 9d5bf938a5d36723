use Rattle.std.proofs.Common.{◌∙◌, ◌≤◌, ◌<◌, length, take, ap, refl, arith}
use Rattle.pmb_profile_text.specs.Table.{command_text, command_table}
use Rattle.pmb_profile_text.proofs.Commands.{some_at}
use Rattle.pmb_profile_text.proofs.Texts.{all_taken, puts_as, text_more}
use Rattle.pmb_profile_text.proofs.device_text.put_commands.Goals as goal

pub loop-i-init : goal.loop-i-init
loop-i-init g c = record { put = c.texts_add_up.ensures.nothing _ _; failures = refl }

pub loop-i-preserved : goal.loop-i-preserved
loop-i-preserved g c =
    let device = c.args.device.now in
    let i = c.loop-i.i in
    let within : i < length device.commands = omega (arith, c.loop-i-test.true, c.len-i-end.ensures.len) in
    let one = some_at device.commands i within in
    let row = command_text device one.0 in
    record {
      put = puts_as _ _ _ _ _ _ (text_more (command_text device) device.commands i one.0 one.1)
          (c.texts_add_up.ensures.both (g.W.Sink.told c.args.writer.now).held (g.W.Sink.told c.loop-i.writer).held
          (g.W.Sink.told c.put_command.new.writer).held c.args.waiting.now.items c.loop-i.waiting.items
          c.put_command.new.waiting.items
          (command_table device (take i device.commands)) row c.loop-i.invariant.put
          (c.in_ok-put_command.ensures.puts one.0 one.1));
      failures = c.in_ok-put_command.ensures.failed ∙ c.loop-i.invariant.failures;
    }

pub returns-clause-puts : goal.returns-clause-puts
returns-clause-puts g c =
    let commands = c.args.device.now.commands in
    let past : length commands ≤ c.loop-i.i = omega (arith, c.loop-i-test.false, c.len-i-end.ensures.len) in
    puts_as _ _ _ _ _ _ (ap (command_table c.args.device.now) (all_taken commands c.loop-i.i past))
    c.loop-i.invariant.put
