use Rattle.std.proofs.Common.{◌≡◌, take}
use Rattle.pmb_io.specs.Outgoing.{PutsText}
use Rattle.pmb_profile_text.specs.Table.{command_table}
use Rattle.pmb_profile_text.proofs.device_text.put_commands.Given as goal

-- the rows of the commands so far
abbrev pub invariant-loop-i : goal.invariant-loop-i
invariant-loop-i g l = record {
  put : PutsText (g.W.Sink.told l.fn.writer).held l.fn.waiting.items (g.W.Sink.told l.writer).held l.waiting.items
      (command_table l.device (take l.i l.device.commands));
  failures : (g.W.Sink.told l.writer).failures ≡ (g.W.Sink.told l.fn.writer).failures;
}
