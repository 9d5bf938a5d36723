use Rattle.std.proofs.Common.{◌≡◌, take}
use Rattle.pmb_io.specs.Outgoing.{PutsText}
use Rattle.pmb_profile_text.specs.Table.{devices_text}
use Rattle.pmb_profile_text.proofs.bus.put_devices.Given as goal

-- the texts of the devices so far
abbrev pub invariant-loop-i : goal.invariant-loop-i
invariant-loop-i g l = record {
  put : PutsText (g.W.Sink.told l.fn.writer).held l.fn.waiting.items (g.W.Sink.told l.writer).held l.waiting.items
      (devices_text 0 (take l.i l.profile));
  failures : (g.W.Sink.told l.writer).failures ≡ (g.W.Sink.told l.fn.writer).failures;
}
