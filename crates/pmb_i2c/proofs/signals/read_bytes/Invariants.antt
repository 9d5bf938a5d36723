use Rattle.std.proofs.Common.{take}
use Rattle.pmb_i2c.specs.Message.{ReadsOn}
use Rattle.pmb_i2c.specs.Signals.{Gives}
use Rattle.pmb_i2c.proofs.signals.read_bytes.Given as goal

-- the bytes so far are read
abbrev pub invariant-loop-i : goal.invariant-loop-i
invariant-loop-i g l = Gives (ReadsOn (take l.i l.bytes)) l.fn.bus l.bus (g.L.Listener.HasHeard l.fn.log)
    (g.L.Listener.HasHeard l.log)
