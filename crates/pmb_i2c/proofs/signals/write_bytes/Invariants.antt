use Rattle.std.proofs.Common.{◌≡◌, take}
use Rattle.pmb_i2c.specs.Message.{taken}
use Rattle.pmb_i2c.specs.Signals.{Gives}
use Rattle.pmb_i2c.proofs.signals.write_bytes.Given as goal

-- the bytes so far were taken
abbrev pub invariant-loop-byte : goal.invariant-loop-byte
invariant-loop-byte g l = Gives (λ heard. heard ≡ taken (take l.byte-index l.bytes)) l.fn.bus l.bus
    (g.L.Listener.HasHeard l.fn.log) (g.L.Listener.HasHeard l.log)
