use Rattle.std.proofs.Common.{ap}
use Rattle.pmb_preamble.specs.Front.{Parts}
use Rattle.pmb_preamble.proofs.front_parts.Front.has_capture.Goals as goal

pub returns : goal.returns
returns c = ap (λ (parts : Parts). parts.marked) c.self.view_is
