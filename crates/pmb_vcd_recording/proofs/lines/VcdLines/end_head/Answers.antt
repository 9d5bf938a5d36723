use Rattle.std.proofs.Common.{◌∙◌, sym}
use Rattle.pmb_vcd_recording.proofs.Joined.{ended_is}
use Rattle.pmb_vcd_recording.proofs.lines.VcdLines.end_head.Goals as goal

pub returns-clause-now : goal.returns-clause-now
returns-clause-now c =
    ended_is c.args.self.now c.begin_body.new.self c.in-Some.scale c.args.self.now.head.scale c.in-Some.is
    (sym c.is_empty.ensures ∙ c.if-is_empty.false) c.begin_body.ensures.now
