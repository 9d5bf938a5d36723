use Rattle.std.proofs.Common.{◌∙◌, ap, sym}
use Rattle.pmb_trace.specs.Views.{event_of, line_of}
use Rattle.pmb_smbus.proofs.Short.{line_is_short}
use Rattle.pmb_smbus.proofs.transfers.Transfers.take_text.Goals as goal

pub take_event-requires : goal.take_event-requires
take_event-requires g c =
    line_is_short c.args.text.now (event_of c.in-Says.event) c.requires
    (sym c.trace_line.ensures ∙ ap line_of c.in-Says.is)
