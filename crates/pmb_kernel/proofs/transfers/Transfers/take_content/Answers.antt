use Rattle.std.proofs.Common.{◌∙◌, sym, ap}
use Rattle.pmb_trace.specs.Views.{event_of, line_of}
use Rattle.pmb_kernel.proofs.LineWords.{words_within}
use Rattle.pmb_kernel.proofs.transfers.Transfers.take_content.Goals as goal

pub take_event-requires-clause-words : goal.take_event-requires-clause-words
take_event-requires-clause-words g c =
    (words_within c.args.text.now (event_of c.in-Says.event) c.requires
    (sym c.trace_line.ensures ∙ ap line_of c.in-Says.is)).fields

pub take_event-requires-clause-front : goal.take_event-requires-clause-front
take_event-requires-clause-front g c =
    (words_within c.args.text.now (event_of c.in-Says.event) c.requires
    (sym c.trace_line.ensures ∙ ap line_of c.in-Says.is)).front
