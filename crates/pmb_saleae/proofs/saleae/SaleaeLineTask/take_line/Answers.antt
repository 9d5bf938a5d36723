use Rattle.pmb_io.specs.Lines.{line_text}
use Rattle.pmb_recording.proofs.Runs.{takes}
use Rattle.pmb_saleae.specs.Packets.{take_end, take_line}
use Rattle.pmb_saleae.proofs.saleae.SaleaeLineTask.take_line.Goals as goal

pub returns-clause-takes : goal.returns-clause-takes
returns-clause-takes g c start lines text stands =
    takes take_line take_end (λ saleae. saleae.recording) c.take_next.result start c.args.self.now _ lines
    (line_text c.args.line) text _ _ _ _ stands c.take_next.ensures.now c.take_next.ensures.puts
