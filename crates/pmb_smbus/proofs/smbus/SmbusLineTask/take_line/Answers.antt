use Rattle.pmb_io.specs.Lines.{line_text}
use Rattle.pmb_smbus.proofs.Lines.{line_more}
use Rattle.pmb_smbus.proofs.smbus.SmbusLineTask.take_line.Goals as goal

pub returns-clause-takes : goal.returns-clause-takes
returns-clause-takes g c start lines text stands =
    line_more start c.args.self.now c.self.inside.transfers c.take_line.new.self lines (line_text c.args.line) text
    c.take_line.result _ _ _ _ stands c.self.view_is c.take_line.ensures.now c.take_line.ensures.puts
