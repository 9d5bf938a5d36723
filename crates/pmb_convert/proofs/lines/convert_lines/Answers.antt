use Rattle.std.proofs.Common.{subst}
use Rattle.pmb_io.specs.Runs.{AsTool, Ran}
use Rattle.pmb_convert.specs.Lines.{converting}
use Rattle.pmb_convert.specs.declared.converter.Converter.{Converter}
use Rattle.pmb_convert.proofs.Converting.{stands_fresh}
use Rattle.pmb_convert.proofs.lines.convert_lines.Goals as goal

pub each_line-requires-clause-begins : goal.each_line-requires-clause-begins
each_line-requires-clause-begins g c = stands_fresh c.args.conversion c.new.result c.new.ensures

-- The task that runs begins with this conversion.
pub returns : goal.returns
returns g c =
    subst (λ (start : Converter). AsTool (Ran g.R.Source.told g.W.Sink.told
    (converting start.conversion) c.args.first.now
    (c.args.reader.now, c.args.writer.now) (c.each_line.new.reader, c.each_line.new.writer)) c.each_line.result)
    c.new.ensures c.each_line.ensures
