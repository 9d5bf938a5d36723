use Rattle.std.proofs.Common.{◌≡◌, ◌≤◌, [], length}
use Rattle.pmb_io.specs.Count.{raised}
use Rattle.pmb_io.specs.Runs.{Through}
use Rattle.pmb_io.specs.Told.{told_by}
use Rattle.pmb_io.proofs.pieces.each_piece.Given as goal

-- what was put out for what was read so far is written, and no call has failed
abbrev pub invariant-reads : goal.invariant-reads
invariant-reads g l = record {
  reader_failures : (g.R.Source.told l.reader).failures ≡ (g.R.Source.told l.fn.reader).failures;
  writer_failures : (g.W.Sink.told l.writer).failures ≡ (g.W.Sink.told l.fn.writer).failures;
  not_ended : (g.R.Source.told l.reader).ended ≡ (g.R.Source.told l.fn.reader).ended;
  reads : (g.R.Source.told l.reader).reads ≡ raised (g.R.Source.told l.fn.reader).reads l.counter;
  sent : l.waiting.items ≡ [];
  so_far : Through (g.E.Engine.Stands l.fn.engine l.engine) l.fn.first
      (told_by g.R.Source.told g.W.Sink.told (l.fn.reader, l.fn.writer))
      (told_by g.R.Source.told g.W.Sink.told (l.reader, l.writer));
  many : l.counter ≤ length so_far.read;
}
