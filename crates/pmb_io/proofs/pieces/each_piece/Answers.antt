use Rattle.std.proofs.Common.{ap, ◌≡◌, ◌∙◌, ◌++◌, ◌+◌, ◌<◌, ◌≤◌, ◌≢◌, [], subst, take, length, inl, inr, sym, refl}
use Rattle.std.proofs.Common.{length-take-le, arith}
use Rattle.std.proofs.lemmas.Bool.Decides.{nat_tests}
use Rattle.std.specs.Io.KnownBytes.{Consumes}
use Rattle.pmb_io.specs.Engines.{Either, WritesOut}
use Rattle.pmb_io.specs.Count.{raised}
use Rattle.pmb_io.specs.Runs.{most_piece, most_reads}
use Rattle.pmb_io.specs.Told.{told_by}
use Rattle.pmb_io.proofs.RunLemmas.{ran_into, ran_into_read, ran_into_write, ran_to_its_end, ran_to_last_write}
use Rattle.pmb_io.proofs.RunLemmas.{ran_too_often}
use Rattle.pmb_io.proofs.Running.{bytes_more, no_read_more, one_read_given, one_read_more, raised_by_none}
use Rattle.pmb_io.proofs.Running.{reads_no_more, reads_some, stops_behind, stops_in_first, takes_end, takes_first}
use Rattle.pmb_io.proofs.Running.{takes_more}
use Rattle.pmb_io.proofs.Writing.{keeps_consumes, told_end, told_no_end}
use Rattle.pmb_io.proofs.pieces.each_piece.Goals as goal

-- nothing more is wanted of `first`
pub returns-in-Stop : goal.returns-in-Stop
returns-in-Stop g c =
    let taken = subst (λ flow. WritesOut (λ more. Either
    (g.E.Engine.Stands c.args.engine.now c.take_piece.new.engine c.args.first.now more)
    (g.E.Engine.Stops c.args.engine.now c.take_piece.new.engine c.args.first.now more) flow)
    (g.W.Sink.told c.args.writer.now).held (g.W.Sink.told c.take_piece.new.writer).held) c.in-Stop.is
    (c.in_ok-take_piece.ensures.takes c.args.engine.now [] [] c.requires) in
    ran_to_its_end g.R.Source.told g.W.Sink.told _ _ _ _ tt refl c.in_ok-take_piece.ensures.failed
    (0, omega arith, sym (raised_by_none _))
    (inr (stops_in_first g.R.Source.told g.W.Sink.told (g.E.Engine.Stops c.args.engine.now c.take_piece.new.engine) _ _
    _ _ _ taken))

-- what `first` brings forth was not written
pub returns-in_err-take_piece : goal.returns-in_err-take_piece
returns-in_err-take_piece g c =
    ran_into g.R.Source.told g.W.Sink.told _ _ _ _ c.from_residual.result _ _ c.from_residual.ensures.1
    c.in_err-take_piece.ensures.failed.0
    (ran_into_write g.R.Source.told g.W.Sink.told _ _ _ _ refl c.in_err-take_piece.ensures.failed.1
    (0, omega arith, sym (raised_by_none _)))

pub reads-init : goal.reads-init
reads-init g c =
    let taken = subst (λ flow. WritesOut (λ more. Either
    (g.E.Engine.Stands c.args.engine.now c.take_piece.new.engine c.args.first.now more)
    (g.E.Engine.Stops c.args.engine.now c.take_piece.new.engine c.args.first.now more) flow)
    (g.W.Sink.told c.args.writer.now).held (g.W.Sink.told c.take_piece.new.writer).held) c.in-More.is
    (c.in_ok-take_piece.ensures.takes c.args.engine.now [] [] c.requires) in record {
      reader_failures = refl;
      writer_failures = c.in_ok-take_piece.ensures.failed;
      not_ended = refl;
      reads = sym (raised_by_none _);
      sent = c.in_ok-take_piece.ensures.sent;
      so_far = takes_first (g.E.Engine.Stands c.args.engine.now c.take_piece.new.engine) c.args.first.now
          (g.R.Source.told c.args.reader.now) (g.W.Sink.told c.args.writer.now) (g.W.Sink.told c.take_piece.new.writer)
          taken;
      many = omega arith;
    }

-- a read failed
pub returns-in_err-count : goal.returns-in_err-count
returns-in_err-count g c =
    ran_into g.R.Source.told g.W.Sink.told _ _ _ _ c.from_residual-in_err-count.result _ _
    c.from_residual-in_err-count.ensures.1 c.in_err-count.ensures.failed.0
    (ran_into_read g.R.Source.told g.W.Sink.told _ _ _ _
    (c.in_err-count.ensures.failed.1 ∙ ap (λ n. raised n 1) c.reads.invariant.reader_failures)
    c.reads.invariant.writer_failures
    (c.reads.counter, omega arith, c.in_err-count.ensures.read ∙ c.reads.invariant.reads)
    (c.in_err-count.ensures.ended ∙ c.reads.invariant.not_ended)
    (reads_no_more (g.E.Engine.Stands c.args.engine.now c.reads.engine) _ _ _ _ _ c.reads.invariant.so_far
    (keeps_consumes _ _ c.in_err-count.ensures.bytes) c.in_err-count.ensures.given))

-- the reader ended
pub returns-then-count-eq0 : goal.returns-then-count-eq0
returns-then-count-eq0 g c =
    let so_far = c.reads.invariant.so_far in
    let room : 0 < length c.next_piece.new.piece = omega arith in
    ran_to_last_write g.R.Source.told g.W.Sink.told _ _ _ _ c.take_end.result
    (g.W.Sink.told c.reads.writer) c.take_end.ensures.failed c.reads.invariant.writer_failures
    (c.in_ok-count.ensures.failed ∙ c.reads.invariant.reader_failures) (
      c.reads.counter,
      omega arith,
      no_read_more _ _ _ c.reads.counter c.in_ok-count.count c.reads.invariant.reads
          c.in_ok-count.ensures.read c.if-count-eq0.true,
    )
    _ (c.take_end.ensures.ends c.args.engine.now (c.args.first.now ++ so_far.read) so_far.text so_far.holds)
    (λ written done. inl (record {
      through = takes_end (g.E.Engine.Stands c.args.engine.now c.reads.engine)
          (g.E.Engine.Ends c.args.engine.now c.take_end.new.engine) _ _
          (told_by g.R.Source.told g.W.Sink.told (c.reads.reader, c.reads.writer)) _ so_far
          (subst (λ n. Consumes (g.R.Source.told c.reads.reader).left (g.R.Source.told c.next_piece.new.reader).left
          (take n c.next_piece.new.piece)) c.if-count-eq0.true c.in_ok-count.ensures.bytes.0)
          (c.in_ok-count.ensures.given ∙ (ap (raised (g.R.Source.told c.reads.reader).given) c.if-count-eq0.true
          ∙ raised_by_none _)) written;
      ended = told_end _ _ c.in_ok-count.count c.next_piece.new.piece c.in_ok-count.ensures.ended c.if-count-eq0.true
          room;
      at_end = c.in_ok-count.ensures.bytes.1 c.if-count-eq0.true room;
    }))

-- what a piece brings forth was not written
pub returns-in_err-take_piece-2 : goal.returns-in_err-take_piece-2
returns-in_err-take_piece-2 g c =
    let some : c.in_ok-count.count ≢ 0 = grind (arith, nat_tests, c.if-count-eq0.false) in
    ran_into g.R.Source.told g.W.Sink.told _ _ _ _ c.from_residual-in_err-take_piece-2.result _ _
    c.from_residual-in_err-take_piece-2.ensures.1 c.in_err-take_piece-2.ensures.failed.0
    (ran_into_write g.R.Source.told g.W.Sink.told _ _ _ _
    (c.in_ok-count.ensures.failed ∙ c.reads.invariant.reader_failures)
    (c.in_err-take_piece-2.ensures.failed.1 ∙ ap (λ n. raised n 1) c.reads.invariant.writer_failures) (
      c.reads.counter + 1,
      omega arith,
      one_read_more _ _ _ c.reads.counter c.in_ok-count.count c.reads.invariant.reads
          c.in_ok-count.ensures.read some,
    ))

-- nothing more is wanted after a piece
pub returns-in-Stop-2 : goal.returns-in-Stop-2
returns-in-Stop-2 g c =
    let so_far = c.reads.invariant.so_far in
    let piece = take c.in_ok-count.count c.next_piece.new.piece in
    let taken = subst (λ flow. WritesOut (λ more. Either
    (g.E.Engine.Stands c.args.engine.now c.take_piece-in-reads.new.engine ((c.args.first.now ++ so_far.read) ++ piece)
    (so_far.text ++ more))
    (g.E.Engine.Stops c.args.engine.now c.take_piece-in-reads.new.engine ((c.args.first.now ++ so_far.read) ++ piece)
    (so_far.text ++ more)) flow)
    (g.W.Sink.told c.reads.writer).held (g.W.Sink.told c.take_piece-in-reads.new.writer).held) c.in-Stop-2.is
    (c.in_ok-take_piece-2.ensures.takes c.args.engine.now (c.args.first.now ++ so_far.read) so_far.text so_far.holds) in
    let some : c.in_ok-count.count ≢ 0 = grind (arith, nat_tests, c.if-count-eq0.false) in
    let small : length piece ≤ most_piece = rw
    (length-take-le c.in_ok-count.count c.next_piece.new.piece c.in_ok-count.ensures.within)
    (omega (arith, c.in_ok-count.ensures.within)) in
    ran_to_its_end g.R.Source.told g.W.Sink.told _ _ _ _ tt
    (c.in_ok-count.ensures.failed ∙ c.reads.invariant.reader_failures)
    (c.in_ok-take_piece-2.ensures.failed ∙ c.reads.invariant.writer_failures) (
      c.reads.counter + 1,
      omega arith,
      one_read_more _ _ _ c.reads.counter c.in_ok-count.count c.reads.invariant.reads
          c.in_ok-count.ensures.read some,
    )
    (inr (stops_behind g.R.Source.told g.W.Sink.told (g.E.Engine.Stands c.args.engine.now c.reads.engine)
    (g.E.Engine.Stops c.args.engine.now c.take_piece-in-reads.new.engine) _ c.args.first.now piece _
    (c.reads.reader, c.reads.writer) _ so_far
    (c.reads.engine, so_far.text, so_far.holds)
    c.in_ok-count.ensures.bytes.0 (bytes_more _ _ c.in_ok-count.count c.next_piece.new.piece
    c.in_ok-count.ensures.within c.in_ok-count.ensures.given)
    (one_read_given _ _ c.in_ok-count.count c.in_ok-count.ensures.read some) small taken))

pub reads-preserved : goal.reads-preserved
unfolding takes_more
reads-preserved g c =
    let so_far = c.reads.invariant.so_far in
    let piece = take c.in_ok-count.count c.next_piece.new.piece in
    let some : c.in_ok-count.count ≢ 0 = grind (arith, nat_tests, c.if-count-eq0.false) in
    let taken = subst (λ flow. WritesOut (λ more. Either
    (g.E.Engine.Stands c.args.engine.now c.take_piece-in-reads.new.engine ((c.args.first.now ++ so_far.read) ++ piece)
    (so_far.text ++ more))
    (g.E.Engine.Stops c.args.engine.now c.take_piece-in-reads.new.engine ((c.args.first.now ++ so_far.read) ++ piece)
    (so_far.text ++ more)) flow)
    (g.W.Sink.told c.reads.writer).held (g.W.Sink.told c.take_piece-in-reads.new.writer).held) c.in-More-2.is
    (c.in_ok-take_piece-2.ensures.takes c.args.engine.now (c.args.first.now ++ so_far.read) so_far.text so_far.holds) in
    record {
      reader_failures = c.in_ok-count.ensures.failed ∙ c.reads.invariant.reader_failures;
      writer_failures = c.in_ok-take_piece-2.ensures.failed ∙ c.reads.invariant.writer_failures;
      not_ended = told_no_end _ _ c.in_ok-count.count c.next_piece.new.piece c.in_ok-count.ensures.ended some
          ∙ c.reads.invariant.not_ended;
      reads = one_read_more _ _ _ c.reads.counter c.in_ok-count.count c.reads.invariant.reads c.in_ok-count.ensures.read
          some;
      sent = c.in_ok-take_piece-2.ensures.sent;
      so_far = takes_more (g.E.Engine.Stands c.args.engine.now c.reads.engine)
          (g.E.Engine.Stands c.args.engine.now c.take_piece-in-reads.new.engine) c.args.first.now piece
          (told_by g.R.Source.told g.W.Sink.told (c.args.reader.now, c.args.writer.now))
          (told_by g.R.Source.told g.W.Sink.told (c.reads.reader, c.reads.writer))
          (told_by g.R.Source.told g.W.Sink.told (c.next_piece.new.reader, c.take_piece-in-reads.new.writer)) so_far
          c.in_ok-count.ensures.bytes.0 (bytes_more _ _ c.in_ok-count.count c.next_piece.new.piece
          c.in_ok-count.ensures.within c.in_ok-count.ensures.given) taken;
      many = reads_some so_far.read piece c.reads.counter c.reads.invariant.many
          (rw (length-take-le c.in_ok-count.count c.next_piece.new.piece c.in_ok-count.ensures.within)
          (omega (arith, some)));
    }

-- so many reads gave bytes
pub returns : goal.returns
returns g c =
    let all : c.reads.counter ≡ most_reads = omega arith in
    ran_too_often g.R.Source.told g.W.Sink.told _ _ _ _ c.reads.invariant.reader_failures
    c.reads.invariant.writer_failures
    (c.reads.invariant.reads ∙ ap (raised (g.R.Source.told c.args.reader.now).reads) all) c.reads.invariant.not_ended
    c.reads.invariant.so_far (omega (arith, c.reads.invariant.many))
