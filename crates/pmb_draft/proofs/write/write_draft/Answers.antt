use Rattle.std.proofs.Common.{None, refl}
use Rattle.pmb_io.specs.Told.{WriterTold}
use Rattle.pmb_draft.specs.declared.nowhere.Nowhere.{Nowhere}
use Rattle.pmb_draft.proofs.Drafting.{never_failed, unread, written}
use Rattle.pmb_draft.proofs.write.write_draft.Goals as goal

-- what is written there is not told, and never fails
abbrev nothing_told : Nowhere → WriterTold
nothing_told nowhere = record { held = None; failures = 0 }

-- the capture was read
pub returns-in-Ok-each_piece : goal.returns-in-Ok-each_piece
returns-in-Ok-each_piece g c =
    written g.R.Source.told nothing_told g.W.Sink.told c.in-Ok.draft c.each_piece.new.engine c.args.first.now
    c.args.reader.now c.each_piece.new.reader c.new-nowhere.result c.each_piece.new.writer c.args.writer.now
    c.write_text.new.writer c.write_text.result c.write_text.ensures c.in-Ok-each_piece.ensures

-- it could not be read
pub returns : goal.returns
returns g c =
    let never = never_failed g.R.Source.told nothing_told g.W.Sink.told c.in-Ok.draft c.each_piece.new.engine
    c.args.first.now c.args.reader.now c.each_piece.new.reader c.new-nowhere.result c.each_piece.new.writer
    c.args.writer.now c.in-Err.fault refl refl c.in-Err.ensures in
    unread g.R.Source.told nothing_told g.W.Sink.told c.in-Ok.draft c.each_piece.new.engine c.args.first.now
    c.args.reader.now c.each_piece.new.reader c.new-nowhere.result c.each_piece.new.writer c.args.writer.now
    c.in-Err.fault c.from.result c.from.ensures never c.in-Err.ensures
