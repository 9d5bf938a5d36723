use Rattle.std.proofs.Common.{◌++◌}
use Rattle.pmb_capture_reader.specs.Fresh.{fresh_bytes}
use Rattle.pmb_capture_reader.specs.Reader.{reader_ready}
use Rattle.pmb_capture_reader.proofs.Reading.{piece_goes_on, piece_stops, piece_tells, told_before}
use Rattle.pmb_capture_reader.proofs.reader.CaptureReader.feed_more.Goals as goal

pub returns-clause-stands : goal.returns-clause-stands
returns-clause-stands c choice profile after given taken stands =
    let old = c.args.self.now in
    let ready = reader_ready old in
    let fresh = fresh_bytes c.tell_piece-made.new.fresh in
    let teller = c.tell_piece-made.new.teller in
    let made = c.tell_piece-made.ensures choice profile after given (taken ++ ready) (stands.teller c.requires) in record {
      tells = piece_tells choice profile after teller taken ready fresh c.gather-self.new.queue.left given c.args.piece.now
          c.tell_piece-made.result c.gather-self.result c.gather-self.ensures.gathers made
          (told_before choice profile after given taken old c.requires stands)
          (c.tellers_have_told.ensures choice profile after teller (given ++ c.args.piece.now));
      teller = piece_goes_on choice profile after teller taken ready fresh c.gather-self.new.queue.left
          (given ++ c.args.piece.now) c.tell_piece-made.result c.gather-self.result c.gather-self.ensures.gathers made;
    }

pub returns-clause-stops : goal.returns-clause-stops
returns-clause-stops c choice profile after given taken stands =
    let ready = reader_ready c.args.self.now in
    piece_stops choice profile after c.tell_piece-made.new.teller taken ready
    (fresh_bytes c.tell_piece-made.new.fresh) c.gather-self.new.queue.left (given ++ c.args.piece.now)
    c.tell_piece-made.result c.gather-self.result c.gather-self.ensures.gathers
    (c.tell_piece-made.ensures choice profile after given (taken ++ ready) (stands.teller c.requires))
