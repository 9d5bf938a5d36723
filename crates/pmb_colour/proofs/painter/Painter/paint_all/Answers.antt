use Rattle.std.proofs.Common.{◌∙◌, ℕ, ◌≤◌, List, ◌++◌, length, take, get_or, ap, sym, refl, append-nil, arith}
use Rattle.std.proofs.Math.ListN.{drop_of_length-le}
use Rattle.std.proofs.lemmas.Result.{on_err_weaker, on_ok_weaker}
use Rattle.pmb_colour.specs.Painting.{Held, byte_pieces, held_after, held_with, pieces_of}
use Rattle.pmb_colour.specs.Pieces.{shown}
use Rattle.pmb_colour.specs.machine.Painter.{held_by}
use Rattle.pmb_colour.proofs.Cutting.{take_all}
use Rattle.pmb_colour.proofs.Puts.{err_holds, front_of_pieces, puts_as, shown_append}
use Rattle.pmb_colour.proofs.Texts.{byte_goes_on, held_byte_on}
use Rattle.pmb_colour.proofs.painter.Painter.paint_all.Goals as goal

pub loop-byte-init : goal.loop-byte-init
loop-byte-init g c = record {
  puts = c.texts_add_up.ensures.nothing _ _;
  held = refl;
  failures = refl;
}

-- one byte more
pub loop-byte-preserved : goal.loop-byte-preserved
loop-byte-preserved g c =
    let bytes = c.args.bytes.now in
    let i = c.loop-byte.byte-index in
    let lines = c.args.lines in
    let held = held_by c.args.self.now in
    let so_far = c.loop-byte.invariant in
    let byte = get_or bytes i 0 in
    let before = pieces_of lines held (take i bytes) in
    let one = byte_pieces lines (held_after held (take i bytes)) byte in
    record {
      puts = puts_as _ _ _ _ _ _
          (ap (λ (t : List ℕ). shown before ++ t)
          (ap (λ (h : Held). shown (byte_pieces lines h byte)) so_far.held)
          ∙ (sym (shown_append before one) ∙ ap shown (byte_goes_on lines held bytes i 0 c.loop-byte-test.true)))
          (c.texts_add_up.ensures.both _ _ _ _ _ _ _ _ so_far.puts c.in_ok-take.ensures.puts);
      held = c.in_ok-take.ensures.held ∙ (ap (λ (h : Held). held_with h byte) so_far.held
          ∙ held_byte_on held bytes i 0 c.loop-byte-test.true);
      failures = c.in_ok-take.ensures.failed ∙ so_far.failures;
    }

-- all bytes are taken, and what waits is sent
pub returns-clause-puts : goal.returns-clause-puts
returns-clause-puts g c =
    let bytes = c.args.bytes.now in
    let i = c.loop-byte.byte-index in
    let pieces = pieces_of c.args.lines (held_by c.args.self.now) in
    let past : length bytes ≤ i = omega (arith, c.loop-byte-test.false) in
    on_ok_weaker c.send_all.result
    (λ sent. puts_as _ _ _ _ _ _
    (append-nil (shown (pieces (take i bytes)))
    ∙ ap (λ (t : List ℕ). shown (pieces t)) (take_all bytes i (drop_of_length-le bytes past)))
    (c.texts_add_up.ensures.both _ _ _ _ _ _ _ _ c.loop-byte.invariant.puts sent))
    c.send_all.ensures.puts

-- a front of what waited and of the text's pieces went out
pub returns-in_err-take-clause-front : goal.returns-in_err-take-clause-front
returns-in_err-take-clause-front g c =
    err_holds c.from_residual.result
    (front_of_pieces c.args.lines (held_by c.args.self.now) c.args.bytes.now c.loop-byte.byte-index _ _ _ _ _
    c.loop-byte.invariant.puts c.in_err-take.ensures.front)

pub returns-clause-front : goal.returns-clause-front
returns-clause-front g c =
    on_err_weaker c.send_all.result
    (front_of_pieces c.args.lines (held_by c.args.self.now) c.args.bytes.now c.loop-byte.byte-index _ _ _ _ _
    c.loop-byte.invariant.puts)
    c.send_all.ensures.front
