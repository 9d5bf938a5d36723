use Rattle.std.proofs.Common.{◌≡◌, ◌-◌, ℕ, Some, length, slice_get, refl, subst, arith}
use Rattle.std.proofs.lemmas.Option.{slice_get_read}
use Rattle.pmb_keys.specs.CommandView.{command_parts}
use Rattle.pmb_observed.specs.Told.{bit_told, bits_told}
use Rattle.pmb_stats_table.specs.Rows.{bit_heading, bit_row}
use Rattle.pmb_stats_table.proofs.Headed.{if_ok, puts_both, puts_lines_of, puts_none}
use Rattle.pmb_stats_table.proofs.Registers.{highest_first, none_of_them}
use Rattle.pmb_stats_table.proofs.put_bits.+put_register.Goals as goal

pub returns-then-count-eq0-clause-lines : goal.returns-then-count-eq0-clause-lines
returns-then-count-eq0-clause-lines g t c = λ reads stand within.
    puts_lines_of (bit_heading c.args.widths) (bit_row c.args.widths)
    (none_of_them c.args.spot.page c.args.spot.phase (command_parts c.args.command.now) reads c.args.count
    c.if-count-eq0.true)
    (puts_none (bit_heading c.args.widths) (bit_row c.args.widths) c.args.place (g.W.Sink.told c.args.writer.now).held
    c.args.waiting.now.items)

-- the highest bit, and then those below it
pub returns-clause-lines : goal.returns-clause-lines
returns-clause-lines g t c = λ reads stand within.
    let heading = bit_heading c.args.widths in
    let row = bit_row c.args.widths in
    let page = c.args.spot.page in
    let phase = c.args.spot.phase in
    let command = command_parts c.args.command.now in
    let bit = c.args.count - 1 in
    let found = c.in-Some.ensures.lookup in
    let at : slice_get c.args.bits.now bit ≡ Some c.in-Some.history.now =
    subst (λ (i : ℕ). slice_get c.args.bits.now i ≡ Some c.in-Some.history.now) c.from.ensures
    (slice_get_read c.args.bits.now (length c.args.bits.now) c.from.result c.in-Some.history.now refl found.3.0 found.1)
    in
    let first = c.in_ok-next.ensures.lines reads (stand bit c.in-Some.history.now at) in
    if_ok c.put_register.result (λ last rest.
    puts_lines_of heading row
    (highest_first page phase command reads c.args.count bit (omega (arith, c.if-count-eq0.false)))
    (puts_both heading row (bit_told page phase command reads bit) (bits_told page phase command reads bit) first rest))
    (c.put_register.ensures.lines reads stand (omega arith))
