use Rattle.std.proofs.Common.{◌≡◌, ◌∙◌, ◌-◌, suc, ap, arith, map, refl, sym}
use Rattle.std.specs.List.{slice_get}
use Rattle.std.proofs.lemmas.List.{map-append}
use Rattle.std.proofs.lemmas.Option.{slice_get_read}
use Rattle.pmb_keys.specs.CommandView.{command_parts}
use Rattle.pmb_observed.specs.Told.{bit_told, bits_told}
use Rattle.pmb_stats_objects.specs.Pages.{bit_item}
use Rattle.pmb_stats_objects.proofs.Found.{highest_first, no_count}
use Rattle.pmb_stats_objects.proofs.Putting.{both_put, called_items, none_put, on_ok}
use Rattle.pmb_stats_objects.proofs.items.+put_bits.Goals as goal

pub returns-then-count-eq0-clause-puts : goal.returns-then-count-eq0-clause-puts
returns-then-count-eq0-clause-puts g t c = λ page reads stands sixteen.
    called_items (sym (ap (map bit_item) (no_count page c.args.phase (command_parts c.args.command.now) reads
    c.args.count c.if-count-eq0.true)))
    (none_put c.args.place.now (c.texts_add_up.ensures.nothing _ _))

pub returns-clause-puts : goal.returns-clause-puts
returns-clause-puts g t c = λ page reads stands sixteen.
    let phase = c.args.phase in
    let command = command_parts c.args.command.now in
    let bit = c.args.count - 1 in
    let is : c.args.count ≡ suc bit = omega (arith, c.if-count-eq0.false) in
    let here = ap (slice_get c.args.bits.now) (sym c.from.ensures) ∙ slice_get_read c.args.bits.now _ c.from.result
    c.in-Some.history.now refl c.in-Some.ensures.lookup.3.0 c.in-Some.ensures.lookup.1 in
    on_ok c.put_bits.result (λ rest.
    called_items (sym (map-append bit_item (bit_told page phase command reads bit)
    (bits_told page phase command reads bit))
    ∙ sym (ap (map bit_item) (highest_first page phase command reads c.args.count bit is)))
    (both_put c.texts_add_up.ensures.both (c.in_ok-put_bit.ensures.puts page reads
    (stands bit c.in-Some.history.now here))
    rest)) (c.put_bits.ensures.puts page reads stands sixteen)
