use Rattle.std.proofs.Common.{◌≡◌, ◌++◌, false, Bool, codes, drop, cond, option_map, ap, sym, ◌∙◌, arith}
use Rattle.pmb_json_objects.specs.Packets.{is_whole_write}
use Rattle.pmb_log_data.specs.Whole.{leg_code}
use Rattle.pmb_log_lines.specs.Packets.{error_code_says, last_says}
use Rattle.pmb_log_data.specs.Text.{after_says, byte_digits}
use Rattle.pmb_log_data.proofs.Texts.{at_most, called, then}
use Rattle.pmb_log_lines.proofs.refused.append_last.Goals as goal

pub returns-else-is_whole_write : goal.returns-else-is_whole_write
returns-else-is_whole_write g c =
    let device = option_map (λ d. d.now) c.args.device in
    let front = c.args.front.now in
    let last = c.in-Some.last in
    let not_whole : is_whole_write device front ≡ false = sym c.is_whole_write.ensures ∙ c.if-is_whole_write.false in
    called (ap (λ (whole : Bool). cond whole (error_code_says last (leg_code c.args.addr front))
    (codes "refused at byte " ++ byte_digits last ++ after_says (drop 1 front))) (sym not_whole)
    ∙ ap (last_says device c.args.addr front) (sym c.in-Some.is))
    (at_most 800 (omega (arith, c.requires.front, c.but_first.ensures.short))
    (then (then c.append.ensures c.append_byte.ensures)
    (called (ap after_says c.but_first.ensures.bytes) c.append_after.ensures)))
