-- Two bytes are one word.
use Rattle.std.proofs.Common.{◌≡◌, ◌+◌, ◌*◌, ℕ, List, get_or, option_map, arith}
use Rattle.pmb_log_data.specs.Data.{number_says}
use Rattle.pmb_log_data.proofs.Texts.{at_most, called, two_bytes}
use Rattle.pmb_log_data.proofs.voltage.append_quantity.Goals as goal

pub returns-in-len2 : goal.returns-in-len2
returns-in-len2 g c =
    let says : ℕ → List ℕ =
    number_says c.args.digits (option_map (λ u. u.now) c.args.unit) c.args.bytes.now c.args.format in
    let word : c.from_le_bytes.result ≡ get_or c.args.bytes.now 0 0 + 256 * get_or c.args.bytes.now 1 0 =
    omega (arith, c.from_le_bytes.ensures) in
    called (two_bytes says c.from_le_bytes.result c.args.bytes.now
    (omega (arith, c.in-len2.len_at_least, c.in-len2.len_below)) word) (at_most 773 (omega arith) c.append_decoded.ensures)
