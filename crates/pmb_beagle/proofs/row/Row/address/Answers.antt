use Rattle.std.proofs.Common.{ap, sym, ◌∙◌}
use Rattle.pmb_csv.specs.Columns.{value}
use Rattle.pmb_csv.specs.Fields.{record_of}
use Rattle.pmb_beagle.specs.Bytes.{byte_in}
use Rattle.pmb_beagle.proofs.QuoteLemmas.{no_byte_in, not_plain, plain_is}
use Rattle.pmb_beagle.proofs.row.Row.address.Goals as goal

pub returns-in-Some : goal.returns-in-Some
returns-in-Some c =
    let text = value c.args.self.now.columns.address (record_of c.args.self.now.line.now) in
    c.read_byte.ensures ∙ ap byte_in (plain_is text c.in-Some.text.now c.in-Some.ensures)

pub returns-in-None : goal.returns-in-None
returns-in-None c =
    let text = value c.args.self.now.columns.address (record_of c.args.self.now.line.now) in
    sym (no_byte_in text (not_plain text c.in-None.ensures))
