use Rattle.std.proofs.Common.{sym, ◌∙◌, arith}
use Rattle.pmb_canonical.proofs.Beginnings.{not_there}
use Rattle.pmb_canonical.proofs.group.keep_part.Goals as goal

pub returns-in_default-clause-found : goal.returns-in_default-clause-found
returns-in_default-clause-found c part says other room =
    absurd (not_there c.written.result (c.written.ensures.found part.addr part.code part.bytes part.pec says)
    c.in_default.not-Some)

pub returns-clause-adds : goal.returns-clause-adds
returns-clause-adds c is =
    let said = c.in-Some.said in record {
      part = record { addr = said.address; code = said.code; bytes = said.data.bytes.now; pec = said.data.pec };
      added = c.push_part.ensures;
      says = c.in-Some.ensures.says;
      other = sym c.has_part_at.ensures ∙ c.if-has_part_at.false;
      room = omega (arith, c.part_count.ensures, c.if-part_count-ge-PARTS.false);
    }
