use Rattle.pmb_command.specs.Entry.{entry_parts}
use Rattle.pmb_meaning.specs.Data.{exchange}
use Rattle.pmb_meaning.specs.Meaning.{said_fields}
use Rattle.pmb_meaning.specs.Names.{names_of}
use Rattle.pmb_meaning.proofs.ObjectLemmas.{nothing_appended}
use Rattle.pmb_meaning.proofs.SoundLemmas.{says_is_writable}
use Rattle.pmb_meaning.proofs.member.says_member.Goals as goal

pub returns-in-Some-clause-writable : goal.returns-in-Some-clause-writable
returns-in-Some-clause-writable g c =
    says_is_writable c.args.device.now (entry_parts c.args.entry.now) (exchange c.args.payload.now)
    c.accepted_device.ensures

pub returns-in-None-clause-member : goal.returns-in-None-clause-member
returns-in-None-clause-member g c =
    nothing_appended (names_of c.args.device.now)
    (said_fields (entry_parts c.args.entry.now) (exchange c.args.payload.now)) c.args.out.now.items
    c.in-None.ensures.fields

pub returns-in-None-clause-writable : goal.returns-in-None-clause-writable
returns-in-None-clause-writable g c =
    says_is_writable c.args.device.now (entry_parts c.args.entry.now) (exchange c.args.payload.now)
    c.accepted_device.ensures
