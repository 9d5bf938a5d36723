use Rattle.pmb_io.specs.Lines.{ended_lines}
use Rattle.pmb_build.specs.Answer.{most_build_line}
use Rattle.pmb_build.proofs.OneBuilding.{ended_first, one_text}
use Rattle.pmb_build.proofs.laws.ended_lines_come_first.Goals as goal

pub returns-clause-one : goal.returns-clause-one
returns-clause-one c profile bytes a b bus =
    one_text profile c.one_transaction.ensures (c.one_packet.ensures profile) (c.one_line_fault.ensures profile)
    (λ line why u. c.no_parse_with_a_fault.ensures profile line why u bus)
    (ended_lines most_build_line bytes) a b

pub returns-clause-front : goal.returns-clause-front
returns-clause-front c profile bytes more a b tally bus =
    ended_first profile c.one_transaction.ensures (c.one_packet.ensures profile) (c.one_line_fault.ensures profile)
    (λ line why u. c.no_parse_with_a_fault.ensures profile line why u bus)
    bytes more a b tally (c.ended_lines_stay.ensures most_build_line bytes more)
