use Rattle.pmb_reader.proofs.laws.some_packet_is_read.Goals as goal

pub returns : goal.returns
returns c = λ profile reader n events stands. c.some_packet_is_under_way.ensures profile reader.under_way events
    stands.inside
