use Rattle.pmb_reader.proofs.Modes.{behind_passed_stop, one_packet_more}
use Rattle.pmb_reader.proofs.reader.Reader.pass.Goals as goal

pub returns-in-Stop : goal.returns-in-Stop
returns-in-Stop c = λ profile n stands.
    behind_passed_stop profile _ n c.args.event c.in-Stop.is
    (record {
      mode = tt;
      counted = one_packet_more _ _ n stands.counted c.saturating_add-self.ensures;
      inside =
          stands.inside;
    })
