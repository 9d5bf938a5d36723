use Rattle.pmb_explained.proofs.Growth.{grown}
use Rattle.pmb_explained.proofs.explanation.write_text.Goals as goal

pub returns : goal.returns
returns g c = grown (g.E.Sink.told c.args.err.now) (g.E.Sink.told c.write_all.new.self) c.args.text.now
    c.write_all.result c.write_all.ensures.written c.write_all.ensures.front
