use Rattle.pmb_fact_stream.proofs.Standing.{times_behind}
use Rattle.pmb_fact_stream.proofs.Told.{told_bytes}
use Rattle.pmb_fact_stream.proofs.visits.KeptStreamVisitor.visit_bytes.Goals as goal

pub returns : goal.returns
returns g c start reached text stands = record {
  begins = stands.begins;
  told = λ b begins.
      let told = stands.told b begins in
      let taken = c.take_text.ensures in
      told_bytes g.K.Keeper.Keeps b start c.args.self.now c.take_text.new.self reached text told c.args.bytes.now
      taken.same taken.packet
      (times_behind c.args.self.now.stream c.take_text.new.self reached c.args.bytes.now taken.kept taken.times
      told.at.times)
      taken.knows;
}
