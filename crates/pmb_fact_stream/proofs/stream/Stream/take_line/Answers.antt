use Rattle.std.proofs.Common.{◌++◌, arith}
use Rattle.pmb_fact_stream.proofs.Wholes.{ends_line, rest_text}
use Rattle.pmb_fact_stream.proofs.stream.Stream.take_line.Goals as goal

pub returns-clause-knows : goal.returns-clause-knows
returns-clause-knows c b front knows between small none bytes count = record {
  places = c.take_line.ensures b.read front knows.places between small none bytes;
  word = c.texts_end_between_words.ensures.kept c.args.self.now.word b.read (b.read ++ rest_text front) knows.word
      between
      (ends_line c.texts_may_be_cut_between_words.ensures.lines b.read front);
  count = omega (arith, c.saturating_add-self.ensures, knows.count, count);
  late = knows.late;
  counts = knows.counts;
  tally = knows.tally;
}
