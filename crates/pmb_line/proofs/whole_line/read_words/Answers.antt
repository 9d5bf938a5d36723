use Rattle.pmb_transaction.specs.Transaction.{transaction_data}
use Rattle.pmb_line.specs.Left.{words_left}
use Rattle.pmb_line.specs.machine.Left.{end}
use Rattle.pmb_line.proofs.Firsts.{reads_line, reads_ok, reads_err, reads_within}
use Rattle.pmb_line.proofs.whole_line.read_words.Goals as goal

pub returns : goal.returns
returns c =
    let line = c.args.line.now in
    let t = transaction_data c.read_any.new.into in
    let whole = reads_line line (words_left c.of.result) (end c.of.result) t c.read_any.result c.of.ensures.left
    c.of.ensures.end c.read_any.ensures in
    record {
      ok = reads_ok line t c.read_any.result whole;
      within = reads_within line t c.read_any.result whole;
      err =
          reads_err line t c.read_any.result whole;
    }
