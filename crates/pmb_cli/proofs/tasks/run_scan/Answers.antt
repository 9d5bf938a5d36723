use Rattle.std.proofs.Common.{inr}
use Rattle.pmb_cli.proofs.ScanStatuses.{did_draft, tells_draft}
use Rattle.pmb_cli.proofs.tasks.run_scan.Goals as goal

-- A capture is read, and its first profile written, or there is none.
pub returns : goal.returns
returns g c = record {
  did = did_draft g.R.Source.told g.W.Sink.told c.args.reader.now c.write_draft-drafted.new.reader c.args.out.now
      c.write_draft-drafted.new.writer c.write_draft-drafted.result c.end_draft.result c.end_draft.ensures.status
      c.write_draft-drafted.ensures;
  tells = tells_draft g.R.Source.told g.W.Sink.told c.args.reader.now c.write_draft-drafted.new.reader c.args.out.now
      c.write_draft-drafted.new.writer c.write_draft-drafted.result c.end_draft.result c.end_draft.ensures.status
      c.write_draft-drafted.ensures;
  bad = λ _. inr (inr tt);
  bad_format = λ none. absurd none;
  memory = λ _. tt;
  err_text = c.end_draft.ensures.err_told;
  quiet = c.end_draft.ensures.quiet;
}
