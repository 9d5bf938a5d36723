-- What was put out, and what still waited, is written.
use Rattle.pmb_summary.proofs.Sent.{sent}
use Rattle.pmb_summary.proofs.summary.write_all_objects.Goals as goal

pub returns-clause-written : goal.returns-clause-written
returns-clause-written g c setting facts stands =
    sent c.texts_add_up.ensures.both c.texts_add_up.ensures.written _ _ _ _ _ _ _ c.send.result c.new-waiting.ensures
    (c.in_ok-put_objects.ensures.puts setting facts stands) c.send.ensures.ok c.send.ensures.empty
