use Rattle.pmb_trace.specs.Line.{in_seconds}
use Rattle.pmb_smbus.proofs.transfers.Transfers.take_said.Goals as goal

pub returns-in-Replies-clause-now : goal.returns-in-Replies-clause-now
returns-in-Replies-clause-now g c = rw c.in-Replies.is (c.take_reply.ensures.now (in_seconds c.args.time.now))

pub returns-in-Replies-clause-puts : goal.returns-in-Replies-clause-puts
returns-in-Replies-clause-puts g c = rw c.in-Replies.is (c.take_reply.ensures.puts (in_seconds c.args.time.now))

pub returns-in-Result-clause-now : goal.returns-in-Result-clause-now
returns-in-Result-clause-now g c = rw c.in-Result.is (c.take_result.ensures.now (in_seconds c.args.time.now))

pub returns-in-Result-clause-puts : goal.returns-in-Result-clause-puts
returns-in-Result-clause-puts g c = rw c.in-Result.is (c.take_result.ensures.puts (in_seconds c.args.time.now))
