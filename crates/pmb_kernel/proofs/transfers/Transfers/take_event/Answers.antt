use Rattle.std.proofs.Common.{length, ap, arith}
use Rattle.pmb_kernel.proofs.LineWords.{time_within}
use Rattle.pmb_kernel.proofs.transfers.Transfers.take_event.Goals as goal

pub take_said-requires : goal.take_said-requires
take_said-requires g c = omega (arith, ap length c.event_time-time.ensures, time_within c.args.event.front.now)
