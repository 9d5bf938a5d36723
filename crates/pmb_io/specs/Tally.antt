-- What is counted.
use Rattle.std.specs.Prelude.{◌≡◌, ℕ, ◌+◌}
use Rattle.pmb_io.specs.Count.{capped}
use Rattle.pmb_io.specs.declared.tally.Tally.{Tally}

abbrev pub with_packet : Tally → Tally
with_packet tally = record tally { packets = capped (tally.packets + 1) }

abbrev pub with_refusal : Tally → Tally
with_refusal tally = record tally { refusals = capped (tally.refusals + 1) }

-- as many packets and refusals
pub record IsTallyOf (packets refusals : ℕ) (tally : Tally) : Type 0 where
  pub packets_counted : tally.packets ≡ capped packets
  pub refusals_counted : tally.refusals ≡ capped refusals
