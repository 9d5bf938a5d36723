use Rattle.std.proofs.Common.{◌≡◌, ◌≢◌, ◌+◌, ◌-◌, ◌<◌, ◌≤◌, ◌⊎◌, inl, inr, arith}
use Rattle.pmb_linear.proofs.Linear11Lemmas.{zero_is_canonical}
use Rattle.pmb_linear.proofs.Linear11Codes.{zero_at, word_is_written}
use Rattle.pmb_linear.proofs.linear11.code_at.Goals as goal
use Rattle.pmb_linear.proofs.linear11.code_at.Goals.{in_default-via-in-512+else-power-gt0, in_default-via-in_default-1}

pub returns-in-1024-clause-written : goal.returns-in-1024-clause-written
returns-in-1024-clause-written c = (omega arith, zero_is_canonical)

pub returns-in-1024-clause-value : goal.returns-in-1024-clause-value
returns-in-1024-clause-value c = zero_at c.args.index c.args.power c.in-1024.is

pub returns-in-2048-clause-written : goal.returns-in-2048-clause-written
returns-in-2048-clause-written c = word_is_written c.word.result 1536 (c.args.power + 1) c.word.ensures.holds
    (λ same. omega arith) (inr (inr (omega arith)))

pub returns-in-512-clause-written : goal.returns-in-512-clause-written
returns-in-512-clause-written c = word_is_written c.word-in-512.result 0 (c.args.power - 1) c.word-in-512.ensures.holds
    (λ same. omega arith) (inr (inl (omega arith)))

pub returns-in_default-clause-written : goal.returns-in_default-clause-written
returns-in_default-clause-written c =
    elim c.in_default.branch [
      | in_default-via-in-512+else-power-gt0 w ↦ word_is_written c.word-in_default.result c.args.index c.args.power
          c.word-in_default.ensures.holds (λ same. omega arith) (inl (omega arith))
      | in_default-via-in_default-1 w ↦
          let some : c.args.index ≢ 1024 = λ same. omega arith in
          let place : (c.args.power ≡ 0) ⊎ ((c.args.index < 512) ⊎ (1536 ≤ c.args.index)) = grind arith in
          word_is_written c.word-in_default.result c.args.index c.args.power c.word-in_default.ensures.holds some place
    ]
