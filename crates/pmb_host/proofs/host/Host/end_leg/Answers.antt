use Rattle.std.proofs.Common.{sym, ◌∙◌, arith}
use Rattle.pmb_host.proofs.Behind.{same_legs}
use Rattle.pmb_host.proofs.Legs.{all_written, first_ask, next_leg}
use Rattle.pmb_host.proofs.host.Host.end_leg.Goals as goal

pub returns-then-from-legs : goal.returns-then-from-legs
returns-then-from-legs c = λ standing heard at.
    let same = same_legs c.args.self.now standing.job at.inside.writing.job_is in
    let legs = c.legs.ensures in
    let leg = c.from.ensures in
    let less = c.if-from-legs.true in
    c.start.ensures standing heard (next_leg c.args.self.now standing.job heard at
    (omega (arith, same, legs, leg, less)))

pub returns-then-is_some : goal.returns-then-is_some
returns-then-is_some c = λ standing heard at.
    let same = same_legs c.args.self.now standing.job at.inside.writing.job_is in
    let legs = c.legs.ensures in
    let leg = c.from.ensures in
    let last = c.if-from-legs.false in
    c.ask.ensures standing heard (first_ask c.args.self.now standing.job heard at (omega (arith, same, legs, leg, last))
    (sym c.is_some.ensures ∙ c.if-is_some.true))

pub returns-else-is_some : goal.returns-else-is_some
returns-else-is_some c = λ standing heard at.
    let same = same_legs c.args.self.now standing.job at.inside.writing.job_is in
    let legs = c.legs.ensures in
    let leg = c.from.ensures in
    let last = c.if-from-legs.false in
    c.stop.ensures standing heard (all_written c.args.self.now standing.job heard at
    (omega (arith, same, legs, leg, last)) (sym c.is_some.ensures ∙ c.if-is_some.false))
