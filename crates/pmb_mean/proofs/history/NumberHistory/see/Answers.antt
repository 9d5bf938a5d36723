use Rattle.std.proofs.Common.{◌-◌, ◌^◌, ◌<◌, ◌≤◌, [], ◌∷◌, ◌++◌, subst, sym, ap, ◌∙◌, arith}
use Rattle.pmb_mean.specs.machine.History.{HistoryData, HistoryStandsAt}
use Rattle.pmb_mean.proofs.Standing.{stands_full, stands_more}
use Rattle.pmb_mean.proofs.history.NumberHistory.see.Goals as goal

pub returns-then-self-lt-MOST : goal.returns-then-self-lt-MOST
returns-then-self-lt-MOST c numbers stands =
    let h = c.args.self.now in
    let n = c.args.number.now in
    let room : h.count < 2 ^ 64 - 1 =
    omega (arith, ap (λ (k : HistoryData). k.count) c.self.view_is, c.if-self-lt-MOST.true) in
    subst (λ (k : HistoryData). HistoryStandsAt k (numbers ++ n ∷ []))
    (sym (c.self-then-self-lt-MOST.view_is ∙ c.after.ensures)) (stands_more h n numbers room stands)

pub returns-else-self-lt-MOST : goal.returns-else-self-lt-MOST
returns-else-self-lt-MOST c numbers stands =
    let h = c.args.self.now in
    let full : 2 ^ 64 - 1 ≤ h.count =
    omega (arith, ap (λ (k : HistoryData). k.count) c.self.view_is, c.if-self-lt-MOST.false) in
    stands_full h c.args.number.now numbers full stands
