use Rattle.std.proofs.Common.{◌∙◌, ◌++◌, ap, option_map, subst, sym}
use Rattle.std.proofs.lemmas.List.{append-nil}
use Rattle.pmb_stats.proofs.statistics.see_observed.Goals as goal
use Rattle.pmb_stats.specs.machine.Observed.{told}
use Rattle.pmb_stats_room.specs.Standing.{RoomStandsAt}

pub returns-in-Nothing : goal.returns-in-Nothing
returns-in-Nothing c profile before stands =
    subst (RoomStandsAt c.args.room.now profile)
    (sym (ap (λ o. before ++ told (option_map (λ time. time.now) c.args.time) o) c.in-Nothing.is
    ∙ append-nil before)) stands
