use Rattle.std.proofs.Common.{[], ◌∷◌, ◌++◌, List, refl, subst, sym}
use Rattle.pmb_command.specs.Parts.{DeviceParts}
use Rattle.pmb_json_objects.specs.Head.{head_of}
use Rattle.pmb_keeper.specs.Setting.{fact_seen, setting_of}
use Rattle.pmb_observed.specs.Observing.{observations}
use Rattle.pmb_stats.proofs.Observations.{one_more}
use Rattle.pmb_stats.proofs.statistics.StatisticsKeeper.keep.Goals as goal
use Rattle.pmb_stats_counts.specs.Standing.{SignsStandAt}
use Rattle.pmb_stats_room.specs.Standing.{RoomStandsAt}

pub returns : goal.returns
returns c = record {
  keeps = λ known what facts sees said stands.
      let fact = fact_seen known (head_of c.args.fact.head) what in
      record {
        profile = stands.profile;
        totals = c.count.ensures facts fact stands.totals said;
        devices = c.count-2.ensures.counted facts fact stands.devices said;
        addresses = c.count-2.ensures.addresses stands.addresses;
        signs = subst (λ (p : List DeviceParts). SignsStandAt c.see.new.self p (facts ++ fact ∷ [])) stands.profile
            (c.see.ensures facts fact
            (subst (λ (p : List DeviceParts). SignsStandAt c.args.self.now.signs p facts) (sym stands.profile)
            stands.signs) said);
        span = c.see-2.ensures facts fact stands.span refl;
        room = subst (RoomStandsAt c.see_observed.new.room known.profile)
            (one_more known facts (head_of c.args.fact.head) what _ (c.observe.ensures known what _ sees said))
            (c.see_observed.ensures known.profile (observations (setting_of known) facts) stands.room);
      };
}
