use Rattle.std.proofs.Common.{◌≡◌, ℕ, ◌<◌, ◌∙◌, List, arith, inl, inr, subst, sym}
use Rattle.std.proofs.lemmas.Option.{slice_get_cases}
use Rattle.pmb_command.specs.Parts.{DeviceParts}
use Rattle.pmb_observed.specs.Observing.{observations}
use Rattle.pmb_stats.proofs.laws.one_telling.Goals as goal
use Rattle.pmb_stats_counts.specs.Alike.{CountAlike}
use Rattle.pmb_stats_counts.specs.Counts.{of_device}
use Rattle.pmb_stats_room.specs.Standing.{RoomStandsAt}

pub returns : goal.returns
returns c stats setting other facts others stands again =
    let profile : setting.profile ≡ other.profile = sym stands.profile ∙ again.profile in
    let devices : ((addr : ℕ) → addr < 128 → CountAlike (of_device addr facts) (of_device addr others))
    = λ addr small.
    elim (slice_get_cases stats.devices addr).1 [
      | inl at ↦ c.one_count.ensures.counts at.0 (of_device addr facts) (of_device addr others)
          (stands.devices.each addr at.0 at.2) (again.devices.each addr at.0 at.2)
      | inr past ↦ absurd (omega (arith, past.0, stands.addresses))
    ] in
    record {
      profile = profile;
      totals = c.one_count.ensures.totals stats.totals facts others stands.totals again.totals;
      devices = devices;
      come = λ addr small. sym (c.devices_that_came_have_counts.ensures addr facts) ∙ (devices addr small).any
          ∙ c.devices_that_came_have_counts.ensures addr others;
      first = sym stands.span.first ∙ again.span.first;
      last = sym stands.span.last ∙ again.span.last;
      spots = c.one_room.ensures stats.room setting.profile (observations setting facts) (observations other others)
          stands.room
          (subst (λ (p : List DeviceParts). RoomStandsAt stats.room p (observations other others)) (sym profile)
          again.room);
    }
