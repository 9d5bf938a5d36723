-- What is put out of a device.
use Rattle.std.specs.Prelude.{◌≡◌, ℕ, ◌&&◌, if◌then◌else◌, Some, List, [], flat_map}
use Rattle.pmb_command.specs.Parts.{device_with}
use Rattle.pmb_facts.specs.Fact.{FactData}
use Rattle.pmb_json_objects.specs.Object.{is_wanted}
use Rattle.pmb_json_text.specs.Member.{object_line}
use Rattle.pmb_keeper.specs.Setting.{Setting}
use Rattle.pmb_stats.specs.Standing.{StatsStand}
use Rattle.pmb_stats_counts.specs.Counts.{has_come}
use Rattle.pmb_stats_objects.specs.declared.pages.DevicePages.{DevicePages}
use Rattle.pmb_stats_objects.specs.Objects.{device_object}

-- its statistics are of these facts, and the profile has it
pub record PagesStand (pages : DevicePages) (setting : Setting) (facts : List FactData) : Type 0 where
  pub stats : StatsStand pages.stats.now setting facts
  pub device : device_with pages.addr setting.profile ≡ Some pages.profile.now

module _ (digits : ℕ) (setting : Setting) (facts : List FactData) (devices : List ℕ) where
  -- its line, if something was counted for it and it is wanted
  abbrev pub device_line : ℕ → List ℕ
  device_line addr =
      if has_come addr facts && is_wanted devices (Some addr)
      then object_line (device_object digits setting facts addr).members
      else []

  abbrev pub device_lines : List ℕ → List ℕ
  device_lines addrs = flat_map device_line addrs
