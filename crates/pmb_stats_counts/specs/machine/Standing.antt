-- What fields say of the facts that were given.
use Rattle.std.specs.Prelude.{◌≡◌, ℕ, ◌+◌, Bool, not, if◌then◌else◌, List, slice_index}
use Rattle.std.specs.List.{list_any}
use Rattle.pmb_command.specs.Parts.{DeviceParts}
use Rattle.pmb_facts.specs.Fact.{FactData}
use Rattle.pmb_io.specs.Count.{capped}
use Rattle.pmb_stats_counts.specs.declared.counts.SortCounts.{SortCounts}
use Rattle.pmb_stats_counts.specs.declared.fail.Fail.{Fail}
use Rattle.pmb_stats_counts.specs.declared.fail.Fail.TheVariants.{Refusals, BadTokens, Nacks, Alerts}
use Rattle.pmb_stats_counts.specs.declared.fail.Fail.TheVariants.{Faults, NoneRead}
use Rattle.pmb_stats_counts.specs.declared.fail.Signs.{Signs}
use Rattle.pmb_stats_counts.specs.declared.sort.Sort.{Sort}
use Rattle.pmb_stats_counts.specs.declared.totals.Totals.{Totals}
use Rattle.pmb_stats_counts.specs.Counts.{bad_tokens, count_in_all, ends_packet, is_bad_token, packets}
use Rattle.pmb_stats_counts.specs.Fails.{is_alert, is_refusal, is_refused, some}
use Rattle.pmb_stats_counts.specs.Faults.{reads_fault}
use Rattle.pmb_stats_counts.specs.Sort.{place}

pub record HasCounted (counts : SortCounts) (facts : List FactData) : Type 0 where
  pub each : (sort : Sort) → slice_index counts.counts (place sort) ≡ capped (count_in_all sort facts)

pub record TotalsStandAt (totals : Totals) (facts : List FactData) : Type 0 where
  pub sorts : HasCounted totals.sorts facts
  pub packets_are : totals.packets ≡ capped (packets facts)
  pub bad_tokens_are : totals.bad_tokens ≡ capped (bad_tokens facts)

pub record SignsStandAt (signs : Signs) (profile : List DeviceParts) (facts : List FactData) : Type 0 where
  pub refusals : signs.refusals ≡ some is_refusal facts
  pub bad_tokens_came : signs.bad_tokens ≡ some is_bad_token facts
  pub nacks : signs.nacks ≡ some is_refused facts
  pub alerts : signs.alerts ≡ some is_alert facts
  pub faults : signs.faults ≡ some (reads_fault profile) facts
  pub packets_came : signs.packets ≡ some ends_packet facts

-- a count after one that may be one more
abbrev pub count_if : ℕ → Bool → ℕ
count_if count holds = if holds then capped (count + 1) else count

-- what signs say
abbrev pub sign : Signs → Fail → Bool
sign signs Refusals = signs.refusals
sign signs BadTokens = signs.bad_tokens
sign signs Nacks = signs.nacks
sign signs Alerts = signs.alerts
sign signs Faults = signs.faults
sign signs NoneRead = not signs.packets

abbrev pub is_given : Signs → List Fail → Bool
is_given signs words = list_any (sign signs) words
