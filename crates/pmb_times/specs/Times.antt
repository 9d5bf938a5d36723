-- What a `Times` was given: `TimesStandAt times text` says that these are the bytes since `new`.
-- What that says of its own fields is in `machine`, and nothing else needs it to be understood.
pub use Rattle.pmb_times.specs.machine.Standing.{TimesStandAt}
pub use Rattle.pmb_times.specs.Text.{gap_times, time_at, time_behind, time_of_last_word}
