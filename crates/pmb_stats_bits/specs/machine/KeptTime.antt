-- The fields of a time that is kept.
use Rattle.std.specs.Prelude.{ℕ, ◌≤◌, Option, List, option_map, take}
use Rattle.std.specs.Option.{ForSome}
use Rattle.pmb_stats_bits.specs.declared.kept_time.KeptTime.TheInside.{Inside}

abbrev pub kept_time : Inside → Option (List ℕ)
kept_time kept = option_map (λ n. take n kept.bytes) kept.length

abbrev pub IsWithin : Inside → Type 0
IsWithin kept = ForSome kept.length (λ n. n ≤ 40)
