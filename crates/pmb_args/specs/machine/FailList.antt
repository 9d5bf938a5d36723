-- The fields of a list of what makes the status 1.
use Rattle.std.specs.Prelude.{◌≤◌, List, take}
use Rattle.pmb_stats_counts.specs.declared.fail.Fail.{Fail}
use Rattle.pmb_args.specs.declared.fail_list.FailList.TheInside.{Inside}

abbrev pub fail_list : Inside → List Fail
fail_list list = take list.length list.fails

abbrev pub IsWithin : Inside → Type 0
IsWithin list = list.length ≤ 6
