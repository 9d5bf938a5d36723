-- What a `Seen` stands for.
use Rattle.std.specs.Prelude.{◌≡◌}
use Rattle.pmb_unknown_start.specs.Late.{HasSeen}
use Rattle.pmb_json_objects.specs.declared.seen.Seen.{Seen}
use Rattle.pmb_json_objects.specs.Seen.{SeenData}

-- Its profile is the one of these devices, and its `Late` was given what went before.
pub record Sees (seen : Seen) (known : SeenData) : Type 0 where
  pub digits : seen.digits ≡ known.digits
  pub profile : seen.profile.now ≡ known.profile
  pub late : HasSeen seen.late.now known.profile known.start known.before
