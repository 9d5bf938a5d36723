use Rattle.pmb_stats_texts.proofs.laws.one_objects.Goals as goal
use Rattle.pmb_stats_texts.proofs.Objects.{objects_alike}

pub returns : goal.returns
returns c stats setting other facts others digits devices stands again =
    objects_alike digits setting other facts others
    (c.one_telling.ensures stats setting other facts others stands again) devices
