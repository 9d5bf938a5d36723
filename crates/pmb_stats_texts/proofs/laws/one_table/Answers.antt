use Rattle.pmb_stats_texts.proofs.laws.one_table.Goals as goal
use Rattle.pmb_stats_texts.proofs.Table.{table_alike}

pub returns : goal.returns
returns c stats setting other facts others digits devices stands again =
    table_alike setting other facts others (c.one_telling.ensures stats setting other facts others stands again) digits
    devices
