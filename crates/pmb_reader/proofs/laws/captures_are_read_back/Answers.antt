use Rattle.pmb_reader.proofs.Accounts.{read_back}
use Rattle.pmb_reader.proofs.laws.captures_are_read_back.Goals as goal

pub returns : goal.returns
returns c = λ profile ts reader events outcomes end bus capture read finishes.
    read_back profile
    (λ us es all whole reads. (c.captures_read_as_written.ensures profile us es all bus whole).0 reads)
    ts reader events outcomes end capture read finishes
