use Rattle.pmb_laws.proofs.RunCaptures.{run_checked, run_spells}
use Rattle.pmb_laws.proofs.laws.runs_are_captures.Goals as goal

pub returns-clause-captured : goal.returns-clause-captured
returns-clause-captured c profile bytes text tally bus run =
    run_spells profile (λ t events. c.packets_are_bytes.ensures profile t events bus) bytes text tally run

pub returns-clause-checked : goal.returns-clause-checked
returns-clause-checked c profile bytes text checked tally counted bus run checks =
    run_checked profile (λ t events. c.packets_are_bytes.ensures profile t events bus) c.one_spelling.ensures
    c.spelled_has_no_bad_word.ensures
    (λ ts events outcomes capture. (c.captures_read_as_written.ensures profile ts events outcomes bus capture).0) bytes
    text checked tally counted run checks
