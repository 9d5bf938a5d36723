use Rattle.pmb_capture.proofs.Endings.{some_front}
use Rattle.pmb_capture.proofs.capture.fronts_are_written.Goals as goal

pub returns : goal.returns
returns g c start now bytes text written =
    let reached = written.reached in
    let read = written.stands.reader in
    let end = c.scans_lead_on.ensures.ends now.scan reached written.bus read in
    some_front g.O.Output.text g.O.Output.Stands start now bytes text end.0 written end.1
    (λ rest. c.scans_lead_on.ensures.follows now.scan reached rest written.bus read)
    (c.ended_words_lead_on.ensures reached.text reached.events written.stands.lexer.ended)
