use Rattle.std.proofs.Common.{List, ℕ, ◌++◌}
use Rattle.pmb_io.proofs.Running.{put_and_sent}
use Rattle.pmb_telling.specs.Text.{WritesTold}
use Rattle.pmb_telling.specs.Teller.{counted_by}
use Rattle.pmb_capture_reader.proofs.Reading.{end_made}
use Rattle.pmb_capture_reader.proofs.reader.tell_end.Goals as goal

pub returns-in-Ok-send-clause-told : goal.returns-in-Ok-send-clause-told
returns-in-Ok-send-clause-told c choice profile after given told stands =
    end_made choice profile after c.end.new.self given told c.clear.new.self.bytes.items
    c.send.new.writer.bytes.items c.clear.ensures
    (put_and_sent (λ (made : List ℕ). WritesTold choice profile after given (told ++ made)
    (counted_by c.end.new.self)) _ _ _ _ _ _ c.clear-2.ensures c.in-Ok-send.ensures.empty
    (c.in-Ok.ensures.ends choice profile after given told stands) c.in-Ok-send.ensures.ok)
