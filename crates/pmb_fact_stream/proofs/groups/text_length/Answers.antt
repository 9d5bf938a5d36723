use Rattle.std.proofs.Common.{length, sym, ap, ◌∙◌}
use Rattle.pmb_bus.specs.declared.event.Event.{Event}
use Rattle.pmb_bus.specs.Event.{text_of}
use Rattle.pmb_fact_stream.proofs.Walking.{length-byte_text}
use Rattle.pmb_fact_stream.proofs.groups.text_length.Goals as goal

pub returns-in-Byte : goal.returns-in-Byte
returns-in-Byte c = sym (ap (λ (event : Event). length (text_of event)) c.in-Byte.is
    ∙ length-byte_text c.in-Byte.field-0)
