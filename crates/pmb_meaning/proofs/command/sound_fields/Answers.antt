use Rattle.pmb_command.specs.Entry.{entry_parts}
use Rattle.pmb_meaning.specs.Data.{exchange}
use Rattle.pmb_meaning.proofs.SoundLemmas.{found_are_sound}
use Rattle.pmb_meaning.proofs.command.sound_fields.Goals as goal

pub returns-clause-sound : goal.returns-clause-sound
returns-clause-sound c =
    found_are_sound (entry_parts c.args.entry.now) (exchange c.args.payload.now) c.said_fields.result
    c.said_fields.ensures
