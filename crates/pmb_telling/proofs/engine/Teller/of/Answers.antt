use Rattle.std.proofs.Common.{refl}
use Rattle.pmb_telling.proofs.Reading.{first_behind, words_begin}
use Rattle.pmb_telling.proofs.engine.Teller.of.Goals as goal

pub returns-clause-begins : goal.returns-clause-begins
returns-clause-begins g c = record {
  made = record { choice = refl; profile = refl; reads = c.requires.same; bad_words = refl };
  behind = first_behind g.K.Keeper.Keeps _ _ _ _ _
      (words_begin g.K.Keeper.Keeps _ _ _ _ _ _ refl c.requires.same c.requires.stream c.requires.scan);
}
