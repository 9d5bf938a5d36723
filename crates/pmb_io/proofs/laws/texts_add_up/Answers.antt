use Rattle.std.proofs.Common.{[], refl}
use Rattle.pmb_io.proofs.Writing.{appends_nothing, writes_all, writes_nothing, writes_then}
use Rattle.pmb_io.proofs.laws.texts_add_up.Goals as goal

pub returns : goal.returns
returns c = record {
  both = writes_then;
  waits = λ held waiting text. record { sent = []; appended = appends_nothing held; whole = refl };
  nothing = writes_nothing;
  written = writes_all;
}
