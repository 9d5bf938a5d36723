use Rattle.std.proofs.Common.{◌≡◌, ◌+◌, ◌-◌, min, length}
use Rattle.std.specs.Vec.{vec_len}
use Rattle.pmb_preamble.specs.Front.{NoMark, Reads, most_profile}
use Rattle.pmb_preamble.proofs.FrontReads.{FewReads}
use Rattle.pmb_preamble.proofs.front_reader.front.Given as goal

-- what was read has no line `%%`, each read gave a byte or more, and none failed or ended
abbrev pub invariant-loop-piece : goal.invariant-loop-piece
invariant-loop-piece g l = record {
  failures : (g.R.Source.told l.reader).failures ≡ (g.R.Source.told l.fn.reader).failures;
  not_ended : (g.R.Source.told l.reader).ended ≡ (g.R.Source.told l.fn.reader).ended;
  counted : vec_len l.bytes ≡ length l.bytes.items;
  few : FewReads (min (length l.bytes.items) (most_profile + 4)) (g.R.Source.told l.fn.reader).reads
      (g.R.Source.told l.reader).reads;
  reads : Reads g.R.Source.told l.fn.reader l.reader l.bytes.items;
  none : NoMark l.bytes.items;
}

-- the bytes that may still come
abbrev pub decreases-loop-piece : goal.decreases-loop-piece
decreases-loop-piece g l = (most_profile + 4) - length l.bytes.items
