use Rattle.std.proofs.Common.{◌≡◌, ◌++◌, ℕ, List, inl, arith, take, subst, sym}
use Rattle.std.specs.Io.KnownBytes.{Consumes}
use Rattle.pmb_preamble.proofs.FrontReads.{grown}
use Rattle.pmb_files.proofs.Heads.{both_read, none_more, none_read}
use Rattle.pmb_files.proofs.head.read_text.Goals as goal

pub loop-piece-init : goal.loop-piece-init
loop-piece-init g c =
    let left = (g.R.Source.told c.args.reader.now).left in
    subst (λ (bytes : List ℕ). Consumes left left bytes) (sym c.new-bytes.ensures.items) (none_read left)

-- What was read is kept.
pub loop-piece-preserved : goal.loop-piece-preserved
loop-piece-preserved g c =
    let old = (g.R.Source.told c.args.reader.now).left in
    let middle = (g.R.Source.told c.loop-piece.reader).left in
    let new = (g.R.Source.told c.read.new.self).left in
    let piece = take c.in-Ok.count c.read.new.buffer in
    let kept : c.extend_from_slice.new.self.items ≡ c.loop-piece.bytes.items ++ piece =
    grown c.extend_from_slice.result c.is_err.result c.extend_from_slice.new.self.items c.loop-piece.bytes.items
    piece c.is_err.ensures.value c.if-is_err.false c.extend_from_slice.ensures.items in
    subst (λ (bytes : List ℕ). Consumes old new bytes) (sym kept)
    (both_read old middle new c.loop-piece.bytes.items piece c.loop-piece.invariant c.in-Ok.ensures.bytes.0)

-- It has ended.
pub returns-then-count-eq0-clause-read : goal.returns-then-count-eq0-clause-read
returns-then-count-eq0-clause-read g c =
    let old = (g.R.Source.told c.args.reader.now).left in
    let middle = (g.R.Source.told c.loop-piece.reader).left in
    let new = (g.R.Source.told c.read.new.self).left in
    none_more old middle new c.loop-piece.bytes.items c.loop-piece.invariant
    (subst (λ (n : ℕ). Consumes middle new (take n c.read.new.buffer)) c.if-count-eq0.true c.in-Ok.ensures.bytes.0)

pub returns-then-count-eq0-clause-ended : goal.returns-then-count-eq0-clause-ended
returns-then-count-eq0-clause-ended g c = inl (c.in-Ok.ensures.bytes.1 c.if-count-eq0.true (omega arith))
