use Rattle.std.proofs.Common.{◌≡◌, List, ℕ, Option, subst, sym}
use Rattle.std.specs.Io.KnownBytes.{Appends}
use Rattle.pmb_colour.specs.declared.lines.Lines.{Lines}
use Rattle.pmb_colour.specs.Onward.{all_pieces}
use Rattle.pmb_colour.specs.Pieces.{shown}
use Rattle.pmb_colour.specs.machine.Painter.{held_by, inner_of}
use Rattle.pmb_colour.proofs.Gone.{all_sent, as_appends, holds_more, shown_all, went_well}
use Rattle.pmb_colour.proofs.painted.Painted.end.Goals as goal

-- what was held went on too
pub returns-clause-shows : goal.returns-clause-shows
returns-clause-shows g c =
    let old = c.args.self in
    let told = g.W.Sink.told in
    let before = g.S.Start.before in
    let inner = inner_of c.flush-flushed.new.self in
    subst (λ w. (told w).failures ≡ 0 → Appends before (told w).held (shown (all_pieces g.S.Start.lines old.told.bytes)))
    (sym c.into_inner.ensures)
    (λ none. let well = went_well c.flush-flushed.result _ _ c.flush-flushed.ensures.failed none
    c.flush-flushed.ensures.puts in
    subst (λ (ls : Option Lines). Appends before (told inner).held (shown (all_pieces ls old.told.bytes))) old.same
    (subst (λ (t : List ℕ). Appends before (told inner).held t)
    (shown_all old.lines old.told.bytes (held_by old.painter).line (old.line well.0))
    (as_appends before (told inner).held _
    (holds_more before (told (inner_of old.painter)).held (told inner).held _ _ (old.shows well.0)
    (all_sent _ _ _ _ _ (old.sent well.0) c.flush-flushed.ensures.sent well.1)))))
