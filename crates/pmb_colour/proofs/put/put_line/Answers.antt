use Rattle.std.proofs.Common.{◌∙◌, ℕ, List, [], ◌∷◌, ◌++◌, codes, ap, sym, append_assoc}
use Rattle.pmb_colour.specs.Painting.{line_pieces}
use Rattle.pmb_colour.specs.Pieces.{plain, shown}
use Rattle.pmb_colour.proofs.Puts.{puts_behind, shown_append}
use Rattle.pmb_colour.proofs.put.put_line.Goals as goal

-- the line and its LF wait behind what waited
pub returns-clause-ok : goal.returns-clause-ok
returns-clause-ok g c =
    let made = c.make_room.new.waiting.items in
    let pieces = line_pieces c.args.lines c.args.line.now in
    puts_behind c.texts_add_up.ensures.both c.texts_add_up.ensures.waits _ _ _ _ _ _
    (c.append.ensures.says
    ∙ (ap (λ (t : List ℕ). t ++ codes "\n") c.append_line.ensures.says
    ∙ (append_assoc made (shown pieces) (codes "\n")
    ∙ ap (λ (t : List ℕ). made ++ t) (sym (shown_append pieces (plain (0x0a ∷ []) ∷ []))))))
    c.in_ok-make_room.ensures.ok
