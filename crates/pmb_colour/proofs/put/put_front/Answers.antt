use Rattle.std.proofs.Common.{◌∙◌, ℕ, List, [], ◌∷◌, ◌++◌, ap, append_assoc}
use Rattle.pmb_colour.proofs.Puts.{puts_behind}
use Rattle.pmb_colour.proofs.put.put_front.Goals as goal

-- the front and the byte wait behind what waited
pub returns-clause-ok : goal.returns-clause-ok
returns-clause-ok g c =
    let made = c.make_room.new.waiting.items in
    puts_behind c.texts_add_up.ensures.both c.texts_add_up.ensures.waits _ _ _ _ _ _
    (c.append-2.ensures.says
    ∙ (ap (λ (t : List ℕ). t ++ c.args.byte ∷ []) c.append.ensures.says
    ∙ append_assoc made c.args.line.now (c.args.byte ∷ [])))
    c.in_ok-make_room.ensures.ok
