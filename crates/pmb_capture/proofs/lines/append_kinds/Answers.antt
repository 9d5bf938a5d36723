-- Each name goes before those of the kinds after it.
use Rattle.std.proofs.Common.{[], sym, ◌∙◌, append-nil, arith}
use Rattle.pmb_capture.proofs.lines.append_kinds.Goals as goal

pub returns-clause-names : goal.returns-clause-names
returns-clause-names c =
    sym (append-nil _)
    ∙ (c.append_kind.ensures.names []
    ∙ (c.append_kind-mark-4.ensures.names _
    ∙ (c.append_kind-mark-3.ensures.names _
    ∙ (c.append_kind-mark-2.ensures.names _ ∙ c.append_kind-mark.ensures.names _))))

-- there is room for each
pub append_kind-mark-requires-clause-room : goal.append_kind-mark-requires-clause-room
append_kind-mark-requires-clause-room c = omega arith

pub append_kind-mark-requires-2-clause-room : goal.append_kind-mark-requires-2-clause-room
append_kind-mark-requires-2-clause-room c = omega arith

pub append_kind-mark-requires-3-clause-room : goal.append_kind-mark-requires-3-clause-room
append_kind-mark-requires-3-clause-room c = omega arith

pub append_kind-mark-requires-4-clause-room : goal.append_kind-mark-requires-4-clause-room
append_kind-mark-requires-4-clause-room c = omega arith

pub append_kind-requires-clause-room : goal.append_kind-requires-clause-room
append_kind-requires-clause-room c = omega arith

pub returns-clause-short : goal.returns-clause-short
returns-clause-short c = omega arith
