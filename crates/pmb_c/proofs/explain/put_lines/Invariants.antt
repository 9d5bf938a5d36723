use Rattle.pmb_c.proofs.explain.put_lines.Given as goal

-- the room is the one that is lent
abbrev pub ghosts-put_lines_at : goal.ghosts-put_lines_at
ghosts-put_lines_at a = record { name = a.room.ghost_name; before = a.room.now }
