use Rattle.pmb_in_memory.proofs.under.put_json_under.Given as goal

-- the room is the one that is lent
abbrev pub ghosts-put_json_under_at : goal.ghosts-put_json_under_at
ghosts-put_json_under_at a = record { name = a.room.ghost_name; before = a.room.now }
