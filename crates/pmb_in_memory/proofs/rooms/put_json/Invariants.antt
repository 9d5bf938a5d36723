use Rattle.pmb_in_memory.proofs.rooms.put_json.Given as goal

-- the room is the one that is lent
abbrev pub ghosts-put_json_at : goal.ghosts-put_json_at
ghosts-put_json_at a = record { name = a.room.ghost_name; before = a.room.now }
