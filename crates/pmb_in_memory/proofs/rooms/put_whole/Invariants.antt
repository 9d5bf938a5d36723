use Rattle.pmb_in_memory.proofs.rooms.put_whole.Given as goal

-- the room is the one that is lent
abbrev pub ghosts-put_whole_at : goal.ghosts-put_whole_at
ghosts-put_whole_at a = record { name = a.room.ghost_name; before = a.room.now }
