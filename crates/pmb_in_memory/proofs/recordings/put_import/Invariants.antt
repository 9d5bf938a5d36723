use Rattle.pmb_in_memory.proofs.recordings.put_import.Given as goal

-- the room is the one that is lent
abbrev pub ghosts-put_import_at : goal.ghosts-put_import_at
ghosts-put_import_at a = record { name = a.room.ghost_name; before = a.room.now }
