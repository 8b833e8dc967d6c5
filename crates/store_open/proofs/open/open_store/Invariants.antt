use Rattle.store_open.proofs.open.open_store.Given as goal

-- the ledger of the count is that of its own token
abbrev pub ghosts-find_stale_counted : goal.ghosts-find_stale_counted
ghosts-find_stale_counted g a = record { name = a.blank.name; parts = a.blank.parts }
