use Rattle.staged_store.proofs.reading.plan_under.Given as goal

-- the ledger of each count is that of its own token
abbrev pub ghosts-plan_counted : goal.ghosts-plan_counted
ghosts-plan_counted g a = record { name = a.blank.name; parts = a.blank.parts }
