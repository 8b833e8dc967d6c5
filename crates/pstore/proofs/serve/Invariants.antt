use Rattle.pstore.proofs.serve.Given as goal

-- the ledger of the steps is the one that is opened here
abbrev pub ghosts-run_over : goal.ghosts-run_over
ghosts-run_over a = record { name = a.blank.name; parts = a.blank.parts }
