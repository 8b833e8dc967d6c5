use Rattle.base_rows.proofs.restrictions.holds.Given as goal

-- the ledger of the steps is the one that is opened here
abbrev pub ghosts-holds_over : goal.ghosts-holds_over
ghosts-holds_over a = record { name = a.blank.name; parts = a.blank.parts }
