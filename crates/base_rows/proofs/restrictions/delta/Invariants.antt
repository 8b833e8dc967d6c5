use Rattle.base_rows.proofs.restrictions.delta.Given as goal

-- the ledger of the steps is the one that is opened here
abbrev pub ghosts-delta_over : goal.ghosts-delta_over
ghosts-delta_over a = record { name = a.blank.name; parts = a.blank.parts }
