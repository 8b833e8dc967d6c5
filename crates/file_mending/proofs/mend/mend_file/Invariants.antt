use Rattle.file_mending.proofs.mend.mend_file.Given as goal

-- the ledger of the count is that of its own token
abbrev pub ghosts-mend_counted : goal.ghosts-mend_counted
ghosts-mend_counted g a = record { name = a.blank.name; parts = a.blank.parts }
