use Rattle.sqz_marks.proofs.table.MarkTable.count.Given as goal

abbrev pub ghosts-grow : goal.ghosts-grow
ghosts-grow a = record { object = a.object }
