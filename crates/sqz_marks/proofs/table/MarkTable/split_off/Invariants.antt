use Rattle.sqz_marks.proofs.table.MarkTable.split_off.Given as goal

abbrev pub ghosts-part : goal.ghosts-part
ghosts-part a = record { weight = a.weight }
