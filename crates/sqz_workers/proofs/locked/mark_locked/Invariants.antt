use Rattle.sqz_workers.proofs.locked.mark_locked.Given as goal

abbrev pub ghosts-run_workers : goal.ghosts-run_workers
ghosts-run_workers g a = record { memory = a.self.now.heap.now; weak = a.weak }
