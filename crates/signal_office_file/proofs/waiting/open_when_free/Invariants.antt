use Rattle.signal_office_file.proofs.waiting.open_when_free.Given as goal

abbrev pub decreases-loop-files : goal.decreases-loop-files
decreases-loop-files l = l.patience.left
