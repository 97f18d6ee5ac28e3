use Rattle.signal_office_file.proofs.waiting.await_turn.Given as goal

abbrev pub decreases-loop-patience : goal.decreases-loop-patience
decreases-loop-patience l = l.patience.left
