use Rattle.office_lives.proofs.failing.served_over.Goals as goal

pub returns-clause-clean : goal.returns-clause-clean
returns-clause-clean g c clean = c.in_ok-files.ensures.clean (c.in_ok-outcome.ensures.clean clean)

pub returns-clause-made : goal.returns-clause-made
returns-clause-made g c clean databases numbered =
    let two = c.in_ok-outcome.ensures.made clean in
    (two.0, two.1, c.in_ok-files.ensures.found (c.in_ok-outcome.ensures.clean clean) databases numbered two.0 two.2, two.3, two.4)
