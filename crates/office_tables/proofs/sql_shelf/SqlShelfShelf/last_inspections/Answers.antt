use Rattle.office_tables.proofs.sql_shelf.SqlShelfShelf.last_inspections.Goals as goal

pub returns-clause-days : goal.returns-clause-days
returns-clause-days g c = rw (← c.self.view_is) c.last_days.ensures.days.says
