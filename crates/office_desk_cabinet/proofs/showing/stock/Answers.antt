use Rattle.office_desk_cabinet.proofs.ListedRecords.{parts_are_stock}
use Rattle.office_desk_cabinet.proofs.showing.stock.Goals as goal

pub returns-clause-shows : goal.returns-clause-shows
returns-clause-shows g c = λ honest r stands. parts_are_stock _ r _ stands.stand (c.in_ok-parts.ensures.lists.rows honest)
