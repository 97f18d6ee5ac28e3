use Rattle.std.proofs.Common.{◌∙◌, ap}
use Rattle.office_desk_cabinet.proofs.{ListedRecords.orders_listed, ShowingLemmas.open_among}
use Rattle.office_desk_cabinet.proofs.showing.open_orders.Goals as goal

pub returns-clause-shows : goal.returns-clause-shows
returns-clause-shows g c = λ honest r stands.
    c.in_ok-numbers.ensures
    ∙ ap open_among (c.as_slice.ensures.value
    ∙ orders_listed (g.S.Shelf.content c.args.shelf.now) r c.args.id c.in_ok-orders.orders.items stands (c.in_ok-orders.ensures.lists.rows honest))
