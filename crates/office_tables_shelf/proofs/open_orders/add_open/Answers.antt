use Rattle.std.proofs.Common.{◌≡◌, ◌∙◌, ◌==◌, ◌++◌, cond, List, [], ◌∷◌, Some, not, ap, sym}
use Rattle.cabinet_core.specs.declared.record.Order.{Order}
use Rattle.office_tables_shelf.specs.OpenOrders.{orders_in, orders_kept}
use Rattle.office_tables_shelf.proofs.NumberedMaps.{in_its_place, shown_change}
use Rattle.office_tables_shelf.proofs.open_orders.add_open.Goals as goal

pub returns : goal.returns
returns c n =
    let old = c.args.orders.now.entries in
    let mid = c.take_orders-kept.new.orders.entries in
    let id = c.args.id in
    let order = c.args.order in
    let pushed = c.push.new.self in
    let kept = orders_in old id in
    let items : pushed.items ≡ kept ++ order ∷ [] =
    c.in_ok-push.ensures.items ∙ ap (λ found. found ++ order ∷ []) c.take_orders-kept.ensures.taken in
    shown_change orders_kept mid c.insert.new.self.entries id (Some pushed)
    c.in_ok-insert.ensures.updates.0 n
    ∙ ap (cond (n == id) pushed.items) (c.take_orders-kept.ensures.left n)
    ∙ in_its_place (n == id) pushed.items [] (orders_in old n)
    ∙ ap (λ (found : List Order). cond (n == id) found (orders_in old n))
    (items ∙ ap (λ is_closed. kept ++ cond (not is_closed) (order ∷ []) [])
    (sym c.if-is_some.false ∙ c.is_some.ensures))
