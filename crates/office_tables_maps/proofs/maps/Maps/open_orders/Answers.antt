use Rattle.std.proofs.Common.{◌==◌, ◌++◌, if◌then◌else◌, [], ◌∷◌, filter, append-nil, refl, sym, ap, subst, ◌∙◌}
use Rattle.cabinet_core.specs.Orders.{is_open}
use Rattle.office_tables_shelf.specs.{OpenOrders.orders_in, declared.rows.Table.TheVariants.WorkOrder}
use Rattle.office_tables_maps.specs.{Keys.record_laws, Records.order_stored}
use Rattle.office_tables_maps.proofs.{UnderLemmas.all_under, UnderLemmas.records_of, UnderLemmas.whole, WalkLemmas.OrdersWith, WalkLemmas.orders_more}
use Rattle.office_tables_maps.proofs.maps.Maps.open_orders.Goals as goal

pub returns-clause-orders : goal.returns-clause-orders
returns-clause-orders c = λ id.
    let es = c.self.inside.work_order.entries in
    let found = orders_in c.loop-place.orders.entries id in
    let under = all_under record_laws order_stored (λ _ _. refl) id es
    c.into_iter-place-iterator.ensures.into_iter_gives.5 c.self.invariant.orders in
    rw (← c.self.view_is) record {
      orders = records_of id es;
      lists = under.0;
      within = under.1;
      open_ones = sym (append-nil found)
          ∙ ap (λ rest. found ++ filter is_open (records_of id rest))
          (sym c.in-None.ensures.steps.0) ∙ c.loop-place.invariant id
          ∙ ap (λ all. filter is_open (records_of id all)) c.into_iter-place-iterator.ensures.into_iter_gives.0;
    }

pub returns-clause-whole : goal.returns-clause-whole
returns-clause-whole c =
    rw (← c.self.view_is) (whole record_laws order_stored (λ _ _. refl) WorkOrder _
    c.self.inside.work_order.entries refl c.into_iter-place-iterator.ensures.into_iter_gives.5
    c.self.invariant.orders)

pub loop-place-preserved-in_ok-add_open : goal.loop-place-preserved-in_ok-add_open
loop-place-preserved-in_ok-add_open c =
    let es = c.into_iter-place-iterator.result in
    let old = orders_in c.loop-place.orders.entries in
    let place = c.in-Some.place.now in
    orders_more old (orders_in c.add_open.new.orders.entries) place c.in-Some.order.now c.next.new.self
    es (λ n. c.in_ok-add_open.ensures n
    ∙ ap (λ x. if n == place.0 then old place.0 ++ filter is_open (x ∷ []) else old n)
    c.in_ok-clone.ensures.cases) (subst (λ rest. OrdersWith old rest es)
    c.in-Some.ensures.steps c.loop-place.invariant)
