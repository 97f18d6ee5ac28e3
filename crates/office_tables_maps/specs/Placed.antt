-- The tables that maps of records stand for, and what is known of the records in the maps.
use Rattle.office_tables_shelf.specs.Content.{Content}
use Rattle.office_tables_maps.specs.{Keys.plan_keys, Keys.record_keys, Keys.line_keys, Stored.ArePlaced, Stored.stored_rows, declared.maps.Maps.TheInside.Inside}
use Rattle.office_tables_maps.specs.Records as kept

-- the content of the tables that the maps stand for
abbrev pub tables_of : Inside → Content
tables_of maps = record {
  intersection = stored_rows kept.number_places kept.intersection_stored maps.intersection.entries;
  timing = stored_rows (kept.under_intersection plan_keys) kept.timing_stored maps.timing.entries;
  draft = stored_rows (kept.under_intersection plan_keys) kept.draft_stored maps.draft.entries;
  inspection = stored_rows (kept.under_intersection record_keys) kept.inspection_stored maps.inspection.entries;
  work_order = stored_rows (kept.under_intersection record_keys) kept.order_stored maps.work_order.entries;
  part = stored_rows kept.codes kept.hand_stored maps.part.entries;
  delivery = stored_rows kept.delivery_places kept.delivery_stored maps.delivery.entries;
  used_part = stored_rows (kept.under_intersection line_keys) kept.used_stored maps.used_part.entries;
}

-- each record of the maps stands under its own place, both within their limits
pub record AreMapsPlaced (maps : Inside) : Type 0 where
  pub intersections : ArePlaced kept.number_places kept.intersection_stored maps.intersection.entries
  pub rows : ArePlaced (kept.under_intersection plan_keys) kept.timing_stored maps.timing.entries
  pub changes : ArePlaced (kept.under_intersection plan_keys) kept.draft_stored maps.draft.entries
  pub inspections : ArePlaced (kept.under_intersection record_keys) kept.inspection_stored maps.inspection.entries
  pub orders : ArePlaced (kept.under_intersection record_keys) kept.order_stored maps.work_order.entries
  pub used : ArePlaced (kept.under_intersection line_keys) kept.used_stored maps.used_part.entries
  pub hands : ArePlaced kept.codes kept.hand_stored maps.part.entries
  pub deliveries : ArePlaced kept.delivery_places kept.delivery_stored maps.delivery.entries
