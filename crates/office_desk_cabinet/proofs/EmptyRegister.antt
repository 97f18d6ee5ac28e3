-- Tables without a row stand for a register in which nothing was recorded.
use Rattle.std.proofs.Common.{◌≡◌, ℕ, List, nat_cmp, sym, ap, ◌∙◌}
use Rattle.std.specs.Cmp.Lexicographic.{slice_cmp}
use Rattle.cabinet_core.specs.Register.{no_register, record_cmp, line_cmp, delivery_cmp}
use Rattle.cabinet_core.proofs.EmptyRegister.{nothing_sound, no_stock}
use Rattle.office_tables_shelf.specs.CabinetRows.{inspection_columns, order_columns, used_columns, delivery_columns, part_key, part_columns}
use Rattle.office_tables_shelf.specs.{Cells.tree_rows, Content.Content, Content.no_content}
use Rattle.office_tables_shelf.proofs.StoredMaps.{no_rows}
use Rattle.office_desk_cabinet.specs.RegisterStands.{inspection_cells, order_cells, line_cells, delivery_cells, RegisterStandsSound}

pub nothing_registered : (tables : Content) → tables ≡ no_content → RegisterStandsSound tables no_register
nothing_registered tables none = record {
  stand = record {
    inspection = ap (λ (t : Content). t.inspection) none ∙ sym (no_rows record_cmp inspection_cells inspection_columns);
    work_order = ap (λ (t : Content). t.work_order) none ∙ sym (no_rows record_cmp order_cells order_columns);
    used_part = ap (λ (t : Content). t.used_part) none ∙ sym (no_rows line_cmp line_cells used_columns);
    delivery = ap (λ (t : Content). t.delivery) none ∙ sym (no_rows delivery_cmp delivery_cells delivery_columns);
    part = ap (λ (t : Content). t.part) none ∙ sym (ap (λ (stock : List (List ℕ × ℕ)). tree_rows part_key part_columns stock) no_stock ∙ no_rows (slice_cmp nat_cmp) part_key part_columns);
  };
  sound = nothing_sound;
}
