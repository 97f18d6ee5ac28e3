-- The JSON trees of what the register shows, each object's keys in ascending order.
use Rattle.std.specs.Prelude.{ℕ, List, [], ◌∷◌, ◌++◌, codes, option_map}
use Rattle.std.specs.List.{filter}
use Rattle.serde_json.specs.Data.{Data}
use Rattle.cabinet_core.specs.Day.{day_text}
use Rattle.cabinet_core.specs.Overdue.{Listed}
use Rattle.cabinet_core.specs.declared.record.Closing.{Closing}
use Rattle.cabinet_core.specs.declared.record.Inspection.{Inspection}
use Rattle.cabinet_core.specs.declared.record.Order.{Order}
use Rattle.cabinet_core.specs.declared.record.UsedLine.{UsedLine}
use Rattle.office_files.specs.Records.{is_line_of}
use Rattle.office_http_responses.specs.Json.{count, text, or_null, array_of, keys}

-- the tree of the day so many days after 1970-01-01: the text `YYYY-MM-DD`
abbrev pub day_tree : ℕ → Data
day_tree day = text (day_text day)

-- the tree of an inspection: its clerk, day, number and text
abbrev pub inspection_tree : Inspection → Data
inspection_tree inspection =
    keys (
    (codes "clerk", text inspection.clerk)
    ∷ (codes "day", day_tree inspection.day)
    ∷ (codes "number", count inspection.number)
    ∷ (codes "text", text inspection.text)
    ∷ []
    )

-- the tree of a part that was used: how many, on which line of its order, and the part's code
abbrev pub used_tree : UsedLine → Data
used_tree used =
    keys ((codes "count", count used.count) ∷ (codes "line", count used.line) ∷ (codes "part", text used.part) ∷ [])

-- the tree of the parts that were used for an order
abbrev pub uses_tree : ℕ → List UsedLine → Data
uses_tree order lines = array_of used_tree (filter (is_line_of order) lines)

-- the members of the tree of an order, without its parts
abbrev pub order_members : Order → List (List ℕ × Data)
order_members order =
    (codes "clerk", text order.clerk)
    ∷ (codes "closed", or_null day_tree (option_map (λ (closing : Closing). closing.day) order.closing))
    ∷ (codes "closer", or_null text (option_map (λ (closing : Closing). closing.closer) order.closing))
    ∷ (codes "number", count order.number)
    ∷ (codes "opened", day_tree order.opened)
    ∷ (codes "text", text order.text)
    ∷ []

-- the tree of an order, with the parts that were used for it, which these lines name
abbrev pub order_tree : List UsedLine → Order → Data
order_tree lines order = keys (order_members order ++ (codes "used", uses_tree order.number lines) ∷ [])

-- what the query Cabinet shows of an intersection: its inspections, and its orders with their parts
abbrev pub cabinet_tree : List Inspection → List Order → List UsedLine → Data
cabinet_tree inspections orders lines =
    keys ((codes "inspections", array_of inspection_tree inspections) ∷ (codes "orders", array_of (order_tree lines) orders) ∷ [])

-- what the query OpenOrders shows of an intersection: the numbers of its open orders
abbrev pub open_tree : List ℕ → Data
open_tree numbers = keys ((codes "open", array_of count numbers) ∷ [])

-- the tree of a part: its code, and how many of it are on hand
abbrev pub hand_tree : List ℕ × ℕ → Data
hand_tree entry = keys ((codes "count", count entry.1) ∷ (codes "part", text entry.0) ∷ [])

-- what the query Stock shows: each part, and how many of it are on hand
abbrev pub stock_tree : List (List ℕ × ℕ) → Data
stock_tree parts = keys ((codes "hand", array_of hand_tree parts) ∷ [])

-- the tree of an overdue intersection: the day on which its inspection fell due, null if there never
-- was one, its number and its name
abbrev pub listed_tree : Listed → Data
listed_tree listed =
    keys ((codes "due", or_null day_tree listed.due) ∷ (codes "id", count listed.id) ∷ (codes "name", text listed.name) ∷ [])

-- what the query Overdue shows: the intersections that are overdue on the day that it names
abbrev pub overdue_tree : List Listed → Data
overdue_tree rows = keys ((codes "overdue", array_of listed_tree rows) ∷ [])
