use Rattle.std.proofs.Common.{◌≡◌, ◌++◌, map, flat_map, take}
use Rattle.office_http_responses.specs.Writing.{tokens_of}
use Rattle.office_http_responses.proofs.writing.write_items.Given as goal

-- what was written so far
abbrev pub invariant-loop-item : goal.invariant-loop-item
invariant-loop-item g l = record {
  before : l.to.before ≡ l.fn.to.before;
  tokens : l.to.tokens ≡ l.fn.to.tokens ++ flat_map tokens_of (map g.T.WriteJson.tree (take l.item-index l.items));
}
