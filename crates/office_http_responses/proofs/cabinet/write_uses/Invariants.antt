use Rattle.std.proofs.Common.{◌≡◌, ◌++◌, map, flat_map, take}
use Rattle.std.specs.List.{filter}
use Rattle.office_files.specs.Records.{is_line_of}
use Rattle.office_http_responses.specs.{RegisterTrees.used_tree, Writing.tokens_of}
use Rattle.office_http_responses.proofs.cabinet.write_uses.Given as goal

-- what was written so far
abbrev pub invariant-loop-line : goal.invariant-loop-line
invariant-loop-line l = record {
  before : l.to.before ≡ l.fn.to.before;
  tokens : l.to.tokens ≡ l.fn.to.tokens ++ flat_map tokens_of (map used_tree (filter (is_line_of l.order) (take l.line-index l.lines)));
}
