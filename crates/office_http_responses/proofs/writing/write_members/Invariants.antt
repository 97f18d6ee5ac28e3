use Rattle.std.proofs.Common.{◌≡◌, ◌++◌, map, flat_map, take}
use Rattle.office_http_responses.specs.Writing.{member_tokens, entry_of}
use Rattle.office_http_responses.proofs.writing.write_members.Given as goal

-- what was written so far
abbrev pub invariant-loop-member : goal.invariant-loop-member
invariant-loop-member l = record {
  before : l.to.before ≡ l.fn.to.before;
  tokens : l.to.tokens ≡ l.fn.to.tokens ++ flat_map member_tokens (map entry_of (take l.member-index l.members));
}
