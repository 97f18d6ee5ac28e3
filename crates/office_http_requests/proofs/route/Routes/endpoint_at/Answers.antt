use Rattle.std.proofs.{Common.arith, lemmas.Grind.common_steps, lemmas.Str.is_utf8-from_IsUtf8, lemmas.Str.IsUtf8-from_is_utf8}
use Rattle.office_http_requests.specs.Routes.{endpoint_of}
use Rattle.office_http_requests.proofs.route.Routes.endpoint_at.Goals as goal

pub returns-in_default : goal.returns-in_default
unfolding endpoint_of
returns-in_default c = grind (arith, common_steps, IsUtf8-from_is_utf8 c.args.path.now)

pub returns-in-Ok-at : goal.returns-in-Ok-at
unfolding endpoint_of
returns-in-Ok-at c = grind (arith, common_steps, is_utf8-from_IsUtf8 c.args.path.now)

pub returns-in-Err : goal.returns-in-Err
unfolding endpoint_of
returns-in-Err c = grind (arith, common_steps, is_utf8-from_IsUtf8 c.args.path.now)
