use Rattle.std.proofs.Common.{◌∙◌, ap, length, unwrap_or}
use Rattle.office_http_requests.proofs.PathLemmas.{unwrap_or-position, position_or_len-bound}
use Rattle.office_http_requests.proofs.path.slash_at.Goals as goal

pub returns : goal.returns
returns c =
    let value = c.unwrap_or.ensures ∙ ap (λ found. unwrap_or found (length c.args.path.now)) c.first_slash.ensures ∙ unwrap_or-position _ c.args.path.now in
    record { value = value; bound = rw value (position_or_len-bound _ c.args.path.now) }
