use Rattle.office_http_responses.proofs.reply.write_state.Goals as goal

pub returns : goal.returns
returns c =
    rw (
      c.from.ensures,
      c.get.ensures.value,
      c.from-2.ensures,
      c.get-2.ensures.value,
      c.as_str.ensures.text,
      c.owner_of.ensures,
      c.from-3.ensures,
      c.get-3.ensures.value,
      c.state_name.ensures,
      c.verdict_word.ensures,
    ) at c.object.ensures
