use Rattle.std.proofs.Common.{Some, map, drop, ap, sym, ◌∙◌}
use Rattle.std.specs.Borrow.{Bor}
use Rattle.std.proofs.Common.{List}
use Rattle.clap.specs.Walk.{Text}
use Rattle.signal_office_line.specs.CommandLine.{usage_as}
use Rattle.signal_office_line.proofs.CommandLemmas.{named_with, none_named, second_named}
use Rattle.signal_office_line.proofs.command_line.named_in.Goals as goal

-- the texts of words
abbrev texts : List (Bor Text) → List Text
texts = map (λ (word : Bor Text). word.now)

pub returns-in_err-name : goal.returns-in_err-name
returns-in_err-name c = rw c.from_residual.ensures (none_named c.args.words.now c.in_err-name.ensures.lookup.3)

pub returns-in_err-usage : goal.returns-in_err-usage
returns-in_err-usage c =
    let item = c.in_ok-name.ensures.lookup in
    rw c.from_residual-in_err-usage.ensures
    (sym (second_named c.args.words.now c.in_ok-name.name.now item.3.0 item.1
    ∙ ap (named_with (texts (drop 1 c.args.words.now))) (sym c.in_err-usage.ensures)))

pub returns : goal.returns
returns c =
    let item = c.in_ok-name.ensures.lookup in
    ap (λ (words : List (Bor Text)). Some (usage_as c.in_ok-usage.usage, texts words)) c.split_at.ensures.back
    ∙ sym (second_named c.args.words.now c.in_ok-name.name.now item.3.0 item.1
    ∙ ap (named_with (texts (drop 1 c.args.words.now))) (sym c.in_ok-usage.ensures))
