use Rattle.std.proofs.{Common.eqb, Common.rules, Common.tests, lemmas.Iterator.Consumers.map_from_collect, lemmas.Iterator.Splits.YieldsList-from_slice_split}
use Rattle.office_tables_statements.proofs.body_reading.fields_of.Goals as goal

pub returns : goal.returns
returns c = map_from_collect _ c.collect.ensures.ran (YieldsList-from_slice_split _ (λ b. eqb b 44) c.args.body.now c.split.ensures.rest c.split.ensures.done c.split.ensures.closure (λ x b q. search (rules, tests)))
