use Rattle.std.proofs.Common.{rules, arith}
use Rattle.signal_records.specs.Key.{kind_of, first_of, second_of}
use Rattle.office_tables_statements.proofs.KeyReading.{small}
use Rattle.office_tables_statements.proofs.listed.read_key.Goals as goal

pub returns-in_err-kind-clause-damaged : goal.returns-in_err-kind-clause-damaged
returns-in_err-kind-clause-damaged c is wide key within same = c.number_at.ensures.damaged (search rules) (omega (arith, wide)) (kind_of key) (small key within).0 cc

pub returns-in_err-first-clause-damaged : goal.returns-in_err-first-clause-damaged
returns-in_err-first-clause-damaged c is wide key within same = c.number_at-2.ensures.damaged (search rules) (omega (arith, wide)) (first_of key) (small key within).1 cc

pub returns-in_err-second-clause-damaged : goal.returns-in_err-second-clause-damaged
returns-in_err-second-clause-damaged c is wide key within same = c.number_at-3.ensures.damaged (search rules) (omega (arith, wide)) (second_of key) (small key within).2 cc
