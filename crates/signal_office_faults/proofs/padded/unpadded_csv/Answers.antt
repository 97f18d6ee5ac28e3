use Rattle.std.proofs.lemmas.Result.{IfOk-weaker}
use Rattle.signal_office_faults.proofs.PaddedLemmas.{good_changes, good_commands}
use Rattle.signal_office_faults.proofs.padded.unpadded_csv.Goals as goal

pub returns-clause-good_plan : goal.returns-clause-good_plan
returns-clause-good_plan c =
    IfOk-weaker c.unpadded_file.result _ _ (λ text is changes. good_changes c.args.bytes.now text.items changes is) c.unpadded_file.ensures

pub returns-clause-good_records : goal.returns-clause-good_records
returns-clause-good_records c =
    IfOk-weaker c.unpadded_file.result _ _ (λ text is commands. good_commands c.args.bytes.now text.items commands is) c.unpadded_file.ensures
