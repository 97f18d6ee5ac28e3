use Rattle.std.proofs.Common.{map}
use Rattle.csv.specs.Records.{fields_of}
use Rattle.office_views.proofs.ReadBack.{read_back}
use Rattle.office_views.proofs.lists.list.print_csv.Goals as goal

pub returns : goal.returns
returns c = read_back (λ text. text.items) c.csv_file.result (map fields_of c.args.records.now) c.csv_file.ensures
