-- The fault of a CSV text, as one of the request that has it.
use Rattle.office_files.specs.declared.fault.CsvFault.{CsvFault}
use Rattle.office_files.specs.declared.fault.CsvFault.TheVariants as file
use Rattle.office_http_requests.specs.declared.fault.AskFault.{AskFault}
use Rattle.office_http_requests.specs.declared.fault.AskFault.TheVariants.{BadRow, NoMemory}

-- the fault of a request whose CSV text has a fault: a bad row, or want of memory
abbrev pub ask_fault : CsvFault → AskFault
ask_fault (file.Row bad) = BadRow bad
ask_fault file.NoMemory = NoMemory
