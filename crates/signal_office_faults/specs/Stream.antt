-- The fault that a stream ends with.
use Rattle.office_http_framing.specs.declared.engine.ServeFault.{ServeFault}
use Rattle.office_http_framing.specs.declared.engine.ServeFault.TheVariants as stop
use Rattle.signal_office_faults.specs.declared.fault.Fault.{Fault}
use Rattle.signal_office_faults.specs.declared.fault.Fault.TheVariants as fault

-- the fault that tells why a stream was not served to its end
abbrev pub fault_of_stream : ServeFault → Fault
fault_of_stream (stop.Read requests) = fault.Read
fault_of_stream (stop.Write requests) = fault.Write
fault_of_stream stop.NoMemory = fault.Memory
