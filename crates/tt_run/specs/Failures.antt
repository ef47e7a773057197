-- Which failure each status tells.
use Rattle.std.specs.Prelude.{Option, Some, None}
use Rattle.tt_run.specs.declared.top.Status.{Status}
use Rattle.tt_run.specs.declared.top.Status.TheVariants as status
use Rattle.tt_run.specs.declared.failure.Failure.{Failure}
use Rattle.tt_run.specs.declared.failure.Failure.TheVariants as failure

abbrev pub failure_of : Status → Option Failure
failure_of status.Ok = None
failure_of status.BadWords = Some failure.BadWords
failure_of (status.BadInput place) = Some (failure.BadInput place)
failure_of status.ReadFault = Some failure.ReadFault
failure_of status.WriteFault = Some failure.WriteFault
failure_of status.OutOfMemory = Some failure.OutOfMemory
failure_of status.TooLong = Some failure.TooLong
