-- The number of each fault.
use Rattle.std.specs.Prelude.{ℕ}
use Rattle.journals.specs.Faults.{fault_code}
use Rattle.runner.specs.declared.fault.RunnerFault.{RunnerFault}
use Rattle.runner.specs.declared.fault.RunnerFault.TheVariants.{SagaNumber, NoParticipant, UnlawfulRecord, ShortOfPlaces, Unread, StillStepping, NoOpenSaga, NumberNotAbove, TooManyOpen, NoRoom, WrongPhase, LimitReached, WrongMarks, Journal}

abbrev pub code_of : RunnerFault → ℕ
code_of SagaNumber = 20
code_of NoParticipant = 21
code_of (UnlawfulRecord i) = 22
code_of ShortOfPlaces = 23
code_of Unread = 30
code_of StillStepping = 31
code_of NoOpenSaga = 32
code_of NumberNotAbove = 33
code_of TooManyOpen = 34
code_of NoRoom = 35
code_of WrongPhase = 36
code_of LimitReached = 37
code_of WrongMarks = 38
code_of (Journal s f) = fault_code f
