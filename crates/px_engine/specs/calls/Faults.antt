-- The faults of the crates below, as those of a run.
use Rattle.std.specs.Prelude.{ℕ, Result, Ok, Err}
use Rattle.px_bytes.specs.declared.ReadFault.{ReadFault}
use Rattle.px_bytes.specs.declared.ReadFault.TheVariants as read
use Rattle.px_bytes.specs.declared.Refusal.{Refusal}
use Rattle.px_bytes.specs.declared.Refusal.TheVariants as refusal
use Rattle.px_bytes.specs.declared.WriteRefusal.{WriteRefusal}
use Rattle.px_bytes.specs.declared.WriteRefusal.TheVariants as write
use Rattle.px_engine.specs.declared.error.Fault.{Fault}
use Rattle.px_engine.specs.declared.error.Fault.TheVariants.{Refused, NormalTooLong, OutOfMemory, ReadFailed, WriteFailed}

-- why a file was not read
abbrev pub read_fault : ReadFault → Fault
read_fault read.ReadFailed = ReadFailed
read_fault read.OutOfMemory = OutOfMemory

-- why a block was refused
abbrev pub refused : Refusal → Fault
refused (refusal.Content cause place) = Refused cause place
refused refusal.OutOfMemory = OutOfMemory

-- why a normal form was not written
abbrev pub unwritten : WriteRefusal → Fault
unwritten write.NormalTooLong = NormalTooLong
unwritten write.OutOfMemory = OutOfMemory
unwritten write.WriteFailed = WriteFailed

-- the result of a writer of texts
abbrev pub as_fault : {A E : Type 0} → Result A E → Result A Fault
as_fault (Ok x) = Ok x
as_fault (Err e) = Err WriteFailed

-- the result of a writer of normal forms
abbrev pub written : Result ℕ WriteRefusal → Result ℕ Fault
written (Ok n) = Ok n
written (Err e) = Err (unwritten e)
