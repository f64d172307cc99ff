-- A packet that was printed, and the file that it is.
use Rattle.std.proofs.Common.{◌≡◌, ◌≢◌, ◌∙◌, ◌≤◌, ◌+◌, ℕ, true, false, List, length, Option, Some, None, Result, Ok, Err, IfOk, OnOk, IfSome, ap, arith, inl, inr}
use Rattle.std.proofs.Common.{refl, sym, subst}
use Rattle.std.proofs.lemmas.List.{length-take}
use Rattle.std.specs.Prelude.{⊤}
use Rattle.px_bytes.specs.Allocations.{AsksAtMost, MemoryCounts}
use Rattle.px_bytes.specs.Devices.{Calls, CanCountFailure, Device}
use Rattle.px_bytes.specs.Reading.{ConsumesAtMost, ReadsUpTo, readable, read_request}
use Rattle.px_engine.specs.declared.Fault.{Fault}
use Rattle.px_engine.specs.declared.Fault.TheVariants.{Refused, NormalTooLong, OutOfMemory, ReadFailed, WriteFailed}
use Rattle.px_engine.specs.Asking.{block_request, run_request}
use Rattle.px_engine.specs.Files.{Said}
use Rattle.px_engine.specs.Input.{CountsAllocFailureInRun, CountsAllocFailureInRunBy, CountsReads, IsReadFault, most_read}
use Rattle.px_engine.specs.Laws.{taken}
use Rattle.px_engine.specs.Prints.{PrintsRead, ReadsNothing}
use Rattle.px_engine.specs.Runs.{CountsWrites}
use Rattle.px_xmp.specs.Accepted.{PacketFits}
use Rattle.px_xmp.specs.Laws.{HasNoMeaning}
use Rattle.px_xmp.specs.Packet.{IsPacket}
use Rattle.px_xmp.specs.Refusals.{IfRefused, IsRefused}
use Rattle.px_xmp_forms.specs.Allocations.{CountsAllocFailureInPacket}
use Rattle.px_xmp_forms.specs.Causes.{IfWrong, FailsByMemory}
use Rattle.px_xmp_forms.specs.declared.faults.Refusal.{Refusal}
use Rattle.px_xmp_forms.specs.declared.faults.Refusal.TheVariants as refusal
use Rattle.px_xmp_lines.specs.Lines.{ArePrinted}
use Rattle.px_runs.specs.Endings.{EndsShown, EndsText, ReportsText}
use Rattle.px_runs.specs.Lines.{FlushesLast, ReportsFault}
use Rattle.px_runs.specs.Packets.{is_other, IsTextOf, PrintsPacket, ReportsPacket}
use Rattle.px_runs.specs.calls.Printing.{text_in, PrintsBlock, PrintsFile, PrintsOther, ReportsFile}
use Rattle.px_runs.proofs.EndLaws.{text_last}
use Rattle.px_runs.proofs.LineLaws.{device, last_after, reported_not_idle}
use Rattle.px_runs.proofs.TextLaws.{text_reported}

-- ---- a packet

pub prints_packet : {V : Type 0} (items : V → List ℕ) (r : Result V Refusal) (file : List ℕ) (lines : Device)
    (allocs allocs_now : MemoryCounts) (status : ℕ) → OnOk r (IsPacket file) → IfOk r (λ v. ArePrinted (items v))
    → IfRefused r (IsRefused file) → IfWrong r (HasNoMeaning file) → (PacketFits file → FailsByMemory r)
    → CountsAllocFailureInPacket r allocs allocs_now → ReportsPacket (text_in items r) status lines
    → PrintsPacket file lines allocs allocs_now status
prints_packet items (Ok v) file lines a b status p o l w k m t =
    (Ok (items v), record { packet = p; printed = o; layer = l; refused = w; accepts = k }, m, t)
prints_packet items (Err (refusal.Content cause place)) file lines a b status p o l w k m t =
    (Err (refusal.Content cause place), record { packet = p; printed = o; layer = l; refused = w; accepts = k }, m, t)
prints_packet items (Err refusal.OutOfMemory) file lines a b status p o l w k m t =
    (Err refusal.OutOfMemory, record { packet = p; printed = o; layer = l; refused = w; accepts = k }, m, t)

-- the lines of a packet were written, or a call failed
reports_not_idle : (r : Result (List ℕ) Refusal) (status : ℕ) (calls now : Calls) (old new : Option (List ℕ))
    → ReportsPacket r status (device calls now old new) → now ≡ calls → ⊥
reports_not_idle (Ok text) status calls now old new t e = reported_not_idle calls now t e
reports_not_idle (Err (refusal.Content cause place)) status calls now old new t e = reported_not_idle calls now t e
reports_not_idle (Err refusal.OutOfMemory) status calls now old new t e = reported_not_idle calls now t e

pub packet_not_idle : (file : List ℕ) (calls now : Calls) (old new : Option (List ℕ)) (a b : MemoryCounts) (status : ℕ)
    → PrintsPacket file (device calls now old new) a b status → now ≡ calls → ⊥
packet_not_idle file calls now old new a b status x e = reports_not_idle x.0 status calls now old new x.3 e

-- before a packet the writer of lines has no failed call
pub other_space : (r : Result ⊤ Fault) (file : List ℕ) (calls : Calls) → is_other r file ≡ true
    → ((e : Fault) → r ≡ Err e → e ≢ WriteFailed → CanCountFailure calls) → CanCountFailure calls
other_space (Err (Refused cause place)) file calls is h =
    h (Refused cause place) refl (λ (bad : Refused cause place ≡ WriteFailed). absurd (cc))
other_space (Err NormalTooLong) file calls is h = let bad : false ≡ true = is in absurd (cc)
other_space (Err OutOfMemory) file calls is h = let bad : false ≡ true = is in absurd (cc)
other_space (Err ReadFailed) file calls is h = let bad : false ≡ true = is in absurd (cc)
other_space (Err WriteFailed) file calls is h = let bad : false ≡ true = is in absurd (cc)
other_space (Ok x) file calls is h = let bad : false ≡ true = is in absurd (cc)

-- ---- a file that was read

-- an allocation that failed is the first one, if none failed before
moved_failure : (r : Result ⊤ Fault) (first mid last : ℕ) → mid ≡ first → CountsAllocFailureInRunBy r mid last
    → CountsAllocFailureInRunBy r first last
moved_failure r first mid last same m = subst (λ (z : ℕ). CountsAllocFailureInRunBy r z last) same m

-- lines that nothing was written to before a packet
packet_moved : (file : List ℕ) (a b : MemoryCounts) (status : ℕ) (calls mid now : Calls) (old shown new : Option (List ℕ)) → mid ≡ calls
    → shown ≡ old → PrintsPacket file (device mid now shown new) a b status → PrintsPacket file (device calls now old new) a b status
packet_moved file a b status calls mid now old shown new count same t =
    subst (λ (x : Calls). PrintsPacket file (device x now old new) a b status) count
    (subst (λ (z : Option (List ℕ)). PrintsPacket file (device mid now z new) a b status) same t)

other_printed : (text : Said → List ℕ) (r : Result ⊤ Fault) (file : List ℕ) (status : ℕ) (a between b : MemoryCounts) (calls mid now : Calls)
    (old shown new : Option (List ℕ)) → length file ≤ most_read → PrintsRead text r file old shown → CountsWrites r calls mid
    → CountsAllocFailureInRun r a between → AsksAtMost (block_request (length file)) a between → is_other r file ≡ true
    → PrintsPacket file (device mid now shown new) between b status → PrintsOther file (device calls now old new) a b status
other_printed text (Err (Refused cause place)) file status a between b calls mid now old shown new few done writes m asked is t =
    let same : shown ≡ old = (done None None few).1 in (
      between,
      cause,
      place,
      m,
      asked,
      λ left left_now read. (done left left_now read).0,
      is,
      packet_moved file between b status calls mid now old shown new writes same t,
    )
other_printed text (Err NormalTooLong) file status a between b calls mid now old shown new few done writes m asked is t =
    let bad : false ≡ true = is in absurd (cc)
other_printed text (Err OutOfMemory) file status a between b calls mid now old shown new few done writes m asked is t =
    let bad : false ≡ true = is in absurd (cc)
other_printed text (Err ReadFailed) file status a between b calls mid now old shown new few done writes m asked is t =
    let bad : false ≡ true = is in absurd (cc)
other_printed text (Err WriteFailed) file status a between b calls mid now old shown new few done writes m asked is t =
    let bad : false ≡ true = is in absurd (cc)
other_printed text (Ok x) file status a between b calls mid now old shown new few done writes m asked is t =
    let bad : false ≡ true = is in absurd (cc)

pub prints_file : (text : Said → List ℕ) (r : Result ⊤ Fault) (file : List ℕ) (status : ℕ) (a between b : MemoryCounts)
    (calls mid now : Calls) (old shown new : Option (List ℕ)) → length file ≤ most_read → PrintsRead text r file old shown
    → ReadsNothing r → CountsWrites r calls mid → CountsAllocFailureInRun r a between → AsksAtMost (block_request (length file)) a between
    → ReportsFile r file (device mid now shown new) between b status → PrintsFile text file (device calls now old new) a b status
prints_file text r file status a between b calls mid now old shown new few done reads writes m asked (inl t) = inl (
  r,
  reads,
  subst (λ (z : MemoryCounts). CountsAllocFailureInRun r a z) (sym t.1) m,
  subst (λ (z : MemoryCounts). AsksAtMost (block_request (length file)) a z) (sym t.1) asked,
  t.0,
  λ left left_now read. text_reported text r left status calls mid now old shown new (done left left_now read) writes t.2,
)
prints_file text r file status a between b calls mid now old shown new few done reads writes m asked (inr t) =
    inr (other_printed text r file status a between b calls mid now old shown new few done writes m asked t.0 t.1)

-- no byte after the flush of a packet, before which nothing was written
other_last : (r : Result ⊤ Fault) (file : List ℕ) (old mid new : Calls) (unflushed : ℕ) → is_other r file ≡ true → CountsWrites r old mid
    → FlushesLast mid new unflushed → FlushesLast old new unflushed
other_last (Err (Refused cause place)) file old mid new unflushed is w last = last_after old mid new unflushed w last
other_last (Err NormalTooLong) file old mid new unflushed is w last = let bad : false ≡ true = is in absurd (cc)
other_last (Err OutOfMemory) file old mid new unflushed is w last = let bad : false ≡ true = is in absurd (cc)
other_last (Err ReadFailed) file old mid new unflushed is w last = let bad : false ≡ true = is in absurd (cc)
other_last (Err WriteFailed) file old mid new unflushed is w last = let bad : false ≡ true = is in absurd (cc)
other_last (Ok x) file old mid new unflushed is w last = let bad : false ≡ true = is in absurd (cc)

pub file_last : (r : Result ⊤ Fault) (file : List ℕ) (status : ℕ) (a b : MemoryCounts) (old mid new : Calls)
    (shown reported : Option (List ℕ)) (after unflushed : ℕ) → CountsWrites r old mid → OnOk r (after ≡ 0)
    → (new ≡ mid → unflushed ≡ after) → FlushesLast mid new unflushed
    → ReportsFile r file (device mid new shown reported) a b status → FlushesLast old new unflushed
file_last r file status a b old mid new shown reported after unflushed w h still last (inl t) =
    text_last r status old mid new shown reported after unflushed w h still last t.2
file_last r file status a b old mid new shown reported after unflushed w h still last (inr t) =
    other_last r file old mid new unflushed t.0 w last

-- ---- a whole run

-- as many bytes as are read at most
pub read_few : (old new : Option (List ℕ)) (most : ℕ) (bs : List ℕ) → ReadsUpTo old new most bs → length bs ≤ most
read_few None new most bs l = l
read_few (Some xs) new most bs h =
    let whole = ap (λ (ys : List ℕ). length ys) h.0 in
    omega (arith, whole, length-take {A = ℕ} most xs)

-- and no more than the reader can return
read_within : (old new : Option (List ℕ)) (most : ℕ) (bs : List ℕ) → ReadsUpTo old new most bs → length bs ≤ readable old most
read_within None new most bs l = l
read_within (Some xs) new most bs h =
    let whole = ap (λ (ys : List ℕ). length ys) h.0 in
    omega (arith, whole, length-take {A = ℕ} most xs)

run_within : (old new : Option (List ℕ)) (bs : List ℕ) (first read now : ℕ) → ReadsUpTo old new most_read bs
    → read ≤ first + read_request (readable old most_read) → now ≤ read + block_request (length bs) → now ≤ first + run_request old
run_within old new bs first read now found asked more =
    let within = read_within old new most_read bs found in
    omega arith

-- what was read is what is read of a file
read_taken : (old new : Option (List ℕ)) (bs : List ℕ) → ReadsUpTo old new most_read bs → IfSome old (λ f. bs ≡ taken f)
read_taken None new bs h = tt
read_taken (Some xs) new bs h = h.0

taken_block : (r : Result ⊤ Fault) (old : Option (List ℕ)) (bs : List ℕ) → IfSome old (λ f. bs ≡ taken f) → is_other r bs ≡ false
    → IfSome old (λ f. is_other r (taken f) ≡ false)
taken_block r None bs h is = tt
taken_block r (Some f) bs h is = subst (λ (z : List ℕ). is_other r z ≡ false) h is

module _ (text : Said → List ℕ) (reader lines : Device) (a read b : MemoryCounts) (status : ℕ) (file : List ℕ)
    (found : ReadsUpTo reader.old reader.new most_read file) (lost : ConsumesAtMost reader.old reader.new most_read)
    (count : reader.calls_now ≡ reader.calls) (well : read.failed_allocations ≡ a.failed_allocations)
    (asked : AsksAtMost (read_request (readable reader.old most_read)) a read) where
  block_shown : PrintsBlock text file lines read b status → EndsText text reader lines a b status
  block_shown x = let (r, reads, m, more, is, told) = x in (
    r,
    subst (λ (z : Calls). CountsReads r reader.calls z) (sym count) (reads reader.calls),
    (
      moved_failure r a.failed_allocations read.failed_allocations b.failed_allocations well m,
      run_within reader.old reader.new file a.asked read.asked b.asked found asked more,
      lost,
    ),
    told reader.old reader.new found,
    taken_block r reader.old file (read_taken reader.old reader.new file found) is,
  )

  pub file_shown : PrintsFile text file lines read b status → EndsShown text reader lines a b status
  file_shown (inl x) = inl (block_shown x)
  file_shown (inr x) = let (between, cause, place, m, more, stops, is, printed) = x in inr (
    file,
    between,
    cause,
    place,
    read_taken reader.old reader.new file found,
    stops reader.old reader.new found,
    is,
    count,
    lost,
    m ∙ well,
    run_within reader.old reader.new file a.asked read.asked between.asked found asked more,
    printed,
  )

-- a read that failed
read_reported : (text : Said → List ℕ) (e : Fault) (left : Option (List ℕ)) (status : ℕ) (lines : Device) → IsReadFault e
    → ReportsFault e None status lines → ReportsText text (Err e) left status lines
read_reported text OutOfMemory left status lines is t = (tt, t)
read_reported text ReadFailed left status lines is t = (tt, t)
read_reported text (Refused cause place) left status lines is t = absurd is
read_reported text NormalTooLong left status lines is t = absurd is
read_reported text WriteFailed left status lines is t = absurd is

read_block : (e : Fault) (left : Option (List ℕ)) → IsReadFault e → IfSome left (λ f. is_other (Err e) (taken f) ≡ false)
read_block e None is = tt
read_block OutOfMemory (Some f) is = refl
read_block ReadFailed (Some f) is = refl
read_block (Refused cause place) (Some f) is = absurd is
read_block NormalTooLong (Some f) is = absurd is
read_block WriteFailed (Some f) is = absurd is

pub unread_shown : (text : Said → List ℕ) (e : Fault) (reader lines : Device) (a b : MemoryCounts) (status : ℕ) → IsReadFault e
    → ConsumesAtMost reader.old reader.new most_read → CountsReads {A = ⊤} (Err e) reader.calls reader.calls_now
    → CountsAllocFailureInRun {A = ⊤} (Err e) a b → AsksAtMost (read_request (readable reader.old most_read)) a b
    → ReportsFault e None status lines → EndsShown text reader lines a b status
unread_shown text e reader lines a b status is lost count m asked t = inl (
  Err e,
  count,
  (m, omega arith, lost),
  read_reported text e reader.old status lines is t,
  read_block e reader.old is,
)
