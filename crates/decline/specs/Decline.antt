-- Declined calls: the number, the place, the detail and the name of each case.
--   number_of   the number in the table of declines
--   place_of    of the access in a hardware transaction or of the word on file, else 0
--   detail_of   the thread to wait for, the orec of a closed gate, the stock fault's number, else 0
--   name_of     the name, as text
use Rattle.std.specs.Prelude.{ℕ, List, codes}
use Rattle.decline.specs.declared.Decline.{Decline}
use Rattle.decline.specs.declared.Decline.TheVariants.{UnknownThread, WrongLength, WrongStatus, UnknownClass, VersionsSpent, WrongAccessCount, Aborted, UnknownKind, UnknownWord, SnapshotInvalid, SetFull, Wait, Unfit, GateClosed, Stock, Malformed}
use Rattle.stock.specs.Fault.{fault_number}

abbrev pub number_of : Decline → ℕ
number_of UnknownThread = 1
number_of WrongLength = 2
number_of WrongStatus = 3
number_of UnknownClass = 4
number_of VersionsSpent = 5
number_of WrongAccessCount = 6
number_of Aborted = 7
number_of (UnknownKind p) = 8
number_of (UnknownWord p) = 9
number_of SnapshotInvalid = 10
number_of SetFull = 11
number_of (Wait t) = 12
number_of Unfit = 13
number_of (GateClosed p r) = 14
number_of (Stock f) = 15
number_of (Malformed p) = 16

abbrev pub place_of : Decline → ℕ
place_of UnknownThread = 0
place_of WrongLength = 0
place_of WrongStatus = 0
place_of UnknownClass = 0
place_of VersionsSpent = 0
place_of WrongAccessCount = 0
place_of Aborted = 0
place_of (UnknownKind p) = p
place_of (UnknownWord p) = p
place_of SnapshotInvalid = 0
place_of SetFull = 0
place_of (Wait t) = 0
place_of Unfit = 0
place_of (GateClosed p r) = p
place_of (Stock f) = f.place
place_of (Malformed p) = p

abbrev pub detail_of : Decline → ℕ
detail_of UnknownThread = 0
detail_of WrongLength = 0
detail_of WrongStatus = 0
detail_of UnknownClass = 0
detail_of VersionsSpent = 0
detail_of WrongAccessCount = 0
detail_of Aborted = 0
detail_of (UnknownKind p) = 0
detail_of (UnknownWord p) = 0
detail_of SnapshotInvalid = 0
detail_of SetFull = 0
detail_of (Wait t) = t
detail_of Unfit = 0
detail_of (GateClosed p r) = r
detail_of (Stock f) = fault_number f.fault
detail_of (Malformed p) = 0

abbrev pub name_of : Decline → List ℕ
name_of UnknownThread = codes "unknown thread"
name_of WrongLength = codes "wrong length"
name_of WrongStatus = codes "wrong status"
name_of UnknownClass = codes "unknown class"
name_of VersionsSpent = codes "versions spent"
name_of WrongAccessCount = codes "wrong access count"
name_of Aborted = codes "aborted"
name_of (UnknownKind p) = codes "unknown kind"
name_of (UnknownWord p) = codes "unknown word"
name_of SnapshotInvalid = codes "snapshot invalid"
name_of SetFull = codes "set full"
name_of (Wait t) = codes "wait"
name_of Unfit = codes "unfit"
name_of (GateClosed p r) = codes "gate closed"
name_of (Stock f) = codes "stock fault"
name_of (Malformed p) = codes "malformed"
