-- Two laws of every run of a new memory, at every request of it.
--   before, outcome, after   the run up to a request, what the request is answered, and the run with it
--   Serial       the ledger's figures are the memory's: for every list of requests there is one serial order that gives the values and the answers
--   Consistent   what a transaction has read, finished or not, stood together
--   RunsSerial, RunsConsistent     for every policy that meets its laws, all first words and redo values and every list of requests
use Rattle.std.specs.Prelude.{◌≡◌, ℕ, true, List, Some, Ok, Result}
use Rattle.stock.specs.declared.access.Access.{Access}
use Rattle.stock.specs.declared.fault.StockFault.{StockFault}
use Rattle.meaning.specs.Meaning.{meaning}
use Rattle.rules.specs.Course.{Course, Moment, course, start, turn}
use Rattle.rules.specs.Logical.{logical}
use Rattle.rules.specs.Next.{next}
use Rattle.rules.specs.Outcome.{Outcome, answer_in, is_granted, ran}
use Rattle.rules.specs.Policy.{Laws, Policy}
use Rattle.rules.specs.Replay.{Replays}
use Rattle.rules.specs.Request.{Request, access, commit, hardware}

module _ {V : Type 0} (P : Policy V) (ws ds : List V) (requests : List (Request V)) where
  abbrev pub before : Moment requests → Course V
  before q = course P (start ws ds) q.past

  abbrev pub outcome : Moment requests → Outcome V
  outcome q = (next P (before q).memory q.request).0

  abbrev pub after : Moment requests → Course V
  after q = turn P (before q) q.request

  pub record Serial : Type 0 where
    -- the logical values are the ledger's figures
    pub figures_agree : (q : Moment requests) (b : ℕ) → logical (after q).memory b ≡ (after q).ledger.figures b
    -- at a granted commit the ledger's run of the thread's accesses answers what the memory answered
    pub commits_replay :
        (q : Moment requests) (t : ℕ) → q.request ≡ commit t → is_granted (outcome q) ≡ true →
        Replays P.arithmetic (before q).ledger.figures ((before q).ledger.accesses t)
    -- at a granted hardware transaction the ledger's run is not refused, and its looks get the same answers
    pub hardware_replays :
        (q : Moment requests) (t works : ℕ) (os : List (Access V)) (ys : List V) →
        q.request ≡ hardware t works os ys → is_granted (outcome q) ≡ true →
        ((meaning P.arithmetic os (before q).ledger.figures ys).result ≡ Ok tt)
        × (outcome q ≡ ran (meaning P.arithmetic os (before q).ledger.figures ys).answers)

  pub record Consistent : Type 0 where
    -- whenever an access is answered, all answers of its transaction hold of the logical values of that moment
    pub reads_stood_together :
        (q : Moment requests) (t : ℕ) (a : Access V) (x : Result V StockFault) → q.request ≡ access t a → answer_in (outcome q) ≡ Some x →
        Replays P.arithmetic (logical (after q).memory) ((after q).ledger.accesses t)

abbrev pub RunsSerial : Type 0 → Type 0
RunsSerial V = (P : Policy V) → Laws P.rules → (ws ds : List V) (requests : List (Request V)) → Serial P ws ds requests

abbrev pub RunsConsistent : Type 0 → Type 0
RunsConsistent V = (P : Policy V) → Laws P.rules → (ws ds : List V) (requests : List (Request V)) → Consistent P ws ds requests
