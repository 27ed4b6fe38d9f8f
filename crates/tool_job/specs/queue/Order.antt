-- Which job of a queue has its turn next (own choice). Jobs are told apart by what they are called.
use Rattle.std.specs.Prelude.{◌≡◌, ℕ, List, [], ◌∷◌, ◌++◌, map, Option, Some, None, Result, Ok, Err, ⊤}
use Rattle.std.specs.declared.io.Error.{Error}
use Rattle.tool_job.specs.declared.queue.decisions.JobSupply.{JobSupply}
use Rattle.tool_job.specs.declared.queue.decisions.JobSupply.TheVariants as Supplies

-- of the jobs that waited the first is given, and the others wait on; none where none waited; of one that can't be made nothing is said
abbrev pub GivesWaiting : {E : Type 0} → (named : E → List ℕ) → (waited waits : List (List ℕ)) → Result (Option E) Error → Type 0
GivesWaiting named waited waits (Ok (Some job)) = waited ≡ named job ∷ waits
GivesWaiting named waited waits (Ok None) = (waited ≡ []) × (waits ≡ [])
GivesWaiting named waited waits (Err error) = ⊤

-- of the jobs that were taken up ahead, in the order in which they were, the first is next, and the others stay; where none was, it is the next that waits,
-- or the reason for which no more can be taken up
abbrev pub GivesFirst : {E : Type 0} → (named : E → List ℕ) → (old new : List E) → (waited waits : List (List ℕ)) → JobSupply → Result (Option E) Error → Type 0
GivesFirst named (first ∷ rest) new waited waits supply result = (result ≡ Ok (Some first)) × (new ≡ rest) × (waits ≡ waited)
GivesFirst named [] new waited waits (Supplies.Failed error) result = (result ≡ Err error) × (new ≡ []) × (waits ≡ waited)
GivesFirst named [] new waited waits Supplies.Open result = (new ≡ []) × GivesWaiting named waited waits result

-- but a job that was in its turn when a control connection ended is next before all others
abbrev pub GivesNext : {E : Type 0} → (named : E → List ℕ) → (cut : Option E) → (old new : List E) → (waited waits : List (List ℕ)) → JobSupply
    → Result (Option E) Error → Type 0
GivesNext named (Some job) old new waited waits supply result = (result ≡ Ok (Some job)) × (new ≡ old) × (waits ≡ waited)
GivesNext named None old new waited waits supply result = GivesFirst named old new waited waits supply result

-- jobs are taken up in the order in which they wait: those ahead and then those that wait are the same as before, while more can be taken up
abbrev pub KeepsOrder : {E : Type 0} → (named : E → List ℕ) → (old new : List E) → (waited waits : List (List ℕ)) → JobSupply → Type 0
KeepsOrder named old new waited waits Supplies.Open = map named new ++ waits ≡ map named old ++ waited
KeepsOrder named old new waited waits (Supplies.Failed error) = ⊤
