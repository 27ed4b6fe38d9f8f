-- Jobs that are taken up in the order in which they wait.
use Rattle.std.proofs.Common.{◌≡◌, ◌∙◌, ℕ, true, [], ◌∷◌, ◌++◌, List, map, ap, refl, sym}
use Rattle.std.proofs.lemmas.List.{append_assoc, map-append}
use Rattle.tool_job.specs.declared.queue.decisions.JobSupply.{JobSupply}
use Rattle.tool_job.specs.declared.queue.decisions.JobSupply.TheVariants as Supplies
use Rattle.tool_job.specs.queue.Decisions.{takes_up}
use Rattle.tool_job.specs.queue.Order.{KeepsOrder}

-- nothing was taken up
pub none_more : {E : Type 0} (named : E → List ℕ) (ahead : List E) (waits : List (List ℕ)) (supply : JobSupply) → KeepsOrder named ahead ahead waits waits supply
none_more named ahead waits Supplies.Open = refl
none_more named ahead waits (Supplies.Failed error) = tt

-- none waits
pub none_waits : {E : Type 0} (named : E → List ℕ) (ahead : List E) (waited waits : List (List ℕ)) (supply : JobSupply) → waited ≡ [] → waits ≡ []
    → KeepsOrder named ahead ahead waited waits supply
none_waits named ahead waited waits Supplies.Open was is = ap (λ names. map named ahead ++ names) (is ∙ sym was)
none_waits named ahead waited waits (Supplies.Failed error) was is = tt

-- the first that waits goes behind those that are ahead
pub one_more : {E : Type 0} (named : E → List ℕ) (ahead : List E) (job : E) (new : List E) (waited waits : List (List ℕ)) (supply : JobSupply)
    → new ≡ ahead ++ job ∷ [] → waited ≡ named job ∷ waits → KeepsOrder named ahead new waited waits supply
one_more named ahead job new waited waits Supplies.Open more is =
    ap (λ jobs. map named jobs ++ waits) more
    ∙ ap (λ names. names ++ waits) (map-append named ahead (job ∷ []))
    ∙ append_assoc (map named ahead) (named job ∷ []) waits
    ∙ ap (λ names. map named ahead ++ names) (sym is)
one_more named ahead job new waited waits (Supplies.Failed error) more is = tt

-- one after another
pub more_then : {E : Type 0} (named : E → List ℕ) (old mid new : List E) (waited between waits : List (List ℕ)) (before after : JobSupply) (count most : ℕ)
    → takes_up count most before ≡ true → KeepsOrder named old mid waited between before → KeepsOrder named mid new between waits after
    → KeepsOrder named old new waited waits after
more_then named old mid new waited between waits Supplies.Open Supplies.Open count most may first second = second ∙ first
more_then named old mid new waited between waits (Supplies.Failed error) Supplies.Open count most may first second = absurd (cc)
more_then named old mid new waited between waits before (Supplies.Failed error) count most may first second = tt
