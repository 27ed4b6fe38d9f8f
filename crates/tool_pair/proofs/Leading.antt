-- What leads from one world to another, one event after the other, and one order after the other.
use Rattle.std.proofs.Common.{◌≡◌, ◌∙◌, ◌+◌, ◌≤◌, ℕ, Bool, true, false, List, [], ◌∷◌, ◌++◌, Result, Ok, Err, length, length-append, min, refl, sym, ap, subst, append-nil, append_assoc, arith}
use Rattle.std.specs.Prelude.{IfOk, OnOk}
use Rattle.ftp_operation.specs.declared.op.How.{How}
use Rattle.ftp_operation.specs.declared.op.Op.{Op}
use Rattle.ftp_client_model.specs.Tries.{over_breaks}
use Rattle.ftp_server_model.specs.Machine.{Reading}
use Rattle.ftp_pair_events.specs.declared.queues.between.Queue.{Queue}
use Rattle.laws_world.specs.Agreement as worlds
use Rattle.laws_world.specs.Agreement.{AreHonest, IsHonest, Leads, begun_by_event}
use Rattle.laws_world.specs.Claims.{AreTimed, IsTimed}
use Rattle.laws_world.specs.Events as events
use Rattle.laws_world.specs.Events.{Event, Happens}
use Rattle.laws_world.specs.World.{World}
use Rattle.ftp_pair_events.specs.events.Shown.{Steps, queue_of}
use Rattle.ftp_pair.specs.Session.{Seen}
use Rattle.tool_script.specs.declared.order.Order.{Order}
use Rattle.tool_script.specs.declared.order.Order.TheVariants.{Once, Tries}
use Rattle.ftp_tree.specs.Sound.{last_second}
use Rattle.tool_pair.specs.Leading.{LeadsTaking, LeadsTo, delivered_by, deliveries, first_second, order_at, script_orders_at}
use Rattle.tool_pair.specs.Telling.{HasTold, LeadsTelling, TellsMore}
use Rattle.tool_pair.specs.Transcript.{Delivery, delivered}
use Rattle.tool_pair.specs.declared.transcript.Transcript.{Transcript}

-- ---- events behind events

-- they lead on, and take what both take
taking_on : (read : Reading) (front given : List Event) (begun more : List worlds.Order) (took also : List Delivery) (old mid new : World) → LeadsTaking read old front begun took mid
    → LeadsTaking read mid given more also new → LeadsTaking read old (front ++ given) (begun ++ more) (took ++ also) new
taking_on read [] given begun more took also old mid new one other =
    subst (λ t. LeadsTaking read old given (begun ++ more) (t ++ also) new) (sym one.1)
    (subst (λ b. LeadsTaking read old given (b ++ more) also new) (sym one.0.0) (subst (λ w. LeadsTaking read w given more also new) one.0.1 other))
taking_on read (event ∷ front) given begun more took also old mid new one other =
    let run = one.0 in
    let behind = deliveries read run.1 front run.2 mid run.5 in
    let on = taking_on read front given run.2 more behind also run.1 mid new (run.5, refl) other in (
      (run.0, run.1, run.2 ++ more, run.3, ap (λ b. b ++ more) run.4 ∙ append_assoc (begun_by_event event run.0) run.2 more, on.0),
      ap (λ t. t ++ also) one.1 ∙ append_assoc (delivered_by event run.0 run.1) behind also ∙ ap (λ t. delivered_by event run.0 run.1 ++ t) on.1,
    )

-- each of them is honest
honest_on : (front given : List Event) → AreHonest front → AreHonest given → AreHonest (front ++ given)
honest_on [] given one other = other
honest_on (event ∷ front) given one other = (one.0, honest_on front given one.1 other)

-- each is timed
timed_on : (front given : List Event) → AreTimed front → AreTimed given → AreTimed (front ++ given)
timed_on [] given one other = other
timed_on (event ∷ front) given one other = (one.0, timed_on front given one.1 other)

-- nothing leads from a world to itself
pub nothing : (s : Seen) → LeadsTo [] [] s s
nothing s calm = (calm, λ read reads. ([], tt, tt, ((refl, refl), refl)))

-- what leads on
pub joined : (begun more : List worlds.Order) (took also : List Delivery) (old mid new : Seen) → LeadsTo begun took old mid → LeadsTo more also mid new
    → LeadsTo (begun ++ more) (took ++ also) old new
joined begun more took also old mid new one other calm =
    let late = other calm in
    let early = one late.0 in (
      early.0,
      λ read reads. let a = early.1 read reads in let b = late.1 read reads in
          (a.0 ++ b.0, honest_on a.0 b.0 a.1 b.1, timed_on a.0 b.0 a.2 b.2, taking_on read a.0 b.0 begun more took also old.world mid.world new.world a.3 b.3),
    )

-- the same where no operation begins behind
pub then_none : (begun : List worlds.Order) (took also : List Delivery) (old mid new : Seen) → LeadsTo begun took old mid → LeadsTo [] also mid new
    → LeadsTo begun (took ++ also) old new
then_none begun took also old mid new one other = subst (λ b. LeadsTo b (took ++ also) old new) (append-nil begun) (joined begun [] took also old mid new one other)

-- four in a row that take nothing
pub four : (a b c d e : Seen) → LeadsTo [] [] a b → LeadsTo [] [] b c → LeadsTo [] [] c d → LeadsTo [] [] d e → LeadsTo [] [] a e
four a b c d e first second third last = joined [] [] [] [] a d e (joined [] [] [] [] a c d (joined [] [] [] [] a b c first second) third) last

-- ---- one event

-- it leads on
one_leads : (event : Event) (possible : Bool) (old new : Seen) → IsHonest event → IsTimed event
    → Steps old.calm new.calm (λ read. Happens read event old.world possible new.world)
    → LeadsTo (begun_by_event event possible ++ []) (delivered_by event possible new.world ++ []) old new
one_leads event possible old new honest timed steps calm =
    let did = steps calm in
    (did.0, λ read reads. (event ∷ [], (honest, tt), (timed, tt), ((possible, new.world, [], did.1 read reads, refl, (refl, refl)), refl)))

-- one that begins nothing and takes nothing
quiet_leads : {E : Type 0} (event : Event) (r : Result Bool E) (old new : Seen) → IsHonest event → IsTimed event → ((possible : Bool) → begun_by_event event possible ≡ [])
    → ((possible : Bool) (w : World) → delivered_by event possible w ≡ [])
    → IfOk r (λ possible. Steps old.calm new.calm (λ read. Happens read event old.world possible new.world)) → OnOk r (LeadsTo [] [] old new)
quiet_leads event (Ok possible) old new honest timed none untaken did =
    subst (λ b. LeadsTo b [] old new) (none possible)
    (subst (λ b. LeadsTo b [] old new) (append-nil (begun_by_event event possible))
    (subst (λ t. LeadsTo (begun_by_event event possible ++ []) t old new) (append-nil (delivered_by event possible new.world) ∙ untaken possible new.world)
    (one_leads event possible old new honest timed did)))
quiet_leads event (Err error) old new honest timed none untaken did = tt

-- an opening
pub open_leads : {E : Type 0} (r : Result Bool E) (old new : Seen)
    → IfOk r (λ possible. Steps old.calm new.calm (λ read. Happens read events.Open old.world possible new.world)) → OnOk r (LeadsTo [] [] old new)
open_leads r old new did = quiet_leads events.Open r old new tt tt (λ possible. refl) (λ possible w. refl) did

-- an end
pub end_leads : {E : Type 0} (queue : Queue) (r : Result Bool E) (old new : Seen)
    → IfOk r (λ possible. Steps old.calm new.calm (λ read. Happens read (events.End (queue_of queue)) old.world possible new.world)) → OnOk r (LeadsTo [] [] old new)
end_leads queue r old new did = quiet_leads (events.End (queue_of queue)) r old new tt tt (λ possible. refl) (λ possible w. refl) did

-- a delivery takes what the world after it lends, where it was possible
pub delivery_leads : {E : Type 0} (queue : Queue) (count : ℕ) (r : Result Bool E) (old new : Seen)
    → IfOk r (λ possible. Steps old.calm new.calm (λ read. Happens read (events.Deliver (queue_of queue) count) old.world possible new.world))
    → IfOk r (λ possible. LeadsTo [] (delivered_by (events.Deliver (queue_of queue) count) possible new.world) old new)
delivery_leads queue count (Ok possible) old new did =
    subst (λ t. LeadsTo [] t old new) (append-nil (delivered_by (events.Deliver (queue_of queue) count) possible new.world))
    (one_leads (events.Deliver (queue_of queue) count) possible old new tt tt did)
delivery_leads queue count (Err error) old new did = tt

-- an operation that begins
pub next_leads : {E : Type 0} (op : Op (List ℕ)) (moment : ℕ) (order : Order (List ℕ)) (r : Result Bool E) (old new : Seen) → Once op ≡ order → moment ≤ last_second
    → IfOk r (λ possible. Steps old.calm new.calm (λ read. Happens read (events.Next op moment) old.world possible new.world))
    → IfOk r (λ possible. possible ≡ true → LeadsTo (order_at moment order ∷ []) [] old new)
next_leads op moment order (Ok true) old new is timed did =
    λ begun. subst (λ o. LeadsTo (order_at moment o ∷ []) [] old new) is (one_leads (events.Next op moment) true old new tt timed did)
next_leads op moment order (Ok false) old new is timed did = λ begun. absurd (cc (begun))
next_leads op moment order (Err error) old new is timed did = tt

-- an upload over breaks that does
pub upload_leads : {E : Type 0} (path octets : List ℕ) (how : How) (moment : ℕ) (order : Order (List ℕ)) (r : Result Bool E) (old new : Seen) → Tries path octets how ≡ order
    → moment ≤ last_second → IfOk r (λ possible. Steps old.calm new.calm (λ read. Happens read (events.Upload (over_breaks path octets how) moment) old.world possible new.world))
    → IfOk r (λ possible. possible ≡ true → LeadsTo (order_at moment order ∷ []) [] old new)
upload_leads path octets how moment order (Ok true) old new is timed did =
    λ begun. subst (λ o. LeadsTo (order_at moment o ∷ []) [] old new) is (one_leads (events.Upload (over_breaks path octets how) moment) true old new tt timed did)
upload_leads path octets how moment order (Ok false) old new is timed did = λ begun. absurd (cc (begun))
upload_leads path octets how moment order (Err error) old new is timed did = tt

-- ---- with a transcript

-- what was told, and then more
tells_on : {A : Type 0} (notes later last : Transcript A) (took also : List Delivery) → TellsMore notes took later → TellsMore later also last → TellsMore notes (took ++ also) last
tells_on notes later last took also one other = record {
  wanted = other.wanted ∙ one.wanted;
  told = λ before has. subst (λ l. HasTold last l) (append_assoc before took also) (other.told (before ++ took) (one.told before has));
}

-- a transcript that was told nothing more
tells_nothing : {A : Type 0} (notes : Transcript A) → TellsMore notes [] notes
tells_nothing notes = record { wanted = refl; told = λ before has. subst (λ l. HasTold notes l) (sym (append-nil before)) has }

-- nothing is taken, and nothing told
pub nothing_told_of : {A : Type 0} (s : Seen) (notes : Transcript A) → LeadsTelling [] s s notes notes
nothing_told_of s notes = ([], nothing s, tells_nothing notes)

-- deliveries behind others
pub telling_on : {A : Type 0} (begun : List worlds.Order) (old mid new : Seen) (notes later last : Transcript A) → LeadsTelling begun old mid notes later
    → LeadsTelling [] mid new later last → LeadsTelling begun old new notes last
telling_on begun old mid new notes later last one other =
    (one.0 ++ other.0, then_none begun one.0 other.0 old mid new one.1 other.1, tells_on notes later last one.0 other.0 one.2 other.2)

-- what takes nothing, behind them
pub then_silent : {A : Type 0} (begun more : List worlds.Order) (old mid new : Seen) (notes later : Transcript A) → LeadsTelling begun old mid notes later → LeadsTo more [] mid new
    → LeadsTelling (begun ++ more) old new notes later
then_silent begun more old mid new notes later one other =
    (one.0, subst (λ t. LeadsTo (begun ++ more) t old new) (append-nil one.0) (joined begun more one.0 [] old mid new one.1 other), one.2)

-- a delivery that was not possible
pub none_delivered : {A : Type 0} (queue : Queue) (count : ℕ) (possible : Bool) (old new : Seen) (notes : Transcript A) → possible ≡ false
    → LeadsTo [] (delivered_by (events.Deliver (queue_of queue) count) possible new.world) old new → LeadsTelling [] old new notes notes
none_delivered queue count possible old new notes not leads =
    ([], subst (λ p. LeadsTo [] (delivered_by (events.Deliver (queue_of queue) count) p new.world) old new) not leads, tells_nothing notes)

-- one that was, and what the transcript was told of it
pub delivery_told : {A : Type 0} (queue : Queue) (count : ℕ) (possible : Bool) (old new : Seen) (octets : List ℕ) (notes later : Transcript A) → possible ≡ true
    → LeadsTo [] (delivered_by (events.Deliver (queue_of queue) count) possible new.world) old new → octets ≡ new.world.taken
    → TellsMore notes (delivered (queue_of queue) octets ∷ []) later → LeadsTelling [] old new notes later
delivery_told queue count possible old new octets notes later so leads is tells = (
  delivered (queue_of queue) new.world.taken ∷ [],
  subst (λ p. LeadsTo [] (delivered_by (events.Deliver (queue_of queue) count) p new.world) old new) so leads,
  subst (λ o. TellsMore notes (delivered (queue_of queue) o ∷ []) later) is tells,
)

-- a round: four queues, and then what takes nothing
pub round_told : {A : Type 0} (a b c d e f g : Seen) (h i j k l : Transcript A) → LeadsTelling [] a b h i → LeadsTelling [] b c i j → LeadsTelling [] c d j k
    → LeadsTelling [] d e k l → LeadsTo [] [] e f → LeadsTo [] [] f g → LeadsTelling [] a g h l
round_told a b c d e f g h i j k l first second third last opened ended =
    then_silent [] [] a f g h l
    (then_silent [] [] a e f h l (telling_on [] a d e h k l (telling_on [] a c d h j k (telling_on [] a b c h i j first second) third) last) opened) ended

-- ---- one order more

-- behind others
orders_more : (moment : ℕ) (orders : List (Order (List ℕ))) (order : Order (List ℕ))
    → script_orders_at moment orders ++ order_at (moment + length orders) order ∷ [] ≡ script_orders_at moment (orders ++ order ∷ [])
orders_more moment [] order = ap (λ m. order_at m order ∷ []) (omega (arith))
orders_more moment (one ∷ orders) order =
    ap (λ l. order_at moment one ∷ l) (ap (λ m. script_orders_at (moment + 1) orders ++ order_at m order ∷ []) (omega (arith)) ∙ orders_more (moment + 1) orders order)

-- it leads on
pub order_leads : {A : Type 0} (moment at : ℕ) (orders : List (Order (List ℕ))) (order : Order (List ℕ)) (old mid new : Seen) (notes later : Transcript A)
    → LeadsTelling (script_orders_at moment orders) old mid notes later → at ≡ moment + length orders → LeadsTo (order_at at order ∷ []) [] mid new
    → LeadsTelling (script_orders_at moment (orders ++ order ∷ [])) old new notes later
order_leads moment at orders order old mid new notes later front is last =
    subst (λ b. LeadsTelling b old new notes later) (orders_more moment orders order)
    (then_silent (script_orders_at moment orders) (order_at (moment + length orders) order ∷ []) old mid new notes later front
    (subst (λ m. LeadsTo (order_at m order ∷ []) [] mid new) is last))

-- the number of orders, one more
pub one_counted : {T : Type 0} (number after seconds : ℕ) (orders : List T) (order : T) → number ≡ length orders → seconds ≡ first_second + number → seconds ≤ 253402300799
    → after ≡ min (number + 1) 18446744073709551615 → after ≡ length (orders ++ order ∷ [])
one_counted number after seconds orders order is at few more = omega (arith, length-append orders (order ∷ []), is, at, few, more)

-- a list without length has no items
none_left : {T : Type 0} (l : List T) → length l ≡ 0 → l ≡ []
none_left [] none = refl
none_left (one ∷ l) none = absurd (omega (arith, none))

-- orders that were all lead on, and what follows
pub all_lead : {A : Type 0} (moment : ℕ) (all front rest : List (Order (List ℕ))) (old mid new : Seen) (notes later last : Transcript A) → all ≡ front ++ rest → length rest ≡ 0
    → LeadsTelling (script_orders_at moment front) old mid notes later → LeadsTelling [] mid new later last → LeadsTelling (script_orders_at moment all) old new notes last
all_lead moment all front rest old mid new notes later last is none leads behind =
    subst (λ l. LeadsTelling (script_orders_at moment l) old new notes last) (sym (is ∙ ap (λ l. front ++ l) (none_left rest none) ∙ append-nil front))
    (telling_on (script_orders_at moment front) old mid new notes later last leads behind)
