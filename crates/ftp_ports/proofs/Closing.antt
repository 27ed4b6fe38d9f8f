-- While one that serves wants its data connection closed, it does nothing else.
use Rattle.std.proofs.Common.{◌≡◌, ◌∙◌, ℕ, List, [], ◌∷◌, inl, inr, subst, sym, Option}
use Rattle.std.specs.Prelude.{true, false}
use Rattle.ftp_ports.specs.Asking.{Asked, Came, Connected, Ended, Listened, Lost, NotCame, NotConnected, Reset, Shut}
use Rattle.ftp_ports.specs.Closing.{IsOfClosing}
use Rattle.ftp_ports.specs.Actions.{Action, Done, Heard, Said, Read, Ended as ToldEnded, Other, Stand}
use Rattle.ftp_ports.specs.Channel.{IsHad}
use Rattle.ftp_ports.specs.Machine.{AreWanted, IsListening, IsConnectionRefused, IsWanted, Machine, awaits, side_of, waits}
use Rattle.ftp_ports.specs.Machine.{Aside, Break, Closed, End, Failed, Gave, Got, Left, LetGo, Listening, NoPort, Opened, Received, Refused, Waited, Wrote}
use Rattle.ftp_endpoint.specs.declared.host.Host.{Host}
use Rattle.ftp_ends.specs.declared.link.Wants.{Wants}
use Rattle.ftp_ends.specs.declared.link.Wants.TheVariants as Want

-- it does not wait for octets
waits_not : (want : Wants) → want ≡ Want.CloseData → waits want ≡ true → ⊥
waits_not want is waiting = let e : false ≡ true = subst (λ w. waits w ≡ true) is waiting in cc

listens_not : (machine : Machine) (here : machine.Here) → machine.serves ≡ true → machine.wants here ≡ Want.CloseData → IsListening machine here → ⊥
listens_not machine here serves is listening = waits_not (machine.wants here) is (listening serves)

-- nor is one had that was asked for
opened_not : (want : Wants) (host : Host) (had : Asked) (left written : Option (List ℕ)) → want ≡ Want.CloseData → IsHad host had left written → IsWanted want had → ⊥
opened_not want host had left written is (inl same) wanted = let e : Want.CloseData ≡ Want.Accept = sym is ∙ subst (λ a. IsWanted want a) same wanted in cc
opened_not want host had left written is (inr (endpoint, same, at)) wanted =
    let e : Want.CloseData ≡ Want.Connect endpoint = sym is ∙ subst (λ a. IsWanted want a) same wanted in cc

-- nor is one refused
refused_not : (want : Wants) (asked : List Asked) → want ≡ Want.CloseData → IsConnectionRefused want asked → ⊥
refused_not want [] is refused = refused
refused_not want (NotCame ∷ []) is refused = let e : Want.CloseData ≡ Want.Accept = sym is ∙ refused in cc
refused_not want (NotConnected endpoint ∷ []) is refused = let e : Want.CloseData ≡ Want.Connect endpoint = sym is ∙ refused in cc
refused_not want (NotCame ∷ other ∷ more) is refused = refused
refused_not want (NotConnected endpoint ∷ other ∷ more) is refused = refused
refused_not want (Listened port ∷ more) is refused = refused
refused_not want (Came host left written ∷ more) is refused = refused
refused_not want (Connected endpoint left written ∷ more) is refused = refused
refused_not want (Ended left written ∷ more) is refused = refused
refused_not want (Reset left written ∷ more) is refused = refused
refused_not want (Shut ∷ more) is refused = refused
refused_not want (Lost ∷ more) is refused = refused

-- of each action
pub closes_only : (machine : Machine) (action : Action (side_of machine)) (old new : Stand (side_of machine)) → machine.serves ≡ true
    → machine.wants old.owner.end ≡ Want.CloseData → Done action old new → IsOfClosing machine action
closes_only machine (Heard octets) old new serves is done = listens_not machine old.owner.end serves is done.hears.2
closes_only machine (Said octets) old new serves is done = tt
closes_only machine (Read octets) old new serves is done = listens_not machine old.owner.end serves is done.due.1
closes_only machine ToldEnded old new serves is done = listens_not machine old.owner.end serves is done.due.1
closes_only machine (Other (Aside own)) old new serves is done = tt
closes_only machine (Other (Listening port)) old new serves is done = let e : Want.CloseData ≡ Want.Listen = sym is ∙ done.0.2.0 in cc
closes_only machine (Other (Received octets count)) old new serves is done = let e : Want.CloseData ≡ Want.Receive = sym is ∙ done.0.2.1 in cc
closes_only machine (Other (Gave count octets rest)) old new serves is done = let e : Want.CloseData ≡ Want.Send = sym is ∙ done.0.2 in cc
closes_only machine (Other NoPort) old new serves is done = let e : Want.CloseData ≡ Want.Listen = sym is ∙ done.0.2.0 in cc
closes_only machine (Other End) old new serves is done = let e : Want.CloseData ≡ Want.Receive = sym is ∙ done.0.2 in cc
closes_only machine (Other Break) old new serves is done = tt
closes_only machine (Other Closed) old new serves is done = tt
closes_only machine (Other (Waited lost)) old new serves is done = let e : false ≡ true = subst (λ w. awaits w ≡ true) is done.0.2 in cc
closes_only machine (Other (Got octets)) old new serves is done = let e : Want.CloseData ≡ Want.Receive = sym is ∙ done.0.2 in cc
closes_only machine (Other (Wrote octets)) old new serves is done = tt
closes_only machine (Other (LetGo octets)) old new serves is done = tt
closes_only machine (Other Failed) old new serves is done = tt
closes_only machine (Other (Left asked)) old new serves is done = tt
closes_only machine (Other (Opened host asked at_first so_far rest)) old new serves is done =
    let opened = done.0.1 in
    opened_not (machine.wants old.owner.end) host opened.had at_first so_far is opened.is_had (subst (λ a. AreWanted (machine.wants old.owner.end) a) opened.alone done.0.2.0)
closes_only machine (Other (Refused asked)) old new serves is done = refused_not (machine.wants old.owner.end) asked is done.0.2.0
