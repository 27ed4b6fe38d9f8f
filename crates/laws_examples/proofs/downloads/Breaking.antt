-- Actions of two drives of which a download breaks, as a kind of those that are played one after another; what is done as it breaks.
use Rattle.std.proofs.Common.{◌≡◌, inl, inr, ℕ, List, [], ◌∷◌, ◌++◌, length, take, drop, None, refl, sym, ap, subst}
use Rattle.ftp_ports.specs.Asking.{NotConnected, Reset}
use Rattle.ftp_ports.specs.Actions.{Action, Done, Other, Stand}
use Rattle.ftp_ports.specs.Channel.{Channel, with_fate}
use Rattle.ftp_ports.specs.Machine.{Aside, Break, Failed, Gave, Held, Left, Refused, rest_left}
use Rattle.ftp_ports.specs.declared.whole.Fate.TheVariants as Fates
use Rattle.ftp_ports.specs.declared.whole.Rest.TheVariants as Rests
use Rattle.ftp_client_driver.specs.Side.{Begun, Starting, client_side}
use Rattle.ftp_client_model.specs.Failing.{Client as NearEnd}
use Rattle.ftp_ends.specs.declared.link.Wants.TheVariants as Want
use Rattle.ftp_operation.specs.declared.op.Op.{Op}
use Rattle.ftp_server_driver.specs.alone.Side.{Timed, server_side}
use Rattle.ftp_server_model.specs.Calls as far
use Rattle.ftp_server_model.specs.Failing.{EndFails, GiveFails}
use Rattle.ftp_server_model.specs.Machine.{later}
use Rattle.ftp_server_model.specs.View.{View as Far}
use Rattle.laws_breaks.specs.downloads.Actions.{ClientSuffers, IsPeeking, IsSuffering, IsYielding, ServerYields}
use Rattle.laws_drivers.specs.events.Actions.{IsMidst}
use Rattle.laws_drivers.proofs.events.Along.{Went}
use Rattle.laws_drivers.specs.control.Between.{Between, Client, Server, Turn}
use Rattle.laws_transfers.specs.Actions.{IsAsking, IsServing}
use Rattle.laws_examples.proofs.transfers.Moves.{steps}
use Rattle.laws_examples.proofs.transfers.Peeking.{more_stands}
use Rattle.laws_examples.proofs.transfers.Playing.{IsUnbroken, Kind, PlayedBy, far_in, none_yet, one_stands, played_as, server_of}

-- ---- the kind

-- a server for which nothing breaks does what one does for which something may
pub yields : (action : Action server_side) (at : Held Timed) → IsServing action at → IsYielding action at
yields (Other Failed) at is = tt
yields (Other Break) at is = absurd is
yields action at is = is

-- so does a client in the midst of a drive
pub suffers : (action : Action client_side) (at : Held NearEnd) → IsMidst action → IsUnbroken action → IsAsking action at → IsSuffering action at
suffers (Other (Aside (Starting op))) at midst unbroken is = absurd midst
suffers (Other Failed) at midst unbroken is = tt
suffers (Other Break) at midst unbroken is = absurd unbroken
suffers (Other (Left (Reset left written))) at midst unbroken is = is.1
suffers (Other (Refused (NotConnected endpoint ∷ []))) at midst unbroken is = tt
suffers action at midst unbroken is = is

-- where it begins nothing that is as where it may peek
pub peeks : (action : Action client_side) (at : Held NearEnd) → IsMidst action → IsSuffering action at → IsPeeking action at
peeks (Other (Aside (Starting op))) at midst is = absurd midst
peeks action at midst is = is

-- turns after these
abbrev pub AreAfter : (first turns : List Turn) → Type 0
AreAfter first turns = (more : List Turn) × (turns ≡ more ++ first)

-- a download may break, and the turns are after these
abbrev pub breaking : List Turn → Kind
breaking first = record {
  Gives = ServerYields;
  Takes = ClientSuffers;
  gives = λ action old new is. (yields action old is.0, is.1);
  takes = λ action old new midst unbroken is. (peeks action old midst (suffers action old midst unbroken is.0), is.1);
  Keeps = λ turns between happened. AreAfter first turns;
  far_keeps = λ action at next gives before old new happened can after. (Server action ∷ after.0, ap (λ l. Server action ∷ l) after.1);
  near_keeps = λ action unbroken before old new happened can after. (Client action ∷ after.0, ap (λ l. Client action ∷ l) after.1);
}

module _ {first : List Turn} {moments : ℕ → ℕ} {start : Stand server_side} {begun : Stand client_side} {op : Op (List ℕ)} {listened : ℕ}
    {between : Between} {server : Stand server_side} {client : Stand client_side} where
  -- from here on turns are after those so far
  pub from_here : (p : PlayedBy (breaking first) moments start begun op listened between server client)
      → PlayedBy (breaking p.turns) moments start begun op listened between server client
  from_here p = played_as (breaking p.turns) p p.gives p.takes ([], refl)

-- a client did actions after it began an operation
pub went_on : (op : Op (List ℕ)) (midst : List (Action client_side)) (old begun now : Stand client_side) → Went ClientSuffers midst begun now
    → Done (Other (Begun op)) old begun → ClientSuffers (Other (Begun op)) old.owner begun.owner → Went ClientSuffers (midst ++ Other (Begun op) ∷ []) old now
went_on op [] old begun now went done is =
    subst (λ n. Went ClientSuffers (Other (Begun op) ∷ []) old n) (sym went.0) ((old, refl, done), (tt, is))
went_on op (action ∷ midst) old begun now went done is =
    let rest = went_on op midst old begun went.0.0 (went.0.1, went.1.0) done is in ((went.0.0, rest.0, went.0.2), (rest.1, went.1.1))

-- ---- what is done as it breaks

-- a server's data connection for which it has more to give: a write of it failed, and it was told that it broke
abbrev pub more_failed : Channel
more_failed = with_fate Fates.Failed more_stands

abbrev pub more_broken : Channel
more_broken = with_fate Fates.Broken more_failed

-- behind the octets that it moved
pub far_fails : (v : Far) → Done (Other Failed) (far_in more_stands v []) (far_in more_failed v [])
far_fails v = ((refl, (refl, (refl, refl)), tt), refl)

-- it is told, right after a moment
pub far_breaks : (v mid new : Far) → mid ≡ later (far.clock_step 0 v) → new ≡ later (far.break_step mid)
    → Done (Other Break) (far_in more_failed v []) (far_in more_broken new [])
far_breaks v mid new told is =
    (((0, server_of mid, tt, steps (λ v w. ⊥) (far.clock_step 0) v mid told, steps EndFails far.break_step mid new is), refl, tt), refl)

-- it resets it
pub far_drops : (v : Far) → Done (Other (Left (Reset None None))) (far_in more_broken v []) (far_in none_yet v [])
far_drops v = (
  (
    refl,
    record { ended = inr refl; adds = tt; stands = refl; fate = refl; rest = refl; unwritten = refl; untold = refl },
    (tt, inl refl, tt),
  ),
  refl,
)

-- one that was told nothing gives the rest
pub far_gives_rest : (octets : List ℕ) (v new : Far) → far.wants v ≡ Want.Send → octets ≡ take (length octets) (far.to_give v)
    → Rests.Nothing ≡ rest_left (drop (length octets) (far.to_give v)) → new ≡ later (far.given_step (length octets) v)
    → Done (Other (Gave (length octets) octets Rests.Nothing)) (far_in more_stands v []) (far_in (one_stands octets []) new [])
far_gives_rest octets v new wants first none is = (
  (
    ((λ course. (first, none)), (steps (GiveFails (length octets)) (far.given_step (length octets)) v new is, refl)),
    (refl, (refl, refl)),
    wants,
  ),
  refl,
)
