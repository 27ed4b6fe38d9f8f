-- A server that was told of the break of its data connection has octets unwritten, until it leaves it; it does all the same as one that has none.
use Rattle.std.proofs.Common.{◌≡◌, inl, inr, ℕ, ◌<◌, Bool, true, false, List, [], ◌∷◌, ◌++◌, length, Option, refl, sym, ap, ap₂, subst, ◌∙◌}
use Rattle.std.specs.Prelude.{⊤}
use Rattle.ftp_ports.specs.Asking.{Asked, Came, Ended as EndedBy, Reset, Shut}
use Rattle.ftp_ports.specs.Actions.{Action, Done, Heard, Other, Read, Said as Says, Stand, with_owner}
use Rattle.ftp_ports.specs.Channel.{IsEnded, IsLeft, IsOpen, Channel, with_fate, with_given}
use Rattle.ftp_ports.specs.Machine.{Aside, Break, Closed, End, Failed, Gave, Got, Held, IsFairEnd, Left, LetGo, Listening, Opened, Received, Waited, Wrote}
use Rattle.ftp_ports.specs.declared.whole.Fate.{Fate}
use Rattle.ftp_ports.specs.declared.whole.Fate.TheVariants as Fates
use Rattle.ftp_server_driver.specs.alone.Side.{Timed, server_side}
use Rattle.laws_transfers.specs.Actions.{IsServing}
use Rattle.laws_drivers.specs.events.Moments.{IsToldAt}
use Rattle.laws_breaks.specs.downloads.Actions.{IsYielding}

-- none is unwritten of what it was told that it broke
abbrev pub unless_broken : Fate → List ℕ → List ℕ
unless_broken Fates.Broken octets = []
unless_broken fate octets = octets

abbrev pub dry : Channel → Channel
dry channel = record channel { unwritten = unless_broken channel.fate channel.unwritten }

abbrev dry_held : Held Timed → Held Timed
dry_held at = record at { channel = dry at.channel }

-- so its server
abbrev pub dried : Stand server_side → Stand server_side
dried server = with_owner (dry_held server.owner) server

-- what it does where it is told of no break: a read or a write of its data connection fails; else as where none breaks
abbrev pub IsLone : Action server_side → Held Timed → Type 0
IsLone (Other Failed) at = ⊤
IsLone (Other Break) at = ⊥
IsLone action at = IsServing action at

-- an action but that it is told of a break
abbrev pub BreaksNot : Action server_side → Type 0
BreaksNot (Other Break) = ⊥
BreaksNot action = Unit {0}

-- ---- small steps

-- none stays none
pub dry_none : (fate : Fate) → unless_broken fate [] ≡ []
dry_none Fates.Sound = refl
dry_none Fates.Failed = refl
dry_none Fates.Broken = refl
dry_none Fates.Over = refl

-- one that was left was left so
ended_dry : (stands : Bool) (left written : Option (List ℕ)) (unwritten : List ℕ) (fate : Fate) (asked : Asked) → IsEnded stands left written unwritten asked
    → IsEnded stands left written (unless_broken fate unwritten) asked
ended_dry true left written unwritten fate asked (inl ended) = inl (ap (unless_broken fate) ended.0 ∙ dry_none fate, ended.1)
ended_dry true left written unwritten fate asked (inr reset) = inr reset
ended_dry false left written unwritten fate asked shut = shut

-- so its channel
left_dry : {old new : Channel} (asked : Asked) → IsLeft asked old new → IsLeft asked (dry old) (dry new)
left_dry {old} {new} asked l = record {
  ended = ended_dry old.stands old.left old.written old.unwritten old.fate asked l.ended;
  adds = l.adds;
  stands = l.stands;
  fate = l.fate;
  rest = l.rest;
  unwritten = ap₂ unless_broken l.fate l.unwritten;
  untold = l.untold;
}

-- it is fair
fair_dry : (channel : Channel) (left written : Option (List ℕ)) → IsFairEnd channel (Reset left written) → IsFairEnd (dry channel) (Reset left written)
fair_dry channel left written fair = by channel.fate fair
  where
    by : (fate : Fate) → IsFairEnd (record channel { fate = fate }) (Reset left written)
        → IsFairEnd (record channel { fate = fate; unwritten = unless_broken fate channel.unwritten }) (Reset left written)
    by Fates.Sound fair = fair
    by Fates.Failed fair = fair
    by Fates.Broken fair = inl refl
    by Fates.Over fair = fair

-- what becomes of one that was open
open_dry : (old new : Channel) (fate : Fate) → ((octets : List ℕ) → unless_broken fate octets ≡ octets) → new ≡ with_fate fate old → IsOpen old
    → dry new ≡ with_fate fate (dry old)
open_dry old new fate kept is open_now =
    ap dry is ∙ (λ i. record old { fate = fate; unwritten = kept old.unwritten i })
    ∙ ap (λ f. record old { fate = fate; unwritten = unless_broken f old.unwritten }) (sym open_now.1)

-- ---- each action

module _ (old new : Stand server_side) where
  besides : new ≡ with_owner new.owner old → dried new ≡ with_owner (dried new).owner (dried old)
  besides is = ap (with_owner (dried new).owner) is

  -- so it does each
  pub dried_step : (action : Action server_side) → BreaksNot action → IsYielding action old.owner → Done action old new
      → IsLone action (dried old).owner × Done action (dried old) (dried new)
  dried_step (Heard octets) unbroken is did =
      (tt, record { hears = (did.hears.0, ap dry did.hears.1, did.hears.2); next = did.next; left = did.left; written = did.written })
  dried_step (Says octets) unbroken is did = (
    tt,
    record {
      gives = record { count = did.gives.count; owed = did.gives.owed; gave = did.gives.gave; channel = ap dry did.gives.channel };
      wrote = did.wrote;
      left = did.left;
      unheard = did.unheard;
    },
  )
  dried_step (Read octets) unbroken is did = (
    tt,
    record {
      due = did.due;
      owner = ap dry_held did.owner;
      heard = did.heard;
      read = did.read;
      ended = did.ended;
      unheard = did.unheard;
      written = did.written;
    },
  )
  dried_step (Other (Aside asked)) unbroken is did = (tt, ((did.0.0, ap dry did.0.1, did.0.2), besides did.1))
  dried_step (Other (Listening port)) unbroken is did = (tt, ((did.0.0, (did.0.1.0, ap dry did.0.1.1), did.0.2), besides did.1))
  dried_step (Other (Opened host (Came from left written ∷ []) at_first so_far rest)) unbroken is did =
      let o = did.0.1 in (
        is,
        (
          (
            did.0.0,
            record {
              had = o.had;
              is_had = o.is_had;
              none = o.none;
              alone = o.alone;
              adds = o.adds;
              stands = o.stands;
              fate = o.fate;
              rests = o.rests;
              left = o.left;
              written = o.written;
              unwritten = ap₂ unless_broken o.fate o.unwritten;
              untold = o.untold;
            },
            did.0.2,
          ),
          besides did.1,
        ),
      )
  dried_step (Other (Got octets)) unbroken is did =
      let got = did.0.1 in (
        tt,
        (
          (
            did.0.0,
            record {
              is_open = got.is_open;
              stands = got.stands;
              fate = got.fate;
              rest = got.rest;
              told = got.told;
              read = got.read;
              written = got.written;
              untold = got.untold;
              unwritten = ap₂ unless_broken got.fate got.unwritten;
              asked = got.asked;
            },
            did.0.2,
          ),
          besides did.1,
        ),
      )
  dried_step (Other (Received octets count)) unbroken is did = (tt, ((did.0.0, (did.0.1.0, ap dry did.0.1.1), did.0.2), besides did.1))
  dried_step (Other End) unbroken is did =
      let m = did.0.1 in
      (tt, ((did.0.0, (open_dry old.owner.channel new.owner.channel Fates.Over (λ octets. refl) m.0 m.1, m.1, m.2, m.3), did.0.2), besides did.1))
  dried_step (Other (Gave count octets rest)) unbroken is did =
      let channel : Channel = old.owner.channel in
      let given : dry (with_given octets rest channel) ≡ with_given octets rest (dry channel) =
      ap (λ f. record channel { rest = rest; unwritten = unless_broken f (channel.unwritten ++ octets) }) did.0.1.1.1
      ∙ ap (λ f. record channel { rest = rest; unwritten = unless_broken f channel.unwritten ++ octets }) (sym did.0.1.1.1) in
      (tt, ((did.0.0, (ap dry did.0.1.0 ∙ given, did.0.1.1), did.0.2), besides did.1))
  dried_step (Other (Wrote octets)) unbroken is did =
      let channel : Channel = old.owner.channel in
      let wrote = did.0.1 in
      let sound = wrote.is_open.1 in (
        tt,
        (
          (
            did.0.0,
            record {
              is_open = wrote.is_open;
              some = subst (λ f. 0 < length (unless_broken f channel.unwritten)) (sym sound) wrote.some;
              stands = wrote.stands;
              fate = wrote.fate;
              rest = wrote.rest;
              first = ap (λ f. unless_broken f channel.unwritten) sound ∙ wrote.first
                  ∙ ap (λ f. octets ++ unless_broken f new.owner.channel.unwritten) (sym (wrote.fate ∙ sound));
              wrote = wrote.wrote;
              left = wrote.left;
              untold = wrote.untold;
              asked = wrote.asked;
            },
            did.0.2,
          ),
          besides did.1,
        ),
      )
  dried_step (Other (Waited lost)) unbroken is did =
      let waited = did.0.1 in
      let held = waited.holds in (
        tt,
        (
          (
            did.0.0,
            record {
              holds = record {
                stands = held.stands;
                fate = held.fate;
                rest = held.rest;
                unwritten = ap₂ unless_broken held.fate held.unwritten;
                untold = held.untold;
              };
              left = waited.left;
              written = waited.written;
              asked = waited.asked;
            },
            did.0.2,
          ),
          besides did.1,
        ),
      )
  dried_step (Other (LetGo octets)) unbroken is did = (tt, ((did.0.0, (did.0.1.0, ap dry did.0.1.1), did.0.2), besides did.1))
  dried_step (Other (Left (EndedBy left written))) unbroken is did =
      let fair = did.0.2.1 in
      let channel : Channel = old.owner.channel in (
        tt,
        (
          (
            did.0.0,
            left_dry (EndedBy left written) did.0.1,
            (did.0.2.0, (ap (unless_broken channel.fate) fair.0 ∙ dry_none channel.fate, fair.1, fair.2), did.0.2.2),
          ),
          besides did.1,
        ),
      )
  dried_step (Other (Left (Reset left written))) unbroken is did = (
    tt,
    (
      (did.0.0, left_dry (Reset left written) did.0.1, (did.0.2.0, fair_dry old.owner.channel left written did.0.2.1, did.0.2.2)),
      besides did.1,
    ),
  )
  dried_step (Other (Left Shut)) unbroken is did = (tt, ((did.0.0, left_dry Shut did.0.1, (did.0.2.0, tt, did.0.2.2)), besides did.1))
  dried_step (Other Closed) unbroken is did = (tt, ((did.0.0, (ap dry did.0.1.0, did.0.1.1), did.0.2), besides did.1))
  dried_step (Other Failed) unbroken is did =
      (tt, ((did.0.0, (open_dry old.owner.channel new.owner.channel Fates.Failed (λ octets. refl) did.0.1.0 did.0.1.1, did.0.1.1), did.0.2), besides did.1))
  dried_step (Other Break) unbroken is did = absurd unbroken
  dried_step action unbroken is did = absurd is

  -- at the same moment
  pub dried_told : (action : Action server_side) (unbroken : BreaksNot action) (is : IsYielding action old.owner) (did : Done action old new) (moment : ℕ)
      → IsToldAt action old new did moment → IsToldAt action (dried old) (dried new) (dried_step action unbroken is did).1 moment
  unfolding dried_step
  dried_told (Other End) unbroken is did moment told = told
  dried_told action unbroken is did moment told = tt

-- one of which none is unwritten
pub dried_none : (server : Stand server_side) → server.owner.channel.unwritten ≡ [] → dried server ≡ server
dried_none server none =
    let channel : Channel = server.owner.channel in
    let same : unless_broken channel.fate channel.unwritten ≡ channel.unwritten = ap (unless_broken channel.fate) none ∙ dry_none channel.fate ∙ sym none in
    λ i. record server { owner = record server.owner { channel = record channel { unwritten = same i } } }
