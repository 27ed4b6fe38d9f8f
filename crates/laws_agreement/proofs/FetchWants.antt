-- What can be due and wanted while what was asked for is under way.
use Rattle.std.proofs.Common.{◌≡◌, ◌≢◌, ◌⊎◌, inl, inr, ℕ, zero, suc, Bool, true, false, ◌&&◌, List, [], ◌∷◌, refl, ap, ◌∙◌}
use Rattle.ftp_ends.specs.Link.{is_wanted}
use Rattle.ftp_ends.specs.declared.link.Wants.{Wants}
use Rattle.ftp_operation.specs.declared.op.Op.{Op}
use Rattle.ftp_path.specs.Path.{Names}
use Rattle.ftp_direct.specs.Direct.{State}
use Rattle.ftp_client_model.specs.Calls as near
use Rattle.ftp_client_model.specs.Calls.{is_busy_job}
use Rattle.ftp_client_model.specs.View.{View as Near, Flow, Job}
use Rattle.ftp_client_model.specs.declared.client.ClientLink.{ClientLink as NearConnection}
use Rattle.ftp_client_model.specs.declared.client.ClientLink.TheVariants as NearData
use Rattle.ftp_client_model.specs.declared.client.Replied.TheVariants as Replies
use Rattle.ftp_server_model.specs.Calls as far
use Rattle.ftp_server_model.specs.Machine.{Reading}
use Rattle.ftp_server_model.specs.View.{View as Far, Transfer}
use Rattle.ftp_server_model.specs.declared.session.ServerLink.{ServerLink as FarConnection}
use Rattle.ftp_server_model.specs.declared.session.ServerLink.TheVariants as FarData
use Rattle.ftp_server_model.specs.declared.session.Pending.{Pending}
use Rattle.ftp_server_model.specs.declared.session.Pending.TheVariants as Pendings
use Rattle.laws_world.specs.Events.{is_asked_for, is_closed_by_near, is_gone}
use Rattle.laws_world.specs.World.{World, Link, Mark}
use Rattle.laws_dialogues.specs.Dialogue.{Passes}
use Rattle.laws_dialogues.specs.Fetches.{Ask, HasPlan, Rise, busy, carrying, linked, Opens}
use Rattle.laws_dialogues.specs.Login.{IsOnWay}
use Rattle.laws_dialogues.specs.Stage.{Way, Asking, Answering, rest}
use Rattle.laws_dialogues.proofs.Offering.{by_flow, with_flow}
use Rattle.laws_agreement.specs.Cut.{Cut, world_at, PlacedAt}
use Rattle.laws_agreement.specs.Rising.{Lift, lift_far, lift_passes, lifts}
use Rattle.laws_agreement.specs.Stages.{Course, Giving, Given, Ended, Severed, Refusing, Unopened, Unclosed, Closed, Lost, NoReply, OneReply, BothReplies, Stage, PortAsked, PortTold, Dials, Restarts, Retrieves, Carries, Rises, Tells, Answers, is_passing, Holds, AtFetch, IsLasting, Dialled, Ported, PortWanted, PortSaid, PortTaken, PortDenied, Awaits, Unaccepted, Dismissed}
use Rattle.laws_agreement.proofs.Events.{and_false, given_none, still_data}
use Rattle.laws_agreement.proofs.FetchData.{AtFlow, flows}
use Rattle.laws_agreement.proofs.FetchServed.{leads_still}
use Rattle.laws_agreement.proofs.Rests.{far_form, near_form}
use Rattle.laws_agreement.proofs.Still.{IsSeen, seen_placed}
use Rattle.laws_agreement.proofs.UploadData.{AtRise}
use Rattle.laws_agreement.proofs.UploadRests.{lift_asks, lift_busy, lift_empty, lift_form, lift_gives, lift_open, lift_owes, lift_unclosed}

-- a client whose own command was sent over an open link asks for no other, whichever way its octets go
offer_asks : (op : Op (List ℕ)) (flow : Flow) (n : Near) (other : Wants) → is_wanted (near.wants (busy (with_flow op Replies.Nothing flow) NearData.Open n)) other ≡ false
unfolding near.wants
offer_asks op flow n other =
    by_flow (λ flow. is_wanted (near.wants (busy (with_flow op Replies.Nothing flow) NearData.Open n)) other ≡ false) (λ d mark. refl) (λ mark. refl) (λ octet left mark. refl) flow

module _ (read : Reading) (state : State) (ask : Ask) (plan : HasPlan ask) (own : List Mark) where
  abbrev At : Way → World → Type 0
  At way b = AtFetch state ask read own way b

  abbrev Stands : Stage → Way → World → Type 0
  Stands stage way b = Holds state ask own stage way b

  abbrev op : Op (List ℕ)
  op = ask.op

  abbrev Goal : Near → Far → Type 0
  Goal n f = Opens state ask n f

  abbrev carry : Course → (came queue : List ℕ) → Stage
  carry course came queue = Carries (record { course = course; came = came; queue = queue })

  -- ---- what is due over the link

  -- octets of it are given or taken, or there are none
  pub flows_or_none : (w : World) → (s : PlacedAt At w) → IsLasting state ask read own s.way s.base s.here
      → PlacedAt (AtFlow state ask own) w ⊎ ((far.to_give w.far ≡ []) × (w.data_to_client ≡ []))
  flows_or_none w s lasts = by_here s.here lasts
    where
      seen : IsSeen s.base w
      seen = seen_placed At w s

      queue_is : w.data_to_client ≡ s.base.data_to_client
      queue_is = ap (λ u. u.data_to_client) s.is ∙ by_way s.way s.cut
        where
          by_way : (way : Way) (c : Cut) → (world_at s.base way c).data_to_client ≡ s.base.data_to_client
          by_way (Asking line) c = refl
          by_way (Answering rows) c = refl

      none : (connection : FarConnection Transfer) (pending : Pending Names) → s.base.far.session ≡ linked connection false pending s.base.far.session → far.given_by connection ≡ [] → s.base.data_to_client ≡ []
          → (far.to_give w.far ≡ []) × (w.data_to_client ≡ [])
      none connection pending is gives empty = (ap (λ v. far.given_by (far.connection_of v)) (far_form s.base w seen connection false pending is) ∙ gives, queue_is ∙ empty)

      flowing : (course : Course) (came queue : List ℕ) → flows course ≡ true → Stands (carry course came queue) s.way s.base → PlacedAt (AtFlow state ask own) w
      flowing course came queue is h =
          record { base = s.base; way = s.way; cut = s.cut; is = s.is; fits = s.fits; here = record { course = course; came = came; queue = queue; flows = is; holds = h } }

      by_course : (course : Course) (came queue : List ℕ) → Stands (carry course came queue) s.way s.base → is_passing (carry course came queue) ≡ false
          → PlacedAt (AtFlow state ask own) w ⊎ ((far.to_give w.far ≡ []) × (w.data_to_client ≡ []))
      by_course (Giving begun octet more) came queue h lasts = inl (flowing (Giving begun octet more) came queue refl h)
      by_course (Given heard left) came queue h lasts = inl (flowing (Given heard left) came queue refl h)
      by_course (Ended begun true) came queue h lasts = inr (none _ _ h.session refl (h.to_client ∙ h.fine.2))
      by_course (Ended begun false) came queue h lasts = inr (none _ _ h.session refl (h.to_client ∙ h.fine.1.1))
      by_course (Severed begun) came queue h lasts = inr (none _ _ h.session refl (h.to_client ∙ h.fine.1.1))
      by_course (Refusing why Unclosed) came queue h lasts = absurd (cc)
      by_course (Refusing why Closed) came queue h lasts = inr (none _ _ h.session refl (h.to_client ∙ h.fine.1.1))
      by_course (Refusing why (Lost clean)) came queue h lasts = inr (none _ _ h.session refl (h.to_client ∙ h.fine.1.1))
      by_course Unopened came queue h lasts = inr (none _ _ h.session refl (h.to_client ∙ h.fine.1))

      by_here : (here : At s.way s.base) → IsLasting state ask read own s.way s.base here
          → PlacedAt (AtFlow state ask own) w ⊎ ((far.to_give w.far ≡ []) × (w.data_to_client ≡ []))
      by_here (inl l) lasts = inr ((still_data w (leads_still read state ask plan own s.base w s.way seen l).0).far_gives, queue_is ∙ l.to_client)
      by_here (inr (PortAsked closing, h)) lasts = absurd (cc)
      by_here (inr (PortTold port, h)) lasts = inr (none _ _ h.session refl h.to_client)
      by_here (inr (Dials port, h)) lasts = inr (none _ _ h.session refl h.to_client)
      by_here (inr (PortWanted connection pending, h)) lasts = absurd (cc)
      by_here (inr (PortSaid port connection pending, h)) lasts = inr (none _ _ h.session (given_none connection h.fine.0) h.to_client)
      by_here (inr (PortTaken port true, h)) lasts = absurd (cc)
      by_here (inr (PortTaken port false, h)) lasts = inr (none _ _ h.session refl h.to_client)
      by_here (inr (PortDenied port connection, h)) lasts = inr (none _ _ h.session (given_none connection h.fine.0) h.to_client)
      by_here (inr (Restarts at restart (Dialled true), h)) lasts = inr (none _ _ h.session refl h.to_client)
      by_here (inr (Restarts at restart (Dialled false), h)) lasts = inr (none _ _ h.session refl h.to_client)
      by_here (inr (Restarts at restart (Ported port), h)) lasts = inr (none _ _ h.session refl h.to_client)
      by_here (inr (Retrieves (Dialled true), h)) lasts = inr (none _ _ h.session refl h.to_client)
      by_here (inr (Retrieves (Dialled false), h)) lasts = inr (none _ _ h.session refl h.to_client)
      by_here (inr (Retrieves (Ported port), h)) lasts = inr (none _ _ h.session refl h.to_client)
      by_here (inr (Awaits port begun, h)) lasts = inr (none _ _ h.session refl h.to_client)
      by_here (inr (Unaccepted port, h)) lasts = inr (none _ _ h.session refl h.to_client)
      by_here (inr (Dismissed port why, h)) lasts = inr (none _ _ h.session refl h.to_client)
      by_here (inr (Carries c, h)) lasts = by_course c.course c.came c.queue h lasts
      by_here (inr (Rises rise lift, h)) lasts =
          inr (none _ _ (h.session ∙ ap (λ c. linked (lift_far state ask rise lift) c Pendings.Nothing s.base.far.session) (lift_open state ask own rise lift lasts)) (lift_gives state ask own rise lift) h.to_client)
      by_here (inr (Tells rise said after, h)) lasts = absurd (cc)
      by_here (inr (Answers said leaves, h)) lasts = absurd (cc)

  -- ---- a link is wanted only where the client dials

  -- what the client wants asks for no link
  asks_none : (w : World) (job : Job) (connection : NearConnection) → w.near ≡ busy job connection w.near
      → ((far : Wants) → is_wanted (near.wants (busy job connection w.near)) far ≡ false) → is_asked_for w ≡ false
  asks_none w job connection is none =
      ap (λ v. is_gone w.link && is_wanted (near.wants v) (far.wants w.far)) is ∙ ap (λ (b : Bool). is_gone w.link && b) (none (far.wants w.far)) ∙ and_false (is_gone w.link)

  -- a server that is not to connect asks for none either
  accepts_none : (w : World) (port : ℕ) (job : Job) → w.near ≡ busy job (NearData.Accepting port) w.near → (pending : Pending Names)
      → w.far.session ≡ linked FarData.Free false pending w.far.session → is_asked_for w ≡ false
  unfolding near.wants
  accepts_none w port job near_is pending far_is =
      (λ i. is_gone w.link && is_wanted (near.wants (near_is i)) (far.wants (record w.far { session = far_is i }))) ∙ and_false (is_gone w.link)

  -- at a stage that lasts the client dials, or waits at a port for the server whose reply it has heard, or no link is asked for
  pub dials_or_none : (w : World) → (s : PlacedAt At w) → IsLasting state ask read own s.way s.base s.here
      → ((port : ℕ) × Stands (Dials port) s.way s.base) ⊎ (((port : ℕ) × Stands (Awaits port true) s.way s.base) ⊎ (is_asked_for w ≡ false))
  unfolding near.wants
  dials_or_none w s lasts = by_here s.here lasts
    where
      seen : IsSeen s.base w
      seen = seen_placed At w s

      by_course : (course : Course) (came queue : List ℕ) → Stands (carry course came queue) s.way s.base → is_asked_for w ≡ false
      by_course (Giving begun octet more) came queue h = asks_none w _ _ (near_form s.base w seen _ _ h.near) (λ far. refl)
      by_course (Given heard true) came queue h = asks_none w _ _ (near_form s.base w seen _ _ h.near) (λ far. refl)
      by_course (Given heard false) came queue h = asks_none w _ _ (near_form s.base w seen _ _ h.near) (λ far. refl)
      by_course (Ended begun clean) came queue h = asks_none w _ _ (near_form s.base w seen _ _ h.near) (λ far. refl)
      by_course (Severed begun) came queue h = asks_none w _ _ (near_form s.base w seen _ _ h.near) (λ far. refl)
      by_course (Refusing why Unclosed) came queue h = asks_none w _ _ (near_form s.base w seen _ _ h.near) (λ far. refl)
      by_course (Refusing why Closed) came queue h = asks_none w _ _ (near_form s.base w seen _ _ h.near) (λ far. refl)
      by_course (Refusing why (Lost clean)) came queue h = asks_none w _ _ (near_form s.base w seen _ _ h.near) (λ far. refl)
      by_course Unopened came queue h = asks_none w _ _ (near_form s.base w seen _ _ h.near) (λ far. refl)

      by_here : (here : At s.way s.base) → IsLasting state ask read own s.way s.base here → ((port : ℕ) × Stands (Dials port) s.way s.base) ⊎ (((port : ℕ) × Stands (Awaits port true) s.way s.base) ⊎ (is_asked_for w ≡ false))
      by_here (inl l) lasts = inr (inr ((still_data w (leads_still read state ask plan own s.base w s.way seen l).0).asks))
      by_here (inr (PortAsked closing, h)) lasts = absurd (cc)
      by_here (inr (PortTold port, h)) lasts = inr (inr (asks_none w _ _ (near_form s.base w seen _ _ h.near) (λ far. refl)))
      by_here (inr (Dials port, h)) lasts = inl (port, h)
      by_here (inr (PortWanted connection pending, h)) lasts = absurd (cc)
      by_here (inr (PortSaid port connection pending, h)) lasts = inr (inr (asks_none w _ _ (near_form s.base w seen _ _ h.near) (λ far. refl)))
      by_here (inr (PortTaken port true, h)) lasts = absurd (cc)
      by_here (inr (PortTaken port false, h)) lasts = inr (inr (asks_none w _ _ (near_form s.base w seen _ _ h.near) (λ far. refl)))
      by_here (inr (PortDenied port connection, h)) lasts = inr (inr (asks_none w _ _ (near_form s.base w seen _ _ h.near) (λ far. refl)))
      by_here (inr (Restarts at restart (Dialled true), h)) lasts = inr (inr (asks_none w _ _ (near_form s.base w seen _ _ h.near) (λ far. refl)))
      by_here (inr (Restarts at restart (Dialled false), h)) lasts = inr (inr (asks_none w _ _ (near_form s.base w seen _ _ h.near) (λ far. refl)))
      by_here (inr (Restarts at restart (Ported port), h)) lasts = inr (inr (asks_none w _ _ (near_form s.base w seen _ _ h.near) (λ far. refl)))
      by_here (inr (Retrieves (Dialled true), h)) lasts = inr (inr (asks_none w _ _ (near_form s.base w seen _ _ h.near) (λ far. offer_asks ask.op (carrying ask.sends ask.settings) w.near far)))
      by_here (inr (Retrieves (Dialled false), h)) lasts = inr (inr (asks_none w _ _ (near_form s.base w seen _ _ h.near) (λ far. refl)))
      by_here (inr (Retrieves (Ported port), h)) lasts = inr (inr (asks_none w _ _ (near_form s.base w seen _ _ h.near) (λ far. refl)))
      by_here (inr (Awaits port false, h)) lasts = inr (inr (asks_none w _ _ (near_form s.base w seen _ _ h.near) (λ far. refl)))
      by_here (inr (Awaits port true, h)) lasts = inr (inl (port, h))
      by_here (inr (Unaccepted port, h)) lasts = inr (inr (accepts_none w _ _ (near_form s.base w seen _ _ h.near) _ (far_form s.base w seen _ false _ h.session)))
      by_here (inr (Dismissed port why, h)) lasts = inr (inr (asks_none w _ _ (near_form s.base w seen _ _ h.near) (λ far. refl)))
      by_here (inr (Carries c, h)) lasts = inr (inr (by_course c.course c.came c.queue h))
      by_here (inr (Rises rise lift, h)) lasts =
          inr (inr (ap (λ v. is_gone w.link && is_wanted (near.wants v) (far.wants w.far)) (lift_form state ask own rise lift s.base w seen h.near lasts)
          ∙ ap (λ (b : Bool). is_gone w.link && b) (lift_asks state ask own rise lift lasts w.near (far.wants w.far)) ∙ and_false (is_gone w.link)))
      by_here (inr (Tells rise said after, h)) lasts = absurd (cc)
      by_here (inr (Answers said leaves, h)) lasts = absurd (cc)

  -- ---- the client is under way, and gives octets of an upload or none

  -- at a stage that lasts the client is busy
  pub lasting_busy : (w : World) → (s : PlacedAt At w) → IsLasting state ask read own s.way s.base s.here → is_busy_job w.near.job ≡ true
  lasting_busy w s lasts = by_here s.here lasts
    where
      seen : IsSeen s.base w
      seen = seen_placed At w s

      busy_with : (job : Job) (connection : NearConnection) → s.base.near ≡ busy job connection s.base.near → is_busy_job job ≡ true → is_busy_job w.near.job ≡ true
      busy_with job connection is some = ap is_busy_job (seen.job ∙ ap (λ v. v.job) is) ∙ some

      on_way : (way : Way) (n : Near) (f : Far) → IsOnWay read state op (Passes state.table state.table) Goal way n f → way ≢ rest → is_busy_job n.job ≡ true
      on_way way n f (inl (logging, waiting)) some = ap is_busy_job waiting
      on_way (Answering []) n f (inr (left, leads)) some = absurd (some refl)
      on_way (Answering (reply ∷ more)) n f (inr (zero, leads)) some = absurd leads
      on_way (Asking line) n f (inr (zero, leads)) some = absurd leads
      on_way (Answering (reply ∷ more)) n f (inr (suc left, leads)) some = leads.0.busy
      on_way (Asking line) n f (inr (suc left, leads)) some = leads.0.busy

      by_here : (here : At s.way s.base) → IsLasting state ask read own s.way s.base here → is_busy_job w.near.job ≡ true
      by_here (inl l) lasts = ap is_busy_job seen.job ∙ on_way s.way s.base.near s.base.far l.on l.some
      by_here (inr (PortAsked closing, h)) lasts = absurd (cc)
      by_here (inr (PortTold port, h)) lasts = busy_with _ _ h.near refl
      by_here (inr (Dials port, h)) lasts = busy_with _ _ h.near refl
      by_here (inr (PortWanted connection pending, h)) lasts = absurd (cc)
      by_here (inr (PortSaid port connection pending, h)) lasts = busy_with _ _ h.near refl
      by_here (inr (PortTaken port closing, h)) lasts = busy_with _ _ h.near refl
      by_here (inr (PortDenied port connection, h)) lasts = busy_with _ _ h.near refl
      by_here (inr (Restarts at restart early, h)) lasts = busy_with _ _ h.near refl
      by_here (inr (Retrieves early, h)) lasts = busy_with _ _ h.near refl
      by_here (inr (Awaits port begun, h)) lasts = busy_with _ _ h.near refl
      by_here (inr (Unaccepted port, h)) lasts = busy_with _ _ h.near refl
      by_here (inr (Dismissed port why, h)) lasts = busy_with _ _ h.near refl
      by_here (inr (Carries c, h)) lasts = busy_with _ _ h.near refl
      by_here (inr (Rises rise lift, h)) lasts =
          ap is_busy_job (seen.job ∙ ap (λ v. v.job) h.near) ∙ lift_busy state ask own rise lift s.base.near
      by_here (inr (Tells rise said after, h)) lasts = absurd (cc)
      by_here (inr (Answers said leaves, h)) lasts = absurd (cc)

  -- the client gives no octets, and has not closed the link
  pub record GivesNone (w : World) : Type 0 where
    pub due : near.to_give w.near ≡ []
    pub queue : w.data_to_server ≡ []
    pub closed : is_closed_by_near w.link ≡ false

  -- at a stage that lasts octets of an upload are given or taken, or the client gives none and has not closed the link
  pub rises_or_none : (w : World) → (s : PlacedAt At w) → IsLasting state ask read own s.way s.base s.here → PlacedAt (AtRise read state ask own) w ⊎ GivesNone w
  rises_or_none w s lasts = by_here s.here lasts
    where
      seen : IsSeen s.base w
      seen = seen_placed At w s

      by_way : (way : Way) (c : Cut) → ((world_at s.base way c).link ≡ s.base.link) × ((world_at s.base way c).data_to_server ≡ s.base.data_to_server)
      by_way (Asking line) c = (refl, refl)
      by_way (Answering rows) c = (refl, refl)

      none_with : (job : Job) (connection : NearConnection) → s.base.near ≡ busy job connection s.base.near → near.to_give (busy job connection w.near) ≡ [] → (link : Link) → s.base.link ≡ link
          → is_closed_by_near link ≡ false → s.base.data_to_server ≡ [] → GivesNone w
      none_with job connection near_is none link link_is open_link empty = record {
        due = ap near.to_give (near_form s.base w seen job connection near_is) ∙ none;
        queue = ap (λ u. u.data_to_server) s.is ∙ (by_way s.way s.cut).1 ∙ empty;
        closed = ap is_closed_by_near (ap (λ u. u.link) s.is ∙ (by_way s.way s.cut).0 ∙ link_is) ∙ open_link;
      }

      by_course : (course : Course) (came queue : List ℕ) → Stands (carry course came queue) s.way s.base → GivesNone w
      by_course (Giving true octet more) came queue h = none_with _ _ h.near refl _ h.link refl h.to_server
      by_course (Giving false octet more) came queue h = none_with _ _ h.near refl _ h.link refl h.to_server
      by_course (Given NoReply true) came queue h = none_with _ _ h.near refl _ h.link refl h.to_server
      by_course (Given OneReply true) came queue h = none_with _ _ h.near refl _ h.link refl h.to_server
      by_course (Given BothReplies true) came queue h = none_with _ _ h.near refl _ h.link refl h.to_server
      by_course (Given NoReply false) came queue h = none_with _ _ h.near refl _ h.link refl h.to_server
      by_course (Given OneReply false) came queue h = none_with _ _ h.near refl _ h.link refl h.to_server
      by_course (Given BothReplies false) came queue h = none_with _ _ h.near refl _ h.link refl h.to_server
      by_course (Ended begun clean) came queue h = none_with _ _ h.near refl _ h.link refl h.to_server
      by_course (Severed begun) came queue h = none_with _ _ h.near refl _ h.link refl h.to_server
      by_course (Refusing why Unclosed) came queue h = none_with _ _ h.near refl _ h.link refl h.to_server
      by_course (Refusing why Closed) came queue h = none_with _ _ h.near refl _ h.link refl h.to_server
      by_course (Refusing why (Lost clean)) came queue h = none_with _ _ h.near refl _ h.link refl h.to_server
      by_course Unopened came queue h = none_with _ _ h.near refl _ h.link refl h.to_server

      by_lift : (rise : Rise) (lift : Lift) → Stands (Rises rise lift) s.way s.base → lift_passes lift ≡ false → (b : Bool) → lifts lift ≡ b → PlacedAt (AtRise read state ask own) w ⊎ GivesNone w
      by_lift rise lift h lasts true rises = inl (record { base = s.base; way = s.way; cut = s.cut; is = s.is; fits = s.fits; here = record { rise = rise; lift = lift; rises = rises; holds = h } })
      by_lift rise lift h lasts false none = inr (record {
        due = ap near.to_give (lift_form state ask own rise lift s.base w seen h.near lasts) ∙ lift_owes state ask own rise lift none w.near;
        queue = ap (λ u. u.data_to_server) s.is ∙ (by_way s.way s.cut).1 ∙ h.to_server ∙ lift_empty lift none;
        closed = ap is_closed_by_near (ap (λ u. u.link) s.is ∙ (by_way s.way s.cut).0 ∙ h.link) ∙ lift_unclosed lift none;
      })

      by_here : (here : At s.way s.base) → IsLasting state ask read own s.way s.base here → PlacedAt (AtRise read state ask own) w ⊎ GivesNone w
      by_here (inl l) lasts = inr (record {
        due = (still_data w (leads_still read state ask plan own s.base w s.way seen l).0).near_gives;
        queue = ap (λ u. u.data_to_server) s.is ∙ (by_way s.way s.cut).1 ∙ l.to_server;
        closed = ap is_closed_by_near (ap (λ u. u.link) s.is ∙ (by_way s.way s.cut).0 ∙ l.link);
      })
      by_here (inr (PortAsked closing, h)) lasts = absurd (cc)
      by_here (inr (PortTold port, h)) lasts = inr (none_with _ _ h.near refl _ h.link refl h.to_server)
      by_here (inr (Dials port, h)) lasts = inr (none_with _ _ h.near refl _ h.link refl h.to_server)
      by_here (inr (PortWanted connection pending, h)) lasts = absurd (cc)
      by_here (inr (PortSaid port connection pending, h)) lasts = inr (none_with _ _ h.near refl _ h.link refl h.to_server)
      by_here (inr (PortTaken port closing, h)) lasts = inr (none_with _ _ h.near refl _ h.link refl h.to_server)
      by_here (inr (PortDenied port connection, h)) lasts = inr (none_with _ _ h.near refl _ h.link refl h.to_server)
      by_here (inr (Restarts at restart (Dialled true), h)) lasts = inr (none_with _ _ h.near refl _ h.link refl h.to_server)
      by_here (inr (Restarts at restart (Dialled false), h)) lasts = inr (none_with _ _ h.near refl _ h.link refl h.to_server)
      by_here (inr (Restarts at restart (Ported port), h)) lasts = inr (none_with _ _ h.near refl _ h.link refl h.to_server)
      by_here (inr (Retrieves (Dialled true), h)) lasts = inr (none_with _ _ h.near refl _ h.link refl h.to_server)
      by_here (inr (Retrieves (Dialled false), h)) lasts = inr (none_with _ _ h.near refl _ h.link refl h.to_server)
      by_here (inr (Retrieves (Ported port), h)) lasts = inr (none_with _ _ h.near refl _ h.link refl h.to_server)
      by_here (inr (Awaits port false, h)) lasts = inr (none_with _ _ h.near refl _ h.link refl h.to_server)
      by_here (inr (Awaits port true, h)) lasts = inr (none_with _ _ h.near refl _ h.link refl h.to_server)
      by_here (inr (Unaccepted port, h)) lasts = inr (none_with _ _ h.near refl _ h.link refl h.to_server)
      by_here (inr (Dismissed port why, h)) lasts = inr (none_with _ _ h.near refl _ h.link refl h.to_server)
      by_here (inr (Carries c, h)) lasts = inr (by_course c.course c.came c.queue h)
      by_here (inr (Rises rise lift, h)) lasts = by_lift rise lift h lasts (lifts lift) refl
      by_here (inr (Tells rise said after, h)) lasts = absurd (cc)
      by_here (inr (Answers said leaves, h)) lasts = absurd (cc)
