-- What a world does for its ends behind an event of what is asked for: nothing, or a port is told, a link is closed, a report is taken.
use Rattle.std.proofs.Common.{◌≡◌, ◌≢◌, inl, inr, ℕ, zero, suc, ◌<◌, ◌≤◌, Bool, true, false, ◌||◌, List, [], ◌∷◌, None, refl, sym, ap, subst, ◌∙◌, append-nil, arith}
use Rattle.ftp_endpoint.specs.Written.{IsTypedHost, IsV4}
use Rattle.ftp_endpoint.specs.declared.host.Host.{Host}
use Rattle.ftp_endpoint.specs.declared.host.Host.TheVariants.{V4, V6}
use Rattle.ftp_ends.specs.Link.{is_v6}
use Rattle.ftp_ends.specs.Reply.{IsWritten, Reply, reply_octets}
use Rattle.ftp_operation.specs.declared.op.Op.{Op}
use Rattle.ftp_path.specs.Path.{Names}
use Rattle.ftp_direct.specs.Direct.{State}
use Rattle.ftp_direct.specs.declared.refusal.Refusal.{Refusal}
use Rattle.ftp_client_model.specs.Calls as near
use Rattle.ftp_client_model.specs.Calls.{report_of, report_of_job}
use Rattle.ftp_client_model.specs.Plan.{may_ask_extended, how_of, is_extended, port_command}
use Rattle.ftp_client_model.specs.View.{View as Near, Job}
use Rattle.ftp_client_model.specs.declared.client.ClientLink.{ClientLink as NearConnection}
use Rattle.ftp_server_model.specs.Replies.{fixed_reply}
use Rattle.ftp_server_model.specs.declared.reply.FixedReply.TheVariants as Texts
use Rattle.ftp_nvt.specs.Lines.{written_line}
use Rattle.ftp_command.specs.Line.{line_of}
use Rattle.laws_dialogues.proofs.Fetching.{port_line_is}
use Rattle.laws_agreement.proofs.Keeps.{anew, line_is_some}
use Rattle.ftp_server_model.specs.Calls as far
use Rattle.ftp_server_model.specs.Machine.{Reading}
use Rattle.ftp_server_model.specs.View.{View as Far, Session, Transfer}
use Rattle.ftp_server_model.specs.declared.reply.ReplyKind.TheVariants as Kinds
use Rattle.ftp_server_model.specs.declared.session.ServerLink.{ServerLink as FarConnection}
use Rattle.ftp_server_model.specs.declared.session.ServerLink.TheVariants as FarData
use Rattle.ftp_server_model.specs.declared.session.Pending.{Pending}
use Rattle.ftp_server_model.specs.declared.session.Pending.TheVariants as Pendings
use Rattle.ftp_server_model.proofs.RepliesWritten.{replies_are_written}
use Rattle.laws_world.specs.Serving.{near_served, far_served, collected, collected_by, after_event}
use Rattle.laws_world.specs.World.{World, Gone, Opened, ClosedByFar, Mark, next_listen, port_at}
use Rattle.laws_dialogues.specs.Dialogue.{Passes, is_set_aside}
use Rattle.laws_dialogues.specs.Fetches.{Ask, HasPlan, busy, carrying, linked, port_reply, Opens, passive_verb_of}
use Rattle.laws_dialogues.specs.Login.{IsOnWay}
use Rattle.laws_dialogues.specs.Stage.{calm, still, Way, Asking, Answering, rest}
use Rattle.laws_agreement.specs.Cut.{Cut, Flows as FlowsOf, Fits, world_at, PlacedAt}
use Rattle.laws_agreement.specs.Stages as Stages
use Rattle.laws_agreement.specs.Stages.{Course, Giving, Given, Ended, Severed, Refusing, Unopened, Unclosed, Closed, Lost, Heard, replies_in, Stage, PortAsked, PortTold, Dials, Restarts, Retrieves, Carries, Rises, Tells, Answers, is_passing, Holds, AtFetch, IsLasting, Dialled, Ported, at_port, PortWanted, PortSaid, PortTaken, PortDenied, Awaits, Unaccepted, Dismissed}
use Rattle.laws_agreement.proofs.FetchLink.{far_linked, fits_more}
use Rattle.laws_agreement.proofs.Placing.{at_stage}
use Rattle.laws_agreement.proofs.Rests.{Rests, after_rests, near_form, near_rests, giving_rests, aside_rests, offer_rests, rests_of}
use Rattle.laws_agreement.proofs.UploadRests.{lift_rests}
use Rattle.laws_agreement.proofs.Still.{IsSeen, seen_placed, AreSet, IsStill, still_as, after_as_is, no_octets, logging_set}

module _ (read : Reading) (state : State) (ask : Ask) (plan : HasPlan ask) (own : List Mark) where
  abbrev At : Way → World → Type 0
  At way b = AtFetch state ask read own way b

  abbrev Stands : Stage → Way → World → Type 0
  Stands stage way b = Holds state ask own stage way b

  abbrev op : Op (List ℕ)
  op = ask.op

  -- ---- the stages that last

  -- by both forms
  rests_as : (b w : World) (stage : Stage) (way : Way) → IsSeen b w → Stands stage way b → (job : Job) (connection : NearConnection) → b.near ≡ busy job connection b.near
      → report_of_job job ≡ None → ((w : World) → near_served (record w { near = busy job connection w.near }) ≡ record w { near = busy job connection w.near })
      → (far : FarConnection Transfer) (pending : Pending Names) → b.far.session ≡ linked far false pending b.far.session
      → ((w : World) → far_served (record w { far = far_linked (linked far false pending w.far.session) w.far }) ≡ record w { far = far_linked (linked far false pending w.far.session) w.far })
      → Rests w
  rests_as b w stage way seen h job connection near_is none near_stays far pending far_is far_stays = rests_of b w seen job connection near_is none near_stays far pending far_is far_stays

  -- on a course that is not passing nothing is served and nothing is reported
  carry_rests : (course : Course) (came queue : List ℕ) (b w : World) (way : Way) → IsSeen b w → Stands (Carries (record { course = course; came = came; queue = queue })) way b
      → is_passing (Carries (record { course = course; came = came; queue = queue })) ≡ false → Rests w
  unfolding near.wants
  carry_rests (Giving begun octet more) came queue b w way seen h stays =
      rests_as b w (Carries (record { course = Giving begun octet more; came = came; queue = queue })) way seen h _ _ h.near refl (λ w. refl) _ _ h.session
      (λ w. giving_rests ask.listed (octet ∷ more) Pendings.Nothing w)
  carry_rests (Given heard true) came queue b w way seen h stays =
      rests_as b w (Carries (record { course = Given heard true; came = came; queue = queue })) way seen h _ _ h.near refl (λ w. refl) _ _ h.session (λ w. refl)
  carry_rests (Given heard false) came queue b w way seen h stays = absurd (cc)
  carry_rests (Ended begun clean) came queue b w way seen h stays =
      rests_as b w (Carries (record { course = Ended begun clean; came = came; queue = queue })) way seen h _ _ h.near refl (λ w. refl) _ _ h.session (λ w. refl)
  carry_rests (Severed begun) came queue b w way seen h stays =
      rests_as b w (Carries (record { course = Severed begun; came = came; queue = queue })) way seen h _ _ h.near refl (λ w. refl) _ _ h.session (λ w. refl)
  carry_rests (Refusing why Unclosed) came queue b w way seen h stays = absurd (cc)
  carry_rests (Refusing why Closed) came queue b w way seen h stays =
      rests_as b w (Carries (record { course = Refusing why Closed; came = came; queue = queue })) way seen h _ _ h.near refl (λ w. refl) _ _ h.session (λ w. refl)
  carry_rests (Refusing why (Lost clean)) came queue b w way seen h stays =
      rests_as b w (Carries (record { course = Refusing why (Lost clean); came = came; queue = queue })) way seen h _ _ h.near refl (λ w. refl) _ _ h.session (λ w. refl)
  carry_rests Unopened came queue b w way seen h stays =
      rests_as b w (Carries (record { course = Unopened; came = came; queue = queue })) way seen h _ _ h.near refl (λ w. refl) _ _ h.session (λ w. refl)

  -- at a stage that is not passing nothing is served and nothing is reported
  pub stage_rests : (stage : Stage) (b w : World) (way : Way) → IsSeen b w → Stands stage way b → is_passing stage ≡ false → Rests w
  unfolding near.wants
  stage_rests (PortAsked closing) b w way seen h stays = absurd (cc)
  stage_rests (PortTold port) b w way seen h stays = rests_as b w (PortTold port) way seen h _ _ h.near refl (λ w. refl) _ _ h.session (λ w. refl)
  stage_rests (Dials port) b w way seen h stays = rests_as b w (Dials port) way seen h _ _ h.near refl (λ w. refl) _ _ h.session (λ w. refl)
  stage_rests (PortWanted connection pending) b w way seen h stays = absurd (cc)
  stage_rests (PortSaid port connection pending) b w way seen h stays = rests_as b w (PortSaid port connection pending) way seen h _ _ h.near refl (λ w. refl) _ _ h.session (aside_rests connection h.fine.0 pending)
  stage_rests (PortTaken port true) b w way seen h stays = absurd (cc)
  stage_rests (PortTaken port false) b w way seen h stays = rests_as b w (PortTaken port false) way seen h _ _ h.near refl (λ w. refl) _ _ h.session (λ w. refl)
  stage_rests (PortDenied port connection) b w way seen h stays = rests_as b w (PortDenied port connection) way seen h _ _ h.near refl (λ w. refl) _ _ h.session (aside_rests connection h.fine.0 Pendings.Nothing)
  stage_rests (Restarts at restart (Dialled true)) b w way seen h stays = rests_as b w (Restarts at restart (Dialled true)) way seen h _ _ h.near refl (λ w. refl) _ _ h.session (λ w. refl)
  stage_rests (Restarts at restart (Dialled false)) b w way seen h stays = rests_as b w (Restarts at restart (Dialled false)) way seen h _ _ h.near refl (λ w. refl) _ _ h.session (λ w. refl)
  stage_rests (Restarts at restart (Ported port)) b w way seen h stays = rests_as b w (Restarts at restart (Ported port)) way seen h _ _ h.near refl (λ w. refl) _ _ h.session (λ w. refl)
  stage_rests (Retrieves (Dialled true)) b w way seen h stays = rests_as b w (Retrieves (Dialled true)) way seen h _ _ h.near refl (λ w. offer_rests ask.op (carrying ask.sends ask.settings) w) _ _ h.session (λ w. refl)
  stage_rests (Retrieves (Dialled false)) b w way seen h stays = rests_as b w (Retrieves (Dialled false)) way seen h _ _ h.near refl (λ w. refl) _ _ h.session (λ w. refl)
  stage_rests (Retrieves (Ported port)) b w way seen h stays = rests_as b w (Retrieves (Ported port)) way seen h _ _ h.near refl (λ w. refl) _ _ h.session (λ w. refl)
  stage_rests (Awaits port false) b w way seen h stays = rests_as b w (Awaits port false) way seen h _ _ h.near refl (λ w. refl) _ _ h.session (λ w. refl)
  stage_rests (Awaits port true) b w way seen h stays = rests_as b w (Awaits port true) way seen h _ _ h.near refl (λ w. refl) _ _ h.session (λ w. refl)
  stage_rests (Unaccepted port) b w way seen h stays = rests_as b w (Unaccepted port) way seen h _ _ h.near refl (λ w. refl) _ _ h.session (λ w. refl)
  stage_rests (Dismissed port why) b w way seen h stays = rests_as b w (Dismissed port why) way seen h _ _ h.near refl (λ w. refl) _ _ h.session (λ w. refl)
  stage_rests (Carries c) b w way seen h stays = carry_rests c.course c.came c.queue b w way seen h stays
  stage_rests (Rises rise lift) b w way seen h stays = lift_rests state ask own rise lift b w way seen h stays
  stage_rests (Tells rise said after) b w way seen h stays = absurd (cc)
  stage_rests (Answers said leaves) b w way seen h stays = absurd (cc)

  -- ---- the login, the settings and the command for a port

  abbrev Goal : Near → Far → Type 0
  Goal n f = Opens state ask n f

  -- before the stages, where something is on the way, both ends are set and the client has nothing to report
  pub moves_on : (way : Way) (n : Near) (f : Far) → IsOnWay read state op (Passes state.table state.table) Goal way n f → way ≢ rest
      → AreSet state.table state.table n f × (report_of_job n.job ≡ None)
  moves_on way n f (inl (logging, waiting)) some = (logging_set state state.table logging.place n f logging.logs, ap report_of_job waiting)
  moves_on (Answering []) n f (inr (left, leads)) some = absurd (some refl)
  moves_on (Answering (reply ∷ more)) n f (inr (zero, leads)) some = absurd leads
  moves_on (Asking line) n f (inr (zero, leads)) some = absurd leads
  moves_on (Answering (reply ∷ more)) n f (inr (suc left, leads)) some = (record { near = leads.0.near; far = leads.0.far; table = leads.0.table }, leads.0.untold)
  moves_on (Asking line) n f (inr (suc left, leads)) some = (record { near = leads.0.near; far = leads.0.far; table = leads.0.table }, leads.0.untold)

  -- a world on its way to the stages is still, and its client has nothing to report
  pub leads_still : (b w : World) (way : Way) → IsSeen b w → Stages.Leads state ask read own way b → IsStill w × (report_of w.near ≡ None)
  leads_still b w way seen l =
      let m = moves_on way b.near b.far l.on l.some in
      (still_as b w seen m.0.near m.0.far, ap report_of_job seen.job ∙ m.1)

  -- a world at a place that lasts stays behind an event
  pub lasting_stays : (w : World) → (s : PlacedAt At w) → IsLasting state ask read own s.way s.base s.here → after_event w ≡ w
  lasting_stays w s lasts = by_here s.here lasts
    where
      by_here : (here : At s.way s.base) → IsLasting state ask read own s.way s.base here → after_event w ≡ w
      by_here (inl l) lasts = let still = leads_still s.base w s.way (seen_placed At w s) l in after_as_is w still.0 still.1
      by_here (inr (stage, h)) lasts = after_rests w (stage_rests stage s.base w s.way (seen_placed At w s) h lasts)

  -- at a place that lasts the client has nothing to report
  pub lasting_untold : (w : World) → (s : PlacedAt At w) → IsLasting state ask read own s.way s.base s.here → report_of w.near ≡ None
  lasting_untold w s lasts = by_here s.here lasts
    where
      by_here : (here : At s.way s.base) → IsLasting state ask read own s.way s.base here → report_of w.near ≡ None
      by_here (inl l) lasts = (leads_still s.base w s.way (seen_placed At w s) l).1
      by_here (inr (stage, h)) lasts = (stage_rests stage s.base w s.way (seen_placed At w s) h lasts).none

  -- ---- a port is told

  -- the reply that tells a port can be written; where it is not the extended one, the host is of version 4
  port_reply_written : (s : Session) (extended : Bool) (host : Host) (port : ℕ) → (extended ≡ false → IsV4 host) → IsTypedHost host → port < 65536
      → IsWritten (port_reply extended host port).code (port_reply extended host port).lines
  port_reply_written s true host port v4 typed small = replies_are_written s (Kinds.Extended port) (port_reply true host port) small refl
  port_reply_written s false host port v4 typed small =
      replies_are_written s (Kinds.Passive (record { host = host; port = port })) (port_reply false host port) (v4 refl, (typed, small)) refl

  -- both ends where a port is asked for, and where it is told
  abbrev asked_world : Bool → Bool → World → World
  asked_world extended closing b = record (world_at b rest no_octets) {
    near = calm (Stages.near_at state ask (PortAsked closing) b.near);
    far = still (far_linked (linked (FarData.Asked (passive_verb_of extended)) closing Pendings.Nothing b.far.session) b.far);
    link = Gone;
  }

  abbrev told_world : Bool → World → World
  told_world extended b = record (world_at b rest no_octets) {
    near = calm (Stages.near_at state ask (PortTold (port_at b.listens)) b.near);
    far = record (still (far_linked (linked FarData.Passive false Pendings.Nothing b.far.session) b.far)) { owed = reply_octets (port_reply extended b.far.context.here (port_at b.listens)) };
    link = Gone;
    listens = next_listen b.listens;
  }

  -- a server that is asked for a port is told the next one and owes the reply with it
  port_served : (extended closing : Bool) (b : World) → after_event (asked_world extended closing b) ≡ told_world extended b
  unfolding near.wants far.listening far.data_closed
  port_served true true b = refl
  port_served true false b = refl
  port_served false true b = refl
  port_served false false b = refl

  -- a host that is not of version 6 is of version 4
  is_v4 : (host : Host) → is_v6 host ≡ false → IsV4 host
  is_v4 (V4 octets) is = tt
  is_v4 (V6 octets) is = absurd (cc)

  -- the second of two is false where their or is false
  neither : (one other : Bool) → (one || other) ≡ false → other ≡ false
  neither true other is = absurd (cc)
  neither false other is = is

  -- behind what is served a stage lasts
  pub record Served (w new : World) : Type 0 where
    pub placed : PlacedAt At new
    pub lasts : IsLasting state ask read own placed.way placed.base placed.here
    pub marks : new.marks ≡ w.marks
    pub reports : new.reports ≡ w.reports
    pub control : new.control ≡ w.control
    pub cutoff : new.cutoff ≡ w.cutoff

  -- where the server is asked for a port it is told one and owes the reply with it, and that stage lasts
  pub port_asked_serves : (closing : Bool) (w : World) (b : World) (way : Way) → w ≡ world_at b rest no_octets → Stands (PortAsked closing) way b → Served w (after_event w)
  port_asked_serves closing w b way is h =
      let extended : Bool = is_extended b.near op in
      let port : ℕ = port_at b.listens in
      let small : port < 65536 = omega arith in
      let some : 1 ≤ port = omega arith in
      let asked : w ≡ asked_world extended closing b =
      is ∙ (λ i. record (world_at b rest no_octets) { near = calm (h.near i); far = still (far_linked (h.session i) b.far); link = h.link i }) in
      let f : Far = far_linked (linked FarData.Passive false Pendings.Nothing b.far.session) b.far in
      let to : World = record b { near = Stages.near_at state ask (PortTold port) b.near; far = f; link = Gone; listens = next_listen b.listens } in
      let v4 : extended ≡ false → IsV4 b.near.peer = λ plain. is_v4 b.near.peer (neither (may_ask_extended (how_of op)) (is_v6 b.near.peer) plain) in
      let written = port_reply_written b.far.session extended b.near.peer port v4 (subst IsTypedHost (sym h.steady.peer) h.steady.typed) small in
      let owes : Host → World = λ host. record (told_world extended b) { far = record (still f) { owed = reply_octets (port_reply extended host port) } } in
      let new_is : after_event w ≡ world_at to (Answering (port_reply extended b.near.peer port ∷ [])) (record { held = []; moving = []; owed = reply_octets (port_reply extended b.near.peer port) }) =
      ap after_event asked ∙ port_served extended closing b ∙ ap owes (sym h.steady.peer) in
      record {
        placed = record {
          base = to;
          way = Answering (port_reply extended b.near.peer port ∷ []);
          cut = record { held = []; moving = []; owed = reply_octets (port_reply extended b.near.peer port) };
          is = new_is;
          fits = fits_more [] (port_reply extended b.near.peer port) no_octets written (tt, (refl, refl));
          here = inr (
            PortTold port,
            at_stage refl refl h.steady h.timed h.ready refl h.to_server h.to_client tt h.marked refl (some, small),
          );
        };
        lasts = refl;
        marks = ap (λ u. u.marks) new_is ∙ sym (ap (λ u. u.marks) is);
        reports = ap (λ u. u.reports) new_is ∙ sym (ap (λ u. u.reports) is);
        control = ap (λ u. u.control) new_is ∙ sym (ap (λ u. u.control) is);
        cutoff = ap (λ u. u.cutoff) new_is ∙ sym (ap (λ u. u.cutoff) is);
      }

  -- ---- the client is told its port

  -- both ends where the client wants one, and where PORT is on its way
  abbrev wanted_world : FarConnection Transfer → Pending Names → World → World
  wanted_world connection pending b = record (world_at b rest no_octets) {
    near = calm (Stages.near_at state ask (PortWanted connection pending) b.near);
    far = still (far_linked (linked connection false pending b.far.session) b.far);
    link = Gone;
  }

  abbrev port_line : World → List ℕ
  port_line b = line_of (port_command (is_extended b.near op) (at_port b.near.here (port_at b.listens)))

  abbrev said_world : FarConnection Transfer → Pending Names → World → World
  said_world connection pending b = record (world_at b rest no_octets) {
    near = record (calm (Stages.near_at state ask (PortSaid (port_at b.listens) connection pending) b.near)) { owed = written_line (port_line b) };
    far = still (far_linked (linked connection false pending b.far.session) b.far);
    link = Gone;
    listens = next_listen b.listens;
  }

  -- a client that wants a port is told the next one and owes the line with it
  wanted_served : (connection : FarConnection Transfer) → is_set_aside connection ≡ true → (pending : Pending Names) (b : World)
      → after_event (wanted_world connection pending b) ≡ said_world connection pending b
  unfolding near.wants near.listening
  wanted_served FarData.Free aside pending b = refl
  wanted_served FarData.Passive aside pending b = refl
  wanted_served (FarData.Active endpoint) aside pending b = refl
  wanted_served FarData.Ready aside pending b = absurd (cc)
  wanted_served (FarData.Asked asked) aside pending b = absurd (cc)
  wanted_served (FarData.Opening transfer way) aside pending b = absurd (cc)
  wanted_served (FarData.Transferring transfer) aside pending b = absurd (cc)

  -- where the client wants a port it is told one and owes the line with it, and that stage lasts
  pub port_wanted_serves : (connection : FarConnection Transfer) (pending : Pending Names) (w : World) (b : World) (way : Way) → w ≡ world_at b rest no_octets
      → Stands (PortWanted connection pending) way b → Served w (after_event w)
  port_wanted_serves connection pending w b way is h =
      let port : ℕ = port_at b.listens in
      let high : 1024 ≤ port = omega arith in
      let small : port < 65536 = omega arith in
      let line : List ℕ = port_line b in
      let wanted : w ≡ wanted_world connection pending b =
      is ∙ (λ i. record (world_at b rest no_octets) { near = calm (h.near i); far = still (far_linked (h.session i) b.far); link = h.link i }) in
      let to : World = record b {
        near = Stages.near_at state ask (PortSaid port connection pending) b.near;
        far = far_linked (linked connection false pending b.far.session) b.far;
        link = Gone;
        listens = next_listen b.listens;
      } in
      let new_is : after_event w ≡ world_at to (Asking line) (record { held = []; moving = []; owed = written_line line }) =
      ap after_event wanted ∙ wanted_served connection h.fine pending b in
      record {
        placed = record {
          base = to;
          way = Asking line;
          cut = record { held = []; moving = []; owed = written_line line };
          is = new_is;
          fits = (port_line_is state op port b.near b.far h.steady high small, subst (λ l. FlowsOf (written_line line) [] l []) (append-nil (written_line line)) (anew (written_line line) [] (line_is_some line)));
          here = inr (
            PortSaid port connection pending,
            at_stage refl refl h.steady h.timed h.ready refl h.to_server h.to_client tt h.marked refl (h.fine, (high, small)),
          );
        };
        lasts = refl;
        marks = ap (λ u. u.marks) new_is ∙ sym (ap (λ u. u.marks) is);
        reports = ap (λ u. u.reports) new_is ∙ sym (ap (λ u. u.reports) is);
        control = ap (λ u. u.control) new_is ∙ sym (ap (λ u. u.control) is);
        cutoff = ap (λ u. u.cutoff) new_is ∙ sym (ap (λ u. u.cutoff) is);
      }

  -- ---- the server closes a port that it listened at before

  -- behind that
  abbrev port_base : ℕ → World → World
  port_base port b = record b { far = far_linked (linked (FarData.Active (at_port b.near.here port)) false Pendings.Nothing b.far.session) b.far; link = Gone }

  -- the world where the server has the client's port, and is to close the one that it listened at
  port_world : (port : ℕ) (b : World) (rows : List Reply) (c : Cut) → World
  port_world port b rows c = record (world_at b (Answering rows) c) {
    far = record (still (far_linked (linked (FarData.Active (at_port b.near.here port)) true Pendings.Nothing b.far.session) b.far)) { owed = c.owed };
    link = Gone;
  }

  -- served once, the server has closed the port that it listened at
  port_closes : (port : ℕ) (b : World) (rows : List Reply) (c : Cut) → far_served (port_world port b rows c) ≡ world_at (port_base port b) (Answering rows) c
  unfolding port_world far.data_closed
  port_closes port b rows c = refl

  -- a server that has closed that port wants nothing more
  port_stays : (port : ℕ) (b : World) (rows : List Reply) (c : Cut) → far_served (world_at (port_base port b) (Answering rows) c) ≡ world_at (port_base port b) (Answering rows) c
  port_stays port b rows c = refl

  -- where the server has taken the client's port it closes the one that it listened at, and that stage lasts
  pub port_taken_closes : (port : ℕ) (w : World) → (s : PlacedAt At w) → Stands (PortTaken port true) s.way s.base → Served w (after_event w)
  unfolding near.wants port_world
  port_taken_closes port w s h =
      let seen = seen_placed At w s in
      let rows : List Reply = fixed_reply Texts.EndpointTaken ∷ [] in
      let b : World = s.base in
      let c : Cut = s.cut in
      let near : near_served w ≡ w = near_rests w _ _ (near_form b w seen _ _ h.near) refl in
      let none : report_of w.near ≡ None = ap report_of_job (seen.job ∙ ap (λ v. v.job) h.near) in
      let is : w ≡ world_at b (Answering rows) c = s.is ∙ ap (λ way. world_at b way c) h.way_is in
      let parts : w ≡ port_world port b rows c =
      is ∙ (λ i. record (world_at b (Answering rows) c) { far = record (still (far_linked (h.session i) b.far)) { owed = c.owed }; link = h.link i }) in
      let same : report_of (world_at (port_base port b) (Answering rows) c).near ≡ None = ap (λ u. report_of u.near) (sym is) ∙ none in
      let new_is : after_event w ≡ world_at (port_base port b) (Answering rows) c =
      ap (λ u. collected (far_served (far_served (far_served (near_served (near_served u)))))) near
      ∙ ap (λ u. collected (far_served (far_served (far_served (near_served u))))) near ∙ ap (λ u. collected (far_served (far_served (far_served u)))) near
      ∙ ap (λ u. collected (far_served (far_served (far_served u)))) parts
      ∙ ap (λ u. collected (far_served (far_served u))) (port_closes port b rows c) ∙ ap (λ u. collected (far_served u)) (port_stays port b rows c)
      ∙ ap collected (port_stays port b rows c)
      ∙ ap (λ o. collected_by o (world_at (port_base port b) (Answering rows) c)) same in
      record {
        placed = record {
          base = port_base port b;
          way = Answering rows;
          cut = c;
          is = new_is;
          fits = subst (λ way. Fits way c) h.way_is s.fits;
          here = inr (
            PortTaken port false,
            at_stage h.near refl h.steady h.timed h.ready refl h.to_server h.to_client tt h.marked refl tt,
          );
        };
        lasts = refl;
        marks = ap (λ u. u.marks) new_is ∙ sym (ap (λ u. u.marks) is);
        reports = ap (λ u. u.reports) new_is ∙ sym (ap (λ u. u.reports) is);
        control = ap (λ u. u.control) new_is ∙ sym (ap (λ u. u.control) is);
        cutoff = ap (λ u. u.cutoff) new_is ∙ sym (ap (λ u. u.cutoff) is);
      }

  -- ---- the server closes the link

  -- the world behind it
  abbrev pub closed_base : World → World
  closed_base b = record b { far = far_linked (linked FarData.Free false Pendings.Nothing b.far.session) b.far; link = ClosedByFar }

  -- the world where the server has no transfer left, and is to close the link
  parting_world : (b : World) (rows : List Reply) (c : Cut) → World
  parting_world b rows c = record (world_at b (Answering rows) c) {
    far = record (still (far_linked (linked FarData.Free true Pendings.Nothing b.far.session) b.far)) { owed = c.owed };
    link = Opened;
  }

  -- served once, the server has closed the link
  parting_serves : (b : World) (rows : List Reply) (c : Cut) → far_served (parting_world b rows c) ≡ world_at (closed_base b) (Answering rows) c
  unfolding parting_world far.data_closed
  parting_serves b rows c = refl

  -- a server that has closed the link wants nothing more
  closed_stays : (b : World) (rows : List Reply) (c : Cut) → far_served (world_at (closed_base b) (Answering rows) c) ≡ world_at (closed_base b) (Answering rows) c
  closed_stays b rows c = refl

  -- where nothing but the link is to be closed, the world behind an event is the same with the link closed by the server
  pub link_closes : (w b : World) (rows : List Reply) (c : Cut) → w ≡ world_at b (Answering rows) c → near_served w ≡ w → report_of w.near ≡ None
      → b.far.session ≡ linked FarData.Free true Pendings.Nothing b.far.session → b.link ≡ Opened → after_event w ≡ world_at (closed_base b) (Answering rows) c
  unfolding parting_world
  link_closes w b rows c is near none session link =
      let parts : w ≡ parting_world b rows c =
      is ∙ (λ i. record (world_at b (Answering rows) c) { far = record (still (far_linked (session i) b.far)) { owed = c.owed }; link = link i }) in
      let same : report_of (world_at (closed_base b) (Answering rows) c).near ≡ None = ap (λ u. report_of u.near) (sym is) ∙ none in
      ap (λ u. collected (far_served (far_served (far_served (near_served (near_served u)))))) near
      ∙ ap (λ u. collected (far_served (far_served (far_served (near_served u))))) near ∙ ap (λ u. collected (far_served (far_served (far_served u)))) near
      ∙ ap (λ u. collected (far_served (far_served (far_served u)))) parts
      ∙ ap (λ u. collected (far_served (far_served u))) (parting_serves b rows c) ∙ ap (λ u. collected (far_served u)) (closed_stays b rows c) ∙ ap collected (closed_stays b rows c)
      ∙ ap (λ o. collected_by o (world_at (closed_base b) (Answering rows) c)) same

  abbrev carry : Course → (came queue : List ℕ) → Stage
  carry course came queue = Carries (record { course = course; came = came; queue = queue })

  -- a course whose link is to be closed, and the one behind that
  closes_to : (course next : Course) (came queue : List ℕ) (w : World) → (s : PlacedAt At w) → Stands (carry course came queue) s.way s.base → near_served w ≡ w → report_of w.near ≡ None
      → s.base.far.session ≡ linked FarData.Free true Pendings.Nothing s.base.far.session → s.base.link ≡ Opened
      → replies_in next ≡ replies_in course → is_passing (carry next came queue) ≡ false → Stands (carry next came queue) (Answering (replies_in course)) (closed_base s.base) → Served w (after_event w)
  closes_to course next came queue w s h near none session link rows lasts holds =
      let is : w ≡ world_at s.base (Answering (replies_in course)) s.cut = s.is ∙ ap (λ way. world_at s.base way s.cut) h.way_is in
      let new_is : after_event w ≡ world_at (closed_base s.base) (Answering (replies_in course)) s.cut = link_closes w s.base (replies_in course) s.cut is near none session link in
      record {
        placed = record {
          base = closed_base s.base;
          way = Answering (replies_in course);
          cut = s.cut;
          is = new_is;
          fits = subst (λ way. Fits way s.cut) h.way_is s.fits;
          here = inr (carry next came queue, holds);
        };
        lasts = lasts;
        marks = ap (λ u. u.marks) new_is ∙ sym (ap (λ u. u.marks) is);
        reports = ap (λ u. u.reports) new_is ∙ sym (ap (λ u. u.reports) is);
        control = ap (λ u. u.control) new_is ∙ sym (ap (λ u. u.control) is);
        cutoff = ap (λ u. u.cutoff) new_is ∙ sym (ap (λ u. u.cutoff) is);
      }

  -- where all octets are given and the link is still to be closed the server closes it, and that stage lasts
  pub given_closes : (heard : Heard) (came queue : List ℕ) (w : World) → (s : PlacedAt At w) → Stands (carry (Given heard false) came queue) s.way s.base → Served w (after_event w)
  unfolding near.wants
  given_closes heard came queue w s h =
      let seen = seen_placed At w s in
      closes_to (Given heard false) (Given heard true) came queue w s h
      (near_rests w _ _ (near_form s.base w seen _ _ h.near) refl) (ap report_of_job (seen.job ∙ ap (λ v. v.job) h.near)) h.session h.link refl refl
      (at_stage h.near refl h.steady h.timed h.ready refl h.to_server h.to_client h.came h.marked refl h.fine)

  -- where the server has refused and the link is still to be closed it closes the link, and that stage lasts
  pub refusing_closes : (why : Refusal) (came queue : List ℕ) (w : World) → (s : PlacedAt At w) → Stands (carry (Refusing why Unclosed) came queue) s.way s.base → Served w (after_event w)
  unfolding near.wants
  refusing_closes why came queue w s h =
      let seen = seen_placed At w s in
      closes_to (Refusing why Unclosed) (Refusing why Closed) came queue w s h
      (near_rests w _ _ (near_form s.base w seen _ _ h.near) refl) (ap report_of_job (seen.job ∙ ap (λ v. v.job) h.near)) h.session h.link refl refl
      (at_stage h.near refl h.steady h.timed h.ready refl h.to_server h.to_client h.came h.marked refl h.fine)
