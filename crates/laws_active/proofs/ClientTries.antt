-- An action of a client where dials may fail, whether a world's is ahead of it or not.
use Rattle.std.proofs.Common.{◌≡◌, ℕ, Bool, true, false, true≢false, List, [], ◌∷◌, ◌++◌, length, None, refl, sym, ap, ap₂, subst, ◌∙◌, append-nil, arith}
use Rattle.ftp_ports.specs.Asking.{Came, Connected, Ended as EndedBy, NotConnected, Reset, Shut}
use Rattle.ftp_ports.specs.Actions.{Action, Done, Heard as HearsOctets, HearsNext, Other, Read, Said as Says, Stand}
use Rattle.ftp_ports.specs.Channel.{Channel}
use Rattle.ftp_ports.specs.Machine.{Aside, Break, Closed, End, Failed as HasFailed, Gave, Got, Left, LetGo, Listening, Opened, Received, Refused, Waited, Wrote, awaits}
use Rattle.ftp_direct.specs.Direct.{State}
use Rattle.ftp_endpoint.specs.declared.endpoint.Endpoint.{Endpoint}
use Rattle.ftp_ends.specs.declared.link.Wants.{Wants}
use Rattle.ftp_ends.specs.declared.link.Wants.TheVariants as Want
use Rattle.ftp_client_driver.specs.Side.{Reporting, Starting, client_side}
use Rattle.ftp_client_model.specs.Calls as near
use Rattle.ftp_client_model.specs.Calls.{data_closed}
use Rattle.ftp_client_model.specs.View.{View as Near}
use Rattle.ftp_operation.specs.Answer.{Said}
use Rattle.ftp_server_driver.specs.alone.Side.{server_side}
use Rattle.ftp_server_model.specs.Machine.{IsReading, Reading}
use Rattle.laws_world.specs.Agreement.{Order, Single}
use Rattle.laws_world.specs.World.{Gone, Refused as WasRefused, World, marked_last}
use Rattle.laws_agreement.specs.Over.{OverRuns}
use Rattle.laws_agreement.proofs.Chunks.{both_empty}
use Rattle.laws_drivers.specs.control.Alone.{reports_of}
use Rattle.laws_drivers.specs.events.Moments.{AreMoments, begun_at, begun_by, number_in}
use Rattle.laws_drivers.specs.control.Between.{Between, CanTurn, Client}
use Rattle.laws_drivers.proofs.control.Taken.{reports_is}
use Rattle.laws_drivers.proofs.events.Holding.{is_called}
use Rattle.laws_drivers.proofs.events.Stands.{ClientFetches as ClientRests, ServerServes, wants_port}
use Rattle.laws_transfers.specs.Ahead.{Ahead}
use Rattle.laws_transfers.proofs.Beside.{Together, is_taking, marks_with, open_takes}
use Rattle.laws_transfers.proofs.Called.{BreaksNone}
use Rattle.laws_transfers.proofs.ClientRefused.{client_refused, refused_sound, refused_view}
use Rattle.laws_transfers.proofs.Known.{AreCarried, Known}
use Rattle.laws_transfers.proofs.Running.{world_known}
use Rattle.laws_transfers.proofs.Simulating.{orders_after}
use Rattle.laws_active.specs.Lead.{Even, Joined, Lead, Told}
use Rattle.laws_active.specs.Refusals.{ClientTriesEitherWay, Gain, Heard, Led, is_heard, marked_by_turn}
use Rattle.laws_active.proofs.Bare.{StaysBare, left_bare}
use Rattle.laws_active.proofs.ClientLed.{IsNext, client_led, drop_none, sent_none, take_none, told_by}
use Rattle.laws_active.proofs.Gaining.{GainSo, GainsTo, gained_between, gained_client, gained_told}
use Rattle.laws_active.proofs.Hearing.{Beyond, Splits, Within, bare_same, hearing_busy, hearing_never, hearing_queue, hearing_said, hearing_stays, hearing_still, hearing_taken, hearing_unsent, hearing_untold, hears_beyond, hears_within, is_still, splits}
use Rattle.laws_active.proofs.JoinedActions.{joined_never}
use Rattle.laws_active.proofs.Leading.{led_client}
use Rattle.laws_active.proofs.Leads.{LedSo}
use Rattle.laws_active.proofs.LedActions.{GoesLed, asks_port, is_asking_port}
use Rattle.laws_active.proofs.Ports.{is_ported, world_awaits}

-- one that wants nothing, or a close, waits for nothing
still_rests : (q : Wants) → is_still q ≡ true → awaits q ≡ false
still_rests Want.Nothing e = refl
still_rests Want.CloseData e = refl
still_rests Want.Listen e = absurd (true≢false (sym e))
still_rests Want.Accept e = absurd (true≢false (sym e))
still_rests (Want.Connect endpoint) e = absurd (true≢false (sym e))
still_rests Want.Receive e = absurd (true≢false (sym e))
still_rests Want.Send e = absurd (true≢false (sym e))
still_rests Want.CloseAll e = absurd (true≢false (sym e))

module _ (read : Reading) (reads : IsReading read) (from : State) (moments : ℕ → ℕ) (timed : AreMoments moments) (actions : List (Action client_side))
    (puts : AreCarried (begun_at moments actions)) (server : Stand server_side) (old new : Stand client_side) (reports : List Said) (w : World)
    (serves : ServerServes server.owner) (runs : OverRuns read from (begun_at moments actions) w) (run : old.owner.end.view.run ≡ None) (last : ℕ) (ahead : Ahead)
    (p q : Between) (told : ℕ) (failed : Bool) where
  abbrev begun : List Order
  begun = begun_at moments actions

  abbrev v : Near
  v = old.owner.end.view

  abbrev u : Near
  u = new.owner.end.view

  -- a world is beside both, its client ahead so
  abbrev At : Gain → List ℕ → Type 0
  At gain more = Together read begun last ahead (gained_between gain more p) (gained_told gain told) server (gained_client gain old) reports w

  -- so it is again, with these marks
  abbrev Went : Action client_side → Type 0
  Went action = GainsTo read (begun_by (moments (number_in actions)) action) (orders_after (moments (number_in actions)) action begun) q (told_by action told) server new
      (reports ++ reports_of action) (marked_by_turn (Client action) w.marks) failed w

  -- ---- its dial fails

  module _ (endpoint : Endpoint) (is : ClientTriesEitherWay (Other (Refused (NotConnected endpoint ∷ []))) old.owner new.owner) (can : q ≡ p)
      (did : Done (Other (Refused (NotConnected endpoint ∷ []))) old new) where
    refused_even : At (Led Even) [] → ClientRests old.owner → is_called p.near ≡ false → Went (Other (Refused (NotConnected endpoint ∷ [])))
    refused_even t asks called =
        subst (λ b. GainsTo read [] begun b told server new (reports ++ []) (marked_last WasRefused w.marks) failed w) (sym can)
        (record {
          gain = Led Even;
          left = [];
          so = (
            called,
            record {
              sound = refused_sound read begun server old new reports w is.1 serves asks run known endpoint last ahead p told did;
              dials = ap (λ (n : Near). wants_port n.connection)
                  (refused_view read begun server old new reports w is.1 serves asks run known endpoint last ahead p told did);
            },
          );
          heard = λ e. absurd (true≢false (sym e));
          goes = client_refused read begun server old new reports w is.1 serves asks run known endpoint last ahead p told did t;
        })
      where
        known : Known w
        known = world_known read reads from begun puts w runs t.beside.control t.beside.unready

  -- ---- a world's heard what is left of the 150

  module _ (octets more : List ℕ) (so : GainSo (Heard octets) more p told server old) (t : At (Heard octets) more) (was : failed ≡ true) where
    known_heard : Known w
    known_heard = world_known read reads from begun puts w runs t.beside.control t.beside.unready

    gone : w.link ≡ Gone
    gone =
        world_awaits read reads from begun puts w runs t.beside.control t.beside.unready
        (ap (λ (n : Near). is_ported n.connection) t.beside.near ∙ ap (λ (n : Near). is_ported n.connection) so.0.opens.whole)

    stays : data_closed u ≡ data_closed v → new.unheard ++ q.control.to_client ≡ old.unheard ++ p.control.to_client
        → q.control.to_server ≡ p.control.to_server → q.data_ways ≡ p.data_ways → q.far ≡ p.far → is_called q.near ≡ false
        → StaysBare old.owner.channel new.owner.channel → GainsTo read [] begun q told server new (reports ++ []) w.marks failed w
    stays is queue other ways far called bare =
        subst (λ l. GainsTo read [] begun q told server new l w.marks failed w) (sym (append-nil reports))
        (hearing_stays read begun server old new reports w octets more p q told so last ahead t gone known_heard failed was is queue other ways far called bare)

    -- where the same lies between
    idles : data_closed u ≡ data_closed v → new.unheard ≡ old.unheard → q ≡ p → StaysBare old.owner.channel new.owner.channel
        → GainsTo read [] begun q told server new (reports ++ []) w.marks failed w
    idles is unheard between bare =
        stays is (ap₂ (λ a (b : Between). a ++ b.control.to_client) unheard between) (ap (λ (b : Between). b.control.to_server) between)
        (ap (λ (b : Between). b.data_ways) between) (ap (λ (b : Between). b.far) between) (ap (λ (b : Between). is_called b.near) between ∙ so.0.called) bare

    same : (channel : Channel) → new.owner.channel ≡ channel → channel.stands ≡ old.owner.channel.stands → channel.fate ≡ old.owner.channel.fate
        → channel.untold ≡ old.owner.channel.untold → channel.unwritten ≡ old.owner.channel.unwritten → StaysBare old.owner.channel new.owner.channel
    same = bare_same read begun server old new reports w octets more p q told so last ahead t gone known_heard failed was

    untold : is_taking old.owner.channel ≡ true → old.owner.channel.untold ≡ []
    untold = hearing_untold read begun server old new reports w octets more p q told so last ahead t gone known_heard failed was

    unsent : old.owner.channel.unwritten ≡ []
    unsent = hearing_unsent read begun server old new reports w octets more p q told so last ahead t gone known_heard failed was

    -- it wants nothing of the kind
    never : {A : Type 0} → (want : Wants) → near.wants v ≡ want → is_still want ≡ false → A
    never = hearing_never read begun server old new reports w octets more p q told so last ahead t gone known_heard failed was

    hears_octets : (heard : List ℕ) → ClientTriesEitherWay (HearsOctets heard) old.owner new.owner → q ≡ p → HearsNext heard old new → Went (HearsOctets heard)
    hears_octets heard is can did =
        by (splits heard octets rest more
        (hearing_queue read begun server old new reports w octets more p q told so last ahead t gone known_heard failed was heard is.1 did can))
      where
        rest : List ℕ
        rest = new.unheard ++ p.control.to_client

        by : Splits heard octets rest more → Went (HearsOctets heard)
        by (Within octet left octets_is rest_is) =
            subst (λ l. GainsTo read [] begun q told server new l w.marks failed w) (sym (append-nil reports))
            (hears_within read begun server old new reports w octets more p q told so last ahead t gone known_heard failed was heard is.1 did can octet left
            octets_is rest_is)
        by (Beyond behind heard_is more_is) =
            let o = hears_beyond read begun server old new reports w octets more p q told so last ahead t gone known_heard failed was heard is.1 did can behind
            heard_is more_is in
            let g : GoesLed read [] begun q told server new (reports ++ []) w =
            client_led read reads from moments timed actions puts server o.mid new reports w serves runs o.alone last ahead p q told (HearsOctets behind) tt
            (tt, o.room) tt can o.hears Even [] (so.0.called, o.rests) o.together o.rests in
            record { gain = Led g.lead; left = g.left; so = g.so; heard = λ e. absurd (true≢false (sym e)); goes = g.goes }

    hearing_goes : (action : Action client_side) → BreaksNone action → ClientTriesEitherWay action old.owner new.owner → CanTurn (Client action) p q → Done action old new
        → Went action
    hearing_goes (HearsOctets heard) unbroken is can did = hears_octets heard is can did
    hearing_goes (Says said) unbroken is can did =
        let none_said : said ≡ [] = did.gives.owed ∙ take_none did.gives.count v.owed so.0.owed in
        idles (ap data_closed did.gives.gave.0 ∙ ap (λ o. data_closed (record v { owed = o })) (drop_none did.gives.count v.owed so.0.owed)) did.unheard
        (can ∙ sent_none p said none_said) (same _ did.gives.channel refl refl refl refl)
    hearing_goes (Read octets) unbroken is can did =
        stays (ap (λ o. data_closed o.end.view) did.owner)
        (ap (λ a. a ++ q.control.to_client) did.unheard ∙ sym can.0 ∙ ap (λ a. a ++ p.control.to_client) (sym did.heard))
        (ap (λ (b : Between). b.control.to_server) can.1) (ap (λ (b : Between). b.data_ways) can.1) (ap (λ (b : Between). b.far) can.1)
        (ap (λ (b : Between). is_called b.near) can.1 ∙ so.0.called) (same _ (ap (λ o. o.channel) did.owner) refl refl refl refl)
    hearing_goes (Other (Aside (Reporting said))) unbroken is can did =
        let none : said ≡ None =
        did.0.0.0 ∙ hearing_said read begun server old new reports w octets more p q told so last ahead t gone known_heard failed was in
        subst (λ s. GainsTo read [] begun q told server new (reports ++ reports_of (Other (Aside (Reporting s)))) w.marks failed w) (sym none)
        (idles (ap data_closed (did.0.0.1.0 ∙ reports_is v
        ∙ hearing_taken read begun server old new reports w octets more p q told so last ahead t gone known_heard failed was))
        (ap (λ (s : Stand client_side). s.unheard) did.1) can (same _ did.0.1 refl refl refl refl))
    hearing_goes (Other (Aside (Starting op))) unbroken is can did =
        absurd (true≢false (sym (hearing_busy read begun server old new reports w octets more p q told so last ahead t gone known_heard failed was)
        ∙ did.0.0.0))
    hearing_goes (Other (Listening port)) unbroken is can did = never Want.Listen did.0.2.0 refl
    hearing_goes (Other (Opened host (Came other left written ∷ []) at_first so_far rest)) unbroken is can did = never Want.Accept did.0.2.0 refl
    hearing_goes (Other (Opened host (Connected endpoint left written ∷ []) at_first so_far rest)) unbroken is can did =
        never (Want.Connect endpoint) did.0.2.0 refl
    hearing_goes (Other (Refused (NotConnected endpoint ∷ []))) unbroken is can did = never (Want.Connect endpoint) did.0.2.0 refl
    hearing_goes (Other (Refused asked)) unbroken is can did = absurd is.0
    hearing_goes (Other (Gave count given rest)) unbroken is can did = never Want.Send did.0.2 refl
    hearing_goes (Other (Wrote wrote)) unbroken is can did = absurd (omega (arith, ap length unsent, did.0.1.some))
    hearing_goes (Other (Got got)) unbroken is can did = never Want.Receive did.0.2 refl
    hearing_goes (Other (Received received count)) unbroken is can did = never Want.Receive did.0.2.1 refl
    hearing_goes (Other End) unbroken is can did = never Want.Receive did.0.2 refl
    hearing_goes (Other (Waited lost)) unbroken is can did =
        absurd (true≢false (sym did.0.2 ∙ still_rests (near.wants v)
        (hearing_still read begun server old new reports w octets more p q told so last ahead t gone known_heard failed was)))
    hearing_goes (Other (LetGo let_go)) unbroken is can did =
        idles (ap (λ c. data_closed c.view) did.0.0.0) (ap (λ (s : Stand client_side). s.unheard) did.1) can
        (record {
          taking = λ e. ap is_taking (sym did.0.1.1) ∙ e;
          untold = λ e. (both_empty let_go new.owner.channel.untold (sym did.0.1.0 ∙ untold e)).1;
          bare = λ e. (both_empty let_go new.owner.channel.untold (sym did.0.1.0 ∙ t.takes.bare (ap (λ (l : Channel). l.stands) (sym did.0.1.1) ∙ e))).1;
          unwritten = ap (λ (l : Channel). l.unwritten) did.0.1.1 ∙ unsent;
        })
    hearing_goes (Other (Left (EndedBy left written))) unbroken is can did =
        stays (ap (λ c. data_closed c.view) did.0.0)
        (ap₂ (λ (s : Stand client_side) (b : Between). s.unheard ++ b.control.to_client) did.1 can.1)
        (ap (λ (b : Between). b.control.to_server) can.1) (ap (λ (b : Between). b.data_ways) can.1)
        (ap (λ (b : Between). b.far) can.1) (ap (λ (b : Between). is_called b.near) can.1)
        (left_bare old.owner.channel new.owner.channel did.0.1.stands did.0.1.untold did.0.1.unwritten)
    hearing_goes (Other (Left Shut)) unbroken is can did =
        idles (ap (λ c. data_closed c.view) did.0.0) (ap (λ (s : Stand client_side). s.unheard) did.1) can
        (left_bare old.owner.channel new.owner.channel did.0.1.stands did.0.1.untold did.0.1.unwritten)
    hearing_goes (Other Closed) unbroken is can did =
        idles (ap data_closed did.0.0.0) (ap (λ (s : Stand client_side). s.unheard) did.1) can (same _ did.0.1.0 refl refl refl refl)
    hearing_goes (Other HasFailed) unbroken is can did =
        idles (ap (λ c. data_closed c.view) did.0.0) (ap (λ (s : Stand client_side). s.unheard) did.1) can
        (record {
          taking = λ e. open_takes old.owner.channel did.0.1.1;
          untold = λ e. ap (λ (l : Channel). l.untold) did.0.1.0 ∙ untold e;
          bare = λ e. ap (λ (l : Channel). l.untold) did.0.1.0 ∙ t.takes.bare (ap (λ (l : Channel). l.stands) (sym did.0.1.0) ∙ e);
          unwritten = ap (λ (l : Channel). l.unwritten) did.0.1.0 ∙ unsent;
        })
    hearing_goes (Other (Left (Reset left written))) unbroken is can did =
        stays (ap (λ c. data_closed c.view) did.0.0)
        (ap₂ (λ (s : Stand client_side) (b : Between). s.unheard ++ b.control.to_client) did.1 can.1)
        (ap (λ (b : Between). b.control.to_server) can.1) (ap (λ (b : Between). b.data_ways) can.1)
        (ap (λ (b : Between). b.far) can.1) (ap (λ (b : Between). is_called b.near) can.1)
        (left_bare old.owner.channel new.owner.channel did.0.1.stands did.0.1.untold did.0.1.unwritten)
    hearing_goes (Other Break) unbroken is can did = absurd unbroken
    hearing_goes action unbroken is can did = absurd is.0

  -- ---- whichever lead

  -- as where no dial fails
  as_led : (more orders : List Order) (count : ℕ) (said : List Said) → GoesLed read more orders q count server new said w
      → GainsTo read more orders q count server new said (marks_with more w.marks) failed w
  as_led more orders count said g = record { gain = Led g.lead; left = g.left; so = g.so; heard = λ e. absurd (true≢false (sym e)); goes = g.goes }

  -- a dial is not failed of one that wants a port, or is at one
  refused_led : (endpoint : Endpoint) → ClientTriesEitherWay (Other (Refused (NotConnected endpoint ∷ []))) old.owner new.owner → q ≡ p
      → Done (Other (Refused (NotConnected endpoint ∷ []))) old new → (lead : Lead) (more : List ℕ) → LedSo lead more p told server old → At (Led lead) more
      → ClientRests (led_client lead old).owner → Went (Other (Refused (NotConnected endpoint ∷ [])))
  refused_led endpoint is can did Even more so t asks = refused_even endpoint is can did t asks so.0
  refused_led endpoint is can did (Told port) more so t asks =
      absurd (true≢false (sym (asks_port so.0.op v so.0.view) ∙ ap is_asking_port did.0.2.0))
  refused_led endpoint is can did (Joined octets) more so t asks =
      absurd (joined_never read begun server old new reports w octets more p q told so last ahead t (Want.Connect endpoint) did.0.2.0 refl)

  pub client_tries : (action : Action client_side) → BreaksNone action → ClientTriesEitherWay action old.owner new.owner → IsNext action told → CanTurn (Client action) p q
      → Done action old new → (gain : Gain) (more : List ℕ) → GainSo gain more p told server old → At gain more → ClientRests (gained_client gain old).owner
      → (is_heard gain ≡ true → failed ≡ true) → Went action
  client_tries (Other (Refused (NotConnected endpoint ∷ []))) unbroken is next can did (Led lead) more so t asks heard =
      refused_led endpoint is can did lead more so t asks
  client_tries (Other (Refused (NotConnected endpoint ∷ []))) unbroken is next can did (Heard octets) more so t asks heard =
      hearing_goes octets more so t (heard refl) (Other (Refused (NotConnected endpoint ∷ []))) unbroken is can did
  client_tries (Other (Refused asked)) unbroken is next can did gain more so t asks heard = absurd is.0
  client_tries (Other (Aside (Starting op))) unbroken is next can did (Led lead) more so t asks heard =
      as_led (Single op (moments (number_in actions)) ∷ []) (begun ++ Single op (moments (number_in actions)) ∷ []) told (reports ++ [])
      (client_led read reads from moments timed actions puts server old new reports w serves runs run last ahead p q told (Other (Aside (Starting op)))
      unbroken is next can did lead more so t asks)
  client_tries (Other (Aside (Reporting said))) unbroken is next can did (Led lead) more so t asks heard =
      as_led [] begun told (reports ++ reports_of (Other (Aside (Reporting said))))
      (client_led read reads from moments timed actions puts server old new reports w serves runs run last ahead p q told (Other (Aside (Reporting said)))
      unbroken is next can did lead more so t asks)
  client_tries (Other (Aside own)) unbroken is next can did (Led lead) more so t asks heard = absurd is.0
  client_tries action unbroken is next can did (Led lead) more so t asks heard =
      as_led (begun_by (moments (number_in actions)) action) (orders_after (moments (number_in actions)) action begun) (told_by action told)
      (reports ++ reports_of action)
      (client_led read reads from moments timed actions puts server old new reports w serves runs run last ahead p q told action unbroken is next can did lead more
      so t asks)
  client_tries action unbroken is next can did (Heard octets) more so t asks heard = hearing_goes octets more so t (heard refl) action unbroken is can did
