-- Actions of a client that puts files for which nothing happens in a world: octets are read or written, its report is taken, it is looked at or waited for, a
-- data connection is left, and a close is told.
use Rattle.std.proofs.Common.{◌≡◌, ◌⊎◌, inl, inr, ℕ, Bool, true, false, true≢false, ◌&&◌, List, [], ◌++◌, Option, option_to_list, refl, sym, ap, ap₂, subst, ◌∙◌, append_assoc, append-nil}
use Rattle.std.specs.Prelude.{◌≢◌}
use Rattle.ftp_ends.specs.declared.link.Wants.{Wants}
use Rattle.ftp_ends.specs.declared.link.Wants.TheVariants as Want
use Rattle.ftp_ports.specs.Asking.{Asked, Ended as EndedBy, Reset, Shut}
use Rattle.ftp_ports.specs.Actions.{Calls, ReadsNext, Stand}
use Rattle.ftp_ports.specs.Channel.{IsEnded, Channel, with_fate}
use Rattle.ftp_ports.specs.Machine.{Aside, Closed, Failed as HasFailed, Got, Left, LetGo, MayLeave, Waited, Wrote, leaves}
use Rattle.ftp_ports.specs.declared.whole.Fate.{Fate}
use Rattle.ftp_ports.specs.declared.whole.Fate.TheVariants.{Sound, Failed, Broken, Over}
use Rattle.ftp_client_driver.specs.Side.{Reporting, client_side, is_operation_under_way}
use Rattle.ftp_client_model.specs.Calls as near
use Rattle.ftp_client_model.specs.Calls.{data_closed, is_busy, report_of}
use Rattle.ftp_client_model.specs.View.{View as Near}
use Rattle.ftp_operation.specs.Answer.{Said}
use Rattle.ftp_server_driver.specs.alone.Side.{server_side}
use Rattle.ftp_server_model.specs.Machine.{Reading}
use Rattle.laws_world.specs.Agreement.{Order}
use Rattle.laws_world.specs.World.{World}
use Rattle.laws_drivers.specs.control.Alone.{ClientIsCalm}
use Rattle.laws_drivers.specs.control.Between.{Between, Can, Has_ended, Hold, Near as TheClient}
use Rattle.laws_drivers.specs.control.Touches.{Ends, Resets, Takes as TakesOctets, Writes as WritesOctets}
use Rattle.laws_agreement.proofs.Chunks.{both_empty}
use Rattle.laws_drivers.proofs.control.Taken.{reports_is, taken, taken_none, taken_twice, taken_wants}
use Rattle.laws_drivers.proofs.control.Worlds.{leads_none}
use Rattle.laws_transfers.specs.Ahead.{Ahead}
use Rattle.laws_drivers.proofs.world.Known.{is_receive}
use Rattle.laws_drivers.proofs.world.Served.{rests}
use Rattle.laws_drivers.proofs.events.Holding.{both, is_false, is_had, is_sound, unclosed}
use Rattle.laws_transfers.proofs.Ahead.{Holds}
use Rattle.laws_drivers.proofs.events.NearForms.{idle_free, wants_rest}
use Rattle.laws_drivers.proofs.events.Stands.{ClientFetches}
use Rattle.laws_transfers.proofs.Beside.{Comes, Goes, Keeping, Takes, Together, Writes, is_taking, open_takes}
use Rattle.laws_transfers.proofs.Known.{Known, is_near_held}

module _ (read : Reading) (orders : List Order) (server : Stand server_side) (old new : Stand client_side) (reports : List Said) (w : World)
    (calm : ClientIsCalm old.owner new.owner) (known : Known w) where
  abbrev v : Near
  v = old.owner.end.view

  abbrev u : Near
  u = new.owner.end.view

  abbrev Climbs : Between → Between → Type 0
  Climbs between next = server.owner.channel.untold ++ (between.data_ways.to_server ++ old.owner.channel.unwritten)
      ≡ server.owner.channel.untold ++ (next.data_ways.to_server ++ new.owner.channel.unwritten)

  -- and of what goes to the client, where it may come to it as before
  abbrev Falls : Between → Between → Type 0
  Falls between next = is_taking new.owner.channel ≡ true → (is_taking old.owner.channel ≡ true)
      × (old.owner.channel.untold ++ (between.data_ways.to_client ++ server.owner.channel.unwritten)
      ≡ new.owner.channel.untold ++ (next.data_ways.to_client ++ server.owner.channel.unwritten))

  -- a world stays beside
  pub client_stays : (moment : ℕ) (ahead : Ahead) (between next : Between) (told : ℕ) (more : List Said)
      → Together read orders moment ahead between told server old reports w → data_closed (taken v) ≡ data_closed (taken u)
      → option_to_list (report_of v) ≡ more ++ option_to_list (report_of u)
      → next.control.to_server ≡ between.control.to_server → old.unheard ++ between.control.to_client ≡ new.unheard ++ next.control.to_client
      → Climbs between next → Falls between next → next.far ≡ between.far → Takes new.owner.channel → Writes next.near new.owner.channel
      → Keeping next.near u new.owner.channel w → Goes read [] orders next told server new (reports ++ more) w
  client_stays moment ahead between next told more t is said other queue climbs falls hold takes gives keeping = record {
    world = w;
    leads = leads_none read w;
    moment = moment;
    ahead = ahead;
    marked = refl;
    together = record {
      beside = record {
        fits = t.beside.fits;
        near = t.beside.near ∙ is;
        far = t.beside.far;
        to_server = t.beside.to_server ∙ ap (λ q. server.unheard ++ q) (sym other);
        to_client = t.beside.to_client ∙ queue;
        rising = t.beside.rising ∙ climbs;
        falling = λ e. t.beside.falling (falls e).0 ∙ (falls e).1;
        listens = t.beside.listens;
        reported = t.beside.reported ∙ ap (λ l. reports ++ l) said ∙ sym (append_assoc reports more (option_to_list (report_of u)));
        control = t.beside.control;
        unready = t.beside.unready;
        cutoff = t.beside.cutoff;
      };
      holds = subst (λ (h : Hold). Holds ahead h server.owner.end.server.view.session) (sym hold) t.holds;
      comes = subst (λ (h : Hold). Comes h server.owner.end.server.view.session server.owner.channel) (sym hold) t.comes;
      serves = subst (λ (h : Hold). Writes h server.owner.channel) (sym hold) t.serves;
      takes = takes;
      gives = gives;
      keeping = keeping;
      twin = t.twin;
    };
  }

  -- the client holds the same
  pub client_keeps : (moment : ℕ) (ahead : Ahead) (between next : Between) (told : ℕ) → Together read orders moment ahead between told server old reports w
      → u ≡ v
      → next.control.to_server ≡ between.control.to_server → old.unheard ++ between.control.to_client ≡ new.unheard ++ next.control.to_client
      → Climbs between next → Falls between next → next.far ≡ between.far → Takes new.owner.channel → Writes next.near new.owner.channel
      → (is_near_held w.link ≡ true → is_had next.near ≡ true) → (is_sound new.owner.channel.fate ≡ false → is_near_held w.link ≡ false)
      → Goes read [] orders next told server new (reports ++ []) w
  client_keeps moment ahead between next told t is other queue climbs falls hold takes gives had over =
      client_stays moment ahead between next told [] t (ap (λ n. data_closed (taken n)) (sym is)) (ap (λ n. option_to_list (report_of n)) (sym is)) other queue
      climbs falls hold takes gives (record { had = had; shut = λ e. t.keeping.shut (ap (λ (n : Near). n.closing) (sym is) ∙ e); over = over })

  -- by a call that moves no control octets
  pub client_idle : (moment : ℕ) (ahead : Ahead) (between next : Between) (told : ℕ) → Together read orders moment ahead between told server old reports w → u ≡ v
      → new.unheard ≡ old.unheard → next.control ≡ between.control → Climbs between next → Falls between next → next.far ≡ between.far
      → Takes new.owner.channel → Writes next.near new.owner.channel → (is_near_held w.link ≡ true → is_had next.near ≡ true)
      → (is_sound new.owner.channel.fate ≡ false → is_near_held w.link ≡ false) → Goes read [] orders next told server new (reports ++ []) w
  client_idle moment ahead between next told t is unheard control climbs falls hold takes gives had over =
      client_keeps moment ahead between next told t is (ap (λ c. c.to_server) control) (ap₂ (λ a c. a ++ c.to_client) (sym unheard) (sym control))
      climbs falls hold takes gives had over

  same_channel : (between : Between) → new.owner.channel ≡ old.owner.channel → Climbs between between
  same_channel between channel = ap (λ (l : Channel). server.owner.channel.untold ++ (between.data_ways.to_server ++ l.unwritten)) (sym channel)

  same_falls : (between : Between) → new.owner.channel ≡ old.owner.channel → Falls between between
  same_falls between channel e =
      (ap is_taking (sym channel) ∙ e, ap (λ (l : Channel). l.untold ++ (between.data_ways.to_client ++ server.owner.channel.unwritten)) (sym channel))

  same_over : new.owner.channel.fate ≡ old.owner.channel.fate → (is_sound old.owner.channel.fate ≡ false → is_near_held w.link ≡ false)
      → is_sound new.owner.channel.fate ≡ false → is_near_held w.link ≡ false
  same_over fate over e = over (ap is_sound (sym fate) ∙ e)

  -- octets may come as before
  held_taking : new.owner.channel.stands ≡ old.owner.channel.stands → new.owner.channel.fate ≡ old.owner.channel.fate
      → is_taking new.owner.channel ≡ is_taking old.owner.channel
  held_taking stands fate = ap₂ (λ s f. s && is_sound f) stands fate

  -- ---- a client that takes no octets

  -- has none before it
  none_falls : (moment : ℕ) (ahead : Ahead) (between : Between) (told : ℕ) → Together read orders moment ahead between told server old reports w
      → is_receive (near.wants v) ≡ false → w.data_to_client ≡ []
  none_falls moment ahead between told t none = by v.closing refl
    where
      by : (closing : Bool) → v.closing ≡ closing → w.data_to_client ≡ []
      by true is = known.ended (t.keeping.shut is)
      by false is =
          let n : w.near ≡ taken v = t.beside.near ∙ unclosed (taken v) is in
          known.falls (ap (λ x. is_receive (near.wants x)) n ∙ ap is_receive (taken_wants v) ∙ none)

  -- so nothing came that it was not told, where it may take octets
  none_untold : (moment : ℕ) (ahead : Ahead) (between : Between) (told : ℕ) → Together read orders moment ahead between told server old reports w
      → is_taking old.owner.channel ≡ true → w.data_to_client ≡ [] → old.owner.channel.untold ≡ []
  none_untold moment ahead between told t taking none =
      (both_empty old.owner.channel.untold (between.data_ways.to_client ++ server.owner.channel.unwritten) (sym (t.beside.falling taking) ∙ none)).0

  -- ---- the actions

  -- octets are read
  pub client_read : (octets : List ℕ) (moment : ℕ) (ahead : Ahead) (between next : Between) (told : ℕ)
      → Together read orders moment ahead between told server old reports w
      → ReadsNext octets old new → between.control.to_client ≡ octets ++ next.control.to_client → next.control.to_server ≡ between.control.to_server
      → next.data_ways ≡ between.data_ways → next.far ≡ between.far → next.near ≡ between.near → Goes read [] orders next told server new (reports ++ []) w
  client_read octets moment ahead between next told t did front other ways hold near =
      let channel : new.owner.channel ≡ old.owner.channel = ap (λ o. o.channel) did.owner in
      client_keeps moment ahead between next told t (ap (λ o. o.end.view) did.owner) other
      (ap₂ (λ a b. a ++ b) did.heard front ∙ ap (λ a. a ++ next.control.to_client) (sym did.unheard))
      (same_channel between channel ∙ ap (λ d. server.owner.channel.untold ++ (d.to_server ++ new.owner.channel.unwritten)) (sym ways))
      (λ e. (
        (same_falls between channel e).0,
        (same_falls between channel e).1 ∙ ap (λ d. new.owner.channel.untold ++ (d.to_client ++ server.owner.channel.unwritten)) (sym ways),
      )) hold
      (subst Takes (sym channel) t.takes) (subst (λ (h : Hold). Writes h new.owner.channel) (sym near) (subst (Writes between.near) (sym channel) t.gives))
      (λ e. ap is_had near ∙ t.keeping.had e) (same_over (ap (λ (l : Channel). l.fate) channel) t.keeping.over)

  -- its report is taken
  pub client_reports : (said : Option Said) (moment : ℕ) (ahead : Ahead) (between : Between) (told : ℕ)
      → Together read orders moment ahead between told server old reports w
      → Calls {side = client_side} (Aside (Reporting said)) old new → Goes read [] orders between told server new (reports ++ option_to_list said) w
  client_reports said moment ahead between told t did =
      let is : u ≡ taken v = did.0.0.1.0 ∙ reports_is v in
      let channel : new.owner.channel ≡ old.owner.channel = did.0.1 in
      let none : option_to_list (report_of u) ≡ [] = ap (λ n. option_to_list (report_of n)) is ∙ ap option_to_list (taken_none v) in
      client_stays moment ahead between between told (option_to_list said) t (ap data_closed (sym (taken_twice v)) ∙ ap (λ n. data_closed (taken n)) (sym is))
      (ap option_to_list (sym did.0.0.0) ∙ sym (append-nil (option_to_list said)) ∙ ap (λ l. option_to_list said ++ l) (sym none)) refl
      (ap (λ (s : Stand client_side). s.unheard ++ between.control.to_client) (sym did.1)) (same_channel between channel) (same_falls between channel) refl
      (subst Takes (sym channel) t.takes) (subst (Writes between.near) (sym channel) t.gives)
      (record {
        had = t.keeping.had;
        shut = λ e. t.keeping.shut (ap (λ (n : Near). n.closing) (sym is) ∙ e);
        over = same_over (ap (λ (l : Channel). l.fate) channel) t.keeping.over;
      })

  -- it is waited at
  pub client_waited : (lost : Bool) (moment : ℕ) (ahead : Ahead) (between : Between) (told : ℕ)
      → Together read orders moment ahead between told server old reports w
      → Calls {side = client_side} (Waited lost) old new → Goes read [] orders between told server new (reports ++ []) w
  client_waited lost moment ahead between told t did =
      let held = did.0.1.holds in
      client_idle moment ahead between between told t (ap (λ c. c.view) did.0.0) (ap (λ (s : Stand client_side). s.unheard) did.1) refl
      (ap (λ o. server.owner.channel.untold ++ (between.data_ways.to_server ++ o)) (sym held.unwritten))
      (λ e. (sym (held_taking held.stands held.fate) ∙ e, ap (λ o. o ++ (between.data_ways.to_client ++ server.owner.channel.unwritten)) (sym held.untold))) refl
      (record { bare = λ e. held.untold ∙ t.takes.bare (sym held.stands ∙ e) })
      (record { spare = λ e. held.unwritten ∙ t.gives.spare e; bare = λ e. held.unwritten ∙ t.gives.bare (sym held.stands ∙ e) })
      t.keeping.had (same_over held.fate t.keeping.over)

  -- octets come
  pub client_got : (octets : List ℕ) (moment : ℕ) (ahead : Ahead) (between next : Between) (told : ℕ)
      → Together read orders moment ahead between told server old reports w
      → Calls {side = client_side} (Got octets) old new → Can TheClient (TakesOctets octets) between next
      → Goes read [] orders next told server new (reports ++ []) w
  client_got octets moment ahead between next told t did can =
      let got = did.0.1 in
      let near : next.near ≡ between.near = ap (λ (m : Between). m.near) can.2 in
      let has : is_had next.near ≡ true = ap is_had near ∙ ap is_had can.0 in
      let falls : Falls between next =
      λ e. (
        open_takes old.owner.channel got.is_open,
        ap₂ (λ a b. a ++ (b ++ server.owner.channel.unwritten)) got.told can.1
            ∙ append_assoc octets next.data_ways.to_client server.owner.channel.unwritten
            ∙ ap (λ a. a ++ (next.data_ways.to_client ++ server.owner.channel.unwritten)) (sym got.untold),
      ) in
      client_idle moment ahead between next told t (ap (λ c. c.view) did.0.0) (ap (λ (s : Stand client_side). s.unheard) did.1)
      (ap (λ (m : Between). m.control) can.2)
      (ap₂ (λ (m : Between) o. server.owner.channel.untold ++ (m.data_ways.to_server ++ o)) (sym can.2) (sym got.unwritten)) falls
      (ap (λ (m : Between). m.far) can.2)
      (record { bare = λ e. absurd (both (got.stands ∙ got.is_open.0) e) })
      (record { spare = λ e. absurd (both has e); bare = λ e. absurd (both (got.stands ∙ got.is_open.0) e) })
      (λ e. has) (same_over got.fate t.keeping.over)

  -- octets that came are let go: there are none where it may take octets
  pub client_lets : (octets : List ℕ) (moment : ℕ) (ahead : Ahead) (between : Between) (told : ℕ)
      → Together read orders moment ahead between told server old reports w
      → Calls {side = client_side} (LetGo octets) old new → Goes read [] orders between told server new (reports ++ []) w
  client_lets octets moment ahead between told t did =
      let channel = did.0.1.1 in
      let left : old.owner.channel.untold ≡ [] → new.owner.channel.untold ≡ [] =
      λ none. (both_empty octets new.owner.channel.untold (sym did.0.1.0 ∙ none)).1 in
      let flat : w.data_to_client ≡ [] = none_falls moment ahead between told t (not_receive (near.wants v) did.0.0.1) in
      let unwritten : new.owner.channel.unwritten ≡ old.owner.channel.unwritten = ap (λ (l : Channel). l.unwritten) channel in
      client_idle moment ahead between between told t (ap (λ c. c.view) did.0.0.0) (ap (λ (s : Stand client_side). s.unheard) did.1) refl
      (ap (λ o. server.owner.channel.untold ++ (between.data_ways.to_server ++ o)) (sym unwritten))
      (λ e.
      let taking : is_taking old.owner.channel ≡ true = ap is_taking (sym channel) ∙ e in
      let none : old.owner.channel.untold ≡ [] = none_untold moment ahead between told t taking flat in
      (taking, ap (λ o. o ++ (between.data_ways.to_client ++ server.owner.channel.unwritten)) (none ∙ sym (left none)))) refl
      (record { bare = λ e. left (t.takes.bare (ap (λ (l : Channel). l.stands) (sym channel) ∙ e)) })
      (record { spare = λ e. unwritten ∙ t.gives.spare e; bare = λ e. unwritten ∙ t.gives.bare (ap (λ (l : Channel). l.stands) (sym channel) ∙ e) })
      t.keeping.had (same_over (ap (λ (l : Channel). l.fate) channel) t.keeping.over)
    where
      not_receive : (q : Wants) → q ≢ Want.Receive → is_receive q ≡ false
      not_receive Want.Receive none = absurd (none refl)
      not_receive wants none = refl

  -- octets are written
  pub client_wrote : (octets : List ℕ) (moment : ℕ) (ahead : Ahead) (between next : Between) (told : ℕ)
      → Together read orders moment ahead between told server old reports w
      → Calls {side = client_side} (Wrote octets) old new → Can TheClient (WritesOctets octets) between next
      → Goes read [] orders next told server new (reports ++ []) w
  client_wrote octets moment ahead between next told t did can =
      let wrote = did.0.1 in
      let near : next.near ≡ between.near = ap (λ (m : Between). m.near) can.1 in
      let has : is_had next.near ≡ true = ap is_had near ∙ ap is_had can.0 in
      let climbs : Climbs between next =
      ap (λ o. server.owner.channel.untold ++ (between.data_ways.to_server ++ o)) wrote.first
      ∙ ap (λ o. server.owner.channel.untold ++ o) (sym (append_assoc between.data_ways.to_server octets new.owner.channel.unwritten))
      ∙ ap (λ (m : Between). server.owner.channel.untold ++ (m.data_ways.to_server ++ new.owner.channel.unwritten)) (sym can.1) in
      client_idle moment ahead between next told t (ap (λ c. c.view) did.0.0) (ap (λ (s : Stand client_side). s.unheard) did.1)
      (ap (λ (m : Between). m.control) can.1) climbs
      (λ e. (
        open_takes old.owner.channel wrote.is_open,
        ap₂ (λ (m : Between) o. o ++ (m.data_ways.to_client ++ server.owner.channel.unwritten)) (sym can.1) (sym wrote.untold),
      ))
      (ap (λ (m : Between). m.far) can.1) (record { bare = λ e. absurd (both (wrote.stands ∙ wrote.is_open.0) e) })
      (record {
        spare = λ e. absurd (both has e);
        bare = λ e. absurd (both (wrote.stands ∙ wrote.is_open.0) e);
      })
      (λ e. has) (same_over wrote.fate t.keeping.over)

  -- a close is told
  pub client_closed : (moment : ℕ) (ahead : Ahead) (between : Between) (told : ℕ) → Together read orders moment ahead between told server old reports w
      → Calls {side = client_side} Closed old new → Goes read [] orders between told server new (reports ++ []) w
  client_closed moment ahead between told t did =
      let is : u ≡ data_closed v = did.0.0.0 in
      let channel : new.owner.channel ≡ old.owner.channel = did.0.1.0 in
      client_stays moment ahead between between told [] t (ap (λ n. data_closed (taken n)) (sym is)) (ap (λ n. option_to_list (report_of n)) (sym is)) refl
      (ap (λ (s : Stand client_side). s.unheard ++ between.control.to_client) (sym did.1)) (same_channel between channel) (same_falls between channel) refl
      (subst Takes (sym channel) t.takes) (subst (Writes between.near) (sym channel) t.gives)
      (record {
        had = t.keeping.had;
        shut = λ e. absurd (both e (ap (λ (n : Near). n.closing) is));
        over = same_over (ap (λ (l : Channel). l.fate) channel) t.keeping.over;
      })

  -- the port alone is left
  pub client_shuts : (moment : ℕ) (ahead : Ahead) (between : Between) (told : ℕ) → Together read orders moment ahead between told server old reports w
      → Calls {side = client_side} (Left Shut) old new → Goes read [] orders between told server new (reports ++ []) w
  client_shuts moment ahead between told t did =
      let left = did.0.1 in
      let fallen : old.owner.channel.stands ≡ false = is_false old.owner.channel.stands (λ e. absurd (stood e left.ended)) in
      let empty : old.owner.channel.unwritten ≡ [] = t.gives.bare fallen in
      client_idle moment ahead between between told t (ap (λ c. c.view) did.0.0) (ap (λ (s : Stand client_side). s.unheard) did.1) refl
      (ap (λ o. server.owner.channel.untold ++ (between.data_ways.to_server ++ o)) (empty ∙ sym left.unwritten))
      (λ e. absurd (both e (ap (λ s. s && is_sound new.owner.channel.fate) left.stands))) refl (record { bare = λ e. left.untold })
      (record { spare = λ e. left.unwritten; bare = λ e. left.unwritten }) t.keeping.had (λ e. absurd (both (ap is_sound left.fate) e))
    where
      is_shut : Asked → Bool
      is_shut Shut = true
      is_shut asked = false

      stood : old.owner.channel.stands ≡ true → IsEnded old.owner.channel.stands old.owner.channel.left old.owner.channel.written old.owner.channel.unwritten Shut → ⊥
      stood is ended =
          elim (subst (λ s. IsEnded s old.owner.channel.left old.owner.channel.written old.owner.channel.unwritten Shut) is ended) [
            | inl one ↦ true≢false (ap is_shut one.1)
            | inr other ↦ true≢false (ap is_shut other)
          ]

  -- one that leaves what it has holds it no more in a world
  left_held : (asks : ClientFetches old.owner) (never : near.wants v ≡ Want.Accept → is_near_held w.link ≡ false) (asked : Asked) (moment : ℕ)
      (ahead : Ahead) (between : Between) (told : ℕ)
      → Together read orders moment ahead between told server old reports w → Calls {side = client_side} (Left asked) old new → is_near_held w.link ≡ false
  left_held asks never asked moment ahead between told t did = by_fate old.owner.channel.fate refl did.0.2.0
    where
      idle : is_operation_under_way v.job ≡ false → is_near_held w.link ≡ false
      idle done = ap is_near_held (known.idle (ap is_busy t.beside.near ∙ idle_free v done)).link

      -- one that wants no close, has not failed and wants no port of its own goes on without a link only as it dials or accepts, so that none stands
      dials : v.closing ≡ false → (q : Wants) → near.wants v ≡ q → rests q ≡ true → leaves q ≡ true → is_near_held w.link ≡ false
      dials apart (Want.Connect endpoint) is quiet e =
          ap is_near_held (known.dials endpoint (ap near.wants (t.beside.near ∙ unclosed (taken v) apart) ∙ taken_wants v ∙ is)).link
      dials apart Want.CloseData is quiet e = absurd (true≢false (sym quiet))
      dials apart Want.Accept is quiet e = never is
      dials apart Want.Nothing is quiet e = absurd (true≢false (sym e))
      dials apart Want.Listen is quiet e = absurd (true≢false (sym e))
      dials apart Want.Receive is quiet e = absurd (true≢false (sym e))
      dials apart Want.Send is quiet e = absurd (true≢false (sym e))
      dials apart Want.CloseAll is quiet e = absurd (true≢false (sym e))

      by : (closing : Bool) → v.closing ≡ closing → (leaves (near.wants v) ≡ true) ⊎ (is_operation_under_way v.job ≡ false) → is_near_held w.link ≡ false
      by true is may = t.keeping.shut is
      by false is may = elim may [
        | inl leaving ↦ dials is (near.wants v) refl (wants_rest v asks.sound asks.dials is) leaving
        | inr done ↦ idle done
      ]

      by_fate : (fate : Fate) → old.owner.channel.fate ≡ fate → MayLeave (is_operation_under_way v.job ≡ false) (near.wants v) fate → is_near_held w.link ≡ false
      by_fate Sound is may = by v.closing refl may
      by_fate Failed is may = by v.closing refl (inr may)
      by_fate Broken is may = t.keeping.over (ap is_sound is)
      by_fate Over is may = t.keeping.over (ap is_sound is)

  -- a read of it fails, and the client is not told of that yet
  pub client_fails : (moment : ℕ) (ahead : Ahead) (between : Between) (told : ℕ) → Together read orders moment ahead between told server old reports w
      → Calls {side = client_side} HasFailed old new → Goes read [] orders between told server new (reports ++ []) w
  client_fails moment ahead between told t did =
      let channel : new.owner.channel ≡ with_fate Failed old.owner.channel = did.0.1.0 in
      let sound : is_sound new.owner.channel.fate ≡ true = ap (λ (l : Channel). is_sound l.fate) channel in
      client_idle moment ahead between between told t (ap (λ c. c.view) did.0.0) (ap (λ (s : Stand client_side). s.unheard) did.1) refl
      (ap (λ (l : Channel). server.owner.channel.untold ++ (between.data_ways.to_server ++ l.unwritten)) (sym channel))
      (λ e. (
        open_takes old.owner.channel did.0.1.1,
        ap (λ (l : Channel). l.untold ++ (between.data_ways.to_client ++ server.owner.channel.unwritten)) (sym channel),
      )) refl
      (record { bare = λ e. ap (λ (l : Channel). l.untold) channel ∙ t.takes.bare (ap (λ (l : Channel). l.stands) (sym channel) ∙ e) })
      (record {
        spare = λ e. ap (λ (l : Channel). l.unwritten) channel ∙ t.gives.spare e;
        bare = λ e. ap (λ (l : Channel). l.unwritten) channel ∙ t.gives.bare (ap (λ (l : Channel). l.stands) (sym channel) ∙ e);
      })
      t.keeping.had (λ e. absurd (both sound e))

  -- a data connection is left by an end
  pub client_ends : (asks : ClientFetches old.owner) (never : near.wants v ≡ Want.Accept → is_near_held w.link ≡ false)
      (left written : Option (List ℕ)) (moment : ℕ) (ahead : Ahead) (between next : Between) (told : ℕ)
      → Together read orders moment ahead between told server old reports w → Calls {side = client_side} (Left (EndedBy left written)) old new
      → Can TheClient Ends between next → Goes read [] orders next told server new (reports ++ []) w
  client_ends asks never left written moment ahead between next told t did can =
      let channel = did.0.1 in
      let free : is_near_held w.link ≡ false = left_held asks never (EndedBy left written) moment ahead between told t did in
      let hold : next.near ≡ Has_ended = ap (λ (m : Between). m.near) can.1 in
      client_idle moment ahead between next told t (ap (λ c. c.view) did.0.0) (ap (λ (s : Stand client_side). s.unheard) did.1)
      (ap (λ (m : Between). m.control) can.1)
      (ap₂ (λ (m : Between) o. server.owner.channel.untold ++ (m.data_ways.to_server ++ o)) (sym can.1) (did.0.2.1.0 ∙ sym channel.unwritten))
      (λ e. absurd (both e (ap (λ s. s && is_sound new.owner.channel.fate) channel.stands)))
      (ap (λ (m : Between). m.far) can.1) (record { bare = λ e. channel.untold })
      (record { spare = λ e. channel.unwritten; bare = λ e. channel.unwritten }) (λ e. absurd (both e free)) (λ e. free)

  -- or by a reset, where none is unwritten
  pub client_resets : (asks : ClientFetches old.owner) (never : near.wants v ≡ Want.Accept → is_near_held w.link ≡ false)
      (left written : Option (List ℕ)) (moment : ℕ) (ahead : Ahead) (between next : Between) (told : ℕ)
      → Together read orders moment ahead between told server old reports w → Calls {side = client_side} (Left (Reset left written)) old new
      → old.owner.channel.unwritten ≡ [] → Can TheClient Resets between next → Goes read [] orders next told server new (reports ++ []) w
  client_resets asks never left written moment ahead between next told t did none can =
      let channel = did.0.1 in
      let free : is_near_held w.link ≡ false = left_held asks never (Reset left written) moment ahead between told t did in
      client_idle moment ahead between next told t (ap (λ c. c.view) did.0.0) (ap (λ (s : Stand client_side). s.unheard) did.1)
      (ap (λ (m : Between). m.control) can.1)
      (ap₂ (λ (m : Between) o. server.owner.channel.untold ++ (m.data_ways.to_server ++ o)) (sym can.1) (none ∙ sym channel.unwritten))
      (λ e. absurd (both e (ap (λ s. s && is_sound new.owner.channel.fate) channel.stands)))
      (ap (λ (m : Between). m.far) can.1) (record { bare = λ e. channel.untold })
      (record { spare = λ e. channel.unwritten; bare = λ e. channel.unwritten }) (λ e. absurd (both e free)) (λ e. free)
