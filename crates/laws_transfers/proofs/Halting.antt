-- What is so of a world whose Peek has sent ABOR, as of every world that a session comes to: what both ends want, how the link stands, and which octets are on
-- their way.
use Rattle.std.proofs.Common.{◌≡◌, inr, ℕ, Bool, true, false, true≢false, List, [], ◌∷◌, refl, sym, ap, ◌∙◌}
use Rattle.ftp_ends.specs.declared.link.Wants.{Wants}
use Rattle.ftp_ends.specs.declared.link.Wants.TheVariants as Want
use Rattle.ftp_direct.specs.Direct.{State}
use Rattle.ftp_client_model.specs.Calls as near
use Rattle.ftp_client_model.specs.Calls.{is_sound}
use Rattle.ftp_client_model.specs.View.{Job, View as Near}
use Rattle.ftp_client_model.specs.declared.client.ClientLink.{ClientLink as NearConnection}
use Rattle.ftp_server_model.specs.Calls.{is_upload}
use Rattle.ftp_server_model.specs.Machine.{is_transferring}
use Rattle.ftp_server_model.specs.View.{Session, Transfer}
use Rattle.ftp_server_model.specs.declared.session.ServerLink.{ServerLink}
use Rattle.ftp_server_model.specs.declared.session.ServerLink.TheVariants as FarData
use Rattle.laws_world.specs.Events.{is_closed_by_near}
use Rattle.laws_world.specs.World.{ClosedByFar, Link, Mark, Opened, World}
use Rattle.laws_dialogues.specs.Fetches.{Ask, busy, giving_of}
use Rattle.laws_agreement.specs.PeekStages.{AtHalt, Gave, Gives, Halt, Halted, Halts, is_halt_passing}
use Rattle.laws_agreement.specs.Stages.{Closed, Lost, Unclosed}
use Rattle.laws_agreement.proofs.PeekRuns.{halt_busy, halt_gives_none}
use Rattle.laws_agreement.proofs.PeekServed.{near_at}
use Rattle.laws_drivers.specs.world.Ahead.{accepts, is_open}
use Rattle.laws_drivers.specs.world.Unaborted.{is_unaborted}
use Rattle.laws_drivers.proofs.world.Known.{is_receive}
use Rattle.laws_drivers.proofs.world.Running.{halt_aborted}
use Rattle.laws_drivers.proofs.world.Served.{Runs}
use Rattle.laws_transfers.proofs.Known.{Giving, Known, gives_none, is_giving, is_near_held, is_ready}

-- who gives octets accepts nobody, and is giving
gives_on : (listed : Bool) (octets : List ℕ) → (is_giving (FarData.Transferring (giving_of listed octets)) ≡ true)
gives_on true octets = refl
gives_on false octets = refl

module _ (state : State) (ask : Ask) (own : List Mark) (w : World) (a : AtHalt state ask own w) where
  abbrev Stood : Halt → Type 0
  Stood halt = Halts state ask own halt a.said a.came a.queue a.base

  -- ---- however far it is

  -- the server runs, and no line waits there
  pub halt_runs : Runs w.far
  halt_runs = record {
    running = ap (λ (u : World). u.far.session.life) a.is ∙ ap (λ (s : Session). s.life) a.here.session;
    none_waits = ap (λ (u : World). u.far.waiting) a.is;
  }

  -- the client has not failed, and is to close nothing
  pub halt_sound : is_sound w.near.standing ≡ true
  halt_sound = ap (λ (u : World). is_sound u.near.standing) a.is ∙ ap (λ (n : Near). is_sound n.standing) a.here.near

  pub halt_unclosing : w.near.closing ≡ false
  halt_unclosing = ap (λ (u : World). u.near.closing) a.is ∙ ap (λ (n : Near). n.closing) a.here.near

  -- it has not closed the link
  pub halt_unclosed : is_closed_by_near w.link ≡ false
  halt_unclosed = (halt_gives_none state ask own w a).closed

  -- the server takes no octets, has none ready and accepts nobody
  pub record HaltFar : Type 0 where
    pub untaken : is_upload w.far.session.connection ≡ false
    pub unready : is_ready w.far.session.connection ≡ false
    pub unaccepting : accepts w.far.session.connection ≡ false

  pub halt_stands : HaltFar
  halt_stands = by_halt a.halt a.here
    where
      link_is : (link : ServerLink Transfer) → a.base.far.session.connection ≡ link → w.far.session.connection ≡ link
      link_is link is = ap (λ (u : World). u.far.session.connection) a.is ∙ is

      of : (link : ServerLink Transfer) → a.base.far.session.connection ≡ link → is_upload link ≡ false → is_ready link ≡ false → accepts link ≡ false
          → HaltFar
      of link is untaken unready unaccepting =
          let now = link_is link is in
          record { untaken = ap is_upload now ∙ untaken; unready = ap is_ready now ∙ unready; unaccepting = ap accepts now ∙ unaccepting }

      by_halt : (halt : Halt) → Stood halt → HaltFar
      by_halt (Gives octet more) h =
          of (FarData.Transferring (giving_of ask.listed (octet ∷ more))) (ap (λ (s : Session). s.connection) h.session) (gives_none ask.listed (octet ∷ more))
          refl refl
      by_halt (Gave whole heard asked gap) h = of FarData.Free (ap (λ (s : Session). s.connection) h.session) refl refl refl
      by_halt (Halted whole left) h = of FarData.Free (ap (λ (s : Session). s.connection) h.session) refl refl refl

  -- ---- between two events

  pub halt_known : is_halt_passing a.halt ≡ false → Known w
  unfolding near.wants
  halt_known lasts = by_halt a.halt a.here lasts
    where
      aborted : is_unaborted w.near.job ≡ false
      aborted = halt_aborted state ask own w a

      busy_now : near.is_busy w.near ≡ false → ⊥
      busy_now free = true≢false (sym (halt_busy state ask own w a) ∙ free)

      link_at : w.link ≡ a.base.link
      link_at = ap (λ (u : World). u.link) a.is

      rising : w.data_to_server ≡ []
      rising = ap (λ (u : World). u.data_to_server) a.is ∙ a.here.to_server

      connection_at : w.far.session.connection ≡ a.base.far.session.connection
      connection_at = ap (λ (u : World). u.far.session.connection) a.is

      wants_so : (job : Job) (connection : NearConnection) → a.base.near ≡ busy job connection a.base.near → (wants : Wants)
          → near.wants (busy job connection w.near) ≡ wants → near.wants w.near ≡ wants
      wants_so job connection is wants so = ap near.wants (near_at state ask own a.base w a.cuts a.is job connection is) ∙ so

      -- octets are taken
      taking : near.wants w.near ≡ Want.Receive → (link : ServerLink Transfer) → a.base.far.session.connection ≡ link
          → (is_transferring link ≡ true → is_giving link ≡ true) → (is_giving link ≡ true → Giving w) → (tie : Link) → a.base.link ≡ tie
          → is_near_held tie ≡ true → (is_open link ≡ false → tie ≡ ClosedByFar) → Known w
      taking wants link is gives giving tie tied held shut =
          let now : w.far.session.connection ≡ link = connection_at ∙ is in
          record {
            dials = λ endpoint e. absurd (true≢false (ap is_receive (sym wants ∙ e)));
            says = λ unaborted. absurd (true≢false (sym unaborted ∙ aborted));
            lines = λ e. inr (aborted, ap is_giving now ∙ gives (sym (ap is_transferring now) ∙ e));
            idle = λ free. absurd (busy_now free);
            still = λ e. rising;
            closed = λ e. absurd (true≢false (sym e ∙ halt_unclosed));
            takes = λ e h. absurd (true≢false (sym e ∙ halt_stands.untaken));
            left = λ e. halt_stands.untaken;
            sends = λ e. absurd (true≢false (ap is_receive (sym wants ∙ e)));
            carries = λ e. giving (sym (ap is_giving now) ∙ e);
            down = λ e h. link_at ∙ tied ∙ shut (sym (ap is_open now) ∙ h);
            falls = λ e. absurd (true≢false (sym (ap is_receive wants) ∙ e));
            ended = λ e. absurd (true≢false (sym held ∙ ap is_near_held (sym (link_at ∙ tied)) ∙ e));
          }

      -- the link is over
      over : near.wants w.near ≡ Want.Nothing → a.base.far.session.connection ≡ FarData.Free → a.queue ≡ [] → Known w
      over wants is none =
          let now : w.far.session.connection ≡ FarData.Free = connection_at ∙ is in
          let falling : w.data_to_client ≡ [] = ap (λ (u : World). u.data_to_client) a.is ∙ a.here.to_client ∙ none in
          record {
            dials = λ endpoint e. absurd (true≢false (ap is_nothing (sym wants ∙ e)));
            says = λ unaborted. absurd (true≢false (sym unaborted ∙ aborted));
            lines = λ e. absurd (true≢false (sym e ∙ ap is_transferring now));
            idle = λ free. absurd (busy_now free);
            still = λ e. rising;
            closed = λ e. absurd (true≢false (sym e ∙ halt_unclosed));
            takes = λ e h. absurd (true≢false (sym e ∙ halt_stands.untaken));
            left = λ e. halt_stands.untaken;
            sends = λ e. absurd (true≢false (ap is_nothing (sym wants ∙ e)));
            carries = λ e. absurd (true≢false (sym e ∙ ap is_giving now));
            down = λ e h. absurd (true≢false (ap is_nothing (sym wants ∙ e)));
            falls = λ e. falling;
            ended = λ e. falling;
          }
        where
          is_nothing : Wants → Bool
          is_nothing Want.Nothing = true
          is_nothing wants = false

      by_halt : (halt : Halt) → Stood halt → is_halt_passing halt ≡ false → Known w
      by_halt (Gives octet more) h lasts =
          let is = ap (λ (s : Session). s.connection) h.session in
          taking (wants_so _ _ h.near Want.Receive refl) (FarData.Transferring (giving_of ask.listed (octet ∷ more))) is
          (λ e. gives_on ask.listed (octet ∷ more))
          (λ e. record { listed = ask.listed; octet = octet; more = more; far = connection_at ∙ is }) Opened h.link refl (λ e. absurd (true≢false e))
      by_halt (Gave whole heard asked Unclosed) h lasts = absurd (true≢false lasts)
      by_halt (Gave whole heard asked Closed) h lasts =
          taking (wants_so _ _ h.near Want.Receive refl) FarData.Free (ap (λ (s : Session). s.connection) h.session) (λ e. absurd (true≢false (sym e)))
          (λ e. absurd (true≢false (sym e))) ClosedByFar h.link refl (λ e. refl)
      by_halt (Gave whole heard asked (Lost true)) h lasts =
          over (wants_so _ _ h.near Want.Nothing refl) (ap (λ (s : Session). s.connection) h.session) h.empty
      by_halt (Gave whole heard asked (Lost false)) h lasts =
          over (wants_so _ _ h.near Want.Nothing refl) (ap (λ (s : Session). s.connection) h.session) h.empty
      by_halt (Halted whole true) h lasts =
          taking (wants_so _ _ h.near Want.Receive refl) FarData.Free (ap (λ (s : Session). s.connection) h.session) (λ e. absurd (true≢false (sym e)))
          (λ e. absurd (true≢false (sym e))) ClosedByFar h.link refl (λ e. refl)
      by_halt (Halted whole false) h lasts = absurd (true≢false lasts)
