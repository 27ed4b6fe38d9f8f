-- A server of which it is known what it holds, what stands of its data connection and what was read and not heard: what was counted, what its clock told, and
-- what else was read and written of it is of no matter to a world beside it. What it does then: it says octets that it owes, or is told of a break.
use Rattle.std.proofs.Common.{◌≡◌, ℕ, false, List, ◌∷◌, [], ◌++◌, length, take, drop, None, refl, sym, ap, subst, ◌∙◌, append-nil, arith}
use Rattle.ftp_ports.specs.Actions.{Calls, Action, Says as SaysNext, Stand}
use Rattle.ftp_ports.specs.Channel.{Channel, with_fate}
use Rattle.ftp_ports.specs.Machine.{Break, IsBroken}
use Rattle.ftp_ports.specs.declared.whole.Fate.TheVariants as Fates
use Rattle.ftp_client_driver.specs.Side.{client_side}
use Rattle.ftp_ends.specs.Reply.{reply_octets}
use Rattle.ftp_ends.specs.declared.link.Wants.{Wants}
use Rattle.ftp_ends.specs.declared.link.Wants.TheVariants as Want
use Rattle.ftp_operation.specs.Answer.{Said}
use Rattle.ftp_server_driver.specs.alone.Side.{server_side}
use Rattle.ftp_server_model.specs.Calls as far
use Rattle.ftp_server_model.specs.Calls.{break_step, clock_step, control_step}
use Rattle.ftp_server_model.specs.Failing.{Counts}
use Rattle.ftp_server_model.specs.Machine.{IsReading, Reading}
use Rattle.ftp_server_model.specs.Replies.{fixed_reply}
use Rattle.ftp_server_model.specs.View.{View as Far}
use Rattle.laws_world.specs.Agreement.{Order}
use Rattle.laws_world.specs.Claims.{Beginning, IsFair}
use Rattle.laws_drivers.proofs.world.Moves.{drop_front, take_front}
use Rattle.laws_drivers.specs.world.Ahead.{is_open}
use Rattle.laws_drivers.specs.control.Alone.{reports_of, reports_in}
use Rattle.laws_drivers.specs.events.Moments.{AreMoments, begun_at, begun_by, number_in}
use Rattle.laws_drivers.specs.control.Between.{Between}
use Rattle.laws_drivers.proofs.events.FarForms.{none_later}
use Rattle.laws_drivers.proofs.events.Holding.{both}
use Rattle.laws_transfers.specs.Ahead.{Fits, far_ahead}
use Rattle.laws_transfers.proofs.Ahead.{Holds}
use Rattle.laws_transfers.proofs.Beside.{is_taking}
use Rattle.laws_transfers.proofs.Simulating.{Reached}
use Rattle.laws_breaks.proofs.downloads.Steps.{Again, At}
use Rattle.laws_breaks.proofs.uploads.Concluded.{Concludes}

-- none counted
pub no_counts : Counts
no_counts = record { refusals = 0; failures = record { told = 0; strays = 0 } }

-- one that stands so
abbrev pub standing : Far → Channel → List ℕ → Stand server_side
standing view channel unheard = record {
  owner = record { end = record { server = record { view = view; counts = no_counts }; told = None }; channel = channel };
  left = record { octets = None; ended = false };
  unheard = unheard;
  written = None;
}

-- it says the first octets of what it owes
pub says_first : (said left : List ℕ) (view : Far) (channel : Channel) (unheard : List ℕ) → view.owed ≡ said ++ left → view.waiting ≡ None
    → SaysNext said (standing view channel unheard) (standing (record view { owed = left }) channel unheard)
says_first said left view channel unheard owed none_waits =
    let some : ℕ = length said in
    let then_view : control_step some view ≡ record view { owed = left } =
    ap (λ o. record view { owed = drop some o }) owed ∙ ap (λ o. record view { owed = o }) (drop_front said left) in
    record {
      gives = record {
        count = some;
        owed = sym (ap (take some) owed ∙ take_front said left);
        gave = (
          record {
            done = λ same. sym (none_later (control_step some view) none_waits ∙ then_view);
            failed = λ keeps differ. absurd (differ refl);
            counted = ((0, omega arith, refl), ((0, omega arith, refl), omega arith));
          },
          refl,
        );
        channel = refl;
      };
      wrote = tt;
      left = refl;
      unheard = refl;
    }

-- it is told of a break at this moment
pub told_break : (view : Far) (channel : Channel) (unheard : List ℕ) (moment : ℕ) (ends : Concludes (clock_step moment view)) → view.waiting ≡ None
    → far.wants view ≡ Want.Receive → IsBroken Want.Receive channel.stands channel.fate
    → (did : Calls {side = server_side} Break (standing view channel unheard)
    (standing (record (clock_step moment view) { session = ends.session; owed = view.owed ++ reply_octets (fixed_reply ends.text) })
    (with_fate Fates.Broken channel) unheard))
    × (did.0.0.0 ≡ moment)
told_break view channel unheard moment ends none_waits takes due =
    let f : Far = clock_step moment view in (
      (
        (
          (
            moment,
            record { view = f; counts = no_counts },
            tt,
            record {
              done = λ same. sym (none_later f none_waits);
              failed = λ keeps differ. absurd (differ refl);
              counted = ((0, omega arith, refl), ((0, omega arith, refl), omega arith));
            },
            record {
              done = λ same. sym (none_later (break_step f) (ap (λ (v : Far). v.waiting) (ends.is view.owed) ∙ none_waits) ∙ ends.is view.owed);
              failed = λ keeps differ. absurd (differ refl);
              counted = ((0, omega arith, refl), ((0, omega arith, refl), omega arith));
            },
          ),
          refl,
          subst (λ (w : Wants). IsBroken w channel.stands channel.fate) (sym takes) due,
        ),
        refl,
      ),
      refl,
    )

module _ (read : Reading) (reads : IsReading read) (moments : ℕ → ℕ) (timed : AreMoments moments) (b : Beginning) (fair : IsFair b) where
  -- what stands of a data connection of which nothing comes or goes is of no matter
  pub restood : (actions : List (Action client_side)) (between : Between) (count : ℕ) (old new : Stand server_side) (client : Stand client_side)
      (o : At read reads moments timed b fair actions between count old client) → new.owner.end.server.view ≡ old.owner.end.server.view
      → new.unheard ≡ old.unheard → old.owner.channel.untold ≡ [] → new.owner.channel.untold ≡ [] → new.owner.channel.unwritten ≡ []
      → is_open new.owner.end.server.view.session.connection ≡ false → is_taking client.owner.channel ≡ false
      → Again read reads moments timed b fair actions between count new client o.world.marks
  restood actions between count old new client o view unheard old_untold untold unwritten shut dead =
      let t = o.together in
      let s = t.beside in (
        record {
          world = o.world;
          leads = o.leads;
          last = o.last;
          ahead = o.ahead;
          together = record {
            beside = record {
              fits = subst (λ (v : Far). Fits o.ahead v.session.connection) (sym view) s.fits;
              near = s.near;
              far = s.far ∙ ap (λ (v : Far). clock_step o.last (far_ahead o.ahead v)) (sym view);
              to_server = s.to_server ∙ ap (λ q. q ++ between.control.to_server) (sym unheard);
              to_client = s.to_client;
              rising = s.rising ∙ ap (λ q. q ++ (between.data_ways.to_server ++ client.owner.channel.unwritten)) (old_untold ∙ sym untold);
              falling = λ e. absurd (both e dead);
              listens = s.listens;
              reported = s.reported;
              control = s.control;
              unready = s.unready;
              cutoff = s.cutoff;
            };
            holds = subst (λ (v : Far). Holds o.ahead between.far v.session) (sym view) t.holds;
            comes = record { bare = λ e. untold; spare = λ e. untold; over = λ e. untold; shut = λ e. shut };
            serves = record { spare = λ e. unwritten; bare = λ e. unwritten };
            takes = t.takes;
            gives = t.gives;
            keeping = t.keeping;
            twin = t.twin;
          };
          serves = record {
            running = ap (λ (v : Far). v.session.life) view ∙ o.serves.running;
            none_waits = ap (λ (v : Far). v.waiting) view ∙ o.serves.none_waits;
          };
          plain = o.plain;
          sound = o.sound;
          fresh = o.fresh;
        },
        refl,
      )

  -- an action that begins and reports nothing is of no matter either
  pub undone : (action : Action client_side) (actions : List (Action client_side)) {between : Between} {count : ℕ} {server : Stand server_side}
      {client : Stand client_side} (o : At read reads moments timed b fair (action ∷ actions) between count server client)
      → begun_by (moments (number_in actions)) action ≡ [] → reports_of action ≡ []
      → Again read reads moments timed b fair actions between count server client o.world.marks
  undone action actions {between} {count} {server} {client} o begins reports =
      let begun : begun_at moments (action ∷ actions) ≡ begun_at moments actions =
      ap (λ l. begun_at moments actions ++ l) begins ∙ append-nil (begun_at moments actions) in
      let said : reports_in (action ∷ actions) ≡ reports_in actions = ap (λ l. reports_in actions ++ l) reports ∙ append-nil (reports_in actions) in
      subst (λ (r : List Said). (n : Reached read reads moments timed b fair (begun_at moments actions) between count server client r)
      × (n.world.marks ≡ o.world.marks)) said
      (subst (λ (g : List Order). (n : Reached read reads moments timed b fair g between count server client (reports_in (action ∷ actions)))
      × (n.world.marks ≡ o.world.marks)) begun (o, refl))
