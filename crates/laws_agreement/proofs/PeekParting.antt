-- The control connection ends while a Peek has sent ABOR: the operation is lost, and its link is closed.
use Rattle.std.proofs.Common.{◌≡◌, ◌≤◌, true, false, List, [], length, refl, ap, ◌∙◌}
use Rattle.ftp_operation.specs.Answer.{Lost as LostSaid}
use Rattle.ftp_direct.specs.Direct.{State}
use Rattle.ftp_client_model.specs.View.{Job, Told as Answered, failed_job, stands}
use Rattle.ftp_client_model.specs.declared.client.ClientLink.{ClientLink as NearConnection}
use Rattle.ftp_server_model.specs.Endpoint.{is_standing}
use Rattle.ftp_server_model.specs.View.{Transfer}
use Rattle.ftp_server_model.specs.declared.session.ServerLink.{ServerLink as FarConnection}
use Rattle.ftp_server_model.specs.declared.session.Pending.TheVariants as Pendings
use Rattle.ftp_server_model.specs.Machine.{Reading}
use Rattle.laws_world.specs.Agreement.{Order}
use Rattle.laws_world.specs.Events.{ends_control}
use Rattle.laws_world.specs.Serving.{after_event}
use Rattle.laws_world.specs.World.{World, Link}
use Rattle.laws_dialogues.specs.Fetches.{busy, linked}
use Rattle.laws_agreement.specs.Follows.{Follows}
use Rattle.laws_agreement.specs.PeekStages.{AtHalt, Gave, Gives, Halt, Halted, Halts, is_halt_passing}
use Rattle.laws_agreement.specs.Runs.{IsHaltingOn}
use Rattle.laws_agreement.specs.Stages.{Closed, Lost, Unclosed}
use Rattle.laws_agreement.proofs.FetchParting.{Clears, lost_follows, lost_link, parts_with}
use Rattle.laws_agreement.proofs.FetchReplies.{none_more}
use Rattle.laws_agreement.proofs.LostFates.{lost_nothing}
use Rattle.laws_agreement.proofs.PeekServed.{far_at, near_at}

module _ (from : State) (begun : List Order) (w : World) (on : IsHaltingOn from begun w) where
  abbrev a : AtHalt on.halting.now on.halting.ask on.halting.own w
  a = on.halting.stands

  abbrev Stood : Halt → Type 0
  Stood halt = Halts on.halting.now on.halting.ask on.halting.own halt a.said a.came a.queue a.base

  -- where client, server and link stand so, the loss is reported and the link is gone
  parts_as : (halt : Halt) → Stood halt → (job : Job) (connection : NearConnection) → a.base.near ≡ busy job connection a.base.near
      → failed_job LostSaid job ≡ Answered LostSaid
      → (far : FarConnection Transfer) → a.base.far.session ≡ linked far false Pendings.Nothing a.base.far.session → (link : Link) → a.base.link ≡ link
      → Clears link [] a.queue (stands connection) (is_standing far) → after_event (ends_control w) ≡ lost_link w
  parts_as halt h job connection near_is fails far far_is link link_is clear =
      parts_with w job connection (near_at on.halting.now on.halting.ask on.halting.own a.base w a.cuts a.is job connection near_is) fails far Pendings.Nothing
      (far_at on.halting.now on.halting.ask on.halting.own a.base w a.cuts a.is far false far_is) link [] a.queue
      (ap (λ u. u.link) a.is ∙ link_is) (ap (λ u. u.data_to_server) a.is ∙ h.to_server) (ap (λ u. u.data_to_client) a.is ∙ h.to_client) clear

  -- what is so of a Peek that parts
  pub record HaltParts : Type 0 where
    pub after : after_event (ends_control w) ≡ lost_link w
    pub table : w.far.session.table ≡ on.halting.now.table
    pub few : length on.halting.own ≤ 1

  -- where nothing is to be closed both ends part, with the table of the state and at most one mark
  pub halt_parts : HaltParts
  halt_parts = by_halt a.halt a.here on.lasts
    where
      table : (halt : Halt) → Stood halt → w.far.session.table ≡ on.halting.now.table
      table halt h = ap (λ u. u.far.session.table) a.is ∙ h.steady.table

      by_halt : (halt : Halt) → Stood halt → is_halt_passing halt ≡ false → HaltParts
      by_halt (Gives octet more) h lasts = record {
        after = parts_as (Gives octet more) h _ _ h.near refl _ h.session _ h.link tt;
        table = table _ h;
        few = none_more on.halting.own h.marked;
      }
      by_halt (Gave whole heard asked Unclosed) h lasts = absurd (cc)
      by_halt (Gave whole heard asked Closed) h lasts =
          record {
            after = parts_as (Gave whole heard asked Closed) h _ _ h.near refl _ h.session _ h.link tt;
            table = table _ h;
            few = none_more on.halting.own h.marked;
          }
      by_halt (Gave whole heard asked (Lost true)) h lasts =
          record { after = parts_as (Gave whole heard asked (Lost true)) h _ _ h.near refl _ h.session _ h.link (refl, h.empty); table = table _ h; few = h.marked }
      by_halt (Gave whole heard asked (Lost false)) h lasts =
          record { after = parts_as (Gave whole heard asked (Lost false)) h _ _ h.near refl _ h.session _ h.link (refl, h.empty); table = table _ h; few = h.marked }
      by_halt (Halted whole false) h lasts = absurd (cc)
      by_halt (Halted whole true) h lasts = record {
        after = parts_as (Halted whole true) h _ _ h.near refl _ h.session _ h.link tt;
        table = table _ h;
        few = none_more on.halting.own h.marked;
      }

  -- the control connection ends, and the world follows with the operation lost
  pub halting_parts : (read : Reading) → Follows read from begun (after_event (ends_control w))
  halting_parts read = lost_follows (λ now ask own w. AtHalt now ask own w) read from begun w on.halting on.halting.now
      (lost_nothing on.halting.now on.halting.ask on.halting.own on.halting.moment) halt_parts.after halt_parts.table halt_parts.few
