-- What a call leaves that was refused memory or whose device failed has the same map too, where nobody may change anything and the device doesn't
-- stray: a lemma for each definition of `Failing` of `ftp_server_model`.
use Rattle.std.proofs.Common.{ℕ, inl, inr, List, [], ◌∷◌, Bool, true, false, Option, Some, None, sym, subst}
use Rattle.std.proofs.lemmas.Bool.{cond_both}
use Rattle.ftp_command.specs.declared.command.Command.{Command}
use Rattle.ftp_command.specs.declared.fault.CommandFault.TheVariants as Faults
use Rattle.ftp_ends.specs.Ear.{ear_out, ear_step}
use Rattle.ftp_nvt.specs.Lines.{NvtEvent, line, too_long, owed}
use Rattle.ftp_tree.specs.Tree.{Table}
use Rattle.ftp_server_model.specs.Calls.{break_step, clock_step, close_step, connection_of, control_step, end_step, given_step, listening_step, no_port_step, opened_step, refused_step, takes_given}
use Rattle.ftp_server_model.specs.Failing.{AbortFails, ActingFails, AreHeard, AreReceived, EndFails, EventIsHeard, EventsAreHeard, GiveFails, InstallFails, KeepsCourse, Late, LineFails, LineIsHeard, as_ever, not_read, not_done, OctetIsHeard, OctetIsReceived, ReadingFails, UploadFails, WaitingFails, line_lost}
use Rattle.ftp_server_model.specs.Far.{Acts, Hears, Receives, Server, Steps}
use Rattle.ftp_server_model.specs.Machine.{Reading, faulted, is_abort}
use Rattle.ftp_server_model.specs.View.{Session, Transfer, View, line_limit}
use Rattle.ftp_server_model.specs.declared.heard.HeardLine.{HeardLine}
use Rattle.ftp_server_model.specs.declared.heard.HeardLine.TheVariants.{Asks, Bad, TooLong}
use Rattle.ftp_server_model.specs.declared.reply.FixedReply.TheVariants as Texts
use Rattle.ftp_server_model.specs.declared.session.Pending.TheVariants as Pendings
use Rattle.ftp_server_model.specs.declared.session.ServerLink.{ServerLink}
use Rattle.ftp_server_model.specs.declared.session.ServerLink.TheVariants as Data
use Rattle.ftp_server_model.specs.declared.session.Transfer.TheVariants as Transfers
use Rattle.ftp_server_model.proofs.CountLemmas.{same_counts}
use Rattle.ftp_server_model.proofs.LinesDecided.{reading_exists}
use Rattle.laws_server.specs.one.Lookers.{FarLeavesTheMap, HasNoUpload, OnlyLooks}
use Rattle.laws_server.proofs.one.LookLemmas.{all_heard, all_received, break_step_looks, clock_looks, close_looks, control_end_looks, control_looks, end_step_looks, event_looks, forgets_with, given_by_looks, given_looks, later_looks, line_looks, listening_looks, no_port_looks, opened_looks, receives_looks, refused_looks}
use Rattle.laws_server.proofs.one.LookTurns.{forgets_looks}

-- ---- where there is no upload, nothing of one fails

record NoneFails (connection : ServerLink Transfer) (v w : View) : Type 0 where
  pub abort : AbortFails connection v w → ⊥
  pub install : InstallFails connection v w → ⊥
  pub octet : (octet : ℕ) → UploadFails connection octet v w → ⊥

none_fails : (connection : ServerLink Transfer) (v w : View) → HasNoUpload connection → NoneFails connection v w
none_fails (Data.Transferring (Transfers.Upload path keep d)) v w none = absurd none
none_fails (Data.Transferring Transfers.OverLimit) v w none = record { abort = λ lost. lost; install = λ lost. lost; octet = λ octet lost. lost }
none_fails (Data.Transferring (Transfers.Download rest)) v w none = record { abort = λ lost. lost; install = λ lost. lost; octet = λ octet lost. lost }
none_fails (Data.Transferring (Transfers.Listing rest)) v w none = record { abort = λ lost. lost; install = λ lost. lost; octet = λ octet lost. lost }
none_fails (Data.Opening transfer way) v w none = record { abort = λ lost. lost; install = λ lost. lost; octet = λ octet lost. lost }
none_fails (Data.Asked asked) v w none = record { abort = λ lost. lost; install = λ lost. lost; octet = λ octet lost. lost }
none_fails (Data.Active endpoint) v w none = record { abort = λ lost. lost; install = λ lost. lost; octet = λ octet lost. lost }
none_fails Data.Free v w none = record { abort = λ lost. lost; install = λ lost. lost; octet = λ octet lost. lost }
none_fails Data.Passive v w none = record { abort = λ lost. lost; install = λ lost. lost; octet = λ octet lost. lost }
none_fails Data.Ready v w none = record { abort = λ lost. lost; install = λ lost. lost; octet = λ octet lost. lost }

-- so it is of what events find
found_none : (v w : View) → HasNoUpload v.session.connection → NoneFails (connection_of v.session) v w
found_none v w none =
    cond_both v.session.closing Data.Free v.session.connection (λ (c : ServerLink Transfer). NoneFails c v w) (λ is. none_fails Data.Free v w tt)
    (λ is. none_fails v.session.connection v w none)

module _ (table : Table) where
  -- ---- the line that waits

  lost_looks : (c : Command (List ℕ)) (v : View) → OnlyLooks table v → OnlyLooks table (line_lost c v)
  lost_looks c v k =
      let s : Session = record v.session { pending = Pendings.Nothing } in
      record {
        accounts = k.accounts;
        session = forgets_looks table c s (record { same = k.session.same; rights = k.session.rights; connection = k.session.connection });
      }

  line_fails : (heard : HeardLine (List ℕ)) (v w : View) → LineFails heard v w → OnlyLooks table v → OnlyLooks table w
  line_fails TooLong v w is k = absurd is
  line_fails (Bad fault) v w is k = absurd is
  line_fails (Asks c) v w is k = subst (OnlyLooks table) (sym is.2) (lost_looks c v k)

  waiting_fails : (waiting : Option (HeardLine (List ℕ))) (v w : View) → WaitingFails waiting v w → OnlyLooks table v → OnlyLooks table w
  waiting_fails None v w is k = absurd is
  waiting_fails (Some heard) v w is k = line_fails heard (record v { waiting = None }) w is.1 (record { accounts = k.accounts; session = k.session })

  -- the end of a call
  late_looks : (v w : View) → Late v w → OnlyLooks table v → OnlyLooks table w
  late_looks v w (inl is) k = subst (OnlyLooks table) (sym is) (later_looks table v k)
  late_looks v w (inr is) k = waiting_fails v.waiting v w is k

  -- ---- a download or a listing of which the next octets were not had

  give_fails : (count : ℕ) (v w : View) → GiveFails count v w → OnlyLooks table v → OnlyLooks table w
  give_fails count v w lost k =
      let x : View = takes_given (connection_of v.session) count v in
      late_looks (faulted x) w lost.1 (forgets_with table Texts.LocalFault x (given_by_looks table count v k))

  -- ---- control octets

  acting_fails : (is : Bool) (heard : HeardLine (List ℕ)) (v w : View) → ActingFails is heard v w → OnlyLooks table v → OnlyLooks table w
  acting_fails true heard v w lost k = absurd ((none_fails v.session.connection v w k.session.connection).abort lost)
  acting_fails false heard v w lost k = late_looks (record v { waiting = Some heard }) w lost (record { accounts = k.accounts; session = k.session })

  reading_fails : (heard : HeardLine (List ℕ)) (v w : View) → ReadingFails heard v w → OnlyLooks table v → OnlyLooks table w
  reading_fails (Asks c) v w lost k = subst (OnlyLooks table) (sym lost.1) (line_looks table (Bad Faults.Memory) v k)
  reading_fails TooLong v w lost k = absurd lost
  reading_fails (Bad fault) v w lost k = absurd lost

  line_heard : (heard : HeardLine (List ℕ)) (v w : View) → LineIsHeard heard v w → OnlyLooks table v → OnlyLooks table w
  line_heard heard v w (as_ever is) k = subst (OnlyLooks table) (sym is) (line_looks table heard v k)
  line_heard heard v w (not_read lost) k = reading_fails heard v w lost k
  line_heard heard v w (not_done lost) k = acting_fails (is_abort heard v) heard v w lost k

  event_heard : (read : Reading) (event : NvtEvent) (v w : View) → EventIsHeard read event v w → OnlyLooks table v → OnlyLooks table w
  event_heard read (line text) v w is k = line_heard (read text) v w is k
  event_heard read too_long v w is k = line_heard TooLong v w is k
  event_heard read (owed answer) v w is k = subst (OnlyLooks table) (sym is) (event_looks table read (owed answer) v k)

  events_heard : (read : Reading) (events : List NvtEvent) (v w : View) → EventsAreHeard read events v w → OnlyLooks table v → OnlyLooks table w
  events_heard read [] v w is k = subst (OnlyLooks table) (sym is) k
  events_heard read (event ∷ events) v w is k = events_heard read events is.0 w is.2 (event_heard read event v is.0 is.1 k)

  octet_heard : (read : Reading) (v w : View) (octet : ℕ) → OctetIsHeard read v octet w → OnlyLooks table v → OnlyLooks table w
  octet_heard read v w octet is k =
      let u : View = record v { ear = ear_step line_limit v.ear octet } in
      events_heard read (ear_out line_limit v.ear octet) u w is (record { accounts = k.accounts; session = k.session })

  are_heard : (read : Reading) (octets : List ℕ) (v w : View) → AreHeard read v octets w → OnlyLooks table v → OnlyLooks table w
  are_heard read [] v w is k = subst (OnlyLooks table) (sym is) k
  are_heard read (octet ∷ octets) v w is k = are_heard read octets is.1 w is.3 (octet_heard read v is.1 octet is.2 k)

  hear_looks : (octets : List ℕ) (old new : Server) → KeepsCourse old.counts new.counts → Hears octets old new → OnlyLooks table old.view → OnlyLooks table new.view
  hear_looks octets old new course hears k =
      let read : Reading = reading_exists.0 in
      let by = hears read reading_exists.1 in
      elim (same_counts new.counts old.counts) [
        | inl same ↦ subst (OnlyLooks table) (sym (by.done same)) (all_heard table read octets old.view k)
        | inr other ↦ are_heard read octets old.view new.view (by.failed course other) k
      ]

  -- ---- data octets

  octet_received : (v w : View) (octet : ℕ) → OctetIsReceived v octet w → OnlyLooks table v → OnlyLooks table w
  octet_received v w octet (inl is) k = subst (OnlyLooks table) (sym is) (receives_looks table v octet k)
  octet_received v w octet (inr lost) k = absurd ((found_none v w k.session.connection).octet octet lost)

  are_received : (octets : List ℕ) (v w : View) → AreReceived v octets w → OnlyLooks table v → OnlyLooks table w
  are_received [] v w is k = subst (OnlyLooks table) (sym is) k
  are_received (octet ∷ octets) v w is k = are_received octets is.1 w is.3 (octet_received v is.1 octet is.2 k)

  receive_looks : (octets : List ℕ) (old new : Server) → KeepsCourse old.counts new.counts → Receives octets old new → OnlyLooks table old.view → OnlyLooks table new.view
  receive_looks octets old new course by k =
      elim (same_counts new.counts old.counts) [
        | inl same ↦ subst (OnlyLooks table) (sym (by.done same)) (all_received table octets old.view k)
        | inr other ↦ are_received octets old.view new.view (by.failed course other) k
      ]

  -- ---- the other calls

  steps_look : (Fails : View → View → Type 0) (step : View → View) (old new : Server) → KeepsCourse old.counts new.counts → OnlyLooks table (step old.view)
      → (Fails old.view new.view → OnlyLooks table new.view) → Steps Fails step old new → OnlyLooks table new.view
  steps_look Fails step old new course k fails steps =
      elim (same_counts new.counts old.counts) [
        | inl same ↦ late_looks (step old.view) new.view (inl (steps.done same)) k
        | inr other ↦ elim (steps.failed course other) [ inl lost ↦ fails lost | inr late ↦ late_looks (step old.view) new.view late k ]
      ]

  acts_look : (step : View → View) (old new : Server) → KeepsCourse old.counts new.counts → OnlyLooks table (step old.view) → Acts step old new → OnlyLooks table new.view
  acts_look step old new course k acts = steps_look (λ v w. ⊥) step old new course k (λ lost. absurd lost) acts

pub far_leaves_the_map : FarLeavesTheMap
far_leaves_the_map table old new course k =
    let v : View = old.view in
    let none = found_none v new.view k.session.connection in
    record {
      clock = λ moment is. acts_look table (clock_step moment) old new course (clock_looks table moment v k) is;
      hear = λ octets is. hear_looks table octets old new course is k;
      control_out = λ count is. acts_look table (control_step count) old new course (control_looks table count v k) is;
      control_ended = λ is. subst (λ (server : Server). OnlyLooks table server.view) (sym is) (control_end_looks table v k);
      listens = λ port is. acts_look table (listening_step port) old new course (listening_looks table port v k) is;
      no_port = λ is. acts_look table no_port_step old new course (no_port_looks table v k) is;
      opened = λ host is. acts_look table (opened_step host) old new course (opened_looks table host v k) is;
      refused = λ is. acts_look table refused_step old new course (refused_looks table v k) is;
      received = λ octets is. receive_looks table octets old new course is k;
      ended = λ is. steps_look table EndFails end_step old new course (end_step_looks table v k) (λ lost. absurd (none.install lost)) is;
      broke = λ is. steps_look table EndFails break_step old new course (break_step_looks table v k) (λ lost. absurd (none.install lost)) is;
      gave = λ count is. steps_look table (GiveFails count) (given_step count) old new course (given_looks table count v k)
          (λ lost. give_fails table count v new.view lost k) is;
      closed = λ is. acts_look table close_step old new course (close_looks table v k) is;
    }
