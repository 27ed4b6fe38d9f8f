-- Whatever a server hears whose accounts have one root logs nobody in elsewhere.
use Rattle.std.proofs.Common.{ℕ, List, [], ◌∷◌, Bool, true, false, Option, Some, None}
use Rattle.std.proofs.lemmas.Bool.{cond_both}
use Rattle.ftp_direct.specs.declared.refusal.Refusal.{Refusal}
use Rattle.ftp_ends.specs.Ear.{ear_out, ear_step}
use Rattle.ftp_nvt.specs.Lines.{NvtEvent, line, too_long, owed}
use Rattle.ftp_path.specs.Path.{Names}
use Rattle.ftp_wire.specs.Decoder.{broken}
use Rattle.ftp_server_model.specs.Act.{decided}
use Rattle.ftp_server_model.specs.Machine.{Reading, abort_said, aborted, aborts, at_break, end_refusal, ends_by, given_out, heard_event, heard_events, heard_line, hears, hears_octet, is_abort, is_idle, later, obeyed, turned, waited, breaks_off}
use Rattle.ftp_server_model.specs.View.{Session, Transfer, View, line_limit}
use Rattle.ftp_server_model.specs.declared.heard.HeardLine.{HeardLine}
use Rattle.ftp_server_model.specs.declared.heard.HeardLine.TheVariants.{TooLong}
use Rattle.ftp_server_model.specs.declared.reply.FixedReply.{FixedReply}
use Rattle.ftp_server_model.specs.declared.reply.FixedReply.TheVariants as Texts
use Rattle.ftp_server_model.specs.declared.session.Keep.{Keep}
use Rattle.ftp_server_model.specs.declared.session.Pending.TheVariants as Pendings
use Rattle.ftp_server_model.specs.declared.session.ServerLink.{ServerLink}
use Rattle.ftp_server_model.specs.declared.session.ServerLink.TheVariants as Data
use Rattle.ftp_server_model.specs.declared.session.Transfer.TheVariants as Transfers
use Rattle.laws_sessions.specs.served.Rooted.{AccountsAt, AccountsStayAt}
use Rattle.laws_sessions.proofs.served.HomeTurns.{Home, decided_home}
use Rattle.ftp_server_model.specs.Keep.{is_overtaken}

module _ (root : Names) where
  -- each account has this root, and so has who is logged in
  record AtHome (v : View) : Type 0 where
    accounts : AccountsAt root v.context.accounts
    session : Home root v.session

  given_out_home : (connection : ServerLink Transfer) (v : View) → AtHome v → AtHome (given_out connection v)
  given_out_home (Data.Transferring (Transfers.Download [])) v k = record { accounts = k.accounts; session = k.session }
  given_out_home (Data.Transferring (Transfers.Listing [])) v k = record { accounts = k.accounts; session = k.session }
  given_out_home (Data.Transferring (Transfers.Download (octet ∷ rest))) v k = k
  given_out_home (Data.Transferring (Transfers.Listing (octet ∷ rest))) v k = k
  given_out_home (Data.Transferring (Transfers.Upload path keep d)) v k = k
  given_out_home (Data.Transferring Transfers.OverLimit) v k = k
  given_out_home connection v k = k

  obeyed_home : (heard : HeardLine (List ℕ)) (v : View) → AtHome v → AtHome (obeyed heard v)
  unfolding obeyed
  obeyed_home heard v k =
      let s : Session = record v.session { pending = Pendings.Nothing } in
      let now : View = turned (decided v.context heard v.session.pending s) v in
      given_out_home now.session.connection now
      (record { accounts = k.accounts; session = decided_home root v.context heard v.session.pending s k.accounts k.session })

  waited_home : (waiting : Option (HeardLine (List ℕ))) (v : View) → AtHome v → AtHome (waited waiting v)
  waited_home None v k = k
  waited_home (Some heard) v k =
      let before : View = record v { waiting = None } in
      cond_both (is_idle v) (obeyed heard before) v AtHome
      (λ idle. obeyed_home heard before (record { accounts = k.accounts; session = k.session })) (λ busy. k)

  later_home : (v : View) → AtHome v → AtHome (later v)
  later_home v k = waited_home v.waiting v k

  -- ---- ABOR

  ends_home : (why : Option Refusal) (moment : ℕ) (path : Names) (keep : Keep) (octets : List ℕ) (text : FixedReply) (s : Session) → Home root s
      → Home root (ends_by why moment path keep octets text s).0
  ends_home (Some why) moment path keep octets text s k = k
  ends_home None moment path keep octets text s k = k

  break_home : (moment : ℕ) (transfer : Transfer) (s : Session) → Home root s → Home root (at_break moment transfer s).0
  break_home moment (Transfers.Upload path keep d) s k = by (is_overtaken keep)
    where
      by : (late : Bool) → Home root (breaks_off late moment path keep d s).0
      by true = k
      by false =
          let octets : List ℕ = (broken d).content in
          ends_home (end_refusal path keep octets s) moment path keep octets Texts.Broken s k
  break_home moment Transfers.OverLimit s k = k
  break_home moment (Transfers.Download rest) s k = k
  break_home moment (Transfers.Listing rest) s k = k

  aborts_home : (connection : ServerLink Transfer) (v : View) → AtHome v → AtHome (aborts connection v)
  aborts_home (Data.Transferring transfer) v k =
      record { accounts = k.accounts; session = break_home v.context.moment transfer _ k.session }
  aborts_home (Data.Opening transfer way) v k = record { accounts = k.accounts; session = k.session }
  aborts_home connection v k = k

  aborted_home : (v : View) → AtHome v → AtHome (aborted v)
  aborted_home v k =
      let one = aborts_home v.session.connection v k in
      later_home (abort_said (aborts v.session.connection v)) (record { accounts = one.accounts; session = one.session })

  -- ---- what is heard

  line_home : (heard : HeardLine (List ℕ)) (v : View) → AtHome v → AtHome (heard_line heard v)
  line_home heard v k =
      let waits : View = record v { waiting = Some heard } in
      cond_both (is_abort heard v) (aborted v) (later waits) AtHome (λ is. aborted_home v k)
      (λ is. later_home waits (record { accounts = k.accounts; session = k.session }))

  event_home : (read : Reading) (event : NvtEvent) (v : View) → AtHome v → AtHome (heard_event read event v)
  event_home read (line text) v k = line_home (read text) v k
  event_home read too_long v k = line_home TooLong v k
  event_home read (owed answer) v k = record { accounts = k.accounts; session = k.session }

  events_home : (read : Reading) (events : List NvtEvent) (v : View) → AtHome v → AtHome (heard_events read events v)
  events_home read [] v k = k
  events_home read (event ∷ events) v k = events_home read events (heard_event read event v) (event_home read event v k)

  octet_home : (read : Reading) (v : View) (octet : ℕ) → AtHome v → AtHome (hears_octet read v octet)
  unfolding hears_octet
  octet_home read v octet k =
      events_home read (ear_out line_limit v.ear octet) (record v { ear = ear_step line_limit v.ear octet })
      (record { accounts = k.accounts; session = k.session })

  hears_home : (read : Reading) (octets : List ℕ) (v : View) → AtHome v → AtHome (hears read v octets)
  hears_home read [] v k = k
  hears_home read (octet ∷ octets) v k = hears_home read octets (hears_octet read v octet) (octet_home read v octet k)

-- so it is of each action
pub accounts_stay_at : AccountsStayAt
accounts_stay_at root octets at accounts known read reads table moment =
    (hears_home root read octets _ (record { accounts = accounts; session = known })).session
