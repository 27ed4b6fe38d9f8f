-- A line of the control connection is acted on alike whatever moment the server was told last, while no transfer is under way.
use Rattle.std.proofs.Common.{◌≡◌, inl, inr, ℕ, Bool, true, false, true≢false, List, [], ◌∷◌, Option, Some, None, refl, sym, ap, subst, ◌∙◌}
use Rattle.std.specs.Prelude.{if◌then◌else◌}
use Rattle.std.proofs.lemmas.Bool.{and_right}
use Rattle.ftp_command.specs.declared.command.Command.{Command}
use Rattle.ftp_command.specs.declared.command.Command.TheVariants as command
use Rattle.ftp_ends.specs.Ear.{ear_out, ear_step}
use Rattle.ftp_ends.proofs.EventLemmas.{out_one}
use Rattle.ftp_ends.specs.declared.link.Wants.{Wants}
use Rattle.ftp_ends.specs.declared.link.Wants.TheVariants as Want
use Rattle.ftp_nvt.specs.Lines.{NvtEvent, line, too_long, owed}
use Rattle.ftp_path.specs.Path.{Names}
use Rattle.ftp_server_model.specs.Act.{act, decided, forgets, is_allowed}
use Rattle.ftp_server_model.specs.Calls.{clock_step, is_done, wants, wants_of}
use Rattle.ftp_server_model.specs.Machine.{Reading, aborted, completed, given_out, heard_event, heard_events, heard_line, hears_octet, is_abor, is_abort, is_idle, is_transferring, later, obeyed, turned, waited}
use Rattle.ftp_server_model.specs.Replies.{Turn, tells}
use Rattle.ftp_server_model.specs.View.{Context, Session, Transfer, View, line_limit}
use Rattle.ftp_server_model.specs.declared.heard.HeardLine.{HeardLine}
use Rattle.ftp_server_model.specs.declared.heard.HeardLine.TheVariants.{TooLong, Bad, Asks}
use Rattle.ftp_server_model.specs.declared.reply.FixedReply.TheVariants as Texts
use Rattle.ftp_server_model.specs.declared.session.Pending.{Pending}
use Rattle.ftp_server_model.specs.declared.session.Pending.TheVariants as Pendings
use Rattle.ftp_server_model.specs.declared.session.ServerLink.{ServerLink}
use Rattle.ftp_server_model.specs.declared.session.ServerLink.TheVariants as Data
use Rattle.ftp_server_model.specs.declared.session.Transfer.TheVariants as Transfers
use Rattle.ftp_server_model.specs.declared.session.Way.TheVariants as Ways

-- no command looks at it
act_moment : (moment : ℕ) (f : Context) (asked : Command (List ℕ)) (pending : Pending Names) (s : Session)
    → act (record f { moment = moment }) asked pending s ≡ act f asked pending s
act_moment moment f (command.User name) pending s = refl
act_moment moment f asked pending s = refl

-- nor what is decided on a line
decided_moment : (moment : ℕ) (f : Context) (heard : HeardLine (List ℕ)) (pending : Pending Names) (s : Session)
    → decided (record f { moment = moment }) heard pending s ≡ decided f heard pending s
decided_moment moment f TooLong pending s = refl
decided_moment moment f (Bad fault) pending s = refl
decided_moment moment f (Asks asked) pending s =
    ap (λ (t : Turn). if is_allowed asked s then t else tells Texts.NotLoggedIn (forgets asked s)) (act_moment moment f asked pending s)

-- nor a transfer that is given out
pub out_moment : (connection : ServerLink Transfer) (moment : ℕ) (v : View) → given_out connection (clock_step moment v)
    ≡ clock_step moment (given_out connection v)
out_moment Data.Free moment v = refl
out_moment Data.Passive moment v = refl
out_moment (Data.Active endpoint) moment v = refl
out_moment Data.Ready moment v = refl
out_moment (Data.Asked asked) moment v = refl
out_moment (Data.Opening transfer way) moment v = refl
out_moment (Data.Transferring (Transfers.Upload path keep d)) moment v = refl
out_moment (Data.Transferring Transfers.OverLimit) moment v = refl
out_moment (Data.Transferring (Transfers.Download [])) moment v = refl
out_moment (Data.Transferring (Transfers.Download (octet ∷ rest))) moment v = refl
out_moment (Data.Transferring (Transfers.Listing [])) moment v = refl
out_moment (Data.Transferring (Transfers.Listing (octet ∷ rest))) moment v = refl

-- nor a line that is acted on
obeyed_moment : (heard : HeardLine (List ℕ)) (moment : ℕ) (v : View) → obeyed heard (clock_step moment v) ≡ clock_step moment (obeyed heard v)
unfolding obeyed
obeyed_moment heard moment v =
    let s : Session = record v.session { pending = Pendings.Nothing } in
    let u : View = turned (decided v.context heard v.session.pending s) v in
    ap (λ (t : Turn). completed (turned t (clock_step moment v))) (decided_moment moment v.context heard v.session.pending s)
    ∙ out_moment u.session.connection moment u

-- nor one that waits
waited_moment : (waiting : Option (HeardLine (List ℕ))) (moment : ℕ) (v : View) → waited waiting (clock_step moment v) ≡ clock_step moment (waited waiting v)
waited_moment None moment v = refl
waited_moment (Some heard) moment v = by_idle (is_idle v)
  where
    by_idle : (idle : Bool) → (if idle then obeyed heard (clock_step moment (record v { waiting = None })) else clock_step moment v)
        ≡ clock_step moment (if idle then obeyed heard (record v { waiting = None }) else v)
    by_idle true = obeyed_moment heard moment (record v { waiting = None })
    by_idle false = refl

-- nor one that is heard
line_moment : (heard : HeardLine (List ℕ)) (moment : ℕ) (v : View) → is_transferring v.session.connection ≡ false
    → heard_line heard (clock_step moment v) ≡ clock_step moment (heard_line heard v)
line_moment heard moment v none = by_abort (is_abort heard v) (and_right (is_abor heard) (is_transferring v.session.connection) none)
  where
    by_abort : (abort : Bool) → abort ≡ false
        → (if abort then aborted (clock_step moment v) else later (clock_step moment (record v { waiting = Some heard })))
        ≡ clock_step moment (if abort then aborted v else later (record v { waiting = Some heard }))
    by_abort true e = absurd (true≢false e)
    by_abort false e = waited_moment (Some heard) moment (record v { waiting = Some heard })

-- nor what an octet says
event_moment : (read : Reading) (event : NvtEvent) (moment : ℕ) (v : View) → is_transferring v.session.connection ≡ false
    → heard_event read event (clock_step moment v) ≡ clock_step moment (heard_event read event v)
event_moment read (line text) moment v none = line_moment (read text) moment v none
event_moment read too_long moment v none = line_moment TooLong moment v none
event_moment read (owed answer) moment v none = refl

-- nor an octet
pub octet_moment : (read : Reading) (octet moment : ℕ) (v : View) → is_transferring v.session.connection ≡ false
    → hears_octet read (clock_step moment v) octet ≡ clock_step moment (hears_octet read v octet)
unfolding hears_octet
octet_moment read octet moment v none =
    let w : View = record v { ear = ear_step line_limit v.ear octet } in
    let P : List NvtEvent → Type 0 = λ events. heard_events read events (clock_step moment w) ≡ clock_step moment (heard_events read events w) in
    elim (out_one line_limit v.ear octet) as (λ _. P (ear_out line_limit v.ear octet)) [
      | inl f ↦ subst P (sym f) refl
      | inr f ↦ subst P (sym f.1) (event_moment read f.0 moment w none)
    ]

-- ---- a server that wants nothing

-- nothing is wanted
is_nothing : Wants → Bool
is_nothing Want.Nothing = true
is_nothing wants = false

-- its data connection is still, and no close is wanted
pub record IsStill (v : View) : Type 0 where
  pub still : is_transferring v.session.connection ≡ false
  pub wants : wants_of v.session.connection ≡ Want.Nothing
  pub closing : v.session.closing ≡ false

-- a server that wants nothing is still
pub still_is : (v : View) → wants v ≡ Want.Nothing → IsStill v
unfolding is_nothing
still_is v e = by v.session.closing (is_done v.session.life v.owed) v.session.connection e
  where
    no : (w : Wants) → is_nothing w ≡ false → w ≡ Want.Nothing → ⊥
    no w none e = true≢false (sym (ap is_nothing e) ∙ none)

    by_connection : (connection : ServerLink Transfer) → wants_of connection ≡ Want.Nothing → is_transferring connection ≡ false
    by_connection (Data.Transferring (Transfers.Upload path keep d)) e = absurd (no Want.Receive refl e)
    by_connection (Data.Transferring Transfers.OverLimit) e = absurd (no Want.Receive refl e)
    by_connection (Data.Transferring (Transfers.Download rest)) e = absurd (no Want.Send refl e)
    by_connection (Data.Transferring (Transfers.Listing rest)) e = absurd (no Want.Send refl e)
    by_connection (Data.Opening transfer Ways.Accept) e = absurd (no Want.Accept refl e)
    by_connection (Data.Opening transfer (Ways.Connect endpoint)) e = absurd (no (Want.Connect endpoint) refl e)
    by_connection connection e = refl

    by : (closing done : Bool) (connection : ServerLink Transfer)
        → (if closing then Want.CloseData else (if done then Want.CloseAll else wants_of connection)) ≡ Want.Nothing
        → IsStill (record v { session = record v.session { connection = connection; closing = closing } })
    by true done connection e = absurd (no Want.CloseData refl e)
    by false true connection e = absurd (no Want.CloseAll refl e)
    by false false connection e = record { still = by_connection connection e; wants = e; closing = refl }
