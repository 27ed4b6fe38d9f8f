-- What is left to be done behind an octet is done by what is served, and then the server is free again.
use Rattle.std.proofs.Common.{◌≡◌, ℕ, inl, inr, Bool, true, false, not, ◌&&◌, List, [], ◌∷◌, length, drop, Option, Some, None, refl, sym, ap, subst, ◌∙◌}
use Rattle.std.specs.Prelude.{if◌then◌else◌, nat_le}
use Rattle.ftp_nvt.specs.Lines.{NvtEvent, line, too_long, owed}
use Rattle.ftp_ends.specs.Ear.{ear_out, ear_step}
use Rattle.ftp_ends.specs.declared.link.Wants.{Wants}
use Rattle.ftp_ends.specs.declared.link.Wants.TheVariants as Want
use Rattle.ftp_server_model.specs.Act.{decided}
use Rattle.ftp_server_model.specs.Calls.{close_step, connection_of, control_step, data_closed, data_refused, gives_control, listening, listening_step, listening_turn, refused_step, refuses, wants}
use Rattle.ftp_server_model.specs.Machine.{Reading, aborted, completed, given_out, has_room, heard_event, heard_events, heard_line, hears_octet, is_abor, is_abort, is_connection_busy, is_idle, is_running, is_transferring, later, may_hear, obeyed, turned, waited}
use Rattle.ftp_server_model.specs.Replies.{Turn}
use Rattle.ftp_server_model.specs.View.{Transfer, View, line_limit}
use Rattle.ftp_server_model.specs.declared.heard.HeardLine.{HeardLine}
use Rattle.ftp_server_model.specs.declared.heard.HeardLine.TheVariants.{TooLong}
use Rattle.ftp_server_model.specs.declared.session.PassiveVerb.TheVariants as Asking
use Rattle.ftp_server_model.specs.declared.session.ServerLink.{ServerLink}
use Rattle.ftp_server_model.specs.declared.session.ServerLink.TheVariants as Data
use Rattle.ftp_server_model.specs.declared.session.Life.{Life}
use Rattle.ftp_server_model.specs.declared.session.Life.TheVariants as Lives
use Rattle.ftp_server_model.specs.declared.session.Pending.TheVariants as Pendings
use Rattle.ftp_server_model.specs.declared.session.Way.TheVariants as Ways
use Rattle.ftp_server.specs.Busy.{is_opening}
use Rattle.tool_dialogue.specs.Dialogue.{does, runs, said, served_twice, serves}
use Rattle.tool_dialogue.specs.Free.{IsReadyForLine, is_at_rest, is_unopened}
use Rattle.ftp_ends.proofs.EventLemmas.{SaysOne, out_one}
use Rattle.tool_dialogue.proofs.UnopenedLemmas.{Leads, Rests, Servable, calm, leads_decided}

-- ---- the line that waits

-- where no line waits nothing comes later
pub none_later : (v : View) → v.waiting ≡ None → later v ≡ v
none_later v none = ap (λ w. waited w v) none

-- ---- what is wanted

-- no line waits, and the server runs as it did
pub record Stays (old new : View) : Type 0 where
  pub waiting : new.waiting ≡ None
  pub life : new.session.life ≡ old.session.life

stays_later : (old v : View) → Stays old v → Stays old (later v)
stays_later old v is = subst (λ w. Stays old w) (sym (none_later v is.waiting)) is

pub refuses_stays : (c : ServerLink Transfer) (v : View) → v.waiting ≡ None → Stays v (refuses c v)
refuses_stays Data.Free v none = record { waiting = none; life = refl }
refuses_stays (Data.Asked asked) v none = record { waiting = none; life = refl }
refuses_stays (Data.Active endpoint) v none = record { waiting = none; life = refl }
refuses_stays Data.Passive v none = record { waiting = none; life = refl }
refuses_stays Data.Ready v none = record { waiting = none; life = refl }
refuses_stays (Data.Opening transfer way) v none = record { waiting = none; life = refl }
refuses_stays (Data.Transferring transfer) v none = record { waiting = none; life = refl }

pub listens_stays : (c : ServerLink Transfer) (port : ℕ) (v : View) → v.waiting ≡ None → Stays v (turned (listening_turn c v.context port v.session) v)
listens_stays (Data.Asked Asking.Pasv) port v none = record { waiting = none; life = refl }
listens_stays (Data.Asked Asking.Epsv) port v none = record { waiting = none; life = refl }
listens_stays Data.Free port v none = record { waiting = none; life = refl }
listens_stays (Data.Active endpoint) port v none = record { waiting = none; life = refl }
listens_stays Data.Passive port v none = record { waiting = none; life = refl }
listens_stays Data.Ready port v none = record { waiting = none; life = refl }
listens_stays (Data.Opening transfer way) port v none = record { waiting = none; life = refl }
listens_stays (Data.Transferring transfer) port v none = record { waiting = none; life = refl }

if_stays : (b : Bool) (v w : View) → v.waiting ≡ None → Stays v w → Stays v (if b then w else v)
if_stays true v w none is = is
if_stays false v w none is = record { waiting = none; life = refl }

refused_stays : (v : View) → v.waiting ≡ None → Stays v (data_refused v)
unfolding data_refused
refused_stays v none = stays_later v (refused_step v) (refuses_stays (connection_of v.session) v none)

does_stays : (want : Wants) (v : View) → v.waiting ≡ None → Stays v (does want v)
unfolding listening data_closed
does_stays Want.Listen v none = stays_later v (listening_step 1930 v) (listens_stays (connection_of v.session) 1930 v none)
does_stays Want.Accept v none = if_stays (is_opening v.session.connection) v (data_refused v) none (refused_stays v none)
does_stays (Want.Connect endpoint) v none = refused_stays v none
does_stays Want.CloseData v none = stays_later v (close_step v) (record { waiting = none; life = refl })
does_stays Want.Nothing v none = record { waiting = none; life = refl }
does_stays Want.Receive v none = record { waiting = none; life = refl }
does_stays Want.Send v none = record { waiting = none; life = refl }
does_stays Want.CloseAll v none = record { waiting = none; life = refl }

pub serves_stays : (v : View) → v.waiting ≡ None → Stays v (serves v)
unfolding serves
serves_stays v none = does_stays (wants v) v none

pub served_stays : (v : View) → v.waiting ≡ None → Stays v (served_twice v)
served_stays v none =
    let one = serves_stays v none in
    let two = serves_stays (serves v) one.waiting in
    record { waiting = two.waiting; life = two.life ∙ one.life }

-- ---- behind what is wanted nothing is left to be done, while the server runs

-- a view with such a connection, of which so much is to be closed
abbrev with_link : ServerLink Transfer → Bool → View → View
with_link c closing v = record v { session = record v.session { connection = c; closing = closing; life = Lives.Running }; waiting = None }

link_rests : (c : ServerLink Transfer) (closing : Bool) (v : View) → Servable c closing → is_at_rest (served_twice (with_link c closing v)).session ≡ true
unfolding serves listening data_closed data_refused
link_rests Data.Free true v is = refl
link_rests Data.Free false v is = refl
link_rests (Data.Active endpoint) true v is = refl
link_rests (Data.Active endpoint) false v is = refl
link_rests Data.Passive true v is = refl
link_rests Data.Passive false v is = refl
link_rests (Data.Asked Asking.Pasv) true v is = refl
link_rests (Data.Asked Asking.Pasv) false v is = refl
link_rests (Data.Asked Asking.Epsv) true v is = refl
link_rests (Data.Asked Asking.Epsv) false v is = refl
link_rests (Data.Opening transfer Ways.Accept) false v is = refl
link_rests (Data.Opening transfer (Ways.Connect endpoint)) false v is = refl
link_rests (Data.Opening transfer way) true v is = absurd (let e : true ≡ false = is in cc)
link_rests Data.Ready closing v is = absurd is
link_rests (Data.Transferring transfer) closing v is = absurd is

running : (life : Life) → is_running life ≡ true → life ≡ Lives.Running
running Lives.Running is = refl
running Lives.Quit is = absurd (let e : false ≡ true = is in cc)
running Lives.Cut is = absurd (let e : false ≡ true = is in cc)

link_is : (v : View) → v.waiting ≡ None → runs v ≡ true → with_link v.session.connection v.session.closing v ≡ v
link_is v none is = by v.waiting v.session.life none (running v.session.life is)
  where
    by : (waiting : Option (HeardLine (List ℕ))) (life : Life) → waiting ≡ None → life ≡ Lives.Running
        → with_link v.session.connection v.session.closing v ≡ record v { session = record v.session { life = life }; waiting = waiting }
    by waiting life none is = rw none (rw is refl)

served_rests : (v : View) → v.waiting ≡ None → Servable v.session.connection v.session.closing → runs v ≡ true → is_at_rest (served_twice v).session ≡ true
served_rests v none can is =
    subst (λ w. is_at_rest (served_twice w).session ≡ true) (link_is v none is) (link_rests v.session.connection v.session.closing v can)

-- ---- an octet

-- no line waits, and what is left to be done can be served
pub record Reached (v : View) : Type 0 where
  pub waiting : v.waiting ≡ None
  pub can : Servable v.session.connection v.session.closing

given_same : (c : ServerLink Transfer) (closing : Bool) (v : View) → Servable c closing → given_out c v ≡ v
given_same Data.Free closing v is = refl
given_same (Data.Asked asked) closing v is = refl
given_same (Data.Active endpoint) closing v is = refl
given_same Data.Passive closing v is = refl
given_same Data.Ready closing v is = absurd is
given_same (Data.Opening transfer way) closing v is = refl
given_same (Data.Transferring transfer) closing v is = absurd is

turned_reaches : (turn : Turn) (v : View) → Leads turn → v.waiting ≡ None → Reached (completed (turned turn v))
turned_reaches turn v leads none =
    subst Reached (sym (given_same turn.0.connection turn.0.closing (turned turn v) leads)) (record { waiting = none; can = leads })

pub obeyed_reaches : (heard : HeardLine (List ℕ)) (v : View) → Rests v.session → v.waiting ≡ None → Reached (obeyed heard v)
unfolding obeyed
obeyed_reaches heard v rests none =
    turned_reaches (decided v.context heard v.session.pending (record v.session { pending = Pendings.Nothing })) v
    (leads_decided v.context heard v.session.pending (record v.session { pending = Pendings.Nothing }) rests) none

-- nothing is under way, and nothing is owed
pub unbusy : (c : ServerLink Transfer) (closing : Bool) → (is_unopened c && not closing) ≡ true → (is_connection_busy c ≡ false) × (is_transferring c ≡ false)
unbusy Data.Free closing is = (refl, refl)
unbusy (Data.Active endpoint) closing is = (refl, refl)
unbusy Data.Passive closing is = (refl, refl)
unbusy Data.Ready closing is = (refl, refl)
unbusy (Data.Asked asked) closing is = absurd (let e : false ≡ true = is in cc)
unbusy (Data.Opening transfer way) closing is = absurd (let e : false ≡ true = is in cc)
unbusy (Data.Transferring transfer) closing is = absurd (let e : false ≡ true = is in cc)

pub and_false : (b : Bool) → (b && false) ≡ false
and_false true = refl
and_false false = refl

pub room_is : (octets : List ℕ) → octets ≡ [] → nat_le (length octets) 4096 ≡ true
room_is octets none = ap (λ l. nat_le (length l) 4096) none

pub line_reaches : (heard : HeardLine (List ℕ)) (v : View) → Rests v.session → v.waiting ≡ None → v.owed ≡ [] → Reached (heard_line heard v)
line_reaches heard v rests none silent =
    let calm = unbusy v.session.connection v.session.closing rests in
    by (is_abort heard v) (is_idle (record v { waiting = Some heard }))
    (ap (λ b. is_abor heard && b) calm.1 ∙ and_false (is_abor heard)) (ap (λ b. not b && has_room v) calm.0 ∙ room_is v.owed silent)
  where
    by : (aborts idle : Bool) → aborts ≡ false → idle ≡ true
        → Reached (if aborts then aborted v else (if idle then obeyed heard (record v { waiting = None }) else record v { waiting = Some heard }))
    by true idle p q = absurd (let e : true ≡ false = p in cc)
    by false false p q = absurd (let e : false ≡ true = q in cc)
    by false true p q = obeyed_reaches heard (record v { waiting = None }) rests refl

event_reaches : (read : Reading) (event : NvtEvent) (v : View) → Rests v.session → v.waiting ≡ None → v.owed ≡ [] → Reached (heard_event read event v)
event_reaches read (line text) v rests none silent = line_reaches (read text) v rests none silent
event_reaches read too_long v rests none silent = line_reaches TooLong v rests none silent
event_reaches read (owed answer) v rests none silent = record { waiting = none; can = calm v.session rests }

events_reach : (read : Reading) (events : List NvtEvent) (v : View) → SaysOne events → Rests v.session → v.waiting ≡ None → v.owed ≡ []
    → Reached (heard_events read events v)
events_reach read events v (inl none) rests waits silent =
    subst (λ l. Reached (heard_events read l v)) (sym none) (record { waiting = waits; can = calm v.session rests })
events_reach read events v (inr one) rests waits silent =
    subst (λ l. Reached (heard_events read l v)) (sym one.1) (event_reaches read one.0 v rests waits silent)

pub octet_reaches : (read : Reading) (v : View) (octet : ℕ) → IsReadyForLine v → runs v ≡ true → Reached (hears_octet read v octet)
unfolding hears_octet
octet_reaches read v octet free is =
    events_reach read (ear_out line_limit v.ear octet) (record v { ear = ear_step line_limit v.ear octet }) (out_one line_limit v.ear octet)
    (free.rests is) free.waiting free.owed

-- ---- what is owed is said

drop_all : (octets : List ℕ) → drop (length octets) octets ≡ []
drop_all [] = refl
drop_all (octet ∷ octets) = drop_all octets

pub said_is : (v : View) → v.waiting ≡ None → said v ≡ record v { owed = [] }
unfolding gives_control
said_is v none = none_later (control_step (length v.owed) v) none ∙ ap (λ l. record v { owed = l }) (drop_all v.owed)

-- where nothing is owed nothing is said
pub silent_said : (v : View) → v.waiting ≡ None → v.owed ≡ [] → said v ≡ v
silent_said v none silent = said_is v none ∙ ap (λ l. record v { owed = l }) (sym silent)

-- behind an octet, with what is then wanted done and what is owed said, the server is free again
pub free_again : (v : View) → Reached v → IsReadyForLine (said (served_twice v))
free_again v reached =
    let stays = served_stays v reached.waiting in
    subst IsReadyForLine (sym (said_is (served_twice v) stays.waiting)) (record {
      waiting = stays.waiting;
      owed = refl;
      rests = λ is. served_rests v reached.waiting reached.can (ap is_running (sym stays.life) ∙ is);
    })

-- an octet may be taken
pub free_hears : (v : View) → IsReadyForLine v → runs v ≡ true → may_hear v ≡ true
free_hears v free is = by v.waiting v.owed free.waiting free.owed
  where
    by : (waiting : Option (HeardLine (List ℕ))) (octets : List ℕ) → waiting ≡ None → octets ≡ [] → may_hear (record v { waiting = waiting; owed = octets }) ≡ true
    by waiting octets none silent = rw none (rw silent (rw is refl))
