-- A server hears octets alike whether who came was accepted before them or after them; and no line makes a data connection open, or be waited for, that
-- was not.
use Rattle.std.proofs.Common.{◌≡◌, inl, inr, ℕ, Bool, true, false, true≢false, List, [], ◌∷◌, ◌++◌, Some, None, refl, sym, ap, subst, ◌∙◌}
use Rattle.std.specs.Prelude.{if◌then◌else◌, ◌&&◌}
use Rattle.std.proofs.lemmas.Bool.{and_right}
use Rattle.ftp_ends.specs.Ear.{ear_out, ear_step}
use Rattle.ftp_ends.proofs.EventLemmas.{out_one}
use Rattle.ftp_nvt.specs.Lines.{NvtEvent, line, too_long, owed}
use Rattle.ftp_path.specs.Path.{Names}
use Rattle.ftp_server_model.specs.Act.{decided}
use Rattle.ftp_server_model.specs.Machine.{Reading, aborted, completed, given_out, heard_event, heard_events, heard_line, hears_octet, is_abor, is_abort, is_idle, is_transferring, later, obeyed, turned}
use Rattle.ftp_server_model.specs.Replies.{Turn, said_octets}
use Rattle.ftp_server_model.specs.View.{Session, Transfer, View as Far, line_limit}
use Rattle.ftp_server_model.specs.declared.heard.HeardLine.{HeardLine}
use Rattle.ftp_server_model.specs.declared.heard.HeardLine.TheVariants.{TooLong}
use Rattle.ftp_server_model.specs.declared.reply.ReplyKind.{ReplyKind}
use Rattle.ftp_server_model.specs.declared.reply.ReplyKind.TheVariants as Replies
use Rattle.ftp_server_model.specs.declared.session.Pending.TheVariants as Pendings
use Rattle.ftp_server_model.specs.declared.session.ServerLink.{ServerLink}
use Rattle.ftp_server_model.specs.declared.session.ServerLink.TheVariants as Data
use Rattle.ftp_server_model.specs.declared.session.Transfer.TheVariants as Transfers
use Rattle.ftp_server_model.specs.declared.session.Way.TheVariants as Ways
use Rattle.laws_drivers.specs.world.Ahead.{Opens, accepts, ahead_of, is_open}
use Rattle.laws_server.specs.one.Links.{Aims, Asks, Begins, Forgets, Stays, Turned, TurnsBeside, turned_so, with_link}
use Rattle.laws_server.proofs.one.LineTurns.{lines_go_beside}

-- a server with this data connection, which is to be closed or not
abbrev pub at_link : ServerLink Transfer → Bool → Far → Far
at_link link closing v = record v { session = with_link link closing v.session }

-- what is said does not look at it
pub said_same : (link : ServerLink Transfer) (closing : Bool) (s : Session) (kind : ReplyKind Names)
    → said_octets (with_link link closing s) kind ≡ said_octets s kind
said_same link closing s Replies.Nothing = refl
said_same link closing s (Replies.Fixed text) = refl
said_same link closing s Replies.Here = refl
said_same link closing s (Replies.Made path) = refl
said_same link closing s (Replies.Restarting place) = refl
said_same link closing s (Replies.Passive endpoint) = refl
said_same link closing s (Replies.Extended port) = refl
said_same link closing s (Replies.Size count) = refl
said_same link closing s (Replies.Stamp digits) = refl
said_same link closing s (Replies.Entry path) = refl
said_same link closing s Replies.Features = refl
said_same link closing s Replies.Chosen = refl

-- ---- a line is acted on

-- what it makes of the data connection
line_turn : (heard : HeardLine (List ℕ)) (v : Far)
    → TurnsBeside (decided v.context heard v.session.pending) (record v.session { pending = Pendings.Nothing })
line_turn heard v = lines_go_beside v.context heard v.session.pending (record v.session { pending = Pendings.Nothing })

-- so it is acted on
obeyed_is : (heard : HeardLine (List ℕ)) (v : Far) (link : ServerLink Transfer) (closing : Bool)
    → obeyed heard (at_link link closing v) ≡ completed (turned (turned_so (line_turn heard v).turned link closing (line_turn heard v).turn) v)
unfolding obeyed
obeyed_is heard v link closing = ap (λ t. completed (turned t v)) ((line_turn heard v).is link closing)

-- who came was accepted before
opened_turn : (t : Turned) (turn : Turn) (v : Far)
    → completed (turned (turned_so t Data.Ready false turn) v) ≡ ahead_of Opens (completed (turned (turned_so t Data.Passive false turn) v))
opened_turn Stays turn v =
    ap (λ o. record v { session = with_link Data.Ready false turn.0; owed = v.owed ++ o })
    (said_same Data.Ready false turn.0 turn.1 ∙ sym (said_same Data.Passive false turn.0 turn.1))
opened_turn Forgets turn v = refl
opened_turn (Asks verb) turn v = refl
opened_turn (Aims endpoint) turn v = refl
opened_turn (Begins transfer) turn v = refl

obeyed_opened : (heard : HeardLine (List ℕ)) (v : Far)
    → obeyed heard (at_link Data.Ready false v) ≡ ahead_of Opens (obeyed heard (at_link Data.Passive false v))
obeyed_opened heard v =
    obeyed_is heard v Data.Ready false ∙ opened_turn (line_turn heard v).turned (line_turn heard v).turn v
    ∙ ap (ahead_of Opens) (sym (obeyed_is heard v Data.Passive false))

-- ---- a line is heard

-- one that is not idle lets it wait
line_opened : (heard : HeardLine (List ℕ)) (v : Far)
    → heard_line heard (at_link Data.Ready false v) ≡ ahead_of Opens (heard_line heard (at_link Data.Passive false v))
line_opened heard v = by_abort (is_abor heard)
  where
    by_idle : (idle : Bool)
        → (if idle then obeyed heard (at_link Data.Ready false (record v { waiting = None })) else at_link Data.Ready false (record v { waiting = Some heard }))
        ≡ ahead_of Opens
        (if idle then obeyed heard (at_link Data.Passive false (record v { waiting = None }))
        else at_link Data.Passive false (record v { waiting = Some heard }))
    by_idle true = obeyed_opened heard (record v { waiting = None })
    by_idle false = refl

    acts : later (at_link Data.Ready false (record v { waiting = Some heard }))
        ≡ ahead_of Opens (later (at_link Data.Passive false (record v { waiting = Some heard })))
    acts = by_idle (is_idle (at_link Data.Passive false (record v { waiting = Some heard })))

    by_abort : (abor : Bool)
        → (if abor && false then aborted (at_link Data.Ready false v) else later (at_link Data.Ready false (record v { waiting = Some heard })))
        ≡ ahead_of Opens
        (if abor && false then aborted (at_link Data.Passive false v) else later (at_link Data.Passive false (record v { waiting = Some heard })))
    by_abort true = acts
    by_abort false = acts

event_opened : (read : Reading) (event : NvtEvent) (v : Far)
    → heard_event read event (at_link Data.Ready false v) ≡ ahead_of Opens (heard_event read event (at_link Data.Passive false v))
event_opened read (line text) v = line_opened (read text) v
event_opened read too_long v = line_opened TooLong v
event_opened read (owed answer) v = refl

-- so is an octet
pub octet_opened : (read : Reading) (octet : ℕ) (v : Far)
    → hears_octet read (at_link Data.Ready false v) octet ≡ ahead_of Opens (hears_octet read (at_link Data.Passive false v) octet)
unfolding hears_octet
octet_opened read octet v =
    let w : Far = record v { ear = ear_step line_limit v.ear octet } in
    let P : List NvtEvent → Type 0 = λ events. heard_events read events (at_link Data.Ready false w)
    ≡ ahead_of Opens (heard_events read events (at_link Data.Passive false w)) in
    elim (out_one line_limit v.ear octet) as (λ _. P (ear_out line_limit v.ear octet)) [
      | inl f ↦ subst P (sym f) refl
      | inr f ↦ subst P (sym f.1) (event_opened read f.0 w)
    ]

-- ---- what a line makes of a data connection

-- one is to be dialled for a transfer, or an endpoint for one is there
abbrev pub is_dialled : ServerLink Transfer → Bool
is_dialled (Data.Opening transfer (Ways.Connect endpoint)) = true
is_dialled link = false

abbrev pub is_aimed : ServerLink Transfer → Bool
is_aimed (Data.Active endpoint) = true
is_aimed link = false

-- it is open, or waited for, only where it was, and then it is not to be closed; and dialled only where an endpoint was there
pub record Turns (link : ServerLink Transfer) (v : Far) : Type 0 where
  pub opened : is_open v.session.connection ≡ true → (is_open link ≡ true) × (v.session.closing ≡ false)
  pub accepted : accepts v.session.connection ≡ true → (accepts link ≡ true) × (v.session.closing ≡ false)
  pub dialled : is_dialled v.session.connection ≡ true → is_aimed link ≡ true

-- one that stands aside while a line is acted on
abbrev pub is_quiet : ServerLink Transfer → Bool
is_quiet Data.Free = true
is_quiet (Data.Active endpoint) = true
is_quiet Data.Passive = true
is_quiet Data.Ready = true
is_quiet link = false

-- it is the same
same_turns : (link : ServerLink Transfer) → is_quiet link ≡ true → (v : Far) → Turns link (at_link link false v)
same_turns link quiet v = record { opened = λ is. (is, refl); accepted = λ is. (is, refl); dialled = λ is. absurd (true≢false (sym is ∙ none link quiet)) }
  where
    none : (link : ServerLink Transfer) → is_quiet link ≡ true → is_dialled link ≡ false
    none Data.Free quiet = refl
    none (Data.Active endpoint) quiet = refl
    none Data.Passive quiet = refl
    none Data.Ready quiet = refl
    none (Data.Asked verb) quiet = refl
    none (Data.Opening transfer way) quiet = absurd (true≢false (sym quiet))
    none (Data.Transferring transfer) quiet = refl

-- a transfer begins over an open one
given_turns : (transfer : Transfer) (v : Far) → Turns Data.Ready (given_out (Data.Transferring transfer) (at_link (Data.Transferring transfer) false v))
given_turns (Transfers.Upload path keep d) v =
    record { opened = λ is. (refl, refl); accepted = λ is. absurd (true≢false (sym is)); dialled = λ is. absurd (true≢false (sym is)) }
given_turns Transfers.OverLimit v =
    record { opened = λ is. (refl, refl); accepted = λ is. absurd (true≢false (sym is)); dialled = λ is. absurd (true≢false (sym is)) }
given_turns (Transfers.Download []) v =
    record { opened = λ is. absurd (true≢false (sym is)); accepted = λ is. absurd (true≢false (sym is)); dialled = λ is. absurd (true≢false (sym is)) }
given_turns (Transfers.Download (octet ∷ more)) v =
    record { opened = λ is. (refl, refl); accepted = λ is. absurd (true≢false (sym is)); dialled = λ is. absurd (true≢false (sym is)) }
given_turns (Transfers.Listing []) v =
    record { opened = λ is. absurd (true≢false (sym is)); accepted = λ is. absurd (true≢false (sym is)); dialled = λ is. absurd (true≢false (sym is)) }
given_turns (Transfers.Listing (octet ∷ more)) v =
    record { opened = λ is. (refl, refl); accepted = λ is. absurd (true≢false (sym is)); dialled = λ is. absurd (true≢false (sym is)) }

stays_turns : (link : ServerLink Transfer) → is_quiet link ≡ true → (turn : Turn) (v : Far)
    → Turns link (completed (turned (turned_so Stays link false turn) v))
stays_turns Data.Free is turn v =
    record { opened = λ e. absurd (true≢false (sym e)); accepted = λ e. absurd (true≢false (sym e)); dialled = λ e. absurd (true≢false (sym e)) }
stays_turns (Data.Active endpoint) is turn v =
    record { opened = λ e. absurd (true≢false (sym e)); accepted = λ e. absurd (true≢false (sym e)); dialled = λ e. absurd (true≢false (sym e)) }
stays_turns Data.Passive is turn v =
    record { opened = λ e. absurd (true≢false (sym e)); accepted = λ e. (refl, refl); dialled = λ e. absurd (true≢false (sym e)) }
stays_turns Data.Ready is turn v =
    record { opened = λ e. (refl, refl); accepted = λ e. absurd (true≢false (sym e)); dialled = λ e. absurd (true≢false (sym e)) }
stays_turns (Data.Asked verb) is turn v = absurd (true≢false (sym is))
stays_turns (Data.Opening transfer way) is turn v = absurd (true≢false (sym is))
stays_turns (Data.Transferring transfer) is turn v = absurd (true≢false (sym is))

begins_turns : (link : ServerLink Transfer) → is_quiet link ≡ true → (transfer : Transfer) (turn : Turn) (v : Far)
    → Turns link (completed (turned (turned_so (Begins transfer) link false turn) v))
begins_turns Data.Free is transfer turn v =
    record { opened = λ e. absurd (true≢false (sym e)); accepted = λ e. absurd (true≢false (sym e)); dialled = λ e. absurd (true≢false (sym e)) }
begins_turns (Data.Active endpoint) is transfer turn v =
    record { opened = λ e. absurd (true≢false (sym e)); accepted = λ e. absurd (true≢false (sym e)); dialled = λ e. refl }
begins_turns Data.Passive is transfer turn v =
    record { opened = λ e. absurd (true≢false (sym e)); accepted = λ e. (refl, refl); dialled = λ e. absurd (true≢false (sym e)) }
begins_turns Data.Ready is transfer turn v = given_turns transfer (turned (turned_so (Begins transfer) Data.Ready false turn) v)
begins_turns (Data.Asked verb) is transfer turn v = absurd (true≢false (sym is))
begins_turns (Data.Opening other way) is transfer turn v = absurd (true≢false (sym is))
begins_turns (Data.Transferring other) is transfer turn v = absurd (true≢false (sym is))

turn_turns : (t : Turned) (link : ServerLink Transfer) → is_quiet link ≡ true → (turn : Turn) (v : Far)
    → Turns link (completed (turned (turned_so t link false turn) v))
turn_turns Stays link is turn v = stays_turns link is turn v
turn_turns Forgets link is turn v =
    record { opened = λ e. absurd (true≢false (sym e)); accepted = λ e. absurd (true≢false (sym e)); dialled = λ e. absurd (true≢false (sym e)) }
turn_turns (Asks verb) link is turn v =
    record { opened = λ e. absurd (true≢false (sym e)); accepted = λ e. absurd (true≢false (sym e)); dialled = λ e. absurd (true≢false (sym e)) }
turn_turns (Aims endpoint) link is turn v =
    record { opened = λ e. absurd (true≢false (sym e)); accepted = λ e. absurd (true≢false (sym e)); dialled = λ e. absurd (true≢false (sym e)) }
turn_turns (Begins transfer) link is turn v = begins_turns link is transfer turn v

obeyed_turns : (heard : HeardLine (List ℕ)) (link : ServerLink Transfer) → is_quiet link ≡ true → (v : Far) → Turns link (obeyed heard (at_link link false v))
obeyed_turns heard link is v =
    subst (Turns link) (sym (obeyed_is heard v link false)) (turn_turns (line_turn heard v).turned link is (line_turn heard v).turn v)

quiet_still : (link : ServerLink Transfer) → is_quiet link ≡ true → is_transferring link ≡ false
quiet_still Data.Free is = refl
quiet_still (Data.Active endpoint) is = refl
quiet_still Data.Passive is = refl
quiet_still Data.Ready is = refl
quiet_still (Data.Asked verb) is = refl
quiet_still (Data.Opening transfer way) is = absurd (true≢false (sym is))
quiet_still (Data.Transferring transfer) is = absurd (true≢false (sym is))

line_turns : (heard : HeardLine (List ℕ)) (link : ServerLink Transfer) → is_quiet link ≡ true → (v : Far) → Turns link (heard_line heard (at_link link false v))
line_turns heard link is v = by_abort (is_abort heard (at_link link false v)) (and_right (is_abor heard) (is_transferring link) (quiet_still link is))
  where
    by_idle : (idle : Bool)
        → Turns link (if idle then obeyed heard (at_link link false (record v { waiting = None })) else at_link link false (record v { waiting = Some heard }))
    by_idle true = obeyed_turns heard link is (record v { waiting = None })
    by_idle false = same_turns link is (record v { waiting = Some heard })

    by_abort : (abort : Bool) → abort ≡ false
        → Turns link (if abort then aborted (at_link link false v) else later (at_link link false (record v { waiting = Some heard })))
    by_abort true e = absurd (true≢false e)
    by_abort false e = by_idle (is_idle (at_link link false (record v { waiting = Some heard })))

event_turns : (read : Reading) (event : NvtEvent) (link : ServerLink Transfer) → is_quiet link ≡ true → (v : Far)
    → Turns link (heard_event read event (at_link link false v))
event_turns read (line text) link is v = line_turns (read text) link is v
event_turns read too_long link is v = line_turns TooLong link is v
event_turns read (owed answer) link is v = same_turns link is (record v { owed = v.owed ++ answer })

-- nor does an octet
pub octet_turns : (read : Reading) (octet : ℕ) (link : ServerLink Transfer) → is_quiet link ≡ true → (v : Far)
    → Turns link (hears_octet read (at_link link false v) octet)
unfolding hears_octet
octet_turns read octet link is v =
    let w : Far = record v { ear = ear_step line_limit v.ear octet } in
    let P : List NvtEvent → Type 0 = λ events. Turns link (heard_events read events (at_link link false w)) in
    elim (out_one line_limit v.ear octet) as (λ _. P (ear_out line_limit v.ear octet)) [
      | inl f ↦ subst P (sym f) (same_turns link is w)
      | inr f ↦ subst P (sym f.1) (event_turns read f.0 link is w)
    ]
