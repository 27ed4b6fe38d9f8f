-- A server hears octets alike whether it has a data connection over which nothing was asked for, waits for one or has none, unless a transfer begins.
use Rattle.std.proofs.Common.{◌≡◌, ◌⊎◌, inl, inr, ℕ, Bool, true, false, true≢false, List, ◌++◌, Some, None, refl, sym, ap, subst, ◌∙◌}
use Rattle.std.specs.Prelude.{if◌then◌else◌, ◌&&◌, not}
use Rattle.std.proofs.lemmas.Bool.{and_right}
use Rattle.ftp_ends.specs.Ear.{ear_out, ear_step}
use Rattle.ftp_ends.proofs.EventLemmas.{out_one}
use Rattle.ftp_nvt.specs.Lines.{NvtEvent, line, too_long, owed}
use Rattle.ftp_server_model.specs.Act.{decided}
use Rattle.ftp_server_model.specs.Calls as far
use Rattle.ftp_server_model.specs.Endpoint.{is_standing}
use Rattle.ftp_server_model.specs.Machine.{Reading, aborted, completed, has_room, heard_event, heard_events, heard_line, hears_octet, is_abor, is_connection_busy, is_transferring, later, obeyed, turned, waited}
use Rattle.ftp_server_model.specs.Replies.{Turn, said_octets}
use Rattle.ftp_server_model.specs.View.{Session, Transfer, View as Far, line_limit}
use Rattle.ftp_server_model.specs.declared.heard.HeardLine.{HeardLine}
use Rattle.ftp_server_model.specs.declared.heard.HeardLine.TheVariants.{TooLong}
use Rattle.ftp_server_model.specs.declared.session.Pending.TheVariants as Pendings
use Rattle.ftp_server_model.specs.declared.session.ServerLink.{ServerLink}
use Rattle.ftp_server_model.specs.declared.session.ServerLink.TheVariants as Data
use Rattle.ftp_server_model.specs.declared.session.Way.TheVariants as Ways
use Rattle.laws_server.specs.one.Links.{Aims, Asks, Begins, Forgets, Stays, Turned, TurnsBeside, turned_so, with_link}
use Rattle.laws_server.proofs.one.LineTurns.{lines_go_beside}
use Rattle.laws_drivers.specs.world.Ahead.{accepts, is_open}
use Rattle.laws_drivers.proofs.world.Hearing.{at_link, said_same}
use Rattle.laws_transfers.specs.Ahead.{without_connection}

-- ---- what is made of such a data connection

-- none, one that is waited for, or one that is open, with nothing asked for
abbrev pub is_spare : ServerLink Transfer → Bool
is_spare Data.Free = true
is_spare Data.Passive = true
is_spare Data.Ready = true
is_spare link = false

-- by which of them it was: it stays
pub record Remains (g : ServerLink Transfer → Far) : Type 0 where
  pub far : Far
  pub is : (link : ServerLink Transfer) → is_spare link ≡ true → g link ≡ at_link link false far

-- there is none any more, or something else in its place; what stood is to be closed
pub record Leaves (g : ServerLink Transfer → Far) : Type 0 where
  pub far : Far
  pub link : ServerLink Transfer
  pub alone : accepts link ≡ false
  pub shut : is_open link ≡ false
  pub is : (old : ServerLink Transfer) → is_spare old ≡ true → g old ≡ at_link link (is_standing old) far

-- a transfer begins: over one that is waited for it waits for it
pub record Starts (g : ServerLink Transfer → Far) : Type 0 where
  pub transfer : Transfer
  pub is : (g Data.Passive).session.connection ≡ Data.Opening transfer Ways.Accept

abbrev pub Goes : (ServerLink Transfer → Far) → Type 0
Goes g = Remains g ⊎ (Leaves g ⊎ Starts g)

-- so it is of what is the same
same_goes : (g h : ServerLink Transfer → Far) → ((link : ServerLink Transfer) → is_spare link ≡ true → g link ≡ h link) → Goes h → Goes g
same_goes g h same (inl r) = inl (record { far = r.far; is = λ link spare. same link spare ∙ r.is link spare })
same_goes g h same (inr (inl l)) = inr (inl (record {
  far = l.far;
  link = l.link;
  alone = l.alone;
  shut = l.shut;
  is = λ old spare. same old spare ∙ l.is old spare;
}))
same_goes g h same (inr (inr s)) = inr (inr (record { transfer = s.transfer; is = ap (λ (f : Far). f.session.connection) (same Data.Passive refl) ∙ s.is }))

-- ---- a line is acted on

-- a server after a turn, but for its data connection
abbrev after : Turn → Far → Far
after turn v = record v { session = turn.0; owed = v.owed ++ said_octets turn.0 turn.1 }

-- with this one it said this
says_so : (link : ServerLink Transfer) (closing : Bool) (turn : Turn) (v : Far)
    → record v { session = with_link link closing turn.0; owed = v.owed ++ said_octets (with_link link closing turn.0) turn.1 }
    ≡ at_link link closing (after turn v)
says_so link closing turn v =
    ap (λ o. record v { session = with_link link closing turn.0; owed = v.owed ++ o }) (said_same link closing turn.0 turn.1)

stays_so : (link : ServerLink Transfer) → is_spare link ≡ true → (turn : Turn) (v : Far)
    → completed (turned (turned_so Stays link false turn) v) ≡ at_link link false (after turn v)
stays_so Data.Free spare turn v = says_so Data.Free false turn v
stays_so Data.Passive spare turn v = says_so Data.Passive false turn v
stays_so Data.Ready spare turn v = says_so Data.Ready false turn v
stays_so (Data.Active endpoint) spare turn v = absurd (true≢false (sym spare))
stays_so (Data.Asked verb) spare turn v = absurd (true≢false (sym spare))
stays_so (Data.Opening transfer way) spare turn v = absurd (true≢false (sym spare))
stays_so (Data.Transferring transfer) spare turn v = absurd (true≢false (sym spare))

turn_goes : (t : Turned) (turn : Turn) (v : Far) → Goes (λ link. completed (turned (turned_so t link false turn) v))
turn_goes Stays turn v = inl (record { far = after turn v; is = λ link spare. stays_so link spare turn v })
turn_goes Forgets turn v = inr (inl (record {
  far = after turn v;
  link = Data.Free;
  alone = refl;
  shut = refl;
  is = λ old spare. says_so Data.Free (is_standing old) turn v;
}))
turn_goes (Asks verb) turn v = inr (inl (record {
  far = after turn v;
  link = Data.Asked verb;
  alone = refl;
  shut = refl;
  is = λ old spare. says_so (Data.Asked verb) (is_standing old) turn v;
}))
turn_goes (Aims endpoint) turn v = inr (inl (record {
  far = after turn v;
  link = Data.Active endpoint;
  alone = refl;
  shut = refl;
  is = λ old spare. says_so (Data.Active endpoint) (is_standing old) turn v;
}))
turn_goes (Begins transfer) turn v = inr (inr (record { transfer = transfer; is = refl }))

-- what a line makes of it
line_turn : (heard : HeardLine (List ℕ)) (v : Far)
    → TurnsBeside (decided v.context heard v.session.pending) (record v.session { pending = Pendings.Nothing })
line_turn heard v = lines_go_beside v.context heard v.session.pending (record v.session { pending = Pendings.Nothing })

obeyed_is : (heard : HeardLine (List ℕ)) (v : Far) (link : ServerLink Transfer) (closing : Bool)
    → obeyed heard (at_link link closing v) ≡ completed (turned (turned_so (line_turn heard v).turned link closing (line_turn heard v).turn) v)
unfolding obeyed
obeyed_is heard v link closing = ap (λ t. completed (turned t v)) ((line_turn heard v).is link closing)

obeyed_goes : (heard : HeardLine (List ℕ)) (v : Far) → Goes (λ link. obeyed heard (at_link link false v))
obeyed_goes heard v =
    let t = line_turn heard v in
    same_goes (λ link. obeyed heard (at_link link false v)) (λ link. completed (turned (turned_so t.turned link false t.turn) v))
    (λ link spare. obeyed_is heard v link false) (turn_goes t.turned t.turn v)

-- ---- a line is heard

-- at none of them a transfer is under way, and none was asked for
spare_still : (link : ServerLink Transfer) → is_spare link ≡ true → is_transferring link ≡ false
spare_still Data.Free spare = refl
spare_still Data.Passive spare = refl
spare_still Data.Ready spare = refl
spare_still link spare = absurd (true≢false (sym spare))

spare_idle : (link : ServerLink Transfer) → is_spare link ≡ true → is_connection_busy link ≡ false
spare_idle Data.Free spare = refl
spare_idle Data.Passive spare = refl
spare_idle Data.Ready spare = refl
spare_idle link spare = absurd (true≢false (sym spare))

-- a line waits, or is acted on
abbrev acts : Bool → HeardLine (List ℕ) → ServerLink Transfer → Far → Far
acts room heard link v =
    if room then obeyed heard (at_link link false (record v { waiting = None })) else at_link link false (record v { waiting = Some heard })

acts_goes : (room : Bool) (heard : HeardLine (List ℕ)) (v : Far) → Goes (λ link. acts room heard link v)
acts_goes true heard v = obeyed_goes heard (record v { waiting = None })
acts_goes false heard v = inl (record { far = record v { waiting = Some heard }; is = λ link spare. refl })

line_is : (heard : HeardLine (List ℕ)) (v : Far) (link : ServerLink Transfer) → is_spare link ≡ true
    → heard_line heard (at_link link false v) ≡ acts (has_room v) heard link v
line_is heard v link spare =
    ap (λ b. if b then aborted (at_link link false v) else later (at_link link false (record v { waiting = Some heard })))
    (and_right (is_abor heard) (is_transferring link) (spare_still link spare))
    ∙ ap (λ b. if not b && has_room v then obeyed heard (at_link link false (record v { waiting = None }))
    else at_link link false (record v { waiting = Some heard })) (spare_idle link spare)

line_goes : (heard : HeardLine (List ℕ)) (v : Far) → Goes (λ link. heard_line heard (at_link link false v))
line_goes heard v =
    same_goes (λ link. heard_line heard (at_link link false v)) (λ link. acts (has_room v) heard link v) (λ link spare. line_is heard v link spare)
    (acts_goes (has_room v) heard v)

event_goes : (read : Reading) (event : NvtEvent) (v : Far) → Goes (λ link. heard_event read event (at_link link false v))
event_goes read (line text) v = line_goes (read text) v
event_goes read too_long v = line_goes TooLong v
event_goes read (owed answer) v = inl (record { far = record v { owed = v.owed ++ answer }; is = λ link spare. refl })

-- an octet is
pub octet_goes : (read : Reading) (octet : ℕ) (v : Far) → Goes (λ link. hears_octet read (at_link link false v) octet)
unfolding hears_octet
octet_goes read octet v =
    let w : Far = record v { ear = ear_step line_limit v.ear octet } in
    let P : List NvtEvent → Type 0 = λ events. Goes (λ link. heard_events read events (at_link link false w)) in
    elim (out_one line_limit v.ear octet) as (λ _. P (ear_out line_limit v.ear octet)) [
      | inl f ↦ subst P (sym f) (inl (record { far = w; is = λ link spare. refl }))
      | inr f ↦ subst P (sym f.1) (event_goes read f.0 w)
    ]

-- ---- the end of one that is open is told

-- it is gone
pub end_freed : (f : Far) → f.session.closing ≡ false → f.session.connection ≡ Data.Ready → f.waiting ≡ None → far.data_end f ≡ without_connection f
unfolding far.data_end
end_freed f unclosed ready none =
    let is : far.end_step f ≡ without_connection f =
    ap (λ (v : Session). far.ends (far.connection_of v) f) (λ i. record f.session { connection = ready i; closing = unclosed i }) in
    ap later is ∙ ap (λ q. waited q (without_connection f)) none
