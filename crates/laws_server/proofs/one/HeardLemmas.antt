-- Octets of both connections, heard and taken by a server at a root: as many, with the same outcome.
use Rattle.std.proofs.Common.{◌≡◌, ℕ, suc, inl, inr, Bool, true, false, not, List, [], ◌∷◌, Option, Some, None, refl, sym, ap, subst, ◌∙◌, take, true≢false}
use Rattle.std.specs.Prelude.{if◌then◌else◌}
use Rattle.std.proofs.lemmas.Bool.{and_parts, not-true}
use Rattle.ftp_ends.specs.Ear.{ear_out, ear_step}
use Rattle.ftp_ends.proofs.EventLemmas.{out_one}
use Rattle.ftp_nvt.specs.Lines.{NvtEvent, line, too_long, owed}
use Rattle.ftp_path.specs.Path.{Names}
use Rattle.ftp_server_model.specs.Act.{decided}
use Rattle.ftp_server_model.specs.Calls.{connection_of, is_upload, may_receive, receives, receives_octet, takes_data}
use Rattle.ftp_server_model.specs.Machine.{Reading, abort_said, aborted, aborts, given_out, has_room, heard_event, heard_events, heard_line, hears, hears_octet, is_abort, is_connection_busy, is_idle, is_transferring, later, may_hear, obeyed, turned, waited}
use Rattle.ftp_server_model.specs.Play.{HearsAt, IsAt, at_root, most_heard, most_received}
use Rattle.ftp_server_model.specs.View.{Session, Transfer, View, line_limit}
use Rattle.ftp_server_model.specs.declared.heard.HeardLine.{HeardLine}
use Rattle.ftp_server_model.specs.declared.heard.HeardLine.TheVariants.{TooLong}
use Rattle.ftp_server_model.specs.declared.session.Pending.TheVariants as Pendings
use Rattle.ftp_server_model.specs.declared.session.ServerLink.{ServerLink}
use Rattle.ftp_server_model.specs.declared.session.ServerLink.TheVariants as Data
use Rattle.laws_server.proofs.one.TurnLemmas.{Begins, IsHeld, decided_begins}
use Rattle.laws_server.proofs.one.PartLemmas.{ViewAt, abort_at, acts_at, calm_of, given_out_in, known_by, receives_at, stays, waits_at}

-- ---- control octets

heard_line_at : (heard : HeardLine (List ℕ)) (root : Names) (v : View) → IsAt root v → IsHeld root v.session → IsAt root (heard_line heard v) → ViewAt root v (heard_line heard v) (heard_line heard (at_root root v))
heard_line_at heard root v before held known = by (is_abort heard v) known
  where
    by : (b : Bool) → IsAt root (if b then aborted v else later (record v { waiting = Some heard }))
        → ViewAt root v (if b then aborted v else later (record v { waiting = Some heard })) (if b then aborted (at_root root v) else later (record (at_root root v) { waiting = Some heard }))
    by true known = acts_at root v (abort_said (aborts v.session.connection v)) (abort_said (aborts v.session.connection (at_root root v))) (abort_at root v held) before known
    by false known = acts_at root v (record v { waiting = Some heard }) (record (at_root root v) { waiting = Some heard }) (waits_at heard root v held) before known

event_at : (read : Reading) (event : NvtEvent) (root : Names) (v : View) → IsAt root v → IsHeld root v.session → IsAt root (heard_event read event v)
    → ViewAt root v (heard_event read event v) (heard_event read event (at_root root v))
event_at read (line text) root v before held known = heard_line_at (read text) root v before held known
event_at read too_long root v before held known = heard_line_at TooLong root v before held known
event_at read (owed answer) root v before held known = record { same = refl; apart = λ path out. refl; held = held }

pub hears_at : (read : Reading) (octet : ℕ) (root : Names) (v : View) → IsAt root v → IsHeld root v.session → IsAt root (hears_octet read v octet)
    → ViewAt root v (hears_octet read v octet) (hears_octet read (at_root root v) octet)
unfolding hears_octet
hears_at read octet root v before held known =
    let w : View = record v { ear = ear_step line_limit v.ear octet } in
    let P : List NvtEvent → Type 0 = λ events. IsAt root (heard_events read events w) → ViewAt root v (heard_events read events w) (heard_events read events (at_root root w)) in
    (elim (out_one line_limit v.ear octet) as (λ _. P (ear_out line_limit v.ear octet)) [
      | inl e ↦ subst P (sym e) (λ known. record { same = refl; apart = λ path out. refl; held = held })
      | inr e ↦ subst P (sym e.1) (λ known. let done = event_at read e.0 root w before held known in record { same = done.same; apart = done.apart; held = done.held })
    ]) known

-- what a row of octets makes of both: as many may be taken, and they leave the same
pub record RowAt (root : Names) (v one its : View) (many few : ℕ) : Type 0 where
  pub count : few ≡ many
  pub is : ViewAt root v one its
  pub known : IsAt root one

-- one octet, and then the rest
then_row : (root : Names) (v x one : View) (goes : View → View) (counts : View → ℕ) (its : View) → ViewAt root v x its → RowAt root x one (goes (at_root root x)) (counts x) (counts (at_root root x))
    → RowAt root v one (goes its) (suc (counts x)) (suc (counts its))
then_row root v x one goes counts its first rest = record {
  count = ap (λ (u : View). suc (counts u)) first.same ∙ ap suc rest.count;
  is = record { same = ap goes first.same ∙ rest.is.same; apart = λ path out. rest.is.apart path out ∙ first.apart path out; held = rest.is.held };
  known = rest.known;
}

pub heard_at : (read : Reading) (octets : List ℕ) (root : Names) (v : View) → IsAt root v → IsHeld root v.session → HearsAt read root v (take (most_heard read v octets) octets)
    → RowAt root v (hears read v (take (most_heard read v octets) octets)) (hears read (at_root root v) (take (most_heard read v octets) octets)) (most_heard read v octets) (most_heard read (at_root root v) octets)
heard_at read [] root v before held known = record { count = refl; is = stays root v held; known = before }
heard_at read (octet ∷ octets) root v before held known =
    let x : View = hears_octet read v octet in
    by (may_hear v)
    (λ known.
    let first = hears_at read octet root v before held known.0 in
    then_row root v x (hears read x (take (most_heard read x octets) octets)) (λ u. hears read u (take (most_heard read x octets) octets)) (λ u. most_heard read u octets)
    (hears_octet read (at_root root v) octet) first (heard_at read octets root x known.0 first.held known.1))
    known
  where
    by : (b : Bool)
        → (IsAt root (hears_octet read v octet) × HearsAt read root (hears_octet read v octet) (take (most_heard read (hears_octet read v octet) octets) octets)
        → RowAt root v (hears read (hears_octet read v octet) (take (most_heard read (hears_octet read v octet) octets) octets))
        (hears read (hears_octet read (at_root root v) octet) (take (most_heard read (hears_octet read v octet) octets) octets)) (suc (most_heard read (hears_octet read v octet) octets)) (suc (most_heard read (hears_octet read (at_root root v) octet) octets)))
        → HearsAt read root v (take (if b then suc (most_heard read (hears_octet read v octet) octets) else 0) (octet ∷ octets))
        → RowAt root v (hears read v (take (if b then suc (most_heard read (hears_octet read v octet) octets) else 0) (octet ∷ octets)))
        (hears read (at_root root v) (take (if b then suc (most_heard read (hears_octet read v octet) octets) else 0) (octet ∷ octets)))
        (if b then suc (most_heard read (hears_octet read v octet) octets) else 0) (if b then suc (most_heard read (hears_octet read (at_root root v) octet) octets) else 0)
    by true goes known = goes known
    by false goes known = record { count = refl; is = stays root v held; known = before }

-- ---- data octets

-- a line that is acted on leaves who is logged in, or no transfer stands
given_out_calm : (connection : ServerLink Transfer) (v : View) → is_transferring connection ≡ false → is_transferring v.session.connection ≡ false → is_transferring (given_out connection v).session.connection ≡ false
given_out_calm (Data.Transferring transfer) v is calm = absurd (true≢false is)
given_out_calm (Data.Opening transfer way) v is calm = calm
given_out_calm (Data.Asked asked) v is calm = calm
given_out_calm Data.Free v is calm = calm
given_out_calm (Data.Active endpoint) v is calm = calm
given_out_calm Data.Passive v is calm = calm
given_out_calm Data.Ready v is calm = calm

obeyed_begins : (heard : HeardLine (List ℕ)) (v : View) → is_transferring v.session.connection ≡ false → Begins v.session (obeyed heard v).session
unfolding obeyed
obeyed_begins heard v calm =
    let s : Session = record v.session { pending = Pendings.Nothing } in
    let w : View = turned (decided v.context heard v.session.pending s) v in
    let same = given_out_in w.session.connection w in
    elim (decided_begins v.context heard v.session.pending s calm) [
      | inl both ↦ inl (same.0 ∙ both.0, same.1 ∙ both.1)
      | inr none ↦ inr (given_out_calm w.session.connection w none none)
    ]

waited_begins : (waiting : Option (HeardLine (List ℕ))) (v : View) → Begins v.session (waited waiting v).session
waited_begins None v = inl (refl, refl)
waited_begins (Some heard) v = by (is_idle v) refl
  where
    by : (b : Bool) → is_idle v ≡ b → Begins v.session (if b then obeyed heard (record v { waiting = None }) else v).session
    by true idle =
        let busy = not-true (is_connection_busy v.session.connection) (and_parts (not (is_connection_busy v.session.connection)) (has_room v) idle).0 in
        obeyed_begins heard (record v { waiting = None }) (calm_of v.session.connection busy)
    by false idle = inl (refl, refl)

-- a data octet may be taken in a transfer alone
takes_in : (connection : ServerLink Transfer) → is_upload connection ≡ true → is_transferring connection ≡ true
takes_in (Data.Transferring transfer) is = refl
takes_in (Data.Opening transfer way) is = refl
takes_in (Data.Asked asked) is = absurd (true≢false (sym is))
takes_in Data.Free is = absurd (true≢false (sym is))
takes_in (Data.Active endpoint) is = absurd (true≢false (sym is))
takes_in Data.Passive is = absurd (true≢false (sym is))
takes_in Data.Ready is = absurd (true≢false (sym is))

upload_in : (closing : Bool) (connection : ServerLink Transfer) → is_upload (if closing then Data.Free else connection) ≡ true → is_transferring connection ≡ true
upload_in true connection is = absurd (true≢false (sym is))
upload_in false connection is = takes_in connection is

pub octet_taken_at : (octet : ℕ) (root : Names) (v : View) → IsAt root v → IsHeld root v.session → IsAt root (receives_octet v octet)
    → ViewAt root v (receives_octet v octet) (receives_octet (at_root root v) octet)
unfolding receives_octet
octet_taken_at octet root v before held known =
    acts_at root v (takes_data (connection_of v.session) octet v) (takes_data (connection_of v.session) octet (at_root root v)) (receives_at octet root v held) before known

-- where another may be taken, no line was acted on
pub known_between : (octet : ℕ) (root : Names) (v : View) → IsAt root v → IsHeld root v.session → may_receive (receives_octet v octet) ≡ true → IsAt root (receives_octet v octet)
unfolding receives_octet
known_between octet root v before held may =
    let w : View = takes_data (connection_of v.session) octet v in
    let x : View = later w in
    let step = receives_at octet root v held in
    elim (waited_begins w.waiting w) [
      | inl both ↦ known_by root v x (both.0 ∙ step.access) (both.1 ∙ step.top) before
      | inr none ↦ absurd (true≢false (sym (upload_in x.session.closing x.session.connection (and_parts (is_upload (connection_of x.session)) (has_room x) may).0) ∙ none))
    ]

none_taken : (octets : List ℕ) (x : View) → may_receive x ≡ false → receives x (take (most_received x octets) octets) ≡ x
none_taken [] x is = refl
none_taken (octet ∷ octets) x is = ap (λ b. receives x (take (if b then suc (most_received (receives_octet x octet) octets) else 0) (octet ∷ octets))) is

known_on : (octet : ℕ) (octets : List ℕ) (root : Names) (v : View) → IsAt root v → IsHeld root v.session
    → IsAt root (receives (receives_octet v octet) (take (most_received (receives_octet v octet) octets) octets)) → IsAt root (receives_octet v octet)
known_on octet octets root v before held known = by (may_receive (receives_octet v octet)) refl
  where
    by : (b : Bool) → may_receive (receives_octet v octet) ≡ b → IsAt root (receives_octet v octet)
    by true may = known_between octet root v before held may
    by false may = subst (IsAt root) (none_taken octets (receives_octet v octet) may) known

pub received_at : (octets : List ℕ) (root : Names) (v : View) → IsAt root v → IsHeld root v.session → IsAt root (receives v (take (most_received v octets) octets))
    → RowAt root v (receives v (take (most_received v octets) octets)) (receives (at_root root v) (take (most_received v octets) octets)) (most_received v octets) (most_received (at_root root v) octets)
received_at [] root v before held known = record { count = refl; is = stays root v held; known = before }
received_at (octet ∷ octets) root v before held known =
    let x : View = receives_octet v octet in
    by (may_receive v)
    (λ known.
    let between = known_on octet octets root v before held known in
    let first = octet_taken_at octet root v before held between in
    then_row root v x (receives x (take (most_received x octets) octets)) (λ u. receives u (take (most_received x octets) octets)) (λ u. most_received u octets)
    (receives_octet (at_root root v) octet) first (received_at octets root x between first.held known))
    known
  where
    by : (b : Bool)
        → (IsAt root (receives (receives_octet v octet) (take (most_received (receives_octet v octet) octets) octets))
        → RowAt root v (receives (receives_octet v octet) (take (most_received (receives_octet v octet) octets) octets))
        (receives (receives_octet (at_root root v) octet) (take (most_received (receives_octet v octet) octets) octets)) (suc (most_received (receives_octet v octet) octets)) (suc (most_received (receives_octet (at_root root v) octet) octets)))
        → IsAt root (receives v (take (if b then suc (most_received (receives_octet v octet) octets) else 0) (octet ∷ octets)))
        → RowAt root v (receives v (take (if b then suc (most_received (receives_octet v octet) octets) else 0) (octet ∷ octets)))
        (receives (at_root root v) (take (if b then suc (most_received (receives_octet v octet) octets) else 0) (octet ∷ octets)))
        (if b then suc (most_received (receives_octet v octet) octets) else 0) (if b then suc (most_received (receives_octet (at_root root v) octet) octets) else 0)
    by true goes known = goes known
    by false goes known = record { count = refl; is = stays root v held; known = before }
