-- One octet, heard by a reader of lines, is a step of the fold.
use Rattle.std.proofs.Common.{◌≡◌, ◌∙◌, ℕ, zero, suc, ◌<◌, ◌≤◌, List, [], ◌∷◌, ◌++◌, take, Option, refl, sym, ap, subst, append-nil, arith}
use Rattle.std.specs.Prelude.{IsTrue}
use Rattle.std.proofs.lemmas.List.{append_cancel_left}
use Rattle.ftp_pieces.specs.Machine.{after}
use Rattle.ftp_pieces.proofs.MachineLemmas.{after-append, gives-append}
use Rattle.ftp_nvt.specs.Ear.{HasHeard, Hears, limit_of, lent_line, event_list}
use Rattle.ftp_nvt.specs.Fold.{Ear, ear, ear_of, ear_out, ear_step, quiet}
use Rattle.ftp_nvt.specs.Lines.{NvtEvent, events}
use Rattle.ftp_nvt.specs.declared.ear.Ear.{Ear as Reader}
use Rattle.ftp_nvt.proofs.FoldLemmas.{ear_gives_events}
use Rattle.ftp_nvt.specs.declared.event.Event.{Event}
use Rattle.ftp_nvt.proofs.ReaderLemmas.{reader_is_ear}
use Rattle.ftp_ends.specs.Reply.{reply_limit}
use Rattle.ftp_reply.specs.Reader.{Gathered, Between, GoesOn, Says, Faulty, Standing}
use Rattle.ftp_reply.specs.Reader.{Heard as LineHeard}
use Rattle.ftp_client_model.specs.Calls.{hears_octet, events_taken, line_taken, is_sound}
use Rattle.ftp_client_model.specs.Dialogue.{answered}
use Rattle.ftp_client_model.specs.Telling.{line_behind, line_with}
use Rattle.ftp_client_model.specs.View.{View, fails_by}
use Rattle.ftp_client_model.specs.declared.client.Failure.TheVariants as Failures
use Rattle.ftp_client_model.specs.declared.client.Standing.{Standing as Standings}
use Rattle.ftp_client_model.specs.declared.client.Standing.TheVariants as Stands
use Rattle.ftp_client_steps.specs.Reader.{CanBeHeld}
use Rattle.ftp_client_steps.specs.Comes.{LineLeads, acts}
use Rattle.ftp_client_steps.specs.declared.line.Spoken.{Spoken}
use Rattle.ftp_client_steps.specs.declared.line.Spoken.TheVariants as Hearings

-- where the reader stands, and what the octet says
pub record Steps {A : Type 0} (limit : ℕ) (old : Reader A) (octet : ℕ) (added : List NvtEvent) (new : Reader A) : Type 0 where
  pub ear : ear_of new ≡ ear_step limit (ear_of old) octet
  pub says : ear_out limit (ear_of old) octet ≡ added

pub steps_on : {A : Type 0} (old new : Reader A) (octet : ℕ) (added : List NvtEvent) (octets : List ℕ)
    → HasHeard old octets → Hears old (octet ∷ []) added new → Steps (limit_of old) old octet added new
steps_on old new octet added octets heard hears =
    let before : ear_of old ≡ after (ear (limit_of old)) quiet octets = reader_is_ear old octets heard in
    let now : ear_of new ≡ after (ear (limit_of new)) quiet (octets ++ octet ∷ []) = reader_is_ear new (octets ++ octet ∷ []) (hears.heard octets heard) in
    let same : after (ear (limit_of new)) quiet (octets ++ octet ∷ []) ≡ after (ear (limit_of old)) quiet (octets ++ octet ∷ []) =
    ap (λ limit. after (ear limit) quiet (octets ++ octet ∷ [])) hears.limit in
    let cut : after (ear (limit_of old)) quiet (octets ++ octet ∷ []) ≡ ear_step (limit_of old) (after (ear (limit_of old)) quiet octets) octet =
    after-append (ear (limit_of old)) quiet octets (octet ∷ []) in
    let all : events (limit_of old) octets ++ (ear_out (limit_of old) (after (ear (limit_of old)) quiet octets) octet ++ [])
    ≡ events (limit_of old) octets ++ added =
    ap (λ given. given ++ (ear_out (limit_of old) (after (ear (limit_of old)) quiet octets) octet ++ [])) (sym (ear_gives_events (limit_of old) octets))
    ∙ sym (gives-append (ear (limit_of old)) quiet octets (octet ∷ []))
    ∙ ear_gives_events (limit_of old) (octets ++ octet ∷ [])
    ∙ hears.said octets heard in
    record {
      ear = now ∙ same ∙ cut ∙ ap (λ e. ear_step (limit_of old) e octet) (sym before);
      says = ap (λ e. ear_out (limit_of old) e octet) before
          ∙ sym (append-nil (ear_out (limit_of old) (after (ear (limit_of old)) quiet octets) octet))
          ∙ append_cancel_left (events (limit_of old) octets) _ _ all;
    }

take_one : (n octet : ℕ) → 0 < n → n ≤ 1 → take n (octet ∷ []) ≡ octet ∷ []
take_one zero octet some most = absurd (omega (arith, some))
take_one (suc zero) octet some most = refl
take_one (suc (suc n)) octet some most = absurd (omega (arith, most))

-- one octet that was fed to a reader of reply lines
pub fed : {A : Type 0} (old new : Reader A) (reader : Standing) (count : Option ℕ) (event : Event) (octet n : ℕ)
    → CanBeHeld old reader count → 0 < n → n ≤ 1 → Hears old (take n (octet ∷ [])) (event_list event (lent_line new)) new
    → Steps reply_limit old octet (event_list event (lent_line new)) new
fed old new reader count event octet n held some most hears =
    let one : Hears old (octet ∷ []) (event_list event (lent_line new)) new =
    subst (λ taken. Hears old taken (event_list event (lent_line new)) new) (take_one n octet some most) hears in
    subst (λ limit. Steps limit old octet (event_list event (lent_line new)) new) held.limit (steps_on old new octet _ held.octets held.heard one)

-- what a client does with the events of an octet
pub taken : (v : View) (e f : Ear) (octet : ℕ) (added : List NvtEvent)
    → v.ear ≡ e → ear_step reply_limit e octet ≡ f → ear_out reply_limit e octet ≡ added
    → hears_octet v octet ≡ events_taken added (record v { ear = f })
taken v e f octet added is step out =
    ap (λ x. events_taken (ear_out reply_limit x octet) (record v { ear = ear_step reply_limit x octet })) is
    ∙ ap (λ x. events_taken (ear_out reply_limit e octet) (record v { ear = x })) step
    ∙ ap (λ x. events_taken x (record v { ear = f })) out

-- a client that fails forgets what it has gathered
forgets_by : (standing : Standings) (v : View) (gathered : Gathered) → IsTrue (is_sound standing)
    → fails_by standing Failures.Strange v ≡ fails_by standing Failures.Strange (record v { gathered = gathered })
forgets_by Stands.Greeting v gathered sound = refl
forgets_by Stands.User v gathered sound = refl
forgets_by Stands.Pass v gathered sound = refl
forgets_by Stands.Entered v gathered sound = refl
forgets_by (Stands.Failed failure) v gathered sound = absurd (cc sound)

-- a line that leads to something is acted on so
pub led : {A : Type 0} (line : LineHeard) (heard : Spoken A) (e : Ear) (new : Gathered) (v : View) → IsTrue (is_sound v.standing)
    → LineLeads line heard new → line_taken line (record v { ear = e }) ≡ acts heard (record { ear = e; gathered = new }) v
led (GoesOn gathered) Hearings.Nothing e new v sound is = ap (λ g. let w : View = record v { ear = e; gathered = g } in w) (sym is)
led (Says code texts) (Hearings.Reply reply) e new v sound is =
    ap (λ c. answered c texts (record v { ear = e; gathered = Between })) (sym is.0)
    ∙ ap (λ t. answered reply.code t (record v { ear = e; gathered = Between })) (sym is.1)
    ∙ ap (λ g. answered reply.code reply.lines (record v { ear = e; gathered = g })) (sym is.2)
led (Faulty fault) Hearings.Misplaced e new v sound is = forgets_by v.standing (record v { ear = e }) new sound
led (GoesOn gathered) (Hearings.Owed answer) e new v sound is = absurd is
led (GoesOn gathered) (Hearings.Reply reply) e new v sound is = absurd is
led (GoesOn gathered) Hearings.Misplaced e new v sound is = absurd is
led (Says code texts) Hearings.Nothing e new v sound is = absurd is
led (Says code texts) (Hearings.Owed answer) e new v sound is = absurd is
led (Says code texts) Hearings.Misplaced e new v sound is = absurd is
led (Faulty fault) Hearings.Nothing e new v sound is = absurd is
led (Faulty fault) (Hearings.Owed answer) e new v sound is = absurd is
led (Faulty fault) (Hearings.Reply reply) e new v sound is = absurd is

-- an octet that was fed is heard so by a client
pub octet_comes : {A : Type 0} (old new : Reader A) (reader : Standing) (count : Option ℕ) (event : Event) (octet n : ℕ) (v : View)
    → CanBeHeld old reader count → 0 < n → n ≤ 1 → Hears old (take n (octet ∷ [])) (event_list event (lent_line new)) new
    → v.ear ≡ ear_of old
    → hears_octet v octet ≡ events_taken (event_list event (lent_line new)) (record v { ear = ear_of new })
octet_comes old new reader count event octet n v held some most hears is =
    let step = fed old new reader count event octet n held some most hears in
    taken v (ear_of old) (ear_of new) octet (event_list event (lent_line new)) is (sym step.ear) step.says

-- what an octet that was fed does to the line that was said last
pub line_comes : {A : Type 0} (old new : Reader A) (reader : Standing) (count : Option ℕ) (event : Event) (octet n : ℕ) (e : Ear) (last : List ℕ)
    → CanBeHeld old reader count → 0 < n → n ≤ 1 → Hears old (take n (octet ∷ [])) (event_list event (lent_line new)) new
    → e ≡ ear_of old
    → line_with e octet last ≡ line_behind (event_list event (lent_line new)) last
line_comes old new reader count event octet n e last held some most hears is =
    let step = fed old new reader count event octet n held some most hears in
    ap (λ x. line_behind (ear_out reply_limit x octet) last) is
    ∙ ap (λ events. line_behind events last) step.says
