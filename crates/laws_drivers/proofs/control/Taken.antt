-- A client whose report was taken goes on as one whose report is still to be taken.
use Rattle.std.proofs.Common.{◌≡◌, ℕ, ◌==◌, Bool, true, false, true≢false, List, [], ◌∷◌, ◌++◌, None, option_to_list, refl, sym, ap, ◌∙◌}
use Rattle.std.specs.Prelude.{if◌then◌else◌}
use Rattle.ftp_nvt.specs.Lines.{NvtEvent, line, too_long, owed}
use Rattle.ftp_ends.specs.Ear.{ear}
use Rattle.ftp_ends.specs.Reply.{reply_limit}
use Rattle.ftp_ends.specs.declared.link.Wants.{Wants}
use Rattle.ftp_ends.specs.declared.link.Wants.TheVariants as Want
use Rattle.ftp_operation.specs.Answer.{Said}
use Rattle.ftp_reply.specs.Lines.{Text}
use Rattle.ftp_reply.specs.Reader.{Between, GoesOn, Says, Faulty, Heard, line_heard}
use Rattle.ftp_command.specs.declared.command.Command.TheVariants as Commands
use Rattle.ftp_client_model.specs.Calls.{control_end, event_taken, events_taken, hears, hears_octet, is_busy, is_busy_job, is_sound, line_taken, link_wants, may_hear, report_of, report_of_job, reports, wants}
use Rattle.ftp_client_model.specs.Dialogue.{answered, greeted, judged_reply, login_ends, pass_answered, sends, stand_answered, user_answered}
use Rattle.ftp_client_model.specs.Replies.{Verdict, Preliminary, Completion, Intermediate, Negative, Closing, Displaced, verdict_of}
use Rattle.ftp_client_model.specs.View.{Idle, Job, Told, View, dropped, fails, fails_by, silent, strange}
use Rattle.ftp_client_model.specs.declared.client.Failure.{Failure}
use Rattle.ftp_client_model.specs.declared.client.Failure.TheVariants as Failures
use Rattle.ftp_client_model.specs.declared.client.Standing.{Standing}
use Rattle.ftp_client_model.specs.declared.client.Standing.TheVariants as Stands
use Rattle.ftp_client_model.specs.declared.client.ClientLink.{ClientLink}
use Rattle.ftp_client_model.specs.declared.client.ClientLink.TheVariants as Data

-- the job, once its report is taken
abbrev pub idle_of : Job → Job
idle_of (Told answer) = Idle
idle_of job = job

-- the client, once its report is taken
abbrev pub taken : View → View
taken v = record v { job = idle_of v.job }

-- taking it is that
pub reports_is : (v : View) → reports v ≡ taken v
reports_is v = by_job v.job
  where
    by_job : (job : Job) → reports (record v { job = job }) ≡ taken (record v { job = job })
    by_job (Told answer) = refl
    by_job job = refl

-- it has no report
pub taken_none : (v : View) → report_of (taken v) ≡ None
taken_none v = by_job v.job
  where
    by_job : (job : Job) → report_of (taken (record v { job = job })) ≡ None
    by_job (Told answer) = refl
    by_job job = refl

-- and wants the same
pub taken_wants : (v : View) → wants (taken v) ≡ wants v
unfolding wants
taken_wants v = by_job v.job v.connection
  where
    by_job : (job : Job) (connection : ClientLink) → wants (taken (record v { job = job; connection = connection }))
        ≡ wants (record v { job = job; connection = connection })
    by_job (Told answer) Data.Open = refl
    by_job (Told answer) connection = refl
    by_job job connection = refl

-- ---- two that differ in their report alone

-- this is what both hold but for the report
record Both (answer : Said) (told idle : View) : Type 0 where
  pub both : View
  pub told_is : told ≡ record both { job = Told answer }
  pub idle_is : idle ≡ record both { job = Idle }

-- whatever is done to both
abbrev Goes : Said → (View → View) → View → Type 0
Goes answer does v = Both answer (does (record v { job = Told answer })) (does (record v { job = Idle }))

module _ (answer : Said) where
  -- one thing after another
  goes_then : (does next : View → View) (v : View) → Goes answer does v → ((u : View) → Goes answer next u) → Goes answer (λ u. next (does u)) v
  goes_then does next v first rest = let second = rest first.both in
      record { both = second.both; told_is = ap next first.told_is ∙ second.told_is; idle_is = ap next first.idle_is ∙ second.idle_is }

  -- a failure
  fails_goes : (failure : Failure) (v : View) → Goes answer (fails failure) v
  fails_goes failure v = by v.standing
    where
      by : (standing : Standing) →
          Both answer (fails_by standing failure (record v { job = Told answer })) (fails_by standing failure (record v { job = Idle }))
      by (Stands.Failed before) = record { both = v; told_is = refl; idle_is = refl }
      by standing = record { both = record (silent (dropped v)) { standing = Stands.Failed failure; run = None }; told_is = refl; idle_is = refl }

  -- the end of the login
  login_goes : (v : View) → Goes answer login_ends v
  login_goes v = record { both = record v { standing = Stands.Entered }; told_is = refl; idle_is = refl }

  -- the greeting
  greeted_goes : (verdict : Verdict) (code : ℕ) (v : View) → Goes answer (greeted verdict code) v
  greeted_goes Completion code v = record { both = sends (Commands.User v.user) (record v { standing = Stands.User }); told_is = refl; idle_is = refl }
  greeted_goes Preliminary code v = by (code == 120)
    where
      by : (b : Bool) → Goes answer (λ u. if b then u else strange u) v
      by true = record { both = v; told_is = refl; idle_is = refl }
      by false = fails_goes Failures.Strange v
  greeted_goes verdict code v = fails_goes Failures.Strange v

  -- the answer to USER
  user_goes : (verdict : Verdict) (v : View) → Goes answer (user_answered verdict) v
  user_goes Intermediate v = record { both = sends (Commands.Pass v.pass) (record v { standing = Stands.Pass }); told_is = refl; idle_is = refl }
  user_goes Completion v = login_goes v
  user_goes Negative v = login_goes v
  user_goes verdict v = fails_goes Failures.Strange v

  -- the answer to PASS
  pass_goes : (verdict : Verdict) (v : View) → Goes answer (pass_answered verdict) v
  pass_goes Completion v = login_goes v
  pass_goes Negative v = login_goes v
  pass_goes verdict v = fails_goes Failures.Strange v

  -- a reply, by how far the client has come
  stand_goes : (standing : Standing) (verdict : Verdict) (code : ℕ) (texts : List Text) (v : View)
      → Goes answer (stand_answered standing verdict code texts) v
  stand_goes Stands.Greeting verdict code texts v = greeted_goes verdict code v
  stand_goes Stands.User verdict code texts v = user_goes verdict v
  stand_goes Stands.Pass verdict code texts v = pass_goes verdict v
  stand_goes Stands.Entered verdict code texts v = fails_goes Failures.Strange v
  stand_goes (Stands.Failed failure) verdict code texts v = record { both = v; told_is = refl; idle_is = refl }

  -- a reply, by its first digit
  judged_goes : (verdict : Verdict) (code : ℕ) (texts : List Text) (v : View) → Goes answer (judged_reply verdict code texts) v
  judged_goes Closing code texts v = fails_goes Failures.Lost v
  judged_goes Displaced code texts v = fails_goes Failures.Strange v
  judged_goes verdict code texts v = stand_goes v.standing verdict code texts v

  -- a reply
  answered_goes : (code : ℕ) (texts : List Text) (v : View) → Goes answer (answered code texts) v
  unfolding answered
  answered_goes code texts v = judged_goes (verdict_of code) code texts v

  -- a line
  line_goes : (heard : Heard) (v : View) → Goes answer (line_taken heard) v
  line_goes (GoesOn gathered) v = record { both = record v { gathered = gathered }; told_is = refl; idle_is = refl }
  line_goes (Says code texts) v = answered_goes code texts (record v { gathered = Between })
  line_goes (Faulty fault) v = fails_goes Failures.Strange v

  -- what an octet says
  event_goes : (event : NvtEvent) (v : View) → Goes answer (event_taken event) v
  event_goes (line text) v = line_goes (line_heard v.gathered text) v
  event_goes too_long v = fails_goes Failures.Strange v
  event_goes (owed octets) v = record { both = record v { owed = v.owed ++ octets }; told_is = refl; idle_is = refl }

  -- all that it says
  events_goes : (events : List NvtEvent) (v : View) → Goes answer (events_taken events) v
  events_goes [] v = record { both = v; told_is = refl; idle_is = refl }
  events_goes (event ∷ events) v = goes_then (event_taken event) (events_taken events) v (event_goes event v) (events_goes events)

  -- an octet
  octet_goes : (octet : ℕ) (v : View) → Goes answer (λ u. hears_octet u octet) v
  octet_goes octet v = events_goes ((ear reply_limit).out v.ear octet) (record v { ear = (ear reply_limit).step v.ear octet })

  -- octets
  hears_goes : (octets : List ℕ) (v : View) → Goes answer (λ u. hears u octets) v
  hears_goes [] v = record { both = v; told_is = refl; idle_is = refl }
  hears_goes (octet ∷ octets) v = goes_then (λ u. hears_octet u octet) (λ u. hears u octets) v (octet_goes octet v) (hears_goes octets)

-- ---- octets that are heard after a report

-- what comes of them, whether it was taken before them or is taken after them
pub record HearsAlike (octets : List ℕ) (v : View) : Type 0 where
  pub may : may_hear (hears (taken v) octets) ≡ may_hear (hears v octets)
  pub view : taken (hears (taken v) octets) ≡ taken (hears v octets)
  pub report : option_to_list (report_of v) ++ option_to_list (report_of (hears (taken v) octets)) ≡ option_to_list (report_of (hears v octets))
  pub wants : wants (hears (taken v) octets) ≡ wants (hears v octets)

-- so octets are heard alike before and after it is taken
pub hears_alike : (octets : List ℕ) (v : View) → HearsAlike octets v
hears_alike octets v = by_job v.job
  where
    by_told : (answer : Said) → Goes answer (λ u. hears u octets) v → HearsAlike octets (record v { job = Told answer })
    by_told answer goes = record {
      may = ap may_hear goes.idle_is ∙ sym (ap may_hear goes.told_is);
      view = ap taken goes.idle_is ∙ sym (ap taken goes.told_is);
      report = ap (λ u. answer ∷ option_to_list (report_of u)) goes.idle_is ∙ sym (ap (λ u. option_to_list (report_of u)) goes.told_is);
      wants = ap wants goes.idle_is ∙ taken_wants (record goes.both { job = Told answer }) ∙ sym (ap wants goes.told_is);
    }

    by_job : (job : Job) → HearsAlike octets (record v { job = job })
    by_job (Told answer) = by_told answer (hears_goes answer octets v)
    by_job job = record { may = refl; view = refl; report = refl; wants = refl }

-- ---- a client that has none to report

-- once taken, none is left to take
pub taken_twice : (v : View) → taken (taken v) ≡ taken v
taken_twice v = by_job v.job
  where
    by_job : (job : Job) → taken (taken (record v { job = job })) ≡ taken (record v { job = job })
    by_job (Told answer) = refl
    by_job job = refl

-- a client that is not busy has none
pub free_same : (v : View) → is_busy v ≡ false → taken v ≡ v
free_same v free = by_job v.job free
  where
    by_job : (job : Job) → is_busy_job job ≡ false → taken (record v { job = job }) ≡ record v { job = job }
    by_job (Told answer) e = absurd (true≢false e)
    by_job job e = refl

-- nor anything to report
pub free_none : (v : View) → is_busy v ≡ false → report_of v ≡ None
free_none v free = by_job v.job free
  where
    by_job : (job : Job) → is_busy_job job ≡ false → report_of_job job ≡ None
    by_job (Told answer) e = absurd (true≢false e)
    by_job job e = refl

-- one that wants nothing wants no close
pub none_closing : (v : View) → wants v ≡ Want.Nothing → v.closing ≡ false
unfolding wants
none_closing v e = by v.closing e
  where
    is_close : Wants → Bool
    is_close Want.CloseData = true
    is_close other = false

    by : (closing : Bool) → (if closing then Want.CloseData else (if is_sound v.standing then link_wants v.connection v else Want.CloseAll))
        ≡ Want.Nothing → closing ≡ false
    by true e = absurd (true≢false (ap is_close e))
    by false e = refl

-- ---- the end of the control connection, after a report

-- what comes of it, whether the report was taken before it or is taken after it
pub cut_alike : (v : View)
    → option_to_list (report_of v) ++ option_to_list (report_of (control_end (taken v))) ≡ option_to_list (report_of (control_end v))
unfolding control_end
cut_alike v = by_job v.job
  where
    Alike : View → Type 0
    Alike u = option_to_list (report_of u) ++ option_to_list (report_of (fails Failures.Lost (taken u))) ≡ option_to_list (report_of (fails Failures.Lost u))

    by_told : (answer : Said) → Goes answer (fails Failures.Lost) v → Alike (record v { job = Told answer })
    by_told answer goes = ap (λ u. answer ∷ option_to_list (report_of u)) goes.idle_is ∙ sym (ap (λ u. option_to_list (report_of u)) goes.told_is)

    by_job : (job : Job) → Alike (record v { job = job })
    by_job (Told answer) = by_told answer (fails_goes answer Failures.Lost v)
    by_job job = refl
