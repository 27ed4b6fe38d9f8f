-- What a drive says of some turns, of a control connection in memory.
use Rattle.std.proofs.Common.{◌≡◌, ◌⊎◌, inl, inr, ℕ, Bool, true, false, length, ◌<◌, List, [], ◌∷◌, Option, Some, None, refl, sym, subst, ap, ◌∙◌}
use Rattle.std.specs.Prelude.{⊤, not}
use Rattle.std.specs.declared.result.Result.{Result}
use Rattle.std.specs.declared.result.Result.TheVariants.{Ok, Err}
use Rattle.ftp_ports.specs.Actions.{Other, Stand}
use Rattle.ftp_ports.specs.Driving.{Leads}
use Rattle.ftp_ports.specs.Machine.{Closed, Left}
use Rattle.ftp_ports.specs.declared.cause.Cause.{Cause}
use Rattle.ftp_driver.specs.declared.drive.Turned.{Turned}
use Rattle.ftp_driver.specs.declared.drive.Turned.TheVariants as Turns
use Rattle.ftp_client_driver.specs.Driving.{Ceases, ClientFinishes, ClientMakesTurns as NearMakes}
use Rattle.ftp_client_driver.specs.Side.{Report, client_side}
use Rattle.ftp_client_driver.specs.declared.drive.Driven.{Driven}
use Rattle.ftp_operation.specs.Answer.{said_of}
use Rattle.ftp_operation.specs.declared.answer.Answer.{Answer}
use Rattle.ftp_server_driver.specs.alone.Driving.{GivesUp, MakesTurns}
use Rattle.ftp_server_driver.specs.alone.Side.{server_side}
use Rattle.std.specs.Option.{option_map}
use Rattle.ftp_pair_memory.specs.steps.Turning.{FarTurned, Goes_on, IsFarCourse, IsNearCourse, IsReported, IsUnbroken, NearTurned, Reports}
use Rattle.ftp_pair_memory.specs.declared.steps.turn_ending.Course.{Course}
use Rattle.ftp_pair_memory.specs.declared.steps.turn_ending.Course.TheVariants as Courses
use Rattle.ftp_pair_memory.specs.declared.steps.turn_ending.Stop.TheVariants as Stops
use Rattle.ftp_pair_memory.proofs.steps.Quieting.{Tells, speaks_by}

-- what was found not to be unheard, and what was
heard_all : (found : Bool) → not found ≡ true → found ≡ false
heard_all false e = refl
heard_all true e = sym e

heard_some : (found : Bool) → not found ≡ false → found ≡ true
heard_some true e = refl
heard_some false e = sym e

-- a client's drive that did not break off ended so
pub by_report : {A : Type 0} (course : Course (Answer A)) (turned : Turned (Driven A)) (report : Option (Answer A)) (is_heard : Bool)
    → turned ≡ Turns.Over (record { report = report; off = None }) → IsReported course report is_heard → IsNearCourse course turned is_heard
by_report (Courses.Over answer) turned report is_heard is reported =
    (is ∙ ap (λ r. Turns.Over (record { report = r; off = None })) reported.0, reported.1)
by_report Courses.On turned report is_heard is reported = absurd reported
by_report (Courses.Off Stops.Unheard) turned report is_heard is reported =
    (Reports reported.0.0 (is ∙ ap (λ r. Turns.Over (record { report = r; off = None })) reported.0.1), reported.1)
by_report (Courses.Off Stops.Done) turned report is_heard is reported = is ∙ ap (λ r. Turns.Over (record { report = r; off = None })) reported
by_report (Courses.Off (Stops.Broken cause)) turned report is_heard is reported = absurd reported
by_report (Courses.Off Stops.Unmet) turned report is_heard is reported = absurd reported
by_report (Courses.Off Stops.Unknown) turned report is_heard is reported = absurd reported

-- ---- the client

module _ {A : Type 0} where
  near_on : (most : ℕ) (failed : Bool) (old new : Stand client_side) (turned : Turned (Driven A)) → NearMakes most failed old new turned
      → (turned ≡ Turns.Later) ⊎ (turned ≡ Turns.More) → Leads old new
  near_on most failed old new turned makes (inl is) = subst (λ t. NearMakes most failed old new t) is makes
  near_on most failed old new turned makes (inr is) =
      let far = subst (λ t. NearMakes most failed old new t) is makes in far.leads

  -- its last actions, of which a report is the answer
  near_over : (most : ℕ) (failed : Bool) (old new : Stand client_side) (turned : Turned (Driven A)) (answer : Answer A) → NearMakes most failed old new turned
      → turned ≡ Turns.Over (record { report = Some answer; off = None }) → ClientFinishes (Some (said_of answer)) old new
  near_over most failed old new turned answer makes is = subst (λ t. NearMakes most failed old new t) is makes

  -- a report is none where its drive did not break off
  never_done : (most : ℕ) (failed : Bool) (old new : Stand client_side) (turned : Turned (Driven A)) → NearMakes most failed old new turned
      → turned ≡ Turns.Over (record { report = None; off = None }) → ⊥
  never_done most failed old new turned makes is =
      let finishes : ClientFinishes None old new = subst (λ t. NearMakes most failed old new t) is makes in
      never finishes.answer finishes.answered
    where
      never : {S : Type 0} (answer : S) → None ≡ Some answer → ⊥
      never answer e = cc

  -- one that did not break off led there
  near_unbroken : (most : ℕ) (failed : Bool) (old new : Stand client_side) (turned : Turned (Driven A)) → NearMakes most failed old new turned
      → IsUnbroken turned → Leads old new
  near_unbroken most failed old new turned makes (Reports answer is) =
      let finishes = near_over most failed old new turned answer makes is in
      record { actions = Other Closed ∷ Other (Left finishes.asked) ∷ Other (Report (Some (said_of answer))) ∷ finishes.actions; led = finishes.led }
  near_unbroken most failed old new turned makes (Goes_on is) = near_on most failed old new turned makes is

  -- it broke off for this cause
  near_ceased : (most : ℕ) (failed : Bool) (old new : Stand client_side) (turned : Turned (Driven A)) (cause : Cause) (report : Option (Answer A))
      → NearMakes most failed old new turned → turned ≡ Turns.Over (record { report = report; off = Some cause })
      → Ceases cause failed old new (option_map said_of report)
  near_ceased most failed old new turned cause report makes is = subst (λ t. NearMakes most failed old new t) is makes

  pub near_turned : (most : ℕ) (failed : Bool) (old new : Stand client_side) (turned : Turned (Driven A)) (course : Course (Answer A)) (found : Bool)
      (came left before after : List ℕ) → NearMakes most failed old new turned → IsNearCourse course turned (not found)
      → Tells old new came left before after → (found ≡ false → new.unheard ≡ [])
      → (found ≡ true → 0 < length new.unheard) → NearTurned course old.owner new.owner came left before after
  near_turned most failed old new turned (Courses.Over answer) found came left before after makes is tells heard some =
      let finishes = near_over most failed old new turned answer makes is.0 in
      record {
        asked = finishes.asked;
        midst = finishes.actions;
        speaks = speaks_by _ old new came left before after finishes.led tells (heard (heard_all found is.1));
      }
  near_turned most failed old new turned Courses.On found came left before after makes is tells heard some =
      let leads = near_on most failed old new turned makes is.0 in
      record { actions = leads.actions; speaks = speaks_by leads.actions old new came left before after leads.led tells (heard (heard_all found is.1)) }
  near_turned most failed old new turned (Courses.Off (Stops.Broken cause)) found came left before after makes is tells heard some = record {
    start = old;
    now = new;
    failed = failed;
    said = option_map said_of is.0;
    ceases = near_ceased most failed old new turned cause is.0 makes is.1;
    begins = refl;
    ends = refl;
    none = tells.none;
  }
  near_turned most failed old new turned (Courses.Off Stops.Unheard) found came left before after makes is tells heard some = record {
    start = old;
    now = new;
    leads = near_unbroken most failed old new turned makes is.0;
    begins = refl;
    ends = refl;
    none = tells.none;
    unheard = some (heard_some found is.1);
  }
  near_turned most failed old new turned (Courses.Off Stops.Done) found came left before after makes is tells heard some =
      absurd (never_done most failed old new turned makes is)
  near_turned most failed old new turned (Courses.Off Stops.Unmet) found came left before after makes is tells heard some = absurd is
  near_turned most failed old new turned (Courses.Off Stops.Unknown) found came left before after makes is tells heard some = absurd is

-- ---- the server

far_on : (most : ℕ) (failed : Bool) (old new : Stand server_side) (turned : Result (Turned ⊤) Cause) → MakesTurns most failed old new turned
    → (turned ≡ Ok Turns.Later) ⊎ (turned ≡ Ok Turns.More) → Leads old new
far_on most failed old new turned makes (inl is) = subst (λ t. MakesTurns most failed old new t) is makes
far_on most failed old new turned makes (inr is) =
    let far = subst (λ t. MakesTurns most failed old new t) is makes in far.leads

-- one that did not break off led there
far_unbroken : (most : ℕ) (failed : Bool) (old new : Stand server_side) (whole : Turned ⊤) → MakesTurns most failed old new (Ok whole) → Leads old new
far_unbroken most failed old new (Turns.Over over) makes = record { actions = Other (Left makes.asked) ∷ makes.actions; led = makes.led }
far_unbroken most failed old new Turns.Later makes = makes
far_unbroken most failed old new Turns.More makes = makes.leads

-- it broke off for this cause
far_gave_up : (most : ℕ) (failed : Bool) (old new : Stand server_side) (turned : Result (Turned ⊤) Cause) (cause : Cause) → MakesTurns most failed old new turned
    → turned ≡ Err cause → GivesUp cause failed old new
far_gave_up most failed old new turned cause makes is = subst (λ t. MakesTurns most failed old new t) is makes

pub far_turned : (most : ℕ) (failed : Bool) (old new : Stand server_side) (turned : Result (Turned ⊤) Cause) (course : Course ⊤) (found : Bool)
    (came left before after : List ℕ) → MakesTurns most failed old new turned → IsFarCourse course turned (not found)
    → Tells old new came left before after → (found ≡ false → new.unheard ≡ [])
    → (found ≡ true → 0 < length new.unheard) → FarTurned course old.owner new.owner came left before after
far_turned most failed old new turned (Courses.Over over) found came left before after makes is tells heard some =
    let finishes = subst (λ t. MakesTurns most failed old new t) is.0 makes in
    record {
      asked = finishes.asked;
      midst = finishes.actions;
      speaks = speaks_by _ old new came left before after finishes.led tells (heard (heard_all found is.1));
      over = finishes.over;
    }
far_turned most failed old new turned Courses.On found came left before after makes is tells heard some =
    let leads = far_on most failed old new turned makes is.0 in
    record { actions = leads.actions; speaks = speaks_by leads.actions old new came left before after leads.led tells (heard (heard_all found is.1)) }
far_turned most failed old new turned (Courses.Off (Stops.Broken cause)) found came left before after makes is tells heard some = record {
  start = old;
  now = new;
  failed = failed;
  gives_up = far_gave_up most failed old new turned cause makes is;
  begins = refl;
  ends = refl;
  none = tells.none;
}
far_turned most failed old new turned (Courses.Off Stops.Unheard) found came left before after makes is tells heard some = record {
  start = old;
  now = new;
  leads = far_unbroken most failed old new is.0.0 (subst (λ t. MakesTurns most failed old new t) is.0.1 makes);
  begins = refl;
  ends = refl;
  none = tells.none;
  unheard = some (heard_some found is.1);
}
far_turned most failed old new turned (Courses.Off Stops.Done) found came left before after makes is tells heard some = absurd is
far_turned most failed old new turned (Courses.Off Stops.Unmet) found came left before after makes is tells heard some = absurd is
far_turned most failed old new turned (Courses.Off Stops.Unknown) found came left before after makes is tells heard some = absurd is
