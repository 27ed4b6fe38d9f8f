-- What a world does for its ends after an event, where neither wants anything: nothing, but that the report is taken.
use Rattle.std.proofs.Common.{◌≡◌, ◌≢◌, ◌⊎◌, inl, inr, ℕ, zero, suc, Bool, true, false, List, [], ◌∷◌, ◌++◌, Some, None, refl, sym, ap, subst, ◌∙◌}
use Rattle.ftp_ends.specs.Reply.{Reply}
use Rattle.ftp_operation.specs.Answer.{Said}
use Rattle.ftp_operation.specs.declared.op.Op.{Op}
use Rattle.ftp_direct.specs.Direct.{State}
use Rattle.ftp_client_model.specs.Calls as near
use Rattle.ftp_client_model.specs.Calls.{is_sound, is_busy_job, report_of, report_of_job}
use Rattle.ftp_client_model.specs.View.{View as Near, Idle}
use Rattle.ftp_client_model.proofs.RepliesInFlight as replies
use Rattle.ftp_ends.specs.declared.link.Wants.TheVariants as Want
use Rattle.ftp_server_model.specs.Calls as far
use Rattle.ftp_server_model.specs.Machine.{Reading}
use Rattle.ftp_server_model.specs.View.{View as Far, Transfer}
use Rattle.ftp_server_model.specs.declared.session.ServerLink.{ServerLink}
use Rattle.ftp_server_model.specs.declared.session.ServerLink.TheVariants as FarData
use Rattle.ftp_tree.specs.Tree.{Table}
use Rattle.laws_world.specs.Serving.{near_served_by, far_served_by, near_served, far_served, served, collected_by, collected, after_event}
use Rattle.laws_world.specs.World.{World}
use Rattle.laws_dialogues.specs.Stage.{calm, Way, Asking, Answering, rest, AreWritten, Leads}
use Rattle.laws_dialogues.specs.Dialogue.{NearWaits, FarWaits, is_set_aside, Passes, Ends, resting, told}
use Rattle.laws_dialogues.specs.Login.{LoginPlace, Greets, AsksUser, WantsPass, AsksPass, Answers, standing_in_login, way_at_login, LogsIn, AtFree, AtOperation}
use Rattle.laws_agreement.specs.Cut.{Cut, FlowsRow, Fits, coming, world_at, PlacedAt, of_ends, StandsAt}
use Rattle.laws_agreement.proofs.Chunks.{both_empty}

-- ---- nothing is wanted

-- a client that waits wants nothing
pub near_wants : (n : Near) → NearWaits n → near.wants n ≡ Want.Nothing
unfolding near.wants
near_wants n w = rw (w.closing, w.sound, w.connection) refl

-- where the server is at no transfer, serving what its link wants changes nothing
pub far_unserved : (connection : ServerLink Transfer) (w : World) → is_set_aside connection ≡ true → far_served_by (far.wants_of connection) w ≡ w
far_unserved FarData.Free w aside = refl
far_unserved FarData.Passive w aside = refl
far_unserved (FarData.Active endpoint) w aside = refl
far_unserved FarData.Ready w aside = absurd (cc)
far_unserved (FarData.Asked asked) w aside = absurd (cc)
far_unserved (FarData.Opening transfer way) w aside = absurd (cc)
far_unserved (FarData.Transferring transfer) w aside = absurd (cc)

-- a server that waits wants just what its link wants
pub far_wants : (f : Far) → FarWaits f → far.wants f ≡ far.wants_of f.session.connection
far_wants f w = rw (w.closing, w.life) refl

-- neither end wants anything
pub record IsStill (w : World) : Type 0 where
  pub near : NearWaits w.near
  pub far : FarWaits w.far

-- where neither end wants anything, serving changes nothing
pub served_as_is : (w : World) → IsStill w → served w ≡ w
served_as_is w waits =
    let n : near_served w ≡ w = ap (λ q. near_served_by q w) (near_wants w.near waits.near) in
    let f : far_served w ≡ w = ap (λ q. far_served_by q w) (far_wants w.far waits.far) ∙ far_unserved w.far.session.connection w waits.far.aside in
    ap (λ u. far_served (far_served (far_served (near_served (near_served u))))) n
    ∙ ap (λ u. far_served (far_served (far_served (near_served u)))) n ∙ ap (λ u. far_served (far_served (far_served u))) n
    ∙ ap (λ u. far_served (far_served u)) f ∙ ap (λ u. far_served u) f ∙ f

-- where neither end wants anything and there is no report, nothing is done after an event
pub after_as_is : (w : World) → IsStill w → report_of w.near ≡ None → after_event w ≡ w
after_as_is w waits none = ap collected (served_as_is w waits) ∙ ap (λ o. collected_by o w) none

-- where neither end wants anything, and there is a report, it is taken and nothing else is done
pub after_reports : (w : World) (answer : Said) → IsStill w → report_of w.near ≡ Some answer
    → after_event w ≡ record w { near = near.reports w.near; reports = w.reports ++ answer ∷ [] }
after_reports w answer waits some = ap collected (served_as_is w waits) ∙ ap (λ o. collected_by o w) some

-- ---- the client, whatever it has heard of a unit

-- it is as it was, but for what it hears
pub record IsLike (n v : Near) : Type 0 where
  pub standing : v.standing ≡ n.standing
  pub job : v.job ≡ n.job
  pub run : v.run ≡ n.run
  pub connection : v.connection ≡ n.connection
  pub closing : v.closing ≡ n.closing
  pub owed : v.owed ≡ []

-- whatever a client has heard of the first reply of a row, it is as it was but for that, and owes nothing
pub row_like : (n : Near) (rows : List Reply) (held incoming : List ℕ) → AreWritten rows → FlowsRow rows held incoming → IsLike n (near.hears (calm n) held)
row_like n [] held incoming fine flow =
    subst (λ l. IsLike n (near.hears (calm n) l)) (sym flow.0) (record { standing = refl; job = refl; run = refl; connection = refl; closing = refl; owed = refl })
row_like n (reply ∷ more) held incoming fine flow =
    let is = ((replies.reply_is_heard reply.code reply.lines (calm n) fine.0 (record { ear = refl; gathered = refl })).cut held flow.more flow.octet flow.whole).is in
    record {
      standing = ap (λ v. v.standing) is;
      job = ap (λ v. v.job) is;
      run = ap (λ v. v.run) is;
      connection = ap (λ v. v.connection) is;
      closing = ap (λ v. v.closing) is;
      owed = ap (λ v. v.owed) is;
    }

-- what both ends of a stage are in its world
pub record IsSeen (b w : World) : Type 0 where
  pub standing : w.near.standing ≡ b.near.standing
  pub job : w.near.job ≡ b.near.job
  pub run : w.near.run ≡ b.near.run
  pub connection : w.near.connection ≡ b.near.connection
  pub closing : w.near.closing ≡ b.near.closing
  pub session : w.far.session ≡ b.far.session
  pub waiting : w.far.waiting ≡ None

-- in the world of a way and a cut that fit, both ends are what they are in its base
pub seen_at : (b : World) (way : Way) (c : Cut) → Fits way c → IsSeen b (world_at b way c)
seen_at b (Asking text) c fits =
    record { standing = refl; job = refl; run = refl; connection = refl; closing = refl; session = refl; waiting = refl }
seen_at b (Answering rows) c fits =
    let like = row_like b.near rows c.held (coming c) fits.0 fits.1 in
    record { standing = like.standing; job = like.job; run = like.run; connection = like.connection; closing = like.closing; session = refl; waiting = refl }

-- in a world that is placed at some stage, both ends are what they are in its base
pub seen_placed : (At : Way → World → Type 0) (w : World) → (s : PlacedAt At w) → IsSeen s.base w
seen_placed At w s = subst (IsSeen s.base) (sym s.is) (seen_at s.base s.way s.cut s.fits)

-- in a world whose ends stand at some stage, both ends are what they are in its base
pub seen : (At : Way → Near → Far → Type 0) (w : World) → (s : StandsAt At w) → IsSeen s.base w
seen At w s = seen_placed (of_ends At) w s

-- where both ends are what they are in a base in which both wait, neither wants anything
pub still_as : (b w : World) → IsSeen b w → NearWaits b.near → FarWaits b.far → IsStill w
still_as b w seen near far = record {
  near = record { sound = ap is_sound seen.standing ∙ near.sound; connection = seen.connection ∙ near.connection; closing = seen.closing ∙ near.closing };
  far = record {
    aside = ap (λ s. is_set_aside s.connection) seen.session ∙ far.aside;
    closing = ap (λ s. s.closing) seen.session ∙ far.closing;
    life = ap (λ s. s.life) seen.session ∙ far.life;
  };
}

-- ---- both ends of each stage

-- neither wants anything, and the map is one of two
pub record AreSet (before after : Table) (n : Near) (f : Far) : Type 0 where
  pub near : NearWaits n
  pub far : FarWaits f
  pub table : (f.session.table ≡ before) ⊎ (f.session.table ≡ after)

-- at each place of a login the client is sound
sound_place : (place : LoginPlace) → is_sound (standing_in_login place) ≡ true
sound_place Greets = refl
sound_place AsksUser = refl
sound_place WantsPass = refl
sound_place AsksPass = refl
sound_place (Answers admitted true) = refl
sound_place (Answers admitted false) = refl

-- during a login neither end wants anything, and the map is that of the state
pub logging_set : (state : State) (after : Table) (place : LoginPlace) (n : Near) (f : Far) → LogsIn state place n f → AreSet state.table after n f
logging_set state after place n f logs = record {
  near = record { sound = ap is_sound logs.standing ∙ sound_place place; connection = logs.connection; closing = logs.closing };
  far = logs.far;
  table = inl logs.table;
}

-- a client that rests waits
pub resting_waits : (n : Near) → n ≡ resting n → NearWaits n
resting_waits n is =
    let waits : NearWaits (resting n) = record { sound = refl; connection = refl; closing = refl } in
    subst NearWaits (sym is) waits

-- a client that has told its answer waits
pub told_waits : (said : Said) (n : Near) → n ≡ told said n → NearWaits n
told_waits said n is =
    let waits : NearWaits (told said n) = record { sound = refl; connection = refl; closing = refl } in
    subst NearWaits (sym is) waits

-- where no operation is under way, neither end wants anything, and the map is that of the state
pub free_set : (state : State) (way : Way) (n : Near) (f : Far) → AtFree state way n f → AreSet state.table state.table n f
free_set state way n f (inl (logging, idle)) = logging_set state state.table logging.place n f logging.logs
free_set state way n f (inr (is, entered, stands)) = record { near = resting_waits n entered; far = stands.far; table = inl stands.sees.table }

-- where no operation is under way, the client has no job
pub free_job : (state : State) (way : Way) (n : Near) (f : Far) → AtFree state way n f → n.job ≡ Idle
free_job state way n f (inl (logging, idle)) = idle
free_job state way n f (inr (is, entered, stands)) = ap (λ v. v.job) entered

-- an operation is under way, or it is answered
pub record IsMoving (before after : Table) (way : Way) (n : Near) (f : Far) : Type 0 where
  pub set : AreSet before after n f
  pub busy : is_busy_job n.job ≡ true
  pub untold : report_of_job n.job ≡ None
  pub some : way ≢ rest

-- something is on its way
abbrev pub is_some_way : Way → Bool
is_some_way (Answering []) = false
is_some_way way = true

-- what leads to a result is under way with something on its way, or nothing is on its way and it is answered
leads_on : (read : Reading) (before : Table) (result : Said × State) (left : ℕ) (way : Way) (n : Near) (f : Far)
    → Leads read (Passes before result.1.table) (Ends result) left way n f → IsMoving before result.1.table way n f ⊎ ((way ≡ rest) × Ends result n f)
leads_on read before result zero (Answering []) n f leads = inr (refl, leads)
leads_on read before result zero (Answering (reply ∷ more)) n f leads = absurd leads
leads_on read before result zero (Asking text) n f leads = absurd leads
leads_on read before result (suc left) (Answering []) n f leads = absurd leads
leads_on read before result (suc left) (Answering (reply ∷ more)) n f leads =
    inl (record { set = record { near = leads.0.near; far = leads.0.far; table = leads.0.table }; busy = leads.0.busy; untold = leads.0.untold; some = λ e. no_reply e })
  where
    no_reply : Answering (reply ∷ more) ≡ rest → ⊥
    no_reply e = let f : true ≡ false = ap is_some_way e in cc
leads_on read before result (suc left) (Asking text) n f leads =
    inl (record { set = record { near = leads.0.near; far = leads.0.far; table = leads.0.table }; busy = leads.0.busy; untold = leads.0.untold; some = λ e. no_line e })
  where
    no_line : Asking text ≡ rest → ⊥
    no_line e = let f : true ≡ false = ap is_some_way e in cc

-- at each place of a login something is on its way
pub way_some : (place : LoginPlace) (n : Near) (way : Way) → way ≡ way_at_login place n → way ≢ rest
way_some place n way is e = let f : true ≡ false = sym (place_some place) ∙ ap is_some_way (sym is ∙ e) in cc
  where
    place_some : (place : LoginPlace) → is_some_way (way_at_login place n) ≡ true
    place_some Greets = refl
    place_some AsksUser = refl
    place_some WantsPass = refl
    place_some AsksPass = refl
    place_some (Answers admitted to_pass) = refl

-- an operation is under way with something on its way, or nothing is on its way and it is answered
pub operation_on : (read : Reading) (state : State) (op : Op (List ℕ)) (result : Said × State) (way : Way) (n : Near) (f : Far) → AtOperation read state op result way n f
    → IsMoving state.table result.1.table way n f ⊎ ((way ≡ rest) × Ends result n f)
operation_on read state op result way n f (inl (logging, waiting)) = inl (record {
  set = logging_set state result.1.table logging.place n f logging.logs;
  busy = ap is_busy_job waiting;
  untold = ap report_of_job waiting;
  some = way_some logging.place n way logging.way_is;
})
operation_on read state op result way n f (inr (left, leads)) = leads_on read state.table result left way n f leads

-- ---- nothing is on its way

-- no octet is
abbrev pub no_octets : Cut
no_octets = record { held = []; moving = []; owed = [] }

-- where a world is placed with nothing on its way, no octet is on its way in it either
pub rest_placed : (At : Way → World → Type 0) (w : World) → (s : PlacedAt At w) → s.way ≡ rest → w ≡ world_at s.base rest no_octets
rest_placed At w s way =
    let both : (w ≡ world_at s.base rest s.cut) × Fits rest s.cut = subst (λ v. (w ≡ world_at s.base v s.cut) × Fits v s.cut) way (s.is, s.fits) in
    let none = both_empty s.cut.moving s.cut.owed both.1.1.1 in
    let empty : s.cut ≡ no_octets = λ i. record { held = both.1.1.0 i; moving = none.0 i; owed = none.1 i } in
    both.0 ∙ ap (world_at s.base rest) empty

-- where the ends stand with nothing on its way, no octet is on its way in the world either
pub rest_world : (At : Way → Near → Far → Type 0) (w : World) → (s : StandsAt At w) → s.way ≡ rest → w ≡ world_at s.base rest no_octets
rest_world At w s way = rest_placed (of_ends At) w s way
