-- What a call makes of a server in which no line waits.
use Rattle.std.proofs.Common.{◌≡◌, ◌≢◌, ◌⊎◌, inl, inr, ℕ, ◌≤◌, ◌<◌, true, false, [], ◌∷◌, length, None, take, refl, sym, ap, subst, ◌∙◌, arith}
use Rattle.std.specs.Prelude.{if◌then◌else◌}
use Rattle.ftp_tree.specs.Change.{Failures}
use Rattle.ftp_ends.specs.declared.link.Wants.{Wants}
use Rattle.ftp_ends.specs.declared.link.Wants.TheVariants as Want
use Rattle.ftp_server.specs.Busy.{is_opening}
use Rattle.ftp_server.specs.Server.{counts_of}
use Rattle.ftp_server.specs.declared.server.Server.{Server as Held}
use Rattle.ftp_server_model.proofs.CountLemmas.{same_counts, sure_course}
use Rattle.ftp_server_model.specs.Calls.{close_step, connection_of, control_step, data_closed, data_refused, gives_control, listening, listening_step, refused_step, wants}
use Rattle.ftp_server_model.specs.Failing.{KeepsCourse, Late, WaitingFails}
use Rattle.ftp_server_model.specs.Far.{Acts, Hears, Server}
use Rattle.ftp_server_model.specs.Machine.{IsReading, Reading, hears_octet}
use Rattle.ftp_server_model.specs.View.{View}
use Rattle.tool_dialogue.proofs.FreeLemmas.{listens_stays, none_later, refuses_stays}
use Rattle.tool_dialogue.specs.Dialogue.{does, said, serves}

-- over a tree whose device never strays
pub sure : {A T J : Type 0} → (failures : T → Failures) → ((tree : T) → (failures tree).strays ≡ 0) → (old new : Held A T J)
    → KeepsCourse (counts_of failures old) (counts_of failures new)
sure failures never old new = sure_course (counts_of failures old) (counts_of failures new) (never old.session.tree) (never new.session.tree)

-- ---- a call of the data connection, or of the octets that are owed

-- where no line waits, it is its step
pub acts_as : (step : View → View) (old new : Server) → KeepsCourse old.counts new.counts → Acts step old new → (step old.view).waiting ≡ None → new.view ≡ step old.view
acts_as step old new course acts none = by (same_counts new.counts old.counts)
  where
    late : ⊥ ⊎ Late (step old.view) new.view → new.view ≡ step old.view
    late (inl wrong) = absurd wrong
    late (inr (inl is)) = is ∙ none_later (step old.view) none
    late (inr (inr fails)) = absurd (subst (λ w. WaitingFails w (step old.view) new.view) none fails)

    by : (new.counts ≡ old.counts) ⊎ (new.counts ≢ old.counts) → new.view ≡ step old.view
    by (inl same) = acts.done same ∙ none_later (step old.view) none
    by (inr differ) = late (acts.failed course differ)

-- ---- an octet

-- one octet was given, and one was heard
pub one_heard : (octet count : ℕ) (old new : Server) → Hears (take count (octet ∷ [])) old new → count ≤ 1 → 0 < count → new.counts ≡ old.counts
    → (read : Reading) → IsReading read → new.view ≡ hears_octet read old.view octet
one_heard octet count old new hears within some same read reading =
    let one : count ≡ 1 = omega (arith, within, some) in
    (subst (λ n. Hears (take n (octet ∷ [])) old new) one hears read reading).done same

-- ---- what is wanted

-- doing what is wanted serves
pub served_as : (v w : View) (want : Wants) → wants v ≡ want → w ≡ does want v → w ≡ serves v
unfolding serves
served_as v w want is done = done ∙ ap (λ x. does x v) (sym is)

-- a port is told
pub listens : (old new : Server) → KeepsCourse old.counts new.counts → Acts (listening_step 1930) old new → old.view.waiting ≡ None → new.view ≡ listening 1930 old.view
unfolding listening
listens old new course acts none =
    let silent = (listens_stays (connection_of old.view.session) 1930 old.view none).waiting in
    acts_as (listening_step 1930) old new course acts silent ∙ sym (none_later (listening_step 1930 old.view) silent)

-- an opening is refused
pub connects : (old new : Server) → KeepsCourse old.counts new.counts → Acts refused_step old new → old.view.waiting ≡ None → new.view ≡ data_refused old.view
unfolding data_refused
connects old new course acts none =
    let silent = (refuses_stays (connection_of old.view.session) old.view none).waiting in
    acts_as refused_step old new course acts silent ∙ sym (none_later (refused_step old.view) silent)

-- a close is done
pub closes : (old new : Server) → KeepsCourse old.counts new.counts → Acts close_step old new → old.view.waiting ≡ None → new.view ≡ data_closed old.view
unfolding data_closed
closes old new course acts none = acts_as close_step old new course acts none ∙ sym (none_later (close_step old.view) none)

-- an opening of a port that a transfer waits for is refused
pub accepts : (v w : View) → is_opening v.session.connection ≡ true → w ≡ data_refused v → w ≡ does Want.Accept v
accepts v w opening done = done ∙ ap (λ b. if b then data_refused v else v) (sym opening)

-- any other is left
pub waits : (v : View) → is_opening v.session.connection ≡ false → v ≡ does Want.Accept v
waits v free = ap (λ b. if b then data_refused v else v) (sym free)

-- ---- what is owed

-- all that is owed was given
pub gives : (count : ℕ) (old new : Server) → KeepsCourse old.counts new.counts → Acts (control_step count) old new → old.view.waiting ≡ None → count ≡ length old.view.owed → new.view ≡ said old.view
unfolding gives_control
gives count old new course acts none all =
    acts_as (control_step count) old new course acts none ∙ ap (λ n. control_step n old.view) all
    ∙ sym (none_later (control_step (length old.view.owed) old.view) none)

-- where nothing is to be done that this server does, it is left
pub left_as : (v : View) (want : Wants) → wants v ≡ want → (want ≡ Want.Nothing) ⊎ ((want ≡ Want.Receive) ⊎ ((want ≡ Want.Send) ⊎ (want ≡ Want.CloseAll))) → v ≡ serves v
left_as v want is (inl e) = served_as v v Want.Nothing (is ∙ e) refl
left_as v want is (inr (inl e)) = served_as v v Want.Receive (is ∙ e) refl
left_as v want is (inr (inr (inl e))) = served_as v v Want.Send (is ∙ e) refl
left_as v want is (inr (inr (inr e))) = served_as v v Want.CloseAll (is ∙ e) refl
