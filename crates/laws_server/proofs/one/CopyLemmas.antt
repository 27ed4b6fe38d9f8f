-- A server and its copy at a root, after the same call of `Far`.
use Rattle.std.proofs.Common.{◌≡◌, ℕ, List, [], ◌∷◌, refl, sym, ap, subst, ◌∙◌, true≢false}
use Rattle.ftp_path.specs.Path.{Names}
use Rattle.ftp_server_model.specs.Calls.{MayReceive, break_step, clock_step, close_step, control_end, control_step, end_step, given_step, listening_step, may_receive, no_port_step, opened_step, receives, receives_octet, refused_step, to_give, wants}
use Rattle.ftp_server_model.specs.Failing.{EndFails, GiveFails}
use Rattle.ftp_server_model.specs.Far.{Hears, Receives, Server, Steps}
use Rattle.ftp_server_model.specs.Machine.{IsReading, Reading, hears, hears_octet, later, may_hear}
use Rattle.ftp_server_model.specs.Play.{HearsAt, IsAt, at_root}
use Rattle.ftp_server_model.specs.View.{View}
use Rattle.laws_server.specs.one.Apart.{CallsStayApart, CopiesLookAlike, IsCopy, LeavesCopy, StartsAreCopies}
use Rattle.laws_server.proofs.one.HeardLemmas.{hears_at, known_between, octet_taken_at}
use Rattle.laws_server.proofs.one.TurnLemmas.{IsHeld}
use Rattle.laws_server.proofs.one.PartLemmas.{StepAt, ViewAt, acts_at, break_at, clock_at, close_at, control_at, control_end_at, end_at, given_at, listening_at, no_port_at, opened_at, refused_step_at, stays}

-- a view that came of another, as new views are, and the same at the root
leaves : (root : Names) (v one its new its_new : View) → new ≡ one → its_new ≡ its → ViewAt root v one its → LeavesCopy root v new its_new
leaves root v one its new its_new is its_is at =
    subst (λ (x : View). LeavesCopy root v x its_new) (sym is)
    (subst (λ (y : View). LeavesCopy root v one y) (sym its_is) (λ known. (record { same = at.same; known = known; held = at.held }, at.apart)))

-- a step, and then the line that waits
acted : (root : Names) (Fails : View → View → Type 0) (step : View → View) (old new its its_new : Server) → IsCopy root old.view its.view → new.counts ≡ old.counts → its_new.counts ≡ its.counts
    → StepAt root old.view (step old.view) (step (at_root root old.view)) → Steps Fails step old new → Steps Fails step its its_new → LeavesCopy root old.view new.view its_new.view
acted root Fails step old new its its_new copy still its_still at is its_is known =
    let v : View = old.view in
    let new_is = is.done still in
    leaves root v (later (step v)) (later (step (at_root root v))) new.view its_new.view new_is (its_is.done its_still ∙ ap (λ (w : View). later (step w)) copy.same)
    (acts_at root v (step v) (step (at_root root v)) at copy.known (subst (IsAt root) new_is known)) known

-- octets that both take
all_heard : (read : Reading) (octets : List ℕ) (root : Names) (v : View) → IsAt root v → IsHeld root v.session → HearsAt read root v octets → ViewAt root v (hears read v octets) (hears read (at_root root v) octets)
all_heard read [] root v before held known = stays root v held
all_heard read (octet ∷ octets) root v before held known =
    let x : View = hears_octet read v octet in
    let first = hears_at read octet root v before held known.0 in
    let rest = all_heard read octets root x known.0 first.held known.1 in
    record { same = ap (λ (u : View). hears read u octets) first.same ∙ rest.same; apart = λ path out. rest.apart path out ∙ first.apart path out; held = rest.held }

all_received : (octets : List ℕ) (root : Names) (v : View) → IsAt root v → IsHeld root v.session → MayReceive v octets → IsAt root (receives v octets)
    → ViewAt root v (receives v octets) (receives (at_root root v) octets)
all_received [] root v before held may known = stays root v held
all_received (octet ∷ []) root v before held may known = octet_taken_at octet root v before held known
all_received (octet ∷ next ∷ octets) root v before held may known =
    let x : View = receives_octet v octet in
    let between = known_between octet root v before held may.1.0 in
    let first = octet_taken_at octet root v before held between in
    let rest = all_received (next ∷ octets) root x between first.held may.1 known in
    record { same = ap (λ (u : View). receives u (next ∷ octets)) first.same ∙ rest.same; apart = λ path out. rest.apart path out ∙ first.apart path out; held = rest.held }

heard_both : (octets : List ℕ) (read : Reading) (root : Names) (old new its its_new : Server) → IsCopy root old.view its.view → new.counts ≡ old.counts → its_new.counts ≡ its.counts
    → Hears octets old new → Hears octets its its_new → IsReading read → HearsAt read root old.view octets → LeavesCopy root old.view new.view its_new.view
heard_both octets read root old new its its_new copy still its_still is its_is reading known =
    let v : View = old.view in
    leaves root v (hears read v octets) (hears read (at_root root v) octets) new.view its_new.view ((is read reading).done still)
    ((its_is read reading).done its_still ∙ ap (λ (w : View). hears read w octets) copy.same) (all_heard read octets root v copy.known copy.held known)

received_both : (octets : List ℕ) (root : Names) (old new its its_new : Server) → IsCopy root old.view its.view → new.counts ≡ old.counts → its_new.counts ≡ its.counts
    → Receives octets old new → Receives octets its its_new → LeavesCopy root old.view new.view its_new.view
received_both octets root old new its its_new copy still its_still is its_is known =
    let v : View = old.view in
    let new_is = is.done still in
    leaves root v (receives v octets) (receives (at_root root v) octets) new.view its_new.view new_is (its_is.done its_still ∙ ap (λ (w : View). receives w octets) copy.same)
    (all_received octets root v copy.known copy.held (is.may still) (subst (IsAt root) new_is known)) known

ended_both : (root : Names) (old new its its_new : Server) → IsCopy root old.view its.view → new ≡ record old { view = control_end old.view } → its_new ≡ record its { view = control_end its.view }
    → LeavesCopy root old.view new.view its_new.view
ended_both root old new its its_new copy is its_is =
    let v : View = old.view in
    leaves root v (control_end v) (control_end (at_root root v)) new.view its_new.view (ap (λ (s : Server). s.view) is) (ap (λ (s : Server). s.view) its_is ∙ ap control_end copy.same) (control_end_at root v)

pub calls_stay_apart : CallsStayApart
calls_stay_apart root old new its its_new copy still its_still =
    let v : View = old.view in
    let never : View → View → Type 0 = λ v w. ⊥ in
    let held : IsHeld root v.session = copy.held in
    record {
      clock = λ moment is its_is. acted root never (clock_step moment) old new its its_new copy still its_still (clock_at moment root v held) is its_is;
      hear = λ octets read is its_is reading known. heard_both octets read root old new its its_new copy still its_still is its_is reading known;
      control_out = λ count is its_is. acted root never (control_step count) old new its its_new copy still its_still (control_at count root v held) is its_is;
      control_ended = λ is its_is. ended_both root old new its its_new copy is its_is;
      listens = λ port is its_is. acted root never (listening_step port) old new its its_new copy still its_still (listening_at port root v held) is its_is;
      no_port = λ is its_is. acted root never no_port_step old new its its_new copy still its_still (no_port_at root v held) is its_is;
      opened = λ host is its_is. acted root never (opened_step host) old new its its_new copy still its_still (opened_at host root v held) is its_is;
      refused = λ is its_is. acted root never refused_step old new its its_new copy still its_still (refused_step_at root v held) is its_is;
      received = λ octets is its_is. received_both octets root old new its its_new copy still its_still is its_is;
      ended = λ is its_is. acted root EndFails end_step old new its its_new copy still its_still (end_at root v held) is its_is;
      broke = λ is its_is. acted root EndFails break_step old new its its_new copy still its_still (break_at root v held) is its_is;
      gave = λ count is its_is. acted root (GiveFails count) (given_step count) old new its its_new copy still its_still (given_at count root v held) is its_is;
      closed = λ is its_is. acted root never close_step old new its its_new copy still its_still (close_at root v held) is its_is;
    }

pub copies_look_alike : CopiesLookAlike
copies_look_alike root v its copy =
    record {
      owed = ap (λ (w : View). w.owed) copy.same;
      to_give = ap (λ (w : View). to_give w) copy.same;
      wants = ap (λ (w : View). wants w) copy.same;
      hears = ap (λ (w : View). may_hear w) copy.same;
      receives = ap (λ (w : View). may_receive w) copy.same;
    }

pub starts_are_copies : StartsAreCopies
starts_are_copies root table accounts here peer = record { same = refl; known = λ is. absurd (true≢false (sym is)); held = λ is. absurd (true≢false (sym is)) }
