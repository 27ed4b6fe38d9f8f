-- One octet and one piece, as calls make them.
use Rattle.std.proofs.Common.{◌≡◌, ℕ, ◌≤◌, zero, suc, Bool, true, Option, List, [], ◌∷◌, ◌++◌, length, take, Result, Ok, Err, OnOk, OnErr, refl, sym, ap, subst, ◌∙◌, arith, append-nil}
use Rattle.ftp_ports.proofs.Fronts.{AppendsFront-none}
use Rattle.ftp_ports.specs.Beginning.{AppendsFront}
use Rattle.ftp_server_model.specs.Machine.{IsReading, Reading}
use Rattle.ftp_server_model.specs.View.{View}
use Rattle.tool_dialogue.proofs.FreeLemmas.{Reached, free_again}
use Rattle.tool_dialogue.proofs.TalkLemmas.{talks-grow}
use Rattle.tool_dialogue.specs.Dialogue.{said, served_twice, talk_of, talks}
use Rattle.tool_dialogue.specs.Exchange.{BreaksIn, OctetsAreAnswered}
use Rattle.tool_dialogue.specs.Free.{IsReadyForLine}

-- behind what was heard, served and said the server is free
pub free_behind : (w mid new : View) → Reached w → mid ≡ served_twice w → new ≡ said mid → IsReadyForLine new
free_behind w mid new reached serves says = subst IsReadyForLine (sym (says ∙ ap said serves)) (free_again w reached)

pub take_whole : (i : ℕ) (xs : List ℕ) → length xs ≤ i → take i xs ≡ xs
take_whole zero [] e = refl
take_whole (suc i) [] e = refl
take_whole zero (x ∷ xs) e = absurd (omega (arith, e))
take_whole (suc i) (x ∷ xs) e = ap (λ l. x ∷ l) (take_whole i xs (omega (arith, e)))

pub on_done : {T E P : Type 0} (r : Result T E) → P → OnOk r P
on_done (Ok x) p = p
on_done (Err e) p = tt

pub on_failed : {T E P : Type 0} (r : Result T E) → P → OnErr r P
on_failed (Ok x) p = tt
on_failed (Err e) p = p

-- answers to a piece are gathered from nothing, where no memory was refused
pub answered_by : (piece text cleared : List ℕ) (v w : View) (was is calm : Bool) → cleared ≡ []
    → (calm ≡ true → (read : Reading) → IsReading read → (before : List ℕ) → talk_of w (before ++ text) is ≡ talks read (talk_of v (before ++ cleared) was) piece)
    → calm ≡ true → OctetsAreAnswered piece v was text w is
answered_by piece text cleared v w was is calm none heard still = λ read reading before.
    heard still read reading before ∙ ap (λ l. talks read (talk_of v l was) piece) (ap (λ l. before ++ l) none ∙ append-nil before)

-- nothing of the answers was written
pub breaks_unwritten : (read : Reading) (piece : List ℕ) (v : View) (was : Bool) (before : List ℕ) (held : Option (List ℕ)) → BreaksIn read piece v was before held held
breaks_unwritten read piece v was before held =
    let more = talks-grow read (talk_of v before was) piece in
    record { rest = more.0; whole = more.1; wrote = AppendsFront-none held more.0 }

-- a beginning of them was written
pub breaks_written : (read : Reading) (piece text : List ℕ) (v w : View) (was is : Bool) (before : List ℕ) (held holds : Option (List ℕ)) → IsReading read
    → OctetsAreAnswered piece v was text w is → AppendsFront held holds text → BreaksIn read piece v was before held holds
breaks_written read piece text v w was is before held holds reading answered front =
    record { rest = text; whole = sym (ap (λ t. t.text) (answered read reading before)); wrote = front }

-- so it is where the piece was not answered
pub unwritten : {T E : Type 0} (r : Result T E) (piece : List ℕ) (v : View) (was calm : Bool) (held : Option (List ℕ))
    → OnErr r (calm ≡ true → (read : Reading) → IsReading read → (before : List ℕ) → BreaksIn read piece v was before held held)
unwritten (Ok x) piece v was calm held = tt
unwritten (Err e) piece v was calm held = λ still read reading before. breaks_unwritten read piece v was before held
