-- Octets, one after another.
use Rattle.std.proofs.Common.{◌≡◌, ℕ, ◌+◌, ◌<◌, Bool, true, false, ◌||◌, List, [], ◌∷◌, ◌++◌, refl, sym, ap, ◌∙◌, append-nil, append_assoc, get_or, length, take}
use Rattle.std.specs.Prelude.{if◌then◌else◌}
use Rattle.std.proofs.lemmas.List.{take_more}
use Rattle.ftp_server_model.specs.Machine.{Reading, hears_octet}
use Rattle.ftp_server_model.specs.View.{View}
use Rattle.tool_dialogue.specs.Dialogue.{Talk, is_refusal, runs, said, served_twice, talk_of, talks, told, turn}

-- ---- one octet

-- what was heard, served and said is a turn
pub turned_by : (read : Reading) (v heard mid new : View) (text more : List ℕ) (was is : Bool) (octet : ℕ) → runs v ≡ true
    → heard ≡ hears_octet read v octet → mid ≡ served_twice heard → new ≡ said mid → more ≡ text ++ mid.owed → is ≡ (was || is_refusal mid.owed)
    → (before : List ℕ) → talk_of new (before ++ more) is ≡ turn read (talk_of v (before ++ text) was) octet
unfolding turn
turned_by read v heard mid new text more was is octet running hears serves says texts refuses before =
    let from : mid ≡ served_twice (hears_octet read v octet) = serves ∙ ap served_twice hears in
    rw running (
    ap (λ w. talk_of w (before ++ more) is) says
    ∙ ap (λ l. talk_of (said mid) l is) (ap (λ l. before ++ l) texts ∙ sym (append_assoc before text mid.owed))
    ∙ ap (λ b. talk_of (said mid) ((before ++ text) ++ mid.owed) b) refuses
    ∙ ap (λ w. told w (talk_of v (before ++ text) was)) from)

-- behind QUIT nothing turns
pub unturned : (read : Reading) (talk : Talk) (octet : ℕ) → runs talk.view ≡ false → turn read talk octet ≡ talk
unfolding turn
unturned read talk octet over = rw over refl

-- ---- octets

pub talks-append : (read : Reading) (talk : Talk) (xs ys : List ℕ) → talks read talk (xs ++ ys) ≡ talks read (talks read talk xs) ys
talks-append read talk [] ys = refl
talks-append read talk (x ∷ xs) ys = talks-append read (turn read talk x) xs ys

pub talks-over : (read : Reading) (talk : Talk) (xs : List ℕ) → runs talk.view ≡ false → talks read talk xs ≡ talk
talks-over read talk [] over = refl
talks-over read talk (x ∷ xs) over = ap (λ t. talks read t xs) (unturned read talk x over) ∙ talks-over read talk xs over

-- what is said goes on from what was said
pub turn-grows : (read : Reading) (talk : Talk) (octet : ℕ) → (rest : List ℕ) × ((turn read talk octet).text ≡ talk.text ++ rest)
unfolding turn
turn-grows read talk octet = by (runs talk.view)
  where
    by : (b : Bool) → (rest : List ℕ) × ((if b then told (served_twice (hears_octet read talk.view octet)) talk else talk).text ≡ talk.text ++ rest)
    by true = ((served_twice (hears_octet read talk.view octet)).owed, refl)
    by false = ([], sym (append-nil talk.text))

pub talks-grow : (read : Reading) (talk : Talk) (octets : List ℕ) → (rest : List ℕ) × ((talks read talk octets).text ≡ talk.text ++ rest)
talks-grow read talk [] = ([], sym (append-nil talk.text))
talks-grow read talk (octet ∷ octets) =
    let one = turn-grows read talk octet in
    let more = talks-grow read (turn read talk octet) octets in
    (one.0 ++ more.0, more.1 ∙ ap (λ l. l ++ more.0) one.1 ∙ append_assoc talk.text one.0 more.0)

-- one octet more of a piece
pub talks_more : (read : Reading) (talk now next : Talk) (piece : List ℕ) (i : ℕ) → i < length piece → now ≡ talks read talk (take i piece)
    → next ≡ turn read now (get_or piece i 0) → next ≡ talks read talk (take (i + 1) piece)
talks_more read talk now next piece i in_it is turns =
    turns ∙ ap (λ t. turn read t (get_or piece i 0)) is ∙ sym (talks-append read talk (take i piece) (get_or piece i 0 ∷ []))
    ∙ ap (talks read talk) (sym (take_more piece i 0 in_it))
