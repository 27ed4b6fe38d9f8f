-- What asks nothing of who hears it: lines, replies and the answers WONT and DONT (RFC 854); and that such octets make no more to do for the client.
use Rattle.std.proofs.Common.{map, length, ◌≡◌, ℕ, suc, ◌<◌, inl, inr, List, [], ◌∷◌, ◌++◌, true, false, ◌==◌, refl, sym, ap, subst, ◌∙◌, take, append-nil, arith}
use Rattle.std.specs.Prelude.{IsTrue, nat_le}
use Rattle.std.specs.List.{flat_map}
use Rattle.std.proofs.lemmas.Bool.{and_parts, cond_both}
use Rattle.ftp_nvt.proofs.FoldLemmas.{ends}
use Rattle.ftp_nvt.specs.Lines.{NvtEvent, line, too_long, owed, written_line, written_octet}
use Rattle.ftp_nvt.specs.Telnet.{TelnetUnit, data_octet, option, owed_of, place_behind, place_from, unit_ended}
use Rattle.ftp_nvt.specs.declared.line.Stage.{Stage}
use Rattle.ftp_nvt.specs.declared.line.Stage.TheVariants as Lined
use Rattle.ftp_nvt.specs.declared.line.TheConstants.{LF, CR}
use Rattle.ftp_nvt.specs.declared.telnet.TelnetState.{TelnetState}
use Rattle.ftp_nvt.specs.declared.telnet.TelnetState.TheVariants as At
use Rattle.ftp_nvt.specs.declared.telnet.TheConstants.{IAC, WONT, DONT}
use Rattle.ftp_ends.specs.Ear.{Ear, Unfinished, ear_out, ear_step, line_out, unit_says, within_out}
use Rattle.ftp_ends.specs.Reply.{Reply, reply_octets}
use Rattle.ftp_reply.specs.Reply.{written}
use Rattle.ftp_reply.specs.Reader.{line_heard}
use Rattle.ftp_client_model.specs.Calls.{event_taken, events_taken, hears, hears_octet, is_sound, may_hear, reply_limit}
use Rattle.ftp_client_model.specs.View.{View}
use Rattle.laws_settling.specs.Steady.{AskNothing, NoneAsked}
use Rattle.ftp_client_model.proofs.ClientBounds.{Low, both, same, strange_low}
use Rattle.ftp_client_model.proofs.ClientCalls.{line_low}
use Rattle.laws_settling.proofs.NearApart.{events_keep}
use Rattle.laws_settling.proofs.NearApart as keeps

-- ---- rows

-- octets that ask nothing, and more of them
asked_append : (a b : List ℕ) (at : TelnetState) → NoneAsked at a → NoneAsked (place_from at a) b → NoneAsked at (a ++ b)
asked_append [] b at x y = y
asked_append (octet ∷ a) b at x y = (x.0, asked_append a b (place_behind at octet) x.1 y)

-- a front of such octets
pub asked_front : (a b : List ℕ) (at : TelnetState) → NoneAsked at (a ++ b) → NoneAsked at a
asked_front [] b at x = tt
asked_front (octet ∷ a) b at x = (x.0, asked_front a b (place_behind at octet) x.1)

-- where octets end, and more of them
pub place_append : (a b : List ℕ) (at : TelnetState) → place_from at (a ++ b) ≡ place_from (place_from at a) b
place_append [] b at = refl
place_append (octet ∷ a) b at = place_append a b (place_behind at octet)

-- octets that ask nothing, as whole units
abbrev pub Calm : List ℕ → Type 0
Calm octets = AskNothing At.Between octets

-- such octets behind others
pub ask_more : (at : TelnetState) (a b : List ℕ) → AskNothing at a → Calm b → AskNothing at (a ++ b)
ask_more at a b x c = record {
  none = asked_append a b at x.none (subst (λ place. NoneAsked place b) (sym x.rest) c.none);
  rest = place_append a b at ∙ ap (λ place. place_from place b) x.rest ∙ c.rest;
}

-- no octets
pub calm_nil : Calm []
calm_nil = record { none = tt; rest = refl }

-- an octet that is no IAC
plain_octet : (octet : ℕ) → (octet == IAC) ≡ false → Calm (octet ∷ [])
plain_octet octet is = record { none = (rw is refl, tt); rest = rw is refl }

-- an octet of a line, as it is written: IAC is doubled, and a CR has its NUL
calm_octet : (octet : ℕ) → Calm (written_octet octet)
calm_octet octet =
    cond_both (octet == IAC) _ _ Calm (λ is. record { none = (refl, (refl, tt)); rest = refl })
    (λ is. cond_both (octet == CR) _ _ Calm (λ cr. record { none = (refl, (refl, tt)); rest = refl }) (λ cr. plain_octet octet is))

-- a row of such texts
calm_flat : {A : Type 0} (f : A → List ℕ) → ((x : A) → Calm (f x)) → (xs : List A) → Calm (flat_map f xs)
calm_flat f each [] = calm_nil
calm_flat f each (x ∷ xs) = ask_more At.Between (f x) (flat_map f xs) (each x) (calm_flat f each xs)

-- a written line
pub calm_line : (text : List ℕ) → Calm (written_line text)
calm_line text = ask_more At.Between (flat_map written_octet text) (CR ∷ LF ∷ []) (calm_flat written_octet calm_octet text) (record { none = (refl, (refl, tt)); rest = refl })

-- a reply, whatever its texts are
pub calm_reply : (reply : Reply) → Calm (reply_octets reply)
calm_reply reply = calm_flat written_line calm_line (written reply.code reply.lines)

-- the answer to DO
pub calm_wont : (octet : ℕ) → Calm (IAC ∷ WONT ∷ octet ∷ [])
calm_wont octet = record { none = (refl, (refl, (refl, tt))); rest = refl }

-- the answer to WILL
pub calm_dont : (octet : ℕ) → Calm (IAC ∷ DONT ∷ octet ∷ [])
calm_dont octet = record { none = (refl, (refl, (refl, tt))); rest = refl }

-- ---- the client hears what asks nothing

-- no event is owed an answer
abbrev pub IsPlain : NvtEvent → Type 0
IsPlain (line text) = Unit {0}
IsPlain too_long = Unit {0}
IsPlain (owed answer) = ⊥

-- so it is of each
abbrev pub ArePlain : List NvtEvent → Type 0
ArePlain [] = Unit {0}
ArePlain (event ∷ events) = IsPlain event × ArePlain events

-- and of two rows
plain_append : (a b : List NvtEvent) → ArePlain a → ArePlain b → ArePlain (a ++ b)
plain_append [] b x y = y
plain_append (event ∷ a) b x y = (x.0, plain_append a b x.1 y)

-- an octet of a line says nothing that is owed an answer
within_plain : (u : Unfinished) (c : ℕ) → ArePlain (within_out reply_limit u c)
within_plain u c =
    cond_both (u.count == reply_limit) _ _ ArePlain (λ is. (tt, tt)) (λ is. cond_both (c == LF) _ _ ArePlain (λ lf. (tt, tt)) (λ lf. tt))

-- at each place in a line
line_plain : (stage : Stage) (u : Unfinished) (c : ℕ) → ArePlain (line_out reply_limit stage u c)
line_plain Lined.Past u c = tt
line_plain stage u c = within_plain u c

-- an option that asks nothing
option_plain : (verb c : ℕ) (u : Unfinished) → owed_of (option verb c) ≡ [] → ArePlain (unit_says reply_limit u (option verb c))
option_plain verb c u is = subst (λ (answers : List (List ℕ)). ArePlain (map owed answers)) (sym is) tt

-- a unit that asks nothing
unit_plain : (u : Unfinished) (unit : TelnetUnit) → owed_of unit ≡ [] → ArePlain (unit_says reply_limit u unit)
unit_plain u (data_octet c) is = plain_append (line_out reply_limit u.stage u c ++ []) [] (plain_append (line_out reply_limit u.stage u c) [] (line_plain u.stage u c) tt) tt
unit_plain u (option verb c) is = option_plain verb c u is
unit_plain u unit is = tt

-- an octet that ends no unit that asks
out_plain : (e : Ear) (c : ℕ) → flat_map owed_of (unit_ended e.place c) ≡ [] → ArePlain (ear_out reply_limit e c)
out_plain e c none =
    let P : List TelnetUnit → Type 0 = λ units. ArePlain (flat_map (unit_says reply_limit e.line) units) in
    elim (ends e.place c) [
      | inl f ↦ subst P (sym f) tt
      | inr f ↦ (let one : owed_of f.0 ≡ [] = sym (append-nil (owed_of f.0)) ∙ ap (λ units. flat_map owed_of units) (sym f.1) ∙ none in
          subst P (sym f.1) (plain_append (unit_says reply_limit e.line f.0) [] (unit_plain e.line f.0 one) tt))
    ]

-- such an event makes no more to do
event_low : (event : NvtEvent) (v : View) → IsPlain event → Low v (event_taken event v)
event_low (line text) v plain = line_low (line_heard v.gathered text) v
event_low too_long v plain = strange_low v
event_low (owed answer) v plain = absurd plain

-- so do such events
events_low : (events : List NvtEvent) (v : View) → ArePlain events → Low v (events_taken events v)
events_low [] v plain = same v
events_low (event ∷ events) v plain = both 0 v (event_taken event v) (events_taken events (event_taken event v)) (event_low event v plain.0) (events_low events (event_taken event v) plain.1)

-- so does such an octet
octet_low : (v : View) (octet : ℕ) → flat_map owed_of (unit_ended v.ear.place octet) ≡ [] → Low v (hears_octet v octet)
octet_low v octet none =
    let heard : View = record v { ear = ear_step reply_limit v.ear octet } in
    let low = events_low (ear_out reply_limit v.ear octet) heard (out_plain v.ear octet none) in
    record { begins = low.begins; gives = low.gives }

-- a sound client has heard on
pub octet_place : (v : View) (octet : ℕ) → is_sound (hears_octet v octet).standing ≡ true
    → (is_sound v.standing ≡ true) × ((hears_octet v octet).ear.place ≡ place_behind v.ear.place octet)
octet_place v octet sound =
    let heard : View = record v { ear = ear_step reply_limit v.ear octet } in
    let k = events_keep (ear_out reply_limit v.ear octet) heard heard (keeps.same heard) in
    let kept = k.sound sound in
    (kept.0, ap (λ (e : Ear). e.place) kept.1)

-- a client that may hear is sound
pub sound_hears : (v : View) → IsTrue (may_hear v) → is_sound v.standing ≡ true
sound_hears v may = (and_parts (is_sound v.standing) (nat_le (length v.owed) 1024) may).0

-- octets that ask nothing, each of which may be taken
pub hears_low : (n : ℕ) (queue : List ℕ) (v : View) → ((k : ℕ) → k < n → IsTrue (may_hear (hears v (take k queue))))
    → (is_sound v.standing ≡ true → NoneAsked v.ear.place queue) → Low v (hears v (take n queue))
hears_low (suc n) (octet ∷ queue) v may none =
    let now = none (sound_hears v (may 0 (omega arith))) in
    let u : View = hears_octet v octet in
    both 0 v u (hears u (take n queue)) (octet_low v octet now.0)
    (hears_low n queue u (λ k less. may (suc k) (omega (arith, less))) (λ sound. subst (λ place. NoneAsked place queue) (sym (octet_place v octet sound).1) now.1))
hears_low n queue v may none = same v
