-- LinkStates beside channels: what ports know of a data connection in memory, and what is seen of it.
use Rattle.std.proofs.Common.{◌≡◌, ◌∙◌, ℕ, Bool, true, false, true≢false, List, [], ◌∷◌, ◌++◌, Option, Some, None, refl, sym, ap, subst, inl, inr}
use Rattle.std.proofs.Common.{length, length-append, arith}
use Rattle.std.proofs.lemmas.List.{append_cancel_right}
use Rattle.std.specs.Io.KnownBytes.{Appends, Consumes, Keeps}
use Rattle.ftp_ports.specs.Asking as asking
use Rattle.ftp_ports.specs.Asking.{Asked, told_lost}
use Rattle.ftp_ports.specs.Courses.{asked_by}
use Rattle.ftp_ports.specs.Channel as channels
use Rattle.ftp_ports.specs.Channel.{Channel, Move, MovesChannel, IsHad}
use Rattle.ftp_ports.specs.declared.whole.Fate.{Fate}
use Rattle.ftp_endpoint.specs.declared.host.Host.{Host}
use Rattle.laws_drivers.specs.control.Between.{Awaits, Has_ended, Hold}
use Rattle.ftp_pair_memory.specs.streams.LinkState.{LinkState, IsAtLinkState, IsSeen, Knows, LinkRan, Steps, called_by, hold_by, listening, mark}

-- ---- known octets

unwrapped : Option (List ℕ) → List ℕ
unwrapped None = []
unwrapped (Some octets) = octets

pub same_some : (xs ys : List ℕ) → ◌≡◌ {A = Option (List ℕ)} (Some xs) (Some ys) → xs ≡ ys
unfolding unwrapped
same_some xs ys same = ap unwrapped same

-- known octets that are kept are the same
pub kept : (old new : Option (List ℕ)) (xs : List ℕ) → old ≡ Some xs → Keeps old new → new ≡ old
kept old new xs known keeps = by new (subst (λ o. Keeps o new) known keeps) ∙ sym known
  where
    by : (now : Option (List ℕ)) → Keeps (Some xs) now → now ≡ Some xs
    by None keeps = absurd keeps
    by (Some ys) keeps = ap (λ l. Some l) keeps

-- what was consumed stood before what is left
pub consumed : (old new : Option (List ℕ)) (octets xs ys : List ℕ) → old ≡ Some xs → new ≡ Some ys → Consumes old new octets → old ≡ Some (octets ++ ys)
consumed old new octets xs ys before after did =
    before ∙ ap (λ l. Some l) (subst (λ n. Consumes (Some xs) n octets) after (subst (λ o. Consumes o new octets) before did))

pub appended : (old new : Option (List ℕ)) (octets xs ys : List ℕ) → old ≡ Some xs → new ≡ Some ys → Appends old new octets → ys ≡ xs ++ octets
appended old new octets xs ys before after did = subst (λ n. Appends (Some xs) n octets) after (subst (λ o. Appends o new octets) before did)

-- where all is read the peer ended it
pub all_read : (ended : Bool) (came : List ℕ) → came ++ mark ended ≡ [] → (ended ≡ true) × (came ≡ [])
all_read true [] none = (refl, refl)
all_read true (octet ∷ came) none = absurd (omega (arith, ap length none))
all_read false came none = absurd (omega (arith, ap length none, length-append came (mark false)))

-- ---- what is seen

-- as it stands, where this became of it
abbrev pub seen_as : LinkState → Fate → (came went : List ℕ) → LinkState
seen_as known fate came went = record known { hold = hold_by fate; came = came; went = went }

-- what is seen is one link state
pub same_link_state : (channel : Channel) (known one other : LinkState) → IsAtLinkState channel known one → IsAtLinkState channel known other → one ≡ other
same_link_state channel known one other is also = by channel.stands is also
  where
    by : (stands : Bool) → IsSeen stands channel known one → IsSeen stands channel known other → one ≡ other
    by true x y =
        let both = same_some (one.came ++ mark known.ended) (other.came ++ mark known.ended) (sym x.1 ∙ y.1) in
        let came = append_cancel_right one.came other.came (mark known.ended) both in
        let went = same_some one.went other.went (sym x.2 ∙ y.2) in
        x.3 ∙ ap (λ l. seen_as known channel.fate l one.went) came ∙ ap (λ l. seen_as known channel.fate other.came l) went ∙ sym y.3
    by false x y = x.1 ∙ sym y.1

-- two channels that are alike but for octets that are on their way, and for what became of one that its end still has
pub alike : (old new : Channel) (known own : LinkState) → new.stands ≡ old.stands → hold_by new.fate ≡ hold_by old.fate
    → (old.stands ≡ true → (new.left ≡ old.left) × (new.written ≡ old.written)) → IsAtLinkState new known own → IsAtLinkState old known own
alike old new known own stands fates same is = by old.stands refl (subst (λ s. IsSeen s new known own) stands is)
  where
    by : (here : Bool) → old.stands ≡ here → IsSeen here new known own → IsSeen here old known own
    by true e seen =
        let both = same e in
        let with : Hold → LinkState = λ h. record known { hold = h; came = own.came; went = own.went } in
        (seen.0, sym both.0 ∙ seen.1, sym both.1 ∙ seen.2, seen.3 ∙ ap with fates)
    by false e seen = seen

-- how many ports were told
pub counts_same : (channel : Channel) (known own : LinkState) → IsAtLinkState channel known own → own.listens ≡ known.listens
counts_same channel known own is = by channel.stands is
  where
    by : (stands : Bool) → IsSeen stands channel known own → own.listens ≡ known.listens
    by true seen = ap (λ b. b.listens) seen.3
    by false seen = ap (λ b. b.listens) seen.1

-- which host is at the other end
pub host_same : (channel : Channel) (known own : LinkState) → IsAtLinkState channel known own → own.host ≡ known.host
host_same channel known own is = by channel.stands is
  where
    by : (stands : Bool) → IsSeen stands channel known own → own.host ≡ known.host
    by true seen = ap (λ b. b.host) seen.3
    by false seen = ap (λ b. b.host) seen.1

-- whether the peer ended it, where it listens, and whether this end dialled
pub stays : (channel : Channel) (known own : LinkState) → IsAtLinkState channel known own → (own.ended ≡ known.ended) × (own.calls ≡ known.calls) × (own.dialled ≡ known.dialled)
stays channel known own is = by channel.stands is
  where
    by : (stands : Bool) → IsSeen stands channel known own → (own.ended ≡ known.ended) × (own.calls ≡ known.calls) × (own.dialled ≡ known.dialled)
    by true seen = (ap (λ b. b.ended) seen.3, ap (λ b. b.calls) seen.3, ap (λ b. b.dialled) seen.3)
    by false seen = (ap (λ b. b.ended) seen.1, ap (λ b. b.calls) seen.1, ap (λ b. b.dialled) seen.1)

-- ---- what is known of it all along

-- while one stands, what is left to be read of it and what was written are known
abbrev pub IsKnown : Channel → Type 0
IsKnown channel = channel.stands ≡ true → (left written : List ℕ) × (channel.left ≡ Some left) × (channel.written ≡ Some written)

-- so it is where it is seen
pub known_at : (channel : Channel) (known own : LinkState) → IsAtLinkState channel known own → IsKnown channel
known_at channel known own is stands =
    let seen : IsSeen true channel known own = subst (λ s. IsSeen s channel known own) stands is in
    (own.came ++ mark known.ended, own.went, seen.1, seen.2)

still_known : (old new : Option (List ℕ)) (xs : List ℕ) → old ≡ Some xs → Keeps old new → (ys : List ℕ) × (new ≡ Some ys)
still_known old new xs known keeps = (xs, kept old new xs known keeps ∙ known)

after_read : (old new : Option (List ℕ)) (octets xs : List ℕ) → old ≡ Some xs → Consumes old new octets → (ys : List ℕ) × (new ≡ Some ys)
after_read old new octets xs known did = by new (subst (λ o. Consumes o new octets) known did)
  where
    by : (now : Option (List ℕ)) → Consumes (Some xs) now octets → (ys : List ℕ) × (now ≡ Some ys)
    by None did = absurd did
    by (Some ys) did = (ys, refl)

after_write : (old new : Option (List ℕ)) (octets xs : List ℕ) → old ≡ Some xs → Appends old new octets → (ys : List ℕ) × (new ≡ Some ys)
after_write old new octets xs known did = by new (subst (λ o. Appends o new octets) known did)
  where
    by : (now : Option (List ℕ)) → Appends (Some xs) now octets → (ys : List ℕ) × (now ≡ Some ys)
    by None did = absurd did
    by (Some ys) did = (ys, refl)

-- one that is had is known
had_known : (host : Host) (had : Asked) (left written : Option (List ℕ)) (mid last : LinkState) → IsHad host had left written → Steps had mid last
    → (xs ys : List ℕ) × (left ≡ Some xs) × (written ≡ Some ys)
had_known host had left written mid last (inl came) steps =
    let all : Steps (asking.Came host left written) mid last = subst (λ a. Steps a mid last) came steps in
    (mid.came ++ mark mid.ended, mid.went, all.1, all.2)
had_known host had left written mid last (inr connected) steps =
    let all : Steps (asking.Connected connected.0 left written) mid last = subst (λ a. Steps a mid last) connected.1 steps in
    (mark false, [], all.2, all.3)

-- a move leaves it known
pub known_on : (move : Move) (old new : Channel) (first last : LinkState) → MovesChannel move old new → LinkRan first (asked_by move) last → IsKnown old
    → IsKnown new
known_on channels.Stays old new first last same ran known = subst IsKnown (sym same) known
known_on (channels.Waits lost) old new first last waited ran known = λ stands.
    let was = known (sym waited.holds.stands ∙ stands) in
    let left = still_known old.left new.left was.0 was.2 waited.left in
    let written = still_known old.written new.written was.1 was.3 waited.written in
    (left.0, written.0, left.1, written.1)
known_on (channels.Reads octets) old new first last read ran known = λ stands.
    let was = known read.is_open.0 in
    let left = after_read old.left new.left octets was.0 was.2 read.read in
    let written = still_known old.written new.written was.1 was.3 read.written in
    (left.0, written.0, left.1, written.1)
known_on (channels.Writes octets) old new first last wrote ran known = λ stands.
    let was = known wrote.is_open.0 in
    let left = still_known old.left new.left was.0 was.2 wrote.left in
    let written = after_write old.written new.written octets was.1 was.3 wrote.wrote in
    (left.0, written.0, left.1, written.1)
known_on (channels.Gives octets rest) old new first last gave ran known = subst IsKnown (sym gave.0) known
known_on channels.Notes old new first last same ran known = subst IsKnown (sym same) known
known_on (channels.Takes octets) old new first last took ran known = subst IsKnown (sym took.1) known
known_on channels.Fails old new first last failed ran known = subst IsKnown (sym failed.0) known
known_on channels.Ends old new first last end ran known = subst IsKnown (sym end.0) known
known_on channels.Breaks old new first last same ran known = subst IsKnown (sym same) known
known_on channels.Stops old new first last stop ran known = subst IsKnown (sym stop.0) known
known_on (channels.Asks asked) old new first last asks ran known = subst IsKnown (sym asks.1) known
known_on (channels.Opens host asked at_first so_far rest) old new first last had ran known = λ stands.
    let one : LinkRan first (had.had ∷ []) last = subst (λ a. LinkRan first a last) had.alone ran in
    let both = had_known host had.had at_first so_far one.0 last had.is_had one.2 in
    (both.0, both.1, had.left ∙ both.2, had.written ∙ both.3)
known_on (channels.Leaves asked) old new first last left ran known = λ stands. absurd (true≢false (sym stands ∙ left.stands))

-- ---- what is known of the peer all along

-- it listens where it can be called; and where it ended the data connection, all that it wrote was brought
pub record Heeds (known peer : LinkState) : Type 0 where
  pub calls : (port : ℕ) → known.calls ≡ Some port → (called_by known.dialled peer).hold ≡ Awaits port
  pub ended : known.ended ≡ true → ((called_by known.dialled peer).hold ≡ Has_ended) × ((called_by known.dialled peer).went ≡ [])

-- so it is as a turn begins
pub heeds : (channel : Channel) (known own peer : LinkState) → IsAtLinkState channel known own → Knows own peer → Heeds known peer
heeds channel known own peer is knows =
    let same = stays channel known own is in
    let by : called_by known.dialled peer ≡ peer = ap (λ d. called_by d peer) (sym same.2 ∙ knows.undialled) in
    record {
      calls = λ port e. ap (λ (b : LinkState). b.hold) by ∙ knows.calls port (same.1 ∙ e);
      ended = λ e. let all = knows.ended (same.0 ∙ e) in (ap (λ (b : LinkState). b.hold) by ∙ all.0, ap (λ (b : LinkState). b.went) by ∙ all.1);
    }

-- what has the same of it heeds it too
alike_heeds : (old new peer : LinkState) → new.calls ≡ old.calls → new.dialled ≡ old.dialled → new.ended ≡ old.ended → Heeds old peer → Heeds new peer
alike_heeds old new peer calls dialled ended heeds = record {
  calls = λ port e. ap (λ d. (called_by d peer).hold) dialled ∙ heeds.calls port (sym calls ∙ e);
  ended = λ e. let all = heeds.ended (sym ended ∙ e) in (ap (λ d. (called_by d peer).hold) dialled ∙ all.0, ap (λ d. (called_by d peer).went) dialled ∙ all.1);
}

same_heeds : (old new peer : LinkState) → new ≡ old → Heeds old peer → Heeds new peer
same_heeds old new peer same = subst (λ b. Heeds b peer) (sym same)

step_heeds : (asked : Asked) (old new peer : LinkState) → Steps asked old new → Heeds old peer → Heeds new peer
step_heeds (asking.Listened None) old new peer same heeds = same_heeds old new peer same heeds
step_heeds (asking.Listened (Some port)) old new peer steps heeds =
    same_heeds (listening old) new peer steps.2 (record { calls = heeds.calls; ended = heeds.ended })
step_heeds (asking.Came host left written) old new peer steps heeds =
    subst (λ b. Heeds b peer) (sym steps.3) (record { calls = heeds.calls; ended = heeds.ended })
step_heeds asking.NotCame old new peer same heeds = same_heeds old new peer same heeds
step_heeds (asking.Connected endpoint left written) old new peer steps heeds =
    subst (λ b. Heeds b peer) (sym steps.4) (record { calls = λ port e. absurd (no_port port e); ended = λ e. absurd (true≢false (sym e)) })
  where
    no_port : (port : ℕ) → ◌≡◌ {A = Option ℕ} None (Some port) → ⊥
    no_port port e = absurd (cc)
step_heeds (asking.NotConnected endpoint) old new peer same heeds = same_heeds old new peer same heeds
step_heeds (asking.Ended left written) old new peer steps heeds = subst (λ b. Heeds b peer) (sym steps.5) (record { calls = heeds.calls; ended = heeds.ended })
step_heeds (asking.Reset left written) old new peer steps heeds = subst (λ b. Heeds b peer) (sym steps.5) (record { calls = heeds.calls; ended = heeds.ended })
step_heeds asking.Shut old new peer same heeds = same_heeds old new peer same heeds
step_heeds asking.Lost old new peer same heeds = same_heeds old new peer same heeds

-- all that is asked leaves it so
pub heeds_on : (asked : List Asked) (first now peer : LinkState) → LinkRan first asked now → Heeds first peer → Heeds now peer
heeds_on [] first now peer same heeds = same_heeds first now peer same heeds
heeds_on (asked ∷ before) first now peer ran heeds = step_heeds asked ran.0 now peer ran.2 (heeds_on before first ran.0 peer ran.1 heeds)

-- what was asked first, and the rest
pub ran_split : (later before : List Asked) (first now : LinkState) → LinkRan first (later ++ before) now → (mid : LinkState) × LinkRan first before mid × LinkRan mid later now
ran_split [] before first now ran = (now, ran, refl)
ran_split (asked ∷ later) before first now ran =
    let rest = ran_split later before first ran.0 ran.1 in
    (rest.0, rest.1, (ran.0, rest.2, ran.2))
