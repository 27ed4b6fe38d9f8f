-- One action beside a data connection in memory: from the link state after it the link state before it is found.
use Rattle.std.proofs.Common.{◌≡◌, ◌∙◌, ℕ, Bool, true, false, true≢false, List, [], ◌∷◌, ◌++◌, Option, Some, None, refl, sym, ap, subst, inl, inr, append_assoc}
use Rattle.std.proofs.lemmas.List.{append_cancel_right}
use Rattle.std.specs.Io.KnownBytes.{IsAtEnd}
use Rattle.ftp_endpoint.specs.declared.endpoint.Endpoint.{Endpoint}
use Rattle.ftp_endpoint.specs.declared.host.Host.{Host}
use Rattle.ftp_ends.specs.declared.link.Wants.{Wants}
use Rattle.ftp_ports.specs.Asking as asking
use Rattle.ftp_ports.specs.Asking.{Asked, told_lost}
use Rattle.ftp_ports.specs.Courses.{asked_by}
use Rattle.ftp_ports.specs.Channel as channels
use Rattle.ftp_ports.specs.Channel.{IsEnded, IsHad, IsLeft, IsOpened, IsRead, AreOctetsWritten, Channel, with_asked, with_fate, with_given, with_untold}
use Rattle.ftp_ports.specs.Machine as machine
use Rattle.ftp_ports.specs.Machine.{Call, Called, Held, IsBroken, IsFairEnd, IsConnectionRefused, Machine, move_of}
use Rattle.ftp_ports.specs.Whole.{is_well}
use Rattle.ftp_ports.specs.declared.whole.Fate.{Fate}
use Rattle.ftp_ports.specs.declared.whole.Fate.TheVariants as Fates
use Rattle.ftp_ports.specs.declared.whole.Rest.{Rest}
use Rattle.laws_drivers.specs.control.Between.{Awaits, Between, Can, Has, Hold, IsOver, IsStanding, Ways, Who}
use Rattle.laws_drivers.specs.control.Touches as touches
use Rattle.laws_drivers.specs.control.Touches.{Touch, had_by, touch_of_leaving, touch_of}
use Rattle.laws_world.specs.World.{port_at}
use Rattle.ftp_pair_memory.specs.streams.LinkState.{LinkState, IsAtLinkState, IsSeen, LinkRan, Steps, between_by, called_by, dialling, handed}
use Rattle.ftp_pair_memory.specs.streams.LinkState.{hold_by, listening, mark}
use Rattle.ftp_pair_memory.specs.streams.Order.{CanGo}
use Rattle.ftp_pair_memory.proofs.streams.LinkStates.{Heeds, IsKnown, alike, all_read, appended, consumed, kept, same_some, seen_as}
use Rattle.ftp_pair_memory.proofs.streams.Lying.{accepts_at, breaks_at, dials_at, ends_at, listens_at, over_at, resets_at, takes_at, told_at, writes_at}

-- what is had is not listened for
is_awaited : Hold → Bool
is_awaited (Awaits port) = true
is_awaited other = false

not_awaited : (hold : Hold) (port : ℕ) → hold ≡ Has → hold ≡ Awaits port → ⊥
unfolding is_awaited
not_awaited hold port has awaits = true≢false (sym (ap is_awaited awaits) ∙ ap is_awaited has)

-- one that is well is had still, and any stands
had_well : (fate : Fate) → is_well fate ≡ true → hold_by fate ≡ Has
had_well Fates.Sound well = refl
had_well Fates.Failed well = absurd (true≢false (sym well))
had_well Fates.Broken well = absurd (true≢false (sym well))
had_well Fates.Over well = refl

had_stands : (fate : Fate) → IsStanding (hold_by fate)
had_stands Fates.Sound = tt
had_stands Fates.Failed = tt
had_stands Fates.Broken = tt
had_stands Fates.Over = tt

module _ (who : Who) (peer : LinkState) where
  -- the link state before an action that touches so, by the channel before it and what ports knew then
  pub record Found (touch : Touch) (old : Channel) (known now : LinkState) : Type 0 where
    pub mid : LinkState
    pub is_at : IsAtLinkState old known mid
    pub can : (control : Ways) → CanGo who touch (between_by who mid peer control) (between_by who now peer control)

  -- it is the same, where nothing was touched
  pub idle : (touch : Touch) (old : Channel) (known now : LinkState) → ((between : Between) → Can who touch between between) → IsAtLinkState old known now
      → Found touch old known now
  idle touch old known now rests is = record { mid = now; is_at = is; can = λ control. inl (rests (between_by who now peer control)) }

  -- where what is seen is as it was
  drop_to : (old other new : Channel) (known last now : LinkState) → new ≡ other → last ≡ known → other.stands ≡ old.stands → hold_by other.fate ≡ hold_by old.fate
      → other.left ≡ old.left → other.written ≡ old.written → IsAtLinkState new last now → IsAtLinkState old known now
  drop_to old other new known last now same ran stands fates left written is =
      alike old other known now stands fates (λ e. (left, written)) (subst (λ l. IsAtLinkState l known now) same (subst (λ k. IsAtLinkState new k now) ran is))

  -- this was asked, and it moved nothing
  last_of : (asked : Asked) (known last : LinkState) → ((mid : LinkState) → Steps asked mid last → last ≡ mid) → LinkRan known (asked ∷ []) last → last ≡ known
  last_of asked known last moves ran = moves ran.0 ran.2 ∙ ran.1

  -- ---- a port

  listened : (old new : Channel) (known last now : LinkState) (port : ℕ) → new ≡ with_asked new.asked old
      → LinkRan known (asking.Listened (Some port) ∷ []) last → IsAtLinkState new last now → Found (touches.Listens (Some port)) old known now
  listened old new known last now port same ran is = by old.stands refl (subst (λ l. IsAtLinkState l last now) same is)
    where
      over : IsOver known.hold
      over = subst (λ (b : LinkState). IsOver b.hold) ran.1 ran.2.0

      port_is : port ≡ port_at known.listens
      port_is = ran.2.1 ∙ ap (λ (b : LinkState). port_at b.listens) ran.1

      last_is : last ≡ listening known
      last_is = ran.2.2 ∙ ap listening ran.1

      by : (stands : Bool) → old.stands ≡ stands → IsSeen stands (with_asked new.asked old) last now → Found (touches.Listens (Some port)) old known now
      by true e seen = absurd (not_awaited last.hold (port_at known.listens) seen.0 (ap (λ (b : LinkState). b.hold) last_is))
      by false e seen = record {
        mid = known;
        is_at = subst (λ s. IsSeen s old known known) (sym e) (over, refl);
        can = λ control. inl (subst (λ n. Can who (touches.Listens (Some port)) (between_by who known peer control) (between_by who n peer control))
            (sym (seen.1 ∙ last_is))
            (subst (λ p. Can who (touches.Listens (Some p)) (between_by who known peer control) (between_by who (listening known) peer control)) (sym port_is)
            (listens_at who known (called_by known.dialled peer) control over)));
      }

  -- ---- it is had

  came : (old new : Channel) (known last now : LinkState) (host : Host) (left written : Option (List ℕ)) → old.stands ≡ false → new.stands ≡ true
      → new.fate ≡ Fates.Sound → new.left ≡ left → new.written ≡ written → Steps (asking.Came host left written) known last → IsAtLinkState new last now
      → Found (touches.Accepts host) old known now
  came old new known last now host left written none stands sound new_left new_written steps is =
      let seen : IsSeen true new (handed known) now = subst (λ b. IsSeen true new b now) steps.3 (subst (λ s. IsSeen s new last now) stands is) in
      let came = append_cancel_right now.came known.came (mark known.ended)
      (same_some (now.came ++ mark known.ended) (known.came ++ mark known.ended) (sym seen.1 ∙ new_left ∙ steps.1)) in
      let went = same_some now.went known.went (sym seen.2 ∙ new_written ∙ steps.2) in
      let now_is : now ≡ record known { hold = Has } = seen.3 ∙ ap (λ f. seen_as known f now.came now.went) sound
      ∙ ap (λ l. seen_as known Fates.Sound l now.went) came ∙ ap (λ l. seen_as known Fates.Sound known.came l) went in
      record {
        mid = known;
        is_at = subst (λ s. IsSeen s old known known) (sym none) (subst IsOver (sym steps.0) tt, refl);
        can = λ control. inl (subst (λ n. Can who (touches.Accepts host) (between_by who known peer control) (between_by who n peer control)) (sym now_is)
            (accepts_at who known (called_by known.dialled peer) control host steps.0));
      }

  connected : (old new : Channel) (known last now : LinkState) (endpoint : Endpoint) (left written : Option (List ℕ)) → Heeds known peer → old.stands ≡ false
      → new.stands ≡ true → new.fate ≡ Fates.Sound → new.left ≡ left → new.written ≡ written → Steps (asking.Connected endpoint left written) known last
      → IsAtLinkState new last now
      → Found (touches.Dials endpoint) old known now
  connected old new known last now endpoint left written heeds none stands sound new_left new_written steps is =
      let seen : IsSeen true new (dialling known) now = subst (λ b. IsSeen true new b now) steps.4 (subst (λ s. IsSeen s new last now) stands is) in
      let came = append_cancel_right now.came [] (mark false) (same_some (now.came ++ mark false) (mark false) (sym seen.1 ∙ new_left ∙ steps.2)) in
      let went = same_some now.went [] (sym seen.2 ∙ new_written ∙ steps.3) in
      let now_is : now ≡ dialling known = seen.3 ∙ ap (λ f. seen_as (dialling known) f now.came now.went) sound
      ∙ ap (λ l. seen_as (dialling known) Fates.Sound l now.went) came ∙ ap (λ l. seen_as (dialling known) Fates.Sound [] l) went in
      record {
        mid = known;
        is_at = subst (λ s. IsSeen s old known known) (sym none) (steps.0, refl);
        can = λ control. inl (subst (λ n. Can who (touches.Dials endpoint) (between_by who known peer control) (between_by who n peer control)) (sym now_is)
            (dials_at who known (called_by known.dialled peer) peer control endpoint steps.0 (heeds.calls endpoint.port steps.1)));
      }

  opened : (host : Host) (asked : List Asked) (left written : Option (List ℕ)) (rest : Rest) (old new : Channel) (known last now : LinkState) → Heeds known peer
      → IsOpened host asked left written rest old new → LinkRan known asked last → IsAtLinkState new last now → Found (had_by asked) old known now
  opened host asked left written rest old new known last now heeds did ran is = by did.is_had
    where
      one : LinkRan known (did.had ∷ []) last
      one = subst (λ a. LinkRan known a last) did.alone ran

      steps : Steps did.had known last
      steps = subst (λ b. Steps did.had b last) one.1 one.2

      by : IsHad host did.had left written → Found (had_by asked) old known now
      by (inl e) = subst (λ t. Found t old known now) (sym (ap had_by did.alone ∙ ap (λ a. had_by (a ∷ [])) e))
          (came old new known last now host left written did.none did.stands did.fate did.left did.written (subst (λ a. Steps a known last) e steps) is)
      by (inr at) = subst (λ t. Found t old known now) (sym (ap had_by did.alone ∙ ap (λ a. had_by (a ∷ [])) at.1))
          (connected old new known last now at.0 left written heeds did.none did.stands did.fate did.left did.written
          (subst (λ a. Steps a known last) at.1 steps) is)

  -- none was had
  refused : (want : Wants) (asked : List Asked) (known last : LinkState) → IsConnectionRefused want asked → LinkRan known asked last
      → (last ≡ known) × ((between : Between) → Can who (had_by asked) between between)
  refused want (asking.NotCame ∷ []) known last is ran = (last_of asking.NotCame known last (λ mid same. same) ran, λ between. refl)
  refused want (asking.NotConnected endpoint ∷ []) known last is ran =
      (last_of (asking.NotConnected endpoint) known last (λ mid same. same) ran, λ between. refl)
  refused want other known last is ran = absurd is

  -- ---- octets

  got : (octets : List ℕ) (old new : Channel) (known last now : LinkState) → IsKnown old → IsRead octets old new → last ≡ known
      → IsAtLinkState new last now → Found (touches.Takes octets) old known now
  got octets old new known last now is_known did ran is =
      let seen : IsSeen true new known now = subst (λ s. IsSeen s new known now) (did.stands ∙ did.is_open.0) (subst (λ k. IsAtLinkState new k now) ran is) in
      let was = is_known did.is_open.0 in
      let left = consumed old.left new.left octets was.0 (now.came ++ mark known.ended) was.2 seen.1 did.read in
      let written = kept old.written new.written was.1 was.3 did.written in
      let mid = seen_as known Fates.Sound (octets ++ now.came) now.went in
      let here = seen_as known Fates.Sound now.came now.went in
      let now_is : now ≡ here = seen.3 ∙ ap (λ f. seen_as known f now.came now.went) (did.fate ∙ did.is_open.1) in
      record {
        mid = mid;
        is_at = subst (λ s. IsSeen s old known mid) (sym did.is_open.0) (
          seen.0,
          left ∙ ap (λ l. Some l) (sym (append_assoc octets now.came (mark known.ended))),
          sym written ∙ seen.2,
          ap (λ f. seen_as known f (octets ++ now.came) now.went) (sym did.is_open.1),
        );
        can = λ control. inl (subst (λ n. Can who (touches.Takes octets) (between_by who mid peer control) (between_by who n peer control)) (sym now_is)
            (takes_at who here (called_by known.dialled peer) control octets refl));
      }

  wrote : (octets : List ℕ) (old new : Channel) (known last now : LinkState) → IsKnown old → AreOctetsWritten octets old new
      → last ≡ known → IsAtLinkState new last now → Found (touches.Writes octets) old known now
  wrote octets old new known last now is_known did ran is =
      let seen : IsSeen true new known now = subst (λ s. IsSeen s new known now) (did.stands ∙ did.is_open.0) (subst (λ k. IsAtLinkState new k now) ran is) in
      let was = is_known did.is_open.0 in
      let left = kept old.left new.left was.0 was.2 did.left in
      let went = appended old.written new.written octets was.1 now.went was.3 seen.2 did.wrote in
      let mid = seen_as known Fates.Sound now.came was.1 in
      let now_is : now ≡ seen_as known Fates.Sound now.came (was.1 ++ octets) = seen.3 ∙ ap (λ f. seen_as known f now.came now.went) (did.fate ∙ did.is_open.1)
      ∙ ap (λ l. seen_as known Fates.Sound now.came l) went in
      record {
        mid = mid;
        is_at = subst (λ s. IsSeen s old known mid) (sym did.is_open.0) (
          seen.0,
          sym left ∙ seen.1,
          was.3,
          ap (λ f. seen_as known f now.came was.1) (sym did.is_open.1),
        );
        can = λ control. inl (subst (λ n. Can who (touches.Writes octets) (between_by who mid peer control) (between_by who n peer control)) (sym now_is)
            (writes_at who mid (called_by known.dialled peer) control octets refl));
      }

  -- ---- its end and its break are told

  ended : (old new : Channel) (known last now : LinkState) → Heeds known peer → channels.MovesChannel channels.Ends old new → last ≡ known → IsAtLinkState new last now
      → Found touches.ToldEnd old known now
  ended old new known last now heeds did ran is =
      let at = drop_to old (with_fate Fates.Over old) new known last now did.0 ran refl (ap hold_by (sym did.1.1)) refl refl is in
      let seen : IsSeen true old known now = subst (λ s. IsSeen s old known now) did.1.0 at in
      let all = all_read known.ended now.came (subst IsAtEnd seen.1 did.2) in
      let told = heeds.ended all.0 in
      let same : called_by now.dialled peer ≡ called_by known.dialled peer = ap (λ (b : LinkState). called_by b.dialled peer) seen.3 in
      record {
        mid = now;
        is_at = at;
        can = λ control. inl (told_at who now (called_by now.dialled peer) control (ap (λ (b : LinkState). b.hold) same ∙ told.0) all.1
            (ap (λ (b : LinkState). b.went) same ∙ told.1));
      }

  broke : (want : Wants) (old new : Channel) (known last now : LinkState) → new ≡ with_fate Fates.Broken old → IsBroken want old.stands old.fate
      → last ≡ known → IsAtLinkState new last now → Found touches.ToldBreak old known now
  broke want old new known last now same due ran is =
      by old.stands old.fate refl refl due (subst (λ l. IsAtLinkState l known now) same (subst (λ k. IsAtLinkState new k now) ran is))
    where
      by : (stands : Bool) (fate : Fate) → old.stands ≡ stands → old.fate ≡ fate → IsBroken want stands fate
          → IsSeen stands (with_fate Fates.Broken old) known now → Found touches.ToldBreak old known now
      by true Fates.Failed stands fate due seen =
          let mid = seen_as known Fates.Failed now.came now.went in
          record {
            mid = mid;
            is_at = subst (λ s. IsSeen s old known mid) (sym stands) (seen.0, seen.1, seen.2, ap (λ f. seen_as known f now.came now.went) (sym fate));
            can = λ control. inl (subst (λ n. Can who touches.ToldBreak (between_by who mid peer control) (between_by who n peer control)) (sym seen.3)
                (breaks_at who mid (called_by known.dialled peer) control refl));
          }
      by true Fates.Sound stands fate due seen = absurd (true≢false due.0)
      by true Fates.Broken stands fate due seen = absurd due
      by true Fates.Over stands fate due seen = absurd due
      by false fate stands is_fate due seen = record {
        mid = now;
        is_at = subst (λ s. IsSeen s old known now) (sym stands) seen;
        can = λ control. inr (refl, over_at who now (called_by now.dialled peer) control (subst (λ (b : LinkState). IsOver b.hold) (sym seen.1) seen.0), refl);
      }

  -- ---- it is left

  left : (asked : Asked) (old new : Channel) (known last now : LinkState) → IsLeft asked old new → IsFairEnd old asked → Steps asked known last → IsAtLinkState new last now
      → Found (touch_of_leaving asked) old known now
  left asked old new known last now did fair steps is = by old.stands refl did.ended
    where
      seen : IsSeen false new last now
      seen = subst (λ s. IsSeen s new last now) did.stands is

      by : (stands : Bool) → old.stands ≡ stands → IsEnded stands old.left old.written old.unwritten asked → Found (touch_of_leaving asked) old known now
      by true stands (inl (none, e)) =
          let steps : Steps (asking.Ended old.left old.written) known last = subst (λ a. Steps a known last) e steps in
          let fair : IsFairEnd old (asking.Ended old.left old.written) = subst (IsFairEnd old) e fair in
          let mid = seen_as known old.fate steps.0 steps.1 in
          subst (λ a. Found (touch_of_leaving a) old known now) (sym e) (record {
            mid = mid;
            is_at = subst (λ s. IsSeen s old known mid) (sym stands) (steps.2, steps.3, steps.4, refl);
            can = λ control. inl (subst (λ n. Can who touches.Ends (between_by who mid peer control) (between_by who n peer control)) (sym (seen.1 ∙ steps.5))
                (ends_at who mid (called_by known.dialled peer) control (had_well old.fate fair.2)));
          })
      by true stands (inr e) =
          let steps : Steps (asking.Reset old.left old.written) known last = subst (λ a. Steps a known last) e steps in
          let mid = seen_as known old.fate steps.0 steps.1 in
          subst (λ a. Found (touch_of_leaving a) old known now) (sym e) (record {
            mid = mid;
            is_at = subst (λ s. IsSeen s old known mid) (sym stands) (steps.2, steps.3, steps.4, refl);
            can = λ control. inl (subst (λ n. Can who touches.Resets (between_by who mid peer control) (between_by who n peer control)) (sym (seen.1 ∙ steps.5))
                (resets_at who mid (called_by known.dialled peer) control (had_stands old.fate)));
          })
      by false stands e =
          let same : last ≡ known = subst (λ a. Steps a known last) e steps in
          subst (λ a. Found (touch_of_leaving a) old known now) (sym e) (idle touches.None_of_it old known now (λ between. refl)
          (subst (λ s. IsSeen s old known now) (sym stands) (subst (λ b. IsSeen false old b now) same seen)))

  -- ---- any call

  told_none : (lost : Bool) (known last : LinkState) → LinkRan known (told_lost lost) last → last ≡ known
  told_none true known last ran = last_of asking.Lost known last (λ mid same. same) ran
  told_none false known last ran = ran

  pub found : (end : Machine) (call : Call end.Own) (old new : Held end.Here) (known last now : LinkState) → Called end call old new
      → LinkRan known (asked_by (move_of call)) last → IsKnown old.channel → Heeds known peer
      → IsAtLinkState new.channel last now → Found (touch_of call) old.channel known now
  found end (machine.Aside own) old new known last now did ran is_known heeds is =
      idle touches.None_of_it old.channel known now (λ between. refl) (drop_to old.channel old.channel new.channel known last now did.1 ran refl refl refl refl is)
  found end (machine.Listening port) old new known last now did ran is_known heeds is = listened old.channel new.channel known last now port did.1.1 ran is
  found end (machine.Opened host asked at_first so_far rest) old new known last now did ran is_known heeds is =
      opened host asked at_first so_far rest old.channel new.channel known last now heeds did.1 ran is
  found end (machine.Refused asked) old new known last now did ran is_known heeds is =
      let none = refused (end.wants old.end) asked known last did.2.0 ran in
      idle (had_by asked) old.channel known now none.1
      (drop_to old.channel (with_asked new.channel.asked old.channel) new.channel known last now did.1.1 none.0 refl refl refl refl is)
  found end (machine.Received octets count) old new known last now did ran is_known heeds is =
      idle touches.None_of_it old.channel known now (λ between. refl)
      (drop_to old.channel (with_untold new.channel.untold old.channel) new.channel known last now did.1.1 ran refl refl refl refl is)
  found end (machine.Gave count octets rest) old new known last now did ran is_known heeds is =
      idle touches.None_of_it old.channel known now (λ between. refl)
      (drop_to old.channel (with_given octets rest old.channel) new.channel known last now did.1.0 ran refl refl refl refl is)
  found end machine.NoPort old new known last now did ran is_known heeds is =
      idle (touches.Listens None) old.channel known now (λ between. refl) (drop_to old.channel (with_asked new.channel.asked old.channel) new.channel known last now did.1.1
      (last_of (asking.Listened None) known last (λ mid same. same) ran) refl refl refl refl is)
  found end machine.End old new known last now did ran is_known heeds is = ended old.channel new.channel known last now heeds did.1 ran is
  found end machine.Break old new known last now did ran is_known heeds is = broke (end.wants old.end) old.channel new.channel known last now did.1 did.2 ran is
  found end machine.Closed old new known last now did ran is_known heeds is =
      idle touches.None_of_it old.channel known now (λ between. refl) (drop_to old.channel old.channel new.channel known last now did.1.0 ran refl refl refl refl is)
  found end (machine.Waited lost) old new known last now did ran is_known heeds is =
      let waited = did.1 in
      idle touches.None_of_it old.channel known now (λ between. refl) (alike old.channel new.channel known now waited.holds.stands (ap hold_by waited.holds.fate)
      (λ e. let was = is_known e in
      (kept old.channel.left new.channel.left was.0 was.2 waited.left, kept old.channel.written new.channel.written was.1 was.3 waited.written))
      (subst (λ k. IsAtLinkState new.channel k now) (told_none lost known last ran) is))
  found end (machine.Got octets) old new known last now did ran is_known heeds is =
      got octets old.channel new.channel known last now is_known did.1 ran is
  found end (machine.Wrote octets) old new known last now did ran is_known heeds is =
      wrote octets old.channel new.channel known last now is_known did.1 ran is
  found end (machine.LetGo octets) old new known last now did ran is_known heeds is =
      idle touches.None_of_it old.channel known now (λ between. refl)
      (drop_to old.channel (with_untold new.channel.untold old.channel) new.channel known last now did.1.1 ran refl refl refl refl is)
  found end machine.Failed old new known last now did ran is_known heeds is =
      idle touches.None_of_it old.channel known now (λ between. refl)
      (drop_to old.channel (with_fate Fates.Failed old.channel) new.channel known last now did.1.0 ran refl (ap hold_by (sym did.1.1.1)) refl refl is)
  found end (machine.Left asked) old new known last now did ran is_known heeds is =
      left asked old.channel new.channel known last now did.1 did.2.1 (subst (λ b. Steps asked b last) ran.1 ran.2) is
