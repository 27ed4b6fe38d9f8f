-- A client that was told that the data connection of a Peek broke, after ABOR, does each action as one does that was told that it ended.
use Rattle.std.proofs.Common.{◌≡◌, ◌⊎◌, inl, inr, ℕ, ◌<◌, true, false, true≢false, List, [], ◌∷◌, length, take, Option, IsTrue, refl, sym, ap, subst, ◌∙◌}
use Rattle.ftp_ends.specs.declared.link.Wants.{Wants}
use Rattle.ftp_ends.specs.declared.link.Wants.TheVariants as Want
use Rattle.ftp_ports.specs.Asking.{Connected, Ended as EndedBy, NotConnected, Reset, Shut}
use Rattle.ftp_ports.specs.Actions.{Calls, Action, Done, Heard, HearsNext, Other, Read, ReadsNext, Said as Says, Says as SaysNext, Stand}
use Rattle.ftp_ports.specs.Channel.{IsOpen, Channel}
use Rattle.ftp_ports.specs.Machine.{Aside, Break, Closed, End, Failed as HasFailed, Gave, Got, Held, Left, LetGo, MayLeave, Opened, Received, Refused, Waited, Wrote, awaits, seen}
use Rattle.ftp_client_driver.specs.Side.{Reporting, Starting, client_side, is_operation_under_way}
use Rattle.ftp_client_model.specs.Calls as near
use Rattle.ftp_client_model.specs.Calls.{data_closed, gives_control, hears, is_sound}
use Rattle.ftp_client_model.specs.Failing.{Client}
use Rattle.ftp_client_model.specs.View.{View as Near}
use Rattle.ftp_operation.specs.Answer.{Said}
use Rattle.laws_drivers.specs.control.Between.{Between, CanTurn, Client as ByClient}
use Rattle.laws_drivers.proofs.events.Holding.{both}
use Rattle.laws_transfers.specs.Refusals.{ClientTries}
use Rattle.laws_transfers.proofs.EitherEnd.{AreAlike, AreApart, Common, both_closed, both_give, common, hears_either, is_wishing, may_either}
use Rattle.laws_transfers.proofs.Lost.{is_lost}

-- another client in its place
abbrev pub with_view : Near → Stand client_side → Stand client_side
with_view n c = record c { owner = record c.owner { end = record c.owner.end { view = n } } }

-- this one was told that it broke, and the other that it ended; its data connection is not open any more
pub record IsBroke (between : Between) (c : Stand client_side) (other : Near) : Type 0 where
  pub apart : AreApart c.owner.end.view other
  pub near : is_lost between.near ≡ true
  pub channel : IsOpen c.owner.channel → ⊥

-- as a world sees it
abbrev pub IsShown : (between : Between) (c shown : Stand client_side) → Type 0
IsShown between c shown = (shown ≡ c) ⊎ ((other : Near) × (shown ≡ with_view other c) × IsBroke between c other)

-- an action that the other does, too
pub record DoneSo (action : Action client_side) (next : Between) (new shown : Stand client_side) : Type 0 where
  pub after : Stand client_side
  pub did : Done action shown after
  pub is : ClientTries action shown.owner after.owner
  pub shows : IsShown next new after

module _ (p q : Between) (old new : Stand client_side) (b : Near) (broke : IsBroke p old b) where
  abbrev a : Near
  a = old.owner.end.view

  abbrev there : Stand client_side
  there = with_view b old

  both_are : Common a b
  both_are = common a b broke.apart

  -- where both are so again, and it is not open
  again : (other : Near) → AreApart new.owner.end.view other → is_lost q.near ≡ true → (IsOpen new.owner.channel → ⊥)
      → IsShown q new (with_view other new)
  again other apart near channel = inr (other, refl, record { apart = apart; near = near; channel = channel })

  -- or alike
  alike_again : (other : Near) → AreAlike new.owner.end.view other → is_lost q.near ≡ true → (IsOpen new.owner.channel → ⊥) → IsShown q new (with_view other new)
  alike_again other (inl e) near channel = inl (ap (λ n. with_view n new) (sym e))
  alike_again other (inr apart) near channel = again other apart near channel

  same_near : q.near ≡ p.near → is_lost q.near ≡ true
  same_near is = ap is_lost is ∙ broke.near

  same_channel : new.owner.channel ≡ old.owner.channel → IsOpen new.owner.channel → ⊥
  same_channel is opened = broke.channel (subst IsOpen is opened)

  -- none of these is wanted
  unwished : (want : Wants) → near.wants a ≡ want → is_wishing want ≡ true → ⊥
  unwished want is wishes = both wishes (ap is_wishing (sym is) ∙ both_are.wishes)

  never_awaits : awaits (near.wants a) ≡ true → ⊥
  never_awaits e = by (near.wants a) both_are.wishes e
    where
      by : (want : Wants) → is_wishing want ≡ false → awaits want ≡ true → ⊥
      by Want.Nothing w e = true≢false (sym e)
      by Want.CloseData w e = true≢false (sym e)
      by (Want.Connect endpoint) w e = true≢false w
      by Want.Listen w e = true≢false w
      by Want.Accept w e = true≢false w
      by Want.Send w e = true≢false w
      by Want.Receive w e = true≢false w
      by Want.CloseAll w e = true≢false w

  -- ---- octets of the control connection

  heard_so : (octets : List ℕ) → ClientTries (Heard octets) old.owner new.owner → HearsNext octets old new → q ≡ p → DoneSo (Heard octets) q new there
  heard_so octets is did same =
      let all : List ℕ = take (length octets) old.unheard in
      let heard = did.hears.0.0.0 is.1 in
      let may : (k : ℕ) → k < length octets → near.may_hear (hears b (take k old.unheard)) ≡ true =
      λ k less. may_either (hears a (take k old.unheard)) (hears b (take k old.unheard)) (hears_either (take k old.unheard) a b (inr broke.apart)) ∙ heard.1
      k less in
      let does : HearsNext octets there (with_view (hears b all) new) = record {
        hears = (
          (((λ calm. (refl, may)), (λ moved. absurd (moved is.1))), did.hears.0.1),
          did.hears.1 ∙ ap (λ w. seen w old.owner.channel) (sym both_are.wants),
          λ serves. absurd (true≢false (sym serves)),
        );
        next = did.next;
        left = did.left;
        written = did.written;
      } in
      record {
        after = with_view (hears b all) new;
        did = does;
        is = is;
        shows = alike_again (hears b all) (subst (λ n. AreAlike n (hears b all)) (sym heard.0) (hears_either all a b (inr broke.apart)))
            (same_near (ap (λ (m : Between). m.near) same))
            (λ o. broke.channel (ap (λ (l : Channel). l.stands) (sym did.hears.1) ∙ o.0, ap (λ (l : Channel). l.fate) (sym did.hears.1) ∙ o.1));
      }

  said_so : (octets : List ℕ) → ClientTries (Says octets) old.owner new.owner → SaysNext octets old new → q.near ≡ p.near → DoneSo (Says octets) q new there
  said_so octets is did near =
      let count : ℕ = did.gives.count in
      let does : SaysNext octets there (with_view (gives_control count b) new) = record {
        gives = record {
          count = count;
          owed = did.gives.owed ∙ ap (take count) (sym both_are.owed);
          gave = (refl, did.gives.gave.1);
          channel = did.gives.channel;
        };
        wrote = did.wrote;
        left = did.left;
        unheard = did.unheard;
      } in
      record {
        after = with_view (gives_control count b) new;
        did = does;
        is = is;
        shows = again (gives_control count b)
            (subst (λ n. AreApart n (gives_control count b)) (sym did.gives.gave.0) (both_give count a b broke.apart)) (same_near near)
            (same_channel did.gives.channel);
      }

  read_so : (octets : List ℕ) → ClientTries (Read octets) old.owner new.owner → ReadsNext octets old new → q.near ≡ p.near
      → DoneSo (Read octets) q new there
  read_so octets is did near =
      let does : ReadsNext octets there (with_view b new) = record {
        due = (both_are.owed ∙ did.due.0, λ serves. absurd (true≢false (sym serves)));
        owner = ap (λ (o : Held Client). record o { end = record o.end { view = b } }) did.owner;
        heard = did.heard;
        read = did.read;
        ended = did.ended;
        unheard = did.unheard;
        written = did.written;
      } in
      record {
        after = with_view b new;
        did = does;
        is = is;
        shows = again b (subst (λ n. AreApart n b) (ap (λ o. o.end.view) (sym did.owner)) broke.apart) (same_near near)
            (same_channel (ap (λ o. o.channel) did.owner));
      }

  -- ---- calls

  reported_so : (said : Option Said) → ClientTries (Other (Aside (Reporting said))) old.owner new.owner
      → Calls {side = client_side} (Aside (Reporting said)) old new
      → q ≡ p → DoneSo (Other (Aside (Reporting said))) q new there
  reported_so said is did same =
      let does : Calls {side = client_side} (Aside (Reporting said)) there (with_view b new) = (
        (
          (did.0.0.0 ∙ both_are.one_said ∙ sym both_are.other_said, (sym both_are.other_reports, did.0.0.1.1)),
          did.0.1,
          did.0.2,
        ),
        ap (with_view b) did.1,
      ) in
      record {
        after = with_view b new;
        did = does;
        is = is;
        shows = again b (subst (λ n. AreApart n b) (sym both_are.one_reports ∙ sym did.0.0.1.0) broke.apart) (same_near (ap (λ (m : Between). m.near) same))
            (same_channel did.0.1);
      }

  let_go_so : (octets : List ℕ) → ClientTries (Other (LetGo octets)) old.owner new.owner → Calls {side = client_side} (LetGo octets) old new
      → q ≡ p → DoneSo (Other (LetGo octets)) q new there
  let_go_so octets is did same =
      let does : Calls {side = client_side} (LetGo octets) there (with_view b new) = (
        (
          (ap (λ (e : Client). record e { view = b }) did.0.0.0, λ e. did.0.0.1 (sym both_are.wants ∙ e)),
          (did.0.1.0, did.0.1.1),
          did.0.2,
        ),
        ap (with_view b) did.1,
      ) in
      record {
        after = with_view b new;
        did = does;
        is = is;
        shows = again b (subst (λ n. AreApart n b) (ap (λ e. e.view) (sym did.0.0.0)) broke.apart) (same_near (ap (λ (m : Between). m.near) same))
            (λ o. broke.channel (ap (λ (l : Channel). l.stands) (sym did.0.1.1) ∙ o.0, ap (λ (l : Channel). l.fate) (sym did.0.1.1) ∙ o.1));
      }

  -- it is left
  may_leave_so : MayLeave (is_operation_under_way a.job ≡ false) (near.wants a) old.owner.channel.fate
      → MayLeave (is_operation_under_way b.job ≡ false) (near.wants b) old.owner.channel.fate
  may_leave_so may =
      subst (λ w. MayLeave (is_operation_under_way b.job ≡ false) w old.owner.channel.fate) (sym both_are.wants)
      (subst (λ j. MayLeave (is_operation_under_way j ≡ false) (near.wants a) old.owner.channel.fate) (sym both_are.job) may)

  reset_so : (left written : Option (List ℕ)) → ClientTries (Other (Left (Reset left written))) old.owner new.owner
      → Calls {side = client_side} (Left (Reset left written)) old new → is_lost q.near ≡ true → DoneSo (Other (Left (Reset left written))) q new there
  reset_so left written is did near =
      let does : Calls {side = client_side} (Left (Reset left written)) there (with_view b new) = (
        (ap (λ (e : Client). record e { view = b }) did.0.0, did.0.1, (may_leave_so did.0.2.0, did.0.2.1, tt)),
        ap (with_view b) did.1,
      ) in
      record {
        after = with_view b new;
        did = does;
        is = is;
        shows = again b (subst (λ n. AreApart n b) (ap (λ e. e.view) (sym did.0.0)) broke.apart) near (λ o. both o.0 did.0.1.stands);
      }

  shut_so : ClientTries (Other (Left Shut)) old.owner new.owner → Calls {side = client_side} (Left Shut) old new → q ≡ p
      → DoneSo (Other (Left Shut)) q new there
  shut_so is did same =
      let does : Calls {side = client_side} (Left Shut) there (with_view b new) = (
        (ap (λ (e : Client). record e { view = b }) did.0.0, did.0.1, (may_leave_so did.0.2.0, tt, tt)),
        ap (with_view b) did.1,
      ) in
      record {
        after = with_view b new;
        did = does;
        is = is;
        shows = again b (subst (λ n. AreApart n b) (ap (λ e. e.view) (sym did.0.0)) broke.apart) (same_near (ap (λ (m : Between). m.near) same))
            (λ o. both o.0 did.0.1.stands);
      }

  closed_so : ClientTries (Other Closed) old.owner new.owner → Calls {side = client_side} Closed old new → q ≡ p → DoneSo (Other Closed) q new there
  closed_so is did same =
      let does : Calls {side = client_side} Closed there (with_view (data_closed b) new) = (
        (
          (refl, did.0.0.1),
          (did.0.1.0, did.0.1.1),
          λ sound busy. both_are.wants
              ∙ did.0.2 (subst IsTrue (ap is_sound (standing_is broke.apart)) sound) (subst (λ j. IsTrue (is_operation_under_way j)) both_are.job busy),
        ),
        ap (with_view (data_closed b)) did.1,
      ) in
      record {
        after = with_view (data_closed b) new;
        did = does;
        is = is;
        shows = again (data_closed b) (subst (λ n. AreApart n (data_closed b)) (sym did.0.0.0) (both_closed a b broke.apart))
            (same_near (ap (λ (m : Between). m.near) same)) (same_channel did.0.1.0);
      }
    where
      standing_is : AreApart a b → b.standing ≡ a.standing
      standing_is apart = ap (λ (n : Near). n.standing) apart.other_is ∙ sym (ap (λ (n : Near). n.standing) apart.one_is)

  -- ---- any action

  pub broke_does : (action : Action client_side) → ClientTries action old.owner new.owner → Done action old new → CanTurn (ByClient action) p q
      → DoneSo action q new there
  broke_does (Heard octets) is did can = heard_so octets is did can
  broke_does (Says octets) is did can = said_so octets is did (ap (λ (m : Between). m.near) can)
  broke_does (Read octets) is did can = read_so octets is did (ap (λ (m : Between). m.near) can.1)
  broke_does (Other (Aside (Reporting said))) is did can = reported_so said is did can
  broke_does (Other (LetGo octets)) is did can = let_go_so octets is did can
  broke_does (Other (Left (Reset left written))) is did can = reset_so left written is did (ap (λ (m : Between). is_lost m.near) can.1)
  broke_does (Other (Left Shut)) is did can = shut_so is did can
  broke_does (Other Closed) is did can = closed_so is did can
  broke_does (Other (Aside (Starting op))) is did can = absurd (both both_are.busy did.0.0.0)
  broke_does (Other (Opened host (Connected endpoint left written ∷ []) at_first so_far rest)) is did can =
      absurd (unwished (Want.Connect endpoint) did.0.2.0 refl)
  broke_does (Other (Refused (NotConnected endpoint ∷ []))) is did can = absurd (unwished (Want.Connect endpoint) did.0.2.0 refl)
  broke_does (Other (Gave count octets rest)) is did can = absurd (unwished Want.Send did.0.2 refl)
  broke_does (Other (Waited lost)) is did can = absurd (never_awaits did.0.2)
  broke_does (Other (Received octets count)) is did can = absurd (broke.channel did.0.2.0)
  broke_does (Other (Got octets)) is did can = absurd (broke.channel did.0.1.is_open)
  broke_does (Other (Wrote octets)) is did can = absurd (broke.channel did.0.1.is_open)
  broke_does (Other End) is did can = absurd (broke.channel did.0.1.1)
  broke_does (Other HasFailed) is did can = absurd (broke.channel did.0.1.1)
  broke_does (Other Break) is did can = absurd (both broke.near (ap is_lost can.0))
  broke_does (Other (Left (EndedBy left written))) is did can = absurd (both broke.near (ap is_lost can.0))
  broke_does action is did can = absurd is.0
