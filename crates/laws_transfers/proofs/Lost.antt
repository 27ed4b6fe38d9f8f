-- What lies between two drives, and what is there as a world sees it: octets that the server gave, and dropped as it reset its data connection, are on their
-- way to the client still.
use Rattle.std.proofs.Common.{◌≡◌, ◌⊎◌, inl, inr, ℕ, Bool, true, false, List, [], ◌++◌, Some, None, refl, sym, ap, subst, ◌∙◌, append_assoc}
use Rattle.laws_drivers.specs.control.Between.{Awaits, Between, Can, Far, Has, Has_ended, Has_lost, Hold, IsOver, IsStanding, Is_called, Near, Who, coming_to, dialled, sent, with_coming, with_hold}
use Rattle.laws_drivers.specs.control.Touches.{Accepts, Dials, Ends, Listens, Reads, Resets, Says, Takes, ToldBreak, ToldEnd, Touch, Writes}
use Rattle.laws_drivers.proofs.events.Holding.{both, is_had}

-- an end that stands so to a data connection has reset it or was told that it broke, or has none since
abbrev pub is_lost : Hold → Bool
is_lost Has = false
is_lost Is_called = false
is_lost Has_ended = false
is_lost hold = true

-- none go to a client that takes none any more
pub record IsNone (between seen : Between) : Type 0 where
  pub none : seen.data_ways.to_client ≡ []
  pub far : is_lost between.far ≡ true
  pub near : is_lost between.near ≡ true

-- more octets are on their way than lie between
pub record IsMore (between seen : Between) : Type 0 where
  pub lost : List ℕ
  pub falling : seen.data_ways.to_client ≡ between.data_ways.to_client ++ lost
  pub hold : is_lost between.far ≡ true

abbrev pub Falls : (between seen : Between) → Type 0
Falls between seen = (seen.data_ways.to_client ≡ between.data_ways.to_client) ⊎ (IsMore between seen ⊎ IsNone between seen)

-- all else is the same
pub record IsSeen (between seen : Between) : Type 0 where
  pub control : seen.control ≡ between.control
  pub rising : seen.data_ways.to_server ≡ between.data_ways.to_server
  pub near : seen.near ≡ between.near
  pub far : seen.far ≡ between.far
  pub falls : Falls between seen

pub seen_itself : (between : Between) → IsSeen between between
seen_itself between = record { control = refl; rising = refl; near = refl; far = refl; falls = inl refl }

-- octets that were given are lost
abbrev pub with_lost : List ℕ → Between → Between
with_lost octets between = record between { data_ways = record between.data_ways { to_client = between.data_ways.to_client ++ octets } }

-- ---- small steps

-- it has none
pub lost_spare : (hold : Hold) → is_lost hold ≡ true → is_had hold ≡ false
lost_spare Has e = absurd (both e refl)
lost_spare hold e = refl

-- where the same goes to the client
falls_as : (a b c d : Between) → c.data_ways.to_client ≡ a.data_ways.to_client → d.data_ways.to_client ≡ b.data_ways.to_client
    → (is_lost a.far ≡ true → is_lost c.far ≡ true) → (is_lost a.near ≡ true → is_lost c.near ≡ true) → Falls a b → Falls c d
falls_as a b c d ways seen hold held (inl e) = inl (seen ∙ e ∙ sym ways)
falls_as a b c d ways seen hold held (inr (inl m)) = inr (inl (record {
  lost = m.lost;
  falling = seen ∙ m.falling ∙ ap (λ o. o ++ m.lost) (sym ways);
  hold = hold m.hold;
}))
falls_as a b c d ways seen hold held (inr (inr m)) = inr (inr (record { none = seen ∙ m.none; far = hold m.far; near = held m.near }))

-- a server that has it lost none
whole : (a b : Between) (hold : Hold) → a.far ≡ hold → is_lost hold ≡ false → Falls a b → b.data_ways.to_client ≡ a.data_ways.to_client
whole a b hold is none (inl e) = e
whole a b hold is none (inr (inl m)) = absurd (both m.hold (ap is_lost is ∙ none))
whole a b hold is none (inr (inr m)) = absurd (both m.far (ap is_lost is ∙ none))

-- ---- what an action does between is done there

-- what can be done can be done there, and is the same
pub record DoneThere (who : Who) (touch : Touch) (seen next : Between) : Type 0 where
  pub after : Between
  pub can : Can who touch seen after
  pub is_seen : IsSeen next after

module _ (p q s : Between) (seen : IsSeen p s) where
  -- nothing is done
  same_there : q ≡ p → IsSeen q s
  same_there same = subst (λ (m : Between). IsSeen m s) (sym same) seen

  -- by either end
  says_there : (who : Who) (octets : List ℕ) → Can who (Says octets) p q → DoneThere who (Says octets) s q
  says_there who octets can = record {
    after = record s { control = sent who octets s.control };
    can = refl;
    is_seen = subst (λ (m : Between). IsSeen m (record s { control = sent who octets s.control })) (sym can) (record {
      control = ap (sent who octets) seen.control;
      rising = seen.rising;
      near = seen.near;
      far = seen.far;
      falls = falls_as p s (record p { control = sent who octets p.control }) (record s { control = sent who octets s.control }) refl refl (λ e. e) (λ e. e)
          seen.falls;
    });
  }

  reads_there : (who : Who) (octets : List ℕ) → Can who (Reads octets) p q → DoneThere who (Reads octets) s q
  reads_there who octets can = record {
    after = record s { control = q.control };
    can = (
      ap (coming_to who) seen.control ∙ can.0,
      λ i. record s {
        control = (ap (λ (m : Between). m.control) can.1 ∙ ap (with_coming who (coming_to who q.control)) (sym seen.control)) i;
      },
    );
    is_seen = record {
      control = refl;
      rising = seen.rising ∙ sym (ap (λ (m : Between). m.data_ways.to_server) can.1);
      near = seen.near ∙ sym (ap (λ (m : Between). m.near) can.1);
      far = seen.far ∙ sym (ap (λ (m : Between). m.far) can.1);
      falls = falls_as p s q (record s { control = q.control }) (ap (λ (m : Between). m.data_ways.to_client) can.1) refl
          (λ e. ap (λ (m : Between). is_lost m.far) can.1 ∙ e) (λ e. ap (λ (m : Between). is_lost m.near) can.1 ∙ e) seen.falls;
    };
  }

  -- the server stands otherwise to it
  far_there : (hold : Hold) → q ≡ with_hold Far hold p → (is_lost p.far ≡ true → is_lost hold ≡ true) → IsSeen q (with_hold Far hold s)
  far_there hold can lost = subst (λ (m : Between). IsSeen m (with_hold Far hold s)) (sym can) (record {
    control = seen.control;
    rising = seen.rising;
    near = seen.near;
    far = refl;
    falls = falls_as p s (with_hold Far hold p) (with_hold Far hold s) refl refl lost (λ e. e) seen.falls;
  })

  -- the client does
  near_there : (hold : Hold) → q ≡ with_hold Near hold p → (is_lost p.near ≡ true → is_lost hold ≡ true) → IsSeen q (with_hold Near hold s)
  near_there hold can lost = subst (λ (m : Between). IsSeen m (with_hold Near hold s)) (sym can) (record {
    control = seen.control;
    rising = seen.rising;
    near = refl;
    far = seen.far;
    falls = falls_as p s (with_hold Near hold p) (with_hold Near hold s) refl refl (λ e. e) lost seen.falls;
  })

  -- one is dialled
  dials_there : (who : Who) → q ≡ dialled who p → IsSeen q (dialled who s)
  dials_there Near can = subst (λ (m : Between). IsSeen m (dialled Near s)) (sym can)
      (record { control = seen.control; rising = refl; near = refl; far = refl; falls = inl refl })
  dials_there Far can = subst (λ (m : Between). IsSeen m (dialled Far s)) (sym can)
      (record { control = seen.control; rising = refl; near = refl; far = refl; falls = inl refl })

  -- ---- the server

  pub far_done : (touch : Touch) → Can Far touch p q → DoneThere Far touch s q
  far_done (Listens None) can = record { after = s; can = refl; is_seen = same_there can }
  far_done (Says octets) can = says_there Far octets can
  far_done (Reads octets) can = reads_there Far octets can
  far_done (Listens (Some port)) can = record {
    after = with_hold Far (Awaits port) s;
    can = (subst IsOver (sym seen.far) can.0, refl);
    is_seen = far_there (Awaits port) can.1 (λ e. refl);
  }
  far_done (Dials endpoint) can = record {
    after = dialled Far s;
    can = (subst IsOver (sym seen.far) can.0, seen.near ∙ can.1, refl);
    is_seen = dials_there Far can.2;
  }
  far_done (Accepts host) can = record {
    after = with_hold Far Has s;
    can = (seen.far ∙ can.0, refl);
    is_seen = far_there Has can.1 (λ e. absurd (both e (ap is_lost can.0)));
  }
  far_done (Writes octets) can =
      let wrote : Between → Between = λ m. record m { data_ways = sent Far octets m.data_ways } in
      record {
        after = wrote s;
        can = (seen.far ∙ can.0, refl);
        is_seen = subst (λ (m : Between). IsSeen m (wrote s)) (sym can.1) (record {
          control = seen.control;
          rising = seen.rising;
          near = seen.near;
          far = seen.far;
          falls = inl (ap (λ o. o ++ octets) (whole p s Has can.0 refl seen.falls));
        });
      }
  far_done (Takes octets) can = record {
    after = record s { data_ways = record s.data_ways { to_server = q.data_ways.to_server } };
    can = (seen.far ∙ can.0, seen.rising ∙ can.1, refl);
    is_seen = record {
      control = seen.control ∙ sym (ap (λ (m : Between). m.control) can.2);
      rising = refl;
      near = seen.near ∙ sym (ap (λ (m : Between). m.near) can.2);
      far = seen.far ∙ sym (ap (λ (m : Between). m.far) can.2);
      falls = inl (whole p s Has can.0 refl seen.falls ∙ sym (ap (λ (m : Between). m.data_ways.to_client) can.2));
    };
  }
  far_done Ends can = record {
    after = with_hold Far Has_ended s;
    can = (seen.far ∙ can.0, refl);
    is_seen = far_there Has_ended can.1 (λ e. absurd (both e (ap is_lost can.0)));
  }
  far_done Resets can = record {
    after = with_hold Far Has_lost s;
    can = (subst IsStanding (sym seen.far) can.0, refl);
    is_seen = far_there Has_lost can.1 (λ e. refl);
  }
  far_done ToldEnd can = record { after = s; can = (seen.near ∙ can.0, seen.rising ∙ can.1, refl); is_seen = same_there can.2 }
  far_done ToldBreak can = record {
    after = with_hold Far Has_lost s;
    can = (seen.far ∙ can.0, refl);
    is_seen = far_there Has_lost can.1 (λ e. refl);
  }
  far_done touch can = record { after = s; can = refl; is_seen = same_there can }

  -- ---- the client

  -- octets are taken
  took_there : (octets : List ℕ) → Can Near (Takes octets) p q → Falls p s → DoneThere Near (Takes octets) s q
  took_there octets can (inl e) = record {
    after = record s { data_ways = record s.data_ways { to_client = q.data_ways.to_client } };
    can = (seen.near ∙ can.0, e ∙ can.1, refl);
    is_seen = record {
      control = seen.control ∙ sym (ap (λ (m : Between). m.control) can.2);
      rising = seen.rising ∙ sym (ap (λ (m : Between). m.data_ways.to_server) can.2);
      near = seen.near ∙ sym (ap (λ (m : Between). m.near) can.2);
      far = seen.far ∙ sym (ap (λ (m : Between). m.far) can.2);
      falls = inl refl;
    };
  }
  took_there octets can (inr (inr m)) = absurd (both m.near (ap is_lost can.0))
  took_there octets can (inr (inl m)) = record {
    after = record s { data_ways = record s.data_ways { to_client = q.data_ways.to_client ++ m.lost } };
    can = (seen.near ∙ can.0, m.falling ∙ ap (λ o. o ++ m.lost) can.1 ∙ append_assoc octets q.data_ways.to_client m.lost, refl);
    is_seen = record {
      control = seen.control ∙ sym (ap (λ (m : Between). m.control) can.2);
      rising = seen.rising ∙ sym (ap (λ (m : Between). m.data_ways.to_server) can.2);
      near = seen.near ∙ sym (ap (λ (m : Between). m.near) can.2);
      far = seen.far ∙ sym (ap (λ (m : Between). m.far) can.2);
      falls = inr (inl (record { lost = m.lost; falling = refl; hold = ap (λ (m : Between). is_lost m.far) can.2 ∙ m.hold }));
    };
  }

  pub near_done : (touch : Touch) → Can Near touch p q → DoneThere Near touch s q
  near_done (Listens None) can = record { after = s; can = refl; is_seen = same_there can }
  near_done (Says octets) can = says_there Near octets can
  near_done (Reads octets) can = reads_there Near octets can
  near_done (Listens (Some port)) can = record {
    after = with_hold Near (Awaits port) s;
    can = (subst IsOver (sym seen.near) can.0, refl);
    is_seen = near_there (Awaits port) can.1 (λ e. refl);
  }
  near_done (Dials endpoint) can = record {
    after = dialled Near s;
    can = (subst IsOver (sym seen.near) can.0, seen.far ∙ can.1, refl);
    is_seen = dials_there Near can.2;
  }
  near_done (Accepts host) can =
      record { after = with_hold Near Has s; can = (seen.near ∙ can.0, refl); is_seen = near_there Has can.1 (λ e. absurd (both e (ap is_lost can.0))) }
  near_done (Writes octets) can =
      let wrote : Between → Between = λ m. record m { data_ways = sent Near octets m.data_ways } in
      record {
        after = wrote s;
        can = (seen.near ∙ can.0, refl);
        is_seen = subst (λ (m : Between). IsSeen m (wrote s)) (sym can.1) (record {
          control = seen.control;
          rising = ap (λ o. o ++ octets) seen.rising;
          near = seen.near;
          far = seen.far;
          falls = falls_as p s (wrote p) (wrote s) refl refl (λ e. e) (λ e. e) seen.falls;
        });
      }
  near_done (Takes octets) can = took_there octets can seen.falls
  near_done Ends can = record {
    after = with_hold Near Has_ended s;
    can = (seen.near ∙ can.0, refl);
    is_seen = near_there Has_ended can.1 (λ e. absurd (both e (ap is_lost can.0)));
  }
  near_done Resets can = record {
    after = with_hold Near Has_lost s;
    can = (subst IsStanding (sym seen.near) can.0, refl);
    is_seen = near_there Has_lost can.1 (λ e. refl);
  }
  near_done ToldEnd can = record {
    after = s;
    can = (seen.far ∙ can.0, whole p s Has_ended can.0 refl seen.falls ∙ can.1, refl);
    is_seen = same_there can.2;
  }
  near_done ToldBreak can = record { after = with_hold Near Has_lost s; can = (seen.near ∙ can.0, refl); is_seen = near_there Has_lost can.1 (λ e. refl) }
  near_done touch can = record { after = s; can = refl; is_seen = same_there can }

  -- the server resets one of which octets are unwritten; of one that it does not have, none are
  pub resets_losing : (octets : List ℕ) → (is_had p.far ≡ false → octets ≡ []) → Can Far Resets p q → IsSeen q (with_lost octets (with_hold Far Has_lost s))
  resets_losing octets unwritten can = subst (λ (m : Between). IsSeen m (with_lost octets (with_hold Far Has_lost s))) (sym can.1) (record {
    control = seen.control;
    rising = seen.rising;
    near = seen.near;
    far = refl;
    falls = by seen.falls;
  })
    where
      by : Falls p s → Falls (with_hold Far Has_lost p) (with_lost octets (with_hold Far Has_lost s))
      by (inl e) = inr (inl (record { lost = octets; falling = ap (λ o. o ++ octets) e; hold = refl }))
      by (inr (inl m)) = inr (inl (record {
        lost = m.lost ++ octets;
        falling = ap (λ o. o ++ octets) m.falling ∙ append_assoc p.data_ways.to_client m.lost octets;
        hold = refl;
      }))
      by (inr (inr m)) = inr (inr (record { none = ap (λ o. o ++ octets) m.none ∙ unwritten (lost_spare p.far m.far); far = refl; near = m.near }))
