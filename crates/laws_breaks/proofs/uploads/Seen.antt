-- What a world sees lie between both ends: all of it, or all but octets on their way to a server that was told of a break, which takes none of them.
use Rattle.std.proofs.Common.{◌≡◌, ◌⊎◌, inl, inr, Bool, true, false, true≢false, [], Some, None, refl, sym, ap, subst, ◌∙◌}
use Rattle.ftp_ports.specs.Asking.{Reset}
use Rattle.ftp_ports.specs.Actions.{Action, Other, Stand}
use Rattle.ftp_ports.specs.Machine.{Break, Left}
use Rattle.ftp_server_driver.specs.alone.Side.{server_side}
use Rattle.laws_drivers.specs.control.Between.{Between, Can, Far as TheServer, Has, Has_lost, Hold, Is_called, Near as TheClient, Who}
use Rattle.laws_drivers.specs.control.Touches.{Accepts, Dials, Ends, IsDenied, IsMissed, Listens, None_of_it, Parts, Reads, Resets, Says, Takes, ToldBreak, ToldEnd, Touch, Writes, touch_in}
use Rattle.laws_breaks.proofs.downloads.Seen.{Sees}

-- nothing is on its way to the server
abbrev pub dry : Between → Between
dry m = record m { data_ways = record m.data_ways { to_server = [] } }

-- an end has no data connection, and was not dialled
abbrev pub is_left : Hold → Bool
is_left Has = false
is_left Is_called = false
is_left hold = true

-- neither end has one
pub record AreLeft (m : Between) : Type 0 where
  pub near : is_left m.near ≡ true
  pub far : is_left m.far ≡ true

abbrev pub Seen : Between → Between → Type 0
Seen p m = (m ≡ p) ⊎ ((m ≡ dry p) × AreLeft p)

-- what is done between can be done there
abbrev pub SeenOn : Who → Touch → (q m : Between) → Type 0
SeenOn who touch q m = (n : Between) × Seen q n × Can who touch m n

-- one that has a data connection sees all
pub seen_whole : (p m : Between) → Seen p m → p.far ≡ Has → m ≡ p
seen_whole p m (inl same) has = same
seen_whole p m (inr s) has = absurd (true≢false (sym s.1.far ∙ ap is_left has))

pub seen_held : (p m : Between) → Seen p m → p.near ≡ Has → m ≡ p
seen_held p m (inl same) has = same
seen_held p m (inr s) has = absurd (true≢false (sym s.1.near ∙ ap is_left has))

-- how both ends stand is seen
pub seen_far : (p m : Between) → Seen p m → m.far ≡ p.far
seen_far p m (inl same) = ap (λ (b : Between). b.far) same
seen_far p m (inr s) = ap (λ (b : Between). b.far) s.0

pub seen_near : (p m : Between) → Seen p m → m.near ≡ p.near
seen_near p m (inl same) = ap (λ (b : Between). b.near) same
seen_near p m (inr s) = ap (λ (b : Between). b.near) s.0

module _ (p q : Between) (left : AreLeft p) where
  -- where it lies dry, and both ends stand as before
  stays_dry : (who : Who) (touch : Touch) → q.near ≡ p.near → q.far ≡ p.far → Can who touch (dry p) (dry q) → SeenOn who touch q (dry p)
  stays_dry who touch near far can =
      (dry q, inr (refl, record { near = ap is_left near ∙ left.near; far = ap is_left far ∙ left.far }), can)

  none_near : p.near ≡ Has → ⊥
  none_near e = true≢false (sym left.near ∙ ap is_left e)

  none_far : p.far ≡ Has → ⊥
  none_far e = true≢false (sym left.far ∙ ap is_left e)

  -- the client
  near_dry : (touch : Touch) → Can TheClient touch p q → SeenOn TheClient touch q (dry p)
  near_dry None_of_it can = stays_dry TheClient None_of_it (ap (λ (m : Between). m.near) can) (ap (λ (m : Between). m.far) can) (ap dry can)
  near_dry (Says octets) can = stays_dry TheClient (Says octets) (ap (λ (m : Between). m.near) can) (ap (λ (m : Between). m.far) can) (ap dry can)
  near_dry (Reads octets) can =
      stays_dry TheClient (Reads octets) (ap (λ (m : Between). m.near) can.1) (ap (λ (m : Between). m.far) can.1) (can.0, ap dry can.1)
  near_dry Parts can = stays_dry TheClient Parts (ap (λ (m : Between). m.near) can) (ap (λ (m : Between). m.far) can) (ap dry can)
  near_dry (Listens None) can = stays_dry TheClient (Listens None) (ap (λ (m : Between). m.near) can) (ap (λ (m : Between). m.far) can) (ap dry can)
  near_dry (Listens (Some port)) can = (
    dry q,
    inr (refl, record { near = ap (λ (m : Between). is_left m.near) can.1; far = ap (λ (m : Between). is_left m.far) can.1 ∙ left.far }),
    (can.0, ap dry can.1),
  )
  near_dry (Dials endpoint) can = (q, inl refl, (can.0, can.1, can.2))
  near_dry (Accepts host) can = absurd (true≢false (sym left.near ∙ ap is_left can.0))
  near_dry (IsDenied endpoint) can =
      stays_dry TheClient (IsDenied endpoint) (ap (λ (m : Between). m.near) can) (ap (λ (m : Between). m.far) can) (ap dry can)
  near_dry IsMissed can = stays_dry TheClient IsMissed (ap (λ (m : Between). m.near) can) (ap (λ (m : Between). m.far) can) (ap dry can)
  near_dry (Writes octets) can = absurd (none_near can.0)
  near_dry (Takes octets) can = absurd (none_near can.0)
  near_dry Ends can = absurd (none_near can.0)
  near_dry Resets can = (
    dry q,
    inr (refl, record { near = ap (λ (m : Between). is_left m.near) can.1; far = ap (λ (m : Between). is_left m.far) can.1 ∙ left.far }),
    (can.0, ap dry can.1),
  )
  near_dry ToldEnd can = stays_dry TheClient ToldEnd (ap (λ (m : Between). m.near) can.2) (ap (λ (m : Between). m.far) can.2) (can.0, can.1, ap dry can.2)
  near_dry ToldBreak can = absurd (none_near can.0)

  -- the server
  far_dry : (touch : Touch) → Can TheServer touch p q → SeenOn TheServer touch q (dry p)
  far_dry None_of_it can = stays_dry TheServer None_of_it (ap (λ (m : Between). m.near) can) (ap (λ (m : Between). m.far) can) (ap dry can)
  far_dry (Says octets) can = stays_dry TheServer (Says octets) (ap (λ (m : Between). m.near) can) (ap (λ (m : Between). m.far) can) (ap dry can)
  far_dry (Reads octets) can =
      stays_dry TheServer (Reads octets) (ap (λ (m : Between). m.near) can.1) (ap (λ (m : Between). m.far) can.1) (can.0, ap dry can.1)
  far_dry Parts can = stays_dry TheServer Parts (ap (λ (m : Between). m.near) can) (ap (λ (m : Between). m.far) can) (ap dry can)
  far_dry (Listens None) can = stays_dry TheServer (Listens None) (ap (λ (m : Between). m.near) can) (ap (λ (m : Between). m.far) can) (ap dry can)
  far_dry (Listens (Some port)) can = (
    dry q,
    inr (refl, record { near = ap (λ (m : Between). is_left m.near) can.1 ∙ left.near; far = ap (λ (m : Between). is_left m.far) can.1 }),
    (can.0, ap dry can.1),
  )
  far_dry (Dials endpoint) can = (q, inl refl, (can.0, can.1, can.2))
  far_dry (Accepts host) can = absurd (true≢false (sym left.far ∙ ap is_left can.0))
  far_dry (IsDenied endpoint) can =
      stays_dry TheServer (IsDenied endpoint) (ap (λ (m : Between). m.near) can) (ap (λ (m : Between). m.far) can) (ap dry can)
  far_dry IsMissed can = stays_dry TheServer IsMissed (ap (λ (m : Between). m.near) can) (ap (λ (m : Between). m.far) can) (ap dry can)
  far_dry (Writes octets) can = absurd (none_far can.0)
  far_dry (Takes octets) can = absurd (none_far can.0)
  far_dry Ends can = absurd (none_far can.0)
  far_dry Resets can = (
    dry q,
    inr (refl, record { near = ap (λ (m : Between). is_left m.near) can.1 ∙ left.near; far = ap (λ (m : Between). is_left m.far) can.1 }),
    (can.0, ap dry can.1),
  )
  far_dry ToldEnd can = stays_dry TheServer ToldEnd (ap (λ (m : Between). m.near) can.2) (ap (λ (m : Between). m.far) can.2) (can.0, refl, ap dry can.2)
  far_dry ToldBreak can = absurd (none_far can.0)

-- so it is of each action
pub near_seen : (touch : Touch) (p q m : Between) → Seen p m → Can TheClient touch p q → SeenOn TheClient touch q m
near_seen touch p q m (inl same) can = (q, inl refl, subst (λ b. Can TheClient touch b q) (sym same) can)
near_seen touch p q m (inr s) can = subst (SeenOn TheClient touch q) (sym s.0) (near_dry p q s.1 touch can)

pub far_seen : (touch : Touch) (p q m : Between) → Seen p m → Can TheServer touch p q → SeenOn TheServer touch q m
far_seen touch p q m (inl same) can = (q, inl refl, subst (λ b. Can TheServer touch b q) (sym same) can)
far_seen touch p q m (inr s) can = subst (SeenOn TheServer touch q) (sym s.0) (far_dry p q s.1 touch can)

-- once the server was told of a break it lies dry, where the client has left its end
pub lost_dry : (q : Between) → is_left q.near ≡ true → q.far ≡ Has_lost → Seen q (dry q)
lost_dry q near far = inr (refl, record { near = near; far = ap is_left far })

-- ---- an action of the server, as a world of downloads sees it

-- what it drops is on its way to the client
pub sees_seen : (action : Action server_side) (server : Stand server_side) (p q m : Between) → Seen p m → Sees action server p q
    → (n : Between) × Seen q n × Sees action server m n
sees_seen action server p q m (inl same) can = (q, inl refl, subst (λ b. Sees action server b q) (sym same) can)
sees_seen action server p q m (inr s) can = subst (λ b. (n : Between) × Seen q n × Sees action server b n) (sym s.0) (by action can)
  where
    by : (action : Action server_side) → Sees action server p q → (n : Between) × Seen q n × Sees action server (dry p) n
    by (Other (Left (Reset left written))) can = (
      dry q,
      inr (refl, record { near = ap (λ (b : Between). is_left b.near) can.1 ∙ s.1.near; far = ap (λ (b : Between). is_left b.far) can.1 }),
      (can.0, ap dry can.1),
    )
    by (Other Break) can = absurd (elim can [
      | inl sends ↦ true≢false (sym s.1.far ∙ ap is_left sends.1.0)
      | inr closing ↦ true≢false (sym s.1.far ∙ ap is_left closing.1)
    ])
    by action can = far_dry p q s.1 (touch_in action) can
