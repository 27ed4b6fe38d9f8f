-- The server's data connection while an operation is asked for: nothing is done over it, but where the server connects to the client, gives or takes octets.
use Rattle.std.proofs.Common.{◌≡◌, ◌⊎◌, inl, inr, ℕ, Bool, true, false, true≢false, List, ◌∷◌, refl, sym, ap, ◌∙◌}
use Rattle.ftp_direct.specs.Direct.{State}
use Rattle.ftp_endpoint.specs.declared.host.Host.{Host}
use Rattle.ftp_operation.specs.Answer.{Said}
use Rattle.ftp_path.specs.Path.{Names}
use Rattle.ftp_server_model.specs.Calls.{is_upload}
use Rattle.ftp_server_model.specs.Machine.{Reading}
use Rattle.ftp_server_model.specs.View.{Session, Transfer}
use Rattle.ftp_server_model.specs.declared.session.Pending.{Pending}
use Rattle.ftp_server_model.specs.declared.session.ServerLink.{ServerLink}
use Rattle.ftp_server_model.specs.declared.session.ServerLink.TheVariants as Data
use Rattle.laws_world.specs.World.{Mark, World}
use Rattle.laws_dialogues.specs.Dialogue.{is_set_aside}
use Rattle.laws_dialogues.specs.Fetches.{Ask, IsAsk, Rise, giving_of, linked}
use Rattle.laws_dialogues.specs.Stage.{Way}
use Rattle.laws_agreement.specs.Cut.{PlacedAt}
use Rattle.laws_agreement.specs.Rising.{Lift}
use Rattle.laws_agreement.specs.Stages.{Answers, Aside as LeavesAside, AtFetch, Awaits, Carries, Carry, Closed, Course, Dialled, Dials, Dismissed, Early, Ended, Given, Giving, Holds, Leaving, LinkLeft, LinkOpen, LinkParting, Lost, PortAsked, PortDenied, PortSaid, PortTaken, PortTold, PortWanted, Ported, Refusing, Restarts, Retrieves, Rises, Severed, Tells, Unaccepted, Unclosed, Unopened, early_far, far_link, gives_on, tie_of}
use Rattle.laws_agreement.proofs.FetchServed.{leads_still}
use Rattle.laws_agreement.proofs.Still.{IsSeen, seen_placed}
use Rattle.laws_transfers.proofs.Known.{is_giving}

-- it is being opened, or octets are to go over it
abbrev pub is_acting : ServerLink Transfer → Bool
is_acting (Data.Opening transfer way) = true
is_acting (Data.Transferring transfer) = true
is_acting link = false

-- none that is set aside does so
pub aside_idle : (link : ServerLink Transfer) → is_set_aside link ≡ true → is_acting link ≡ false
aside_idle (Data.Opening transfer way) is = absurd (true≢false (sym is))
aside_idle (Data.Transferring transfer) is = absurd (true≢false (sym is))
aside_idle link is = refl

-- one that does not takes none of an upload, and gives none
pub idle_rests : (link : ServerLink Transfer) → is_acting link ≡ false → (is_upload link ≡ false) × (is_giving link ≡ false)
idle_rests Data.Free is = (refl, refl)
idle_rests (Data.Active endpoint) is = (refl, refl)
idle_rests Data.Passive is = (refl, refl)
idle_rests Data.Ready is = (refl, refl)
idle_rests (Data.Asked verb) is = (refl, refl)
idle_rests (Data.Opening transfer way) is = absurd (true≢false is)
idle_rests (Data.Transferring transfer) is = absurd (true≢false is)

-- nothing is done behind an opening
early_idle : (host : Host) (early : Early) → is_acting (early_far host early) ≡ false
early_idle host (Dialled true) = refl
early_idle host (Dialled false) = refl
early_idle host (Ported port) = refl

-- in a download it is not what neither one is that gives nor none
pub carry_not : (is : ServerLink Transfer → Bool) → is Data.Free ≡ false
    → ((listed : Bool) (octets : List ℕ) → is (Data.Transferring (giving_of listed octets)) ≡ false) → (listed : Bool) (course : Course)
    → is (far_link (gives_on listed course) (tie_of course)) ≡ false
carry_not is free gives listed (Giving begun octet more) = gives listed (octet ∷ more)
carry_not is free gives listed (Given heard true) = free
carry_not is free gives listed (Given heard false) = free
carry_not is free gives listed (Ended begun clean) = free
carry_not is free gives listed (Severed begun) = free
carry_not is free gives listed (Refusing why Unclosed) = free
carry_not is free gives listed (Refusing why Closed) = free
carry_not is free gives listed (Refusing why (Lost clean)) = free
carry_not is free gives listed Unopened = free

module _ (read : Reading) (state : State) (ask : Ask) (good : IsAsk ask) (own : List Mark) where
  abbrev At : Way → World → Type 0
  At way b = AtFetch state ask read own way b

  -- the server connects to the client, gives, or takes
  abbrev pub Acts : Way → World → Type 0
  Acts way b =
      ((port : ℕ) × (begun : Bool) × Holds state ask own (Awaits port begun) way b)
      ⊎ (((c : Carry) × Holds state ask own (Carries c) way b) ⊎ ((rise : Rise) × (lift : Lift) × Holds state ask own (Rises rise lift) way b))

  -- at every other stage nothing is done over it
  pub idle_or_acts : (w : World) (s : PlacedAt At w) → (is_acting w.far.session.connection ≡ false) ⊎ Acts s.way s.base
  idle_or_acts w s = by_here s.here
    where
      of : IsSeen s.base w
      of = seen_placed At w s

      idle : (link : ServerLink Transfer) (closing : Bool) (pending : Pending Names) → s.base.far.session ≡ linked link closing pending s.base.far.session
          → is_acting link ≡ false → (is_acting w.far.session.connection ≡ false) ⊎ Acts s.way s.base
      idle link closing pending is none = inl (ap (λ (t : Session). is_acting t.connection) (of.session ∙ is) ∙ none)

      by_leaving : (said : Said) (leaves : Leaving) → Holds state ask own (Answers said leaves) s.way s.base
          → (is_acting w.far.session.connection ≡ false) ⊎ Acts s.way s.base
      by_leaving said (LeavesAside closes connection pending) h = idle connection _ _ h.session (aside_idle connection h.fine.1)
      by_leaving said LinkOpen h = idle _ _ _ h.session refl
      by_leaving said LinkLeft h = idle _ _ _ h.session refl
      by_leaving said LinkParting h = idle _ _ _ h.session refl

      by_here : At s.way s.base → (is_acting w.far.session.connection ≡ false) ⊎ Acts s.way s.base
      by_here (inl l) = inl (aside_idle w.far.session.connection (leads_still read state ask good.plan own s.base w s.way of l).0.far.aside)
      by_here (inr (PortAsked closing, h)) = idle _ _ _ h.session refl
      by_here (inr (PortTold port, h)) = idle _ _ _ h.session refl
      by_here (inr (Dials port, h)) = idle _ _ _ h.session refl
      by_here (inr (PortWanted connection pending, h)) = idle connection _ _ h.session (aside_idle connection h.fine)
      by_here (inr (PortSaid port connection pending, h)) = idle connection _ _ h.session (aside_idle connection h.fine.0)
      by_here (inr (PortTaken port closing, h)) = idle _ _ _ h.session refl
      by_here (inr (PortDenied port connection, h)) = idle connection _ _ h.session (aside_idle connection h.fine.0)
      by_here (inr (Restarts at restart early, h)) = idle _ _ _ h.session (early_idle s.base.near.here early)
      by_here (inr (Retrieves early, h)) = idle _ _ _ h.session (early_idle s.base.near.here early)
      by_here (inr (Awaits port begun, h)) = inr (inl (port, begun, h))
      by_here (inr (Unaccepted port, h)) = idle _ _ _ h.session refl
      by_here (inr (Dismissed port why, h)) = idle _ _ _ h.session refl
      by_here (inr (Carries c, h)) = inr (inr (inl (c, h)))
      by_here (inr (Rises rise lift, h)) = inr (inr (inr (rise, lift, h)))
      by_here (inr (Tells rise said after, h)) = idle _ _ _ h.session refl
      by_here (inr (Answers said leaves, h)) = by_leaving said leaves h
