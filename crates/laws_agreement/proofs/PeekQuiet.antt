-- While a Peek has sent ABOR and is not answered, something can happen: octets can move, or an end is still to be told.
use Rattle.std.proofs.Common.{◌≡◌, inl, inr, ℕ, ◌≤◌, Bool, true, false, not, ◌&&◌, List, [], ◌∷◌, length, refl, sym, ap, subst, ◌∙◌, arith}
use Rattle.std.specs.Prelude.{nat_le}
use Rattle.std.proofs.lemmas.Bool.{le-leb}
use Rattle.ftp_nvt.specs.Lines.{written_line}
use Rattle.ftp_ends.specs.Octets.{has_octets}
use Rattle.ftp_ends.specs.Reply.{Reply}
use Rattle.ftp_direct.specs.Direct.{State}
use Rattle.ftp_client_model.specs.Calls as near
use Rattle.ftp_client_model.specs.Calls.{is_sound}
use Rattle.ftp_server_model.specs.Calls as far
use Rattle.ftp_server_model.specs.Machine as machine
use Rattle.ftp_server_model.specs.Machine.{is_running}
use Rattle.laws_world.specs.Events.{ControlToServer, ControlToClient, DataToClient, is_closed_by_far}
use Rattle.laws_world.specs.Still.{IsStill}
use Rattle.laws_world.specs.World.{World, Mark}
use Rattle.laws_dialogues.specs.Fetches.{Ask}
use Rattle.laws_dialogues.specs.Peeks.{abort_line}
use Rattle.laws_agreement.specs.Crossing.{AreCut, Cuts, crossing_at}
use Rattle.laws_agreement.specs.Cut.{Cut, FlowsRow, coming}
use Rattle.laws_agreement.specs.PeekStages.{AtHalt, Gave, Gives, Halt, Halted, Halts, halt_asked, halt_rows, is_halt_passing}
use Rattle.laws_agreement.proofs.Chunks.{both_empty}
use Rattle.laws_agreement.proofs.CrossKeeps.{owed_within}
use Rattle.laws_agreement.proofs.PeekServed.{far_at, near_at}
use Rattle.laws_agreement.proofs.Quiet.{can_move_first, can_take_now, never, some_octets}

-- where no reply is on its way, the server owes nothing
owes_none : (c : Cut) → FlowsRow [] c.held (coming c) → c.owed ≡ []
owes_none c flow = (both_empty c.moving c.owed flow.1).1

-- of ABOR a client owes few octets
few_owed : (asked : Bool) (rows : List Reply) (c : Cuts) → AreCut asked rows c → length c.up.owed ≤ 1024
few_owed true rows c fits =
    let within =
    owed_within (written_line abort_line) c.up fits.up in let few : length (written_line abort_line) ≤ 1024 = omega arith in omega (arith, few, within)
few_owed false rows c fits = let none : length c.up.owed ≡ 0 = ap length fits.up.2 in omega (arith, none)

module _ (state : State) (ask : Ask) (own : List Mark) (w : World) (a : AtHalt state ask own w) (lasts : is_halt_passing a.halt ≡ false)
    (still : IsStill w) where
  abbrev b : World
  b = a.base

  abbrev c : Cuts
  c = a.cuts

  there : IsStill (crossing_at a.base a.cuts)
  there = subst IsStill a.is still

  -- the client is sound
  sound : is_sound a.base.near.standing ≡ true
  sound = ap (λ v. is_sound v.standing) a.here.near

  -- the server runs
  runs : is_running a.base.far.session.life ≡ true
  runs = ap (λ s. is_running s.life) a.here.session

  -- replies are on their way
  replies_move : (reply : Reply) (more : List Reply) → halt_rows a.halt ≡ reply ∷ more → ⊥
  replies_move reply more rows =
      let fits : AreCut (halt_asked a.halt) (reply ∷ more) a.cuts = subst (λ rows. AreCut (halt_asked a.halt) rows a.cuts) rows a.fits in
      let hears : near.may_hear (crossing_at a.base a.cuts).near ≡ true =
      (λ i. is_sound a.base.near.standing && le-leb (length a.cuts.up.owed) 1024 (few_owed (halt_asked a.halt) (reply ∷ more) a.cuts fits) i) ∙ ap
      (λ b. b && true) sound in
      elim (some_octets a.cuts.down.moving a.cuts.down.owed fits.down.octet _ fits.down.is) [
        | inl owes ↦ never _ (can_move_first a.cuts.down.moving (has_octets a.cuts.down.owed) _ owes.0 owes.1)
            (there.moved ControlToClient 1 (omega arith) (omega arith))
        | inr moves ↦ never _ (can_take_now _ (has_octets a.cuts.down.moving) (near.may_hear (crossing_at a.base a.cuts).near) moves hears)
            (there.moved ControlToClient 1 (omega arith) (omega arith))
      ]

  -- ABOR is on its way alone
  abort_moves : halt_asked a.halt ≡ true → halt_rows a.halt ≡ [] → ⊥
  abort_moves asked rows =
      let fits : AreCut true [] a.cuts = subst (λ rows. AreCut true rows a.cuts) rows (subst (λ asked. AreCut asked (halt_rows a.halt) a.cuts) asked a.fits) in
      let none : a.cuts.down.owed ≡ [] = owes_none a.cuts.down fits.down in
      let hears : machine.may_hear (crossing_at a.base a.cuts).far ≡ true =
      (λ i. is_running a.base.far.session.life && true && nat_le (length (none i)) 4096) ∙ ap (λ b. b && true && true) runs in
      elim (some_octets a.cuts.up.moving a.cuts.up.owed fits.up.octet _ fits.up.is) [
        | inl owes ↦ never _ (can_move_first a.cuts.up.moving (has_octets a.cuts.up.owed) _ owes.0 owes.1)
            (there.moved ControlToServer 1 (omega arith) (omega arith))
        | inr moves ↦ never _ (can_take_now _ (has_octets a.cuts.up.moving) (machine.may_hear (crossing_at a.base a.cuts).far) moves hears)
            (there.moved ControlToServer 1 (omega arith) (omega arith))
      ]

  -- the client is to be told of the end, or takes octets before that
  end_moves : (whole : Bool) → Halts state ask own (Halted whole true) a.said a.came a.queue a.base → ⊥
  end_moves whole h = by_queue a.queue (ap (λ u. u.data_to_client) a.is ∙ h.to_client)
    where
      receives : near.may_receive w.near ≡ true
      receives = ap near.may_receive (near_at state ask own a.base w a.cuts a.is _ _ h.near)

      none : far.to_give w.far ≡ []
      none = ap (λ s. far.given_by (far.connection_of s)) (far_at state ask own a.base w a.cuts a.is _ false h.session)

      left : is_closed_by_far w.link ≡ true
      left = ap (λ u. is_closed_by_far u.link) a.is ∙ ap is_closed_by_far h.link

      by_queue : (queue : List ℕ) → w.data_to_client ≡ queue → ⊥
      by_queue [] is =
          never (is_closed_by_far w.link && not (has_octets w.data_to_client) && not (has_octets (far.to_give w.far)))
          (λ i. left i && not (has_octets (is i)) && not (has_octets (none i))) (still.ended DataToClient)
      by_queue (octet ∷ more) is =
          never _ (can_take_now _ (has_octets w.data_to_client) (near.may_receive w.near) (ap has_octets is) receives)
          (still.moved DataToClient 1 (omega arith) (omega arith))

  -- so the world is not still
  pub halt_moves : ⊥
  halt_moves = by_halt a.halt refl
    where
      by_halt : (halt : Halt) → a.halt ≡ halt → ⊥
      by_halt (Gives octet more) e = abort_moves (ap halt_asked e) (ap halt_rows e)
      by_halt (Gave whole false asked gap) e = replies_move _ _ (ap halt_rows e)
      by_halt (Gave whole true false gap) e = replies_move _ _ (ap halt_rows e)
      by_halt (Gave whole true true gap) e = abort_moves (ap halt_asked e) (ap halt_rows e)
      by_halt (Halted whole true) e = end_moves whole (subst (λ halt. Halts state ask own halt a.said a.came a.queue a.base) e a.here)
      by_halt (Halted whole false) e = absurd (let f : true ≡ false = sym (ap is_halt_passing e) ∙ lasts in cc)
