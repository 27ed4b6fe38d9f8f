-- Sessions below a root, beside sessions below other roots and without them.
use Rattle.std.proofs.Common.{◌≡◌, ◌≢◌, ◌⊎◌, inl, inr, ℕ, Bool, true, false, eqb, List, [], ◌∷◌, Option, Some, None, refl, sym, ap, subst, ◌∙◌, slice_get, slice_set, take, true≢false}
use Rattle.std.specs.Prelude.{if◌then◌else◌}
use Rattle.std.specs.Option.{unwrap_or}
use Rattle.std.proofs.lemmas.Bool.Decides.{eqb_tells}
use Rattle.ftp_path.specs.Path.{Names, is_within}
use Rattle.ftp_tree.proofs.PartLemmas.{part-limits, same-nodes, under-limits}
use Rattle.ftp_tree.specs.Tree.{Table, node_at, under}
use Rattle.ftp_server_model.specs.Calls.{clocked, gives_control, listening, listen_refused, data_opened, data_refused, gives_data, data_end, data_fault, data_closed, receives, to_give, clock_step, control_step, listening_step, no_port_step, opened_step, refused_step, end_step, break_step, close_step, given_step}
use Rattle.ftp_server_model.specs.Machine.{Reading, hears, later, is_transferring}
use Rattle.ftp_server_model.specs.Play.{Cue, Clock, Hear, ControlOut, ControlEnd, Listening, DataOpened, DataHear, DataOut, ListenRefused, DataRefused, DataEnd, DataFault, DataClosed, AsksWants, Gift, Nothing, Took, Octets, CallIsAt, IsAt, at_root, call, most_given, no_nodes, only_at}
use Rattle.ftp_server_model.specs.View.{View}
use Rattle.laws_server.proofs.one.HeardLemmas.{heard_at, received_at}
use Rattle.laws_server.proofs.one.TurnLemmas.{IsHeld}
use Rattle.laws_server.proofs.one.SeenLemmas.{inside_at, outside_at}
use Rattle.laws_server.proofs.one.PartLemmas.{StepAt, ViewAt, acts_at, break_at, clock_at, close_at, control_at, control_end_at, end_at, given_at, listening_at, no_port_at, opened_at, refused_step_at, stays}
use Rattle.laws_server.specs.several.Several.{Slot, Several, Turn, called, called_as, exchanged, lent_to, in_slot_again}
use Rattle.laws_server.specs.several.Company.{AreInSlot, CompanyIsUnseen, IsCompany, IsInSlot, TurnIsAt, TurnsAreAt, alone_below, given_to_us, our_turns}
use Rattle.laws_server.proofs.several.LentLemmas.{lent_in_part, lent_in_slot, standing_in_part}
use Rattle.laws_server.proofs.several.LimitLemmas.{call_keeps}
use Rattle.laws_server.proofs.several.SlotLemmas.{get-set_same, get-set_other}

-- ---- one call, as `laws_server` has it

record CallAt (root : Names) (v : View) (one its : Gift × View) : Type 0 where
  pub gift : its.0 ≡ one.0
  pub is : ViewAt root v one.1 its.1
  pub known : IsAt root one.1

acted : (root : Names) (v one its : View) (gift : Gift) → StepAt root v one its → IsAt root v → IsAt root (later one) → CallAt root v (gift, later one) (gift, later its)
acted root v one its gift step before known = record { gift = refl; is = acts_at root v one its step before known; known = known }

call_at : (read : Reading) (root : Names) (cue : Cue) (v : View) → IsAt root v → IsHeld root v.session → CallIsAt read root cue v → CallAt root v (call read cue v) (call read cue (at_root root v))
unfolding clocked gives_control listening listen_refused data_opened data_refused gives_data data_end data_fault data_closed
call_at read root (Clock moment) v before held known = acted root v (clock_step moment v) (clock_step moment (at_root root v)) Nothing (clock_at moment root v held) before known
call_at read root (Hear octets) v before held known =
    let row = heard_at read octets root v before held known in
    let goes = λ (n : ℕ). hears read (at_root root v) (take n octets) in
    record { gift = ap Took row.count; is = record { same = ap goes row.count ∙ row.is.same; apart = row.is.apart; held = row.is.held }; known = row.known }
call_at read root (ControlOut room) v before held known =
    let count : ℕ = most_given room v.owed in
    acted root v (control_step count v) (control_step count (at_root root v)) (Octets (take room v.owed)) (control_at count root v held) before known
call_at read root ControlEnd v before held known = record { gift = refl; is = control_end_at root v; known = known }
call_at read root (Listening port) v before held known = acted root v (listening_step port v) (listening_step port (at_root root v)) Nothing (listening_at port root v held) before known
call_at read root ListenRefused v before held known = acted root v (no_port_step v) (no_port_step (at_root root v)) Nothing (no_port_at root v held) before known
call_at read root (DataOpened host) v before held known = acted root v (opened_step host v) (opened_step host (at_root root v)) Nothing (opened_at host root v held) before known
call_at read root DataRefused v before held known = acted root v (refused_step v) (refused_step (at_root root v)) Nothing (refused_step_at root v held) before known
call_at read root (DataHear octets) v before held known =
    let row = received_at octets root v before held known in
    let goes = λ (n : ℕ). receives (at_root root v) (take n octets) in
    record { gift = ap Took row.count; is = record { same = ap goes row.count ∙ row.is.same; apart = row.is.apart; held = row.is.held }; known = row.known }
call_at read root (DataOut room) v before held known =
    let count : ℕ = most_given room (to_give v) in
    acted root v (given_step count v) (given_step count (at_root root v)) (Octets (take room (to_give v))) (given_at count root v held) before known
call_at read root DataEnd v before held known = acted root v (end_step v) (end_step (at_root root v)) Nothing (end_at root v held) before known
call_at read root DataFault v before held known = acted root v (break_step v) (break_step (at_root root v)) Nothing (break_at root v held) before known
call_at read root DataClosed v before held known = acted root v (close_step v) (close_step (at_root root v)) Nothing (close_at root v held) before known
call_at read root AsksWants v before held known = record { gift = refl; is = stays root v held; known = known }

-- of a session that is called with the map that stands
in_slot_call : (read : Reading) (root : Names) (cue : Cue) (table : Table) (sits : Slot) → IsInSlot root sits.view → CallIsAt read root cue (lent_to table sits)
    → CallAt root (lent_to table sits) (call read cue (lent_to table sits)) (call read cue (lent_to (only_at root table) sits))
in_slot_call read root cue table sits in_slot known =
    let v : View = exchanged table sits.view in
    let here : IsInSlot root (lent_to table sits) = lent_in_slot root sits.stood v (record { known = in_slot.known; held = in_slot.held }) in
    subst (λ (w : View). CallAt root (lent_to table sits) (call read cue (lent_to table sits)) (call read cue w)) (sym (lent_in_part root sits.stood v in_slot.held))
    (call_at read root cue (lent_to table sits) here.known here.held known)

-- ---- maps

-- maps that have the same at and below a root
same_part : (root : Names) (table other : Table) → table.limits ≡ other.limits → ((path : Names) → is_within root path ≡ true → node_at table path ≡ node_at other path) → only_at root table ≡ only_at root other
same_part root table other limits same =
    same-nodes _ _ (within table ∙ limits ∙ sym (within other)) (λ path. elim (is_within root path) as (λ b. is_within root path ≡ b → node_at (only_at root table) path ≡ node_at (only_at root other) path) [
      | true ↦ λ inside. inside_at table root path inside ∙ same path inside ∙ sym (inside_at other root path inside)
      | false ↦ λ out. outside_at table root path out ∙ sym (outside_at other root path out)
    ] refl)
  where
    within : (table : Table) → (only_at root table).limits ≡ table.limits
    within table = part-limits no_nodes root (under table root) ∙ under-limits table root

-- ---- slots

the_same : (one other : Slot) → Some one ≡ Some other → one ≡ other
the_same one other is = ap (λ (found : Option Slot). unwrap_or found one) is

-- who was called is in a slot still
called_in_slot : (read : Reading) (root : Names) (cue : Cue) (table : Table) (sits : Slot) → IsInSlot root sits.view → CallIsAt read root cue (lent_to table sits)
    → IsInSlot root (in_slot_again sits.view.session.table (call read cue (lent_to table sits)).1).view
called_in_slot read root cue table sits in_slot known =
    let c = in_slot_call read root cue table sits in_slot known in
    record { known = c.known; held = c.is.held }

-- so all are
still_in_slot : (read : Reading) (roots : ℕ → Names) (turn : Turn) (s : Several) → AreInSlot roots s.slots → TurnIsAt read roots turn s → AreInSlot roots (called read turn s).1.slots
still_in_slot read roots turn s in_slot at = by (slice_get s.slots turn.slot) refl
  where
    by : (found : Option Slot) → slice_get s.slots turn.slot ≡ found → AreInSlot roots (called_as read turn.slot turn.cue found s).1.slots
    by None is = in_slot
    by (Some v) is = λ slot w sits. one slot w sits (eqb_tells turn.slot slot)
      where
        left : Slot
        left = in_slot_again v.view.session.table (call read turn.cue (lent_to s.table v)).1

        one : (slot : ℕ) (w : Slot) → slice_get (slice_set s.slots turn.slot left) slot ≡ Some w
            → ((eqb turn.slot slot ≡ true) × (turn.slot ≡ slot)) ⊎ ((eqb turn.slot slot ≡ false) × (turn.slot ≢ slot)) → IsInSlot (roots slot) w.view
        one slot w sits (inl same) =
            let is_left : left ≡ w = the_same left w (sym (get-set_same s.slots turn.slot v left is) ∙ ap (slice_get (slice_set s.slots turn.slot left)) same.1 ∙ sits) in
            subst (λ (n : ℕ). IsInSlot (roots n) w.view) same.1
            (subst (λ (who : Slot). IsInSlot (roots turn.slot) who.view) is_left (called_in_slot read (roots turn.slot) turn.cue s.table v (in_slot turn.slot v is) (at v is)))
        one slot w sits (inr other) = in_slot slot w (sym (get-set_other s.slots turn.slot slot left other.1) ∙ sits)

-- ---- with the others and without them

-- without the others: the part of the map, and our slots
record IsLone (root : Names) (ours : ℕ → Bool) (s its : Several) : Type 0 where
  pub table : its.table ≡ only_at root s.table
  pub slots : (slot : ℕ) → ours slot ≡ true → slice_get its.slots slot ≡ slice_get s.slots slot

-- a turn of ours gives the same, and leaves both so
record GoesAlike (root : Names) (ours : ℕ → Bool) (one its : Gift × Several) : Type 0 where
  pub gift : one.0 ≡ its.0
  pub lone : IsLone root ours one.1 its.1

our_turn : (read : Reading) (root : Names) (ours : ℕ → Bool) (turn : Turn) (s its : Several) (v : Slot) → IsLone root ours s its → slice_get s.slots turn.slot ≡ Some v
    → slice_get its.slots turn.slot ≡ Some v → IsInSlot root v.view → CallIsAt read root turn.cue (lent_to s.table v)
    → GoesAlike root ours (called_as read turn.slot turn.cue (Some v) s) (called_as read turn.slot turn.cue (Some v) its)
our_turn read root ours turn s its v lone sits its_sits in_slot known = record {
  gift = sym c.gift ∙ ap (λ (r : Gift × View). r.0) e;
  lone = record {
    table = ap (λ (r : Gift × View). r.1.session.table) (sym e) ∙ ap (λ (w : View). w.session.table) c.is.same;
    slots = λ slot mine. one slot mine (eqb_tells turn.slot slot);
  };
}
  where
    own : Table
    own = v.view.session.table

    c : CallAt root (lent_to s.table v) (call read turn.cue (lent_to s.table v)) (call read turn.cue (lent_to (only_at root s.table) v))
    c = in_slot_call read root turn.cue s.table v in_slot known

    e : call read turn.cue (lent_to (only_at root s.table) v) ≡ call read turn.cue (lent_to its.table v)
    e = ap (λ (t : Table). call read turn.cue (lent_to t v)) (sym lone.table)

    after : View
    after = (call read turn.cue (lent_to s.table v)).1

    left : Slot
    left = in_slot_again own after

    its_left : Slot
    its_left = in_slot_again own (call read turn.cue (lent_to its.table v)).1

    -- what stands at the path of an upload is the same in the part of the map
    again : in_slot_again own (at_root root after) ≡ left
    again = λ i. record { view = exchanged own after; stood = standing_in_part root after c.is.held i }

    lefts : its_left ≡ left
    lefts = ap (λ (r : Gift × View). in_slot_again own r.1) (sym e) ∙ ap (in_slot_again own) c.is.same ∙ again

    one : (slot : ℕ) → ours slot ≡ true → ((eqb turn.slot slot ≡ true) × (turn.slot ≡ slot)) ⊎ ((eqb turn.slot slot ≡ false) × (turn.slot ≢ slot))
        → slice_get (slice_set its.slots turn.slot its_left) slot ≡ slice_get (slice_set s.slots turn.slot left) slot
    one slot mine (inl same) =
        ap (slice_get (slice_set its.slots turn.slot its_left)) (sym same.1) ∙ get-set_same its.slots turn.slot v its_left its_sits ∙ ap (λ (w : Slot). Some w) lefts
        ∙ sym (get-set_same s.slots turn.slot v left sits) ∙ ap (slice_get (slice_set s.slots turn.slot left)) same.1
    one slot mine (inr other) =
        get-set_other its.slots turn.slot slot its_left other.1 ∙ lone.slots slot mine ∙ sym (get-set_other s.slots turn.slot slot left other.1)

our_turns_alike : (read : Reading) (root : Names) (ours : ℕ → Bool) (roots : ℕ → Names) (turn : Turn) (s its : Several) → IsCompany root ours roots → ours turn.slot ≡ true
    → IsLone root ours s its → AreInSlot roots s.slots → TurnIsAt read roots turn s → GoesAlike root ours (called read turn s) (called read turn its)
our_turns_alike read root ours roots turn s its company mine lone in_slot at =
    subst (λ (found : Option Slot). GoesAlike root ours (called read turn s) (called_as read turn.slot turn.cue found its)) (sym (lone.slots turn.slot mine)) (by (slice_get s.slots turn.slot) refl)
  where
    by : (found : Option Slot) → slice_get s.slots turn.slot ≡ found
        → GoesAlike root ours (called_as read turn.slot turn.cue found s) (called_as read turn.slot turn.cue found its)
    by None is = record { gift = refl; lone = lone }
    by (Some v) is =
        our_turn read root ours turn s its v lone is (lone.slots turn.slot mine ∙ is) (subst (λ (top : Names). IsInSlot top v.view) (company.same turn.slot mine) (in_slot turn.slot v is))
        (subst (λ (top : Names). CallIsAt read top turn.cue (lent_to s.table v)) (company.same turn.slot mine) (at v is))

-- a turn of another leaves ours as they were
their_turn : (read : Reading) (root : Names) (ours : ℕ → Bool) (roots : ℕ → Names) (turn : Turn) (s its : Several) → IsCompany root ours roots → ours turn.slot ≡ false
    → IsLone root ours s its → AreInSlot roots s.slots → TurnIsAt read roots turn s → IsLone root ours (called read turn s).1 its
their_turn read root ours roots turn s its company theirs lone in_slot at = by (slice_get s.slots turn.slot) refl
  where
    by : (found : Option Slot) → slice_get s.slots turn.slot ≡ found → IsLone root ours (called_as read turn.slot turn.cue found s).1 its
    by None is = lone
    by (Some v) is =
        let c = in_slot_call read (roots turn.slot) turn.cue s.table v (in_slot turn.slot v is) (at v is) in
        record {
          table = lone.table ∙ sym (same_part root (call read turn.cue (lent_to s.table v)).1.session.table s.table (call_keeps read turn.cue (lent_to s.table v)) (λ path inside. c.is.apart path (company.apart turn.slot path theirs inside)));
          slots = λ slot mine.
              lone.slots slot mine
              ∙ sym (get-set_other s.slots turn.slot slot (in_slot_again v.view.session.table (call read turn.cue (lent_to s.table v)).1)
              (λ same. true≢false (sym mine ∙ ap ours (sym same) ∙ theirs)));
        }

-- ---- all turns

unseen : (read : Reading) (root : Names) (ours : ℕ → Bool) (roots : ℕ → Names) (turns : List Turn) (s its : Several) → IsCompany root ours roots → IsLone root ours s its
    → AreInSlot roots s.slots → TurnsAreAt read roots turns s → given_to_us read ours turns s ≡ given_to_us read ours (our_turns ours turns) its
unfolding given_to_us our_turns
unseen read root ours roots [] s its company lone in_slot at = refl
unseen read root ours roots (turn ∷ turns) s its company lone in_slot at =
    by (ours turn.slot) refl (λ next its_next lone. unseen read root ours roots turns next its_next company lone) (still_in_slot read roots turn s in_slot at.0)
  where
    G : List Turn → Several → List Gift
    G turns s = given_to_us read ours turns s

    by : (b : Bool) → ours turn.slot ≡ b
        → ((next its_next : Several) → IsLone root ours next its_next → AreInSlot roots next.slots → TurnsAreAt read roots turns next → G turns next ≡ G (our_turns ours turns) its_next)
        → AreInSlot roots (called read turn s).1.slots
        → (if b then (called read turn s).0 ∷ G turns (called read turn s).1 else G turns (called read turn s).1) ≡ G (if b then turn ∷ our_turns ours turns else our_turns ours turns) its
    by true mine rest slots =
        let alike = our_turns_alike read root ours roots turn s its company mine lone in_slot at.0 in
        ap (λ (gift : Gift). gift ∷ G turns (called read turn s).1) alike.gift
        ∙ ap (λ (gifts : List Gift). (called read turn its).0 ∷ gifts) (rest (called read turn s).1 (called read turn its).1 alike.lone slots at.1)
        ∙ ap (λ (b : Bool). if b then (called read turn its).0 ∷ G (our_turns ours turns) (called read turn its).1 else G (our_turns ours turns) (called read turn its).1) (sym mine)
    by false theirs rest slots = rest (called read turn s).1 its (their_turn read root ours roots turn s its company theirs lone in_slot at.0) slots at.1

pub company_is_unseen : CompanyIsUnseen
company_is_unseen read root ours roots turns s company in_slot at =
    unseen read root ours roots turns s (alone_below root s) company (record { table = refl; slots = λ slot mine. refl }) in_slot at
