-- An end is told that the other has left the control connection: that lowers a number since it then leaves too, at one of the first two looks.
use Rattle.std.proofs.Common.{◌≡◌, inl, inr, Bool, true, false, None, refl, sym, ap, subst, ◌∙◌, arith}
use Rattle.std.specs.Prelude.{if◌then◌else◌}
use Rattle.ftp_ends.specs.declared.link.Wants.{Wants}
use Rattle.ftp_ends.specs.declared.link.Wants.TheVariants as Want
use Rattle.ftp_nvt.proofs.CutLemmas.{decided}
use Rattle.ftp_client_model.specs.Calls as near
use Rattle.ftp_client_model.specs.Calls.{is_sound, link_wants}
use Rattle.ftp_client_model.specs.View.{View as Near, fails_by}
use Rattle.ftp_client_model.specs.declared.client.Failure.TheVariants as Failures
use Rattle.ftp_client_model.specs.declared.client.Standing.{Standing}
use Rattle.ftp_client_model.specs.declared.client.Standing.TheVariants as Standings
use Rattle.ftp_server_model.specs.Calls as far
use Rattle.ftp_server_model.specs.Calls.{close_step, is_done, wants_of}
use Rattle.ftp_server_model.specs.Machine.{waited}
use Rattle.ftp_server_model.specs.View.{View as Far}
use Rattle.ftp_server_model.specs.declared.session.Life.{Life}
use Rattle.ftp_server_model.specs.declared.session.Life.TheVariants as Lives
use Rattle.laws_world.specs.Events.{ControlToServer, ControlToClient, told}
use Rattle.laws_world.specs.Serving.{after_event, far_closes, far_served, far_served_by, left_by_far, left_by_near, link_closed_by_far, link_closed_by_near, near_closes, near_served, near_served_by, served}
use Rattle.laws_world.specs.Settling.{control_ends, left_in}
use Rattle.laws_world.specs.World.{World, LeftByNear, LeftByFar, Link, Gone}
use Rattle.laws_settling.specs.Steady.{AreApart}
use Rattle.laws_settling.proofs.Moving.{Less}
use Rattle.laws_settling.proofs.FarCallsApart.{control_end_apart}
use Rattle.laws_settling.proofs.FarLow.{far_ends}
use Rattle.laws_settling.proofs.NearApart as keeps
use Rattle.laws_settling.proofs.NearLow as nears
use Rattle.laws_settling.proofs.Order.{falls_most, far_most, most_falls, near_most}
use Rattle.laws_settling.proofs.Served.{IsNearServed, closes, listens, leaves, rests, collects_served, far_closed_ends, far_closes_served, far_is_served, far_thrice_served, near_closed_ends, near_closes_served, near_is_served, near_served_is, near_thrice_served}

-- ---- the server was told

-- the server was told that the client has left
pub record FarCut (w : World) : Type 0 where
  pub control : w.control ≡ LeftByNear
  pub life : w.far.session.life ≡ Lives.Cut
  pub waiting : w.far.waiting ≡ None

-- a close of the client leaves the control connection
pub near_closed_control : (link : Link) (w : World) → (link_closed_by_near link w).control ≡ w.control
near_closed_control Gone w = refl
near_closed_control link w = refl

-- so does one of the server
pub far_closed_control : (link : Link) (w : World) → (link_closed_by_far link w).control ≡ w.control
far_closed_control Gone w = refl
far_closed_control link w = refl

-- another world of the same server
cut_as : (w new : World) → new.control ≡ w.control → new.far ≡ w.far → FarCut w → FarCut new
cut_as w new control far cut = record { control = control ∙ cut.control; life = ap (λ (v : Far). v.session.life) far ∙ cut.life; waiting = ap (λ (v : Far). v.waiting) far ∙ cut.waiting }

-- the client's close changes nothing of it
cut_closes : (w : World) → FarCut w → FarCut (near_closes w)
cut_closes w cut =
    let u : World = record w { near = near.data_closed w.near } in
    cut_as w (near_closes w) (near_closed_control w.link u) (near_closed_ends w.link u).1 cut

-- nor does its leaving, as it has left
cut_leaves : (w : World) → FarCut w → FarCut (left_by_near w.control w)
cut_leaves w cut = subst (λ control. FarCut (left_by_near control w)) (sym cut.control) cut

-- nor does any look at the client
near_cases_cut : (w new : World) → FarCut w → IsNearServed w new → FarCut new
near_cases_cut w new cut (closes is e) = subst FarCut (sym e) (cut_closes w cut)
near_cases_cut w new cut (listens is e) = subst FarCut (sym e) (record { control = cut.control; life = cut.life; waiting = cut.waiting })
near_cases_cut w new cut (leaves is sound e) = subst FarCut (sym e) (cut_leaves w cut)
near_cases_cut w new cut (rests sound e) = subst FarCut (sym e) cut

-- one look at the client
near_served_cut : (w : World) → FarCut w → FarCut (near_served w)
near_served_cut w cut = near_cases_cut w (near_served w) cut (near_served_is w)

-- it leaves
cut_goes : (w : World) → FarCut w → w.far.session.closing ≡ false → far_served w ≡ left_by_far LeftByNear w
cut_goes w cut is =
    let rest : Wants = wants_of w.far.session.connection in
    let wants : far.wants w.far ≡ Want.CloseAll =
    ap (λ (b : Bool). if b then Want.CloseData else (if is_done w.far.session.life w.far.owed then Want.CloseAll else rest)) is
    ∙ ap (λ (life : Life). if is_done life w.far.owed then Want.CloseAll else rest) cut.life in
    ap (λ wants. far_served_by wants w) wants ∙ ap (λ control. left_by_far control w) cut.control

-- before it leaves it closes its side of the link
cut_shuts : (w : World) → w.far.session.closing ≡ true → far_served w ≡ far_closes w
cut_shuts w is =
    ap (λ (b : Bool). far_served_by (if b then Want.CloseData else (if is_done w.far.session.life w.far.owed then Want.CloseAll else wants_of w.far.session.connection)) w) is

-- no line waits any more
closed_step : (v : Far) → v.waiting ≡ None → far.data_closed v ≡ close_step v
unfolding far.data_closed
closed_step v is = ap (λ waiting. waited waiting (close_step v)) is

-- its close is done
cut_closed : (w : World) → FarCut w → FarCut (far_closes w) × ((far_closes w).far.session.closing ≡ false)
cut_closed w cut =
    let u : World = record w { far = far.data_closed w.far } in
    let ends : (far_closes w).far ≡ close_step w.far = (far_closed_ends w.link u).1 ∙ closed_step w.far cut.waiting in (
      record {
        control = far_closed_control w.link u ∙ cut.control;
        life = ap (λ (v : Far). v.session.life) ends ∙ cut.life;
        waiting = ap (λ (v : Far). v.waiting) ends ∙ cut.waiting;
      },
      ap (λ (v : Far). v.session.closing) ends,
    )

-- so it leaves at the first look
goes_less : (w : World) → FarCut w → w.far.session.closing ≡ false → Less (far_served w) w
goes_less w cut is =
    let one : control_ends w.control ≡ 1 = ap control_ends cut.control in
    subst (λ new. Less new w) (sym (cut_goes w cut is)) (inr (refl, inl (omega (arith, one))))

-- or at the second
two_less : (w : World) → FarCut w → AreApart w → Less (far_served (far_served w)) w
two_less w cut a = elim (decided w.far.session.closing) [
  | inl is ↦ (let P : World → Type 0 = λ u. Less (far_served u) w in
      let shut = cut_closed w cut in
      subst P (sym (cut_shuts w is)) (most_falls (left_in w) (left_in (far_closes w)) (left_in (far_served (far_closes w))) (far_closes_served w is a).most (goes_less (far_closes w) shut.0 shut.1)))
  | inr is ↦ (let one = far_is_served w a in
      falls_most (left_in w) (left_in (far_served w)) (left_in (far_served (far_served w))) (goes_less w cut is) (far_is_served (far_served w) one.apart).most)
]

-- so three looks fall
thrice_less : (w : World) → FarCut w → AreApart w → Less (far_served (far_served (far_served w))) w
thrice_less w cut a =
    let one = far_is_served w a in
    let two = far_is_served (far_served w) one.apart in
    falls_most (left_in w) (left_in (far_served (far_served w))) (left_in (far_served (far_served (far_served w)))) (two_less w cut a) (far_is_served (far_served (far_served w)) two.apart).most

-- and so does all that is served
cut_less : (w : World) → FarCut w → AreApart w → Less (after_event w) w
cut_less w cut a =
    let u : World = near_served (near_served (near_served w)) in
    let nears = near_thrice_served w a in
    let cut_there = near_served_cut (near_served (near_served w)) (near_served_cut (near_served w) (near_served_cut w cut)) in
    let fars = far_thrice_served u nears.apart in
    let last = collects_served (served w) fars.apart in
    falls_most (left_in w) (left_in (served w)) (left_in (after_event w))
    (most_falls (left_in w) (left_in u) (left_in (served w)) nears.most (thrice_less u cut_there nears.apart)) last.most

-- a server that was told is cut, and no line of it waits
control_cut : (v : Far) → ((far.control_end v).session.life ≡ Lives.Cut) × ((far.control_end v).waiting ≡ None)
unfolding far.control_end
control_cut v = (refl, refl)

-- so the end of the control connection falls, told to the server
pub server_told : (w : World) → w.control ≡ LeftByNear → AreApart w → Less (after_event (told ControlToServer w)) w
server_told w is a =
    let mid : World = told ControlToServer w in
    let cut = control_cut w.far in
    most_falls (left_in w) (left_in mid) (left_in (after_event mid)) (far_most w (far.control_end w.far) (far_ends w.far))
    (cut_less mid (record { control = is; life = cut.0; waiting = cut.1 }) (record { near = a.near; far = control_end_apart w.far }))

-- ---- the client was told

-- the client was told that the server has left
pub record NearCut (w : World) : Type 0 where
  pub control : w.control ≡ LeftByFar
  pub sound : is_sound w.near.standing ≡ false

-- it leaves
near_goes : (w : World) → NearCut w → w.near.closing ≡ false → near_served w ≡ left_by_near LeftByFar w
unfolding near.wants
near_goes w cut is =
    let rest : Wants = link_wants w.near.connection w.near in
    let wants : near.wants w.near ≡ Want.CloseAll =
    ap (λ (b : Bool). if b then Want.CloseData else (if is_sound w.near.standing then rest else Want.CloseAll)) is
    ∙ ap (λ (b : Bool). if b then rest else Want.CloseAll) cut.sound in
    ap (λ wants. near_served_by wants w) wants ∙ ap (λ control. left_by_near control w) cut.control

-- before it leaves it closes its side of the link
near_shuts : (w : World) → w.near.closing ≡ true → near_served w ≡ near_closes w
unfolding near.wants
near_shuts w is =
    ap (λ (b : Bool). near_served_by (if b then Want.CloseData else (if is_sound w.near.standing then link_wants w.near.connection w.near else Want.CloseAll)) w) is

-- its close is done
near_shut : (w : World) → NearCut w → NearCut (near_closes w) × ((near_closes w).near.closing ≡ false)
near_shut w cut =
    let u : World = record w { near = near.data_closed w.near } in
    let ends : (near_closes w).near ≡ near.data_closed w.near = (near_closed_ends w.link u).0 in
    (record { control = near_closed_control w.link u ∙ cut.control; sound = ap (λ (v : Near). is_sound v.standing) ends ∙ cut.sound }, ap (λ (v : Near). v.closing) ends)

-- so it leaves at the first look
near_goes_less : (w : World) → NearCut w → w.near.closing ≡ false → Less (near_served w) w
near_goes_less w cut is =
    let one : control_ends w.control ≡ 1 = ap control_ends cut.control in
    subst (λ new. Less new w) (sym (near_goes w cut is)) (inr (refl, inl (omega (arith, one))))

-- or at the second
near_two_less : (w : World) → NearCut w → AreApart w → Less (near_served (near_served w)) w
near_two_less w cut a = elim (decided w.near.closing) [
  | inl is ↦ (let P : World → Type 0 = λ u. Less (near_served u) w in
      let shut = near_shut w cut in
      subst P (sym (near_shuts w is)) (most_falls (left_in w) (left_in (near_closes w)) (left_in (near_served (near_closes w))) (near_closes_served w is a).most (near_goes_less (near_closes w) shut.0 shut.1)))
  | inr is ↦ (let one = near_is_served w a in
      falls_most (left_in w) (left_in (near_served w)) (left_in (near_served (near_served w))) (near_goes_less w cut is) (near_is_served (near_served w) one.apart).most)
]

-- so all that is served falls
near_cut_less : (w : World) → NearCut w → AreApart w → Less (after_event w) w
near_cut_less w cut a =
    let two : World = near_served (near_served w) in
    let u : World = near_served two in
    let one_there = near_is_served w a in
    let two_there = near_is_served (near_served w) one_there.apart in
    let there = near_is_served two two_there.apart in
    let fars = far_thrice_served u there.apart in
    let last = collects_served (served w) fars.apart in
    let less = falls_most (left_in w) (left_in two) (left_in u) (near_two_less w cut a) there.most in
    falls_most (left_in w) (left_in (served w)) (left_in (after_event w)) (falls_most (left_in w) (left_in u) (left_in (served w)) less fars.most) last.most

-- a client that was told is sound no more
failed : (standing : Standing) (v : Near) → v.standing ≡ standing → is_sound (fails_by standing Failures.Lost v).standing ≡ false
failed (Standings.Failed failure) v is = ap is_sound is
failed standing v is = refl

-- the same, as a call
pub near_failed : (v : Near) → is_sound (near.control_end v).standing ≡ false
unfolding near.control_end
near_failed v = failed v.standing v refl

-- so the end of the control connection falls, told to the client
pub client_told : (w : World) → w.control ≡ LeftByFar → AreApart w → Less (after_event (told ControlToClient w)) w
client_told w is a =
    let mid : World = told ControlToClient w in
    most_falls (left_in w) (left_in mid) (left_in (after_event mid)) (near_most w (near.control_end w.near) (nears.near_ends w.near))
    (near_cut_less mid (record { control = is; sound = near_failed w.near }) (record { near = (keeps.control_end_keep w.near).apart a.near; far = a.far }))
