-- What a world does for its ends behind an event (three looks at each, and the report) makes no more to do.
use Rattle.std.proofs.Common.{◌≡◌, ℕ, ◌⊎◌, inl, inr, length, Bool, true, false, Option, Some, None, refl, sym, ap, subst, ◌∙◌, arith}
use Rattle.std.specs.Prelude.{if◌then◌else◌}
use Rattle.std.proofs.lemmas.Bool.{cond_both}
use Rattle.ftp_ends.proofs.Counts.{one_if}
use Rattle.ftp_ends.specs.declared.link.Wants.TheVariants as Want
use Rattle.ftp_operation.specs.Answer.{Said}
use Rattle.ftp_client_model.specs.Calls as near
use Rattle.ftp_client_model.specs.Calls.{data_wants, is_down, is_sound, link_wants, reported_by, transfer_under_way}
use Rattle.ftp_client_model.specs.Dialogue.{has_begun}
use Rattle.ftp_client_model.specs.View.{View as Near, Transfer, Told, stands, Job}
use Rattle.ftp_client_model.specs.declared.client.ClientLink.{ClientLink as NearData}
use Rattle.ftp_client_model.specs.declared.client.ClientLink.TheVariants as NearDatas
use Rattle.ftp_server_model.specs.Calls as far
use Rattle.ftp_server_model.specs.Calls.{connection_of, is_done, listening_step, listening_turn, wants_of}
use Rattle.ftp_server_model.specs.View.{Context, Session, View as Far, Transfer as FarTransfer}
use Rattle.ftp_server_model.specs.declared.session.PassiveVerb.TheVariants as Asking
use Rattle.ftp_server_model.specs.declared.session.ServerLink.{ServerLink as FarData}
use Rattle.ftp_server_model.specs.declared.session.ServerLink.TheVariants as FarDatas
use Rattle.ftp_server_model.specs.declared.session.Transfer.TheVariants as Transfers
use Rattle.ftp_server_model.specs.declared.session.Way.TheVariants as Ways
use Rattle.laws_world.specs.Serving.{near_closes, far_closes, near_listens, far_listens, left_by_near, left_by_far, near_served, far_served, near_served_by, far_served_by, served, collected, collected_by, after_event, link_closed_by_near, link_closed_by_far}
use Rattle.laws_world.specs.Settling.{left_in, control_ends, ends_to_server, ends_to_client}
use Rattle.laws_world.specs.World.{World, Control, Stands, LeftByNear, LeftByFar, Link, Gone, Opened, ClosedByNear, ClosedByFar, port_at}
use Rattle.laws_settling.specs.Laws.{AtMost, ServingIsLow}
use Rattle.laws_settling.specs.Steady.{AreApart, NearIsApart, FarIsApart}
use Rattle.laws_settling.proofs.Order.{FarLow, NearLow, far_most, le_then, most_most, most_same, near_most, near_same}
use Rattle.laws_settling.proofs.FarLinesApart.{later_apart}
use Rattle.laws_settling.proofs.FarLow.{FarPays, far_listening, far_pays}
use Rattle.laws_settling.proofs.NearLow as nears
use Rattle.laws_settling.proofs.NearLow.{FallsOpen, near_listening, near_reports}

-- no more is to do in one world than in another
abbrev pub Most : (new old : World) → Type 0
Most new old = AtMost (left_in new) (left_in old)

-- ---- the client closes its side

-- the client's close is one less to give
near_paid : (w : World) → w.near.closing ≡ true → NearIsApart w.near → NearLow w.near (near.data_closed w.near)
near_paid w is a =
    let one : one_if w.near.closing ≡ 1 = ap one_if is in
    let none : length (near.to_give (near.data_closed w.near)) ≡ 0 = ap length (nears.nothing_to_give (near.data_closed w.near) (a is)) in
    record { begins = omega arith; gives = inr (omega (arith, one), omega (arith, none)) }

-- and its side of the link is closed, however the link stands
near_closed : (w : World) (link : Link) → w.link ≡ link → w.near.closing ≡ true → NearIsApart w.near
    → Most (link_closed_by_near link (record w { near = near.data_closed w.near })) w
near_closed w Opened link is a =
    let one : one_if w.near.closing ≡ 1 = ap one_if is in
    let none : length (near.to_give (near.data_closed w.near)) ≡ 0 = ap length (nears.nothing_to_give (near.data_closed w.near) (a is)) in
    let to_server : ends_to_server w.link ≡ 0 = ap ends_to_server link in
    let to_client : ends_to_client w.link ≡ 0 = ap ends_to_client link in
    inr (refl, inr (omega (arith, one, to_server), inr (refl, inr (omega (arith, to_client), omega (arith, none)))))
near_closed w ClosedByFar link is a =
    let one : one_if w.near.closing ≡ 1 = ap one_if is in
    inr (refl, inl (omega (arith, one)))
near_closed w other link is a = near_most w (near.data_closed w.near) (near_paid w is a)

-- so its close makes no more to do
near_closes_most : (w : World) → w.near.closing ≡ true → NearIsApart w.near → Most (near_closes w) w
near_closes_most w is a = near_closed w w.link refl is a

-- ---- the server closes its side

-- the server's close is one less to give
far_low : (w : World) (f : Far) → FarPays w.far f → FarLow w.far f
far_low w f (inl less) = record { begins = omega (arith, less); gives = inl less }
far_low w f (inr pays) = record { begins = omega (arith, pays.0); gives = inr (omega (arith, pays.1), pays.2) }

-- and its side of the link is closed, however the link stands
far_closed : (w : World) (f : Far) (link : Link) → w.link ≡ link → FarPays w.far f → Most (link_closed_by_far link (record w { far = f })) w
far_closed w f Opened link (inl less) =
    let to_server : ends_to_server w.link ≡ 0 = ap ends_to_server link in
    inr (refl, inr (omega (arith, to_server), inl less))
far_closed w f Opened link (inr pays) =
    let to_server : ends_to_server w.link ≡ 0 = ap ends_to_server link in
    let to_client : ends_to_client w.link ≡ 0 = ap ends_to_client link in
    inr (refl, inr (omega (arith, to_server), inr (pays.0, le_then _ _ (omega (arith, pays.1, to_client)) (λ e. omega (arith, pays.2)))))
far_closed w f ClosedByNear link pays =
    let to_server : ends_to_server w.link ≡ 1 = ap ends_to_server link in
    inr (refl, inl (omega (arith, to_server)))
far_closed w f other link pays = far_most w f (far_low w f pays)

-- so its close makes no more to do
far_closes_most : (w : World) → w.far.session.closing ≡ true → FarIsApart w.far → Most (far_closes w) w
far_closes_most w is a = far_closed w (far.data_closed w.far) w.link refl (far_pays w.far is a)

-- ---- an end leaves

-- the client leaves the control connection
near_leaves : (w : World) (control : Control) → w.control ≡ control → Most (left_by_near control w) w
near_leaves w Stands is =
    let one : control_ends w.control ≡ 1 = ap control_ends is in
    inr (refl, inr (omega (arith, one), inr (refl, inr (omega (arith, one), omega arith))))
near_leaves w LeftByFar is = let one : control_ends w.control ≡ 1 = ap control_ends is in inr (refl, inl (omega (arith, one)))
near_leaves w control is = most_same (left_in w)

-- the server leaves it
far_leaves : (w : World) (control : Control) → w.control ≡ control → Most (left_by_far control w) w
far_leaves w Stands is =
    let one : control_ends w.control ≡ 1 = ap control_ends is in
    inr (refl, inr (omega (arith, one), inr (refl, inr (omega (arith, one), omega arith))))
far_leaves w LeftByNear is = let one : control_ends w.control ≡ 1 = ap control_ends is in inr (refl, inl (omega (arith, one)))
far_leaves w control is = most_same (left_in w)

-- ---- one thing that an end wants

-- no more is to do, and both ends are apart as before
pub record IsServed (old new : World) : Type 0 where
  pub most : Most new old
  pub apart : AreApart new

-- nothing is served
pub same_served : (w : World) → AreApart w → IsServed w w
same_served w a = record { most = most_same (left_in w); apart = a }

-- a close, and what the ends then are
pub near_closed_ends : (link : Link) (w : World) → ((link_closed_by_near link w).near ≡ w.near) × ((link_closed_by_near link w).far ≡ w.far)
near_closed_ends Gone w = (refl, refl)
near_closed_ends link w = (refl, refl)

-- nor the server's
pub far_closed_ends : (link : Link) (w : World) → ((link_closed_by_far link w).near ≡ w.near) × ((link_closed_by_far link w).far ≡ w.far)
far_closed_ends Gone w = (refl, refl)
far_closed_ends link w = (refl, refl)

-- nor does the client's leaving
pub near_left_ends : (control : Control) (w : World) → ((left_by_near control w).near ≡ w.near) × ((left_by_near control w).far ≡ w.far)
near_left_ends Stands w = (refl, refl)
near_left_ends control w = (refl, refl)

-- nor the server's
pub far_left_ends : (control : Control) (w : World) → ((left_by_far control w).near ≡ w.near) × ((left_by_far control w).far ≡ w.far)
far_left_ends Stands w = (refl, refl)
far_left_ends control w = (refl, refl)

-- a world of the same ends
pub apart_as : (w new : World) → (new.near ≡ w.near) × (new.far ≡ w.far) → AreApart w → AreApart new
apart_as w new is a = record { near = subst NearIsApart (sym is.0) a.near; far = subst FarIsApart (sym is.1) a.far }

-- a client whose close is done wants none
closed_apart : (w : World) → AreApart w → AreApart (near_closes w)
closed_apart w a =
    let u : World = record w { near = near.data_closed w.near } in
    apart_as u (near_closes w) (near_closed_ends w.link u) (record { near = λ is. absurd (cc); far = a.far })

-- nor does a server
far_apart : (v : Far) → FarIsApart (far.data_closed v)
unfolding far.data_closed
far_apart v = later_apart (far.close_step v) (λ is. absurd (cc))

-- so both stay apart
far_closed_apart : (w : World) → AreApart w → AreApart (far_closes w)
far_closed_apart w a =
    let u : World = record w { far = far.data_closed w.far } in
    apart_as u (far_closes w) (far_closed_ends w.link u) (record { near = a.near; far = far_apart w.far })

-- the client's close
pub near_closes_served : (w : World) → w.near.closing ≡ true → AreApart w → IsServed w (near_closes w)
near_closes_served w is a = record { most = near_closes_most w is a.near; apart = closed_apart w a }

-- the server's close
pub far_closes_served : (w : World) → w.far.session.closing ≡ true → AreApart w → IsServed w (far_closes w)
far_closes_served w is a = record { most = far_closes_most w is a.far; apart = far_closed_apart w a }

-- the client's leaving
pub near_leaves_served : (w : World) → AreApart w → IsServed w (left_by_near w.control w)
near_leaves_served w a = record { most = near_leaves w w.control refl; apart = apart_as w _ (near_left_ends w.control w) a }

-- the server's leaving
pub far_leaves_served : (w : World) → AreApart w → IsServed w (left_by_far w.control w)
far_leaves_served w a = record { most = far_leaves w w.control refl; apart = apart_as w _ (far_left_ends w.control w) a }

-- ---- what the client wants

-- what one look at the client does: a close, a port, its leaving, or nothing
pub data IsNearServed (w new : World) : Type 0 where
  closes : w.near.closing ≡ true → new ≡ near_closes w → IsNearServed w new
  listens : w.near.closing ≡ false → new ≡ near_listens w → IsNearServed w new
  leaves : w.near.closing ≡ false → is_sound w.near.standing ≡ false → new ≡ left_by_near w.control w → IsNearServed w new
  rests : is_sound w.near.standing ≡ true → new ≡ w → IsNearServed w new

-- nothing is served of what a transfer wants of the link
data_rests : (transfer : Option Transfer) (w : World) → near_served_by (data_wants transfer) w ≡ w
data_rests None w = refl
data_rests (Some transfer) w =
    cond_both (is_down transfer.flow) _ _ (λ wants. near_served_by wants w ≡ w) (λ is. refl)
    (λ is. cond_both (has_begun transfer.replied) _ _ (λ wants. near_served_by wants w ≡ w) (λ is. refl) (λ is. refl))

-- what is served of what the client wants of a connection
link_served : (connection : NearData) (w : World) → w.near.closing ≡ false → is_sound w.near.standing ≡ true → IsNearServed w (near_served_by (link_wants connection w.near) w)
link_served NearDatas.ListenWanted w apart sound = listens apart refl
link_served NearDatas.Open w apart sound = rests sound (data_rests (transfer_under_way w.near) w)
link_served connection w apart sound = rests sound refl

-- by whether a close is wanted, and whether the client is sound
near_served_if : (closing sound : Bool) (w : World) → w.near.closing ≡ closing → is_sound w.near.standing ≡ sound
    → IsNearServed w (near_served_by (if closing then Want.CloseData else (if sound then link_wants w.near.connection w.near else Want.CloseAll)) w)
near_served_if true sound w is stands = closes is refl
near_served_if false true w is stands = link_served w.near.connection w is stands
near_served_if false false w is stands = leaves is stands refl

-- one look at the client
pub near_served_is : (w : World) → IsNearServed w (near_served w)
unfolding near.wants
near_served_is w = near_served_if w.near.closing (is_sound w.near.standing) w refl refl

-- a port that the client is told makes no more to do
listens_low : (v new : Near) → FallsOpen v new ⊎ (new ≡ v) → NearLow v new
listens_low v new (inl falls) = record { begins = omega (arith, falls.less); gives = inl falls.less }
listens_low v new (inr same) = subst (NearLow v) (sym same) (near_same v)

-- and leaves it apart
listens_apart : (v new : Near) → v.closing ≡ false → NearIsApart v → FallsOpen v new ⊎ (new ≡ v) → NearIsApart new
listens_apart v new is a (inl falls) = λ closing. let open_still : new.closing ≡ false = falls.closing ∙ is in absurd (cc)
listens_apart v new is a (inr same) = subst NearIsApart (sym same) a

-- so it is served
near_listens_served : (w : World) → w.near.closing ≡ false → AreApart w → IsServed w (near_listens w)
near_listens_served w is a =
    let told = near_listening (port_at w.listens) w.near is in
    record {
      most = near_most w (near.listening (port_at w.listens) w.near) (listens_low w.near _ told);
      apart = record { near = listens_apart w.near _ is a.near told; far = a.far };
    }

-- each of the four
near_cases : (w new : World) → AreApart w → IsNearServed w new → IsServed w new
near_cases w new a (closes is e) = subst (IsServed w) (sym e) (near_closes_served w is a)
near_cases w new a (listens is e) = subst (IsServed w) (sym e) (near_listens_served w is a)
near_cases w new a (leaves is sound e) = subst (IsServed w) (sym e) (near_leaves_served w a)
near_cases w new a (rests sound e) = subst (IsServed w) (sym e) (same_served w a)

-- one look at the client makes no more to do
pub near_is_served : (w : World) → AreApart w → IsServed w (near_served w)
near_is_served w a = near_cases w (near_served w) a (near_served_is w)

-- ---- what the server wants

-- what one look at the server does
pub data IsFarServed (w new : World) : Type 0 where
  far_shuts : w.far.session.closing ≡ true → new ≡ far_closes w → IsFarServed w new
  far_hears : w.far.session.closing ≡ false → new ≡ far_listens w → IsFarServed w new
  far_goes : w.far.session.closing ≡ false → new ≡ left_by_far w.control w → IsFarServed w new
  far_rests : is_done w.far.session.life w.far.owed ≡ false → new ≡ w → IsFarServed w new

-- what is served of what the server wants of a connection
wants_served : (connection : FarData FarTransfer) (w : World) → w.far.session.closing ≡ false → is_done w.far.session.life w.far.owed ≡ false → IsFarServed w (far_served_by (wants_of connection) w)
wants_served (FarDatas.Asked asked) w is undone = far_hears is refl
wants_served (FarDatas.Opening transfer Ways.Accept) w is undone = far_rests undone refl
wants_served (FarDatas.Transferring Transfers.OverLimit) w is undone = far_rests undone refl
wants_served connection w is undone = far_rests undone refl

-- by whether a close is wanted, and whether the server is done
far_served_if : (closing done : Bool) (w : World) → w.far.session.closing ≡ closing → is_done w.far.session.life w.far.owed ≡ done
    → IsFarServed w (far_served_by (if closing then Want.CloseData else (if done then Want.CloseAll else wants_of w.far.session.connection)) w)
far_served_if true done w is over = far_shuts is refl
far_served_if false true w is over = far_goes is refl
far_served_if false false w is over = wants_served w.far.session.connection w is over

-- one look at the server
pub far_served_is : (w : World) → IsFarServed w (far_served w)
far_served_is w = far_served_if w.far.session.closing (is_done w.far.session.life w.far.owed) w refl refl

-- a port that is told leaves the close
turn_closing : (connection : FarData FarTransfer) (context : Context) (port : ℕ) (s : Session) → (listening_turn connection context port s).0.closing ≡ s.closing
turn_closing (FarDatas.Asked Asking.Pasv) context port s = refl
turn_closing connection context port s = refl

-- so the server stays apart
far_listens_apart : (port : ℕ) (v : Far) → v.session.closing ≡ false → FarIsApart (far.listening port v)
unfolding far.listening
far_listens_apart port v is =
    later_apart (listening_step port v)
    (λ closing. let open_still : (listening_step port v).session.closing ≡ false = turn_closing (connection_of v.session) v.context port v.session ∙ is in absurd (cc))

-- a port that it is told is served
far_listens_served : (w : World) → w.far.session.closing ≡ false → AreApart w → IsServed w (far_listens w)
far_listens_served w is a = record {
  most = far_most w (far.listening (port_at w.listens) w.far) (far_listening (port_at w.listens) w.far);
  apart = record { near = a.near; far = far_listens_apart (port_at w.listens) w.far is };
}

-- each of the four
far_cases : (w new : World) → AreApart w → IsFarServed w new → IsServed w new
far_cases w new a (far_shuts is e) = subst (IsServed w) (sym e) (far_closes_served w is a)
far_cases w new a (far_hears is e) = subst (IsServed w) (sym e) (far_listens_served w is a)
far_cases w new a (far_goes is e) = subst (IsServed w) (sym e) (far_leaves_served w a)
far_cases w new a (far_rests undone e) = subst (IsServed w) (sym e) (same_served w a)

-- one look at the server makes no more to do
pub far_is_served : (w : World) → AreApart w → IsServed w (far_served w)
far_is_served w a = far_cases w (far_served w) a (far_served_is w)

-- ---- all of it, and the report

-- two looks, one behind the other
pub then_served : (a b c : World) → IsServed a b → (AreApart b → IsServed b c) → IsServed a c
then_served a b c one next =
    let other = next one.apart in
    record { most = most_most (left_in a) (left_in b) (left_in c) one.most other.most; apart = other.apart }

-- three at the client
pub near_thrice_served : (w : World) → AreApart w → IsServed w (near_served (near_served (near_served w)))
near_thrice_served w a =
    then_served w (near_served w) _ (near_is_served w a) (λ b. then_served (near_served w) (near_served (near_served w)) _ (near_is_served (near_served w) b) (λ c. near_is_served (near_served (near_served w)) c))

-- three at the server
pub far_thrice_served : (w : World) → AreApart w → IsServed w (far_served (far_served (far_served w)))
far_thrice_served w a =
    then_served w (far_served w) _ (far_is_served w a) (λ b. then_served (far_served w) (far_served (far_served w)) _ (far_is_served (far_served w) b) (λ c. far_is_served (far_served (far_served w)) c))

-- a client whose report is taken is apart
reports_apart : (job : Job) (v : Near) → NearIsApart v → NearIsApart (reported_by job v)
reports_apart (Told answer) v a = a
reports_apart job v a = a

-- the report, if there is one
collected_served : (answer : Option Said) (w : World) → AreApart w → IsServed w (collected_by answer w)
collected_served None w a = same_served w a
collected_served (Some answer) w a = record {
  most = near_most w (near.reports w.near) (near_reports w.near);
  apart = record { near = reports_apart w.near.job w.near a.near; far = a.far };
}

-- the report
pub collects_served : (w : World) → AreApart w → IsServed w (collected w)
collects_served w a = collected_served (near.report_of w.near) w a

-- all six looks
pub all_served : (w : World) → AreApart w → IsServed w (served w)
all_served w a = then_served w (near_served (near_served (near_served w))) (served w) (near_thrice_served w a) (λ b. far_thrice_served (near_served (near_served (near_served w))) b)

-- and the report
pub after_served : (w : World) → AreApart w → IsServed w (after_event w)
after_served w a = then_served w (served w) (after_event w) (all_served w a) (λ b. collects_served (served w) b)

-- so what is served makes no more to do
pub serving_is_low : ServingIsLow
serving_is_low w a = (after_served w a).most
