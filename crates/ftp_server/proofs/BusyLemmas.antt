-- Where a line may be acted on, the data connection is not busy, and there is room.
use Rattle.std.proofs.Common.{◌≡◌, ◌≤◌, Bool, true, false, not, ◌&&◌, length, refl, sym, leb-true}
use Rattle.ftp_server_model.specs.Machine.{has_room, is_connection_busy, is_idle}
use Rattle.ftp_server_model.specs.View.{Transfer, View}
use Rattle.ftp_server_model.specs.declared.session.ServerLink.{ServerLink}
use Rattle.ftp_server_model.specs.declared.session.ServerLink.TheVariants as Data
use Rattle.ftp_server_session.specs.Session.{connection_seen, has_transfer}
use Rattle.ftp_server.specs.Busy.{is_busy}

-- the data connection, however a transfer is seen
pub busy_seen : {J : Type 0} (view : J → Transfer) (c : ServerLink J) → is_connection_busy (connection_seen view c) ≡ is_busy c
busy_seen view Data.Free = refl
busy_seen view (Data.Asked asked) = refl
busy_seen view (Data.Active endpoint) = refl
busy_seen view Data.Passive = refl
busy_seen view Data.Ready = refl
busy_seen view (Data.Opening transfer way) = refl
busy_seen view (Data.Transferring transfer) = refl

idle_parts : (b r : Bool) → (not b && r) ≡ true → (b ≡ false) × (r ≡ true)
idle_parts true r e = absurd (let wrong : false ≡ true = e in cc)
idle_parts false r e = (refl, e)

-- where a line may be acted on, the data connection is not busy
pub idle_calm : (v : View) → is_idle v ≡ true → is_connection_busy v.session.connection ≡ false
idle_calm v e = (idle_parts (is_connection_busy v.session.connection) (has_room v) e).0

-- so no transfer stands, however it is seen
pub idle_free : {J : Type 0} (view : J → Transfer) (c : ServerLink J) → is_connection_busy (connection_seen view c) ≡ false → has_transfer c ≡ false
idle_free view Data.Free is = refl
idle_free view (Data.Asked asked) is = refl
idle_free view (Data.Active endpoint) is = refl
idle_free view Data.Passive is = refl
idle_free view Data.Ready is = refl
idle_free view (Data.Opening transfer way) is = absurd (let wrong : true ≡ false = is in cc)
idle_free view (Data.Transferring transfer) is = absurd (let wrong : true ≡ false = is in cc)

-- and there is room
pub idle_room : (v : View) → is_idle v ≡ true → length v.owed ≤ 4096
idle_room v e = leb-true _ _ (idle_parts (is_connection_busy v.session.connection) (has_room v) e).1
