-- Where nothing is on its way to a world's server, which is between two lines and at no transfer, the drive's is where that is.
use Rattle.std.proofs.Common.{◌≡◌, ℕ, true, false, true≢false, List, [], ◌∷◌, ◌++◌, refl, sym, ap, ◌∙◌}
use Rattle.ftp_ends.specs.Ear.{quiet}
use Rattle.ftp_ends.specs.Octets.{has_octets}
use Rattle.ftp_server_model.specs.Calls.{clock_step}
use Rattle.ftp_server_model.specs.Machine.{is_connection_busy}
use Rattle.ftp_server_model.specs.View.{Transfer, View as Far}
use Rattle.ftp_server_model.specs.declared.session.PassiveVerb.TheVariants as Asking
use Rattle.ftp_server_model.specs.declared.session.ServerLink.{ServerLink}
use Rattle.ftp_server_model.specs.declared.session.ServerLink.TheVariants as Data
use Rattle.ftp_server_model.specs.declared.session.Transfer.TheVariants as Transfers
use Rattle.ftp_server_model.specs.declared.session.Way.TheVariants as Ways
use Rattle.laws_world.specs.World.{World}
use Rattle.laws_dialogues.specs.Dialogue.{is_set_aside}
use Rattle.laws_drivers.specs.world.Ahead.{WorldAhead, Fits, Level, Listens, Opens, accepts, far_world_ahead, is_asked}

-- ---- a world

-- no octet is on its way to the server, which is between two lines, owes none, and at no transfer
pub record IsIdle (f : Far) : Type 0 where
  pub ear : f.ear ≡ quiet
  pub owed : f.owed ≡ []
  pub aside : is_set_aside f.session.connection ≡ true

pub record Idles (w : World) : Type 0 where
  pub to_server : w.control_to_server ≡ []
  pub far : IsIdle w.far

-- ---- the server of the drive

-- what asks for nothing, and is asked for nothing, is not busy
aside_idle : (link : ServerLink Transfer) → is_set_aside link ≡ true → is_connection_busy link ≡ false
aside_idle Data.Free is = refl
aside_idle (Data.Active endpoint) is = refl
aside_idle Data.Passive is = refl
aside_idle (Data.Asked asked) is = absurd (true≢false (sym is))
aside_idle Data.Ready is = absurd (true≢false (sym is))
aside_idle (Data.Opening transfer way) is = absurd (true≢false (sym is))
aside_idle (Data.Transferring transfer) is = absurd (true≢false (sym is))

-- no octets are some after others
not_some : (octets more : List ℕ) → has_octets more ≡ true → octets ++ more ≡ [] → ⊥
not_some [] more some none = true≢false (sym some ∙ ap has_octets none)
not_some (octet ∷ octets) more some none = true≢false (ap has_octets none)

-- with this data connection
abbrev linked : ServerLink Transfer → Far → Far
linked link v = record v { session = record v.session { connection = link } }

-- a world's server that is ahead by an opening is not at rest
opening_progresses : (transfer : Transfer) (v : Far) → is_set_aside (far_world_ahead Opens (linked (Data.Opening transfer Ways.Accept) v)).session.connection ≡ true
    → (far_world_ahead Opens (linked (Data.Opening transfer Ways.Accept) v)).owed ≡ [] → ⊥
opening_progresses (Transfers.Upload path keep d) v aside owed = true≢false (sym aside)
opening_progresses Transfers.OverLimit v aside owed = true≢false (sym aside)
opening_progresses (Transfers.Download []) v aside owed = not_some v.owed _ refl owed
opening_progresses (Transfers.Download (octet ∷ more)) v aside owed = true≢false (sym aside)
opening_progresses (Transfers.Listing []) v aside owed = not_some v.owed _ refl owed
opening_progresses (Transfers.Listing (octet ∷ more)) v aside owed = true≢false (sym aside)

opens_progress : (link : ServerLink Transfer) → accepts link ≡ true → (v : Far) → is_set_aside (far_world_ahead Opens (linked link v)).session.connection ≡ true
    → (far_world_ahead Opens (linked link v)).owed ≡ [] → ⊥
opens_progress Data.Passive is v aside owed = true≢false (sym aside)
opens_progress (Data.Opening transfer Ways.Accept) is v aside owed = opening_progresses transfer v aside owed
opens_progress (Data.Opening transfer (Ways.Connect endpoint)) is v aside owed = true≢false (sym is)
opens_progress Data.Free is v aside owed = true≢false (sym is)
opens_progress (Data.Asked verb) is v aside owed = true≢false (sym is)
opens_progress (Data.Active endpoint) is v aside owed = true≢false (sym is)
opens_progress Data.Ready is v aside owed = true≢false (sym is)
opens_progress (Data.Transferring transfer) is v aside owed = true≢false (sym is)

-- nor is one that is ahead by a port
told_progresses : (port : ℕ) (link : ServerLink Transfer) → is_asked link ≡ true → (v : Far) → (far_world_ahead (Listens port) (linked link v)).owed ≡ [] → ⊥
told_progresses port (Data.Asked Asking.Pasv) is v owed = not_some v.owed _ refl owed
told_progresses port (Data.Asked Asking.Epsv) is v owed = not_some v.owed _ refl owed
told_progresses port Data.Free is v owed = true≢false (sym is)
told_progresses port (Data.Active endpoint) is v owed = true≢false (sym is)
told_progresses port Data.Passive is v owed = true≢false (sym is)
told_progresses port Data.Ready is v owed = true≢false (sym is)
told_progresses port (Data.Opening transfer way) is v owed = true≢false (sym is)
told_progresses port (Data.Transferring transfer) is v owed = true≢false (sym is)

-- between two lines, owing nothing, at no transfer
pub record AtRest (v : Far) : Type 0 where
  pub ear : v.ear ≡ quiet
  pub owed : v.owed ≡ []
  pub idle : is_connection_busy v.session.connection ≡ false

-- so the drive's server is where the world's is
pub rests_so : (ahead : WorldAhead) (v : Far) → Fits ahead v.session.connection → IsIdle (far_world_ahead ahead v) → AtRest v
rests_so Level v fits idle = record { ear = idle.ear; owed = idle.owed; idle = aside_idle v.session.connection idle.aside }
rests_so Opens v fits idle = absurd (opens_progress v.session.connection fits v idle.aside idle.owed)
rests_so (Listens port) v fits idle = absurd (told_progresses port v.session.connection fits v idle.owed)

-- at whatever moment
pub idle_at : (moment : ℕ) (w f : Far) → w ≡ clock_step moment f → IsIdle w → IsIdle f
idle_at moment w f is idle = record {
  ear = sym (ap (λ (v : Far). v.ear) is) ∙ idle.ear;
  owed = sym (ap (λ (v : Far). v.owed) is) ∙ idle.owed;
  aside = sym (ap (λ (v : Far). is_set_aside v.session.connection) is) ∙ idle.aside;
}
