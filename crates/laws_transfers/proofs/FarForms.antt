-- What a server makes of octets of an upload, and of their end.
use Rattle.std.proofs.Common.{◌≡◌, ℕ, zero, suc, ◌<◌, Bool, true, false, true≢false, List, [], ◌∷◌, length, take, Option, Some, None, refl, sym, ap, ap₂, ◌∙◌, arith}
use Rattle.std.specs.Prelude.{if◌then◌else◌}
use Rattle.ftp_direct.specs.declared.refusal.Refusal.{Refusal}
use Rattle.ftp_ends.specs.declared.link.Wants.{Wants}
use Rattle.ftp_ends.specs.declared.link.Wants.TheVariants as Want
use Rattle.ftp_mode.specs.Said.{Said, says}
use Rattle.ftp_mode.specs.declared.fault.FrameFault.{FrameFault}
use Rattle.ftp_path.specs.Path.{Names}
use Rattle.ftp_wire.specs.Decoder.{broken, ended, fault_of, is_whole, octet_says, read_on}
use Rattle.ftp_server_model.specs.Calls as far
use Rattle.ftp_server_model.specs.Calls.{MayReceive, clock_step, connection_of, end_step, ends, is_upload, may_receive, receives, receives_octet, takes_all, takes_data, takes_octet, takes_said, wants_of}
use Rattle.ftp_server_model.specs.Machine.{at_end, end_refusal, ends_by, is_transferring, waited, breaks_off}
use Rattle.ftp_server_model.specs.View.{Session, Transfer, View as Far}
use Rattle.ftp_server_model.specs.declared.reply.FixedReply.{FixedReply}
use Rattle.ftp_server_model.specs.declared.reply.FixedReply.TheVariants as Texts
use Rattle.ftp_server_model.specs.declared.session.Keep.{Keep}
use Rattle.ftp_server_model.specs.declared.session.ServerLink.{ServerLink}
use Rattle.ftp_server_model.specs.declared.session.ServerLink.TheVariants as Data
use Rattle.ftp_server_model.specs.declared.session.Transfer.TheVariants as Transfers
use Rattle.ftp_server_model.specs.declared.session.Way.TheVariants as Ways
use Rattle.laws_drivers.specs.world.Ahead.{accepts, is_asked, is_open}
use Rattle.laws_transfers.proofs.Known.{is_ready}
use Rattle.ftp_server_model.specs.Keep.{is_overtaken}

-- ---- what it wants

abbrev pub is_receive : Wants → Bool
is_receive Want.Receive = true
is_receive other = false

-- it wants octets just of an upload
pub receives_upload : (link : ServerLink Transfer) → is_receive (wants_of link) ≡ is_upload link
receives_upload (Data.Opening transfer Ways.Accept) = refl
receives_upload (Data.Transferring Transfers.OverLimit) = refl
receives_upload link = refl

-- one that is not open takes none
pub shut_untaken : (link : ServerLink Transfer) → is_open link ≡ false → is_upload link ≡ false
shut_untaken Data.Free e = refl
shut_untaken (Data.Asked verb) e = refl
shut_untaken (Data.Active endpoint) e = refl
shut_untaken Data.Passive e = refl
shut_untaken Data.Ready e = absurd (true≢false e)
shut_untaken (Data.Opening transfer way) e = refl
shut_untaken (Data.Transferring transfer) e = absurd (true≢false e)

-- one that takes octets is open, is at a transfer, waits for nobody and asked for no port
pub record Takes (link : ServerLink Transfer) : Type 0 where
  pub opened : is_open link ≡ true
  pub busy : is_transferring link ≡ true
  pub alone : accepts link ≡ false
  pub unasked : is_asked link ≡ false
  pub begun : is_ready link ≡ false

pub upload_takes : (link : ServerLink Transfer) → is_upload link ≡ true → Takes link
upload_takes Data.Free e = absurd (true≢false (sym e))
upload_takes (Data.Asked verb) e = absurd (true≢false (sym e))
upload_takes (Data.Active endpoint) e = absurd (true≢false (sym e))
upload_takes Data.Passive e = absurd (true≢false (sym e))
upload_takes Data.Ready e = absurd (true≢false (sym e))
upload_takes (Data.Opening transfer way) e = absurd (true≢false (sym e))
upload_takes (Data.Transferring transfer) e = record { opened = refl; busy = refl; alone = refl; unasked = refl; begun = refl }

-- ---- octets

-- what one says is taken whatever the moment, and no line comes to wait
record Beside (f : Far → Far) (v : Far) : Type 0 where
  clock : (moment : ℕ) → f (clock_step moment v) ≡ clock_step moment (f v)
  waiting : (f v).waiting ≡ v.waiting

said_beside : (link : ServerLink Transfer) (said : Said) (v : Far) → Beside (λ f. takes_said link said f) v
said_beside (Data.Transferring (Transfers.Upload path keep d)) (says sign) v = record { clock = λ moment. refl; waiting = refl }
said_beside link said v = record { clock = λ moment. refl; waiting = refl }

all_beside : (said : List Said) (v : Far) → Beside (λ f. takes_all said f) v
all_beside [] v = record { clock = λ moment. refl; waiting = refl }
all_beside (said ∷ more) v =
    let one = said_beside v.session.connection said v in
    let rest = all_beside more (takes_said v.session.connection said v) in
    record { clock = λ moment. ap (λ f. takes_all more f) (one.clock moment) ∙ rest.clock moment; waiting = rest.waiting ∙ one.waiting }

data_beside : (link : ServerLink Transfer) (octet : ℕ) (v : Far) → Beside (λ f. takes_data link octet f) v
data_beside (Data.Transferring (Transfers.Upload path keep d)) octet v = by (fault_of (read_on d octet))
  where
    by : (fault : Option FrameFault) → Beside (λ f. takes_octet fault path keep (read_on d octet) (octet_says d octet) f) v
    by None =
        let on = all_beside (octet_says d octet) (far.with_connection (Data.Transferring (Transfers.Upload path keep (read_on d octet))) v) in
        record { clock = on.clock; waiting = on.waiting }
    by (Some fault) = record { clock = λ moment. refl; waiting = refl }
data_beside link octet v = record { clock = λ moment. refl; waiting = refl }

octet_beside : (octet : ℕ) (v : Far) → v.waiting ≡ None → Beside (λ f. receives_octet f octet) v
unfolding receives_octet
octet_beside octet v none =
    let f : Far = takes_data (connection_of v.session) octet v in
    let on = data_beside (connection_of v.session) octet v in
    let still : (g : Far) → g.waiting ≡ None → waited g.waiting g ≡ g = λ g e. ap (λ q. waited q g) e in
    let here : receives_octet v octet ≡ f = still f (on.waiting ∙ none) in
    record {
      clock = λ moment. ap (λ g. waited g.waiting g) (on.clock moment) ∙ still (clock_step moment f) (on.waiting ∙ none) ∙ ap (clock_step moment) (sym here);
      waiting = ap (λ (g : Far). g.waiting) here ∙ on.waiting;
    }

-- so are octets
pub receives_beside : (octets : List ℕ) (v : Far) → v.waiting ≡ None
    → ((moment : ℕ) → receives (clock_step moment v) octets ≡ clock_step moment (receives v octets)) × ((receives v octets).waiting ≡ v.waiting)
receives_beside [] v none = (λ moment. refl, refl)
receives_beside (octet ∷ octets) v none =
    let one = octet_beside octet v none in
    let rest = receives_beside octets (receives_octet v octet) (one.waiting ∙ none) in
    (λ moment. ap (λ g. receives g octets) (one.clock moment) ∙ rest.0 moment, rest.1 ∙ one.waiting)

-- ---- the end

-- what is left has none open, and no close is wanted of it that was not before
ends_shut : (why : Option Refusal) (moment : ℕ) (path : Names) (keep : Keep) (octets : List ℕ) (text : FixedReply) (s : Session)
    → ((ends_by why moment path keep octets text s).0.connection ≡ s.connection) × ((ends_by why moment path keep octets text s).0.closing ≡ s.closing)
ends_shut (Some why) moment path keep octets text s = (refl, refl)
ends_shut None moment path keep octets text s = (refl, refl)

transfer_shut : (moment : ℕ) (transfer : Transfer) (s : Session)
    → ((at_end moment transfer s).0.connection ≡ s.connection) × ((at_end moment transfer s).0.closing ≡ s.closing)
transfer_shut moment (Transfers.Upload path keep d) s = by (is_whole d)
  where
    off : (late : Bool) → ((breaks_off late moment path keep d s).0.connection ≡ s.connection) × ((breaks_off late moment path keep d s).0.closing ≡ s.closing)
    off true = (refl, refl)
    off false = ends_shut (end_refusal path keep (broken d).content s) moment path keep (broken d).content Texts.Broken s

    by : (whole : Bool) → let e : Session × FixedReply = (if whole then ends_by (end_refusal path keep (ended d).content s) moment path keep
        (ended d).content Texts.Complete s
        else breaks_off (is_overtaken keep) moment path keep d s) in
        (e.0.connection ≡ s.connection) × (e.0.closing ≡ s.closing)
    by true = ends_shut (end_refusal path keep (ended d).content s) moment path keep (ended d).content Texts.Complete s
    by false = off (is_overtaken keep)
transfer_shut moment Transfers.OverLimit s = (refl, refl)
transfer_shut moment (Transfers.Download rest) s = (refl, refl)
transfer_shut moment (Transfers.Listing rest) s = (refl, refl)

-- of a server that takes octets, and wants no close
pub end_shut : (v : Far) → v.session.closing ≡ false → is_upload v.session.connection ≡ true
    → ((end_step v).session.connection ≡ Data.Free) × ((end_step v).waiting ≡ v.waiting)
end_shut v unclosed takes = by v.session.connection refl takes
  where
    by : (link : ServerLink Transfer) → v.session.connection ≡ link → is_upload link ≡ true
        → ((end_step v).session.connection ≡ Data.Free) × ((end_step v).waiting ≡ v.waiting)
    by (Data.Transferring transfer) is e =
        let step : end_step v ≡ ends (Data.Transferring transfer) v = ap₂ (λ c l. ends (if c then Data.Free else l) v) unclosed is in (
          ap (λ (f : Far). f.session.connection) step ∙ (transfer_shut v.context.moment transfer (record v.session { connection = Data.Free })).0,
          ap (λ (f : Far). f.waiting) step,
        )
    by Data.Free is e = absurd (true≢false (sym e))
    by (Data.Asked verb) is e = absurd (true≢false (sym e))
    by (Data.Active endpoint) is e = absurd (true≢false (sym e))
    by Data.Passive is e = absurd (true≢false (sym e))
    by Data.Ready is e = absurd (true≢false (sym e))
    by (Data.Opening transfer way) is e = absurd (true≢false (sym e))

-- ---- whether octets may be taken

-- each of the first ones
pub may_front : (octets : List ℕ) (v : Far) → MayReceive v octets → (k : ℕ) → k < length octets → may_receive (receives v (take k octets)) ≡ true
may_front [] v may k less = absurd (none k less)
  where
    none : (k : ℕ) → k < 0 → ⊥
    none k less = omega (arith, less)
may_front (octet ∷ octets) v may zero less = may.0
may_front (octet ∷ octets) v may (suc k) less = may_front octets (receives_octet v octet) may.1 k (below k (length octets) less)
  where
    below : (k n : ℕ) → suc k < suc n → k < n
    below k n less = omega (arith, less)
