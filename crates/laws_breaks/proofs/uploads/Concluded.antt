-- What a server that takes octets of an upload holds once it was told of the break of its data connection: what came is installed or refused, and a reply that
-- refuses is owed.
use Rattle.std.proofs.Common.{◌≡◌, ℕ, Bool, true, false, true≢false, List, ◌++◌, Option, Some, None, refl, sym, ap, ap₂, ◌∙◌}
use Rattle.std.specs.Prelude.{if◌then◌else◌}
use Rattle.ftp_client_model.specs.Replies.{Negative, verdict_of}
use Rattle.ftp_direct.specs.declared.refusal.Refusal.{Refusal}
use Rattle.ftp_direct.specs.declared.refusal.Refusal.TheVariants as Refusals
use Rattle.ftp_ends.specs.Reply.{reply_octets}
use Rattle.ftp_path.specs.Path.{Names}
use Rattle.ftp_server_model.specs.Calls.{break_step, breaks, is_upload}
use Rattle.ftp_server_model.specs.Machine.{at_break, end_refusal, ends_by, breaks_off}
use Rattle.ftp_server_model.specs.Replies.{fixed_reply}
use Rattle.ftp_server_model.specs.Texts.{fixed_reply_code}
use Rattle.ftp_server_model.specs.View.{Session, Transfer, View as Far}
use Rattle.ftp_server_model.specs.Walk.{refusal_text}
use Rattle.ftp_server_model.specs.declared.reply.FixedReply.{FixedReply}
use Rattle.ftp_server_model.specs.declared.reply.FixedReply.TheVariants as Texts
use Rattle.ftp_server_model.specs.declared.session.Keep.{Keep}
use Rattle.ftp_server_model.specs.declared.session.ServerLink.{ServerLink}
use Rattle.ftp_server_model.specs.declared.session.ServerLink.TheVariants as Data
use Rattle.ftp_server_model.specs.declared.session.Transfer.TheVariants as Transfers
use Rattle.ftp_wire.specs.Decoder.{broken}
use Rattle.ftp_server_model.specs.Keep.{is_overtaken}

-- what came is installed or refused: no other data connection is had, and the session runs as before
ends_shut : (why : Option Refusal) (moment : ℕ) (path : Names) (keep : Keep) (octets : List ℕ) (text : FixedReply) (s : Session)
    → ((ends_by why moment path keep octets text s).0.connection ≡ s.connection) × ((ends_by why moment path keep octets text s).0.life ≡ s.life)
    × ((ends_by why moment path keep octets text s).0.closing ≡ s.closing)
ends_shut (Some why) moment path keep octets text s = (refl, refl, refl)
ends_shut None moment path keep octets text s = (refl, refl, refl)

-- so it is of a transfer
pub transfer_shut : (moment : ℕ) (transfer : Transfer) (s : Session)
    → ((at_break moment transfer s).0.connection ≡ s.connection) × ((at_break moment transfer s).0.life ≡ s.life)
    × ((at_break moment transfer s).0.closing ≡ s.closing)
transfer_shut moment (Transfers.Upload path keep d) s = by (is_overtaken keep)
  where
    by : (late : Bool) → let e : Session × FixedReply = breaks_off late moment path keep d s in
        (e.0.connection ≡ s.connection) × (e.0.life ≡ s.life) × (e.0.closing ≡ s.closing)
    by true = (refl, refl, refl)
    by false = ends_shut (end_refusal path keep (broken d).content s) moment path keep (broken d).content Texts.Broken s
transfer_shut moment Transfers.OverLimit s = (refl, refl, refl)
transfer_shut moment (Transfers.Download rest) s = (refl, refl, refl)
transfer_shut moment (Transfers.Listing rest) s = (refl, refl, refl)

-- such a reply refuses
transfer_refuses : (moment : ℕ) (transfer : Transfer) (s : Session) → verdict_of (fixed_reply_code (at_break moment transfer s).1) ≡ Negative
transfer_refuses moment (Transfers.Upload path keep d) s = off (is_overtaken keep)
  where
    by_why : (why : Refusal) → verdict_of (fixed_reply_code (refusal_text why)) ≡ Negative
    by_why Refusals.LocalFault = refl
    by_why why = refl

    by : (why : Option Refusal) → verdict_of (fixed_reply_code (ends_by why moment path keep (broken d).content Texts.Broken s).1) ≡ Negative
    by None = refl
    by (Some why) = by_why why

    off : (late : Bool) → verdict_of (fixed_reply_code (breaks_off late moment path keep d s).1) ≡ Negative
    off true = refl
    off false = by (end_refusal path keep (broken d).content s)
transfer_refuses moment Transfers.OverLimit s = refl
transfer_refuses moment (Transfers.Download rest) s = refl
transfer_refuses moment (Transfers.Listing rest) s = refl

-- whatever was owed, it is let go, the session runs as before, and a reply that refuses is owed after that
pub record Concludes (v : Far) : Type 0 where
  pub session : Session
  pub text : FixedReply
  pub is : (owed : List ℕ) → break_step (record v { owed = owed }) ≡ record v { session = session; owed = owed ++ reply_octets (fixed_reply text) }
  pub free : session.connection ≡ Data.Free
  pub life : session.life ≡ v.session.life
  pub unshut : session.closing ≡ v.session.closing
  pub refuses : verdict_of (fixed_reply_code text) ≡ Negative

-- of a server that takes octets, and wants no close
pub break_concludes : (v : Far) → v.session.closing ≡ false → is_upload v.session.connection ≡ true → Concludes v
break_concludes v unclosed takes = by v.session.connection refl takes
  where
    by : (link : ServerLink Transfer) → v.session.connection ≡ link → is_upload link ≡ true → Concludes v
    by (Data.Transferring transfer) is e =
        let s : Session = record v.session { connection = Data.Free } in
        let shut = transfer_shut v.context.moment transfer s in
        record {
          session = (at_break v.context.moment transfer s).0;
          text = (at_break v.context.moment transfer s).1;
          is = λ owed. ap₂ (λ c l. breaks (if c then Data.Free else l) (record v { owed = owed })) unclosed is;
          free = shut.0;
          life = shut.1;
          unshut = shut.2;
          refuses = transfer_refuses v.context.moment transfer s;
        }
    by Data.Free is e = absurd (true≢false (sym e))
    by (Data.Asked verb) is e = absurd (true≢false (sym e))
    by (Data.Active endpoint) is e = absurd (true≢false (sym e))
    by Data.Passive is e = absurd (true≢false (sym e))
    by Data.Ready is e = absurd (true≢false (sym e))
    by (Data.Opening transfer way) is e = absurd (true≢false (sym e))

-- it is let go, no line comes to wait, and the session runs as before
pub record LetsGo (old new : Far) : Type 0 where
  pub free : new.session.connection ≡ Data.Free
  pub waiting : new.waiting ≡ old.waiting
  pub life : new.session.life ≡ old.session.life

-- of a server that takes octets, and wants no close
pub break_lets : (v : Far) → v.session.closing ≡ false → is_upload v.session.connection ≡ true → LetsGo v (break_step v)
break_lets v unclosed takes =
    let b = break_concludes v unclosed takes in
    record {
      free = ap (λ (f : Far). f.session.connection) (b.is v.owed) ∙ b.free;
      waiting = ap (λ (f : Far). f.waiting) (b.is v.owed);
      life = ap (λ (f : Far). f.session.life) (b.is v.owed) ∙ b.life;
    }
