-- A client that has not failed, and one that is short of memory.
use Rattle.std.proofs.Common.{◌≡◌, ◌∙◌, refl, sym}
use Rattle.std.specs.Prelude.{IsTrue}
use Rattle.ftp_ends.specs.Ear.{Ear}
use Rattle.ftp_reply.specs.Reader.{Gathered}
use Rattle.ftp_client_model.specs.Calls.{is_sound}
use Rattle.ftp_client_model.specs.Failing.{short}
use Rattle.ftp_client_model.specs.View.{View, fails_by}
use Rattle.ftp_client_model.specs.declared.client.Failure.TheVariants as Failures
use Rattle.ftp_client_model.specs.declared.client.Standing.{Standing}
use Rattle.ftp_client_model.specs.declared.client.Standing.TheVariants as Stands
use Rattle.ftp_client_session.specs.Client.{ear_at, gathered_at, shorted}

pub ear_is : (s : Standing) → IsTrue (is_sound s) → (e : Ear) → ear_at s e ≡ e
ear_is Stands.Greeting sound e = refl
ear_is Stands.User sound e = refl
ear_is Stands.Pass sound e = refl
ear_is Stands.Entered sound e = refl
ear_is (Stands.Failed failure) sound e = absurd (cc sound)

pub gathered_is : (s : Standing) → IsTrue (is_sound s) → (g : Gathered) → gathered_at s g ≡ g
gathered_is Stands.Greeting sound g = refl
gathered_is Stands.User sound g = refl
gathered_is Stands.Pass sound g = refl
gathered_is Stands.Entered sound g = refl
gathered_is (Stands.Failed failure) sound g = absurd (cc sound)

pub seen : (s : Standing) → IsTrue (is_sound s) → (e : Ear) (g : Gathered) (v : View)
    → (let a : View = record v { ear = ear_at s e; gathered = gathered_at s g } in let b : View = record v { ear = e; gathered = g } in a ≡ b)
seen Stands.Greeting sound e g v = refl
seen Stands.User sound e g v = refl
seen Stands.Pass sound e g v = refl
seen Stands.Entered sound e g v = refl
seen (Stands.Failed failure) sound e g v = absurd (cc sound)

short_by : (s : Standing) (v : View) → IsTrue (is_sound s) → fails_by s Failures.Memory v ≡ shorted v
short_by Stands.Greeting v sound = refl
short_by Stands.User v sound = refl
short_by Stands.Pass v sound = refl
short_by Stands.Entered v sound = refl
short_by (Stands.Failed failure) v sound = absurd (cc sound)

pub short_is : (v : View) → IsTrue (is_sound v.standing) → short v ≡ shorted v
short_is v sound = short_by v.standing v sound

pub short_alike : (v w : View) → IsTrue (is_sound v.standing) → IsTrue (is_sound w.standing) → shorted v ≡ shorted w → short v ≡ short w
short_alike v w sound was same = short_is v sound ∙ same ∙ sym (short_is w was)
