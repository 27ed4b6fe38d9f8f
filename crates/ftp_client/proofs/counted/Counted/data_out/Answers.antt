use Rattle.std.proofs.Common.{◌∙◌, refl, sym, ap, subst, true≢false}
use Rattle.std.specs.Prelude.{IsTrue}
use Rattle.ftp_client_model.specs.Calls.{is_sound}
use Rattle.ftp_client_model.specs.Dialogue.{carries_on}
use Rattle.ftp_client_model.specs.Growing.{carrying_grows}
use Rattle.ftp_client_model.specs.View.{View}
use Rattle.ftp_client_session.specs.Client.{shorted, view_of}
use Rattle.ftp_client.proofs.HeardLemmas.{err_at, ok_at}
use Rattle.ftp_client_session.proofs.HeardLemmas.{short_alike}
use Rattle.ftp_client.proofs.GivenLemmas.{goes_on, goes_short}
use Rattle.ftp_client.proofs.counted.Counted.data_out.Goals as goal

pub returns-else-is_err-clause-now : goal.returns-else-is_err-clause-now
returns-else-is_err-clause-now g c =
    let v : View = view_of g.F.ClientTransfer.flow c.args.self.now.dialogue in (
      (λ same. ok_at c.carry_on.result _ (sym c.is_err.ensures.value ∙ c.if-is_err.false) c.carry_on.ensures.ok
          ∙ ap carries_on c.give-count.ensures.now ∙ goes_on c.give-count.result v),
      (λ other. absurd (other refl)),
    )

pub returns-then-is_err-clause-now : goal.returns-then-is_err-clause-now
returns-then-is_err-clause-now g c =
    let v : View = view_of g.F.ClientTransfer.flow c.args.self.now.dialogue in
    let failed = sym c.is_err.ensures.value ∙ c.if-is_err.true in (
      (λ same. absurd (c.shorten.ensures.count same)),
      (λ other. c.shorten.ensures.view
          ∙ short_alike (view_of g.F.ClientTransfer.flow c.carry_on.new.self) v (err_at c.carry_on.result _ failed c.carry_on.ensures.sound)
          (subst (λ s. IsTrue (is_sound s)) (ap (λ (u : View). u.standing) c.give-count.ensures.now) (err_at c.carry_on.result _ failed c.carry_on.ensures.was))
          (err_at c.carry_on.result _ failed c.carry_on.ensures.err ∙ ap shorted c.give-count.ensures.now ∙ goes_short c.give-count.result v)),
    )

pub returns-then-is_err-clause-spare : goal.returns-then-is_err-clause-spare
returns-then-is_err-clause-spare g c spare =
    let failed = sym c.is_err.ensures.value ∙ c.if-is_err.true in
    let grows = subst (λ (u : View). IsTrue (carrying_grows u)) c.give-count.ensures.now (err_at c.carry_on.result _ failed c.carry_on.ensures.grows) in
    absurd (true≢false (sym grows ∙ spare))
