-- No operation of an upload over breaks is a Peek that has sent ABOR.
use Rattle.std.proofs.Common.{◌≡◌, ◌⊎◌, inl, inr, ℕ, Bool, true, false, List, [], ◌++◌, Option, Some, None, refl, sym, ap, subst, ◌∙◌}
use Rattle.ftp_operation.specs.Answer.{Said, Octets}
use Rattle.ftp_operation.specs.declared.op.Op.{Op}
use Rattle.ftp_operation.specs.declared.op.Op.TheVariants as Ops
use Rattle.ftp_wire.specs.Decoder.{decoder_of}
use Rattle.ftp_direct.specs.Direct.{State, answer, done}
use Rattle.ftp_client_model.specs.Octets.{content_answer}
use Rattle.ftp_client_model.specs.Plan.{how_of}
use Rattle.ftp_client_model.specs.Tries.{is_size}
use Rattle.laws_world.specs.Agreement.{Order, Single}
use Rattle.laws_world.specs.World.{World, Mark}
use Rattle.laws_dialogues.specs.Fetches.{Ask, IsStore}
use Rattle.laws_agreement.specs.Over.{Going, orders_alone}
use Rattle.laws_agreement.specs.PeekStages.{AtHalt}
use Rattle.laws_agreement.specs.Runs.{IsAsked}
use Rattle.laws_agreement.specs.Tried.{tried_orders}
use Rattle.laws_agreement.proofs.OverSettles.{last_order, last_same, single_same, whole_said}
use Rattle.laws_agreement.proofs.OverTries.{answered_by, kind_of}

-- an answer of octets
abbrev gives_octets : Said → Bool
gives_octets (Octets octets) = true
gives_octets said = false

-- where there is one
abbrev may_give : Option Said → Bool
may_give None = false
may_give (Some said) = gives_octets said

-- an upload is not done with octets
store_done : (op : Op (List ℕ)) (now : State) (moment : ℕ) → IsStore op → gives_octets (done now op moment).0 ≡ false
store_done (Ops.Put text octets how) now moment store = refl
store_done (Ops.Append text octets how) now moment store = refl
store_done (Ops.PutFrom text offset octets how) now moment store = refl
store_done op now moment store = absurd store

-- what is settled of octets that came for an upload would be an answer of octets
store_settled : (op : Op (List ℕ)) (content : List ℕ) (said : Said) → IsStore op → content_answer op content ≡ Some said → gives_octets said ≡ true
store_settled (Ops.Put text octets how) content said store is = sym (ap may_give is)
store_settled (Ops.Append text octets how) content said store is = sym (ap may_give is)
store_settled (Ops.PutFrom text offset octets how) content said store is = sym (ap may_give is)
store_settled op content said store is = absurd store

-- so no upload is halted
store_halted : (now : State) (ask : Ask) (own : List Mark) (moment : ℕ) (w : World) → IsStore ask.op → AtHalt now ask own w → ⊥
store_halted now ask own moment w store h =
    let none : gives_octets (answer now ask.op moment).0 ≡ false =
    answered_by (λ said. gives_octets said ≡ false) now ask.op moment refl (λ why. refl) (λ fine. store_done ask.op now moment store) in
    let direct : h.said ≡ (answer now ask.op moment).0 = whole_said now ask h.said (h.here.fares []) moment in
    let some : gives_octets h.said ≡ true = store_settled ask.op (decoder_of ask.settings h.came).content h.said store h.here.settled in
    let e : true ≡ false = sym some ∙ ap gives_octets direct ∙ none in cc

-- nor is any operation of an upload over breaks
pub no_halt : (Stood : State → Ask → List Mark → World → Type 0) (from : State) {begun : List Order} {a : World} (g : Going begun a) (w new : World) (f : IsAsked Stood from (orders_alone g) w)
    → AtHalt f.now f.ask f.own new → ⊥
no_halt Stood from {begun} {a} g w new f halts = by_kind (kind_of g.upload g.op g.one)
  where
    same : g.op ≡ f.ask.op
    same = (single_same g.op f.ask.op g.moment f.moment (last_same (g.done ++ tried_orders g.moment g.past) f.done (Single g.op g.moment) (Single f.ask.op f.moment) (sym (last_order g) ∙ f.begun_is))).0

    by_kind : (IsStore g.op × (is_size g.op ≡ false)) ⊎ (g.op ≡ Ops.Size g.upload.path g.upload.how) → ⊥
    by_kind (inl store) = store_halted f.now f.ask f.own f.moment new (subst IsStore same store.0) halts
    by_kind (inr size) = let e : None ≡ Some f.ask.how = ap how_of (sym size ∙ same) ∙ f.is_ask.plan.how_is in cc
