-- Actions one after another.
use Rattle.std.proofs.Common.{◌≡◌, ◌∙◌, ◌≤◌, ◌+◌, ℕ, suc, List, [], ◌∷◌, ◌++◌, refl, sym, ap, subst, inl, arith}
use Rattle.std.proofs.KnownBytes.{Appends-nil, Keeps-refl}
use Rattle.std.specs.Io.KnownBytes.{Appends, Keeps}
use Rattle.ftp_ports.specs.Beginning.{AppendsFront}
use Rattle.ftp_ports.proofs.Fronts.{AppendsFront-none}
use Rattle.ftp_ports.specs.Cause.{IsSpent, most_turns}
use Rattle.ftp_ports.specs.Side.{Side}
use Rattle.ftp_ports.specs.Actions.{Action, Other, Done, Led, Stand, step_by, steps_in, with_owner}
use Rattle.ftp_ports.specs.Driving.{Breaks, Fails, Leads, LeadsBy, Quietly}
use Rattle.ftp_ports.specs.declared.cause.Cause.{Cause}

module _ {side : Side} where
  -- nothing was done
  pub leads_nowhere : (a : Stand side) → Leads a a
  leads_nowhere a = record { actions = []; led = refl }

  -- one action more
  pub leads_on : (action : Action side) (a b c : Stand side) → Leads a b → Done action b c → Leads a c
  leads_on action a b c leads done = record { actions = action ∷ leads.actions; led = (b, leads.led, done) }

  -- one action
  pub leads_by : (action : Action side) (a b : Stand side) → Done action a b → Leads a b
  leads_by action a b done = leads_on action a a b (leads_nowhere a) done

  led_append : (later before : List (Action side)) (a b c : Stand side) → Led before a b → Led later b c → Led (later ++ before) a c
  led_append [] before a b c first then_on = subst (λ s. Led before a s) (sym then_on) first
  led_append (action ∷ later) before a b c first then_on = (then_on.0, led_append later before a b then_on.0 first then_on.1, then_on.2)

  -- actions and then others
  pub leads_then : (a b c : Stand side) → Leads a b → Leads b c → Leads a c
  leads_then a b c first second = record { actions = second.actions ++ first.actions; led = led_append second.actions first.actions a b c first.led second.led }

  -- how many actions of a list a drive got on by: of two lists, one more, and two one after the other
  steps_append : (later before : List (Action side)) → steps_in (later ++ before) ≡ steps_in later + steps_in before
  steps_append [] before = omega arith
  steps_append (action ∷ later) before = omega (arith, steps_append later before)

  pub then_steps : (a b c : Stand side) (first : Leads a b) (second : Leads b c)
      → steps_in (leads_then a b c first second).actions ≡ steps_in second.actions + steps_in first.actions
  unfolding leads_then
  then_steps a b c first second = steps_append second.actions first.actions

  pub on_steps : (action : Action side) (a b c : Stand side) (leads : Leads a b) (done : Done action b c)
      → steps_in (leads_on action a b c leads done).actions ≡ step_by action + steps_in leads.actions
  unfolding leads_on
  on_steps action a b c leads done = refl

  -- actions, and then it broke off
  pub fails_then : (cause : Cause) (a b c : Stand side) → Leads a b → Fails cause b c → Fails cause a c
  fails_then cause a b c first fails = record {
    mid = fails.mid;
    leads = leads_then a b fails.mid first fails.leads;
    octets = fails.octets;
    breaks = fails.breaks;
    spent = λ is. omega (arith, fails.spent is, then_steps a b fails.mid first fails.leads);
  }

  -- it gives up where it stands
  pub gives_up : (a : Stand side) → Breaks [] a a
  gives_up a = record { given = a.owner; gives = inl (refl, refl); lets = side.lets_none a.owner; left = Keeps-refl a.left.octets; ended = refl; unheard = refl; wrote = AppendsFront-none a.written [] }

  pub fails_here : (cause : Cause) (a b : Stand side) → Leads a b → (IsSpent cause → ⊥) → Fails cause a b
  fails_here cause a b leads unspent = record { mid = b; leads = leads; octets = []; breaks = gives_up b; spent = λ is. absurd (unspent is) }

  -- at once
  pub fails_at : (cause : Cause) (a : Stand side) → (IsSpent cause → ⊥) → Fails cause a a
  fails_at cause a unspent = fails_here cause a a (leads_nowhere a) unspent

  -- where no turn is left
  pub fails_spent : (cause : Cause) (a b : Stand side) (left : ℕ) → LeadsBy left a b → left ≡ 0 → Fails cause a b
  fails_spent cause a b left by none =
      record { mid = b; leads = by.leads; octets = []; breaks = gives_up b; spent = λ is. omega (arith, by.made, none) }

  -- a loop begins, and makes a turn by which it gets on
  pub by_nowhere : (left : ℕ) (a : Stand side) → left ≡ most_turns → LeadsBy left a a
  by_nowhere left a all = record { leads = leads_nowhere a; made = omega (arith, all) }

  pub by_action : (action : Action side) (before left : ℕ) (a b c : Stand side) → LeadsBy before a b → before ≡ suc left → 1 ≤ step_by action → Done action b c → LeadsBy left a c
  by_action action before left a b c by one some done =
      record { leads = leads_on action a b c by.leads done; made = omega (arith, by.made, one, some, on_steps action a b c by.leads done) }

  pub by_then : (before left : ℕ) (a b c : Stand side) → LeadsBy before a b → before ≡ suc left → (second : Leads b c) → 1 ≤ steps_in second.actions → LeadsBy left a c
  by_then before left a b c by one second some = record {
    leads = leads_then a b c by.leads second;
    made = omega (arith, by.made, one, some, then_steps a b c by.leads second);
  }

  -- so many more follow
  pub by_then_any : (left : ℕ) (a b c : Stand side) → LeadsBy left a b → Leads b c → LeadsBy left a c
  by_then_any left a b c by second = record {
    leads = leads_then a b c by.leads second;
    made = omega (arith, by.made, then_steps a b c by.leads second);
  }

  -- what was not told is let go, too
  pub fails_lets : (cause : Cause) (a b c : Stand side) → Fails cause a b → side.LetsGo b.owner c.owner → c ≡ with_owner c.owner b → Fails cause a c
  fails_lets cause a b c fails lets same =
      let breaks = fails.breaks in
      record {
        mid = fails.mid;
        leads = fails.leads;
        octets = fails.octets;
        spent = fails.spent;
        breaks = record {
          given = breaks.given;
          gives = breaks.gives;
          lets = side.lets_then breaks.given b.owner c.owner breaks.lets lets;
          left = subst (λ s. Keeps fails.mid.left.octets s.left.octets) (sym same) breaks.left;
          ended = ap (λ s. s.left.ended) same ∙ breaks.ended;
          unheard = ap (λ s. s.unheard) same ∙ breaks.unheard;
          wrote = subst (λ s. AppendsFront fails.mid.written s.written fails.octets) (sym same) breaks.wrote;
        };
      }

pub quiet_nothing : (side : Side) (s : side.End) → Quietly side s s
quiet_nothing side s left unheard written = leads_nowhere _

pub quiet_call : (side : Side) (call : side.Call) (old new : side.End) → side.Called call old new → Quietly side old new
quiet_call side call old new called left unheard written = leads_by (Other call) _ _ (called, refl)

pub quiet_then : (side : Side) (a b c : side.End) → Quietly side a b → Quietly side b c → Quietly side a c
quiet_then side a b c first second left unheard written = leads_then _ _ _ (first left unheard written) (second left unheard written)
