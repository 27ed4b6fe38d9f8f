-- That each command that a client sends has a line.
use Rattle.std.proofs.Common.{ℕ, suc, ◌≡◌, ◌^◌, Bool, true, false, not, ◌&&◌, ◌||◌, List, [], ◌∷◌, length, sym, ap, ◌∙◌, subst, arith, nat_le}
use Rattle.std.specs.Prelude.{Option, Some, None}
use mathlib.Core.Bool.{false≢true}
use Rattle.std.proofs.lemmas.Bool.{and_parts, leb-true, ne_eqb, ltb-true, not-true, or_parts, cond_both}
use Rattle.ftp_endpoint.specs.Written.{IsV4}
use Rattle.ftp_endpoint.specs.declared.host.Host.{Host}
use Rattle.ftp_endpoint.specs.declared.host.Host.TheVariants.{V4, V6}
use Rattle.ftp_path.specs.Path.{is_path_text, IsPathText}
use Rattle.ftp_command.specs.Argument.{begins_with, hyphen}
use Rattle.ftp_command.specs.Line.{IfGiven, IsListed, IsShort}
use Rattle.ftp_command.specs.declared.command.Command.{Command}
use Rattle.ftp_command.specs.declared.command.Command.TheVariants as Commands
use Rattle.ftp_ends.specs.Link.{is_v6}
use Rattle.ftp_operation.specs.Operation.{can_be_sent, is_number, is_option, is_optional_text}
use Rattle.ftp_operation.specs.declared.op.ListVerb.TheVariants as Verbs
use Rattle.ftp_operation.specs.declared.op.Op.{Op}
use Rattle.ftp_operation.specs.declared.op.Op.TheVariants as Ops
use Rattle.ftp_settings.specs.declared.representation.Representation.{Representation}
use Rattle.ftp_client_model.specs.Plan.{asked_settings, how_of, offset_of, may_ask_extended, is_extended, own_endpoint, port_command, passive_command, optional, own_command, set_command, restart_command, source_command, command_of}
use Rattle.ftp_client_model.specs.Sent.{HasLine, IsNamable, CanSend, StepsHaveLines, LoginsHaveLines}
use Rattle.ftp_client_model.specs.View.{View}
use Rattle.ftp_client_model.specs.declared.client.Step.{Step}
use Rattle.ftp_client_model.specs.declared.client.Step.TheVariants as Steps

-- where there is a command, it has a line
abbrev HasOne : Option (Command (List ℕ)) → Type 0
HasOne None = Unit {0}
HasOne (Some command) = HasLine command

-- ---- arguments

number_short : (n : ℕ) → is_number n ≡ true → IsShort n
number_short n is = ltb-true n (10 ^ 18) is

some_text : (c : ℕ) (path : List ℕ) → is_optional_text (c ∷ path) ≡ true → IsPathText (c ∷ path)
some_text c path is = sym (ap (λ b. b || is_path_text (c ∷ path)) (ne_eqb (suc (length path)) 0 (λ e. absurd (omega arith)))) ∙ is

given_text : (path : List ℕ) → is_optional_text path ≡ true → IfGiven IsPathText (optional path)
given_text [] is = tt
given_text (c ∷ path) is = some_text c path is

no_hyphen : (c : ℕ) (path : List ℕ) → is_option (c ∷ path) ≡ false → begins_with hyphen (c ∷ path) ≡ false
no_hyphen c path plain = ne_eqb c 45 (λ e. false≢true (sym plain ∙ ap (λ x. is_option (x ∷ path)) e))

listed_text : (path : List ℕ) → is_optional_text path ≡ true → is_option path ≡ false → IfGiven IsListed (optional path)
listed_text [] is plain = tt
listed_text (c ∷ path) is plain = (some_text c path is, no_hyphen c path plain)

-- ---- the operation's own command

own : (op : Op (List ℕ)) → can_be_sent op ≡ true → HasLine (own_command op)
own Ops.Where can = (tt, tt)
own (Ops.ChangeDir path) can = (can, tt)
own Ops.Up can = (tt, tt)
own (Ops.MakeDir path) can = (can, tt)
own (Ops.RemoveDir path) can = (can, tt)
own (Ops.Delete path) can = (can, tt)
own (Ops.Rename from to) can = ((and_parts (is_path_text from) (is_path_text to) can).1, tt)
own (Ops.Put path octets how) can = (can, tt)
own (Ops.Append path octets how) can = (can, tt)
own (Ops.PutFrom path offset octets how) can = ((and_parts (is_path_text path) (is_number offset) can).0, tt)
own (Ops.Get path how) can = (can, tt)
own (Ops.GetFrom path offset how) can = ((and_parts (is_path_text path) (is_number offset) can).0, tt)
own (Ops.Peek path count how) can = ((and_parts (is_path_text path) (is_number count) can).0, tt)
own (Ops.Size path how) can = (can, tt)
own (Ops.Modified path) can = (can, tt)
own (Ops.Facts path) can = (given_text path can, tt)
own (Ops.List path how) can = (given_text path can, tt)
own (Ops.Names path how) can =
    let both = and_parts (is_optional_text path) (not (is_option path)) can in
    (listed_text path both.0 (not-true (is_option path) both.1), tt)
own (Ops.Text Verbs.Mlsd path how) can = (given_text path can, tt)
own (Ops.Text Verbs.List path how) can =
    let both = and_parts (is_optional_text path) (not (is_option path)) can in
    (listed_text path both.0 (not-true (is_option path) both.1), tt)
own (Ops.Text Verbs.Nlst path how) can =
    let both = and_parts (is_optional_text path) (not (is_option path)) can in
    (listed_text path both.0 (not-true (is_option path) both.1), tt)

-- ---- the commands before it

kind_line : (wanted : Option Representation) → HasOne (set_command Steps.Kind wanted)
kind_line None = tt
kind_line (Some wanted) = (tt, tt)

structure_line : (wanted : Option Representation) → HasOne (set_command Steps.Structure wanted)
structure_line None = tt
structure_line (Some wanted) = (tt, tt)

mode_line : (wanted : Option Representation) → HasOne (set_command Steps.Mode wanted)
mode_line None = tt
mode_line (Some wanted) = (tt, tt)

-- an offset is a number that can be sent
restart_line : (op : Op (List ℕ)) → can_be_sent op ≡ true → HasOne (restart_command (offset_of op))
restart_line (Ops.PutFrom path offset octets how) can = (number_short offset (and_parts (is_path_text path) (is_number offset) can).1, tt)
restart_line (Ops.GetFrom path offset how) can = (number_short offset (and_parts (is_path_text path) (is_number offset) can).1, tt)
restart_line Ops.Where can = tt
restart_line (Ops.ChangeDir path) can = tt
restart_line Ops.Up can = tt
restart_line (Ops.MakeDir path) can = tt
restart_line (Ops.RemoveDir path) can = tt
restart_line (Ops.Delete path) can = tt
restart_line (Ops.Rename from to) can = tt
restart_line (Ops.Put path octets how) can = tt
restart_line (Ops.Append path octets how) can = tt
restart_line (Ops.Get path how) can = tt
restart_line (Ops.Peek path count how) can = tt
restart_line (Ops.Size path how) can = tt
restart_line (Ops.Modified path) can = tt
restart_line (Ops.Facts path) can = tt
restart_line (Ops.List path how) can = tt
restart_line (Ops.Names path how) can = tt
restart_line (Ops.Text verb path how) can = tt

source_line : (op : Op (List ℕ)) → can_be_sent op ≡ true → HasOne (source_command op)
source_line (Ops.Rename from to) can = ((and_parts (is_path_text from) (is_path_text to) can).0, tt)
source_line Ops.Where can = tt
source_line (Ops.ChangeDir path) can = tt
source_line Ops.Up can = tt
source_line (Ops.MakeDir path) can = tt
source_line (Ops.RemoveDir path) can = tt
source_line (Ops.Delete path) can = tt
source_line (Ops.Put path octets how) can = tt
source_line (Ops.Append path octets how) can = tt
source_line (Ops.PutFrom path offset octets how) can = tt
source_line (Ops.Get path how) can = tt
source_line (Ops.GetFrom path offset how) can = tt
source_line (Ops.Peek path count how) can = tt
source_line (Ops.Size path how) can = tt
source_line (Ops.Modified path) can = tt
source_line (Ops.Facts path) can = tt
source_line (Ops.List path how) can = tt
source_line (Ops.Names path how) can = tt
source_line (Ops.Text verb path how) can = tt

-- a host that is none of IPv6 is one of IPv4
is_v4 : (host : Host) → is_v6 host ≡ false → IsV4 host
is_v4 (V4 octets) is = tt
is_v4 (V6 octets) is = absurd (cc)

-- PORT is sent only to a server of IPv4
port_line : (v : View) (op : Op (List ℕ)) → IsNamable v → HasLine (port_command (is_extended v op) (own_endpoint v))
port_line v op can =
    cond_both (is_extended v op) (Commands.Eprt (own_endpoint v)) (Commands.Port (own_endpoint v)) HasLine
    (λ extended. (can.some, (can.host, can.within)))
    (λ plain. (is_v4 v.here (can.family ∙ (or_parts (may_ask_extended (how_of op)) (is_v6 v.peer) plain).1), (can.host, can.within)))

passive_line : (extended : Bool) → HasLine (passive_command extended)
passive_line true = (tt, tt)
passive_line false = (tt, tt)

step_line : (v : View) (op : Op (List ℕ)) (step : Step) → can_be_sent op ≡ true → CanSend v step → HasOne (command_of v op step)
step_line v op Steps.Kind can may = kind_line (asked_settings op)
step_line v op Steps.Structure can may = structure_line (asked_settings op)
step_line v op Steps.Mode can may = mode_line (asked_settings op)
step_line v op Steps.Listen can may = tt
step_line v op Steps.Port can may = port_line v op may
step_line v op Steps.Passive can may = passive_line (is_extended v op)
step_line v op Steps.Connect can may = tt
step_line v op Steps.Restart can may = restart_line op can
step_line v op Steps.Source can may = source_line op can
step_line v op Steps.Last can may = own op can

pub steps_have_lines : StepsHaveLines
steps_have_lines v op step command can may is = subst HasOne is (step_line v op step can may)

-- ---- the login

pub logins_have_lines : LoginsHaveLines
logins_have_lines user pass named worded =
    let name = and_parts (nat_le 1 (length user) && nat_le (length user) 255) _ named in
    let size = and_parts (nat_le 1 (length user)) (nat_le (length user) 255) name.0 in
    let word = and_parts (nat_le (length pass) 255) _ worded in
    record {
      user_line = ((leb-true 1 (length user) size.0, (leb-true (length user) 255 size.1, name.1)), tt);
      pass_line = ((leb-true (length pass) 255 word.0, word.1), tt);
      abort_line = (tt, tt);
    }
