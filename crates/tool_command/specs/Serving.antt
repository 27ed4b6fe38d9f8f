-- What the values of `serve` ask to be served (own choice).
use Rattle.std.specs.Prelude.{◌≡◌, ◌^◌, ◌-◌, ⊤, ℕ, List, Option, Some, None, codes, option_map}
use Rattle.std.specs.Net.Grammar.{IsIpText}
use Rattle.std.specs.declared.net.IpAddr.{IpAddr}
use Rattle.tool_command.specs.Amount.{SaysMost}
use Rattle.tool_command.specs.AtOnce.{SaysAtOnce, SaysPerHost}
use Rattle.tool_command.specs.declared.serve_values.LimitWords.{LimitWords}
use Rattle.tool_command.specs.declared.serve_values.Scope.{Scope}
use Rattle.tool_command.specs.declared.serve_values.Scope.TheVariants.{Any, Usual}
use Rattle.tool_command.specs.declared.serve_values.ServeWords.{ServeWords}
use Rattle.tool_command.specs.declared.serve_values.WaitWords.{WaitWords}
use Rattle.tool_serve.specs.declared.serving.Serving.{Serving}
use Rattle.tool_log.specs.declared.format.LogFormat.{LogFormat}
use Rattle.tool_log.specs.declared.format.LogFormat.TheVariants as Formats
use Rattle.tool_polling.specs.declared.session_timeouts.TimeLimits.{TimeLimits as Waits}
use Rattle.tool_command.specs.Numbers.{SaysBelow, SaysNumberOr, SaysPortOrZero, SaysPorts, SaysSessions}
use Rattle.tool_serve.specs.declared.sessions.SessionCount.{SessionCount}
use Rattle.tool_serve.specs.declared.sessions.SessionCount.TheVariants.{Count, Forever}
use Rattle.ftp_tree.specs.Tree.{default_limits}
use Rattle.ftp_tree.specs.declared.limits.Limits.{Limits}
use Rattle.ftp_disk_scan.specs.declared.loading.fault.Unserved.{Unserved}
use Rattle.ftp_disk_scan.specs.declared.loading.fault.Unserved.TheVariants.{LeaveOut}

-- what holds where no word says it: where only so many sessions are served there is no limit of time, which 0 stands for
abbrev pub unsaid_waits : SessionCount → Waits
unsaid_waits (Count n) = record { login = 0; idle = 0; idle_while_waited = 0; session_while_waited = 0; login_while_waited = 0 }
unsaid_waits Forever = record { login = 30; idle = 300; idle_while_waited = 15; session_while_waited = 60; login_while_waited = 10 }

-- each of the five is what its word says, in seconds, or what holds without one
pub record AreWaits (words : WaitWords) (sessions : SessionCount) (waits : Waits) : Type 0 where
  pub login : SaysNumberOr (option_map (λ word. word.now) words.login) (unsaid_waits sessions).login waits.login
  pub idle : SaysNumberOr (option_map (λ word. word.now) words.idle) (unsaid_waits sessions).idle waits.idle
  pub idle_while_waited :
      SaysNumberOr (option_map (λ word. word.now) words.idle_while_waited) (unsaid_waits sessions).idle_while_waited waits.idle_while_waited
  pub session_while_waited :
      SaysNumberOr (option_map (λ word. word.now) words.session_while_waited) (unsaid_waits sessions).session_while_waited waits.session_while_waited
  pub login_while_waited :
      SaysNumberOr (option_map (λ word. word.now) words.login_while_waited) (unsaid_waits sessions).login_while_waited waits.login_while_waited

-- a limit is what its word says, and without one this one
abbrev pub SaysLimit : Option (List ℕ) → ℕ → ℕ → Type 0
SaysLimit None unsaid most = most ≡ unsaid
SaysLimit (Some word) unsaid most = SaysMost word most

-- what holds where no word says a limit: with --any there is none, and else that of a tree that is told no other
abbrev pub unsaid_limits : Scope → Limits
unsaid_limits Usual = default_limits
unsaid_limits Any = record { file = 2 ^ 64 - 1; total = 2 ^ 64 - 1; nodes = 2 ^ 64 - 1 }

-- each of the three is what its word says, or what holds without one
pub record AreLimits (scope : Scope) (words : LimitWords) (limits : Limits) : Type 0 where
  pub file : SaysLimit (option_map (λ word. word.now) words.of_a_file) (unsaid_limits scope).file limits.file
  pub total : SaysLimit (option_map (λ word. word.now) words.octets) (unsaid_limits scope).total limits.total
  pub nodes : SaysLimit (option_map (λ word. word.now) words.files) (unsaid_limits scope).nodes limits.nodes

-- with --any what can't be served is left out too
abbrev pub unserved_of : Scope → Unserved → Unserved
unserved_of Usual unserved = unserved
unserved_of Any unserved = LeaveOut

-- an address in numbers, if a word is given
abbrev pub SaysAddress : Option (List ℕ) → Option IpAddr → Type 0
SaysAddress None None = ⊤
SaysAddress None (Some address) = ⊥
SaysAddress (Some text) None = ⊥
SaysAddress (Some text) (Some address) = IsIpText text address

-- each format of the log by its name
abbrev pub SaysLogFormat : List ℕ → LogFormat → Type 0
SaysLogFormat word Formats.Text = word ≡ codes "text"
SaysLogFormat word Formats.Json = word ≡ codes "json"
SaysLogFormat word Formats.Xferlog = word ≡ codes "xferlog"

-- each value is what its word says, and the folder, the file of accounts and the stop file are their words
pub record AsksServing (words : ServeWords) (serving : Serving) : Type 0 where
  pub host : IsIpText words.host.now serving.host
  pub port : SaysPortOrZero words.port.now serving.port
  pub dir : serving.dir ≡ words.dir
  pub sessions : SaysSessions words.sessions.now serving.sessions
  pub at_once : SaysAtOnce (option_map (λ word. word.now) words.at_once) serving.sessions serving.at_once
  pub per_host : SaysPerHost (option_map (λ word. word.now) words.per_host) serving.at_once serving.per_host
  pub input : serving.input ≡ words.input
  pub stop_file : serving.stop_file ≡ words.stop_file
  pub finish : SaysBelow (2 ^ 32) words.finish.now serving.finish
  pub accounts : serving.accounts ≡ words.accounts
  pub log : serving.log ≡ words.log
  pub log_format : SaysLogFormat words.log_format.now serving.log_format
  pub others : serving.others ≡ words.others
  pub passive : SaysPorts words.passive.now serving.passive.0 serving.passive.1
  pub passive_address : SaysAddress (option_map (λ word. word.now) words.passive_address) serving.passive_address
  pub unserved : serving.unserved ≡ unserved_of words.scope words.unserved
  pub waits : AreWaits words.waits serving.sessions serving.waits
  pub limits : AreLimits words.scope words.limits serving.limits
