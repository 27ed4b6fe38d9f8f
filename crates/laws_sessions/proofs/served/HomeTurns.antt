-- No line logs somebody in elsewhere, where each account has one root.
use Rattle.std.proofs.Common.{◌≡◌, ◌∙◌, ℕ, List, [], ◌∷◌, Bool, true, false, true≢false, Some, sym, ap}
use Rattle.std.specs.Prelude.{if◌then◌else◌}
use Rattle.std.specs.List.{find}
use Rattle.ftp_path.specs.Path.{Names}
use Rattle.ftp_operation.specs.Account.{Account}
use Rattle.ftp_server_model.specs.Act.{decided, is_in}
use Rattle.ftp_server_model.specs.View.{Accounts, Context, Session}
use Rattle.ftp_server_model.specs.declared.heard.HeardLine.{HeardLine}
use Rattle.ftp_server_model.specs.declared.session.Pending.{Pending}
use Rattle.laws_server.specs.one.Logins.{Ends, Enters, Lasts, Logged, LoggedSo}
use Rattle.laws_server.proofs.one.LineTurns.{lines_log_in}
use Rattle.laws_sessions.specs.served.Rooted.{AccountsAt}

module _ (root : Names) where
  -- who is logged in has this root
  abbrev pub Home : Session → Type 0
  Home s = is_in s.access ≡ true → s.root ≡ root

  -- the account that is found has this root
  found_home : (test : Account → Bool) (accounts : Accounts) (found : Account) → AccountsAt root accounts → find test accounts ≡ Some found → found.root ≡ root
  found_home test [] found none is = absurd (cc)
  found_home test (account ∷ accounts) found none is = by_test (test account) none.0 (λ is. found_home test accounts found none.1 is) is
    where
      by_test : (b : Bool) → account.root ≡ root → (find test accounts ≡ Some found → found.root ≡ root)
          → (if b then Some account else find test accounts) ≡ Some found → found.root ≡ root
      by_test true here below is = let same : account ≡ found = cc in ap (λ (a : Account). a.root) (sym same) ∙ here
      by_test false here below is = below is

  -- by whose login stands then
  logged_home : (logged : Logged) (accounts : Accounts) (s new : Session) → AccountsAt root accounts → Home s
      → LoggedSo logged accounts s new.access new.root new.rights → Home new
  logged_home Lasts accounts s new at home is = λ e. is.1 ∙ home (ap is_in (sym is.0) ∙ e)
  logged_home Ends accounts s new at home is = λ e. absurd (true≢false (sym e ∙ is.0))
  logged_home (Enters account test) accounts s new at home is = λ e. is.2 ∙ found_home test accounts account at is.0

  pub decided_home : (context : Context) (heard : HeardLine (List ℕ)) (pending : Pending Names) (s : Session) → AccountsAt root context.accounts
      → Home s → Home (decided context heard pending s).0
  decided_home context heard pending s at home =
      let of = lines_log_in context heard pending s in
      logged_home of.0 context.accounts s (decided context heard pending s).0 at home of.1
