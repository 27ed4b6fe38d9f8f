use Rattle.std.proofs.Common.{rules, ◌≡◌, true}
use Rattle.std.specs.Prelude.{IsTrue}
use Rattle.std.specs.List.{list_all}
use Rattle.ftp_server_model.specs.Told.{is_path}
use Rattle.laws_world.specs.Claims.{AreRelated}
use Rattle.tool_pair.proofs.Fairness.{can_begin, is_within}
use Rattle.tool_pair.proofs.beginning.Beginning.new.Goals as goal

pub invariant_of-result : goal.invariant_of-result
invariant_of-result g c =
    let roots : IsTrue (list_all (λ account. is_path account.root) c.args.list.items) = search rules in
    let within : is_within c.args.login.user c.args.login.pass c.in-Ok.accounts (g.T.Tree.table c.args.tree) ≡ true = search rules in
    let related : AreRelated c.args.near_host c.args.far_host = search rules in
    record {
      can = can_begin c.args.login.user c.args.login.pass c.in-Ok.accounts c.args.list.items (g.T.Tree.table c.args.tree) c.args.near_host c.args.far_host
          c.args.login.user_fits c.args.login.pass_fits c.in-Ok.ensures.accounts.0 c.in-Ok.ensures.accounts.1 roots c.fits.ensures.sound within
          c.is_typed.ensures c.is_typed-2.ensures related;
    }
