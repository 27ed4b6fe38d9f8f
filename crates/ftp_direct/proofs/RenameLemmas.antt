-- What a move answers: what cannot be moved is refused first, and then the new name.
use Rattle.std.proofs.Common.{◌≡◌, ℕ, Bool, true, false, List, Some, None, is_some, ap, sym, ◌∙◌, if◌then◌else◌}
use Rattle.ftp_path.specs.Path.{fits, resolved, Names}
use Rattle.ftp_tree.specs.Tree.{Table, freed, moved, under, with_part, or_else, source_refusal, target_refusal, rename_refusal}
use Rattle.ftp_tree.specs.declared.fault.TreeFault.{TreeFault}
use Rattle.ftp_tree.specs.declared.fault.TreeFault.TheVariants.{TooBig}
use Rattle.ftp_operation.specs.declared.op.Op.TheVariants as Ops
use Rattle.ftp_operation.specs.Answer.{Done, Refused}
use Rattle.ftp_direct.specs.Direct.{busy_refusal, due, here, here_onto, limited, or_refused, refusal, refused_name}
use Rattle.ftp_direct.specs.Run.{Gives}
use Rattle.ftp_direct.proofs.NodeLemmas.{rename_freed}
use Rattle.ftp_direct.proofs.RefusalLemmas.{gives_refused, gives_done, there_some, there_none}
use Rattle.ftp_direct.specs.declared.refusal.Refusal.TheVariants.{Unavailable, BadName}
use Rattle.ftp_direct.specs.Refusal.{code_of}

module _ (table : Table) (root cwd : Names) (onto : Bool) (from to : List ℕ) where
  -- what is looked at
  abbrev seen : Names → Names → Table
  seen path target = freed onto (under table root) path target

  held : Names → Bool
  held path = is_some (or_else (source_refusal (under table root) path) (busy_refusal (here table root cwd) path))

  -- what is held
  refused_held : fits (resolved cwd from) ≡ true → held (resolved cwd from) ≡ true → refusal (here_onto table root cwd onto) (Ops.Rename from to) ≡ Some Unavailable
  unfolding held
  refused_held fit is =
      ap (λ code. or_refused code (refused_name (limited (resolved cwd to) (target_refusal (seen (resolved cwd from) (resolved cwd to)) (resolved cwd from) (resolved cwd to))))) (there_some _ _ fit is)

  -- else the new name alone refuses
  refused_named : fits (resolved cwd from) ≡ true → held (resolved cwd from) ≡ false
      → refusal (here_onto table root cwd onto) (Ops.Rename from to) ≡ refused_name (limited (resolved cwd to) (rename_refusal (seen (resolved cwd from) (resolved cwd to)) (resolved cwd from) (resolved cwd to)))
  unfolding held
  refused_named fit free =
      ap (λ code. or_refused code (refused_name (limited (resolved cwd to) (target_refusal (seen (resolved cwd from) (resolved cwd to)) (resolved cwd from) (resolved cwd to))))) (there_none _ _ fit free)
      ∙ ap (λ refusal. refused_name (limited (resolved cwd to) refusal)) (sym (rename_freed onto (under table root) (resolved cwd from) (resolved cwd to) _ free))

  module _ (path : Names) (is : path ≡ resolved cwd from) (fit : fits path ≡ true) where
    fit_from : fits (resolved cwd from) ≡ true
    fit_from = ap fits (sym is) ∙ fit

    pub rename_held : is_some (or_else (source_refusal (under table root) path) (busy_refusal (here table root cwd) path)) ≡ true
        → Gives (due (here_onto table root cwd onto) (Ops.Rename from to) 0) (Refused (code_of Unavailable)) (here_onto table root cwd onto)
    unfolding held
    rename_held some = gives_refused _ (Ops.Rename from to) 0 Unavailable (refused_held fit_from (ap held (sym is) ∙ some))

    module _ (free : is_some (or_else (source_refusal (under table root) path) (busy_refusal (here table root cwd) path)) ≡ false) where
      free_from : held (resolved cwd from) ≡ false
      unfolding held
      free_from = ap held (sym is) ∙ free

      module _ (target : Names) (to_is : target ≡ resolved cwd to) (to_fit : fits target ≡ true) where
        by_name : refusal (here_onto table root cwd onto) (Ops.Rename from to) ≡ refused_name (rename_refusal (seen path target) path target)
        by_name =
            refused_named fit_from free_from
            ∙ ap (λ b. refused_name (if b then rename_refusal (seen (resolved cwd from) (resolved cwd to)) (resolved cwd from) (resolved cwd to) else Some TooBig)) (ap fits (sym to_is) ∙ to_fit)
            ∙ ap (λ p. refused_name (rename_refusal (seen p (resolved cwd to)) p (resolved cwd to))) (sym is) ∙ ap (λ q. refused_name (rename_refusal (seen path q) path q)) (sym to_is)

        pub rename_refused : (why : TreeFault) → rename_refusal (seen path target) path target ≡ Some why → Gives (due (here_onto table root cwd onto) (Ops.Rename from to) 0) (Refused (code_of BadName)) (here_onto table root cwd onto)
        rename_refused why because = gives_refused _ (Ops.Rename from to) 0 BadName (by_name ∙ ap refused_name because)

        pub rename_done : rename_refusal (seen path target) path target ≡ None → Gives (due (here_onto table root cwd onto) (Ops.Rename from to) 0) Done (here_onto (with_part table root (moved (seen path target) path target)) root cwd onto)
        rename_done none =
            let gives = gives_done (here_onto table root cwd onto) (Ops.Rename from to) 0 (by_name ∙ ap refused_name none) in
            (gives.0, ap (λ p. here_onto (with_part table root (moved (seen p target) p target)) root cwd onto) is ∙ ap (λ q. here_onto (with_part table root (moved (seen (resolved cwd from) q) (resolved cwd from) q)) root cwd onto) to_is ∙ gives.1)
