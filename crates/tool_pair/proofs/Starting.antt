-- Two ends that begin for a fair beginning are its world.
use Rattle.std.proofs.Common.{◌≡◌, ◌∙◌, ap}
use Rattle.ftp_client_model.specs.View.{View as Near, client}
use Rattle.ftp_server_model.specs.Calls.{start}
use Rattle.ftp_server_model.specs.View.{View as Far}
use Rattle.laws_world.specs.Claims.{Beginning, IsFair, world_of}
use Rattle.laws_world.specs.World.{world}

pub starts : (b : Beginning) (near : Near) (far : Far) → IsFair b → near ≡ client b.user b.pass b.near_host b.far_host → far ≡ start b.table b.accounts b.far_host b.near_host
    → (from : Beginning) × IsFair from × (world near far ≡ world_of from)
starts b near far fair one other =
    (b, fair, ap (λ v. world v far) one ∙ ap (λ v. world (client b.user b.pass b.near_host b.far_host) v) other)
