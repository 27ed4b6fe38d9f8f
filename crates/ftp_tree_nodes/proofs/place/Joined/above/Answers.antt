use Rattle.ftp_path.proofs.PathLemmas.{kept-le}
use Rattle.ftp_tree_nodes.proofs.PlaceLemmas.{above-place, above-short}
use Rattle.ftp_tree.proofs.TextLemmas.{kept-place}
use Rattle.ftp_tree_nodes.proofs.place.Joined.above.Goals as goal

pub both-requires : goal.both-requires
both-requires g c = record {
  root = kept-place _ c.key.ensures.kept;
  path = above-place _ _ c.parent_key.ensures.joined c.parent_key.ensures.names c.parent_key.ensures.fits;
  within = (kept-le _ c.key.ensures.kept, above-short _ _ c.parent_key.ensures.joined c.parent_key.ensures.names c.parent_key.ensures.fits);
}
