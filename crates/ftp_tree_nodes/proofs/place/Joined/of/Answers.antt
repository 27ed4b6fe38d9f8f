use Rattle.ftp_path.proofs.PathLemmas.{kept-le}
use Rattle.ftp_tree.proofs.TextLemmas.{kept-place}
use Rattle.ftp_tree_nodes.proofs.place.Joined.of.Goals as goal

pub both-requires : goal.both-requires
both-requires g c = record { root = kept-place _ c.key.ensures.kept; path = kept-place _ c.key-2.ensures.kept; within = (kept-le _ c.key.ensures.kept, kept-le _ c.key-2.ensures.kept) }
