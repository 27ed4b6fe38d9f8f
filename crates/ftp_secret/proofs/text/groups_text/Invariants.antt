use Rattle.std.proofs.Common.{◌≡◌, ◌*◌}
use Rattle.arrayvec.specs.ArrayVec.{array_vec_len}
use Rattle.ftp_secret.specs.Crypt.{groups_text}
use Rattle.ftp_secret.proofs.text.groups_text.Given as goal

abbrev pub invariant-groups : goal.invariant-groups
invariant-groups l = record {
  letters : l.text.items ≡ groups_text l.method l.digest l.place;
  len : array_vec_len l.text ≡ 4 * l.place;
}
