-- On a client under a download, a reply, an octet of the link and its end commute.
use Rattle.std.proofs.Common.{refl}
use Rattle.ftp_client_model.specs.Calls.{data_end, data_fault}
use Rattle.ftp_client_model.specs.Dialogue.{answered}
use Rattle.laws_dialogues.specs.Downloads.{DownloadsCommute}

-- the opening and the final reply commute with an octet of the link, with its end and with its break
pub downloads-commute : DownloadsCommute
unfolding answered data_end data_fault
downloads-commute path offset how d mark n texts = (
  record { opening = λ octet. refl; final = λ octet. refl },
  record { opening = λ octet. refl; final = λ octet. refl },
  record { opening_end = refl; final_end = refl; opening_break = refl; final_break = refl },
  record { opening_end = refl; final_end = refl; opening_break = refl; final_break = refl },
)
