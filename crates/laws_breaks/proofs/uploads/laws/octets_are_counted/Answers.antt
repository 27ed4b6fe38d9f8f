use Rattle.laws_breaks.proofs.uploads.ByActions.{downloads_are_counted, uploads_are_counted}
use Rattle.laws_breaks.proofs.uploads.laws.octets_are_counted.Goals as goal

pub returns : goal.returns
returns c = record { uploads = uploads_are_counted; downloads = downloads_are_counted }
