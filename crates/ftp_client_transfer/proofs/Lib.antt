pub mod UploadLemmas
pub mod DownloadLemmas
pub mod ListingLemmas
pub mod CameLemmas
