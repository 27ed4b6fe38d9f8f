mod CutLemmas
mod LocationLemmas
mod UrlLemmas
