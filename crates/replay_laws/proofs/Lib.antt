mod FilesLemmas
mod EventLemmas
mod StopLemmas
mod HeadlineLemmas
