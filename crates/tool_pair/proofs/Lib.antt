-- Lemmas: paths, beginnings that are fair, and two ends that begin; what a script begins with; what a transcript tells; what leads from one world to
-- another, and how it comes to rest; reports that are written after a transcript, and the reports of a world.
pub mod Fairness
pub mod Leading
pub mod Paths
pub mod Reporting
pub mod Resting
pub mod Roots
pub mod Starting
pub mod Telling
