-- What C is told: of a call on a line, of a portion of a plan, of a run that it had judged, and of the archive's version.
pub mod Calls
pub mod Verdict
pub mod Version
