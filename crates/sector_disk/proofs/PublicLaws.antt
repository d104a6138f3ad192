-- What proofs of other crates may cite of this one: its other lemmas are its own.

-- A disk in memory after a crash, for the layers that go on with it.
pub use Rattle.sector_disk.proofs.Crashed.{only_image}
-- What calls take from the number that still passes.
pub use Rattle.sector_disk.proofs.Arms.{no_more_still, no_more_then}
-- How a run of device calls starts, goes on and is put together.
pub use Rattle.sector_disk.proofs.Runs.{each_of_two, quiet_run, run_of_two, run_widen, same_image, same_trans, same_widen, write_run}
