pub mod SameRun
