-- What is proved of the definitions in specs/.
-- The argument over views: the ranges, a job's ticks and deadlines whoever goes first; then the safety of least time left.
pub mod View
pub mod Sound
pub mod Jobs
pub mod Deadlines
pub mod Safe
pub mod Admit
pub mod Pick
pub mod Work
pub mod Advance
-- Document 01's rules as the instance of those in general form (specs/laws/Late).
pub mod Urgent
pub mod Today
-- The rules as the argument sees them, with any lag and any choice.
pub mod Remaining
pub mod Entering
pub mod Starting
pub mod Working
pub mod Ticking
pub mod Range
-- Demand 3.
pub mod Busy
pub mod Places
pub mod Lengths
pub mod Answers
pub mod Order
pub mod Meets
pub mod Kept
pub mod Prefix
pub mod WorkedRun
