-- WITHIN THE JUDGES (nobody need believe this: it bounds what they add up). What follows from the limits of a table.
-- Assumes nothing.
use Rattle.std.specs.Prelude.{ℕ, ◌+◌, ◌*◌}
use Rattle.model.specs.Ranges.{cost_most, phases_most, work_most}

-- a piece
abbrev pub piece_most : ℕ
piece_most = work_most + cost_most

-- what a phase brings to its task's budget
abbrev pub phase_most : ℕ
phase_most = work_most + work_most * cost_most

-- a task's budget
abbrev pub budget_most : ℕ
budget_most = phases_most * phase_most
