-- The limits of a table, by what the horizon's functions answer. Assumes nothing.
use mathlib.Core.Path.{◌≡◌, refl, ap, ◌∙◌}
use mathlib.Core.List.{List, []}
use mathlib.Core.Bool.{Bool, true, false}
use Prim.Native.Nat.{ℕ, ◌/◌, ◌≤◌, ◌<◌}
use native.Mathlib.Omega.{arith}
use lib.ListN.{get_or}
use lib.Dec.{ltb}
use borrow.Author.Tests.{lt-ltb, le-ltb}
use Rattle.finite.specs.Finite.{sum_to}
use Rattle.std.specs.Prelude as std
use Rattle.std.specs.Prelude.{if◌then◌else◌, Some, None}
use Rattle.model.specs.Ranges.{horizon_most, jobs_most}
use Rattle.model.specs.TestPoints.{lcm_to, horizon_of}
use Rattle.table.specs.declared.Reason.TheVariants.{Horizon, Jobs}
use Rattle.table.specs.declared.Reading.{Reading}
use Rattle.table.specs.declared.Table.{Table}
use Rattle.table.specs.declared.TurnedAway.{TurnedAway}
use Rattle.table.specs.Horizon.{none_above}
use Rattle.table.specs.Parse.{got, away, turned_away, answered, Parser, and_then, done, limits, limit_of, reading_of}
use Rattle.table.specs.TaskModel.{tasks_of, jobs_within}
use Rattle.table.proofs.Multiples.{was_above, was_under}

-- the two limits, by what is asked of them
abbrev both : (a b : Bool) → Parser (Unit {0})
both a b bytes at = and_then (if a then away Horizon 0 else got tt at) (λ (u : Unit {0}) (s : List ℕ) (k : ℕ). if b then away Jobs 0 else got tt k) bytes

-- the least common multiple of a table's spacings
abbrev spaced : Table → ℕ
spaced t = lcm_to t.tasks (λ i. get_or t.spacing i 0)

pub limit_far : (t : Table) → None ≡ none_above horizon_most (spaced t) → std.Err (turned_away Horizon 0) ≡ limit_of (tasks_of t)
unfolding limit_of horizon_of
limit_far t is = rw (lt-ltb horizon_most (spaced t) (was_above horizon_most (spaced t) is)) refl

-- a table whose horizon h is within its limit
module _ (t : Table) {h : ℕ} (is : Some h ≡ none_above horizon_most (spaced t)) where
  horizon_is : h ≡ horizon_of (tasks_of t)
  unfolding horizon_of
  horizon_is = (was_under horizon_most (spaced t) is).0

  pub horizon_small : h ≤ horizon_most
  horizon_small = let u = was_under horizon_most (spaced t) is in omega (arith, u.0, u.1)

  module _ {sum : ℕ} (sum_is : sum ≡ sum_to t.tasks (λ i. h / get_or t.spacing i 0)) where
    jobs_are : sum ≡ jobs_within (tasks_of t) (horizon_of (tasks_of t))
    unfolding jobs_within
    jobs_are = sum_is ∙ ap (λ (k : ℕ). sum_to t.tasks (λ i. k / get_or t.spacing i 0)) horizon_is

    within_limit : ltb horizon_most (horizon_of (tasks_of t)) ≡ false
    within_limit = le-ltb horizon_most (horizon_of (tasks_of t)) (omega (arith, horizon_is, horizon_small))

    pub limit_crowded : jobs_most < sum → std.Err (turned_away Jobs 0) ≡ limit_of (tasks_of t)
    unfolding limit_of
    limit_crowded many = rw (within_limit, lt-ltb jobs_most (jobs_within (tasks_of t) (horizon_of (tasks_of t))) (omega (arith, jobs_are))) refl

    pub limit_read : sum ≤ jobs_most → std.Ok h ≡ limit_of (tasks_of t)
    unfolding limit_of
    limit_read few = rw (within_limit, le-ltb jobs_most (jobs_within (tasks_of t) (horizon_of (tasks_of t))) (omega (arith, jobs_are))) (ap std.Ok horizon_is)

-- a table whose numbers were read, with what its limits say
abbrev pub limited_by : std.Result ℕ TurnedAway → Table → std.Result Reading TurnedAway
limited_by (std.Ok h) t = std.Ok (record { table = t; horizon = h })
limited_by (std.Err e) t = std.Err e

-- no byte is looked at
pub limited_reading : (t : Table) (bytes : List ℕ) (at : ℕ) → reading_of (and_then (limits (tasks_of t) bytes at) (λ u. done t) bytes) ≡ limited_by (limit_of (tasks_of t)) t
unfolding limit_of
limited_reading t bytes at = go (ltb horizon_most (horizon_of (tasks_of t))) (ltb jobs_most (jobs_within (tasks_of t) (horizon_of (tasks_of t))))
  where
    go : (a b : Bool) → reading_of (and_then (both a b bytes at) (λ u. done t) bytes) ≡ limited_by (answered (λ u next. horizon_of (tasks_of t)) (both a b [] 0)) t
    go true b = refl
    go false true = refl
    go false false = refl
