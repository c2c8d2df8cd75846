-- A valid table has at most 2,401 bytes.
use Prim.Native.Nat.{ℕ, ◌+◌, ◌*◌, ◌≤◌, ◌<◌}
use mathlib.Core.List.{List, [], ◌∷◌}
use native.Mathlib.Omega.{arith}
use lib.ListN.{length, get_or}
use Rattle.finite.specs.Finite.{join_to}
use Rattle.groups.specs.Encode.{encode_all}
use Rattle.groups.specs.SinkLaws.{none}
use Rattle.groups.proofs.Numbers.{cons, join_short}
use Rattle.groups.proofs.Writing.{short}
use Rattle.model.specs.Ranges.{cost_most, work_most}
use Rattle.model.proofs.laws.Arrays.{phase_at_lem}
use Rattle.table.specs.declared.Table.{Table}
use Rattle.table.specs.Valid.{Valid}
use Rattle.writer.specs.Written.{phase_items, task_items, table_bytes}

-- a phase in its range, at a place of the arrays
pub record PhaseAt (work cost : List ℕ) (place : ℕ) : Type 0 where
  pub work_least : 1 ≤ get_or work place 0
  pub work_at_most : get_or work place 0 ≤ work_most
  pub cost_at_most : get_or cost place 0 ≤ cost_most

-- the phases of task i
pub phase_of : (t : Table) → Valid t → (i j : ℕ) → i < t.tasks → j < get_or t.phases i 0 → PhaseAt t.work t.cost (8 * i + j)
phase_of t v i j h l =
    let items = v.in_range.items in
    let few : j < 8 = omega (arith, (items.task i h).phases_at_most) in
    let p = items.phase i j h l in
    record {
      work_least = omega (arith, p.work_least, phase_at_lem t.work i j few);
      work_at_most = omega (arith, p.work_at_most, phase_at_lem t.work i j few);
      cost_at_most = omega (arith, p.cost_at_most, phase_at_lem t.cost i j few);
    }

module _ (t : Table) (v : Valid t) where
  phase_short : (place : ℕ) → PhaseAt t.work t.cost place → length (encode_all (phase_items t.work t.cost place)) ≤ 8
  phase_short k p =
      let c = get_or t.work k 0 in
      let q = get_or t.cost k 0 in
      omega (arith, cons c (q ∷ []), cons q [], none, short 3 7 c (omega arith), short 3 7 q (omega arith))

  task_short : (i : ℕ) → i < t.tasks → length (encode_all (task_items t i)) ≤ 75
  unfolding task_items
  task_short i h =
      let k = v.in_range.items.task i h in
      let T = get_or t.spacing i 0 in
      let D = get_or t.deadline i 0 in
      let m = get_or t.phases i 0 in
      let own = join_to m (λ j. phase_items t.work t.cost (8 * i + j)) in
      omega (
        arith,
        k.phases_at_most,
        join_short 8 m (λ j. phase_items t.work t.cost (8 * i + j)) (λ j l. phase_short (8 * i + j) (phase_of t v i j h l)),
        cons T (D ∷ m ∷ own),
        cons D (m ∷ own),
        cons m own,
        short 4 7 T (omega (arith, k.spacing_at_most)),
        short 4 7 D (omega (arith, k.spacing_at_most, k.deadline_most)),
        short 0 7 m (omega (arith, k.phases_at_most)),
      )

  pub table_short : length (table_bytes t) ≤ 2401
  table_short =
      let most = v.in_range.items.tasks in
      omega (
        arith,
        cons t.tasks (join_to t.tasks (task_items t)),
        join_short 75 t.tasks (task_items t) task_short,
        short 0 7 t.tasks (omega arith),
      )
