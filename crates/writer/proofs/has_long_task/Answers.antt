-- `writer::has_long_task` meets its contract: `any` finds a long task where there is one. Assumes nothing.
use Rattle.std.proofs.Common.{ℕ, ◌<◌, ◌≤◌, ◌≡◌, Bool, true, false, ltb, List, length, get_or, take, MatchBool, sym, arith, rules, tests, length-take-le}
use Rattle.std.specs.List.{HoldsAt, AllWithin}
use Rattle.std.proofs.lemmas.Iterator.{cases_from_any, YieldsList-from_slice}
use Rattle.std.proofs.lemmas.List.{get_or-take}
use Rattle.finite.specs.Finite.{any_to, Some}
use Rattle.finite.proofs.laws.Searches.{any_decides}
use Rattle.finite.proofs.laws.Tests.{fails}
use Rattle.std.proofs.lemmas.Bool.Decides.{Decides-ltb}
use Rattle.std.specs.Bool.{Decides}
use Rattle.model.specs.Ranges.{phases_most}
use Rattle.writer.proofs.has_long_task.Goals as goal

-- what `any` says of the first n of the numbers: that one is above `most`, or that none is
abbrev Found : (most n : ℕ) → List ℕ → Bool → Type 0
Found most n xs r =
    MatchBool r
    ((k : ℕ) × (k < length (take n xs)) × HoldsAt (λ x. most < x) (take n xs) k)
    (AllWithin (λ x. x ≤ most) (take n xs) 0 (length (take n xs)))

module _ (most n : ℕ) (xs : List ℕ) (inside : n ≤ length xs) where
  decides : Decides (any_to n (λ i. ltb most (get_or xs i 0))) (Some n (λ i. most < get_or xs i 0))
  decides = any_decides n (λ i. ltb most (get_or xs i 0)) (λ i. most < get_or xs i 0) (λ i _. Decides-ltb most (get_or xs i 0))

  any_of : (r : Bool) → Found most n xs r → r ≡ any_to n (λ i. ltb most (get_or xs i 0))
  any_of true f =
      let here : f.0 < n = omega (arith, f.1, length-take-le n xs inside) in
      sym (decides.1 (f.0, here, omega (arith, f.2 0, get_or-take n xs f.0 0 here)))
  any_of false f =
      sym (fails decides (λ h. omega (arith, f h.0 0 (omega arith) (omega (arith, h.1, length-take-le n xs inside)), h.2, get_or-take n xs h.0 0 h.1)))

pub returns : goal.returns
returns c =
    let n = c.args.table.now.tasks in
    let xs = c.args.table.now.phases in
    let inside : n ≤ length xs = omega arith in
    let found : Found phases_most n xs c.any.result =
    cases_from_any _ _ _ (λ x. phases_most < x) (λ x. x ≤ phases_most) c.any.ensures.ran (YieldsList-from_slice (take n xs) cc)
    (λ x q k. search (rules, tests)) (λ x q k. search (rules, tests))
    in
    any_of phases_most n xs inside c.any.result found
