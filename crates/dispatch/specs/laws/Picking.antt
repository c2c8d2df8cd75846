-- Step 2 on the record's arrays: the scan for the most urgent job is that of the rules, and the ticks of its piece are those stated.
-- Assumes nothing.
use Rattle.std.specs.Prelude.{◌≡◌, refl, true, false, cond, ◌&&◌, ◌||◌, ℕ, zero, suc, ◌-◌, ◌≤◌, ◌<◌, ltb, get_or}
use Rattle.std.proofs.Common.{sym, ap, ap₂, ◌∙◌, subst, arith}
use Rattle.std.proofs.Math.Decide.{ℕ_discrete}
use Rattle.std.proofs.Math.Dec.{eqb-suc-zero}
use Rattle.model.specs.Phase.{Choice}
use Rattle.model.specs.Tasks.{Tasks}
use Rattle.promise.specs.Rules.{State, ahead, best, pick, pick_at, start, stated}
use Rattle.promise.proofs.laws.Remaining.{At}
use Rattle.promise.proofs.laws.Urgent.{Best, best_is}
use Rattle.records.specs.Ranges.{in_range}
use Rattle.records.specs.Record.{state_in}
use Rattle.records.specs.Rules.{goes_before, ticks_of, urgent_of}
use Rattle.records.specs.Held.{counts_in, tasks_in}
use Rattle.records.specs.declared.Dispatcher.{Dispatcher}
use Rattle.records.proofs.laws.Fields.{Fields, Long}
use Rattle.records.proofs.laws.InRange.{range_fields}
use Rattle.records.proofs.laws.Views.{due_of_views}
use Rattle.dispatch.specs.Steps.{Picks, in_state}
use Rattle.dispatch.specs.laws.Keeps.{pick_keeps}
use Rattle.dispatch.specs.laws.Reads.{few, few_phases, own_keeps, ranged, still_in_range}
use Rattle.dispatch.specs.laws.Updates.{as_it_is, in_state_lem, own_state, with_run}

-- ---- the scan

before_is : (d : Dispatcher) (i b : ℕ) → goes_before d i b (get_or d.left (b - 1) 0) ≡ ((state_in d).busy i && ahead (state_in d) i b)
before_is d i zero = refl
before_is d i (suc j) =
    let e : suc j - 1 ≡ j = omega arith in
    ap₂ (λ z k. (state_in d).busy i && (z || ltb (get_or d.left i 0) (get_or d.left k 0))) (eqb-suc-zero j) e

urgent_is : (d : Dispatcher) (n : ℕ) → urgent_of d n ≡ best (state_in d) n
unfolding urgent_of best
urgent_is d zero = refl
urgent_is d (suc i) =
    ap (λ b. cond (goes_before d i b (get_or d.left (b - 1) 0)) (suc i) b) (urgent_is d i) ∙
    ap (λ c. cond c (suc i) (best (state_in d) i)) (before_is d i (best (state_in d) i))

-- tasks that do not exist have no jobs, so a scan over them changes nothing
best_more : (s : State) (n k : ℕ) → ((i : ℕ) → n ≤ i → s.busy i ≡ false) → n ≤ k → best s k ≡ best s n
unfolding best
best_more s n zero none h = let e : 0 ≡ n = omega arith in ap (best s) e
best_more s n (suc k) none h = go (ℕ_discrete n (suc k)) (best_more s n k none)
  where
    go : Dec (n ≡ suc k) → (n ≤ k → best s k ≡ best s n) → best s (suc k) ≡ best s n
    go (yes e) ih = ap (best s) (sym e)
    go (no e) ih =
        ap (λ c. cond (c && ahead s k (best s k)) (suc k) (best s k)) (none k (omega arith)) ∙ ih (omega arith)

-- ---- the step, whichever way it goes
module _ (d : Dispatcher) (long : Long d) (range : in_range d ≡ true) where
  abbrev f : Fields d
  f = range_fields d long range

  abbrev S : Tasks
  S = tasks_in d

  abbrev x : Choice
  x = counts_in d

  abbrev s : State
  s = state_in d

  -- the record after it is in range
  picks_as : (r : Dispatcher) → r ≡ in_state d (pick S x s) → Picks d r
  picks_as r moved =
      record {
        moved = moved;
        kept = still_in_range d f (pick S x s) (pick_keeps S x (ranged d f) s (own_keeps d f)) r moved;
      }

  -- a piece runs
  pub picks_running : (d.running ≡ 0 → ⊥) → Picks d d
  picks_running n = picks_as d (as_it_is d long f ∙ ap (in_state d) (go d.running n))
    where
      go : (r : ℕ) → (r ≡ 0 → ⊥) → s ≡ pick_at S x s r
      go zero n = absurd (n refl)
      go (suc j) n = refl

  urgent : (t : ℕ) → t ≡ urgent_of d 32 → t ≡ best s S.n
  urgent t e = e ∙ urgent_is d 32 ∙ best_more s S.n 32 f.state.none (few d f)

  -- none runs: the best starts
  starts : (t : ℕ) → d.running ≡ 0 → t ≡ best s S.n → start S x s t ≡ pick S x s
  starts t r e = ap (start S x s) e ∙ ap (pick_at S x s) (sym r)

  -- there is none
  pub picks_none : d.running ≡ 0 → 0 ≡ urgent_of d 32 → Picks d d
  picks_none r e = picks_as d (as_it_is d long f ∙ ap (in_state d) (starts 0 r (urgent 0 e)))

  -- its next piece starts
  pub picks_next : (t n : ℕ) → d.running ≡ 0 → t ≡ urgent_of d 32 → (t ≡ 0 → ⊥) → n ≡ ticks_of d t → Picks d (with_run d t n)
  picks_next t n r e z h = picks_as (with_run d t n) (go t z (urgent t e) h ∙ ap (in_state d) (starts t r (urgent t e)))
    where
      ticks : (j : ℕ) → j < S.n → s.busy j ≡ true → ticks_of d (suc j) ≡ stated S x j (s.phase j) (s.piece j)
      ticks j l b =
          let at : At S x j (s.phase j) (s.piece j) = f.jobs.job j l b in
          due_of_views d j (omega (arith, at.phase_least, at.phase_at_most, few_phases d f j l))

      due : (j : ℕ) → suc j ≡ best s S.n → ticks_of d (suc j) ≡ stated S x j (s.phase j) (s.piece j)
      due j e = let b : Best s S.n (suc j) = subst (Best s S.n) (sym e) (best_is s S.n) in ticks j b.task b.unfinished

      go : (t : ℕ) → (t ≡ 0 → ⊥) → t ≡ best s S.n → n ≡ ticks_of d t → with_run d t n ≡ in_state d (start S x s t)
      go zero z e h = absurd (z refl)
      go (suc j) z e h =
          ap (with_run d (suc j)) (h ∙ due j e) ∙ ap (λ (r : Dispatcher). with_run r (suc j) (stated S x j (s.phase j) (s.piece j))) (own_state d long f) ∙
          in_state_lem d long f (start S x s (suc j))
