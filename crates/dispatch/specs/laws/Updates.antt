-- A record that holds the same in another state.
-- Assumes nothing.
use Rattle.std.specs.Prelude.{◌≡◌, refl, List, ℕ, ◌+◌, ◌<◌, get_or}
use Rattle.std.proofs.Common.{sym, ap, ◌∙◌, add-one, arith}
use Rattle.std.proofs.lemmas.List.{set-get_or}
use Rattle.finite.specs.Masks.{digit}
use Rattle.finite.specs.Finite.{list_to}
use Rattle.finite.proofs.laws.Lists.{filled, filled_all, filled_rest, get_or_list}
use Rattle.records.specs.Record.{state_in}
use Rattle.records.specs.Held.{fixed_in, record_with}
use Rattle.records.specs.declared.Dispatcher.{Dispatcher}
use Rattle.records.proofs.laws.Fields.{Fields, Long}
use Rattle.records.proofs.laws.Views.{record_of_views}
use Rattle.dispatch.specs.Steps.{in_state}
use Rattle.promise.specs.Rules.{State}

-- the same table with other jobs, running task and ticks left of its piece
abbrev pub with_jobs : Dispatcher → List ℕ → List ℕ → List ℕ → List ℕ → List ℕ → ℕ → ℕ → Dispatcher
with_jobs d = record_with (fixed_in d)

-- the same record with another running task and its ticks
abbrev pub with_run : Dispatcher → ℕ → ℕ → Dispatcher
with_run d running ticks = with_jobs d d.since d.unfinished d.left d.phase d.piece running ticks

-- the same table, every place of its jobs as in a state
abbrev pub with_state : Dispatcher → State → Dispatcher
with_state d s = with_jobs d (list_to 32 s.since) (list_to 32 (λ i. digit (s.busy i))) (list_to 32 s.left) (list_to 32 s.phase) (list_to 32 s.piece) s.run s.ticks

-- the same table, the first i places of its jobs as in a state, the others as they are
unfoldable pub filling : Dispatcher → State → ℕ → Dispatcher
filling d s i =
    with_jobs d (filled i s.since d.since) (filled i (λ k. digit (s.busy k)) d.unfinished) (filled i s.left d.left) (filled i s.phase d.phase)
    (filled i s.piece d.piece) s.run s.ticks

-- field by field
pub jobs_alike : (d : Dispatcher) {s s' u u' l l' p p' q q' : List ℕ} {r r' t t' : ℕ} → s ≡ s' → u ≡ u' → l ≡ l' → p ≡ p' → q ≡ q' → r ≡ r' → t ≡ t'
    → with_jobs d s u l p q r t ≡ with_jobs d s' u' l' p' q' r' t'
jobs_alike d a b c e f g h = λ k. with_jobs d (a k) (b k) (c k) (e k) (f k) (g k) (h k)

-- ---- a loop that fills

-- a place that already has what the loop would put there
pub filled_kept : (i : ℕ) (f : ℕ → ℕ) (a : List ℕ) → get_or a i 0 ≡ f i → filled i f a ≡ filled (i + 1) f a
unfolding filled
filled_kept i f a e = sym (rw (add-one, ← e, ← filled_rest i f a i 0 (omega arith)) (set-get_or (filled i f a) i 0))

-- what is read at the loop's own place is what was there
pub filled_own : (i : ℕ) (f : ℕ → ℕ) (a : List ℕ) → get_or (filled i f a) i 0 ≡ get_or a i 0
filled_own i f a = filled_rest i f a i 0 (omega arith)

-- before the first turn
pub filling_none : (d : Dispatcher) (s : State) → s.run ≡ d.running → s.ticks ≡ d.ticks → d ≡ filling d s 0
unfolding filling filled
filling_none d s r t = jobs_alike d refl refl refl refl refl (sym r) (sym t)

-- after the last
pub filling_all : (d : Dispatcher) (s : State) → Long d → filling d s 32 ≡ with_state d s
unfolding filling
filling_all d s long =
    jobs_alike d (filled_all 32 s.since d.since 0 long.since) (filled_all 32 (λ k. digit (s.busy k)) d.unfinished 0 long.unfinished)
    (filled_all 32 s.left d.left 0 long.left) (filled_all 32 s.phase d.phase 0 long.phase) (filled_all 32 s.piece d.piece 0 long.piece) refl refl

-- ---- the record of the table and the state
module _ (d : Dispatcher) (long : Long d) (fields : Fields d) where
  pub in_state_lem : (s : State) → with_state d s ≡ in_state d s
  in_state_lem s = ap (λ (r : Dispatcher). with_state r s) (sym (record_of_views d long fields.binary))

  -- its own state
  pub as_it_is : d ≡ in_state d (state_in d)
  as_it_is = sym (record_of_views d long fields.binary)

  -- the arrays are those of the state
  pub own_state : d ≡ with_state d (state_in d)
  own_state = as_it_is ∙ sym (in_state_lem (state_in d))

  -- a number that is 0 or 1 is that of whether a job is unfinished
  pub own_flag : (i : ℕ) → i < 32 → get_or d.unfinished i 0 ≡ digit ((state_in d).busy i)
  own_flag i l = ap (λ (r : Dispatcher). get_or r.unfinished i 0) own_state ∙ get_or_list 32 (λ i. digit ((state_in d).busy i)) i 0 l
