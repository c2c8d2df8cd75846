-- A record at rest, with every spacing count at its T, is the ready record of what it holds.
-- Assumes nothing.
use Rattle.std.specs.Prelude.{◌≡◌, List, ℕ, eqb, get_or, replicate}
use Rattle.std.proofs.Common.{sym, ap, ◌∙◌, arith}
use Rattle.model.specs.Phase.{Choice}
use Rattle.model.specs.Tasks.{Tasks}
use Rattle.model.proofs.laws.Arrays.{zeros}
use Rattle.promise.specs.Rules.{initial}
use Rattle.records.specs.Record.{Long, record_of, state_in}
use Rattle.records.specs.Held.{Held, held_for, held_in}
use Rattle.records.specs.Start.{ready_record}
use Rattle.records.specs.declared.Dispatcher.{Dispatcher}
use Rattle.records.proofs.laws.Views.{record_of_views}

-- nothing is unfinished, and every spacing count is at its T
pub record AtRest (d : Dispatcher) : Type 0 where
  pub since : d.since ≡ d.spacing
  pub unfinished : d.unfinished ≡ replicate 32 0
  pub left : d.left ≡ replicate 32 0
  pub phase : d.phase ≡ replicate 32 0
  pub piece : d.piece ≡ replicate 32 0
  pub running : d.running ≡ 0
  pub ticks : d.ticks ≡ 0

module _ (S : Tasks) (x : Choice) (d : Dispatcher) (long : Long d) (held : held_in d ≡ held_for S x) (rest : AtRest d) where
  zero_of : (l : List ℕ) → l ≡ replicate 32 0 → (i : ℕ) → get_or l i 0 ≡ 0
  zero_of l e i = ap (λ (z : List ℕ). get_or z i 0) e ∙ zeros 32 i

  state : state_in d ≡ initial S
  state = λ k.
      record {
        busy = λ i. ap (λ z. eqb z 1) (zero_of d.unfinished rest.unfinished i) k;
        since = λ i. (ap (λ (l : List ℕ). get_or l i 0) rest.since ∙ ap (λ (h : Held). h.table.T i) held) k;
        left = λ i. zero_of d.left rest.left i k;
        phase = λ i. zero_of d.phase rest.phase i k;
        piece = λ i. zero_of d.piece rest.piece i k;
        run = rest.running k;
        ticks = rest.ticks k;
      }

  pub ready_is : d ≡ ready_record S x
  ready_is =
      sym (record_of_views d long (λ i. omega (arith, zero_of d.unfinished rest.unfinished i))) ∙
      (λ k. record_of (held k) (state k))
